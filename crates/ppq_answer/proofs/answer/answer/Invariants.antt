use Rattle.std.proofs.Common.{◌≡◌, ◌++◌, List, Some, None, length}
use Rattle.ppq_engine.specs.ppq_script.Words.{words}
use Rattle.ppq_engine.specs.ppq_script.declared.command.Command.{Command}
use Rattle.ppq_requests.specs.Requests.{request_of}
use Rattle.ppq_answer.specs.Serving.{Executes}
use Rattle.ppq_answer.proofs.answer.answer.Given as goal

abbrev pub invariant-operations : goal.invariant-operations
invariant-operations g l = let w = words g.R.PartialEq g.R.PartialOrd g.R.Ord g.R.Record g.R.Fields in
    record {
      done : List (Command g.row.R.Denot);
      left : List (Command g.row.R.Denot);
      whole : request_of w l.request ≡ Some (done ++ left);
      behind : request_of w l.rest ≡ Some left;
      run : Executes w l.world.form (g.O.Sink.told l.fn.out) (g.O.Sink.told l.out) l.fn.machine.queue l.machine.queue l.fn.machine.desk.gathered l.machine.desk.gathered done;
      sound : l.machine.queue.failed ≡ None;
      stays : g.O.Sink.faults l.out ≡ g.O.Sink.faults l.fn.out;
    }

abbrev pub decreases-operations : goal.decreases-operations
decreases-operations g l = length l.rest
