use Rattle.std.proofs.Common.{◌≡◌, ◌++◌, List, None, length, map}
use Rattle.ppq_engine.specs.ppq_script.Words.{words}
use Rattle.ppq_engine.specs.ppq_script.declared.command.Command.TheVariants.{Push}
use Rattle.ppq_requests.specs.Requests.{records_in}
use Rattle.ppq_answer.specs.Serving.{Executes}
use Rattle.ppq_answer.proofs.answer.push_records.Given as goal

abbrev pub invariant-pushing : goal.invariant-pushing
invariant-pushing g l = let w = words g.R.PartialEq g.R.PartialOrd g.R.Ord g.R.Record g.R.Fields in
    record {
      done : List g.row.R.Denot;
      all : records_in w l.records ≡ done ++ records_in w l.piece;
      run : Executes w l.world.form (g.O.Sink.told l.fn.out) (g.O.Sink.told l.out) l.fn.machine.queue l.machine.queue l.fn.machine.desk.gathered l.machine.desk.gathered (map Push done);
      sound : l.machine.queue.failed ≡ None;
      stays : g.O.Sink.faults l.out ≡ g.O.Sink.faults l.fn.out;
    }

abbrev pub decreases-pushing : goal.decreases-pushing
decreases-pushing g l = let w = words g.R.PartialEq g.R.PartialOrd g.R.Ord g.R.Record g.R.Fields in length (records_in w l.piece)
