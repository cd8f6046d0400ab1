use Rattle.std.proofs.Common.{◌≡◌, ◌++◌, ◌+◌, ℕ, List, [], Option, None, length}
use Rattle.ppq_frames.specs.Frames.{Came}
use Rattle.ppq_engine.specs.ppq_script.Words.{words}
use Rattle.ppq_requests.specs.Requests.{AreAsked}
use Rattle.ppq_answer.specs.Serving.{Executes}
use Rattle.ppq_answer.specs.Talking.{talk_of}
use Rattle.ppq_answer.proofs.talk.talk.Given as goal

abbrev pub invariant-requests : goal.invariant-requests
invariant-requests g l = let w = words g.R.PartialEq g.R.PartialOrd g.R.Ord g.R.Record g.R.Fields in
    record {
      requests : List (List ℕ);
      counted : l.number ≡ length requests + 2;
      came :
          (told : Option (List ℕ)) (taken : List (List ℕ)) → Came told (g.I.Source.told l.fn.source) (g.I.Source.gave l.fn.source) taken l.fn.incoming
          → Came told (g.I.Source.told l.source) (g.I.Source.gave l.source) (taken ++ requests) l.incoming;
      are : AreAsked w requests;
      run : Executes w l.world.form (g.O.Sink.told l.fn.out) (g.O.Sink.told l.out) l.fn.machine.queue l.machine.queue l.fn.machine.desk.gathered l.machine.desk.gathered (talk_of w requests);
      put : l.machine.desk.gathered ≡ [];
      sound : l.machine.queue.failed ≡ None;
      stays : g.O.Sink.faults l.out ≡ g.O.Sink.faults l.fn.out;
      unfailed : g.I.Source.faults l.source ≡ g.I.Source.faults l.fn.source;
    }
