use Rattle.std.proofs.Common.{◌≡◌, ◌-◌, ℕ, List, Option, length}
use Rattle.ppq_frames.specs.Frames.{Came}
use Rattle.ppq_answer.proofs.waiting.wait.Given as goal

abbrev pub invariant-waiting : goal.invariant-waiting
invariant-waiting g l = record {
  came :
      (told : Option (List ℕ)) (requests : List (List ℕ)) → Came told (g.I.Source.told l.fn.source) (g.I.Source.gave l.fn.source) requests l.fn.incoming
      → Came told (g.I.Source.told l.source) (g.I.Source.gave l.source) requests l.incoming;
  stays : g.I.Source.faults l.source ≡ g.I.Source.faults l.fn.source;
}

abbrev pub decreases-waiting : goal.decreases-waiting
decreases-waiting g l = 4194308 - length l.incoming
