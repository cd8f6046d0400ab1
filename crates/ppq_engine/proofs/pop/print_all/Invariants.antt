use Rattle.std.proofs.Common.{◌≡◌, take}
use Rattle.ppq_script.specs.Words.{words}
use Rattle.ppq_engine.specs.Output.{records_text}
use Rattle.ppq_engine.specs.Gathers.{Gathers}
use Rattle.ppq_engine.proofs.pop.print_all.Given as goal

abbrev pub invariant-loop-i : goal.invariant-loop-i
invariant-loop-i g l = let w = words g.R.PartialEq g.R.PartialOrd g.R.Ord g.R.Record g.R.Fields in
    record {
      text : Gathers (g.O.Sink.told l.fn.out) (g.O.Sink.told l.out) l.fn.gathered (records_text w l.form (take l.i l.items)) l.gathered;
      stays : g.O.Sink.faults l.out ≡ g.O.Sink.faults l.fn.out;
    }
