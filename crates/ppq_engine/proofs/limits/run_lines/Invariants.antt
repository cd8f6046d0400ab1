use Rattle.std.proofs.Common.{◌≡◌, length}
use Rattle.ppq_script.specs.Words.{words}
use Rattle.ppq_script.specs.declared.session.Session.TheVariants.{InLimit}
use Rattle.ppq_script.specs.Parts.{AreLines, commands_of}
use Rattle.ppq_engine.proofs.Limited.{IsGoingOn}
use Rattle.ppq_engine.proofs.limits.run_lines.Given as goal

abbrev pub invariant-batches : goal.invariant-batches
invariant-batches g l = let w = words g.R.PartialEq g.R.PartialOrd g.R.Ord g.R.Record g.R.Fields in
    record {
      on : IsGoingOn w g.S.Slot.shown l.world.form (commands_of l.lines) (g.O.Sink.told l.fn.out) l.fn.gathered l.fn.session (commands_of l.rest) (g.O.Sink.told l.out) l.gathered l.session;
      lines : AreLines w l.session.front.sizes.workers (InLimit l.session.front.limit) (commands_of l.rest);
      stays : g.O.Sink.faults l.out ≡ g.O.Sink.faults l.fn.out;
    }

abbrev pub decreases-batches : goal.decreases-batches
decreases-batches g l = length l.rest
