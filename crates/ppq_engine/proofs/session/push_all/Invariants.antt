use Rattle.std.proofs.Common.{All, length}
use Rattle.ppq_script.specs.Words.{words}
use Rattle.ppq_script.specs.declared.session.Session.TheVariants.{InBulk}
use Rattle.ppq_script.specs.Parts.{AreLines, commands_of}
use Rattle.ppq_load.specs.ppq_session.Dealing.{IsGoing}
use Rattle.ppq_engine.specs.Pushes.{IsPushing}
use Rattle.ppq_engine.proofs.session.push_all.Given as goal

abbrev pub invariant-batches : goal.invariant-batches
invariant-batches g l = let w = words g.R.PartialEq g.R.PartialOrd g.R.Ord g.R.Record g.R.Fields in
    record {
      pushing : IsPushing g.S.Slot.shown (commands_of l.lines) (commands_of l.rest) l.fn.session l.session;
      lines : AreLines w l.session.bulk.sizes.workers InBulk (commands_of l.rest);
      going : All IsGoing l.session.passes;
    }

abbrev pub decreases-batches : goal.decreases-batches
decreases-batches g l = length l.rest
