use Rattle.std.proofs.Common.{IsNone, refl, sym, subst}
use Rattle.ppq_fetch.proofs.Hints.{hints_none, hints_least}
use Rattle.ppq_fetch.proofs.turn.next_block.Goals as goal

pub returns-in-None : goal.returns-in-None
returns-in-None g c = hints_none g.R.Record.record_of g.R.Record.WIDTH g.S.Slot.shown g.R.Ord.cmp c.args._external.now c.args.bench.now.hints c.requires (c.least_hint.ensures.none.0 (subst IsNone (sym c.in-None.is) refl))

pub returns-in-Some : goal.returns-in-Some
returns-in-Some g c = hints_least g.R.Record.record_of g.R.Record.WIDTH g.S.Slot.shown g.R.Ord.cmp c.args._external.now c.args.bench.now.hints c.in-Some.least.0 c.in-Some.least.1 c.requires c.in-Some.ensures.some
