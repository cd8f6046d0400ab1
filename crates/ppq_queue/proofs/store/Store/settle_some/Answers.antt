use Rattle.std.proofs.Common.{◌<◌, refl, arith}
use Rattle.std.proofs.lemmas.Grind.{common_steps}
use Rattle.ppq_queue.specs.Resting.{count_of}
use Rattle.ppq_queue.proofs.Amounts.{count_some}
use Rattle.ppq_queue.proofs.Stores.{levels-same}
use Rattle.ppq_queue.proofs.store.Store.settle_some.Goals as goal

pub returns-then-not-has_run : goal.returns-then-not-has_run
returns-then-not-has_run g c =
    let x = c.args.self.now in
    let runs = x.body.runs in
    let rest = c.requires.works.runs.rest in
    record {
      settles = record {
        levels = levels-same c.requires.works;
        few = omega (arith, count_some g.S.Slot.shown g.R.Record.WIDTH x.supply.block runs.internal.items runs.external.items rest.internal rest.external, c.has_run.ensures.none c.if-not-has_run.true);
      };
      easy = λ none. (refl, refl);
    }

pub returns : goal.returns
returns g c =
    let some : 0 < count_of c.args.self.now.body = grind (arith, common_steps) in
    record { settles = c.settle.ensures; easy = λ none. absurd (omega (arith, some, none)) }

pub has_run-requires-after_bounds : goal.has_run-requires-after_bounds
has_run-requires-after_bounds g c = assumption

pub settle-requires-clause-works : goal.settle-requires-clause-works
settle-requires-clause-works g c = assumption
