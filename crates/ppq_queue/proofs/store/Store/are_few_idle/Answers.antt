use Rattle.std.proofs.Common.{◌<◌, [], length, arith}
use Rattle.std.proofs.lemmas.Grind.{common_steps}
use Rattle.std.proofs.lemmas.Bool.Decides.{nat_tests}
use Rattle.std.proofs.lemmas.List.Elements.{All-nil}
use Rattle.ppq_queue.specs.Resting.{IsRestingArray}
use Rattle.ppq_queue.proofs.Amounts.{count_some, internal_count}
use Rattle.ppq_queue.proofs.store.Store.are_few_idle.Goals as goal

pub returns-clause-some : goal.returns-clause-some
returns-clause-some g c = λ is.
    let runs = c.args.self.now.body.runs in
    let shown = g.S.Slot.shown in
    let width = g.R.Record.WIDTH in
    let block = c.args.self.now.supply.block in
    let some : 0 < length runs.internal.items = grind (arith, nat_tests) in
    omega (arith, some, count_some shown width block runs.internal.items [] c.requires.works.runs.rest.internal (All-nil (IsRestingArray shown width block)), internal_count runs.internal.items)

pub returns-in_default : goal.returns-in_default
returns-in_default g c = record { some = grind arith; few = grind arith; enough = grind arith }

pub returns-then-is_empty : goal.returns-then-is_empty
returns-then-is_empty g c = record { some = grind arith; few = grind arith; enough = grind (arith, common_steps) }

pub returns-clause-few : goal.returns-clause-few
returns-clause-few g c = grind arith

pub returns-clause-enough : goal.returns-clause-enough
returns-clause-enough g c = grind arith
