use Rattle.std.proofs.Common.{◌≡◌, ◌+◌, ◌<◌, length, arith}
use Rattle.std.proofs.lemmas.Bool.Decides.{nat_tests}
use Rattle.ppq_queue.proofs.Amounts.{none_count, count_some}
use Rattle.ppq_queue.proofs.store.Store.has_run.Goals as goal

pub returns-clause-none : goal.returns-clause-none
returns-clause-none g c e =
    let runs = c.args.self.now.body.runs in
    let zero : length runs.internal.items + length runs.external.items ≡ 0 = grind (arith, nat_tests) in
    none_count g.S.Slot.shown g.R.Record.WIDTH c.args.self.now.supply.block runs.internal.items runs.external.items zero

pub returns-clause-some : goal.returns-clause-some
returns-clause-some g c e =
    let runs = c.args.self.now.body.runs in
    let some : 0 < length runs.internal.items + length runs.external.items = grind (arith, nat_tests) in
    omega (arith, some, count_some g.S.Slot.shown g.R.Record.WIDTH c.args.self.now.supply.block runs.internal.items runs.external.items c.requires.runs.rest.internal c.requires.runs.rest.external)
