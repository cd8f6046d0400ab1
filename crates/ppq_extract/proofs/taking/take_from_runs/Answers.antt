use Rattle.std.proofs.Common.{take, length}
use Rattle.std.proofs.lemmas.Result.{IfOk-weaker}
use Rattle.ppq_extract.proofs.Refilling.{same_front}
use Rattle.ppq_extract.proofs.taking.take_from_runs.Goals as goal

pub returns-clause-front : goal.returns-clause-front
returns-clause-front g c =
    let a = c.args in
    IfOk-weaker c.take_least.result _ _ (λ n is. same_front g.R.Ord.cmp g.R.Record.record_of g.R.Record.WIDTH g.S.Slot.shown a.taking.now.below c.deref_mut.result.now a.runs.now.internal.items c.deref_mut-2.result.now a.runs.now.external.items a.idle.now (g.P.Supply.stock a.supply.now) (length a.records.now) (take n c.take_least.new.out) c.deref_mut.ensures.value c.deref_mut-2.ensures.value is) c.take_least.ensures.front
