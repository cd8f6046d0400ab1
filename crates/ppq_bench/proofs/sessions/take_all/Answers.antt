-- The lines that the batch before made may be pushed: the session still has the same workers and the same limit.
use Rattle.std.proofs.Common.{◌≡◌, ◌<◌, List, All, false, sym, subst}
use Rattle.ppq_session.specs.ppq_pass.ppq_record.Order.{is_before}
use Rattle.ppq_session.specs.ppq_pass.ppq_record.Pair.{pair_cmp}
use Rattle.ppq_bench.proofs.sessions.take_all.Goals as goal

-- what holds of all items for a value holds of those of an equal list for an equal value
same_for_all :
    {X Y : Type 0} (a b : Y) (xs ys : List X) (P : Y → X → Type 0) → a ≡ b → xs ≡ ys → All (P b) ys → All (P a) xs
same_for_all a b xs ys P same same_items all = subst (λ y. All (P y) xs) (sym same) (subst (λ items. All (P b) items) (sym same_items) all)

pub run_batch-requires-clause-named : goal.run_batch-requires-clause-named
run_batch-requires-clause-named g c κs within =
    let i = c.batches.invariant in
    same_for_all c.batches.session.front.sizes.workers c.args.workers c.as_slice.result.now c.batches.lines.items (λ workers line. line.pass < workers) i.workers c.as_slice.ensures.value i.named

pub run_batch-requires-clause-above : goal.run_batch-requires-clause-above
run_batch-requires-clause-above g c κs within =
    let i = c.batches.invariant in
    same_for_all c.batches.session.front.limit c.args.limit c.as_slice.result.now c.batches.lines.items (λ limit line. is_before pair_cmp line.record limit ≡ false) i.limit c.as_slice.ensures.value i.above
