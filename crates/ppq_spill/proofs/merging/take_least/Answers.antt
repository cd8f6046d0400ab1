use Rattle.std.proofs.Common.{◌≡◌, ◌∷◌, ◌<◌, List, drop, length, Some, None, slice_set, refl, sym, ap, ◌∙◌, subst, arith, length-drop, length-set}
use Rattle.std.proofs.Math.Seq.{drop-drop}
use Rattle.ppq_fetch.specs.ppq_record.Bag.{first_of}
use Rattle.ppq_fetch.proofs.ppq_record.Fronts.{ranks}
use Rattle.ppq_fetch.specs.ppq_array.Run.{Run, items_of, buffers_of}
use Rattle.ppq_spill.specs.Choosing.{HasHeads}
use Rattle.ppq_spill.proofs.Choosing.{none_best, took_run, took_rest, sets_run, split_first}
use Rattle.ppq_spill.proofs.Heads.{winner_best, winner_run, winner_list, no_winner_best, heads-run, heads-rest, some_first}
use Rattle.ppq_spill.proofs.merging.take_least.Goals as goal

pub returns-in_default-clause-none : goal.returns-in_default-clause-none
returns-in_default-clause-none g c =
    let runs = c.args.internal.now.items in
    let rest = drop c.args.at.now c.args.sorted.now in (
      none_best g.R.Ord.cmp (ranks c.record_laws.ensures.order) runs rest (length runs) None (no_winner_best g.R.Ord.cmp runs rest c.args.tree.now.items c.requires.ready.heads (c.in_default.ensures.none.0 refl)) refl,
      refl {A = List (Run g.row.R.Denot)},
      refl,
    )

pub take_first-next-requires : goal.take_first-next-requires
take_first-next-requires g c =
    let runs = c.args.internal.now.items in
    let rest = drop c.args.at.now c.args.sorted.now in
    let won = c.in-Some.won in
    let d = c.index_mut.result.now in
    let here : won.0 < length runs = omega (arith, c.if-leaf-len.true, c.len.ensures) in
    some_first (items_of d) won.1 (ap (λ r. first_of (items_of r)) c.index_mut.ensures.value ∙ winner_run g.R.Ord.cmp runs rest c.args.tree.now.items won.0 won.1 d c.requires.ready.heads c.in-Some.ensures.some here)

pub returns-then-leaf-len-clause-ready : goal.returns-then-leaf-len-clause-ready
returns-then-leaf-len-clause-ready g c =
    let runs = c.args.internal.now.items in
    let rest = drop c.args.at.now c.args.sorted.now in
    let won = c.in-Some.won in
    let here : won.0 < length runs = omega (arith, c.if-leaf-len.true, c.len.ensures) in
    record {
      within = c.requires.ready.within;
      leaves = omega (arith, c.requires.ready.leaves, length-set runs won.0 c.take_first-next.new.run, ap length c.put.ensures.items, length-set c.args.tree.now.items won.0 c.take_first-next.result);
      heads = subst (HasHeads (slice_set runs won.0 c.take_first-next.new.run) rest) (sym c.put.ensures.items)
          (heads-run runs rest c.args.tree.now.items won.0 c.take_first-next.new.run c.take_first-next.result c.requires.ready.heads here c.in-Some.ensures.leaf c.take_first-next.ensures.next);
    }

pub returns-then-leaf-len-clause-taken : goal.returns-then-leaf-len-clause-taken
returns-then-leaf-len-clause-taken g c =
    let o = ranks c.record_laws.ensures.order in
    let runs = c.args.internal.now.items in
    let rest = drop c.args.at.now c.args.sorted.now in
    let won = c.in-Some.won in
    let d = c.index_mut.result.now in
    let run = c.take_first-next.new.run in
    let v = c.index_mut.ensures.value in
    let here : won.0 < length runs = omega (arith, c.if-leaf-len.true, c.len.ensures) in
    let least = c.in-Some.ensures.some in
    took_run g.R.Ord.cmp o runs rest won.0 (Some won.1) won.1 (slice_set runs won.0 run) (winner_best g.R.Ord.cmp runs rest c.args.tree.now.items won.0 won.1 c.requires.ready.heads least) refl
    (sets_run g.R.Ord.cmp o runs won.0 d run won.1 here (winner_run g.R.Ord.cmp runs rest c.args.tree.now.items won.0 won.1 d c.requires.ready.heads least here)
    (c.take_first-next.ensures.items ∙ ap (λ x. drop 1 (items_of x)) v) (c.take_first-next.ensures.buffers ∙ ap (λ (x : Run g.row.R.Denot). buffers_of x) v))

-- the winner is the first of the list, so there is one
pub step_on-requires : goal.step_on-requires
step_on-requires g c =
    let runs = c.args.internal.now.items in
    let sorted = c.args.sorted.now in
    let won = c.in-Some.won in
    let list = winner_list g.R.Ord.cmp runs (drop c.args.at.now sorted) c.args.tree.now.items won.0 won.1 c.requires.ready.heads c.in-Some.ensures.some (omega (arith, c.if-leaf-len.false, c.len.ensures)) in
    let some : 0 < length (drop c.args.at.now sorted) = some_first (drop c.args.at.now sorted) won.1 (sym list.1) in
    omega (arith, some, length-drop c.args.at.now sorted)

pub returns-clause-ready : goal.returns-clause-ready
returns-clause-ready g c =
    let runs = c.args.internal.now.items in
    let sorted = c.args.sorted.now in
    let won = c.in-Some.won in
    let rest' = drop c.step_on.new.at sorted in
    let list = winner_list g.R.Ord.cmp runs (drop c.args.at.now sorted) c.args.tree.now.items won.0 won.1 c.requires.ready.heads c.in-Some.ensures.some (omega (arith, c.if-leaf-len.false, c.len.ensures)) in
    let some : 0 < length (drop c.args.at.now sorted) = some_first (drop c.args.at.now sorted) won.1 (sym list.1) in
    record {
      within = omega (arith, some, length-drop c.args.at.now sorted, c.step_on.ensures);
      leaves = omega (arith, c.requires.ready.leaves, ap length c.put-2.ensures.items, length-set c.args.tree.now.items won.0 c.head_of.result);
      heads = subst (HasHeads runs rest') (sym c.put-2.ensures.items)
          (heads-rest runs (drop c.args.at.now sorted) rest' c.args.tree.now.items won.0 c.head_of.result c.requires.ready.heads list.0 c.in-Some.ensures.leaf c.head_of.ensures);
    }

pub returns-clause-taken : goal.returns-clause-taken
returns-clause-taken g c =
    let o = ranks c.record_laws.ensures.order in
    let runs = c.args.internal.now.items in
    let at = c.args.at.now in
    let sorted = c.args.sorted.now in
    let rest = drop at sorted in
    let won = c.in-Some.won in
    let least = c.in-Some.ensures.some in
    let list = winner_list g.R.Ord.cmp runs rest c.args.tree.now.items won.0 won.1 c.requires.ready.heads least (omega (arith, c.if-leaf-len.false, c.len.ensures)) in
    let next = c.step_on.new.at in
    let split : rest ≡ won.1 ∷ drop next sorted = split_first g.R.Ord.cmp o rest won.1 (sym list.1) ∙ ap (λ ys. won.1 ∷ ys) (drop-drop 1 at sorted) ∙ ap (λ n. won.1 ∷ drop n sorted) (sym c.step_on.ensures) in
    took_rest g.R.Ord.cmp o runs rest (drop next sorted) won.0 (Some won.1) won.1 (winner_best g.R.Ord.cmp runs rest c.args.tree.now.items won.0 won.1 c.requires.ready.heads least) refl split
