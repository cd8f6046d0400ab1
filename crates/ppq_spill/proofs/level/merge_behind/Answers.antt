use Rattle.std.proofs.Common.{◌≡◌, ℕ, ◌-◌, ◌≤◌, List, ◌++◌, ◌∷◌, [], zero, suc, length, take, drop, refl, sym, ap, ◌∙◌, subst, arith, append-nil}
use Rattle.std.proofs.Math.Seq.{drop-length}
use Rattle.std.proofs.lemmas.List.{take_rest}
use borrow.Rule.Slice.PartMut.{put_mid, post_of, Post-is, take_put}
use Rattle.ppq_spill.specs.Making.{table_of, last_eight, MayMerge, MergeEnds}
use Rattle.ppq_spill.proofs.level.merge_behind.Goals as goal

-- what stands behind the first so many
drop_front : {X : Type 0} (a : ℕ) (xs zs : List X) → a ≤ length xs → drop a (take a xs ++ zs) ≡ zs
drop_front zero xs zs h = refl
drop_front (suc a) [] zs h = absurd (omega arith)
drop_front (suc a) (x ∷ xs) zs h = drop_front a xs zs (omega arith)

-- the last 8, and what is written in their place
cut : {X : Type 0} (xs : List X) → take (length xs - (length xs - 8)) (drop (length xs - 8) xs) ≡ drop (length xs - 8) xs
cut xs = take_rest xs (length xs - 8)

written : {X : Type 0} (xs ys : List X) → drop (length xs - 8) (put_mid (length xs - 8) (length xs - (length xs - 8)) xs ys) ≡ ys
written xs ys =
    let a = length xs - 8 in
    let within : a ≤ length xs = omega arith in
    let post : post_of a (length xs - a) xs ≡ [] = Post-is a (length xs) xs within ∙ drop-length xs in
    drop_front a xs (ys ++ post_of a (length xs - a) xs) within ∙ ap (λ zs. ys ++ zs) post ∙ append-nil ys

pub merge_arrays-requires-clause-may : goal.merge_arrays-requires-clause-may
merge_arrays-requires-clause-may g c κs within =
    subst (λ i. MayMerge g.S.Slot.shown g.R.Record.WIDTH c.args.bench.now.workers (length c.args.bench.now.places) (length c.args.lanes.now.batch.items) (table_of i c.args.lanes.now c.args.making.now (g.P.Supply.stock c.args.supply.now))) (sym (cut c.args.arrays.now)) c.requires.may

pub returns-clause-others : goal.returns-clause-others
returns-clause-others g c =
    let xs = c.args.arrays.now in
    take_put (length xs - 8) (length xs - (length xs - 8)) xs c.merge_arrays.new.inputs (let e : length xs - 8 ≤ length xs = omega arith in e)

pub returns-clause-outcome : goal.returns-clause-outcome
returns-clause-outcome g c =
    let xs = c.args.arrays.now in
    let ys = c.merge_arrays.new.inputs in
    let stock = g.P.Supply.stock c.args.supply.now in
    let stock' = g.P.Supply.stock c.merge_arrays.new.supply in
    let lanes' = c.merge_arrays.new.lanes in
    let making' = c.merge_arrays.new.making in
    let old = table_of (last_eight xs) c.args.lanes.now c.args.making.now stock in
    let new = table_of ys lanes' making' stock' in
    subst (λ i. MergeEnds g.R.Ord.cmp g.R.Record.record_of g.R.Record.WIDTH c.args.bench.now.workers g.S.Slot.shown old (table_of i lanes' making' stock') c.merge_arrays.result) (sym (written xs ys))
    (subst (λ i. MergeEnds g.R.Ord.cmp g.R.Record.record_of g.R.Record.WIDTH c.args.bench.now.workers g.S.Slot.shown (table_of i c.args.lanes.now c.args.making.now stock) new c.merge_arrays.result) (cut xs) c.merge_arrays.ensures.outcome)
