use Rattle.std.proofs.Common.{◌≡◌, ℕ, ◌-◌, ◌≤◌, List, ◌++◌, ◌∷◌, [], zero, suc, length, take, drop, refl, sym, ap, ◌∙◌, subst, arith, append-nil, length-append}
use Rattle.std.proofs.Math.Seq.{drop-length}
use Rattle.std.proofs.lemmas.List.{take_rest, length-drop}
use borrow.Rule.Slice.PartMut.{put_mid, post_of, Post-is, take_put, same_len_mid}
use Rattle.ppq_spill.specs.Making.{table_of, MayMerge, MergeEnds}
use Rattle.ppq_spill.specs.Pairing.{last_part, part_before}
use Rattle.ppq_spill.proofs.pair.merge_sixteen.Goals as goal

-- what stands behind the first so many
drop_front : {X : Type 0} (a : ℕ) (xs zs : List X) → a ≤ length xs → drop a (take a xs ++ zs) ≡ zs
drop_front zero xs zs h = refl
drop_front (suc a) [] zs h = absurd (omega arith)
drop_front (suc a) (x ∷ xs) zs h = drop_front a xs zs (omega arith)

-- the last 16, and what is written in their place
cut : {X : Type 0} (xs : List X) → take (length xs - (length xs - 16)) (drop (length xs - 16) xs) ≡ drop (length xs - 16) xs
cut xs = take_rest xs (length xs - 16)

written : {X : Type 0} (xs ys : List X) → drop (length xs - 16) (put_mid (length xs - 16) (length xs - (length xs - 16)) xs ys) ≡ ys
written xs ys =
    let a = length xs - 16 in
    let within : a ≤ length xs = omega arith in
    let post : post_of a (length xs - a) xs ≡ [] = Post-is a (length xs) xs within ∙ drop-length xs in
    drop_front a xs (ys ++ post_of a (length xs - a) xs) within ∙ ap (λ zs. ys ++ zs) post ∙ append-nil ys

pub merge_halves-requires-clause-sixteen : goal.merge_halves-requires-clause-sixteen
merge_halves-requires-clause-sixteen g c κs within = ap length (cut c.args.arrays.now) ∙ (let e : length (drop (length c.args.arrays.now - 16) c.args.arrays.now) ≡ 16 = omega (arith, length-drop (length c.args.arrays.now - 16) c.args.arrays.now, c.requires.sixteen) in e)

pub merge_halves-requires-clause-one : goal.merge_halves-requires-clause-one
merge_halves-requires-clause-one g c κs within =
    subst (λ i. MayMerge g.S.Slot.shown g.R.Record.WIDTH c.args.bench.now.workers (length c.args.bench.now.places) (length c.args.lanes.now.batch.items) (table_of (drop 8 i) c.args.lanes.now c.args.first.now (g.P.Supply.stock c.args.supply.now))) (sym (cut c.args.arrays.now)) c.requires.one

pub merge_halves-requires-clause-two : goal.merge_halves-requires-clause-two
merge_halves-requires-clause-two g c κs within =
    subst (λ i. MayMerge g.S.Slot.shown g.R.Record.WIDTH c.args.other.now.workers (length c.args.other.now.places) (length c.args.lent.now.batch.items) (table_of (take 8 i) c.args.lent.now c.args.second.now c.args.aside.now)) (sym (cut c.args.arrays.now)) c.requires.two

-- the list as it was left, and the last 16 of it
left_long : {X : Type 0} (xs ys : List X) → length ys ≡ length (take (length xs - (length xs - 16)) (drop (length xs - 16) xs)) → length (put_mid (length xs - 16) (length xs - (length xs - 16)) xs ys) ≡ length xs
left_long xs ys e = same_len_mid (length xs - 16) (length xs - (length xs - 16)) xs ys e

left_part : {X : Type 0} (xs ys : List X) → length ys ≡ length (take (length xs - (length xs - 16)) (drop (length xs - 16) xs))
    → drop (length (put_mid (length xs - 16) (length xs - (length xs - 16)) xs ys) - 16) (put_mid (length xs - 16) (length xs - (length xs - 16)) xs ys) ≡ ys
left_part xs ys e = ap (λ n. drop (n - 16) (put_mid (length xs - 16) (length xs - (length xs - 16)) xs ys)) (left_long xs ys e) ∙ written xs ys

pub returns-clause-others : goal.returns-clause-others
returns-clause-others g c =
    let xs = c.args.arrays.now in
    let ys = c.merge_halves.new.sixteen in
    let zs = put_mid (length xs - 16) (length xs - (length xs - 16)) xs ys in
    ap (λ n. take (n - 16) zs) (left_long xs ys c.merge_halves.auto.sixteen) ∙ take_put (length xs - 16) (length xs - (length xs - 16)) xs ys (let e : length xs - 16 ≤ length xs = omega arith in e)

pub returns-clause-long : goal.returns-clause-long
returns-clause-long g c = left_long c.args.arrays.now c.merge_halves.new.sixteen c.merge_halves.auto.sixteen

pub returns-clause-one : goal.returns-clause-one
returns-clause-one g c =
    let m = c.merge_halves in
    let xs = c.args.arrays.now in
    subst (λ zs. MergeEnds g.R.Ord.cmp g.R.Record.record_of g.R.Record.WIDTH c.args.bench.now.workers g.S.Slot.shown (table_of (last_part xs) c.args.lanes.now c.args.first.now (g.P.Supply.stock c.args.supply.now)) (table_of (drop 8 zs) m.new.lanes m.new.first (g.P.Supply.stock m.new.supply)) m.result.0) (sym (left_part xs m.new.sixteen m.auto.sixteen))
    (subst (λ zs. MergeEnds g.R.Ord.cmp g.R.Record.record_of g.R.Record.WIDTH c.args.bench.now.workers g.S.Slot.shown (table_of (drop 8 zs) c.args.lanes.now c.args.first.now (g.P.Supply.stock c.args.supply.now)) (table_of (drop 8 m.new.sixteen) m.new.lanes m.new.first (g.P.Supply.stock m.new.supply)) m.result.0) (cut xs) m.ensures.one)

pub returns-clause-two : goal.returns-clause-two
returns-clause-two g c =
    let m = c.merge_halves in
    let xs = c.args.arrays.now in
    subst (λ zs. MergeEnds g.R.Ord.cmp g.R.Record.record_of g.R.Record.WIDTH c.args.other.now.workers g.S.Slot.shown (table_of (part_before xs) c.args.lent.now c.args.second.now c.args.aside.now) (table_of (take 8 zs) m.new.lent m.new.second m.new.aside) m.result.1) (sym (left_part xs m.new.sixteen m.auto.sixteen))
    (subst (λ zs. MergeEnds g.R.Ord.cmp g.R.Record.record_of g.R.Record.WIDTH c.args.other.now.workers g.S.Slot.shown (table_of (take 8 zs) c.args.lent.now c.args.second.now c.args.aside.now) (table_of (take 8 m.new.sixteen) m.new.lent m.new.second m.new.aside) m.result.1) (cut xs) m.ensures.two)
