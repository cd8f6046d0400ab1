use Rattle.std.proofs.Common.{◌≡◌, List, ◌++◌, length, take, drop, sym, ap, ◌∙◌, subst, arith, length-append}
use Rattle.std.proofs.Math.Seq.{take-append_seam, drop-append_seam}
use Rattle.ppq_spill.specs.Making.{table_of, MayMerge, MergeEnds}
use Rattle.ppq_spill.proofs.pair.merge_halves.Goals as goal

pub merge_both-requires-clause-one : goal.merge_both-requires-clause-one
merge_both-requires-clause-one g c κs within =
    subst (λ i. MayMerge g.S.Slot.shown g.R.Record.WIDTH c.args.bench.now.workers (length c.args.bench.now.places) (length c.args.lanes.now.batch.items) (table_of i c.args.lanes.now c.args.first.now (g.P.Supply.stock c.args.supply.now))) (sym c.split_at_mut-low.ensures.back) c.requires.one

pub merge_both-requires-clause-two : goal.merge_both-requires-clause-two
merge_both-requires-clause-two g c κs within =
    subst (λ i. MayMerge g.S.Slot.shown g.R.Record.WIDTH c.args.other.now.workers (length c.args.other.now.places) (length c.args.lent.now.batch.items) (table_of i c.args.lent.now c.args.second.now c.args.aside.now)) (sym c.split_at_mut-low.ensures.front) c.requires.two

-- the first 8 as they were left
front_long : {X : Type 0} (xs ys : List X) → length xs ≡ 8 → (take 8 (xs ++ ys) ≡ xs) × (drop 8 (xs ++ ys) ≡ ys)
front_long xs ys long = (ap (λ n. take n (xs ++ ys)) (sym long) ∙ take-append_seam xs ys, ap (λ n. drop n (xs ++ ys)) (sym long) ∙ drop-append_seam xs ys)

pub returns-clause-long : goal.returns-clause-long
returns-clause-long g c = omega (arith, length-append c.merge_both.new.beside c.merge_both.new.inputs, c.merge_both.auto.beside, c.merge_both.auto.inputs, c.split_at_mut-low.ensures.front_len, c.split_at_mut-low.ensures.back_len, c.requires.sixteen)

pub returns-clause-one : goal.returns-clause-one
returns-clause-one g c =
    let m = c.merge_both in
    let cut = front_long m.new.beside m.new.inputs (m.auto.beside ∙ c.split_at_mut-low.ensures.front_len) in
    subst (λ i. MergeEnds g.R.Ord.cmp g.R.Record.record_of g.R.Record.WIDTH c.args.bench.now.workers g.S.Slot.shown (table_of (drop 8 c.args.sixteen.now) c.args.lanes.now c.args.first.now (g.P.Supply.stock c.args.supply.now)) (table_of i m.new.lanes m.new.first (g.P.Supply.stock m.new.supply)) m.result.0) (sym cut.1)
    (subst (λ i. MergeEnds g.R.Ord.cmp g.R.Record.record_of g.R.Record.WIDTH c.args.bench.now.workers g.S.Slot.shown (table_of i c.args.lanes.now c.args.first.now (g.P.Supply.stock c.args.supply.now)) (table_of m.new.inputs m.new.lanes m.new.first (g.P.Supply.stock m.new.supply)) m.result.0) c.split_at_mut-low.ensures.back m.ensures.one)

pub returns-clause-two : goal.returns-clause-two
returns-clause-two g c =
    let m = c.merge_both in
    let cut = front_long m.new.beside m.new.inputs (m.auto.beside ∙ c.split_at_mut-low.ensures.front_len) in
    subst (λ i. MergeEnds g.R.Ord.cmp g.R.Record.record_of g.R.Record.WIDTH c.args.other.now.workers g.S.Slot.shown (table_of (take 8 c.args.sixteen.now) c.args.lent.now c.args.second.now c.args.aside.now) (table_of i m.new.lent m.new.second m.new.aside) m.result.1) (sym cut.0)
    (subst (λ i. MergeEnds g.R.Ord.cmp g.R.Record.record_of g.R.Record.WIDTH c.args.other.now.workers g.S.Slot.shown (table_of i c.args.lent.now c.args.second.now c.args.aside.now) (table_of m.new.beside m.new.lent m.new.second m.new.aside) m.result.1) c.split_at_mut-low.ensures.front m.ensures.two)
