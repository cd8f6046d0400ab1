use Rattle.std.proofs.Common.{◌≡◌, ◌∷◌, ◌++◌, [], length, drop, refl, sym, ap, ◌∙◌, subst, arith, length-append}
use Rattle.ppq_fetch.proofs.ppq_record.Fronts.{ranks}
use Rattle.ppq_fetch.specs.ppq_block.Block.{holding}
use Rattle.ppq_spill.specs.Writing.{MergedOut}
use Rattle.ppq_spill.proofs.Mergings.{MergedOut-more, MergedOut-all}
use Rattle.ppq_spill.proofs.merging.merge_least.Goals as goal

pub returns-in_default-clause-merged : goal.returns-in_default-clause-merged
returns-in_default-clause-merged g c =
    let l = c.loop-tree in
    let i = l.invariant in
    let sorted = c.args.sorted.now in
    let same = c.in_default.ensures.none in
    let block = c.args.buf.now.block in
    let all = MergedOut-all g.R.Ord.cmp (length l.buf.items) block c.args.internal.now.items l.internal.items (drop c.args.at.now sorted) (drop l.at sorted) l.buf.items i.merged same.0 i.fits in
    subst (λ runs. MergedOut g.R.Ord.cmp block c.args.internal.now.items runs (drop c.args.at.now sorted) (drop c.take_least.new.at sorted) l.buf.items) (sym same.1)
    (subst (λ n. MergedOut g.R.Ord.cmp block c.args.internal.now.items l.internal.items (drop c.args.at.now sorted) (drop n sorted) l.buf.items) (sym same.2) all)

pub loop-tree-preserved : goal.loop-tree-preserved
loop-tree-preserved g c =
    let l = c.loop-tree in
    let i = l.invariant in
    let sorted = c.args.sorted.now in
    let r = c.in-Some.least in
    let block = c.args.buf.now.block in
    let b : l.buf.block ≡ block = ap (λ b. b.block) i.buf in
    let put : c.push.new.self ≡ holding block (l.buf.items ++ r ∷ []) = c.push.ensures ∙ ap (λ n. holding n (l.buf.items ++ r ∷ [])) b in
    let items : c.push.new.self.items ≡ l.buf.items ++ r ∷ [] = ap (λ b. b.items) put in
    let more = MergedOut-more g.R.Ord.cmp (ranks c.record_laws.ensures.order) (length l.buf.items) (length (l.buf.items ++ r ∷ [])) c.args.internal.now.items l.internal.items c.take_least.new.internal.items (drop c.args.at.now sorted) (drop l.at sorted) (drop c.take_least.new.at sorted) l.buf.items r i.merged c.in-Some.ensures.taken refl in
    record {
      ready = c.take_least.ensures.ready;
      leaves = c.take_least.ensures.leaves ∙ i.leaves;
      capacity = c.take_least.ensures.room ∙ i.capacity;
      fits = omega (arith, c.loop-tree-test.true, c.len.ensures.len, c.block.ensures, b, ap length items, length-append l.buf.items (r ∷ []));
      buf = put ∙ ap (λ xs. holding block xs) (sym items);
      merged = subst (λ xs. MergedOut g.R.Ord.cmp (length xs) c.args.internal.now.items c.take_least.new.internal.items (drop c.args.at.now sorted) (drop c.take_least.new.at sorted) xs) (sym items) more;
    }
