use Rattle.std.proofs.Common.{◌≡◌, ◌∷◌, All, length, drop, refl, sym, ap, ◌∙◌, subst, arith}
use Rattle.std.proofs.lemmas.List.Elements.{All-head, All-tail}
use Rattle.ppq_fetch.specs.ppq_array.Owner.{HasBlock}
use Rattle.ppq_fetch.specs.ppq_block.Block.{holding}
use Rattle.ppq_spill.specs.Writing.{MergedOut}
use Rattle.ppq_spill.specs.Grouping.{MergedInto}
use Rattle.ppq_spill.proofs.Jobs.{long_on}
use Rattle.ppq_spill.proofs.Filled.{MergedInto-snoc}
use Rattle.ppq_spill.proofs.groups.fill_group.Goals as goal

pub filling-init : goal.filling-init
filling-init g c =
    let none = c.empty-filled.ensures in
    let runs = c.args.body.now.runs.internal.items in
    let rest = drop c.args.at.now c.args.sorted.now in
    record {
      is = record {
        count_is = refl;
        left = omega (arith, ap length none);
        ready = c.requires.may.ready;
        leaves = refl;
        room = refl;
        beside = record { external = refl; jobs = refl; batch = refl };
        blocks = λ block all. all;
        merged = λ block all. subst (λ bs. MergedInto g.R.Ord.cmp block bs runs rest runs rest) (sym none) (refl, refl);
      };
      within = omega (arith, ap length none);
    }

pub filling-preserved : goal.filling-preserved
filling-preserved g c =
    let l = c.filling in
    let i = l.invariant in
    let cmp = g.R.Ord.cmp in
    let sorted = c.args.sorted.now in
    let runs = c.args.body.now.runs.internal.items in
    let idle = c.pop_front.new.self in
    let taken = c.unwrap-buf.result in
    let e : l.body.lanes.idle ≡ taken ∷ idle = rw c.unwrap-buf.ensures at c.pop_front.ensures.first in
    let merge = c.merge_least in
    let buf = merge.new.buf in
    let long = long_on l.filled buf c.push_back.ensures in
    record {
      is = record {
        count_is = refl;
        left = omega (arith, i.is.left, ap length e, long);
        ready = merge.ensures.ready;
        leaves = merge.ensures.leaves ∙ i.is.leaves;
        room = merge.ensures.room ∙ i.is.room;
        beside = record { external = i.is.beside.external; jobs = i.is.beside.jobs; batch = i.is.beside.batch };
        blocks = λ block all. All-tail (HasBlock block) taken idle (subst (All (HasBlock block)) e (i.is.blocks block all));
        merged = λ block all.
            let cleared : c.clear.new.self.block ≡ block = ap (λ b. b.block) c.clear.ensures ∙ All-head (HasBlock block) taken idle (subst (All (HasBlock block)) e (i.is.blocks block all)) in
            let held : buf ≡ holding block buf.items = merge.ensures.buf ∙ ap (λ n. holding n buf.items) cleared in
            let merged = subst (λ n. MergedOut cmp n l.body.runs.internal.items merge.new.internal.items (drop l.at sorted) (drop merge.new.at sorted) buf.items) cleared merge.ensures.merged in
            subst (λ bs. MergedInto cmp block bs runs (drop c.args.at.now sorted) merge.new.internal.items (drop merge.new.at sorted)) (sym c.push_back.ensures)
            (MergedInto-snoc cmp block l.filled buf runs (drop c.args.at.now sorted) l.body.runs.internal.items (drop l.at sorted) merge.new.internal.items (drop merge.new.at sorted) (i.is.merged block all) held merged);
      };
      within = omega (arith, i.within, long, c.filling-test.true, c.len.ensures);
    }
