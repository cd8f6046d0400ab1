use Rattle.std.proofs.Common.{◌≡◌, ◌≤◌, ◌+◌, ◌*◌, ◌∙◌, ◌++◌, ℕ, All, length, ap, sym, subst, arith, min, max, append-nil}
use Rattle.std.proofs.lemmas.Nat.{mul-le}
use Rattle.ppq_pass.specs.ppq_heap.Heap.{Contents}
use Rattle.ppq_pass.specs.ppq_heap.Heaps.{items_in}
use Rattle.ppq_pass.specs.ppq_budget.Sizes.{Numbers, AreInRange, heap_of}
use Rattle.ppq_queue.specs.Handed.{IsWhole}
use Rattle.ppq_queue.specs.Resting.{runs_bag}
use Rattle.ppq_session.proofs.Rejoined.{cap_first, parts_of, count_all, whole-rejoined}
use Rattle.ppq_session.proofs.rejoining.rejoin.Goals as goal

pub from_parts-heaps-requires-clause-some : goal.from_parts-heaps-requires-clause-some
from_parts-heaps-requires-clause-some g c = omega (arith, c.requires.2.always.heaps, c.requires.2.always.range.some_worker)

pub from_parts-heaps-requires-clause-caps : goal.from_parts-heaps-requires-clause-caps
from_parts-heaps-requires-clause-caps g c =
    let heaps = c.args.c.heaps.items in
    let a = c.requires.2.always in
    let first = cap_first heaps (heap_of c.args.c.sizes) (omega (arith, a.heaps, a.range.some_worker)) a.caps in
    subst (λ k. All (λ (h : Contents _). h.cap ≡ k) heaps) (sym first) a.caps

pub from_parts-heaps-requires-clause-leaves : goal.from_parts-heaps-requires-clause-leaves
from_parts-heaps-requires-clause-leaves g c = omega (arith, c.requires.2.always.leaves, c.requires.2.always.heaps)

-- the load is no more than there can be, if it saturates at all
load_is : (n : Numbers) → AreInRange n → (sum load most : ℕ) → most ≡ n.memory + n.block * n.blocks → (k : ℕ) → k ≡ min sum 18446744073709551615 → load ≡ min k most → load ≡ min sum (n.memory + n.block * n.blocks)
load_is n range sum load most e k h l =
    let product : n.block * n.blocks ≤ 65536 * 65536 = mul-le n.block n.blocks 65536 65536 range.block range.blocks in
    omega (arith, e, h, l, product, range.memory)

pub from_parts-requires-after_bounds : goal.from_parts-requires-after_bounds
from_parts-requires-after_bounds g c κs within =
    let shown = g.S.Slot.shown in
    let a = c.requires.2.always in
    let q = c.args.c in
    let first = cap_first q.heaps.items (heap_of q.sizes) (omega (arith, a.heaps, a.range.some_worker)) a.caps in
    let heaps = c.from_parts-heaps.result in
    let count = c.min-count.result in
    let load = c.min-load.result in
    let least = c.min-count.ensures ∙ ap (λ k. min q.count k) c.most_records-most.ensures in
    let all = load_is q.sizes a.range (q.count + c.args.popped) load c.most_records-most.result c.most_records-most.ensures c.saturating_add.result (omega (arith, c.saturating_add.ensures)) c.min-load.ensures in
    let whole = whole-rejoined shown g.R.Ord.cmp g.R.Record.record_of g.R.Record.WIDTH c.requires.0 c.requires.1 q c.requires.2 heaps c.from_parts-heaps.ensures.heaps (c.from_parts-heaps.ensures.cap ∙ first) c.known.ensures c.args.first c.requires.3 count load c.args.popped least all in
    let raised = subst (λ k. IsWhole shown g.R.Ord.cmp g.R.Record.record_of g.R.Record.WIDTH (record (parts_of q heaps count load c.args.first) { peak = k })) (sym c.max.ensures) whole in
    subst (λ k. IsWhole shown g.R.Ord.cmp g.R.Record.record_of g.R.Record.WIDTH (record (parts_of q heaps count load c.args.first) { peak = c.max.result; failed = k })) (sym c.or.ensures) raised

pub returns : goal.returns
returns g c =
    let q = c.args.c in
    let a = c.requires.2.always in
    let shows = c.from_parts.ensures in
    let first = cap_first q.heaps.items (heap_of q.sizes) (omega (arith, a.heaps, a.range.some_worker)) a.caps in
    let least = c.min-count.ensures ∙ ap (λ k. min q.count k) c.most_records-most.ensures in
    let all = load_is q.sizes a.range (q.count + c.args.popped) c.min-load.result c.most_records-most.result c.most_records-most.ensures c.saturating_add.result (omega (arith, c.saturating_add.ensures)) c.min-load.ensures in
    let heaps = c.from_parts-heaps in
    record {
      bag = ap (λ r. r.bag) shows ∙ ap (λ l. items_in l ++ q.extract.items ++ runs_bag g.S.Slot.shown g.R.Record.record_of g.R.Record.WIDTH q.body) heaps.ensures.heaps ∙ sym (append-nil _);
      slots = ap (λ r. r.slots) shows;
      failed = ap (λ r. r.failed) shows ∙ c.or.ensures;
      size = λ none. ap (λ r. r.size) shows ∙ count_all g.S.Slot.shown g.R.Ord.cmp g.R.Record.record_of g.R.Record.WIDTH c.requires.0 c.requires.1 q c.requires.2 heaps.result heaps.ensures.heaps (heaps.ensures.cap ∙ first) c.known.ensures c.args.first c.requires.3 c.min-count.result c.min-load.result c.args.popped least all none;
      counts = ap (λ r. r.size) shows ∙ least;
      peak = ap (λ r. r.peak) shows ∙ c.max.ensures ∙ ap (λ k. max q.peak k) all;
      sizes = ap (λ r. r.sizes) shows;
      limited = ap (λ r. r.limited) shows;
      tally = ap (λ r. r.counts) shows;
      heaps = ap (λ r. r.in_heap) shows ∙ ap (λ l. length (items_in l)) heaps.ensures.heaps;
    }
