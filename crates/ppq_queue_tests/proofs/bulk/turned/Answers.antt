use Rattle.std.proofs.Common.{◌≡◌, ℕ, None, ◌<◌, List, [], ◌∷◌, length, reverse, sum_by, All, refl, sym, ap, ◌∙◌, subst, arith, length-append, Ordering}
use Rattle.std.specs.List.Sorted.{IsPermutation}
use Rattle.std.proofs.lemmas.List.Elements.{All-head}
use Rattle.std.proofs.lemmas.List.Sums.{sum_by-cons}
use Rattle.std.proofs.lemmas.List.Sorted.{All-permutation, IsPermutation-reverse, length_permutation, sum_by-IsPermutation}
use Rattle.ppq_outside.specs.Shown.{Shown}
use Rattle.ppq_queue.specs.ppq_heap.Heap.{Contents}
use Rattle.ppq_queue.specs.ppq_heap.Heaps.{Shares, AreShares, cap_of, items_in, items_of}
use Rattle.ppq_queue.specs.declared.queue_parts.QueueParts.{QueueParts}
use Rattle.ppq_queue.specs.ppq_counts.Account.{IsCounted}
use Rattle.ppq_queue.specs.Handed.{IsWhole}
use Rattle.ppq_queue.specs.Paying.{whole_account}
use Rattle.ppq_queue.proofs.Slots.{turned}
use Rattle.ppq_queue.proofs.Moves.{kept-refl}
use Rattle.ppq_queue.proofs.Flushed.{queue-kept}
use Rattle.ppq_queue_tests.proofs.bulk.turned.Goals as goal

module _ {R : Type 0} where
  cap_first : (heaps : List (Contents R)) (cap : ℕ) → 0 < length heaps → All (λ (h : Contents R). h.cap ≡ cap) heaps → cap_of heaps ≡ cap
  cap_first [] cap some all = absurd (omega arith)
  cap_first (x ∷ xs) cap some all = All-head (λ (h : Contents R). h.cap ≡ cap) x xs all

  items_sum : (heaps : List (Contents R)) → length (items_in heaps) ≡ sum_by (λ h. length h.items) heaps
  items_sum [] = refl
  items_sum (x ∷ xs) = omega (arith, length-append x.items (items_in xs), items_sum xs, sum_by-cons (λ (h : Contents R). length h.items) x xs)

  -- heaps in another order
  record Other (shares : Shares R) (heaps : List (Contents R)) : Type 0 where
    cap : cap_of heaps ≡ shares.cap
    caps : All (λ (h : Contents R). h.cap ≡ cap_of heaps) heaps
    count : length heaps ≡ length shares.heaps
    items : length (items_in heaps) ≡ length (items_of shares)

  other : (shares : Shares R) (heaps : List (Contents R)) → AreShares shares → IsPermutation shares.heaps heaps → Other shares heaps
  other shares heaps are moved =
      let count = length_permutation shares.heaps heaps moved in
      let all = All-permutation (λ (h : Contents R). h.cap ≡ shares.cap) shares.heaps heaps moved are.caps in
      let first = cap_first heaps shares.cap (omega (arith, count, are.some)) all in
      record {
        cap = first;
        caps = subst (λ k. All (λ (h : Contents R). h.cap ≡ k) heaps) (sym first) all;
        count = count;
        items = items_sum heaps ∙ sum_by-IsPermutation (λ (h : Contents R). length h.items) shares.heaps heaps moved ∙ sym (items_sum shares.heaps);
      }

-- the parts with other heaps that hold as many records
whole-heaps :
    {S R : Type 0} (shown : S → Shown) (cmp : R → R → Ordering) (record_of : List ℕ → R) (width : ℕ) (q : QueueParts S R) (heaps : Shares R)
    → IsWhole shown cmp record_of width q → heaps.cap ≡ q.heaps.cap → length heaps.heaps ≡ length q.heaps.heaps → length (items_of heaps) ≡ length (items_of q.heaps)
    → IsWhole shown cmp record_of width (record q { heaps = heaps })
whole-heaps shown cmp record_of width q heaps is cap count items =
    let i = is.queue in
    record {
      queue = queue-kept shown q.sizes q.heaps heaps q.extract q.extract q.body q.body q.supply q.supply q.count q.peak q.failed q.failed i (kept-refl shown q.body q.supply) i.no_row cap count (omega (arith, items)) refl i.in_extract i.fault;
      sound = λ none.
          let s = is.sound none in
          record {
            rest = s.rest;
            counted = omega (arith, s.counted, items);
            ascends = s.ascends;
            order = s.order;
            above = λ more. s.above (omega (arith, more, items));
            workers = s.workers;
            serves = s.serves;
          };
      counted = subst (λ k. IsCounted q.sizes.workers q.sizes.block (q.failed ≡ None) q.counts (whole_account shown q.sizes k q.body q.supply)) (sym items) is.counted;
      no_slot = is.no_slot;
      slots_room = is.slots_room;
    }

pub from_parts-requires-clause-caps : goal.from_parts-requires-clause-caps
from_parts-requires-clause-caps c =
    let shares = c.into_parts-parts.result.heaps in
    let xs = c.into_parts-heaps.result.0.items in
    let t = turned xs c.reverse.new.self c.into_parts-heaps.result.0.len (c.reverse.ensures.after ∙ ap reverse c.as_mut_slice.ensures.value) (sym c.as_mut_slice.ensures.len ∙ ap length c.as_mut_slice.ensures.value) in
    let moved = subst (λ l. IsPermutation l (reverse xs)) c.into_parts-heaps.ensures.heaps (IsPermutation-reverse xs) in
    subst (λ l. All (λ (h : Contents _). h.cap ≡ cap_of l) l) (sym t) (other shares (reverse xs) c.into_parts-heaps.ensures.known moved).caps

pub from_parts-requires-2-after_bounds : goal.from_parts-requires-2-after_bounds
from_parts-requires-2-after_bounds c κs =
    let shares = c.into_parts-parts.result.heaps in
    let xs = c.into_parts-heaps.result.0.items in
    let new = c.from_parts.result in
    let t = turned xs c.reverse.new.self c.into_parts-heaps.result.0.len (c.reverse.ensures.after ∙ ap reverse c.as_mut_slice.ensures.value) (sym c.as_mut_slice.ensures.len ∙ ap length c.as_mut_slice.ensures.value) in
    let moved = subst (λ l. IsPermutation l (reverse xs)) c.into_parts-heaps.ensures.heaps (IsPermutation-reverse xs) in
    let is = other shares (reverse xs) c.into_parts-heaps.ensures.known moved in
    let heaps = c.from_parts.ensures.heaps ∙ t in
    whole-heaps _ _ _ _ c.into_parts-parts.result new c.into_parts-parts.ensures.whole (c.from_parts.ensures.cap ∙ ap cap_of t ∙ is.cap) (ap length heaps ∙ is.count) (ap (λ l. length (items_in l)) heaps ∙ is.items)
