-- The records of one heap among those of all.
use Rattle.std.proofs.Common.{ℕ, zero, suc, ◌*◌, ◌≤◌, List, [], ◌∷◌, length, get_or, arith, length-append}
use Rattle.ppq_heap.specs.Heap.{Contents}
use Rattle.ppq_heap.specs.Heaps.{Shares, AreShares, empty_heap, items_in, items_of, share_at}
use Rattle.ppq_heap.proofs.Shares.{length_all}

module _ {R : Type 0} where
  -- no heap has more records than all have
  heap_most : (heaps : List (Contents R)) (place : ℕ) → length (get_or heaps place (empty_heap 0)).items ≤ length (items_in heaps)
  heap_most [] place = omega arith
  heap_most (x ∷ xs) zero = omega (arith, length-append x.items (items_in xs))
  heap_most (x ∷ xs) (suc place) = omega (arith, heap_most xs place, length-append x.items (items_in xs))

  pub share_most : (shares : Shares R) (place : ℕ) → length (share_at shares place) ≤ length (items_of shares)
  share_most shares place = heap_most shares.heaps place

  -- all heaps have room for theirs
  pub all_within : (shares : Shares R) → AreShares shares → length (items_of shares) ≤ length shares.heaps * shares.cap
  all_within shares are = length_all shares.heaps shares.cap are.within
