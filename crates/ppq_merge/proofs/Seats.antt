-- Seats that keep their sizes.
use Rattle.std.proofs.Common.{◌≡◌, ℕ, ◌<◌, ◌≤◌, List, ◌++◌, length, take, drop, get_or, set, sym, subst, ◌∙◌, arith}
use Rattle.std.specs.Prelude.{All}
use Rattle.std.proofs.lemmas.List.{length-take-le}
use Rattle.std.proofs.lemmas.List.Elements.{All-append, All-drop, All-set, All-take}
use Rattle.ppq_merge.specs.declared.seat.Seat.{Seat}
use Rattle.ppq_merge.specs.Seat.{AreSeats, HasRoom, IsSized, KeepsSize, KeepSizes}

module _ {R : Type 0} where
  pub has_room : (n : ℕ) (qs : List (List R)) (s : Seat R) → length qs ≤ n → IsSized n s → HasRoom qs s
  has_room n qs s enough sized = (omega (arith, sized.from), omega (arith, sized.to), omega (arith, sized.leaves))

  pub still_sized : (n : ℕ) (old new : Seat R) → KeepsSize old new → IsSized n old → IsSized n new
  still_sized n old new kept sized = record { from = kept.from ∙ sized.from; to = kept.to ∙ sized.to; leaves = omega (arith, kept.leaves, sized.leaves) }

  -- one seat is another
  pub sized_set : (n : ℕ) (ss : List (Seat R)) (k : ℕ) (d s : Seat R) → k < length ss → KeepsSize (get_or ss k d) s → All (IsSized n) ss → All (IsSized n) (set ss k s)
  sized_set n ss k d s here kept all = All-set (IsSized n) ss k s (still_sized n (get_or ss k d) s kept (all k d here)) all

  -- the first seats, and those that they are written over
  pub first_seats : (n m : ℕ) (qs : List (List R)) (ss : List (Seat R)) → 0 < m → m ≤ length ss → AreSeats n qs ss → AreSeats n qs (take m ss)
  first_seats n m qs ss some within are = record {
    some = omega (arith, length-take-le m ss within);
    few = omega (arith, length-take-le m ss within, are.few);
    enough = are.enough;
    sized = All-take (IsSized n) m ss are.sized;
  }

  pub sized_front : (n m : ℕ) (front ss : List (Seat R)) → All (IsSized n) front → All (IsSized n) ss → All (IsSized n) (front ++ drop m ss)
  sized_front n m front ss new old = All-append (IsSized n) front (drop m ss) new (All-drop (IsSized n) m ss old)

  pub keep_one : (ss : List (Seat R)) (k : ℕ) (d s : Seat R) → k < length ss → KeepsSize (get_or ss k d) s → KeepSizes ss (set ss k s)
  unfolding KeepSizes
  keep_one ss k d s here kept n all = sized_set n ss k d s here kept all

  pub keep_halves :
      (ss : List (Seat R)) (m : ℕ) (low high new_low new_high : List (Seat R)) → low ≡ take m ss → high ≡ drop m ss
      → KeepSizes low new_low → KeepSizes high new_high → KeepSizes ss (new_low ++ new_high)
  unfolding KeepSizes
  keep_halves ss m low high new_low new_high front back kept_low kept_high n all =
      All-append (IsSized n) new_low new_high
      (kept_low n (subst (All (IsSized n)) (sym front) (All-take (IsSized n) m ss all)))
      (kept_high n (subst (All (IsSized n)) (sym back) (All-drop (IsSized n) m ss all)))

  pub sized_kept : (n : ℕ) (old new : List (Seat R)) → KeepSizes old new → All (IsSized n) old → All (IsSized n) new
  unfolding KeepSizes
  sized_kept n old new kept all = kept n all
