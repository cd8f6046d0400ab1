-- A worker's seat: its places and its tree.
use Rattle.std.specs.Prelude.{◌≡◌, ℕ, ◌+◌, ◌^◌, ◌<◌, ◌≤◌, List, drop, length, All}
use Rattle.ppq_merge.specs.Parts.{places_for}
use Rattle.ppq_merge.specs.declared.seat.Seat.{Seat}

-- of the places where a worker's piece begins those that are used: those after the first 16
unfoldable pub used : List ℕ → List ℕ
used places = drop 16 places

module _ {R : Type 0} where
  -- the places where a worker's piece begins, as many as there are runs
  abbrev pub from_of : List (List R) → Seat R → List ℕ
  from_of qs s = places_for qs (used s.from.items)

  -- and those where it ends
  abbrev pub to_of : List (List R) → Seat R → List ℕ
  to_of qs s = places_for qs s.to.items

  -- a seat has a place for each of n runs, after 16 that are not used, and room for as many leaves
  pub record IsSized (n : ℕ) (s : Seat R) : Type 0 where
    pub from : length s.from.items ≡ 16 + n
    pub to : length s.to.items ≡ n
    pub leaves : n ≤ s.tree.room

  -- there are seats, fewer than 2 ^ 32, each with places and leaves for n runs, and no more runs than that
  pub record AreSeats (n : ℕ) (qs : List (List R)) (ss : List (Seat R)) : Type 0 where
    pub some : 0 < length ss
    pub few : length ss < 2 ^ 32
    pub enough : length qs ≤ n
    pub sized : All (IsSized n) ss

  -- a seat has at least as many places and leaves as there are runs
  abbrev pub HasRoom : List (List R) → Seat R → Type 0
  HasRoom qs s = (16 + length qs ≤ length s.from.items) × (length qs ≤ length s.to.items) × (length qs ≤ s.tree.room)

  -- a seat keeps the number of its places and leaves
  pub record KeepsSize (old new : Seat R) : Type 0 where
    pub from : length new.from.items ≡ length old.from.items
    pub to : length new.to.items ≡ length old.to.items
    pub leaves : new.tree.room ≡ old.tree.room

  -- seats of one size stay so
  unfoldable pub KeepSizes : List (Seat R) → List (Seat R) → Type 0
  KeepSizes old new = (n : ℕ) → All (IsSized n) old → All (IsSized n) new
