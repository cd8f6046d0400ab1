-- The bounds of a search.
use Rattle.std.specs.Prelude.{◌≡◌, ℕ, ◌^◌, ◌<◌, ◌≤◌, Bool, List}
use Rattle.std.specs.List.{AllByRecursion as Each}
use Rattle.ppq_record.specs.Order.{Rising}
use Rattle.ppq_split.specs.Cut.{total}
use Rattle.ppq_split.specs.Edge.{edge_places, mark_places, IsEdge}
use Rattle.ppq_split.specs.declared.bounds.Bounds.{Bounds}
use Rattle.ppq_split.specs.declared.mark.Mark.{Mark}

-- two edges of these runs, with the rank from the one's on and below the other's
pub record AreBounds {X : Type 0} (lt : X → X → Bool) (qs : List (List X)) (rank : ℕ) (b : Bounds X) : Type 0 where
  pub low : IsEdge lt qs b.low
  pub high : IsEdge lt qs b.high
  pub below : b.low_rank ≤ rank
  pub above : rank < b.high_rank
  pub size : b.high_rank < 2 ^ 64
  pub low_places : Each (Rising lt) qs → b.low_rank ≡ total (edge_places lt qs b.low)
  pub high_places : Each (Rising lt) qs → b.high_rank ≡ total (edge_places lt qs b.high)

-- the edge in front of the mark is not below the lower edge, and below the upper one
abbrev pub IsBetween : {X : Type 0} → (X → X → Bool) → List (List X) → Bounds X → Mark X → Type 0
IsBetween lt qs b m =
    (total (edge_places lt qs b.low) ≤ total (mark_places lt m.item m.place m.run qs))
    × (total (mark_places lt m.item m.place m.run qs) < total (edge_places lt qs b.high))
