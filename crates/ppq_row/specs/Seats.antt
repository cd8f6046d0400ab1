-- What a clause says of a row and its seats.
use Rattle.std.specs.Prelude.{◌≡◌, ℕ, ◌<◌, true, false, ◌⊎◌, All}
use mathlib.Core.Option.{some}
use lib.ListN.{get_elem?}
use Rattle.atomic_table.specs.Seated.{TableId}
use Rattle.ppq_row.specs.declared.hand.Hand.{Hand}
use Rattle.ppq_row.specs.Known.{Known}
use Rattle.ppq_row.specs.Hands.{with_place, with_none}

module _ {T : Type 0} where
  abbrev pub IsSeatOf : TableId → Known T → Type 0
  IsSeatOf row seat = seat.row ≡ row

  -- the place i was drawn, with the item that was put in there. It is greater than each place before
  abbrev pub Drew : Hand T → ℕ → T → Hand T → Type 0
  Drew before i x after = (get_elem? before.items i ≡ some x) × (after ≡ with_place i before) × All (λ p. p < i) before.places

  -- a step of this call found all items drawn, and the end is noted
  abbrev pub SawEnd : Hand T → Hand T → Type 0
  SawEnd before after = after ≡ with_none before

  -- the end was noted and nothing changed, or a step of this call found it
  abbrev pub NoneLeft : Hand T → Hand T → Type 0
  NoneLeft before after = ((before.noted ≡ true) × (after ≡ before)) ⊎ ((before.noted ≡ false) × SawEnd before after)
