-- What a seat knows, and how splits, joins and draws change it.
use Rattle.std.specs.Prelude.{ℕ, ◌+◌, ◌-◌, ◌==◌, ◌||◌, if◌then◌else◌, true, false, cond, List, [], ◌∷◌, ◌++◌}
use Rattle.ppq_table.specs.Sums.{all_shares}
use Rattle.ppq_row.specs.declared.hand.Hand.{Hand}

module _ {T : Type 0} where
  -- the seat of a new row: all shares, and no place
  abbrev pub first_hand : List T → Hand T
  first_hand items = record { shares = all_shares; nones = 0; noted = false; places = []; items = items; joins = 0 }

  -- what a seat keeps that gave a share to a new one
  abbrev pub less_one : Hand T → Hand T
  less_one v = record v { shares = v.shares - 1 }

  -- the new seat: one share, no place, the same items and the same note
  abbrev pub newcomer : Hand T → Hand T
  newcomer v = record { shares = 1; nones = 0; noted = v.noted; places = []; items = v.items; joins = 0 }

  -- all that a seat knows, in another view. The old one is void
  abbrev pub moved : Hand T → Hand T
  moved v = record v { joins = v.joins + 1 }

  -- two seats made one: shares, Nones and joins added, the places joined, and the note where either had it
  abbrev pub together : Hand T → Hand T → Hand T
  together v w = record v { shares = v.shares + w.shares; nones = v.nones + w.nones; noted = v.noted || w.noted; places = v.places ++ w.places; joins = v.joins + w.joins + 1 }

  -- what is left of a view whose seat has another view now, or was joined
  abbrev pub void_hand : Hand T
  void_hand = record { shares = 0; nones = 0; noted = false; places = []; items = []; joins = 0 }

  -- 1 for a view that is void, and else 0
  abbrev pub one_if_void : Hand T → ℕ
  one_if_void v = if v.shares == 0 then 1 else 0

  -- one place more
  abbrev pub with_place : ℕ → Hand T → Hand T
  with_place i v = record v { places = v.places ++ i ∷ [] }

  -- one draw that found the end, which is noted
  abbrev pub with_none : Hand T → Hand T
  with_none v = record v { nones = v.nones + 1; noted = true }

  -- the shares of a view that may still count a None
  abbrev pub open_shares : Hand T → ℕ
  open_shares v = cond v.noted 0 v.shares
