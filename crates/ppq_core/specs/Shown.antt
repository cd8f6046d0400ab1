-- A table of places, and the histories that it shows.
use Rattle.std.specs.Prelude.{◌≡◌, ℕ, ◌<◌, Bool, true, false, List, [], ◌∷◌, length, slice_index_or}
use Rattle.ppq_core.specs.declared.place.Place.{Place}
use Rattle.ppq_core.specs.declared.place.Place.TheVariants.{Free}
use Rattle.ppq_core.specs.declared.event.Event.{Event}
use Rattle.ppq_core.specs.History.{buffer_at, slot_at, draws, pushed_by, IsLegalNext, IsLegal}

-- the places of all buffers and of all slots, the items that each pass pushed, and the count of draws
pub record Table (R : Type 0) : Type 0 where
  pub buffers : List Place
  pub slots : List Place
  pub pushed : List (List R)
  pub drawn : ℕ

module _ {R : Type 0} where
  -- the event is legal after the history, for as many buffers, slots and passes as the table has
  abbrev pub MayFollow : Table R → Event R → List (Event R) → Type 0
  MayFollow t e h = IsLegalNext (length t.buffers) (length t.slots) (length t.pushed) e h

  -- the history is legal, and each place, each pass's items and the count are as it says
  pub record Shows (t : Table R) (h : List (Event R)) : Type 0 where
    pub legal : IsLegal (length t.buffers) (length t.slots) (length t.pushed) h
    pub buffers : (i : ℕ) → i < length t.buffers → slice_index_or t.buffers i Free ≡ buffer_at i h
    pub slots : (i : ℕ) → i < length t.slots → slice_index_or t.slots i Free ≡ slot_at i h
    pub pushed : (p : ℕ) → p < length t.pushed → slice_index_or t.pushed p [] ≡ pushed_by p h
    pub drawn : t.drawn ≡ draws h

  -- whatever history the old table shows, the new one shows it with the event in front
  abbrev pub Adds : Table R → Event R → Table R → Type 0
  Adds old e new = (h : List (Event R)) → Shows old h → Shows new (e ∷ h)

  -- as many buffers, slots and passes
  abbrev pub IsSameSize : Table R → Table R → Type 0
  IsSameSize old new = (length new.buffers ≡ length old.buffers) × (length new.slots ≡ length old.slots) × (length new.pushed ≡ length old.pushed)

  -- where it was done the event was added, and else nothing changed and the event may not follow
  pub record IsStep (old : Table R) (e : Event R) (done : Bool) (new : Table R) : Type 0 where
    pub size : IsSameSize old new
    pub added : done ≡ true → Adds old e new
    pub unchanged : done ≡ false → new ≡ old
    pub refused : done ≡ false → (h : List (Event R)) → Shows old h → ¬ (MayFollow old e h)
