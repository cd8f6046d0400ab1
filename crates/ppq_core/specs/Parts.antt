-- A history has two parts: what happens to the buffers, and what happens to the slots and the items. A pool shows the one and a row the other, each with numbers of its own for the passes.
use Rattle.std.specs.Prelude.{◌≡◌, ℕ, ◌<◌, Bool, true, false, not, List, ◌∷◌, filter, map, length}
use Rattle.ppq_core.specs.declared.place.Place.{Place}
use Rattle.ppq_core.specs.declared.place.Place.TheVariants.{Free, Held, Stored}
use Rattle.ppq_core.specs.declared.event.Event.{Event}
use Rattle.ppq_core.specs.declared.event.Event.TheVariants.{Take, Give, Draw, Push, Store}
use Rattle.ppq_core.specs.History.{buffer_at, slot_at, draws, pushed_by, IsLegal}
use Rattle.ppq_core.specs.Shown.{Table, Shows, MayFollow}

-- the place with the pass f p for p
abbrev pub place_of_pass : (ℕ → ℕ) → Place → Place
place_of_pass f Free = Free
place_of_pass f (Held p) = Held (f p)
place_of_pass f (Stored p) = Stored (f p)

module _ {R : Type 0} where
  -- the event takes a buffer or gives one back
  abbrev pub is_at_buffer : Event R → Bool
  is_at_buffer (Take p b) = true
  is_at_buffer (Give p b) = true
  is_at_buffer (Draw p s) = false
  is_at_buffer (Push p x) = false
  is_at_buffer (Store p s) = false

  abbrev pub buffer_part : List (Event R) → List (Event R)
  buffer_part h = filter is_at_buffer h

  abbrev pub slot_part : List (Event R) → List (Event R)
  slot_part h = filter (λ e. not (is_at_buffer e)) h

  -- the whole is made of the events of both lists, which stand in it in their own orders
  pub record Interleaves (at_buffers at_slots whole : List (Event R)) : Type 0 where
    pub buffers : buffer_part whole ≡ at_buffers
    pub slots : slot_part whole ≡ at_slots

  -- the whole ends with the buffers of the one part, and with the slots, the items and the count of draws of the other
  pub record EndsAsParts (at_buffers at_slots whole : List (Event R)) : Type 0 where
    pub buffers : (i : ℕ) → buffer_at i whole ≡ buffer_at i at_buffers
    pub slots : (i : ℕ) → slot_at i whole ≡ slot_at i at_slots
    pub pushed : (p : ℕ) → pushed_by p whole ≡ pushed_by p at_slots
    pub drawn : draws whole ≡ draws at_slots

  -- the event by the pass f p for p
  abbrev pub of_pass : (ℕ → ℕ) → Event R → Event R
  of_pass f (Take p b) = Take (f p) b
  of_pass f (Give p b) = Give (f p) b
  of_pass f (Draw p s) = Draw (f p) s
  of_pass f (Push p x) = Push (f p) x
  of_pass f (Store p s) = Store (f p) s

  -- the history with the pass f p for p in each event
  abbrev pub renumbered : (ℕ → ℕ) → List (Event R) → List (Event R)
  renumbered f h = map (of_pass f) h

  -- Buffers and slots are where they were, under the new numbers. A pass has the items that it had, unless another of so many got its number too
  pub record EndsRenumbered (passes : ℕ) (f : ℕ → ℕ) (h : List (Event R)) : Type 0 where
    pub buffers : (i : ℕ) → buffer_at i (renumbered f h) ≡ place_of_pass f (buffer_at i h)
    pub slots : (i : ℕ) → slot_at i (renumbered f h) ≡ place_of_pass f (slot_at i h)
    pub pushed : (p : ℕ) → ((q : ℕ) → q < passes → f q ≡ f p → q ≡ p) → pushed_by (f p) (renumbered f h) ≡ pushed_by p h
    pub drawn : draws (renumbered f h) ≡ draws h

-- A legal history of buffers alone and a legal one of slots and items alone, of as many passes: in whatever order their events come together, the whole is legal and ends as its parts
abbrev pub PartsInterleave : Type 0 → Type 0
PartsInterleave R =
    (buffers slots passes : ℕ) (at_buffers at_slots whole : List (Event R))
    → IsLegal buffers 0 passes at_buffers
    → IsLegal 0 slots passes at_slots
    → Interleaves at_buffers at_slots whole
    → IsLegal buffers slots passes whole × EndsAsParts at_buffers at_slots whole

-- each legal history is such a whole: its two parts are legal
abbrev pub PartsAreLegal : Type 0 → Type 0
PartsAreLegal R =
    (buffers slots passes : ℕ) (whole : List (Event R))
    → IsLegal buffers slots passes whole
    → IsLegal buffers 0 passes (buffer_part whole) × IsLegal 0 slots passes (slot_part whole)

-- a table shows a whole, and one of its parts goes on by one legal event: the event may follow the whole too, which goes on with that part
abbrev pub PartsGoOn : Type 0 → Type 0
PartsGoOn R =
    (t : Table R) (e : Event R) (at_buffers at_slots whole : List (Event R))
    → Shows t whole
    → Interleaves at_buffers at_slots whole
    → (is_at_buffer e ≡ true → IsLegal (length t.buffers) 0 (length t.pushed) (e ∷ at_buffers) → MayFollow t e whole × Interleaves (e ∷ at_buffers) at_slots (e ∷ whole))
    × (is_at_buffer e ≡ false → IsLegal 0 (length t.slots) (length t.pushed) (e ∷ at_slots) → MayFollow t e whole × Interleaves at_buffers (e ∷ at_slots) (e ∷ whole))

-- with other numbers for its passes a legal history is legal, and ends as it did
abbrev pub PassesRenumber : Type 0 → Type 0
PassesRenumber R =
    (buffers slots passes others : ℕ) (f : ℕ → ℕ) (h : List (Event R))
    → ((p : ℕ) → p < passes → f p < others)
    → IsLegal buffers slots passes h
    → IsLegal buffers slots others (renumbered f h) × EndsRenumbered passes f h
