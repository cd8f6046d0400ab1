-- A history is a list of events, the newest first. Places are read off it, looking back.
use Rattle.std.specs.Prelude.{◌≡◌, ℕ, ◌+◌, ◌<◌, ◌==◌, List, [], ◌∷◌, ◌++◌, if◌then◌else◌}
use Rattle.ppq_core.specs.declared.place.Place.{Place}
use Rattle.ppq_core.specs.declared.place.Place.TheVariants.{Free, Held, Stored}
use Rattle.ppq_core.specs.declared.event.Event.{Event}
use Rattle.ppq_core.specs.declared.event.Event.TheVariants.{Take, Give, Draw, Push, Store}

module _ {R : Type 0} where
  -- the place of buffer i: held where the last event that names it is a Take, and else free
  abbrev pub buffer_at : ℕ → List (Event R) → Place
  buffer_at i [] = Free
  buffer_at i (Take p b ∷ h) = if b == i then Held p else buffer_at i h
  buffer_at i (Give p b ∷ h) = if b == i then Free else buffer_at i h
  buffer_at i (Draw p s ∷ h) = buffer_at i h
  buffer_at i (Push p x ∷ h) = buffer_at i h
  buffer_at i (Store p s ∷ h) = buffer_at i h

  -- how many Draws the history has
  abbrev pub draws : List (Event R) → ℕ
  draws [] = 0
  draws (Draw p s ∷ h) = draws h + 1
  draws (Take p b ∷ h) = draws h
  draws (Give p b ∷ h) = draws h
  draws (Push p x ∷ h) = draws h
  draws (Store p s ∷ h) = draws h

  -- the place of slot i: free until it is drawn, then held by who drew it, then stored
  abbrev pub slot_at : ℕ → List (Event R) → Place
  slot_at i [] = Free
  slot_at i (Draw p s ∷ h) = if s == i then Held p else slot_at i h
  slot_at i (Store p s ∷ h) = if s == i then Stored p else slot_at i h
  slot_at i (Take p b ∷ h) = slot_at i h
  slot_at i (Give p b ∷ h) = slot_at i h
  slot_at i (Push p x ∷ h) = slot_at i h

  -- the items that pass q pushed, in order
  abbrev pub pushed_by : ℕ → List (Event R) → List R
  pushed_by q [] = []
  pushed_by q (Push p x ∷ h) = if p == q then pushed_by q h ++ x ∷ [] else pushed_by q h
  pushed_by q (Take p b ∷ h) = pushed_by q h
  pushed_by q (Give p b ∷ h) = pushed_by q h
  pushed_by q (Draw p s ∷ h) = pushed_by q h
  pushed_by q (Store p s ∷ h) = pushed_by q h

  -- the event adds an item to a pass's own
  abbrev pub IsPush : Event R → Type 0
  IsPush (Push p x) = Unit {0}
  IsPush (Take p b) = ⊥
  IsPush (Give p b) = ⊥
  IsPush (Draw p s) = ⊥
  IsPush (Store p s) = ⊥

  -- the event is legal as the next one after the history, for so many buffers, slots and passes
  abbrev pub IsLegalNext : ℕ → ℕ → ℕ → Event R → List (Event R) → Type 0
  IsLegalNext buffers slots passes (Take p b) h = (p < passes) × (b < buffers) × (buffer_at b h ≡ Free)
  IsLegalNext buffers slots passes (Give p b) h = (p < passes) × (b < buffers) × (buffer_at b h ≡ Held p)
  IsLegalNext buffers slots passes (Draw p s) h = (p < passes) × (s < slots) × (s ≡ draws h)
  IsLegalNext buffers slots passes (Push p x) h = p < passes
  IsLegalNext buffers slots passes (Store p s) h = (p < passes) × (s < slots) × (slot_at s h ≡ Held p)

  -- each event is legal after those before it
  abbrev pub IsLegal : ℕ → ℕ → ℕ → List (Event R) → Type 0
  IsLegal buffers slots passes [] = Unit {0}
  IsLegal buffers slots passes (e ∷ h) = IsLegalNext buffers slots passes e h × IsLegal buffers slots passes h
