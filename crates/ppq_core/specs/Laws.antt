-- Laws over every list of events.
use Rattle.std.specs.Prelude.{◌≡◌, ◌<◌, ◌≤◌, ◌↔◌, ℕ, List, [], ◌∷◌, ◌++◌}
use Rattle.std.specs.List.{Contains}
use Rattle.ppq_core.specs.declared.place.Place.TheVariants.{Free, Held, Stored}
use Rattle.ppq_core.specs.declared.event.Event.{Event}
use Rattle.ppq_core.specs.declared.event.Event.TheVariants.{Take, Give, Draw, Push, Store}
use Rattle.ppq_core.specs.History.{buffer_at, slot_at, draws, pushed_by, IsLegal}
use Rattle.ppq_core.specs.Shown.{Table, Shows, Adds}

module _ {R : Type 0} where
  -- the pass of an event
  abbrev pub pass_of : Event R → ℕ
  pass_of (Take p b) = p
  pass_of (Give p b) = p
  pass_of (Draw p s) = p
  pass_of (Push p x) = p
  pass_of (Store p s) = p

  -- the event draws a slot
  abbrev pub IsDraw : Event R → Type 0
  IsDraw (Take p b) = ⊥
  IsDraw (Give p b) = ⊥
  IsDraw (Draw p s) = Unit {0}
  IsDraw (Push p x) = ⊥
  IsDraw (Store p s) = ⊥

  -- the event takes or gives the buffer
  abbrev pub Names : ℕ → Event R → Type 0
  Names b (Take p c) = c ≡ b
  Names b (Give p c) = c ≡ b
  Names b (Draw p s) = ⊥
  Names b (Push p x) = ⊥
  Names b (Store p s) = ⊥

  -- two neighbours may change their order: of different passes, not two Draws, not at one buffer
  pub record MayTrade (e f : Event R) : Type 0 where
    pub other_pass : ¬ (pass_of e ≡ pass_of f)
    pub not_both_draw : ¬ (IsDraw e × IsDraw f)
    pub other_buffer : (b : ℕ) → Names b e → ¬ (Names b f)

  -- the histories end in the same places, with the same items of each pass
  pub record EndsAs (g h : List (Event R)) : Type 0 where
    pub buffers : (i : ℕ) → buffer_at i g ≡ buffer_at i h
    pub slots : (i : ℕ) → slot_at i g ≡ slot_at i h
    pub pushed : (p : ℕ) → pushed_by p g ≡ pushed_by p h
    pub drawn : draws g ≡ draws h

  -- the steps of the history lead from the table `start` to the table `end`: each added its event
  abbrev pub ReachesBy : Table R → List (Event R) → Table R → Type 0
  ReachesBy start [] end = end ≡ start
  ReachesBy start (e ∷ h) end = (before : Table R) × ReachesBy start h before × Adds before e end

-- between two Takes of one buffer stands a Give of it by the pass of the first
abbrev pub HasGiveBetween : Type 0 → Type 0
HasGiveBetween R =
    (buffers slots passes b p q : ℕ) (later between before : List (Event R))
    → IsLegal buffers slots passes (later ++ Take q b ∷ between ++ Take p b ∷ before)
    → Contains between (Give p b)

-- the slots that were drawn are those with the numbers below the count of Draws
abbrev pub DrawsInOrder : Type 0 → Type 0
DrawsInOrder R =
    (buffers slots passes s : ℕ) (h : List (Event R))
    → IsLegal buffers slots passes h
    → ((p : ℕ) × Contains h (Draw p s)) ↔ (s < draws h)

-- no slot is drawn twice
abbrev pub DrawsOnce : Type 0 → Type 0
DrawsOnce R =
    (buffers slots passes s p q : ℕ) (later between before : List (Event R))
    → ¬ (IsLegal buffers slots passes (later ++ Draw q s ∷ between ++ Draw p s ∷ before))

-- no slot is stored twice
abbrev pub StoresOnce : Type 0 → Type 0
StoresOnce R =
    (buffers slots passes s p q : ℕ) (later between before : List (Event R))
    → ¬ (IsLegal buffers slots passes (later ++ Store q s ∷ between ++ Store p s ∷ before))

-- a slot is stored after it was drawn, and by the pass that drew it
abbrev pub StoresItsDraw : Type 0 → Type 0
StoresItsDraw R =
    (buffers slots passes s p : ℕ) (later before : List (Event R))
    → IsLegal buffers slots passes (later ++ Store p s ∷ before)
    → Contains before (Draw p s)

-- a slot is free where there are at most as many Draws as its number, stored where it was stored, and
-- else held by the pass that drew it
pub record TellsSlot {R : Type 0} (s : ℕ) (h : List (Event R)) : Type 0 where
  pub free : draws h ≤ s → slot_at s h ≡ Free
  pub stored : (p : ℕ) → Contains h (Store p s) → slot_at s h ≡ Stored p
  pub held : s < draws h → ((p : ℕ) → ¬ (Contains h (Store p s))) → (p : ℕ) × Contains h (Draw p s) × (slot_at s h ≡ Held p)

abbrev pub TellsSlots : Type 0 → Type 0
TellsSlots R = (buffers slots passes s : ℕ) (h : List (Event R)) → IsLegal buffers slots passes h → TellsSlot s h

-- with two neighbours exchanged that may trade, a history is legal too and ends in the same places
abbrev pub NeighboursTrade : Type 0 → Type 0
NeighboursTrade R =
    (buffers slots passes : ℕ) (e f : Event R) (later before : List (Event R))
    → IsLegal buffers slots passes (later ++ f ∷ e ∷ before)
    → MayTrade e f
    → IsLegal buffers slots passes (later ++ e ∷ f ∷ before) × EndsAs (later ++ f ∷ e ∷ before) (later ++ e ∷ f ∷ before)

-- a table that steps reach from a fresh one shows their history: its places, and each pass's own items
abbrev pub StepsShowTheirHistory : Type 0 → Type 0
StepsShowTheirHistory R = (start end : Table R) (h : List (Event R)) → Shows start [] → ReachesBy start h end → Shows end h
