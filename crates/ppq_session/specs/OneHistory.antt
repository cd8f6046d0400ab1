-- One history of a pool and a row together. Each of the two numbers its seats for itself; a session says which pass each seat is of, and its history has the numbers of the passes.
use Rattle.std.specs.Prelude.{◌≡◌, ◌⊎◌, ℕ, zero, suc, ◌+◌, ◌-◌, ◌<◌, ◌≤◌, Bool, true, false, List, [], ◌∷◌, ◌++◌, filter, length, slice_index, slice_set, Option}
use mathlib.Core.Option.{some}
use lib.ListN.{get_elem?}
use Rattle.atomic_table.specs.Table.{State, Me, Step as TableStep, rest}
use Rattle.ppq_pass.specs.ppq_core.declared.event.Event.{Event}
use Rattle.ppq_pass.specs.ppq_core.declared.event.Event.TheVariants.{Take, Give, Draw, Push, Store}
use Rattle.ppq_pass.specs.ppq_core.declared.place.Place.{Place as CorePlace}
use Rattle.ppq_pass.specs.ppq_core.declared.place.Place.TheVariants.{Free, Held, Stored}
use Rattle.ppq_pass.specs.ppq_core.History.{buffer_at, slot_at, IsLegal}
use Rattle.ppq_pass.specs.ppq_core.Parts.{buffer_part, renumbered}
use Rattle.ppq_pass.specs.ppq_table.declared.place.Place.{Place as TablePlace}
use Rattle.ppq_pass.specs.ppq_table.declared.place.Place.TheVariants.{Item}
use Rattle.ppq_pass.specs.ppq_table.Sums.{times}
use Rattle.ppq_pass.specs.ppq_pool.declared.hand.Hand.{Hand as PoolHand}
use Rattle.ppq_pass.specs.ppq_pool.Hands.{with_claim, with_look, with_place, with_give, less_one, newcomer}
use Rattle.ppq_pass.specs.ppq_pool.Histories.{ShowsHistory}
use Rattle.ppq_pass.specs.ppq_pool.Rule.{NoneVoid, PoolRule, claimed_at, settled, reached_at, cleared_at}
use Rattle.ppq_pass.specs.ppq_row.declared.hand.Hand.{Hand as RowHand}
use Rattle.ppq_pass.specs.ppq_row.Hands.{with_place as with_slot, with_none, less_one as row_less_one, newcomer as row_newcomer}
use Rattle.ppq_pass.specs.ppq_row.Rule.{counter, RowRule, draw_tells}
use Rattle.ppq_pass.specs.ppq_row.Shown.{shown}

-- a pool of buffers, between two steps
abbrev pub PoolState : Type 0 → Type 0
PoolState B = State (TablePlace B) (PoolHand B)

-- a row of slots, between two steps
abbrev pub RowState : Type 0 → Type 0
RowState S = State (TablePlace S) (RowHand S)

pub record PoolAndRow (B S : Type 0) : Type 0 where
  pub pool : PoolState B
  pub row : RowState S

-- What no step changes: the shape of the buffers, the slots as they were put into the row, how many passes there are, and which of them each seat of the pool and each seat of the row is of
pub record Seating (B S : Type 0) : Type 0 where
  pub shape_of : B → ℕ
  pub shape : ℕ
  pub slots : List S
  pub passes : ℕ
  pub pool_pass : ℕ → ℕ
  pub row_pass : ℕ → ℕ
  pub pool_below : (j : ℕ) → pool_pass j < passes
  pub row_below : (j : ℕ) → row_pass j < passes

module _ {R : Type 0} where
  -- the event draws a slot
  abbrev pub is_draw : Event R → Bool
  is_draw (Take p b) = false
  is_draw (Give p b) = false
  is_draw (Draw p s) = true
  is_draw (Push p r) = false
  is_draw (Store p s) = false

  abbrev pub draw_part : List (Event R) → List (Event R)
  draw_part h = filter is_draw h

-- the pass holds it, or has stored it
abbrev pub IsWith : ℕ → CorePlace → Type 0
IsWith p place = (place ≡ Held p) ⊎ (place ≡ Stored p)

-- how many buffers there are
abbrev pub buffers_of : {B : Type 0} → PoolState B → ℕ
buffers_of pool = length pool.homes - 1

-- the rules of pool and row hold
abbrev pub MeetsRules : {B S : Type 0} → Seating B S → PoolAndRow B S → Type 0
MeetsRules x s = PoolRule x.shape_of x.shape s.pool × RowRule x.slots s.row

-- One legal history, for the buffers of the pool, the slots of the row and the passes of the session. Its takes and gives are those that the pool shows, its draws those that the row shows, each by the pass of its seat
pub record ShowsTogether {B S R : Type 0} (x : Seating B S) (s : PoolAndRow B S) (h : List (Event R)) : Type 0 where
  pub legal : IsLegal (buffers_of s.pool) (length x.slots) x.passes h
  pub of_pool : (g : List (Event R)) × ShowsHistory (buffers_of s.pool) s.pool.words s.pool.views g × (buffer_part h ≡ buffer_part (renumbered x.pool_pass g))
  pub of_row : draw_part h ≡ renumbered x.row_pass (shown x.slots s.row)
  -- a buffer is free where its word is 0, and held by the pass of the seat that lists it
  pub free_buffer : (i : ℕ) → i < buffers_of s.pool → slice_index s.pool.words (i + 1) ≡ 0 → buffer_at i h ≡ Free
  pub held_buffer : (i j : ℕ) (v : PoolHand B) → get_elem? s.pool.views j ≡ some v → 0 < times i v.numbers → buffer_at i h ≡ Held (x.pool_pass j)
  -- a slot is free where the counter is at most its number, and else the pass of the seat that lists it holds it or has stored it
  pub free_slot : (i : ℕ) → counter s.row ≤ i → slot_at i h ≡ Free
  pub drawn_slot : (i : ℕ) → i < counter s.row → i < length x.slots → (j : ℕ) × (v : RowHand S) × (get_elem? s.row.views j ≡ some v) × (0 < times i v.places) × IsWith (x.row_pass j) (slot_at i h)

-- the word i becomes n, and the view of the seat id becomes w
abbrev pub Becomes : {P V : Type 0} → State P V → ℕ → ℕ → ℕ → V → State P V → Type 0
Becomes s i n id w t = (t.words ≡ slice_set s.words i n) × (t.views ≡ slice_set s.views id w)

-- the view of the seat id becomes v, and a new seat has the view w
abbrev pub Divides : {P V : Type 0} → State P V → ℕ → V → V → State P V → Type 0
Divides s id v w t = (t.words ≡ s.words) × (t.views ≡ slice_set s.views id v ++ w ∷ [])

-- the seat id has the view v, and i is the number of a buffer
abbrev pub IsAt : {B : Type 0} → PoolState B → ℕ → PoolHand B → ℕ → Type 0
IsAt s id v i = (get_elem? s.views id ≡ some v) × (i + 1 < length s.homes)

-- One step of a seat at the pool, which makes the history h into k. It claims a free buffer; it finds a buffer held; the empty place of a buffer that it holds goes home or comes into its hands; it puts a buffer back; or it gives a share to a new seat
pub data PoolStep {B S R : Type 0} (x : Seating B S) (s t : PoolState B) (h k : List (Event R)) : Type 0 where
  takes : (id i moment : ℕ) (v : PoolHand B) → IsAt s id v i → slice_index s.words (i + 1) ≡ 0 → Becomes s (i + 1) 1 id (with_claim moment i v) t → k ≡ Take (x.pool_pass id) i ∷ h → PoolStep x s t h k
  looks : (id i moment : ℕ) (v : PoolHand B) → IsAt s id v i → slice_index s.words (i + 1) ≡ 1 → Becomes s (i + 1) 1 id (with_look moment i v) t → k ≡ h → PoolStep x s t h k
  settles_or_reaches : (id i : ℕ) (v : PoolHand B) (place : Option ℕ) → IsAt s id v i → 0 < times i v.numbers → Becomes s (i + 1) 1 id (with_place place v) t → k ≡ h → PoolStep x s t h k
  gives : (id i moment : ℕ) (v : PoolHand B) (b : B) → IsAt s id v i → 0 < times i v.numbers → Becomes s (i + 1) 0 id (with_give moment i b v) t → k ≡ Give (x.pool_pass id) i ∷ h → PoolStep x s t h k
  splits : (id : ℕ) (v : PoolHand B) → get_elem? s.views id ≡ some v → Divides s id (less_one v) (newcomer v) t → k ≡ h → PoolStep x s t h k

-- One step of a seat at the row, likewise. It draws a slot; it finds the end; or it gives a share to a new seat
pub data RowStep {B S R : Type 0} (x : Seating B S) (s t : RowState S) (h k : List (Event R)) : Type 0 where
  draws : (id : ℕ) (v : RowHand S) → get_elem? s.views id ≡ some v → counter s < length x.slots → Becomes s 0 (counter s + 1) id (with_slot (counter s) v) t → k ≡ Draw (x.row_pass id) (counter s) ∷ h → RowStep x s t h k
  ends : (id : ℕ) (v : RowHand S) → get_elem? s.views id ≡ some v → length x.slots ≤ counter s → Becomes s 0 (counter s + 1) id (with_none v) t → k ≡ h → RowStep x s t h k
  splits : (id : ℕ) (v : RowHand S) → get_elem? s.views id ≡ some v → Divides s id (row_less_one v) (row_newcomer v) t → k ≡ h → RowStep x s t h k

-- One step at the pool, or one at the row. Or no shared word changes: a pass pushes an item, or stores a slot that it holds
pub data Step {B S R : Type 0} (x : Seating B S) (s t : PoolAndRow B S) (h k : List (Event R)) : Type 0 where
  at_pool : PoolStep x s.pool t.pool h k → t.row ≡ s.row → Step x s t h k
  at_row : RowStep x s.row t.row h k → t.pool ≡ s.pool → Step x s t h k
  pushes : (p : ℕ) (item : R) → p < x.passes → t ≡ s → k ≡ Push p item ∷ h → Step x s t h k
  stores : (p i : ℕ) → slot_at i h ≡ Held p → t ≡ s → k ≡ Store p i ∷ h → Step x s t h k

-- so many steps of any seats, one after the other. The rules hold after each
abbrev pub Steps : {B S R : Type 0} → Seating B S → ℕ → PoolAndRow B S → PoolAndRow B S → List (Event R) → List (Event R) → Type 0
Steps x zero s t h k = (t ≡ s) × (k ≡ h)
Steps {B} {S} {R} x (suc n) s t h k = (u : PoolAndRow B S) × (g : List (Event R)) × Step x s u h g × MeetsRules x u × Steps x n u t g k

-- What the pool's table is proved to tell a seat of each kind of play makes it such a step, whatever history came before: m and n are the seat's view and the places in its hands, before and after
pub record PoolPlays {B S R : Type 0} (x : Seating B S) (s t : PoolState B) (h : List (Event R)) : Type 0 where
  pub claims : (id i : ℕ) (m n : Me (TablePlace B) (PoolHand B)) → IsAt s id m.0 i → Becomes s (i + 1) 1 id n.0 t → claimed_at x.shape_of i m (slice_index s.words (i + 1)) n → (k : List (Event R)) × PoolStep x s t h k
  pub settles : (id i : ℕ) (st : TableStep (TablePlace B)) (m n : Me (TablePlace B) (PoolHand B)) → IsAt s id m.0 i → 0 < times i m.0.numbers → Becomes s (i + 1) 1 id n.0 t → settled st m (slice_index s.words (i + 1)) n → (k : List (Event R)) × PoolStep x s t h k
  pub reaches : (id i : ℕ) (m n : Me (TablePlace B) (PoolHand B)) → IsAt s id m.0 i → 0 < times i m.0.numbers → Becomes s (i + 1) 1 id n.0 t → reached_at i m n → (k : List (Event R)) × PoolStep x s t h k
  pub clears : (id i : ℕ) (b : B) (m n : Me (TablePlace B) (PoolHand B)) → IsAt s id m.0 i → 0 < times i m.0.numbers → m.1 ≡ (i, Item b) ∷ rest m.1 → Becomes s (i + 1) 0 id n.0 t → cleared_at i m n → (k : List (Event R)) × PoolStep x s t h k

-- the same of the row's table
abbrev pub RowPlays : {B S R : Type 0} → Seating B S → RowState S → RowState S → List (Event R) → Type 0
RowPlays {B} {S} {R} x s t h = (id : ℕ) (st : TableStep (TablePlace S)) (m n : Me (TablePlace S) (RowHand S)) → RowRule x.slots s → get_elem? s.views id ≡ some m.0 → st.slots ≡ length s.homes → Becomes s 0 (counter s + 1) id n.0 t → draw_tells st m (counter s) n → (k : List (Event R)) × RowStep x s t h k

-- so every play at the words of pool and row is one of these steps
abbrev pub PlaysAreSteps : (B S R : Type 0) → Type 0
PlaysAreSteps B S R = ((x : Seating B S) (s t : PoolState B) (h : List (Event R)) → PoolPlays x s t h) × ((x : Seating B S) (s t : RowState S) (h : List (Event R)) → RowPlays x s t h)

-- while no two seats of the pool were joined, pool and row show such a history
abbrev pub StatesShowOne : (B S R : Type 0) → Type 0
StatesShowOne B S R = (x : Seating B S) (s : PoolAndRow B S) → MeetsRules x s → NoneVoid s.pool.views → (h : List (Event R)) × ShowsTogether x s h

-- each step adds one event to it or none
abbrev pub EachStepShowsOne : (B S R : Type 0) → Type 0
EachStepShowsOne B S R = (x : Seating B S) (s t : PoolAndRow B S) (h k : List (Event R)) → MeetsRules x s → MeetsRules x t → Step x s t h k → ShowsTogether x s h → ShowsTogether x t k

-- so after any steps, in whatever order they came, there is still one
abbrev pub AllStepsShowOne : (B S R : Type 0) → Type 0
AllStepsShowOne B S R = (x : Seating B S) (n : ℕ) (s t : PoolAndRow B S) (h k : List (Event R)) → MeetsRules x s → Steps x n s t h k → ShowsTogether x s h → ShowsTogether x t k
