-- What the two queues hold while the nodes come up: edges, and notes of levels.
use Rattle.std.specs.Prelude.{◌≡◌, ℕ, ◌+◌, ◌-◌, ◌^◌, ◌<◌, ◌≤◌, List, ◌∷◌, ◌++◌, cond, max, min, nat_lt, Option, Some, None}
use Rattle.std.specs.List.{AllByRecursion as Each, filter_map}
use Rattle.ppq_queue.specs.ppq_heap.ppq_record.declared.pair.Pair.{Pair}
use Rattle.ppq_queue.specs.ppq_heap.ppq_record.Bag.{IsSameBag}
use Rattle.ppq_sweep.specs.Levels.{greatest}

-- the note that tells a node the level of a source
abbrev pub note : ℕ → ℕ → Pair
note node level = record { key = node; value = level }

-- a record if its key is above v
abbrev pub if_later : ℕ → Pair → Option Pair
if_later v r = cond (nat_lt v r.key) (Some r) None

-- the note of this level that an edge sends if its source is at most v
abbrev pub if_sent : ℕ → ℕ → Pair → Option Pair
if_sent v level edge = cond (nat_lt v edge.key) None (Some (note edge.value level))

-- an edge if its source did not come up before v
abbrev pub if_left : ℕ → Pair → Option Pair
if_left v edge = cond (nat_lt edge.key v) None (Some edge)

-- the note of an edge if its source came up before v, and its target did not
abbrev pub if_waiting : (ℕ → ℕ) → ℕ → Pair → Option Pair
if_waiting f v edge = cond (nat_lt edge.key v) (cond (nat_lt edge.value v) None (Some (note edge.value (f edge.key)))) None

-- the records whose keys are above v
abbrev pub later : ℕ → List Pair → List Pair
later v records = filter_map (if_later v) records

-- the notes of this level that edges send whose sources are at most v
abbrev pub sent : ℕ → ℕ → List Pair → List Pair
sent v level edges = filter_map (if_sent v level) edges

-- the edges that are left when v comes up
abbrev pub left : ℕ → List Pair → List Pair
left v edges = filter_map (if_left v) edges

-- the notes that wait when v comes up
abbrev pub waiting : (ℕ → ℕ) → ℕ → List Pair → List Pair
waiting f v edges = filter_map (if_waiting f v) edges

-- what a note makes of the level of its node, if that is at most v: one more than it says, up to 2^64 - 1
abbrev pub raise : ℕ → Pair → ℕ
raise v r = cond (nat_lt v r.key) 0 (min (r.value + 1) (2 ^ 64 - 1))

-- the level that the notes of nodes up to v make
abbrev pub raised : ℕ → List Pair → ℕ
raised v notes = greatest (raise v) notes

-- a record was taken whose key is at most v; or none, if no key is
abbrev pub TookUpTo : ℕ → (old new : List Pair) → Option Pair → Type 0
TookUpTo v old new None = IsSameBag new old × Each (λ r. v < r.key) old
TookUpTo v old new (Some r) = (r.key ≤ v) × IsSameBag (r ∷ new) old

-- some of the notes up to v were taken, and made this level so far
pub record HearsSome (v : ℕ) (old new : List Pair) (level : ℕ) : Type 0 where
  pub rest : IsSameBag (later v new) (later v old)
  pub level_is : max level (raised v new) ≡ raised v old

-- the notes up to v were taken, and made this level
pub record Hears (v : ℕ) (old new : List Pair) (level : ℕ) : Type 0 where
  pub rest : IsSameBag new (later v old)
  pub level_is : level ≡ raised v old

-- some of the edges up to v were taken, and each of them sent this level to its target
pub record TellsSome (v level : ℕ) (edges edges' notes notes' : List Pair) : Type 0 where
  pub rest : IsSameBag (later v edges') (later v edges)
  pub notes_are : IsSameBag (sent v level edges' ++ notes') (sent v level edges ++ notes)

-- the edges up to v were taken, and each of them sent this level to its target
pub record TellsAll (v level : ℕ) (edges edges' notes notes' : List Pair) : Type 0 where
  pub rest : IsSameBag edges' (later v edges)
  pub notes_are : IsSameBag notes' (sent v level edges ++ notes)

-- node v came up: its notes and edges were taken, and the level that the notes made was sent along the edges
pub record ComesUp (v : ℕ) (edges edges' notes notes' : List Pair) : Type 0 where
  pub edges_are : IsSameBag edges' (later v edges)
  pub notes_are : IsSameBag notes' (sent v (raised v notes) edges ++ later v notes)
