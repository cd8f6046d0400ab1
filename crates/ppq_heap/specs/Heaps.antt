-- What the insertion heaps of several workers hold.
use Rattle.std.specs.Prelude.{◌≡◌, ◌≢◌, ℕ, ◌<◌, ◌≤◌, ◌^◌, List, [], ◌∷◌, length, get_or, map, All, Option}
use Rattle.std.specs.declared.cmp.Ordering.{Ordering}
use Rattle.std.specs.List.{flat_map}
use Rattle.ppq_tree.specs.ppq_record.Bag.{IsSameBag, least}
use Rattle.ppq_heap.specs.Heap.{Contents}

-- the heaps of all workers, and how many records each has room for
pub record Shares (R : Type 0) : Type 0 where
  pub heaps : List (Contents R)
  pub cap : ℕ

-- a heap with no record
abbrev pub empty_heap : {R : Type 0} → ℕ → Contents R
empty_heap cap = record { items = []; cap = cap }

-- how many records the first heap has room for
abbrev pub cap_of : {R : Type 0} → List (Contents R) → ℕ
cap_of [] = 0
cap_of (heap ∷ heaps) = heap.cap

-- the records of some heaps
abbrev pub items_in : {R : Type 0} → List (Contents R) → List R
items_in heaps = flat_map (λ heap. heap.items) heaps

-- the records of all heaps
abbrev pub items_of : {R : Type 0} → Shares R → List R
items_of shares = items_in shares.heaps

-- the records of the heap at a place
abbrev pub share_at : {R : Type 0} → Shares R → ℕ → List R
share_at shares place = (get_or shares.heaps place (empty_heap 0)).items

-- what holds of all shares: there is a heap, and none has more records than each has room for
pub record AreShares {R : Type 0} (shares : Shares R) : Type 0 where
  pub some : 0 < length shares.heaps
  pub few : length shares.heaps < 2 ^ 32
  pub cap : shares.cap < 2 ^ 32
  pub caps : All (λ (heap : Contents R). heap.cap ≡ shares.cap) shares.heaps
  pub within : All (λ (heap : Contents R). length heap.items ≤ shares.cap) shares.heaps

-- each leaf has the smallest record of its heap
unfoldable pub HasLeasts : {R : Type 0} → (R → R → Ordering) → List (Contents R) → List (Option R) → Type 0
HasLeasts cmp heaps leaves = leaves ≡ map (λ heap. least cmp heap.items) heaps

-- only the heap at a place may have changed
pub record ChangesOnly {R : Type 0} (place : ℕ) (old new : Shares R) : Type 0 where
  pub count : length new.heaps ≡ length old.heaps
  pub cap : new.cap ≡ old.cap
  pub others : (other : ℕ) → other ≢ place → share_at new other ≡ share_at old other

-- a record left the heap at a place, and nothing else changed
pub record Left {R : Type 0} (place : ℕ) (old : Shares R) (taken : R) (new : Shares R) : Type 0 where
  pub there : place < length old.heaps
  pub share : IsSameBag (share_at old place) (taken ∷ share_at new place)
  pub others : ChangesOnly place old new

-- a record left one of the heaps
abbrev pub LeftOne : {R : Type 0} → Shares R → R → Shares R → Type 0
LeftOne {R} old taken new = (place : ℕ) × Left place old taken new
