-- A tree of minima: its leaves' items, and who wins at each node.
use Rattle.std.specs.Prelude.{◌≡◌, ℕ, ◌+◌, ◌*◌, ◌/◌, ◌<◌, ◌≤◌, zero, suc, Bool, true, false, cond, List, length, get_or, Option, Some, None}
use Rattle.std.specs.declared.cmp.Ordering.{Ordering}
use Rattle.std.specs.Ordering.{is_lt, nat_cmp, then_cmp, on}

-- the items of a tree's leaves, and how many leaves its memory has room for
pub record Leaves (X : Type 0) : Type 0 where
  pub items : List (Option X)
  pub room : ℕ

-- the leaf has that item
abbrev pub HasItem : {X : Type 0} → List (Option X) → ℕ → X → Type 0
HasItem items leaf x = get_or items leaf None ≡ Some x

-- the leaf has the smallest of the items, and no lower leaf has its equal
pub record IsLeastLeaf {X : Type 0} (cmp : X → X → Ordering) (items : List (Option X)) (leaf : ℕ) (x : X) : Type 0 where
  pub there : HasItem items leaf x
  pub least : (other : ℕ) (y : X) → HasItem items other y → is_lt (cmp y x) ≡ false
  pub lowest : (other : ℕ) (y : X) → HasItem items other y → is_lt (cmp x y) ≡ false → leaf ≤ other

-- no leaf has an item
abbrev pub HasNoItems : {X : Type 0} → List (Option X) → Type 0
HasNoItems {X} items = (leaf : ℕ) (x : X) → HasItem items leaf x → ⊥

-- first by the item, then by the leaf
abbrev pub by_item : {X : Type 0} → (X → X → Ordering) → X × ℕ → X × ℕ → Ordering
by_item cmp = then_cmp (on (λ p. p.0) cmp) (on (λ p. p.1) nat_cmp)

-- a is less, or equal with a lower leaf
abbrev pub ahead : {X : Type 0} → (X → X → Ordering) → X × ℕ → X × ℕ → Bool
ahead cmp a b = is_lt (by_item cmp a b)

-- of two leaves with these items, whether the other wins their match
abbrev pub other_wins : {X : Type 0} → (X → X → Ordering) → Option X → Option X → ℕ → ℕ → Bool
other_wins cmp None y one other = true
other_wins cmp (Some x) None one other = false
other_wins cmp (Some x) (Some y) one other = ahead cmp (y, other) (x, one)

-- the winner of a match between leaves with these items
abbrev pub chosen : {X : Type 0} → (X → X → Ordering) → Option X → Option X → ℕ → ℕ → ℕ
chosen cmp x y one other = cond (other_wins cmp x y one other) other one

-- the winner of a match between two leaves
abbrev pub better : {X : Type 0} → (X → X → Ordering) → List (Option X) → ℕ → ℕ → ℕ
better cmp items one other = chosen cmp (get_or items one None) (get_or items other None) one other

-- the leaf that won at a node; the children of node u are the nodes 2u and 2u + 1, and the leaves follow the inner nodes
abbrev pub winner_at : List ℕ → ℕ → ℕ
winner_at winners node = get_or winners node 0

-- the node has the winner of its two children
unfoldable pub IsPlayed : {X : Type 0} → (X → X → Ordering) → List (Option X) → List ℕ → ℕ → Type 0
IsPlayed cmp items winners node = winner_at winners node ≡ better cmp items (winner_at winners (2 * node)) (winner_at winners (2 * node + 1))

-- a tree whose matches were all played
pub record IsMinTree {X : Type 0} (cmp : X → X → Ordering) (items : List (Option X)) (winners : List ℕ) : Type 0 where
  pub size : length winners ≡ 2 * length items
  pub leaves : (leaf : ℕ) → leaf < length items → winner_at winners (length items + leaf) ≡ leaf
  pub matches : (node : ℕ) → 0 < node → node < length items → IsPlayed cmp items winners node

-- the node so many levels up
abbrev pub up : ℕ → ℕ → ℕ
up zero node = node
up (suc levels) node = up levels (node / 2)

-- the first node is the second or above it
abbrev pub IsOnWayUp : ℕ → ℕ → Type 0
IsOnWayUp above node = (levels : ℕ) × (up levels node ≡ above)

-- a tree in which only the matches from a node upwards may be out of date
pub record IsTreeAbove {X : Type 0} (cmp : X → X → Ordering) (items : List (Option X)) (winners : List ℕ) (from : ℕ) : Type 0 where
  pub size : length winners ≡ 2 * length items
  pub leaves : (leaf : ℕ) → leaf < length items → winner_at winners (length items + leaf) ≡ leaf
  pub within : (node : ℕ) → 0 < node → node < 2 * length items → winner_at winners node < length items
  pub matches : (node : ℕ) → 0 < node → node < length items → (IsOnWayUp node from → ⊥) → IsPlayed cmp items winners node
