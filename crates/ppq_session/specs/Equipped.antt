-- Passes that are made of what a queue has.
use Rattle.std.specs.Prelude.{◌≡◌, ℕ, ◌+◌, ◌*◌, ◌/◌, ◌<◌, ◌≤◌, Vec, List, [], ◌∷◌, length, map, reverse, All, vec_capacity}
use Rattle.std.specs.Global.{Global}
use Rattle.ppq_pass.specs.ppq_budget.Sizes.{Numbers, heap_of, pool_of}
use Rattle.ppq_pass.specs.ppq_outside.Shown.{Shown}
use Rattle.ppq_pass.specs.ppq_block.Block.{Block}
use Rattle.ppq_pass.specs.ppq_heap.Heap.{Contents}
use Rattle.ppq_pass.specs.ppq_array.Owner.{HasBlock, HasSlot}
use Rattle.ppq_pass.specs.ppq_pool.Seats.{count_of}
use Rattle.ppq_pass.specs.Passed.{PassHolding, PassKey}
use Rattle.ppq_session.specs.BulkSession.{IsFresh}
use Rattle.ppq_session.specs.Outfits.{IsOutfit}
use Rattle.ppq_session.specs.declared.outfit.Outfit.{Outfit}
use Rattle.ppq_session.specs.declared.share.FirstSeats.{FirstSeats}

-- the records of each heap
abbrev pub bags_in : {R : Type 0} → List (Contents R) → List (List R)
bags_in heaps = map (λ heap. heap.items) heaps

module _ {S R : Type 0} where
  -- the key of a pass of a session that begins with so many records
  abbrev pub session_key : Numbers → FirstSeats S R → ℕ → PassKey S R
  session_key sizes s begun =
      record {
        row = s.row_seat.row;
        pool = s.pool_seat.pool;
        items = s.row_seat.hand.items;
        row_shares = 1;
        pool_shares = 1;
        sizes = sizes;
        begun = begun;
      }

  -- there are enough idle buffers and shares for so many passes, and all that they share is of one size
  pub record MayEquip (shown : S → Shown) (width : ℕ) (sizes : Numbers) (n : ℕ) (idle : List (Block R)) (s : FirstSeats S R) : Type 0 where
    pub buffers : 2 * n ≤ length idle
    pub blocks : All (HasBlock sizes.block) idle
    pub row : s.row_seat.row ≡ s.shared.row
    pub row_shares : n < s.row_seat.hand.shares
    pub undrawn : s.row_seat.hand.places ≡ []
    pub few_slots : length s.row_seat.hand.items ≤ sizes.blocks
    pub bytes : All (HasSlot shown (sizes.block * width)) s.row_seat.hand.items
    pub pool : s.pool_seat.pool ≡ s.shared.pool
    pub pool_shares : n < s.pool_seat.hand.shares
    pub untaken : s.pool_seat.hand.numbers ≡ []
    pub shape : 0 < count_of s.pool_seat.pool → s.pool_seat.hand.shape ≡ sizes.block
    pub few_buffers : count_of s.pool_seat.pool ≤ pool_of sizes

  -- so many passes got two buffers each, and a share of each seat, which knows what it knew
  pub record Equipped (sizes : Numbers) (n : ℕ) (idle idle' : List (Block R)) (s s' : FirstSeats S R) : Type 0 where
    pub buffers : length idle' + 2 * n ≡ length idle
    pub blocks : All (HasBlock sizes.block) idle'
    pub shared : s'.shared ≡ s.shared
    pub row : s'.row_seat.row ≡ s.row_seat.row
    pub row_hand : record s'.row_seat.hand { shares = s.row_seat.hand.shares } ≡ s.row_seat.hand
    pub row_shares : s'.row_seat.hand.shares + n ≡ s.row_seat.hand.shares
    pub pool : s'.pool_seat.pool ≡ s.pool_seat.pool
    pub pool_hand : record s'.pool_seat.hand { shares = s.pool_seat.hand.shares } ≡ s.pool_seat.hand
    pub pool_shares : s'.pool_seat.hand.shares + n ≡ s.pool_seat.hand.shares

  -- a pass of the session with these records
  pub record IsNewPass (sizes : Numbers) (items : List R) (s : FirstSeats S R) (pass : PassHolding S R) : Type 0 where
    pub key : pass.key ≡ session_key sizes s (length items)
    pub bag : pass.bag ≡ items
    pub slots : pass.slots ≡ []
    pub fresh : IsFresh pass

  -- a pass for each of these heaps can be made, with an outfit each, and there is room for them
  pub record CanEquip (shown : S → Shown) (width : ℕ) (sizes : Numbers) (heaps : List (Contents R)) (outfits : List (Outfit S R)) (idle : List (Block R)) (s : FirstSeats S R) (passes : Vec (PassHolding S R) Global) : Type 0 where
    pub none : passes.items ≡ []
    pub room : length heaps ≤ vec_capacity passes
    pub caps : All (λ (heap : Contents R). heap.cap ≡ heap_of sizes) heaps
    pub outfits_are : length outfits ≡ length heaps
    pub each : All (IsOutfit (pool_of sizes / sizes.heap + 1) (sizes.blocks / sizes.heap + 1) (count_of s.pool_seat.pool)) outfits
    pub may : MayEquip shown width sizes (length heaps) idle s

  -- a pass has the records that it began with
  abbrev pub HasBegun : PassHolding S R → Type 0
  HasBegun pass = length pass.bag ≡ pass.key.begun

  -- the records of each pass
  abbrev pub bags_of : List (PassHolding S R) → List (List R)
  bags_of passes = map (λ (p : PassHolding S R). p.bag) passes

  -- how many records the first pass began with
  abbrev pub first_begun : List (PassHolding S R) → ℕ
  first_begun [] = 0
  first_begun (pass ∷ passes) = pass.key.begun

  -- a pass for each heap, in their order, with its records
  pub record ArePasses (sizes : Numbers) (heaps : List (Contents R)) (s : FirstSeats S R) (passes : List (PassHolding S R)) : Type 0 where
    pub count : length passes ≡ length heaps
    pub keys : All (λ (p : PassHolding S R). p.key ≡ session_key sizes s p.key.begun) passes
    pub bags : bags_of passes ≡ bags_in heaps
    pub slots : All (λ (p : PassHolding S R). p.slots ≡ []) passes
    pub whole : All HasBegun passes
    pub fresh : All IsFresh passes

  -- they were made, the last heap's first
  pub record HasEquipped (sizes : Numbers) (heaps : List (Contents R)) (idle idle' : List (Block R)) (s s' : FirstSeats S R) (passes : List (PassHolding S R)) : Type 0 where
    pub passes_are : ArePasses sizes (reverse heaps) s passes
    pub equipped : Equipped sizes (length heaps) idle idle' s s'
