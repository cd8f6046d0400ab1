-- Passes that are made one after another.
use Rattle.std.proofs.Common.{◌≡◌, ℕ, ◌+◌, ◌*◌, ◌<◌, ◌≤◌, List, [], ◌∷◌, ◌++◌, length, map, reverse, get_or, sum_by, All, refl, sym, ap, ◌∙◌, subst, arith, length-append}
use Rattle.std.specs.List.{flat_map}
use Rattle.std.proofs.lemmas.List.{reverse-append}
use mathlib.Core.List.{map-append, append_assoc}
use Rattle.std.proofs.lemmas.List.Folds.{flat_map-map}
use Rattle.std.proofs.lemmas.List.Concat.{flat_map-cons}
use Rattle.std.proofs.lemmas.List.Elements.{All-head, All-tail}
use Rattle.std.proofs.lemmas.List.Sums.{sum_by-cons}
use Rattle.atomic_table.specs.Seated.{TableId}
use Rattle.ppq_pass.specs.ppq_outside.Shown.{Shown}
use Rattle.ppq_pass.specs.ppq_budget.Sizes.{Numbers, pool_of}
use Rattle.ppq_pass.specs.ppq_block.Block.{Block}
use Rattle.ppq_pass.specs.ppq_heap.Heap.{Contents}
use Rattle.ppq_pass.specs.ppq_heap.Heaps.{items_in, empty_heap}
use Rattle.ppq_pass.specs.ppq_array.declared.berth.DeviceBlock.{DeviceBlock}
use Rattle.ppq_pass.specs.ppq_array.Owner.{HasSlot}
use Rattle.ppq_pass.specs.ppq_row.declared.hand.Hand.{Hand as RowHand}
use Rattle.ppq_pass.specs.ppq_pool.declared.hand.Hand.{Hand as PoolHand}
use Rattle.ppq_pass.specs.ppq_pool.Seats.{count_of}
use Rattle.ppq_pass.specs.Passed.{PassKey, PassHolding}
use Rattle.ppq_pass.specs.declared.shared.PoolBuf.{PoolBuf}
use Rattle.ppq_pass.proofs.ppq_array.Noted.{all_left, all_right}
use Rattle.std.proofs.lemmas.List.Sorted.{All-permutation, IsPermutation-reverse}
use Rattle.ppq_session.specs.BulkSession.{bag_of}
use Rattle.ppq_session.specs.Equipped.{Equipped, MayEquip, IsNewPass, HasBegun, bags_of, bags_in, first_begun, session_key}
use Rattle.ppq_session.specs.declared.share.FirstSeats.{FirstSeats}

module _ {X : Type 0} (P : X → Type 0) where
  pub all_front : (xs : List X) (x : X) → All P (xs ++ x ∷ []) → All P xs
  all_front xs x a = all_left P xs (x ∷ []) a

  pub all_last : (xs : List X) (x : X) → All P (xs ++ x ∷ []) → P x
  all_last xs x a = All-head P x [] (all_right P xs (x ∷ []) a)

  pub all_turned : (xs : List X) → All P xs → All P (reverse xs)
  all_turned xs a = All-permutation P xs (reverse xs) (IsPermutation-reverse xs) a

module _ {S R : Type 0} where
  abbrev bag : PassHolding S R → List R
  bag p = p.bag

  -- one more pass takes the records of the last heap
  pub dealt_bags :
      (passes : List (PassHolding S R)) (x : PassHolding S R) (rest : List (Contents R)) (heap : Contents R) (all : List (List R)) → x.bag ≡ heap.items
      → bags_of passes ++ bags_in (reverse (rest ++ heap ∷ [])) ≡ all → bags_of (passes ++ x ∷ []) ++ bags_in (reverse rest) ≡ all
  dealt_bags passes x rest heap all e h =
      let others = bags_in (reverse rest) in
      let last : bags_in (reverse (rest ++ heap ∷ [])) ≡ x.bag ∷ others = ap bags_in (reverse-append rest (heap ∷ [])) ∙ ap (λ b. b ∷ others) (sym e) in
      ap (λ l. l ++ others) (map-append bag passes (x ∷ [])) ∙ append_assoc (map bag passes) (x.bag ∷ []) others ∙ ap (λ l. map bag passes ++ l) (sym last) ∙ h

  -- passes with the multisets of heaps have their records, and began with as many
  pub bag_same : (passes : List (PassHolding S R)) (heaps : List (Contents R)) → bags_of passes ≡ bags_in heaps → bag_of passes ≡ items_in heaps
  bag_same passes heaps e = sym (flat_map-map (λ (l : List R). l) bag passes) ∙ ap (flat_map (λ (l : List R). l)) e ∙ flat_map-map (λ (l : List R). l) (λ (heap : Contents R). heap.items) heaps

  pub begun_same : (passes : List (PassHolding S R)) → All HasBegun passes → sum_by (λ (p : PassHolding S R). p.key.begun) passes ≡ length (bag_of passes)
  begun_same [] whole = refl
  begun_same (p ∷ ps) whole =
      omega (
        arith,
        sum_by-cons (λ (p : PassHolding S R). p.key.begun) p ps,
        ap length (flat_map-cons bag p ps),
        length-append p.bag (bag_of ps),
        All-head HasBegun p ps whole,
        begun_same ps (All-tail HasBegun p ps whole),
      )

  pub first_same : (passes : List (PassHolding S R)) (heaps : List (Contents R)) → All HasBegun passes → bags_of passes ≡ bags_in heaps → first_begun passes ≡ length (get_or heaps 0 (empty_heap 0)).items
  first_same [] [] whole e = refl
  first_same [] (h ∷ hs) whole e = absurd (omega (arith, ap length e))
  first_same (p ∷ ps) [] whole e = absurd (omega (arith, ap length e))
  first_same (p ∷ ps) (h ∷ hs) whole e = sym (All-head HasBegun p ps whole) ∙ ap length (ap (λ (l : List (List R)). get_or l 0 []) e)

  module _ (sizes : Numbers) (idle idle' : List (Block R)) (s s' : FirstSeats S R) where
    pub items_stay : (n : ℕ) → Equipped sizes n idle idle' s s' → s'.row_seat.hand.items ≡ s.row_seat.hand.items
    items_stay n e = ap (λ (h : RowHand (DeviceBlock S R)). h.items) e.row_hand

    key_stays : (n : ℕ) → Equipped sizes n idle idle' s s' → (begun : ℕ) → session_key sizes s' begun ≡ session_key sizes s begun
    key_stays n e begun =
        let key : TableId → TableId → List (DeviceBlock S R) → PassKey S R = λ row pool items.
        record { row = row; pool = pool; items = items; row_shares = 1; pool_shares = 1; sizes = sizes; begun = begun }
        in
        ap (λ row. key row s'.pool_seat.pool s'.row_seat.hand.items) e.row ∙ ap (λ pool. key s.row_seat.row pool s'.row_seat.hand.items) e.pool ∙ ap (λ items. key s.row_seat.row s.pool_seat.pool items) (items_stay n e)

    -- a pass that is made later has the key of the session
    pub key_is : (n : ℕ) → Equipped sizes n idle idle' s s' → (items : List R) (x : PassHolding S R) → IsNewPass sizes items s' x → x.key ≡ session_key sizes s x.key.begun
    key_is n e items x is = is.key ∙ key_stays n e (length items) ∙ ap (session_key sizes s) (sym (ap (λ k. k.begun) is.key))

    module _ (shown : S → Shown) (width : ℕ) where
      -- what one pass leaves is enough for the others
      pub may_still : (n : ℕ) → MayEquip shown width sizes (n + 1) idle s → Equipped sizes 1 idle idle' s s' → MayEquip shown width sizes n idle' s'
      may_still n m e =
          record {
            buffers = omega (arith, m.buffers, e.buffers);
            blocks = e.blocks;
            row = e.row ∙ m.row ∙ ap (λ h. h.row) (sym e.shared);
            row_shares = omega (arith, m.row_shares, e.row_shares);
            undrawn = ap (λ (h : RowHand (DeviceBlock S R)). h.places) e.row_hand ∙ m.undrawn;
            few_slots = omega (arith, ap length (items_stay 1 e), m.few_slots);
            bytes = subst (All (HasSlot shown (sizes.block * width))) (sym (items_stay 1 e)) m.bytes;
            pool = e.pool ∙ m.pool ∙ ap (λ h. h.pool) (sym e.shared);
            pool_shares = omega (arith, m.pool_shares, e.pool_shares);
            untaken = ap (λ (h : PoolHand (PoolBuf R)). h.numbers) e.pool_hand ∙ m.untaken;
            shape = λ some. ap (λ (h : PoolHand (PoolBuf R)). h.shape) e.pool_hand ∙ m.shape (subst (λ t. 0 < count_of t) e.pool some);
            few_buffers = subst (λ t. count_of t ≤ pool_of sizes) (sym e.pool) m.few_buffers;
          }

  pub one_more : (sizes : Numbers) (idle idle' idle'' : List (Block R)) (s s' s'' : FirstSeats S R) (n : ℕ) → Equipped sizes n idle idle' s s' → Equipped sizes 1 idle' idle'' s' s'' → Equipped sizes (n + 1) idle idle'' s s''
  one_more sizes idle idle' idle'' s s' s'' n e f =
      record {
        buffers = omega (arith, e.buffers, f.buffers);
        blocks = f.blocks;
        shared = f.shared ∙ e.shared;
        row = f.row ∙ e.row;
        row_hand = ap (λ (h : RowHand (DeviceBlock S R)). record h { shares = s.row_seat.hand.shares }) f.row_hand ∙ e.row_hand;
        row_shares = omega (arith, e.row_shares, f.row_shares);
        pool = f.pool ∙ e.pool;
        pool_hand = ap (λ (h : PoolHand (PoolBuf R)). record h { shares = s.pool_seat.hand.shares }) f.pool_hand ∙ e.pool_hand;
        pool_shares = omega (arith, e.pool_shares, f.pool_shares);
      }
