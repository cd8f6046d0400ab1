-- The item at a place of joined and of reversed lists, and the records of buffers one after the other.
use Rattle.std.proofs.Common.{◌≡◌, ℕ, zero, suc, ◌+◌, ◌-◌, ◌<◌, ◌≤◌, List, [], ◌∷◌, ◌++◌, length, reverse, Some, refl, sym, ap, ap₂, ◌∙◌, arith, length-append, append-nil}
use Rattle.std.proofs.lemmas.List.{reverse-append}
use Rattle.std.proofs.lemmas.Option.{slice_get_within}
use Rattle.std.proofs.lemmas.Grind.{flat_map-append}
use Rattle.std.proofs.lemmas.List.Concat.{flat_map-cons}
use Rattle.std.specs.List.{slice_get}
use Rattle.ppq_block.specs.Block.{Block, all_items}

module _ {X : Type 0} where
  pub slice_get-left : (xs ys : List X) (i : ℕ) → i < length xs → slice_get (xs ++ ys) i ≡ slice_get xs i
  slice_get-left [] ys i h = absurd (omega arith)
  slice_get-left (x ∷ xs) ys zero h = refl
  slice_get-left (x ∷ xs) ys (suc i) h = slice_get-left xs ys i (omega arith)

  pub slice_get-right : (xs ys : List X) (i j : ℕ) → i ≡ length xs + j → slice_get (xs ++ ys) i ≡ slice_get ys j
  slice_get-right [] ys i j e = let k : i ≡ j = omega arith in ap (slice_get ys) k
  slice_get-right (x ∷ xs) ys zero j e = absurd (omega arith)
  slice_get-right (x ∷ xs) ys (suc i) j e = slice_get-right xs ys i j (omega arith)

  pub found-left : (xs ys : List X) (i : ℕ) (x : X) → slice_get xs i ≡ Some x → slice_get (xs ++ ys) i ≡ Some x
  found-left xs ys i x e = slice_get-left xs ys i (slice_get_within xs i x e) ∙ e

  pub reverse-cons : (x : X) (xs : List X) → reverse (x ∷ xs) ≡ reverse xs ++ x ∷ []
  reverse-cons x xs = reverse-append (x ∷ []) xs

  -- where the first list is empty only with the second, both joined are empty exactly with it
  pub append-empty : (xs ys : List X) → (xs ≡ [] → ys ≡ []) → xs ≡ [] → xs ++ reverse ys ≡ []
  append-empty xs ys both e = ap₂ (λ (a b : List X). a ++ reverse b) e (both e)

  pub left-empty : (xs ys : List X) → xs ++ ys ≡ [] → xs ≡ []
  left-empty [] ys e = refl
  left-empty (x ∷ xs) ys e = let k : suc (length (xs ++ ys)) ≡ 0 = ap length e in absurd (omega arith)

module _ {R : Type 0} where
  pub all_items-cons : (b : Block R) (bs : List (Block R)) → all_items (b ∷ bs) ≡ b.items ++ all_items bs
  all_items-cons b bs = flat_map-cons (λ b. b.items) b bs

  pub all_items-append : (bs cs : List (Block R)) → all_items (bs ++ cs) ≡ all_items bs ++ all_items cs
  all_items-append bs cs = flat_map-append (λ b. b.items) bs cs

  all_items-one : (b : Block R) → all_items (b ∷ []) ≡ b.items
  all_items-one b = all_items-cons b [] ∙ append-nil b.items

  pub all_items-reverse_cons : (b : Block R) (bs : List (Block R)) → all_items (reverse (b ∷ bs)) ≡ all_items (reverse bs) ++ b.items
  all_items-reverse_cons b bs = ap all_items (reverse-cons b bs) ∙ all_items-append (reverse bs) (b ∷ []) ∙ ap (λ xs. all_items (reverse bs) ++ xs) (all_items-one b)

  pub length-all_items_reverse : (bs : List (Block R)) → length (all_items (reverse bs)) ≡ length (all_items bs)
  length-all_items_reverse [] = refl
  length-all_items_reverse (b ∷ bs) =
      omega (arith, ap length (all_items-reverse_cons b bs), length-append (all_items (reverse bs)) b.items, ap length (all_items-cons b bs), length-append b.items (all_items bs), length-all_items_reverse bs)

  -- the record at place k from the end lies in the last buffer
  pub end-here : (b : Block R) (bs : List (Block R)) (k : ℕ) (r : R) → k < length b.items → slice_get b.items (length b.items - 1 - k) ≡ Some r → slice_get (all_items (reverse (b ∷ bs))) (length (all_items (reverse (b ∷ bs))) - (k + 1)) ≡ Some r
  end-here b bs k r h e =
      let all = all_items-reverse_cons b bs in
      let place : length (all_items (reverse (b ∷ bs))) - (k + 1) ≡ length (all_items (reverse bs)) + (length b.items - 1 - k) = omega (arith, ap length all, length-append (all_items (reverse bs)) b.items) in
      ap (λ xs. slice_get xs (length (all_items (reverse (b ∷ bs))) - (k + 1))) all
      ∙ slice_get-right (all_items (reverse bs)) b.items (length (all_items (reverse (b ∷ bs))) - (k + 1)) (length b.items - 1 - k) place ∙ e

  -- it lies before the last buffer
  pub end-further : (b : Block R) (bs : List (Block R)) (k n : ℕ) → n ≡ length b.items → n ≤ k → k < length (all_items (reverse (b ∷ bs)))
      → (k - n < length (all_items (reverse bs)))
      × (slice_get (all_items (reverse bs)) (length (all_items (reverse bs)) - (k - n + 1)) ≡ slice_get (all_items (reverse (b ∷ bs))) (length (all_items (reverse (b ∷ bs))) - (k + 1)))
  end-further b bs k n long h within =
      let all = all_items-reverse_cons b bs in
      let total : length (all_items (reverse (b ∷ bs))) ≡ length (all_items (reverse bs)) + length b.items = ap length all ∙ length-append (all_items (reverse bs)) b.items in
      let place : length (all_items (reverse (b ∷ bs))) - (k + 1) ≡ length (all_items (reverse bs)) - (k - n + 1) = omega arith in (
        omega arith,
        sym (ap (λ xs. slice_get xs (length (all_items (reverse (b ∷ bs))) - (k + 1))) all
            ∙ ap (slice_get (all_items (reverse bs) ++ b.items)) place
            ∙ slice_get-left (all_items (reverse bs)) b.items (length (all_items (reverse bs)) - (k - n + 1)) (omega arith)),
      )
