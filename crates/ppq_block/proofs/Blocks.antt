-- Records read out of bytes: how many, which, and what their bytes are.
use Rattle.std.proofs.Common.{◌≡◌, ℕ, zero, suc, ◌+◌, ◌*◌, ◌<◌, ◌≤◌, List, [], ◌∷◌, ◌++◌, length, take, drop, flat_map, All, Some, refl, sym, ap, ap₂, ◌∙◌, arith, length-drop}
use Rattle.std.proofs.lemmas.List.{drop-take}
use Rattle.std.proofs.lemmas.List.Elements.{All-take, All-drop}
use Rattle.std.proofs.lemmas.List.Concat.{flat_map-cons}
use Rattle.std.specs.List.{slice_get}
use Rattle.std.proofs.Math.Seq.{take-add, take-take, drop-drop, length-take-le}
use Rattle.std.proofs.Math.Nat.{suc-mul}
use Rattle.ppq_record.specs.Given.{records_from}

-- one piece further
drop_further : (w i : ℕ) (b : List ℕ) → drop (i * w) (drop w b) ≡ drop (suc i * w) b
drop_further w i b = let e : w + i * w ≡ suc i * w = omega (arith, suc-mul i w) in drop-drop (i * w) w b ∙ ap (λ k. drop k b) e

module _ {R : Type 0} (f : List ℕ → R) (w : ℕ) where
  pub length-records_from : (n : ℕ) (b : List ℕ) → length (records_from f w n b) ≡ n
  length-records_from zero b = refl
  length-records_from (suc n) b = ap suc (length-records_from n (drop w b))

  pub slice_get-records_from : (n : ℕ) (b : List ℕ) (i : ℕ) → i < n → slice_get (records_from f w n b) i ≡ Some (f (take w (drop (i * w) b)))
  slice_get-records_from zero b i h = absurd (omega arith)
  slice_get-records_from (suc n) b zero h = let e : 0 ≡ 0 * w = omega arith in ap (λ k. Some (f (take w (drop k b)))) e
  slice_get-records_from (suc n) b (suc i) h = slice_get-records_from n (drop w b) i (omega arith) ∙ ap (λ x. Some (f (take w x))) (drop_further w i b)

  -- one record more
  pub records_from-suc : (n : ℕ) (b : List ℕ) → records_from f w (suc n) b ≡ records_from f w n b ++ f (take w (drop (n * w) b)) ∷ []
  records_from-suc zero b = let e : 0 ≡ 0 * w = omega arith in ap (λ k. f (take w (drop k b)) ∷ []) e
  records_from-suc (suc n) b = ap (λ (xs : List R). f (take w b) ∷ xs) (records_from-suc n (drop w b) ∙ ap (λ x. records_from f w n (drop w b) ++ f (take w x) ∷ []) (drop_further w n b))

  -- only the bytes of the records count
  pub records_from-take : (n : ℕ) (b : List ℕ) → records_from f w n (take (n * w) b) ≡ records_from f w n b
  records_from-take zero b = refl
  records_from-take (suc n) b =
      let e : suc n * w ≡ w + n * w = omega (arith, suc-mul n w) in
      let head : take w (take (suc n * w) b) ≡ take w b = take-take w (suc n * w) b (omega (arith, e)) in
      let tail : drop w (take (suc n * w) b) ≡ take (n * w) (drop w b) = ap (λ k. drop w (take k b)) e ∙ drop-take w (n * w) b in
      ap₂ (λ (x : List ℕ) (xs : List R). f x ∷ xs) head (ap (records_from f w n) tail ∙ records_from-take n (drop w b))

  pub flat_map-records_from :
      (g : R → List ℕ) → ((b : List ℕ) → length b ≡ w → All (λ x. x < 256) b → g (f b) ≡ b)
      → (n : ℕ) (b : List ℕ) → All (λ x. x < 256) b → n * w ≤ length b → flat_map g (records_from f w n b) ≡ take (n * w) b
  flat_map-records_from g back zero b below long = let e : 0 ≡ 0 * w = omega arith in ap (λ k. take k b) e
  flat_map-records_from g back (suc n) b below long =
      let e : suc n * w ≡ w + n * w = omega (arith, suc-mul n w) in
      let head : g (f (take w b)) ≡ take w b = back (take w b) (length-take-le w b (omega (arith, e))) (All-take (λ x. x < 256) w b below) in
      let tail = flat_map-records_from g back n (drop w b) (All-drop (λ x. x < 256) w b below) (omega (arith, e, length-drop w b)) in
      flat_map-cons g (f (take w b)) (records_from f w n (drop w b)) ∙ ap₂ (λ (x y : List ℕ). x ++ y) head tail ∙ sym (ap (λ k. take k b) e ∙ take-add w (n * w) b)
