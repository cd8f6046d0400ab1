-- A loop that changes the items of a list, one after the other.
use Rattle.std.proofs.Common.{◌≡◌, ℕ, zero, suc, ◌+◌, ◌<◌, List, [], ◌∷◌, length, take, drop, All, slice_index_or, slice_set, sym, ◌∙◌, subst, arith}
use Rattle.std.proofs.Math.Seq.{drop-nil}
use Rattle.std.specs.List.{AllZip}

module _ {X : Type 0} (R : X → X → Type 0) where
  zip_step :
      (all now : List X) (i : ℕ) (d y : X) → AllZip R (take i all) (take i now) → drop i now ≡ drop i all → i < length now → R (slice_index_or now i d) y
      → AllZip R (take (suc i) all) (take (suc i) (slice_set now i y)) × (drop (suc i) (slice_set now i y) ≡ drop (suc i) all)
  zip_step all [] i d y zipped rest within step = absurd (omega arith)
  zip_step [] (x ∷ now) zero d y zipped rest within step = absurd (cc)
  zip_step (a ∷ all) (x ∷ now) zero d y zipped rest within step =
      let head : x ≡ a = cc in
      let tail : now ≡ all = cc in
      ((subst (λ z. R z y) head step, tt), tail)
  zip_step [] (x ∷ now) (suc i) d y zipped rest within step = absurd zipped
  zip_step (a ∷ all) (x ∷ now) (suc i) d y zipped rest within step =
      let next = zip_step all now i d y zipped.1 rest (omega arith) step in
      ((zipped.0, next.0), next.1)

  pub stepped :
      (all now : List X) (i n : ℕ) (d y : X) → n ≡ i + 1 → AllZip R (take i all) (take i now) → drop i now ≡ drop i all → i < length now → R (slice_index_or now i d) y
      → AllZip R (take n all) (take n (slice_set now i y)) × (drop n (slice_set now i y) ≡ drop n all)
  stepped all now i n d y e zipped rest within step =
      let k : suc i ≡ n = omega arith in
      subst (λ n. AllZip R (take n all) (take n (slice_set now i y)) × (drop n (slice_set now i y) ≡ drop n all)) k (zip_step all now i d y zipped rest within step)

-- what is not reached yet is as it was
pub unreached : {X : Type 0} (P : X → Type 0) (all now : List X) (i : ℕ) (d : X) → drop i now ≡ drop i all → i < length now → All P all → P (slice_index_or now i d)
unreached P all [] i d rest within every = absurd (omega arith)
unreached P [] (x ∷ now) zero d rest within every = absurd (cc)
unreached P (a ∷ all) (x ∷ now) zero d rest within every = let head : a ≡ x = cc in subst P head (every 0 a (omega arith))
unreached P [] (x ∷ now) (suc i) d rest within every = unreached P [] now i d (rest ∙ drop-nil (suc i) ∙ sym (drop-nil i)) (omega arith) every
unreached P (a ∷ all) (x ∷ now) (suc i) d rest within every = unreached P all now i d rest (omega arith) (λ k e h. every (suc k) e (omega arith))
