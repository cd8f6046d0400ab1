-- The records that stand in a piece of bytes: how many they are, the first one, and some in a row.
use Rattle.std.proofs.Common.{◌≡◌, ℕ, zero, suc, ◌+◌, ◌-◌, ◌*◌, ◌/◌, ◌<◌, ◌≤◌, List, [], ◌∷◌, length, take, drop, min, sym, ap, ap₂, ◌∙◌, arith, length-drop, length-take-le}
use Rattle.std.proofs.lemmas.List.{drop-drop}
use Rattle.std.proofs.Math.Nat.{suc-mul, add-mul, mul-div_cancel, add-div_right, div-eq_of_lt}
use Rattle.ppq_record.specs.Given.{records_from}
use Rattle.ppq_load.specs.Given.{records_of}
use Rattle.ppq_files.proofs.Widths.{fit}
use Rattle.ppq_session.proofs.Adding.{drop_within}
use Rattle.ppq_session.proofs.ppq_block.Blocks.{length-records_from, records_from-take}

module _ {R : Type 0} (f : List ℕ → R) (w : ℕ) where
  -- the first k of n records
  records-take : (n k : ℕ) (b : List ℕ) → take k (records_from f w n b) ≡ records_from f w (min k n) b
  records-take n zero b = let e : zero ≡ min zero n = omega arith in ap (λ m. records_from f w m b) e
  records-take zero (suc k) b = let e : zero ≡ min (suc k) zero = omega arith in ap (λ m. records_from f w m b) e
  records-take (suc n) (suc k) b =
      let e : suc (min k n) ≡ min (suc k) (suc n) = omega arith in
      ap (λ (xs : List R). f (take w b) ∷ xs) (records-take n k (drop w b)) ∙ ap (λ m. records_from f w m b) e

  -- those behind the first k
  records-drop : (n k : ℕ) (b : List ℕ) → k ≤ n → drop k (records_from f w n b) ≡ records_from f w (n - k) (drop (k * w) b)
  records-drop n zero b few =
      let all : n ≡ n - zero = omega arith in
      let start : zero ≡ zero * w = omega arith in
      ap₂ (λ (m i : ℕ). records_from f w m (drop i b)) all start
  records-drop zero (suc k) b few = absurd (omega arith)
  records-drop (suc n) (suc k) b few =
      let left : n - k ≡ suc n - suc k = omega arith in
      let at : w + k * w ≡ suc k * w = omega (arith, suc-mul k w) in
      records-drop n k (drop w b) (omega arith) ∙ ap₂ (λ (m : ℕ) (t : List ℕ). records_from f w m t) left (drop-drop (k * w) w b ∙ ap (λ i. drop i b) at)

  -- a piece that is as long as so many records has just these
  pub whole-piece : (b : List ℕ) (count : ℕ) → 1 ≤ w → length b ≡ count * w → records_of f w b ≡ records_from f w count b
  whole-piece b count some long = ap (λ n. records_from f w n b) (ap (λ n. n / w) long ∙ mul-div_cancel count some)

  -- how many stand in a piece
  pub length-piece : (b : List ℕ) → length (records_of f w b) ≡ length b / w
  length-piece b = length-records_from f w (length b / w) b

  -- the first one, and those behind it
  pub piece-first : (b : List ℕ) → 1 ≤ w → w ≤ length b → records_of f w b ≡ f (take w b) ∷ records_of f w (drop w b)
  piece-first b some room =
      let rest = length (drop w b) in
      let long : length b ≡ rest + w = omega (arith, length-drop w b) in
      let count : length b / w ≡ suc (rest / w) = ap (λ n. n / w) long ∙ omega (arith, add-div_right rest some) in
      ap (λ n. records_from f w n b) count

  -- none stands in fewer bytes than one has
  pub piece-none : (b : List ℕ) → length b < w → records_of f w b ≡ []
  piece-none b few = ap (λ n. records_from f w n b) (div-eq_of_lt few)

  -- at most k of those behind the first `from`
  pub piece-part :
      (b : List ℕ) (from k skipped own : ℕ) → 1 ≤ w → skipped ≡ min from (length b / w) → own ≡ min k (length b / w - skipped)
      → records_of f w (take (own * w) (drop (skipped * w) b)) ≡ take k (drop from (records_of f w b))
  piece-part b from k skipped own some is few =
      let n = length b / w in
      let part = take (own * w) (drop (skipped * w) b) in
      let within : (skipped + own) * w ≤ length b = fit (skipped + own) (length b) w (omega (arith, is, few)) in
      let room : own * w ≤ length (drop (skipped * w) b) = omega (arith, within, add-mul skipped own w, length-drop (skipped * w) b) in
      let there : drop from (records_of f w b) ≡ records_from f w (n - skipped) (drop (skipped * w) b) =
      sym (drop_within (records_of f w b) skipped from (omega (arith, is, length-piece b))) ∙ records-drop n skipped b (omega (arith, is)) in
      whole-piece part own some (length-take-le (own * w) (drop (skipped * w) b) room) ∙ records_from-take f w own (drop (skipped * w) b) ∙ ap (λ m. records_from f w m (drop (skipped * w) b)) few
      ∙ sym (records-take (n - skipped) k (drop (skipped * w) b)) ∙ ap (take k) (sym there)
