-- Slots and buffers are kept, whatever storing a run answers.
use Rattle.std.proofs.Common.{◌≡◌, ℕ, suc, ◌+◌, ◌*◌, ◌<◌, ◌≤◌, List, [], ◌∷◌, ◌++◌, length, map, sum_by, All, refl, sym, ap, ◌∙◌, subst, arith, append-nil}
use Rattle.std.proofs.lemmas.Nat.{mul-le}
use Rattle.std.proofs.Math.Nat.{suc-mul}
use Rattle.std.proofs.lemmas.Grind.{flat_map-append}
use Rattle.std.proofs.lemmas.List.Concat.{flat_map-cons}
use Rattle.std.proofs.lemmas.List.Sums.{sum_by-cons, sum_by-append}
use Rattle.std.proofs.lemmas.List.Elements.{All-cons, All-head, All-tail}
use Rattle.ppq_fetch.specs.ppq_outside.Shown.{Shown}
use Rattle.ppq_fetch.specs.ppq_array.declared.berth.DeviceBlock.{DeviceBlock}
use Rattle.ppq_fetch.specs.ppq_array.Run.{Run, run_of, buffers_of}
use Rattle.ppq_fetch.specs.ppq_array.External.{External, external}
use Rattle.ppq_fetch.specs.ppq_array.Owner.{slots_shown, HasBlock}
use Rattle.ppq_fetch.specs.ppq_array.Holdings.{internal_buffers, external_slots, external_buffers, RunHasBlock}

-- fewer blocks than so many records need
pub too_few : (k need n block : ℕ) → k < need → need * block < n + block → k * block < n
too_few k need n block h least =
    let more : (k + 1) * block ≤ need * block = mul-le (k + 1) block need block (omega arith) (omega arith) in
    let next : (k + 1) * block ≡ k * block + block = one_more k block in
    omega (arith, more, next, least)
  where
    one_more : (k b : ℕ) → (k + 1) * b ≡ k * b + b
    one_more k b = let e : k + 1 ≡ suc k = omega arith in ap (λ n. n * b) e ∙ suc-mul k b

pub sum_ones : (xs : List Shown) → sum_by (λ _. 1) xs ≡ length xs
sum_ones [] = refl
sum_ones (x ∷ xs) = let e : sum_by (λ _. 1) (x ∷ xs) ≡ suc (length xs) = omega (arith, sum_by-cons (λ (_ : Shown). 1) x xs, sum_ones xs) in e

module _ {R : Type 0} where
  -- runs that only lost records have the same buffers
  pub same_buffers : (runs runs' : List (Run R)) → map buffers_of runs' ≡ map buffers_of runs → internal_buffers runs' ≡ internal_buffers runs
  same_buffers [] [] e = refl
  same_buffers [] (x ∷ xs) e = absurd (cc)
  same_buffers (x ∷ xs) [] e = absurd (cc)
  same_buffers (x ∷ xs) (y ∷ ys) e =
      let head : buffers_of y ≡ buffers_of x = cc in
      let tail : map buffers_of ys ≡ map buffers_of xs = cc in
      omega (arith, sum_by-cons (λ (run : Run R). length (buffers_of run)) x xs, sum_by-cons (λ (run : Run R). length (buffers_of run)) y ys, ap length head, same_buffers xs ys tail)

  pub same_blocks : (block : ℕ) (runs runs' : List (Run R)) → map buffers_of runs' ≡ map buffers_of runs → All (RunHasBlock block) runs → All (RunHasBlock block) runs'
  same_blocks block [] [] e a = a
  same_blocks block [] (x ∷ xs) e a = absurd (cc)
  same_blocks block (x ∷ xs) [] e a = absurd (cc)
  same_blocks block (x ∷ xs) (y ∷ ys) e a =
      let head : buffers_of y ≡ buffers_of x = cc in
      let tail : map buffers_of ys ≡ map buffers_of xs = cc in
      All-cons (RunHasBlock block) y ys (subst (All (HasBlock block)) (sym head) (All-head (RunHasBlock block) x xs a)) (same_blocks block xs ys tail (All-tail (RunHasBlock block) x xs a))

module _ {S R : Type 0} (shown : S → Shown) where
  -- one more run of blocks
  pub slots_more : (arrays : List (External S R)) (array : External S R) → external_slots shown (arrays ++ array ∷ []) ≡ external_slots shown arrays ++ slots_shown shown array.stored
  slots_more arrays array =
      flat_map-append (λ (a : External S R). slots_shown shown a.stored) arrays (array ∷ [])
      ∙ ap (λ xs. external_slots shown arrays ++ xs) (flat_map-cons (λ (a : External S R). slots_shown shown a.stored) array [] ∙ append-nil (slots_shown shown array.stored))

  pub buffers_more : (arrays : List (External S R)) (array : External S R) → array ≡ external 0 (run_of [] 0 []) [] array.stored → external_buffers (arrays ++ array ∷ []) ≡ external_buffers arrays
  buffers_more arrays array e =
      let none : length (buffers_of array.loaded) ≡ 0 = ap (λ a. length (buffers_of a.loaded)) e in
      omega (arith, sum_by-append (λ (a : External S R). length (buffers_of a.loaded)) arrays (array ∷ []), sum_by-cons (λ (a : External S R). length (buffers_of a.loaded)) array [], none)

  pub slots_long : (blocks : List (DeviceBlock S R)) → length (slots_shown shown blocks) ≡ length blocks
  slots_long [] = refl
  slots_long (b ∷ bs) = ap suc (slots_long bs)
