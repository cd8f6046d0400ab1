-- The same slots after calls of them.
use Rattle.std.proofs.Common.{◌≡◌, ℕ, ◌+◌, ◌≤◌, ◌==◌, Bool, true, false, cond, List, ◌∷◌, ◌++◌, length, sum_by, refl, sym, ap, ap₂, ◌∙◌, arith, length-append}
use Rattle.std.proofs.lemmas.List.Sums.{sum_by-cons, sum_by-append}
use Rattle.ppq_fetch.specs.ppq_outside.Shown.{Shown}
use Rattle.ppq_fetch.specs.ppq_array.Kept.{SameSlots, weight_at, overread}
use Rattle.ppq_spill.specs.Writing.{Grew}

pub SameSlots-refl : (slots : List Shown) → SameSlots slots slots
SameSlots-refl slots = record { length = refl; each_once = λ n. refl; faults = λ n. omega arith; writes = λ n. omega arith; reads = λ n. omega arith; sizes = λ n. refl; overreads = omega arith }

pub SameSlots-trans : (a b c : List Shown) → SameSlots a b → SameSlots b c → SameSlots a c
SameSlots-trans a b c h k =
    record {
      length = k.length ∙ h.length;
      each_once = λ n. k.each_once n ∙ h.each_once n;
      faults = λ n. omega (arith, h.faults n, k.faults n);
      writes = λ n. omega (arith, h.writes n, k.writes n);
      reads = λ n. omega (arith, h.reads n, k.reads n);
      sizes = λ n. k.sizes n ∙ h.sizes n;
      overreads = omega (arith, h.overreads, k.overreads);
    }

cond_le : (b : Bool) (x y : ℕ) → x ≤ y → cond b x 0 ≤ cond b y 0
cond_le true x y h = h
cond_le false x y h = omega arith

weight_grows : (f : Shown → ℕ) (n : ℕ) (s t : Shown) → t.number ≡ s.number → f s ≤ f t → weight_at f n s ≤ weight_at f n t
weight_grows f n s t e h =
    let same : cond (t.number == n) (f t) 0 ≡ cond (s.number == n) (f t) 0 = ap (λ k. cond (k == n) (f t) 0) e in
    omega (arith, same, cond_le (s.number == n) (f s) (f t) h)

sums_in : (f : Shown → ℕ) (xs ys : List Shown) (s : Shown) → sum_by f (xs ++ s ∷ ys) ≡ sum_by f xs + (f s + sum_by f ys)
sums_in f xs ys s = omega (arith, sum_by-append f xs (s ∷ ys), sum_by-cons f s ys)

-- one of the slots grew
pub SameSlots-grown : (xs ys : List Shown) (s t : Shown) → Grew s t → SameSlots (xs ++ s ∷ ys) (xs ++ t ∷ ys)
SameSlots-grown xs ys s t g =
    record {
      length = (let e : length (xs ++ t ∷ ys) ≡ length (xs ++ s ∷ ys) = omega (arith, length-append xs (t ∷ ys), length-append xs (s ∷ ys)) in e);
      each_once = λ n.
          let w = weight_at (λ s. 1) n in
          let same : w t ≡ w s = ap (λ k. cond (k == n) 1 0) g.number in
          omega (arith, sums_in w xs ys s, sums_in w xs ys t, same);
      faults = λ n. let w = weight_at (λ s. s.faults) n in omega (arith, sums_in w xs ys s, sums_in w xs ys t, weight_grows (λ s. s.faults) n s t g.number g.faults);
      writes = λ n. let w = weight_at (λ s. s.writes) n in omega (arith, sums_in w xs ys s, sums_in w xs ys t, weight_grows (λ s. s.writes) n s t g.number g.writes);
      reads = λ n. let w = weight_at (λ s. s.reads) n in omega (arith, sums_in w xs ys s, sums_in w xs ys t, weight_grows (λ s. s.reads) n s t g.number (omega (arith, g.reads)));
      sizes = λ n.
          let w = weight_at (λ s. s.size) n in
          let same : w t ≡ w s = ap₂ (λ k z. cond (k == n) z 0) g.number g.size in
          omega (arith, sums_in w xs ys s, sums_in w xs ys t, same);
      overreads = omega (arith, sums_in overread xs ys s, sums_in overread xs ys t, g.reads, g.writes);
    }

-- slots that add up to the same
pub SameSlots-sums : (a b : List Shown) → ((f : Shown → ℕ) → sum_by f a ≡ sum_by f b) → length a ≡ length b → SameSlots a b
SameSlots-sums a b h e =
    record {
      length = sym e;
      each_once = λ n. sym (h (weight_at (λ s. 1) n));
      faults = λ n. omega (arith, h (weight_at (λ s. s.faults) n));
      writes = λ n. omega (arith, h (weight_at (λ s. s.writes) n));
      reads = λ n. omega (arith, h (weight_at (λ s. s.reads) n));
      sizes = λ n. sym (h (weight_at (λ s. s.size) n));
      overreads = omega (arith, h overread);
    }
