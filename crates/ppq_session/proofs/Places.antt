-- The items at places of which each below a number stands once: they are the first items, in another order.
use Rattle.std.proofs.Common.{◌≡◌, ℕ, zero, suc, ◌+◌, ◌*◌, ◌<◌, ◌≤◌, List, [], ◌∷◌, length, take, sum_by, All, refl, sym, ap, ◌∙◌, arith}
use Rattle.std.proofs.Math.Nat.{add-mul, zero-mul}
use Rattle.std.proofs.lemmas.List.Elements.{All-head, All-tail}
use Rattle.std.proofs.lemmas.List.Sums.{sum_by-cons}
use mathlib.Core.Option.{Option, some, none}
use mathlib.Core.Logic.{dite}
use native.Mathlib.Decide.{ℕ_discrete, dec_le}
use lib.ListN.{get_elem?}
use Rattle.ppq_pass.specs.ppq_table.Sums.{times, once_below}
use Rattle.ppq_pass.proofs.ppq_table.Numbers.{upto, upto-add, upto-same, times-append, times-same, times-other, once-in, once-out}
use Rattle.ppq_pass.specs.Passing.{items_at, with_item}

-- a weight of what is at a place, if there is something
abbrev weigh : {T : Type 0} → (T → ℕ) → Option T → ℕ
weigh w none = 0
weigh w (some x) = w x

upto-within : (f g : ℕ → ℕ) (n : ℕ) → ((x : ℕ) → x < n → f x ≡ g x) → upto f n ≡ upto g n
upto-within f g zero e = refl
upto-within f g (suc n) e = omega (arith, upto-within f g n (λ x h. e x (omega (arith, h))), e n (omega arith))

upto-zero : (f : ℕ → ℕ) (n : ℕ) → ((x : ℕ) → x < n → f x ≡ 0) → upto f n ≡ 0
upto-zero f zero e = refl
upto-zero f (suc n) e = omega (arith, upto-zero f n (λ x h. e x (omega (arith, h))), e n (omega arith))

-- one place of many
upto-pick : (g : ℕ → ℕ) (y n : ℕ) → y < n → upto (λ x. times x (y ∷ []) * g x) n ≡ g y
upto-pick g y zero h = absurd (omega arith)
upto-pick g y (suc n) h =
    dite (ℕ_discrete y n)
    (λ e.
    let last : times n (y ∷ []) * g n ≡ 1 * g n = ap (λ k. k * g n) (times-same y n e) in
    let rest = upto-zero (λ x. times x (y ∷ []) * g x) n (λ x l. ap (λ k. k * g x) (times-other y x (λ s. absurd (omega (arith, e, s, l)))) ∙ zero-mul (g x)) in
    omega (arith, last, rest, ap g e))
    (λ ne.
    let last : times n (y ∷ []) * g n ≡ 0 * g n = ap (λ k. k * g n) (times-other y n ne) in
    omega (arith, last, upto-pick g y n (below y n h ne)))
  where
    below : (y n : ℕ) → y < suc n → (y ≡ n → ⊥) → y < n
    below y n h ne = dite (dec_le (suc y) n) (λ l. l) (λ l. absurd (ne (omega (arith, h, l))))

-- a weight of all places, by how often each number stands there
sum-times : (g : ℕ → ℕ) (places : List ℕ) (n : ℕ) → All (λ p. p < n) places → sum_by g places ≡ upto (λ x. times x places * g x) n
sum-times g [] n all = sym (upto-zero (λ x. times x [] * g x) n (λ x h. zero-mul (g x)))
sum-times g (p ∷ ps) n all =
    let parts : upto (λ x. times x (p ∷ ps) * g x) n ≡ upto (λ x. times x (p ∷ []) * g x + times x ps * g x) n =
    upto-same (λ x. times x (p ∷ ps) * g x) (λ x. times x (p ∷ []) * g x + times x ps * g x) n (λ x. ap (λ k. k * g x) (times-append x (p ∷ []) ps) ∙ add-mul (times x (p ∷ [])) (times x ps) (g x))
    in
    omega (
      arith,
      parts,
      upto-add (λ x. times x (p ∷ []) * g x) (λ x. times x ps * g x) n,
      upto-pick g p n (All-head (λ p. p < n) p ps all),
      sum-times g ps n (All-tail (λ p. p < n) p ps all),
      sum_by-cons g p ps,
    )

one_times : (k : ℕ) → 1 * k ≡ k
one_times k = omega arith

-- each number below k once
sum-once : (g : ℕ → ℕ) (k n : ℕ) → k ≤ n → upto (λ x. once_below x k * g x) n ≡ upto g k
sum-once g k zero h = ap (upto g) (none k h)
  where
    none : (k : ℕ) → k ≤ 0 → 0 ≡ k
    none k h = omega arith
sum-once g k (suc n) h =
    dite (dec_le k n)
    (λ l.
    let last : once_below n k * g n ≡ 0 * g n = ap (λ m. m * g n) (once-out n k l) in
    omega (arith, last, sum-once g k n l))
    (λ l.
    let all = upto-within (λ x. once_below x k * g x) g (suc n) (λ x s. ap (λ m. m * g x) (once-in x k (omega (arith, s, l))) ∙ one_times (g x)) in
    all ∙ ap (upto g) (last k n h l))
  where
    last : (k n : ℕ) → k ≤ suc n → (k ≤ n → ⊥) → suc n ≡ k
    last k n h l = dite (ℕ_discrete (suc n) k) (λ e. e) (λ ne. absurd (l (omega (arith, h, ne))))

module _ {T : Type 0} (w : T → ℕ) where
  put-item : (o : Option T) (xs : List T) → sum_by w (with_item o xs) ≡ weigh w o + sum_by w xs
  put-item none xs = omega arith
  put-item (some x) xs = sum_by-cons w x xs

  sum-at : (items : List T) (places : List ℕ) → sum_by w (items_at items places) ≡ sum_by (λ p. weigh w (get_elem? items p)) places
  sum-at items [] = refl
  sum-at items (p ∷ ps) = omega (arith, put-item (get_elem? items p) (items_at items ps), sum-at items ps, sum_by-cons (λ p. weigh w (get_elem? items p)) p ps)

  upto-shift : (f : ℕ → ℕ) (k : ℕ) → upto f (suc k) ≡ f 0 + upto (λ x. f (suc x)) k
  upto-shift f zero = omega arith
  upto-shift f (suc k) = omega (arith, upto-shift f k)

  upto-take : (items : List T) (k : ℕ) → k ≤ length items → upto (λ x. weigh w (get_elem? items x)) k ≡ sum_by w (take k items)
  upto-take items zero h = refl
  upto-take [] (suc k) h = absurd (omega arith)
  upto-take (x ∷ xs) (suc k) h = omega (arith, upto-shift (λ i. weigh w (get_elem? (x ∷ xs) i)) k, upto-take xs k (omega (arith, h)), sum_by-cons w x (take k xs))

  -- the items at places of which each number below k is one, and no other
  pub items_at-once : (items : List T) (places : List ℕ) (k : ℕ) → k ≤ length items → All (λ p. p < length items) places → ((x : ℕ) → times x places ≡ once_below x k) → sum_by w (items_at items places) ≡ sum_by w (take k items)
  items_at-once items places k few all once =
      let g : ℕ → ℕ = λ p. weigh w (get_elem? items p) in
      sum-at items places
      ∙ sum-times g places (length items) all
      ∙ upto-same (λ x. times x places * g x) (λ x. once_below x k * g x) (length items) (λ x. ap (λ m. m * g x) (once x))
      ∙ sum-once g k (length items) few
      ∙ upto-take items k few
