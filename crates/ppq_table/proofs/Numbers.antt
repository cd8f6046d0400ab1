-- How often numbers stand in lists.
use Rattle.std.proofs.Common.{◌≡◌, ◌≢◌, ℕ, zero, suc, ◌+◌, ◌<◌, ◌≤◌, min, List, [], ◌∷◌, ◌++◌, length, sym, refl, subst, All, arith}
use Rattle.std.proofs.lemmas.List.Elements.{All-head, All-tail}
use mathlib.Core.Logic.{dite}
use native.Mathlib.Decide.{dec_le, ℕ_discrete}
use Rattle.ppq_table.specs.Sums.{times, once_below}

pub times-cons : (x y : ℕ) (ys : List ℕ) → times x (y ∷ ys) ≡ times x (y ∷ []) + times x ys
times-cons x y ys = omega arith

pub times-append : (x : ℕ) (a b : List ℕ) → times x (a ++ b) ≡ times x a + times x b
times-append x [] b = omega arith
times-append x (y ∷ ys) b = omega (arith, times-append x ys b)

pub times-same : (y x : ℕ) → y ≡ x → times x (y ∷ []) ≡ 1
times-same y x e = grind arith

pub times-other : (y x : ℕ) → y ≢ x → times x (y ∷ []) ≡ 0
times-other y x e = grind arith

-- what holds of all in the list holds of one that stands in it
pub times_in : (P : ℕ → Type 0) (x : ℕ) (xs : List ℕ) → 0 < times x xs → All P xs → P x
times_in P x [] h all = absurd (omega arith)
times_in P x (y ∷ ys) h all = dite (ℕ_discrete y x) (λ e. subst P e (All-head P y ys all)) (λ n. times_in P x ys (omega (arith, times-cons x y ys, times-other y x n)) (All-tail P y ys all))

pub once-in : (x n : ℕ) → x < n → once_below x n ≡ 1
once-in x n h = grind arith

pub once-out : (x n : ℕ) → n ≤ x → once_below x n ≡ 0
once-out x n h = grind arith

-- where the end n of the numbers below c and n moves by one, the number c is one more
pub once-more : (x c n : ℕ) → c < n → once_below x (min (c + 1) n) ≡ once_below x (min c n) + times x (c ∷ [])
once-more x c n h = grind arith

-- f of each number below n, added up
abbrev pub upto : (ℕ → ℕ) → ℕ → ℕ
upto f zero = 0
upto f (suc n) = upto f n + f n

pub upto-add : (f g : ℕ → ℕ) (n : ℕ) → upto (λ x. f x + g x) n ≡ upto f n + upto g n
upto-add f g zero = refl
upto-add f g (suc n) = omega (arith, upto-add f g n)

pub upto-same : (f g : ℕ → ℕ) (n : ℕ) → ((x : ℕ) → f x ≡ g x) → upto f n ≡ upto g n
upto-same f g zero e = refl
upto-same f g (suc n) e = omega (arith, upto-same f g n e, e n)

upto-zero : (n : ℕ) → upto (λ x. 0) n ≡ 0
upto-zero zero = refl
upto-zero (suc n) = omega (arith, upto-zero n)

upto-one : (y n : ℕ) → upto (λ x. times x (y ∷ [])) n ≡ once_below y n
upto-one y zero = sym (once-out y 0 (omega arith))
upto-one y (suc n) = dite (ℕ_discrete y n) (λ e. omega (arith, upto-one y n, times-same y n e, once-out y n (omega arith), once-in y (suc n) (omega arith)))
    (λ ne. dite (dec_le (suc y) n) (λ h. omega (arith, upto-one y n, times-other y n ne, once-in y n h, once-in y (suc n) (omega arith)))
    (λ h. omega (arith, upto-one y n, times-other y n ne, once-out y n (omega arith), once-out y (suc n) (omega arith))))

-- how often the numbers below n stand in a list of such numbers is its length
pub upto-times : (xs : List ℕ) (n : ℕ) → All (λ x. x < n) xs → upto (λ x. times x xs) n ≡ length xs
upto-times [] n all = upto-zero n
upto-times (y ∷ ys) n all = let cut : upto (λ x. times x (y ∷ ys)) n ≡ upto (λ x. times x (y ∷ []) + times x ys) n = upto-same (λ x. times x (y ∷ ys)) (λ x. times x (y ∷ []) + times x ys) n (λ x. times-append x (y ∷ []) ys) in
    omega (arith, cut, upto-add (λ x. times x (y ∷ [])) (λ x. times x ys) n, upto-one y n, once-in y n (All-head (λ x. x < n) y ys all), upto-times ys n (All-tail (λ x. x < n) y ys all))

upto-below : (m n : ℕ) → upto (λ x. once_below x m) n ≡ min n m
upto-below m zero = omega arith
upto-below m (suc n) = dite (dec_le (suc n) m) (λ h. omega (arith, upto-below m n, once-in n m h)) (λ h. omega (arith, upto-below m n, once-out n m (omega arith)))

-- a list in which each number below m stands once, and no other, has m members
pub listed_once : (xs : List ℕ) (c m : ℕ) → m ≤ c → All (λ x. x < c) xs → ((x : ℕ) → times x xs ≡ once_below x m) → length xs ≡ m
listed_once xs c m le all once = omega (arith, upto-times xs c all, upto-same (λ x. times x xs) (λ x. once_below x m) c once, upto-below m c)
