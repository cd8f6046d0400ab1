-- One item of a list that changed changes what a fold makes of the list, where each step can be undone; and lists that are cut into
-- pieces of one length.
use Rattle.std.proofs.Common.{◌≡◌, ◌⊎◌, inl, inr, ℕ, suc, zero, ◌+◌, ◌*◌, ◌<◌, ◌≤◌, List, [], ◌∷◌, length, take, drop, fold, get_or, set, All, refl, ap, ap₂, ◌∙◌, arith, subst}
use Rattle.std.specs.Prelude.{⊤}
use Rattle.std.proofs.lemmas.List.{length-take-le, length-drop, drop-drop}
use Rattle.std.proofs.lemmas.List.Elements.{All-head, All-tail}
use Rattle.std.specs.Simd.{first_chunks}

-- each item is so
abbrev pub Each : {A : Type 0} → (A → Type 0) → List A → Type 0
Each P [] = ⊤
Each P (x ∷ xs) = P x × Each P xs

pub each-all : {A : Type 0} (P : A → Type 0) (xs : List A) → All P xs → Each P xs
each-all P [] all = tt
each-all P (x ∷ xs) all = (All-head P x xs all, each-all P xs (All-tail P x xs all))

pub each-set : {A : Type 0} (P : A → Type 0) (xs : List A) (place : ℕ) (y : A) → P y → Each P xs → Each P (set xs place y)
each-set P [] place y is all = tt
each-set P (x ∷ xs) zero y is all = (is, all.1)
each-set P (x ∷ xs) (suc place) y is all = (all.0, each-set P xs place y is all.1)

-- lists of one length that differ in one item, as R says
abbrev pub DifferOnce : {A : Type 0} → (A → A → Type 0) → List A → List A → Type 0
DifferOnce R [] ys = ⊥
DifferOnce R (x ∷ xs) [] = ⊥
DifferOnce R (x ∷ xs) (y ∷ ys) = (R x y × (xs ≡ ys)) ⊎ ((x ≡ y) × DifferOnce R xs ys)

pub differ_set : {A : Type 0} (R : A → A → Type 0) (d y : A) (xs : List A) (place : ℕ) → place < length xs → R y (get_or xs place d) → DifferOnce R (set xs place y) xs
differ_set R d y [] place within other = absurd (omega arith)
differ_set R d y (x ∷ xs) zero within other = inl (other, refl)
differ_set R d y (x ∷ xs) (suc place) within other = inr (refl, differ_set R d y xs place (omega arith) other)

-- a state stays good at each step, and two states that are apart stay so
pub fold_keeps : {S A : Type 0} (Good : S → Type 0) (Apart : S → S → Type 0) (Ok : A → Type 0) (f : S → A → S)
    → ((s : S) (x : A) → Good s → Ok x → Good (f s x))
    → ((s t : S) (x : A) → Good s → Good t → Ok x → Apart s t → Apart (f s x) (f t x))
    → (xs : List A) (s t : S) → Good s → Good t → Each Ok xs → Apart s t → Apart (fold f s xs) (fold f t xs)
fold_keeps Good Apart Ok f good keep [] s t gs gt ok apart = apart
fold_keeps Good Apart Ok f good keep (x ∷ xs) s t gs gt ok apart =
    fold_keeps Good Apart Ok f good keep xs (f s x) (f t x) (good s x gs ok.0) (good t x gt ok.0) ok.1 (keep s t x gs gt ok.0 apart)

pub fold_good : {S A : Type 0} (Good : S → Type 0) (Ok : A → Type 0) (f : S → A → S)
    → ((s : S) (x : A) → Good s → Ok x → Good (f s x))
    → (xs : List A) (s : S) → Good s → Each Ok xs → Good (fold f s xs)
fold_good Good Ok f good [] s g ok = g
fold_good Good Ok f good (x ∷ xs) s g ok = fold_good Good Ok f good xs (f s x) (good s x g ok.0) ok.1

-- items that differ as R says part the states, and they stay apart
pub fold_differs : {S A : Type 0} (Good : S → Type 0) (Apart : S → S → Type 0) (Ok : A → Type 0) (R : A → A → Type 0) (f : S → A → S)
    → ((s : S) (x : A) → Good s → Ok x → Good (f s x))
    → ((s t : S) (x : A) → Good s → Good t → Ok x → Apart s t → Apart (f s x) (f t x))
    → ((s : S) (x y : A) → Good s → Ok x → Ok y → R x y → Apart (f s x) (f s y))
    → (xs ys : List A) (s : S) → Good s → Each Ok xs → Each Ok ys → DifferOnce R xs ys → Apart (fold f s xs) (fold f s ys)
fold_differs Good Apart Ok R f good keep parts [] ys s g ox oy d = elim d [ ]
fold_differs Good Apart Ok R f good keep parts (x ∷ xs) [] s g ox oy d = elim d [ ]
fold_differs Good Apart Ok R f good keep parts (x ∷ xs) (y ∷ ys) s g ox oy (inl (r, e)) =
    subst (λ zs. Apart (fold f (f s x) xs) (fold f (f s y) zs)) e (fold_keeps Good Apart Ok f good keep xs (f s x) (f s y) (good s x g ox.0) (good s y g oy.0) ox.1 (parts s x y g ox.0 oy.0 r))
fold_differs Good Apart Ok R f good keep parts (x ∷ xs) (y ∷ ys) s g ox oy (inr (e, d)) =
    subst (λ z. Apart (fold f (f s x) xs) (fold f (f s z) ys)) e (fold_differs Good Apart Ok R f good keep parts xs ys (f s x) (good s x g ox.0) ox.1 oy.1 d)

-- the place where lists differ
pub record At {A : Type 0} (R : A → A → Type 0) (d : A) (xs ys : List A) : Type 0 where
  pub place : ℕ
  pub within : place < length xs
  pub other : R (get_or xs place d) (get_or ys place d)
  pub same : (j : ℕ) → (j ≡ place → ⊥) → get_or xs j d ≡ get_or ys j d

same_behind : {A : Type 0} (d x y : A) (xs ys : List A) → xs ≡ ys → (j : ℕ) → (j ≡ 0 → ⊥) → get_or (x ∷ xs) j d ≡ get_or (y ∷ ys) j d
same_behind d x y xs ys e zero never = elim (never refl) [ ]
same_behind d x y xs ys e (suc j) never = ap (λ zs. get_or zs j d) e

same_more : {A : Type 0} (d x y : A) (xs ys : List A) (k : ℕ) → x ≡ y → ((j : ℕ) → (j ≡ k → ⊥) → get_or xs j d ≡ get_or ys j d) → (j : ℕ) → (j ≡ suc k → ⊥) → get_or (x ∷ xs) j d ≡ get_or (y ∷ ys) j d
same_more d x y xs ys k e same zero never = e
same_more d x y xs ys k e same (suc j) never = same j (λ (is : j ≡ k). never (ap suc is))

pub differ_at : {A : Type 0} (R : A → A → Type 0) (d : A) (xs ys : List A) → DifferOnce R xs ys → At R d xs ys
differ_at R d [] ys differ = elim differ [ ]
differ_at R d (x ∷ xs) [] differ = elim differ [ ]
differ_at R d (x ∷ xs) (y ∷ ys) (inl (r, e)) = record { place = 0; within = omega arith; other = r; same = same_behind d x y xs ys e }
differ_at R d (x ∷ xs) (y ∷ ys) (inr (e, differ)) =
    let at = differ_at R d xs ys differ in
    let in_tail : at.place < length xs = at.within in
    record { place = suc at.place; within = omega arith; other = at.other; same = same_more d x y xs ys at.place e at.same }

-- lists that differ once have one length, and a list does not differ from itself in an item that differs from itself
pub differ_length : {A : Type 0} (R : A → A → Type 0) (xs ys : List A) → DifferOnce R xs ys → length xs ≡ length ys
differ_length R [] ys d = elim d [ ]
differ_length R (x ∷ xs) [] d = elim d [ ]
differ_length R (x ∷ xs) (y ∷ ys) (inl (r, e)) = ap (λ zs. suc (length zs)) e
differ_length R (x ∷ xs) (y ∷ ys) (inr (e, d)) = ap suc (differ_length R xs ys d)

pub differ_not_same : {A : Type 0} (R : A → A → Type 0) → ((x : A) → R x x → ⊥) → (xs : List A) → DifferOnce R xs xs → ⊥
differ_not_same R never [] d = d
differ_not_same R never (x ∷ xs) (inl (r, e)) = never x r
differ_not_same R never (x ∷ xs) (inr (e, d)) = differ_not_same R never xs d

-- the item that differs is in front of a cut, or after it
cut_more : {A : Type 0} (R : A → A → Type 0) (n : ℕ) (x y : A) (xs ys : List A) → x ≡ y
    → (DifferOnce R (take n xs) (take n ys) × (drop n xs ≡ drop n ys)) ⊎ ((take n xs ≡ take n ys) × DifferOnce R (drop n xs) (drop n ys))
    → (DifferOnce R (x ∷ take n xs) (y ∷ take n ys) × (drop n xs ≡ drop n ys)) ⊎ ((x ∷ take n xs ≡ y ∷ take n ys) × DifferOnce R (drop n xs) (drop n ys))
cut_more R n x y xs ys e (inl (d, rest)) = inl (inr (e, d), rest)
cut_more R n x y xs ys e (inr (t, d)) = inr (ap₂ (λ z zs. z ∷ zs) e t, d)

pub cut : {A : Type 0} (R : A → A → Type 0) (n : ℕ) (xs ys : List A) → DifferOnce R xs ys
    → (DifferOnce R (take n xs) (take n ys) × (drop n xs ≡ drop n ys)) ⊎ ((take n xs ≡ take n ys) × DifferOnce R (drop n xs) (drop n ys))
cut R zero xs ys d = inr (refl, d)
cut R (suc n) [] ys d = elim d [ ]
cut R (suc n) (x ∷ xs) [] d = elim d [ ]
cut R (suc n) (x ∷ xs) (y ∷ ys) (inl (r, e)) = inl (inl (r, ap (take n) e), ap (drop n) e)
cut R (suc n) (x ∷ xs) (y ∷ ys) (inr (e, d)) = cut_more R n x y xs ys e (cut R n xs ys d)

-- what is left after so many pieces of length n
abbrev pub left : {A : Type 0} → ℕ → ℕ → List A → List A
left n zero xs = xs
left n (suc k) xs = left n k (drop n xs)

pub left_is : {A : Type 0} (n k : ℕ) (xs : List A) → left n k xs ≡ drop (k * n) xs
left_is n zero xs =
    let none : 0 ≡ zero * n = omega arith in
    ap (λ m. drop m xs) none
left_is n (suc k) xs =
    let more : n + k * n ≡ suc k * n = omega arith in
    left_is n k (drop n xs) ∙ drop-drop (k * n) n xs ∙ ap (λ m. drop m xs) more

-- it is in one of the pieces, or in what is left after them
chunks_more : {A : Type 0} (R : A → A → Type 0) (n k : ℕ) (xs ys us vs : List A) → us ≡ vs
    → (DifferOnce (DifferOnce R) (first_chunks n k xs) (first_chunks n k ys) × (left n k xs ≡ left n k ys)) ⊎ ((first_chunks n k xs ≡ first_chunks n k ys) × DifferOnce R (left n k xs) (left n k ys))
    → (DifferOnce (DifferOnce R) (us ∷ first_chunks n k xs) (vs ∷ first_chunks n k ys) × (left n k xs ≡ left n k ys)) ⊎ ((us ∷ first_chunks n k xs ≡ vs ∷ first_chunks n k ys) × DifferOnce R (left n k xs) (left n k ys))
chunks_more R n k xs ys us vs e (inl (d, rest)) = inl (inr (e, d), rest)
chunks_more R n k xs ys us vs e (inr (t, d)) = inr (ap₂ (λ z zs. z ∷ zs) e t, d)

chunks_on : {A : Type 0} (R : A → A → Type 0) (n k : ℕ) (xs ys : List A)
    → ((us vs : List A) → DifferOnce R us vs → (DifferOnce (DifferOnce R) (first_chunks n k us) (first_chunks n k vs) × (left n k us ≡ left n k vs)) ⊎ ((first_chunks n k us ≡ first_chunks n k vs) × DifferOnce R (left n k us) (left n k vs)))
    → (DifferOnce R (take n xs) (take n ys) × (drop n xs ≡ drop n ys)) ⊎ ((take n xs ≡ take n ys) × DifferOnce R (drop n xs) (drop n ys))
    → (DifferOnce (DifferOnce R) (first_chunks n (suc k) xs) (first_chunks n (suc k) ys) × (left n (suc k) xs ≡ left n (suc k) ys)) ⊎ ((first_chunks n (suc k) xs ≡ first_chunks n (suc k) ys) × DifferOnce R (left n (suc k) xs) (left n (suc k) ys))
chunks_on R n k xs ys more (inl (d, e)) = inl (inl (d, ap (first_chunks n k) e), ap (left n k) e)
chunks_on R n k xs ys more (inr (e, d)) = chunks_more R n k (drop n xs) (drop n ys) (take n xs) (take n ys) e (more (drop n xs) (drop n ys) d)

pub chunks : {A : Type 0} (R : A → A → Type 0) (n k : ℕ) (xs ys : List A) → DifferOnce R xs ys
    → (DifferOnce (DifferOnce R) (first_chunks n k xs) (first_chunks n k ys) × (left n k xs ≡ left n k ys)) ⊎ ((first_chunks n k xs ≡ first_chunks n k ys) × DifferOnce R (left n k xs) (left n k ys))
chunks R n zero xs ys d = inr (refl, d)
chunks R n (suc k) xs ys d = chunks_on R n k xs ys (chunks R n k) (cut R n xs ys d)

pub each-take : {A : Type 0} (P : A → Type 0) (n : ℕ) (xs : List A) → Each P xs → Each P (take n xs)
each-take P zero xs all = tt
each-take P (suc n) [] all = tt
each-take P (suc n) (x ∷ xs) all = (all.0, each-take P n xs all.1)

pub each-drop : {A : Type 0} (P : A → Type 0) (n : ℕ) (xs : List A) → Each P xs → Each P (drop n xs)
each-drop P zero xs all = all
each-drop P (suc n) [] all = tt
each-drop P (suc n) (x ∷ xs) all = each-drop P n xs all.1

-- the pieces of a list have their length, and its items
pub chunks_full : {A : Type 0} (P : A → Type 0) (n k : ℕ) (xs : List A) → k * n ≤ length xs → Each P xs → Each (λ us. (length us ≡ n) × Each P us) (first_chunks n k xs)
chunks_full P n zero xs long all = tt
chunks_full P n (suc k) xs long all =
    let more : suc k * n ≡ n + k * n = omega arith in
    let one : n ≤ length xs = omega arith in
    let rest : k * n ≤ length (drop n xs) = omega (arith, length-drop n xs) in
    ((length-take-le n xs one, each-take P n xs all), chunks_full P n k (drop n xs) rest (each-drop P n xs all))

pub each-get : {A : Type 0} (P : A → Type 0) (d : A) (xs : List A) (k : ℕ) → k < length xs → Each P xs → P (get_or xs k d)
each-get P d [] k below all = absurd (omega arith)
each-get P d (x ∷ xs) zero below all = all.0
each-get P d (x ∷ xs) (suc k) below all = each-get P d xs k (omega arith) all.1
