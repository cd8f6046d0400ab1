-- Lists of numbers, and of items with their numbers.
use Rattle.std.proofs.Common.{◌≡◌, ◌≢◌, ◌⊎◌, ℕ, zero, suc, ◌+◌, ◌<◌, cond, List, [], ◌∷◌, ◌++◌, All, Contains, length, slice_index_or, sym, refl, ap, ◌∙◌, subst, inl, inr, ⊎_elim, arith, ne_eqb, eq-eqb, true≢false, Option, Some, None, unwrap_or, is_some}
use Rattle.std.proofs.lemmas.List.Elements.{All-head, All-tail, All-cons, Contains-append_right}
use mathlib.Core.Option.{some, some-injective, some-ne-none}
use mathlib.Core.Logic.{dite}
use native.Mathlib.Decide.{ℕ_discrete}
use lib.ListN.{get_elem?}
use Rattle.ppq_table.specs.Sums.{times}
use Rattle.ppq_table.proofs.Numbers.{times-cons, times-other}
use Rattle.ppq_pool.specs.Hands.{without, elsewhere, numbered}

pub Some-injective : (a b : ℕ) → Some a ≡ Some b → a ≡ b
Some-injective a b e = ap (λ (o : Option ℕ). unwrap_or o 0) e

pub None-ne-Some : (a : ℕ) → None ≡ Some a → ⊥
None-ne-Some a e = true≢false (sym (ap is_some e))

pub without-here : (i y : ℕ) (ys : List ℕ) → y ≡ i → without i (y ∷ ys) ≡ ys
without-here i y ys e = ap (λ b. cond b ys (y ∷ without i ys)) (eq-eqb y i e)

pub without-past : (i y : ℕ) (ys : List ℕ) → y ≢ i → without i (y ∷ ys) ≡ y ∷ without i ys
without-past i y ys n = ap (λ b. cond b ys (y ∷ without i ys)) (ne_eqb y i n)

pub times-without : (i k : ℕ) (xs : List ℕ) → 0 < times i xs → times k (without i xs) + times k (i ∷ []) ≡ times k xs
times-without i k [] h = absurd (omega arith)
times-without i k (y ∷ ys) h = dite (ℕ_discrete y i)
    (λ e. omega (arith, ap (times k) (without-here i y ys e), times-cons k y ys, ap (λ (z : ℕ). times k (z ∷ [])) e))
    (λ n. omega (arith, ap (times k) (without-past i y ys n), times-cons k y ys, times-cons k y (without i ys), times-without i k ys (omega (arith, times-cons i y ys, times-other y i n))))

pub All-without : (P : ℕ → Type 0) (i : ℕ) (xs : List ℕ) → All P xs → All P (without i xs)
All-without P i [] all = all
All-without P i (y ∷ ys) all = dite (ℕ_discrete y i)
    (λ e. subst (All P) (sym (without-here i y ys e)) (All-tail P y ys all))
    (λ n. subst (All P) (sym (without-past i y ys n)) (All-cons P y (without i ys) (All-head P y ys all) (All-without P i ys (All-tail P y ys all))))

module _ {A : Type 0} where
  pub Contains-none : (x : A) → Contains [] x → ⊥
  Contains-none x h = let lt = h.1 in omega arith

  cons_at : (y : A) (ys : List A) (x : A) (k : ℕ) → k < length (y ∷ ys) → slice_index_or (y ∷ ys) k x ≡ x → (y ≡ x) ⊎ Contains ys x
  cons_at y ys x zero lt e = inl e
  cons_at y ys x (suc k) lt e = inr (k, omega arith, e)

  pub Contains-cons_cases : (y : A) (ys : List A) (x : A) → Contains (y ∷ ys) x → (y ≡ x) ⊎ Contains ys x
  Contains-cons_cases y ys x h = cons_at y ys x h.0 h.1 h.2

  pub Contains-cons : (y : A) (ys : List A) (x : A) → Contains ys x → Contains (y ∷ ys) x
  Contains-cons y ys x h = Contains-append_right (y ∷ []) ys x h

  pub Contains-head : (y : A) (ys : List A) (x : A) → y ≡ x → Contains (y ∷ ys) x
  Contains-head y ys x e = (0, omega arith, e)

  -- at the end of a longer list stands what stood there, or the new element
  pub at_end : (l : List A) (a b : A) (j : ℕ) → get_elem? (l ++ a ∷ []) j ≡ some b → (get_elem? l j ≡ some b) ⊎ ((j ≡ length l) × (a ≡ b))
  at_end [] a b zero e = inr (refl, some-injective a b e)
  at_end [] a b (suc j) e = absurd (some-ne-none b (sym e))
  at_end (x ∷ xs) a b zero e = inl e
  at_end (x ∷ xs) a b (suc j) e = ⊎_elim (λ h. inl h) (λ h. let n = h.0 in inr (omega arith, h.1)) (at_end xs a b j e)

module _ {T : Type 0} where
  elsewhere-here : (i : ℕ) (p : ℕ × T) (ps : List (ℕ × T)) → p.0 ≡ i → elsewhere i (p ∷ ps) ≡ elsewhere i ps
  elsewhere-here i p ps e = ap (λ b. cond b (elsewhere i ps) (p ∷ elsewhere i ps)) (eq-eqb p.0 i e)

  elsewhere-past : (i : ℕ) (p : ℕ × T) (ps : List (ℕ × T)) → p.0 ≢ i → elsewhere i (p ∷ ps) ≡ p ∷ elsewhere i ps
  elsewhere-past i p ps n = ap (λ b. cond b (elsewhere i ps) (p ∷ elsewhere i ps)) (ne_eqb p.0 i n)

  pub Contains-elsewhere : (i k : ℕ) (x : T) (ps : List (ℕ × T)) → k ≢ i → Contains ps (k, x) → Contains (elsewhere i ps) (k, x)
  Contains-elsewhere i k x [] n h = h
  Contains-elsewhere i k x (p ∷ ps) n h = dite (ℕ_discrete p.0 i)
      (λ e. subst (λ l. Contains l (k, x)) (sym (elsewhere-here i p ps e))
      (⊎_elim (λ same. let own : p.0 ≡ k = ap (λ q. q.0) same in absurd (n (sym own ∙ e))) (λ rest. Contains-elsewhere i k x ps n rest) (Contains-cons_cases p ps (k, x) h)))
      (λ ne. subst (λ l. Contains l (k, x)) (sym (elsewhere-past i p ps ne))
      (⊎_elim (λ same. Contains-head p (elsewhere i ps) (k, x) same) (λ rest. Contains-cons p (elsewhere i ps) (k, x) (Contains-elsewhere i k x ps n rest)) (Contains-cons_cases p ps (k, x) h)))

  -- the item at i has the number i
  pub Contains-numbered : (n i : ℕ) (x : T) (xs : List T) → get_elem? xs i ≡ some x → Contains (numbered n xs) (n + i, x)
  Contains-numbered n i x [] e = absurd (some-ne-none x (sym e))
  Contains-numbered n zero x (y ∷ ys) e = Contains-head (n, y) (numbered (n + 1) ys) (n + 0, x) (λ k. ((let s : n ≡ n + 0 = omega arith in s k), some-injective y x e k))
  Contains-numbered n (suc i) x (y ∷ ys) e = subst (λ (m : ℕ). Contains (numbered n (y ∷ ys)) (m, x)) (let s : n + 1 + i ≡ n + suc i = omega arith in s)
      (Contains-cons (n, y) (numbered (n + 1) ys) (n + 1 + i, x) (Contains-numbered (n + 1) i x ys e))
