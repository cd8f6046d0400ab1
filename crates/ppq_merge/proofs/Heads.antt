-- The next records of runs: what is left once one of them is taken.
use Rattle.std.proofs.Common.{◌≡◌, ℕ, zero, suc, ◌+◌, ◌<◌, ◌≤◌, Bool, List, [], ◌∷◌, ◌++◌, length, take, drop, get_or, set, Option, Some, None, refl, sym, ap, ap₂, inl, inr, ◌∙◌, arith}
use Rattle.std.specs.Prelude.{slice_get}
use Rattle.std.specs.List.{AllByRecursion as Each}
use Rattle.std.specs.Cmp.{IsStrictWeakOrder}
use Rattle.std.proofs.lemmas.Bool.{cases_lt}
use Rattle.std.proofs.lemmas.List.{length-take, length-drop, length-append, drop_all, get_or_past}
use Rattle.std.specs.Prelude.{count_by}
use Rattle.ppq_split.specs.ppq_record.Order.{Le, Rising}
use Rattle.ppq_split.specs.ppq_record.Bag.{IsSameBag, first_of}
use Rattle.ppq_split.specs.ppq_record.Runs.{list_at}
use Rattle.ppq_merge.specs.Parts.{between, AreParts, size_between}
use Rattle.ppq_split.proofs.ppq_record.Order.{count_by-cons, count_by-append, Le-trans, Each-append, Each-weaker}
use Rattle.ppq_merge.specs.Heads.{heads, head}

nothing_below : (ts : List ℕ) (i : ℕ) → length ts ≡ 0 → 0 < get_or ts i 0 → ⊥
nothing_below [] i l h = omega arith
nothing_below (t ∷ ts) i l h = omega arith

none_some : {X : Type 0} (x : X) → None ≡ Some x → ⊥
none_some x e = cc

none_first : {X : Type 0} (f : ℕ) (x : X) → first_of (drop f []) ≡ Some x → ⊥
none_first zero x e = cc
none_first (suc f) x e = cc

inside : {X : Type 0} (items : List (Option X)) (i : ℕ) (x : X) → get_or items i None ≡ Some x → i < length items
inside items i x e = elim (cases_lt i (length items)) as (λ _. i < length items) [ inl l ↦ l | inr l ↦ absurd (none_some x (sym (get_or_past items i None l) ∙ e)) ]

module _ {X : Type 0} where
  pub AreParts-length : (fs ts : List ℕ) (qs : List (List X)) → AreParts fs ts qs → (length ts ≡ length fs) × (length qs ≡ length fs)
  AreParts-length [] [] [] h = (refl, refl)
  AreParts-length [] [] (q ∷ qs) h = absurd h
  AreParts-length [] (t ∷ ts) qs h = absurd h
  AreParts-length (f ∷ fs) [] qs h = absurd h
  AreParts-length (f ∷ fs) (t ∷ ts) [] h = absurd h
  AreParts-length (f ∷ fs) (t ∷ ts) (q ∷ qs) h = let r = AreParts-length fs ts qs h.1 in (ap suc r.0, ap suc r.1)

  pub AreParts-at : (fs ts : List ℕ) (qs : List (List X)) → AreParts fs ts qs → (i : ℕ) → (get_or fs i 0 ≤ get_or ts i 0) × (get_or ts i 0 ≤ length (list_at qs i))
  AreParts-at [] [] [] h i = (omega arith, omega arith)
  AreParts-at [] [] (q ∷ qs) h i = absurd h
  AreParts-at [] (t ∷ ts) qs h i = absurd h
  AreParts-at (f ∷ fs) [] qs h i = absurd h
  AreParts-at (f ∷ fs) (t ∷ ts) [] h i = absurd h
  AreParts-at (f ∷ fs) (t ∷ ts) (q ∷ qs) h zero = h.0
  AreParts-at (f ∷ fs) (t ∷ ts) (q ∷ qs) h (suc i) = AreParts-at fs ts qs h.1 i

  pub heads-length : (fs ts : List ℕ) (qs : List (List X)) → AreParts fs ts qs → length (heads fs ts qs) ≡ length fs
  unfolding heads
  heads-length [] ts qs h = refl
  heads-length (f ∷ fs) [] qs h = absurd h
  heads-length (f ∷ fs) (t ∷ ts) [] h = absurd h
  heads-length (f ∷ fs) (t ∷ ts) (q ∷ qs) h = ap suc (heads-length fs ts qs h.1)

  first_at : (f t : ℕ) (q : List X) → f < t → t ≤ length q → first_of (drop f (take t q)) ≡ slice_get q f
  first_at f zero q h l = absurd (omega arith)
  first_at f (suc t) [] h l = absurd (omega arith)
  first_at zero (suc t) (x ∷ q) h l = refl
  first_at (suc f) (suc t) (x ∷ q) h l = first_at f t q (omega arith) (omega arith)

  pub head_some : (fs ts : List ℕ) (qs : List (List X)) (i : ℕ) → AreParts fs ts qs → get_or fs i 0 < get_or ts i 0 → head fs ts qs i ≡ slice_get (list_at qs i) (get_or fs i 0)
  unfolding heads
  head_some [] ts qs i h l = let r = AreParts-length [] ts qs h in absurd (nothing_below ts i r.0 l)
  head_some (f ∷ fs) [] qs i h l = absurd h
  head_some (f ∷ fs) (t ∷ ts) [] i h l = absurd h
  head_some (f ∷ fs) (t ∷ ts) (q ∷ qs) zero h l = first_at f t q l h.0.1
  head_some (f ∷ fs) (t ∷ ts) (q ∷ qs) (suc i) h l = head_some fs ts qs i h.1 l

  pub head_none : (fs ts : List ℕ) (qs : List (List X)) (i : ℕ) → AreParts fs ts qs → get_or ts i 0 ≤ get_or fs i 0 → head fs ts qs i ≡ None
  unfolding heads
  head_none [] ts qs i h l = refl
  head_none (f ∷ fs) [] qs i h l = absurd h
  head_none (f ∷ fs) (t ∷ ts) [] i h l = absurd h
  head_none (f ∷ fs) (t ∷ ts) (q ∷ qs) zero h l = ap first_of (drop_all f (take t q) (omega (arith, length-take t q)))
  head_none (f ∷ fs) (t ∷ ts) (q ∷ qs) (suc i) h l = head_none fs ts qs i h.1 l

  one_more : (f t : ℕ) (q : List X) (x : X) → first_of (drop f (take t q)) ≡ Some x → (drop f (take t q) ≡ x ∷ drop (suc f) (take t q)) × (f < t)
  one_more f zero q x h = absurd (none_first f x h)
  one_more f (suc t) [] x h = absurd (none_first f x h)
  one_more zero (suc t) (y ∷ q) x h = (ap (λ z. z ∷ take t q) (let e : y ≡ x = cc in e), omega arith)
  one_more (suc f) (suc t) (y ∷ q) x h = let r = one_more f t q x h in (r.0, omega (arith, r.1))

  pub taken :
      (fs ts : List ℕ) (qs : List (List X)) (i : ℕ) (x : X) → AreParts fs ts qs → head fs ts qs i ≡ Some x
      → IsSameBag (x ∷ between (set fs i (get_or fs i 0 + 1)) ts qs) (between fs ts qs)
      × AreParts (set fs i (get_or fs i 0 + 1)) ts qs
      × (size_between (set fs i (get_or fs i 0 + 1)) ts + 1 ≡ size_between fs ts)
      × (set (heads fs ts qs) i (head (set fs i (get_or fs i 0 + 1)) ts qs i) ≡ heads (set fs i (get_or fs i 0 + 1)) ts qs)
  unfolding heads
  taken [] ts qs i x h e = absurd (none_some x e)
  taken (f ∷ fs) [] qs i x h e = absurd h
  taken (f ∷ fs) (t ∷ ts) [] i x h e = absurd h
  taken (f ∷ fs) (t ∷ ts) (q ∷ qs) zero x h e =
      let m = one_more f t q x e in
      let k1 : suc f ≡ f + 1 = omega arith in
      let m0 : drop f (take t q) ≡ x ∷ drop (f + 1) (take t q) = m.0 ∙ ap (λ k. x ∷ drop k (take t q)) k1 in (
        (λ p.
            let a = count_by-cons p x (drop (f + 1) (take t q) ++ between fs ts qs) in
            let b = count_by-append p (drop (f + 1) (take t q)) (between fs ts qs) in
            let c = count_by-append p (drop f (take t q)) (between fs ts qs) in
            let d = ap (count_by p) m0 ∙ count_by-cons p x (drop (f + 1) (take t q)) in omega arith),
        ((omega (arith, m.1), h.0.1), h.1),
        omega (arith, m.1),
        refl,
      )
  taken (f ∷ fs) (t ∷ ts) (q ∷ qs) (suc i) x h e =
      let r = taken fs ts qs i x h.1 e in (
        (λ p.
            let a = count_by-cons p x (drop f (take t q) ++ between (set fs i (get_or fs i 0 + 1)) ts qs) in
            let b = count_by-append p (drop f (take t q)) (between (set fs i (get_or fs i 0 + 1)) ts qs) in
            let c = count_by-append p (drop f (take t q)) (between fs ts qs) in
            let d = count_by-cons p x (between (set fs i (get_or fs i 0 + 1)) ts qs) in
            let k = r.0 p in omega arith),
        (h.0, r.1),
        omega (arith, r.2),
        ap (λ hs. first_of (drop f (take t q)) ∷ hs) r.3,
      )

  some_at : (f t : ℕ) (q : List X) → f < t → t ≤ length q → ((x : X) → first_of (drop f (take t q)) ≡ Some x → ⊥) → ⊥
  some_at f zero q l k n = omega arith
  some_at f (suc t) [] l k n = omega arith
  some_at zero (suc t) (x ∷ q) l k n = n x refl
  some_at (suc f) (suc t) (x ∷ q) l k n = some_at f t q (omega arith) (omega arith) n

  Each-taken : (P : X → Type 0) (k : ℕ) (xs : List X) → Each P xs → Each P (take k xs)
  Each-taken P zero xs e = tt
  Each-taken P (suc k) [] e = tt
  Each-taken P (suc k) (x ∷ xs) e = (e.0, Each-taken P k xs e.1)

  pub head_past : (fs ts : List ℕ) (qs : List (List X)) (i : ℕ) → length fs ≤ i → head fs ts qs i ≡ None
  unfolding heads
  head_past [] ts qs i l = refl
  head_past (f ∷ fs) [] qs i l = refl
  head_past (f ∷ fs) (t ∷ ts) [] i l = refl
  head_past (f ∷ fs) (t ∷ ts) (q ∷ qs) zero l = absurd (omega arith)
  head_past (f ∷ fs) (t ∷ ts) (q ∷ qs) (suc i) l = head_past fs ts qs i (omega arith)

  -- the next record of the run that wins in a tree over them
  pub head_of_tree :
      (items : List (Option X)) (fs ts : List ℕ) (qs : List (List X)) (i : ℕ) (x : X) → items ≡ heads fs ts qs → get_or items i None ≡ Some x → head fs ts qs i ≡ Some x
  head_of_tree items fs ts qs i x e h = sym (ap (λ hs. get_or hs i None) e) ∙ h

  pub tree_at_head :
      (items : List (Option X)) (fs ts : List ℕ) (qs : List (List X)) (i : ℕ) (x : X) → items ≡ heads fs ts qs → head fs ts qs i ≡ Some x → get_or items i None ≡ Some x
  tree_at_head items fs ts qs i x e h = ap (λ hs. get_or hs i None) e ∙ h

  -- a run with a next record has a place below its end
  pub head_in : (fs ts : List ℕ) (qs : List (List X)) (i : ℕ) (x : X) → AreParts fs ts qs → head fs ts qs i ≡ Some x → (i < length fs) × (get_or fs i 0 < get_or ts i 0)
  head_in fs ts qs i x h e = (
    elim (cases_lt i (length fs)) as (λ _. i < length fs) [ inl l ↦ l | inr l ↦ absurd (none_some x (sym (head_past fs ts qs i l) ∙ e)) ],
    elim (cases_lt (get_or fs i 0) (get_or ts i 0)) as (λ _. get_or fs i 0 < get_or ts i 0) [ inl l ↦ l | inr l ↦ absurd (none_some x (sym (head_none fs ts qs i h l) ∙ e)) ],
  )

  pub nothing_left : (fs ts : List ℕ) (qs : List (List X)) → AreParts fs ts qs → ((j : ℕ) (x : X) → head fs ts qs j ≡ Some x → ⊥) → size_between fs ts ≡ 0
  unfolding heads
  nothing_left [] ts qs h n = refl
  nothing_left (f ∷ fs) [] qs h n = absurd h
  nothing_left (f ∷ fs) (t ∷ ts) [] h n = absurd h
  nothing_left (f ∷ fs) (t ∷ ts) (q ∷ qs) h n =
      let r = nothing_left fs ts qs h.1 (λ j. n (suc j)) in
      elim (cases_lt f t) as (λ _. size_between (f ∷ fs) (t ∷ ts) ≡ 0) [
        | inr e ↦ omega arith
        | inl e ↦ absurd (some_at f t q e h.0.1 (n 0))
      ]

  pub all_moved : (fs ts : List ℕ) (qs : List (List X)) → AreParts fs ts qs → size_between fs ts ≡ 0 → fs ≡ ts
  all_moved [] [] qs h e = refl
  all_moved [] (t ∷ ts) qs h e = absurd h
  all_moved (f ∷ fs) [] qs h e = absurd h
  all_moved (f ∷ fs) (t ∷ ts) [] h e = absurd h
  all_moved (f ∷ fs) (t ∷ ts) (q ∷ qs) h e = ap₂ ◌∷◌ (omega arith) (all_moved fs ts qs h.1 (omega arith))

  pub length-between : (fs ts : List ℕ) (qs : List (List X)) → AreParts fs ts qs → length (between fs ts qs) ≡ size_between fs ts
  length-between [] ts qs h = refl
  length-between (f ∷ fs) [] qs h = absurd h
  length-between (f ∷ fs) (t ∷ ts) [] h = absurd h
  length-between (f ∷ fs) (t ∷ ts) (q ∷ qs) h =
      omega (arith, length-append (drop f (take t q)) (between fs ts qs), length-drop f (take t q), length-take t q, length-between fs ts qs h.1)

module _ {X : Type 0} (lt : X → X → Bool) (o : IsStrictWeakOrder lt) where
  part_least : (x : X) (f t : ℕ) (q : List X) → Rising lt q → ((y : X) → first_of (drop f (take t q)) ≡ Some y → Le lt x y) → Each (Le lt x) (drop f (take t q))
  part_least x zero zero q r h = tt
  part_least x (suc f) zero q r h = tt
  part_least x zero (suc t) [] r h = tt
  part_least x (suc f) (suc t) [] r h = tt
  part_least x zero (suc t) (y ∷ q) r h =
      let a = h y refl in (a, Each-taken (Le lt x) t q (Each-weaker (Le lt y) (Le lt x) (λ z k. Le-trans lt o x y z a k) q r.0))
  part_least x (suc f) (suc t) (y ∷ q) r h = part_least x f t q r.1 h

  pub left_least : (x : X) (fs ts : List ℕ) (qs : List (List X)) → Each (Rising lt) qs → ((j : ℕ) (y : X) → head fs ts qs j ≡ Some y → Le lt x y) → Each (Le lt x) (between fs ts qs)
  unfolding heads
  left_least x [] ts qs r h = tt
  left_least x (f ∷ fs) [] qs r h = tt
  left_least x (f ∷ fs) (t ∷ ts) [] r h = tt
  left_least x (f ∷ fs) (t ∷ ts) (q ∷ qs) r h =
      Each-append (Le lt x) (drop f (take t q)) (between fs ts qs) (part_least x f t q r.0 (h 0)) (left_least x fs ts qs r.1 (λ j. h (suc j)))
