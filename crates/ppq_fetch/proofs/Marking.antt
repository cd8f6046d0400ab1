-- How many records of each run are safe: a search in each run, one run after the other.
use Rattle.std.proofs.Common.{◌≡◌, inl, inr, ℕ, zero, suc, ◌+◌, ◌≤◌, Bool, true, false, not, List, [], ◌∷◌, ◌++◌, length, take, drop, Some, refl, sym, ap, ◌∙◌, subst, arith, length-take, take-append-drop, true≢false, ◌<◌, map, get_or, slice_set, ap₂, length-append}
use Rattle.std.specs.Prelude.{count_by}
use Rattle.std.specs.List.{AllByRecursion as Each, slice_get}
use Rattle.std.specs.Cmp.{IsStrictWeakOrder}
use Rattle.std.specs.declared.cmp.Ordering.{Ordering}
use Rattle.std.proofs.lemmas.Bool.{cases_Bool, not-true, false_from_ne_true}
use Rattle.std.proofs.lemmas.List.{drop_all, take_more, take_all, length-map, get_or-map}
use Rattle.ppq_array.specs.ppq_record.Order.{Le, Ascends, is_before}
use Rattle.ppq_array.proofs.ppq_record.Order.{Each-weaker, Le-refl, Le-trans, count_by-append, none_pass, Each-append_left, Each-append_right}
use Rattle.ppq_fetch.proofs.Parted.{all_pass}
use Rattle.ppq_fetch.specs.Edges.{is_within}
use Rattle.ppq_fetch.specs.Taking.{IsDownward}
use Rattle.ppq_fetch.specs.declared.edge.Edge.{Edge}
use Rattle.ppq_fetch.specs.declared.edge.Edge.TheVariants.{Whole, AtMost, Below}
use Rattle.std.proofs.lemmas.Grind.{take-set_at}
use Rattle.ppq_array.specs.ppq_record.Runs.{all_of}
use Rattle.ppq_merge.specs.ppq_split.Cut.{AreWithin, total}
use Rattle.ppq_fetch.specs.Parts.{passed}
use Rattle.ppq_fetch.specs.Plan.{IsMarked}
use Rattle.ppq_fetch.proofs.Listings.{within_rec}
use Rattle.ppq_fetch.proofs.Sums.{long_two_of}

-- the place where a search is: what is before it passes, and what is behind fails
pub record Found {X : Type 0} (p : X → Bool) (xs : List X) (low high : ℕ) : Type 0 where
  pub passes : Each (λ x. p x ≡ true) (take low xs)
  pub fails : Each (λ x. p x ≡ false) (drop high xs)

module _ {X : Type 0} where
  pub found_none : (p : X → Bool) (xs : List X) (n : ℕ) → length xs ≤ n → Found p xs 0 n
  found_none p xs n h = record { passes = tt; fails = subst (λ ys. Each (λ x. p x ≡ false) ys) (sym (drop_all n xs h)) tt }

  pub each_get : (P : X → Type 0) (xs : List X) (i : ℕ) (x : X) → slice_get xs i ≡ Some x → Each P xs → P x
  each_get P [] i x e a = absurd (cc)
  each_get P (y ∷ ys) zero x e a = let h : y ≡ x = cc in subst P h a.0
  each_get P (y ∷ ys) (suc i) x e a = each_get P ys i x e a.1

  pub found_count : (p : X → Bool) (xs : List X) (at : ℕ) → at ≤ length xs → Found p xs at at → at ≡ count_by p xs
  found_count p xs at within f =
      let whole : take at xs ++ drop at xs ≡ xs = take-append-drop at xs in
      let sum : count_by p xs ≡ count_by p (take at xs) + count_by p (drop at xs) = ap (count_by p) (sym whole) ∙ count_by-append p (take at xs) (drop at xs) in
      omega (arith, sum, all_pass p (take at xs) f.passes, none_pass p (drop at xs) f.fails, length-take at xs)

module _ {R : Type 0} (cmp : R → R → Ordering) (o : IsStrictWeakOrder (is_before cmp)) where
  rising_at : (xs : List R) (i : ℕ) (x : R) → Ascends cmp xs → slice_get xs i ≡ Some x → Each (λ y. Le (is_before cmp) y x) (take (suc i) xs) × Each (λ y. Le (is_before cmp) x y) (drop i xs)
  rising_at [] i x r e = absurd (cc)
  rising_at (y ∷ ys) zero x r e =
      let h : y ≡ x = cc in
      subst (λ z. Each (λ y. Le (is_before cmp) y z) (y ∷ []) × Each (λ y. Le (is_before cmp) z y) (y ∷ ys)) h ((Le-refl (is_before cmp) o y, tt), (Le-refl (is_before cmp) o y, r.0))
  rising_at (y ∷ ys) (suc i) x r e =
      let rest = rising_at ys i x r.1 e in
      ((each_get (Le (is_before cmp) y) ys i x e r.0, rest.0), rest.1)

  fails_after : (p : R → Bool) → IsDownward cmp p → (x y : R) → p x ≡ false → Le (is_before cmp) x y → p y ≡ false
  fails_after p down x y f le = false_from_ne_true (p y) (λ t. true≢false (sym (down x y le t) ∙ f))

  pub found_high : (p : R → Bool) → IsDownward cmp p → (xs : List R) (low high i : ℕ) (x : R) → Ascends cmp xs → slice_get xs i ≡ Some x → p x ≡ false → Found p xs low high → Found p xs low i
  found_high p down xs low high i x r e h f =
      record { passes = f.passes; fails = Each-weaker (λ y. Le (is_before cmp) x y) (λ y. p y ≡ false) (λ y k. fails_after p down x y h k) (drop i xs) ((rising_at xs i x r e).1) }

  pub found_low : (p : R → Bool) → IsDownward cmp p → (xs : List R) (low high i n : ℕ) (x : R) → n ≡ i + 1 → Ascends cmp xs → slice_get xs i ≡ Some x → p x ≡ true → Found p xs low high → Found p xs n high
  found_low p down xs low high i n x next r e h f =
      let k : suc i ≡ n = omega arith in
      record { passes = subst (λ n. Each (λ y. p y ≡ true) (take n xs)) k (Each-weaker (λ y. Le (is_before cmp) y x) (λ y. p y ≡ true) (λ y le. down y x le h) (take (suc i) xs) ((rising_at xs i x r e).0)); fails = f.fails }

  -- what is before a record within the edge is within it
  pub edge_downward : (edge : Edge R) → IsDownward cmp (is_within cmp edge)
  edge_downward Whole x y le t = refl
  edge_downward (AtMost u) x y le t = ap not (Le-trans (is_before cmp) o x y u le (not-true (is_before cmp u y) t))
  edge_downward (Below l) x y le t = elim (cases_Bool (is_before cmp x l)) as (λ _. is_before cmp x l ≡ true) [
    | inl e ↦ e
    | inr f ↦ absurd (true≢false (sym t ∙ Le-trans (is_before cmp) o l x y f le))
  ]

total_append : (bs cs : List ℕ) → total (bs ++ cs) ≡ total bs + total cs
total_append [] cs = omega arith
total_append (b ∷ bs) cs = omega (arith, total_append bs cs)

module _ {R : Type 0} where
  pub total_within : (bs : List ℕ) (qs : List (List R)) → AreWithin bs qs → total bs ≤ length (all_of qs)
  total_within = within_rec (λ bs qs. total bs ≤ length (all_of qs)) (omega arith) (λ b q bs qs h k. omega (arith, h, k, length-append q (all_of qs)))

  within_append : (cs : List ℕ) (rs : List (List R)) → AreWithin cs rs → (bs : List ℕ) (qs : List (List R)) → AreWithin bs qs → AreWithin (bs ++ cs) (qs ++ rs)
  within_append cs rs w = within_rec (λ bs qs. AreWithin (bs ++ cs) (qs ++ rs)) w (λ b q bs qs h v. (h, v))

  module _ (cmp : R → R → Ordering) (edge : Edge R) where
    passed_append : (qs rs : List (List R)) → passed (is_within cmp edge) (qs ++ rs) ≡ passed (is_within cmp edge) qs ++ passed (is_within cmp edge) rs
    passed_append [] rs = refl
    passed_append (q ∷ qs) rs = ap (λ ns. count_by (is_within cmp edge) q ∷ ns) (passed_append qs rs)

    pub marked_none : IsMarked cmp edge [] [] 0
    marked_none = record { within = tt; counted = refl; safe = λ up. refl; whole = λ e. refl }

    marked_one : (q : List R) (c : ℕ) → c ≤ length q → (Ascends cmp q → c ≡ count_by (is_within cmp edge) q) → (edge ≡ Whole → c ≡ length q) → IsMarked cmp edge (q ∷ []) (c ∷ []) c
    marked_one q c h s w = record { within = (h, tt); counted = omega arith; safe = λ up. ap (λ n. n ∷ []) (s up.0); whole = λ e. omega (arith, w e, length-append q []) }

    pub marked_append : (qs rs : List (List R)) (bs cs : List ℕ) (s t : ℕ) → IsMarked cmp edge qs bs s → IsMarked cmp edge rs cs t → IsMarked cmp edge (qs ++ rs) (bs ++ cs) (s + t)
    marked_append qs rs bs cs s t x y = record {
      within = within_append cs rs y.within bs qs x.within;
      counted = omega (arith, x.counted, y.counted, total_append bs cs);
      safe = λ up. ap₂ (λ ms ns. ms ++ ns) (x.safe (Each-append_left (Ascends cmp) qs rs up)) (y.safe (Each-append_right (Ascends cmp) qs rs up)) ∙ sym (passed_append qs rs);
      whole = λ e. omega (arith, x.whole e, y.whole e, long_two_of qs rs);
    }

    -- one run more
    pub marked_more :
        {A : Type 0} (f : A → List R) (xs : List A) (bs : List ℕ) (i s c : ℕ) (a : A) → i < length xs → length bs ≡ length xs → a ≡ get_or xs i a
        → c ≤ length (f a) → (Ascends cmp (f a) → c ≡ count_by (is_within cmp edge) (f a)) → (edge ≡ Whole → c ≡ length (f a))
        → IsMarked cmp edge (take i (map f xs)) (take i bs) s → IsMarked cmp edge (take (i + 1) (map f xs)) (take (i + 1) (slice_set bs i c)) (s + c)
    marked_more f xs bs i s c a k long at h count whole x =
        let q : take (i + 1) (map f xs) ≡ take i (map f xs) ++ f a ∷ [] = take_more (map f xs) i [] (omega (arith, k, length-map xs f)) ∙ ap (λ z. take i (map f xs) ++ z ∷ []) (get_or-map f xs i a [] k ∙ ap f (sym at)) in
        subst (λ ls. IsMarked cmp edge ls (take (i + 1) (slice_set bs i c)) (s + c)) (sym q)
        (subst (λ ns. IsMarked cmp edge (take i (map f xs) ++ f a ∷ []) ns (s + c)) (sym (take-set_at bs i (i + 1) c refl (omega (arith, k, long))))
        (marked_append (take i (map f xs)) (f a ∷ []) (take i bs) (c ∷ []) s c x (marked_one (f a) c h count whole)))

    pub marked_few : (qs : List (List R)) (n : ℕ) (bs : List ℕ) (s : ℕ) → IsMarked cmp edge (take n qs) bs s → s ≤ length (all_of qs)
    marked_few qs n bs s m = omega (arith, m.counted, total_within bs (take n qs) m.within, long_two_of (take n qs) (drop n qs), ap (λ ls. length (all_of ls)) (take-append-drop n qs))

    pub marked_all : (qs : List (List R)) (bs : List ℕ) (i s : ℕ) → length qs ≤ i → length bs ≤ i → IsMarked cmp edge (take i qs) (take i bs) s → IsMarked cmp edge qs bs s
    marked_all qs bs i s k h x = subst (λ ls. IsMarked cmp edge ls bs s) (take_all i qs k) (subst (λ ns. IsMarked cmp edge (take i qs) ns s) (take_all i bs h) x)
