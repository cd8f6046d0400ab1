-- Parts of runs between places.
use Rattle.std.proofs.Common.{◌≡◌, ℕ, zero, suc, ◌+◌, ◌-◌, ◌<◌, ◌≤◌, Bool, List, [], ◌∷◌, ◌++◌, length, take, drop, get_or, min, refl, sym, ap, ap₂, subst, ◌∙◌, arith}
use Rattle.std.specs.Prelude.{count_by}
use Rattle.std.specs.List.{AllByRecursion as Each, All}
use Rattle.std.proofs.lemmas.List.{length-append, length-take-le, take-append-drop, take-take, drop-append-le, get_or-take, get_or-drop, length-take, length-drop, get_or_default, take_all}
use Rattle.std.proofs.lemmas.List.Elements.{recursion_from_All}
use Rattle.ppq_split.specs.ppq_record.Order.{Le}
use Rattle.ppq_split.specs.ppq_record.Runs.{list_at, all_of}
use Rattle.ppq_split.proofs.ppq_record.Order.{count_by-append, Each-append, Each-append_left, Each-append_right}
use Rattle.ppq_split.specs.Cut.{AreWithin, total, IsCutBy}
use Rattle.ppq_split.specs.Edge.{ends}
use Rattle.ppq_merge.specs.Parts.{between, before, after, AreParts, IsParted}

pub count_by-nil : {X : Type 0} (p : X → Bool) → count_by p [] ≡ 0
count_by-nil p = refl

module _ {X : Type 0} where
  drop-take-split : (f m t : ℕ) (q : List X) → f ≤ m → m ≤ t → t ≤ length q → drop f (take t q) ≡ drop f (take m q) ++ drop m (take t q)
  drop-take-split f m t q h k l =
      let a : length (take m q) ≡ m = length-take-le m q (omega arith) in
      let e : take t q ≡ take m q ++ drop m (take t q) = sym (take-append-drop m (take t q)) ∙ ap (λ x. x ++ drop m (take t q)) (take-take m t q k) in
      ap (drop f) e ∙ drop-append-le f (take m q) (drop m (take t q)) (omega arith)

  -- the places of three cuts
  pub count_by-between :
      (p : X → Bool) (fs ms ts : List ℕ) (qs : List (List X)) → AreParts fs ms qs → AreParts ms ts qs
      → count_by p (between fs ms qs) + count_by p (between ms ts qs) ≡ count_by p (between fs ts qs)
  count_by-between p [] [] ts qs h k = omega (arith, count_by-nil p)
  count_by-between p [] (m ∷ ms) ts qs h k = absurd h
  count_by-between p (f ∷ fs) [] ts qs h k = absurd h
  count_by-between p (f ∷ fs) (m ∷ ms) ts [] h k = absurd h
  count_by-between p (f ∷ fs) (m ∷ ms) [] (q ∷ qs) h k = absurd k
  count_by-between p (f ∷ fs) (m ∷ ms) (t ∷ ts) (q ∷ qs) h k =
      let one : drop f (take t q) ≡ drop f (take m q) ++ drop m (take t q) = drop-take-split f m t q h.0.0 k.0.0 k.0.1 in
      let ih = count_by-between p fs ms ts qs h.1 k.1 in
      let a = count_by-append p (drop f (take m q)) (between fs ms qs) in
      let b = count_by-append p (drop m (take t q)) (between ms ts qs) in
      let c = count_by-append p (drop f (take t q)) (between fs ts qs) in
      let d = ap (count_by p) one ∙ count_by-append p (drop f (take m q)) (drop m (take t q)) in
      omega arith

  pub AreParts-trans : (fs ms ts : List ℕ) (qs : List (List X)) → AreParts fs ms qs → AreParts ms ts qs → AreParts fs ts qs
  AreParts-trans [] [] ts qs h k = k
  AreParts-trans [] (m ∷ ms) ts qs h k = absurd h
  AreParts-trans (f ∷ fs) [] ts qs h k = absurd h
  AreParts-trans (f ∷ fs) (m ∷ ms) ts [] h k = absurd h
  AreParts-trans (f ∷ fs) (m ∷ ms) [] (q ∷ qs) h k = absurd k
  AreParts-trans (f ∷ fs) (m ∷ ms) (t ∷ ts) (q ∷ qs) h k = ((omega arith, k.0.1), AreParts-trans fs ms ts qs h.1 k.1)

  Each-drop : (P : X → Type 0) (n : ℕ) (xs : List X) → Each P xs → Each P (drop n xs)
  Each-drop P zero xs e = e
  Each-drop P (suc n) [] e = tt
  Each-drop P (suc n) (x ∷ xs) e = Each-drop P n xs e.1

  Each-drop_take : (P : X → Type 0) (f t : ℕ) (xs : List X) → Each P (drop f xs) → Each P (drop f (take t xs))
  Each-drop_take P zero zero xs e = tt
  Each-drop_take P zero (suc t) [] e = tt
  Each-drop_take P zero (suc t) (x ∷ xs) e = (e.0, Each-drop_take P zero t xs e.1)
  Each-drop_take P (suc f) zero xs e = tt
  Each-drop_take P (suc f) (suc t) [] e = tt
  Each-drop_take P (suc f) (suc t) (x ∷ xs) e = Each-drop_take P f t xs e

  pub Each-between_before : (P : X → Type 0) (fs ts : List ℕ) (qs : List (List X)) → Each P (before ts qs) → Each P (between fs ts qs)
  Each-between_before P [] ts qs e = tt
  Each-between_before P (f ∷ fs) [] qs e = tt
  Each-between_before P (f ∷ fs) (t ∷ ts) [] e = tt
  Each-between_before P (f ∷ fs) (t ∷ ts) (q ∷ qs) e =
      Each-append P (drop f (take t q)) (between fs ts qs) (Each-drop P f (take t q) (Each-append_left P (take t q) (before ts qs) e)) (Each-between_before P fs ts qs (Each-append_right P (take t q) (before ts qs) e))

  pub Each-between_after : (P : X → Type 0) (fs ts : List ℕ) (qs : List (List X)) → Each P (after fs qs) → Each P (between fs ts qs)
  Each-between_after P [] ts qs e = tt
  Each-between_after P (f ∷ fs) [] qs e = tt
  Each-between_after P (f ∷ fs) (t ∷ ts) [] e = tt
  Each-between_after P (f ∷ fs) (t ∷ ts) (q ∷ qs) e =
      Each-append P (drop f (take t q)) (between fs ts qs) (Each-drop_take P f t q (Each-append_left P (drop f q) (after fs qs) e)) (Each-between_after P fs ts qs (Each-append_right P (drop f q) (after fs qs) e))

  pub count_by-before_after : (p : X → Bool) (cs : List ℕ) (qs : List (List X)) → AreWithin cs qs → count_by p (before cs qs) + count_by p (after cs qs) ≡ count_by p (all_of qs)
  count_by-before_after p [] [] h = omega (arith, count_by-nil p)
  count_by-before_after p [] (q ∷ qs) h = absurd h
  count_by-before_after p (c ∷ cs) [] h = absurd h
  count_by-before_after p (c ∷ cs) (q ∷ qs) h =
      let ih = count_by-before_after p cs qs h.1 in
      let a = count_by-append p (take c q) (before cs qs) in
      let b = count_by-append p (drop c q) (after cs qs) in
      let d = count_by-append p q (all_of qs) in
      let e = ap (count_by p) (sym (take-append-drop c q)) ∙ count_by-append p (take c q) (drop c q) in
      omega arith

  -- the places of a cut of rank 0
  pub between-zeros : (cs : List ℕ) (qs : List (List X)) (zs : List ℕ) → AreParts zs cs qs → total zs ≡ 0 → between zs cs qs ≡ before cs qs
  between-zeros cs qs [] h e = elim cs as (λ cs. AreParts [] cs qs → [] ≡ before cs qs) [ [] ↦ (λ _. refl) | c ∷ cs ↦ (λ h. absurd h) ] h
  between-zeros [] qs (z ∷ zs) h e = absurd h
  between-zeros (c ∷ cs) [] (z ∷ zs) h e = absurd h
  between-zeros (c ∷ cs) (q ∷ qs) (z ∷ zs) h e =
      let k : z ≡ 0 = omega arith in
      ap₂ ◌++◌ (ap (λ n. drop n (take c q)) k) (between-zeros cs qs zs h.1 (omega arith))

  pub length-before : (cs : List ℕ) (qs : List (List X)) → AreWithin cs qs → length (before cs qs) ≡ total cs
  length-before [] [] h = refl
  length-before [] (q ∷ qs) h = absurd h
  length-before (c ∷ cs) [] h = absurd h
  length-before (c ∷ cs) (q ∷ qs) h =
      omega (arith, length-append (take c q) (before cs qs), length-take-le c q h.0, length-before cs qs h.1)

module _ {X : Type 0} (lt : X → X → Bool) where
  pub parts_from_places :
      (cs ds : List ℕ) (qs : List (List X)) → AreWithin cs qs → AreWithin ds qs → ((i : ℕ) → get_or cs i 0 ≤ get_or ds i 0) → AreParts cs ds qs
  parts_from_places [] [] [] h k l = tt
  parts_from_places [] ds (q ∷ qs) h k l = absurd h
  parts_from_places [] (d ∷ ds) [] h k l = absurd k
  parts_from_places (c ∷ cs) ds [] h k l = absurd h
  parts_from_places (c ∷ cs) [] (q ∷ qs) h k l = absurd k
  parts_from_places (c ∷ cs) (d ∷ ds) (q ∷ qs) h k l = ((l 0, k.0), parts_from_places cs ds qs h.1 k.1 (λ i. l (suc i)))

  each_before :
      (P : X → Type 0) (cs : List ℕ) (qs : List (List X))
      → ((i a : ℕ) (d : X) → a < get_or cs i 0 → a < length (list_at qs i) → P (get_or (list_at qs i) a d)) → Each P (before cs qs)
  each_before P [] qs h = tt
  each_before P (c ∷ cs) [] h = tt
  each_before P (c ∷ cs) (q ∷ qs) h =
      let one : All P (take c q) = λ k d l. (let n : k < min c (length q) = subst (λ m. k < m) (length-take c q) l in subst P (sym (get_or-take c q k d (omega arith))) (h 0 k d (omega arith) (omega arith))) in
      Each-append P (take c q) (before cs qs) (recursion_from_All P (take c q) one) (each_before P cs qs (λ i. h (suc i)))

  each_after :
      (P : X → Type 0) (cs : List ℕ) (qs : List (List X))
      → ((j b : ℕ) (d : X) → get_or cs j 0 ≤ b → b < length (list_at qs j) → P (get_or (list_at qs j) b d)) → Each P (after cs qs)
  each_after P [] qs h = tt
  each_after P (c ∷ cs) [] h = tt
  each_after P (c ∷ cs) (q ∷ qs) h =
      let one : All P (drop c q) = λ k d l. (let n : k < length q - c = subst (λ m. k < m) (length-drop c q) l in subst P (sym (get_or-drop c q k d)) (h 0 (c + k) d (omega arith) (omega arith))) in
      Each-append P (drop c q) (after cs qs) (recursion_from_All P (drop c q) one) (each_after P cs qs (λ i. h (suc i)))

  pub IsCut-parted : (qs : List (List X)) (r : ℕ) (cs : List ℕ) → IsCutBy lt qs r cs → IsParted lt cs qs
  IsCut-parted qs r cs h =
      each_before (λ a. Each (Le lt a) (after cs qs)) cs qs (λ i a d l m.
      each_after (Le lt (get_or (list_at qs i) a d)) cs qs (λ j b e n k.
      subst (λ z. Le lt (get_or (list_at qs i) a d) z) (get_or_default (list_at qs j) b d e k) (h.apart i j a b d l n k).0))

module _ {X : Type 0} where
  -- places that begin parts
  pub AreWithin-start : (fs ts : List ℕ) (qs : List (List X)) → AreParts fs ts qs → AreWithin fs qs
  AreWithin-start [] [] [] h = tt
  AreWithin-start [] [] (q ∷ qs) h = absurd h
  AreWithin-start [] (t ∷ ts) qs h = absurd h
  AreWithin-start (f ∷ fs) [] qs h = absurd h
  AreWithin-start (f ∷ fs) (t ∷ ts) [] h = absurd h
  AreWithin-start (f ∷ fs) (t ∷ ts) (q ∷ qs) h = (omega (arith, h.0), AreWithin-start fs ts qs h.1)

  -- parts up to the ends of the runs
  pub AreParts-ends : (fs : List ℕ) (qs : List (List X)) → AreWithin fs qs → AreParts fs (ends qs) qs
  AreParts-ends [] [] h = tt
  AreParts-ends [] (q ∷ qs) h = absurd h
  AreParts-ends (f ∷ fs) [] h = absurd h
  AreParts-ends (f ∷ fs) (q ∷ qs) h = ((h.0, omega arith), AreParts-ends fs qs h.1)

  pub between-ends : (fs : List ℕ) (qs : List (List X)) → between fs (ends qs) qs ≡ after fs qs
  between-ends [] qs = refl
  between-ends (f ∷ fs) [] = refl
  between-ends (f ∷ fs) (q ∷ qs) = ap₂ ◌++◌ (ap (drop f) (take_all (length q) q (omega arith))) (between-ends fs qs)

  pub before-ends : (qs : List (List X)) → before (ends qs) qs ≡ all_of qs
  before-ends [] = refl
  before-ends (q ∷ qs) = ap₂ ◌++◌ (take_all (length q) q (omega arith)) (before-ends qs)
