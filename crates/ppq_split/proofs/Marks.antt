-- The places where a record parts runs that ascend: they are a cut.
use Rattle.std.proofs.Common.{◌≡◌, ℕ, zero, suc, ◌+◌, ◌<◌, ◌≤◌, Bool, true, false, List, [], ◌∷◌, length, get_or, refl, sym, ap, inl, inr, ◌∙◌, arith, true≢false}
use Rattle.std.specs.Prelude.{count_by}
use Rattle.std.specs.List.{AllByRecursion as Each}
use Rattle.std.specs.Cmp.{IsStrictWeakOrder}
use Rattle.std.proofs.lemmas.Bool.{cases_lt}
use Rattle.ppq_record.specs.Order.{Rising}
use Rattle.ppq_record.specs.Runs.{list_at}
use Rattle.ppq_split.specs.Cut.{AreWithin, total, IsCutBy}
use Rattle.ppq_split.specs.Edge.{passes, higher_places, mark_places, IsPartedBy}
use Rattle.ppq_split.proofs.Windows.{count-within, un_not, un_not_false, passes_before, fails_after, passes_down}

module _ {X : Type 0} (lt : X → X → Bool) (o : IsStrictWeakOrder lt) (x : X) where
  IsLeft : ℕ → ℕ → X → Type 0
  IsLeft i j y = (lt x y ≡ false) × (i < j → lt y x ≡ true)

  IsRight : ℕ → ℕ → X → Type 0
  IsRight i j z = (lt z x ≡ false) × (j < i → lt x z ≡ true)

  higher_left : (qs : List (List X)) → Each (Rising lt) qs → (j a : ℕ) (d : X) → a < get_or (higher_places lt x qs) j 0 → lt (get_or (list_at qs j) a d) x ≡ true
  higher_left [] r j a d h = absurd (omega arith)
  higher_left (q ∷ qs) r zero a d h = passes_before lt (passes lt x false) (passes_down lt o x false) q r.0 a d h
  higher_left (q ∷ qs) r (suc j) a d h = higher_left qs r.1 j a d h

  higher_right : (qs : List (List X)) → Each (Rising lt) qs → (j b : ℕ) (d : X) → get_or (higher_places lt x qs) j 0 ≤ b → b < length (list_at qs j) → lt (get_or (list_at qs j) b d) x ≡ false
  higher_right [] r j b d h l = absurd (omega arith)
  higher_right (q ∷ qs) r zero b d h l = fails_after lt (passes lt x false) (passes_down lt o x false) q r.0 b d h l
  higher_right (q ∷ qs) r (suc j) b d h l = higher_right qs r.1 j b d h l

  lefts : (p i : ℕ) (qs : List (List X)) → Each (Rising lt) qs → IsPartedBy lt x p (list_at qs i) → (j a : ℕ) (d : X) → a < get_or (mark_places lt x p i qs) j 0 → IsLeft i j (get_or (list_at qs j) a d)
  unfolding IsLeft
  lefts p i [] r h j a d l = absurd (omega arith)
  lefts p zero (q ∷ qs) r h zero a d l = (h.left a d l, λ k. absurd (omega arith))
  lefts p zero (q ∷ qs) r h (suc j) a d l = let t = higher_left qs r.1 j a d l in (o.one_way _ _ t, λ k. t)
  lefts p (suc i) (q ∷ qs) r h zero a d l =
      (un_not (lt x (get_or q a d)) (passes_before lt (passes lt x true) (passes_down lt o x true) q r.0 a d l), λ k. absurd (omega arith))
  lefts p (suc i) (q ∷ qs) r h (suc j) a d l = let t = lefts p i qs r.1 h j a d l in (t.0, λ k. t.1 (omega arith))

  rights : (p i : ℕ) (qs : List (List X)) → Each (Rising lt) qs → IsPartedBy lt x p (list_at qs i) → (j b : ℕ) (d : X) → get_or (mark_places lt x p i qs) j 0 ≤ b → b < length (list_at qs j) → IsRight i j (get_or (list_at qs j) b d)
  unfolding IsRight
  rights p i [] r h j b d l m = absurd (omega arith)
  rights p zero (q ∷ qs) r h zero b d l m = (h.right b d l m, λ k. absurd (omega arith))
  rights p zero (q ∷ qs) r h (suc j) b d l m = (higher_right qs r.1 j b d l m, λ k. absurd (omega arith))
  rights p (suc i) (q ∷ qs) r h zero b d l m =
      let t = un_not_false (lt x (get_or q b d)) (fails_after lt (passes lt x true) (passes_down lt o x true) q r.0 b d l m) in (o.one_way _ _ t, λ k. t)
  rights p (suc i) (q ∷ qs) r h (suc j) b d l m = let t = rights p i qs r.1 h j b d l m in (t.0, λ k. t.1 (omega arith))

  higher_within : (qs : List (List X)) → AreWithin (higher_places lt x qs) qs
  higher_within [] = tt
  higher_within (q ∷ qs) = (count-within (passes lt x false) q, higher_within qs)

  mark_within : (p i : ℕ) (qs : List (List X)) → IsPartedBy lt x p (list_at qs i) → AreWithin (mark_places lt x p i qs) qs
  mark_within p i [] h = tt
  mark_within p zero (q ∷ qs) h = (h.within, higher_within qs)
  mark_within p (suc i) (q ∷ qs) h = (count-within (passes lt x true) q, mark_within p i qs h)

  -- the places of a record are a cut
  pub mark_cut : (p i : ℕ) (qs : List (List X)) → Each (Rising lt) qs → IsPartedBy lt x p (list_at qs i) → IsCutBy lt qs (total (mark_places lt x p i qs)) (mark_places lt x p i qs)
  unfolding IsLeft IsRight
  mark_cut p i qs r h = record {
    within = mark_within p i qs h;
    adds_up = refl;
    apart = λ j k a b d l m n.
        let y = lefts p i qs r h j a d l in
        let z = rights p i qs r h k b d m n in (
          o.chain _ x _ z.0 y.0,
          λ e.
              elim (cases_lt i j) as (λ _. j ≤ k) [
                | inl up ↦ (let w = y.1 up in let v = o.chain _ _ x e z.0 in absurd (true≢false (sym w ∙ v)))
                | inr low ↦
                    elim (cases_lt k i) as (λ _. j ≤ k) [
                      | inl down ↦ (let w = z.1 down in let v = o.chain x _ _ y.0 e in absurd (true≢false (sym w ∙ v)))
                      | inr high ↦ omega arith
                    ]
              ],
        );
  }

module _ {X : Type 0} (lt : X → X → Bool) (x : X) where
  -- its places by run
  pub mark_own : (p i : ℕ) (qs : List (List X)) → i < length qs → get_or (mark_places lt x p i qs) i 0 ≡ p
  mark_own p i [] l = absurd (omega arith)
  mark_own p zero (q ∷ qs) l = refl
  mark_own p (suc i) (q ∷ qs) l = mark_own p i qs (omega arith)

  higher_at : (qs : List (List X)) (j : ℕ) → j < length qs → get_or (higher_places lt x qs) j 0 ≡ count_by (passes lt x false) (list_at qs j)
  higher_at [] j l = absurd (omega arith)
  higher_at (q ∷ qs) zero l = refl
  higher_at (q ∷ qs) (suc j) l = higher_at qs j (omega arith)

  pub mark_higher : (p i : ℕ) (qs : List (List X)) (j : ℕ) → i < j → j < length qs → get_or (mark_places lt x p i qs) j 0 ≡ count_by (passes lt x false) (list_at qs j)
  mark_higher p i [] j h l = absurd (omega arith)
  mark_higher p zero (q ∷ qs) zero h l = absurd (omega arith)
  mark_higher p zero (q ∷ qs) (suc j) h l = higher_at qs j (omega arith)
  mark_higher p (suc i) (q ∷ qs) zero h l = absurd (omega arith)
  mark_higher p (suc i) (q ∷ qs) (suc j) h l = mark_higher p i qs j (omega arith) (omega arith)

  pub mark_lower : (p i : ℕ) (qs : List (List X)) (j : ℕ) → j < i → j < length qs → get_or (mark_places lt x p i qs) j 0 ≡ count_by (passes lt x true) (list_at qs j)
  mark_lower p i [] j h l = absurd (omega arith)
  mark_lower p zero (q ∷ qs) j h l = absurd (omega arith)
  mark_lower p (suc i) (q ∷ qs) zero h l = refl
  mark_lower p (suc i) (q ∷ qs) (suc j) h l = mark_lower p i qs j (omega arith) (omega arith)

  pub total_one : (p i : ℕ) (qs : List (List X)) → i < length qs → total (mark_places lt x (suc p) i qs) ≡ total (mark_places lt x p i qs) + 1
  total_one p i [] l = absurd (omega arith)
  total_one p zero (q ∷ qs) l = omega arith
  total_one p (suc i) (q ∷ qs) l = omega (arith, total_one p i qs (omega arith))

  pub total_next : (p i : ℕ) (qs : List (List X)) → i < length qs → total (mark_places lt x p i qs) + 1 ≡ total (mark_places lt x (p + 1) i qs)
  total_next p i qs l = let e : suc p ≡ p + 1 = omega arith in sym (total_one p i qs l) ∙ ap (λ n. total (mark_places lt x n i qs)) e

  higher_length : (qs : List (List X)) → length (higher_places lt x qs) ≡ length qs
  higher_length [] = refl
  higher_length (q ∷ qs) = ap suc (higher_length qs)

  pub mark_length : (p i : ℕ) (qs : List (List X)) → length (mark_places lt x p i qs) ≡ length qs
  mark_length p i [] = refl
  mark_length p zero (q ∷ qs) = ap suc (higher_length qs)
  mark_length p (suc i) (q ∷ qs) = ap suc (mark_length p i qs)
