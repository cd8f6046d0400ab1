-- Merging one record after the other.
use Rattle.std.proofs.Common.{◌≡◌, ℕ, ◌+◌, ◌<◌, ◌≤◌, Bool, List, [], ◌∷◌, ◌++◌, length, get_or, set, Some, refl, sym, ap, subst, inl, inr, ◌∙◌, arith}
use Rattle.std.specs.Prelude.{count_by}
use Rattle.std.specs.List.{AllByRecursion as Each}
use Rattle.std.specs.Cmp.{IsStrictWeakOrder}
use Rattle.std.proofs.lemmas.Bool.{cases_lt, cases_eq}
use Rattle.std.proofs.lemmas.List.{nil_from_length, get_or-set_same, get_or-set_other}
use Rattle.std.proofs.lemmas.Option.{slice_get-get_or, get_or_from_slice_get}
use Rattle.ppq_split.specs.ppq_record.Order.{Le, Rising}
use Rattle.ppq_split.specs.ppq_record.Runs.{list_at}
use Rattle.ppq_split.proofs.ppq_record.Order.{count_by-cons, count_by-append, Le-trans, Each-append, Each-weaker, Each-same_bag, Rising-append}
use Rattle.ppq_split.specs.Edge.{ends}
use Rattle.ppq_split.proofs.Cuts.{ends-past}
use Rattle.ppq_split.proofs.Edges.{rising_run, rising_at}
use Rattle.ppq_merge.specs.Heads.{head, IsMerging, IsNext, LeadsToCut}
use Rattle.ppq_merge.specs.Parts.{between, AreParts, size_between, IsMergeBy}
use Rattle.ppq_merge.proofs.Between.{count_by-nil, AreWithin-start}
use Rattle.ppq_merge.proofs.Heads.{head_some, head_in, taken, length-between}

module _ {X : Type 0} (lt : X → X → Bool) (o : IsStrictWeakOrder lt) where
  -- a step of the merge
  pub merged_one :
      (qs : List (List X)) (done left rest all : List X) (x : X) → IsMerging lt qs done left all → IsNext lt qs x left rest
      → IsMerging lt qs (done ++ x ∷ []) rest all
  merged_one qs done left rest all x m n = record {
    bag = λ p.
        let a = count_by-append p (done ++ x ∷ []) rest in
        let b = count_by-append p done (x ∷ []) in
        let c = count_by-append p done left in
        let d = count_by-cons p x rest in
        let e = count_by-cons p x [] in
        let z = count_by-nil {X = X} p in
        let k = n.bag p in
        let l = m.bag p in omega arith;
    order = λ up.
        let old = m.order up in
        let low = n.least up in
        let kept : (a : X) → Each (Le lt a) left → Each (Le lt a) rest = λ a h. (Each-same_bag (λ z. lt z a) left (x ∷ rest) (λ p. sym (n.bag p)) h).1 in
        let each_x : Each (λ a. Each (Le lt a) (x ∷ [])) done = Each-weaker (λ a. Each (Le lt a) left) (λ a. Each (Le lt a) (x ∷ [])) (λ a h. ((Each-same_bag (λ z. lt z a) left (x ∷ rest) (λ p. sym (n.bag p)) h).0, tt)) done old.1 in (
          Rising-append lt o done (x ∷ []) old.0 (tt, tt) each_x,
          Each-append (λ a. Each (Le lt a) rest) done (x ∷ []) (Each-weaker (λ a. Each (Le lt a) left) (λ a. Each (Le lt a) rest) kept done old.1) (kept x low, tt),
        );
  }

  pub merging_all : (qs : List (List X)) (fs ts gs : List ℕ) (done : List X) → AreParts gs ts qs → size_between gs ts ≡ 0 → IsMerging lt qs done (between gs ts qs) (between fs ts qs) → IsMergeBy lt qs fs ts done
  merging_all qs fs ts gs done h e m = record {
    bag = λ p.
        let a = count_by-append p done (between gs ts qs) in
        let z = ap (count_by p) (nil_from_length (between gs ts qs) (length-between gs ts qs h ∙ e)) ∙ count_by-nil p in
        let k = m.bag p in omega arith;
    order = λ up. (m.order up).0;
  }

  -- the record at a place is the next one or comes after it
  next_or_after :
      (fs ts : List ℕ) (qs : List (List X)) (j b : ℕ) (d : X) → AreParts fs ts qs → ts ≡ ends qs → Each (Rising lt) qs → get_or fs j 0 ≤ b → b < length (list_at qs j)
      → (y : X) × (head fs ts qs j ≡ Some y) × Le lt y (get_or (list_at qs j) b d)
  next_or_after fs ts qs j b d parts at_ends up from within =
      let end : get_or ts j 0 ≡ get_or (ends qs) j 0 = ap (λ x. get_or x j 0) at_ends in
      let left : get_or fs j 0 < get_or ts j 0 =
      elim (cases_lt b (get_or (ends qs) j 0)) as (λ _. get_or fs j 0 < get_or ts j 0) [
        | inl e ↦ omega arith
        | inr e ↦ absurd (ends-past qs j b e within)
      ] in (
        get_or (list_at qs j) (get_or fs j 0) d,
        head_some fs ts qs j parts left ∙ slice_get-get_or (list_at qs j) (get_or fs j 0) d (omega arith),
        rising_at lt o (list_at qs j) (rising_run lt qs up j) (get_or fs j 0) b d from within,
      )

  -- a record that goes before all that is left, as one of the lowest run among equals
  before_rest :
      (fs ts : List ℕ) (qs : List (List X)) (i : ℕ) (x : X) → AreParts fs ts qs → ts ≡ ends qs → Each (Rising lt) qs
      → ((j : ℕ) (y : X) → head fs ts qs j ≡ Some y → Le lt x y) → ((j : ℕ) (y : X) → head fs ts qs j ≡ Some y → Le lt y x → i ≤ j)
      → (j b : ℕ) (d : X) → get_or fs j 0 ≤ b → b < length (list_at qs j)
      → Le lt x (get_or (list_at qs j) b d) × (Le lt (get_or (list_at qs j) b d) x → i ≤ j)
  before_rest fs ts qs i x parts at_ends up least lowest j b d from within =
      let r = next_or_after fs ts qs j b d parts at_ends up from within in
      let z = get_or (list_at qs j) b d in (
        Le-trans lt o x r.0 z (least j r.0 r.1) r.2,
        λ e. lowest j r.0 r.1 (Le-trans lt o r.0 z x r.2 e),
      )

  place_risen : (fs : List ℕ) (i j : ℕ) → i < length fs → get_or fs j 0 ≤ get_or (set fs i (get_or fs i 0 + 1)) j 0
  place_risen fs i j l =
      elim (cases_eq j i) as (λ _. get_or fs j 0 ≤ get_or (set fs i (get_or fs i 0 + 1)) j 0) [
        | inl e ↦ subst (λ n. get_or fs n 0 ≤ get_or (set fs i (get_or fs i 0 + 1)) n 0) (sym e) (omega (arith, get_or-set_same fs i (get_or fs i 0 + 1) 0 l))
        | inr n ↦ omega (arith, get_or-set_other fs i j (get_or fs i 0 + 1) 0 n)
      ]

  -- a record that is in front of the places once x is: it was before, or it is x
  newly_before :
      (P : ℕ → ℕ → Type 0) (fs : List ℕ) (i : ℕ) → i < length fs → ((k a : ℕ) → a < get_or fs k 0 → P k a) → P i (get_or fs i 0)
      → (k a : ℕ) → a < get_or (set fs i (get_or fs i 0 + 1)) k 0 → P k a
  newly_before P fs i l old here k a h =
      elim (cases_lt a (get_or fs k 0)) as (λ _. P k a) [
        | inl e ↦ old k a e
        | inr e ↦
            elim (cases_eq k i) as (λ _. P k a) [
              | inr n ↦ absurd (let s = get_or-set_other fs i k (get_or fs i 0 + 1) 0 n in let f : ⊥ = omega arith in f)
              | inl same ↦
                  (let s = get_or-set_same fs i (get_or fs i 0 + 1) 0 l in
                  let h : a < get_or (set fs i (get_or fs i 0 + 1)) i 0 = subst (λ n. a < get_or (set fs i (get_or fs i 0 + 1)) n 0) same h in
                  let e : get_or fs i 0 ≤ a = subst (λ n. get_or fs n 0 ≤ a) same e in
                  let at : get_or fs i 0 ≡ a = omega arith in
                  subst (λ n. P n a) (sym same) (subst (P i) at here))
            ]
      ]

  -- the places are a cut still
  pub cut_next :
      (fs ts : List ℕ) (qs : List (List X)) (i : ℕ) (x : X) → AreParts fs ts qs → head fs ts qs i ≡ Some x
      → ((j : ℕ) (y : X) → head fs ts qs j ≡ Some y → Le lt x y) → ((j : ℕ) (y : X) → head fs ts qs j ≡ Some y → Le lt y x → i ≤ j)
      → LeadsToCut lt qs ts fs (set fs i (get_or fs i 0 + 1))
  cut_next fs ts qs i x parts there least lowest at_ends up cut =
      let gs = set fs i (get_or fs i 0 + 1) in
      let inside = head_in fs ts qs i x parts there in
      let this : (d : X) → get_or (list_at qs i) (get_or fs i 0) d ≡ x = λ d. get_or_from_slice_get (list_at qs i) (get_or fs i 0) x d (sym (head_some fs ts qs i parts inside.1) ∙ there) in
      record {
        within = AreWithin-start gs ts qs (taken fs ts qs i x parts there).1;
        adds_up = refl;
        apart = λ k j a b d before from within.
            let from_old : get_or fs j 0 ≤ b = omega (arith, place_risen fs i j inside.0) in
            let z = get_or (list_at qs j) b d in
            let P : ℕ → ℕ → Type 0 = λ k a. Le lt (get_or (list_at qs k) a d) z × (Le lt z (get_or (list_at qs k) a d) → k ≤ j) in
            newly_before P fs i inside.0 (λ k a l. cut.apart k j a b d l from_old within)
            (subst (λ v. Le lt v z × (Le lt z v → i ≤ j)) (sym (this d)) (before_rest fs ts qs i x parts at_ends up least lowest j b d from_old within)) k a before;
      }
