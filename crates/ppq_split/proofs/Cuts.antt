-- Cuts: no place falls when the rank grows, and there is one of each rank.
use Rattle.std.proofs.Common.{◌≡◌, ℕ, zero, suc, ◌+◌, ◌-◌, ◌<◌, ◌≤◌, Bool, List, [], ◌∷◌, length, get_or, refl, sym, ap, inl, inr, ◌∙◌, arith}
use Rattle.std.proofs.lemmas.Bool.{cases_lt}
use Rattle.std.proofs.lemmas.List.{length-append}
use Rattle.ppq_record.specs.Runs.{list_at, all_of}
use Rattle.ppq_split.specs.Cut.{AreWithin, total, IsCutBy}
use Rattle.ppq_split.specs.Edge.{starts, ends}

-- a place that falls shows another that rises
rises : (cs ds : List ℕ) → length cs ≡ length ds → (n : ℕ) → total cs + n ≤ total ds → 0 < n → (j : ℕ) × (get_or cs j 0 < get_or ds j 0)
rises [] [] l n h z = absurd (omega arith)
rises [] (d ∷ ds) l n h z = absurd (omega arith)
rises (c ∷ cs) [] l n h z = absurd (omega arith)
rises (c ∷ cs) (d ∷ ds) l n h z =
    elim (cases_lt c d) as (λ _. (j : ℕ) × (get_or (c ∷ cs) j 0 < get_or (d ∷ ds) j 0)) [
      | inl e ↦ (0, e)
      | inr e ↦ (let r = rises cs ds (omega arith) n (omega arith) z in (suc r.0, r.1))
    ]

rises_below : (cs ds : List ℕ) → length cs ≡ length ds → total cs ≤ total ds → (i : ℕ) → get_or ds i 0 < get_or cs i 0 → (j : ℕ) × (get_or cs j 0 < get_or ds j 0)
rises_below [] [] l h i k = absurd (omega arith)
rises_below [] (d ∷ ds) l h i k = absurd (omega arith)
rises_below (c ∷ cs) [] l h i k = absurd (omega arith)
rises_below (c ∷ cs) (d ∷ ds) l h zero k =
    let r = rises cs ds (omega arith) (c - d) (omega arith) (omega arith) in (suc r.0, r.1)
rises_below (c ∷ cs) (d ∷ ds) l h (suc i) k =
    elim (cases_lt c d) as (λ _. (j : ℕ) × (get_or (c ∷ cs) j 0 < get_or (d ∷ ds) j 0)) [
      | inl e ↦ (0, e)
      | inr e ↦ (let r = rises_below cs ds (omega arith) (omega arith) i k in (suc r.0, r.1))
    ]

-- places that are everywhere at most others have at most their sum
pub total-le : (cs ds : List ℕ) → length cs ≡ length ds → ((i : ℕ) → i < length cs → get_or cs i 0 ≤ get_or ds i 0) → total cs ≤ total ds
total-le [] ds l h = omega arith
total-le (c ∷ cs) [] l h = absurd (omega arith)
total-le (c ∷ cs) (d ∷ ds) l h = omega (arith, h 0 (omega arith), total-le cs ds (omega arith) (λ i k. h (suc i) (omega arith)))

-- lists of places that agree everywhere
pub same_places : (cs ds : List ℕ) → length cs ≡ length ds → ((i : ℕ) → i < length cs → get_or cs i 0 ≡ get_or ds i 0) → cs ≡ ds
same_places [] [] l h = refl
same_places [] (d ∷ ds) l h = absurd (omega arith)
same_places (c ∷ cs) [] l h = absurd (omega arith)
same_places (c ∷ cs) (d ∷ ds) l h =
    let e : c ≡ d = h 0 (omega arith) in
    ap (λ z. z ∷ cs) e ∙ ap (λ zs. d ∷ zs) (same_places cs ds (omega arith) (λ i k. h (suc i) (omega arith)))

module _ {X : Type 0} where
  pub AreWithin-at : (cs : List ℕ) (qs : List (List X)) (i : ℕ) → AreWithin cs qs → get_or cs i 0 ≤ length (list_at qs i)
  AreWithin-at [] [] i h = omega arith
  AreWithin-at [] (q ∷ qs) i h = absurd h
  AreWithin-at (c ∷ cs) [] i h = absurd h
  AreWithin-at (c ∷ cs) (q ∷ qs) zero h = h.0
  AreWithin-at (c ∷ cs) (q ∷ qs) (suc i) h = AreWithin-at cs qs i h.1

  pub AreWithin-length : (cs : List ℕ) (qs : List (List X)) → AreWithin cs qs → length cs ≡ length qs
  AreWithin-length [] [] h = refl
  AreWithin-length [] (q ∷ qs) h = absurd h
  AreWithin-length (c ∷ cs) [] h = absurd h
  AreWithin-length (c ∷ cs) (q ∷ qs) h = ap suc (AreWithin-length cs qs h.1)

  some_of : (q : List X) → 0 < length q → X
  some_of [] h = absurd (omega arith)
  some_of (x ∷ xs) h = x

  pub starts-length : (qs : List (List X)) → length (starts qs) ≡ length qs
  starts-length [] = refl
  starts-length (q ∷ qs) = ap suc (starts-length qs)

  pub ends-length : (qs : List (List X)) → length (ends qs) ≡ length qs
  ends-length [] = refl
  ends-length (q ∷ qs) = ap suc (ends-length qs)

  pub starts-within : (qs : List (List X)) → AreWithin (starts qs) qs
  starts-within [] = tt
  starts-within (q ∷ qs) = (omega arith, starts-within qs)

  pub starts-total : (qs : List (List X)) → total (starts qs) ≡ 0
  starts-total [] = refl
  starts-total (q ∷ qs) = omega (arith, starts-total qs)

  pub starts-at : (qs : List (List X)) (i : ℕ) → get_or (starts qs) i 0 ≡ 0
  starts-at [] i = refl
  starts-at (q ∷ qs) zero = refl
  starts-at (q ∷ qs) (suc i) = starts-at qs i

  pub ends-within : (qs : List (List X)) → AreWithin (ends qs) qs
  ends-within [] = tt
  ends-within (q ∷ qs) = (omega arith, ends-within qs)

  pub ends-total : (qs : List (List X)) → total (ends qs) ≡ length (all_of qs)
  ends-total [] = refl
  ends-total (q ∷ qs) = omega (arith, length-append q (all_of qs), ends-total qs)

  pub ends-at : (qs : List (List X)) (i : ℕ) → i < length qs → get_or (ends qs) i 0 ≡ length (list_at qs i)
  ends-at [] i l = absurd (omega arith)
  ends-at (q ∷ qs) zero l = refl
  ends-at (q ∷ qs) (suc i) l = ends-at qs i (omega arith)

  -- a record of a run stands in front of its end
  pub ends-past : (qs : List (List X)) (i b : ℕ) → get_or (ends qs) i 0 ≤ b → b < length (list_at qs i) → ⊥
  ends-past [] i b h l = omega arith
  ends-past (q ∷ qs) zero b h l = omega arith
  ends-past (q ∷ qs) (suc i) b h l = ends-past qs i b h l

module _ {X : Type 0} (lt : X → X → Bool) where
  -- no place of a cut falls when the rank grows
  pub IsCut-rises :
      (qs : List (List X)) (r t : ℕ) (cs ds : List ℕ) → IsCutBy lt qs r cs → IsCutBy lt qs t ds → r ≤ t
      → (i : ℕ) → get_or cs i 0 ≤ get_or ds i 0
  IsCut-rises qs r t cs ds h k l i =
      elim (cases_lt (get_or ds i 0) (get_or cs i 0)) as (λ _. get_or cs i 0 ≤ get_or ds i 0) [
        | inr e ↦ e
        | inl e ↦
            let lc = AreWithin-length cs qs h.within in
            let ld = AreWithin-length ds qs k.within in
            let s : total cs ≤ total ds = omega (arith, h.adds_up, k.adds_up) in
            let j = rises_below cs ds (lc ∙ sym ld) s i e in
            let ci = AreWithin-at cs qs i h.within in
            let dj = AreWithin-at ds qs j.0 k.within in
            let d = some_of (list_at qs i) (omega arith) in
            let x = h.apart i j.0 (get_or ds i 0) (get_or cs j.0 0) d e (omega arith) (omega (arith, j.1)) in
            let y = k.apart j.0 i (get_or cs j.0 0) (get_or ds i 0) d j.1 (omega arith) (omega arith) in
            let a : i ≤ j.0 = x.1 y.0 in
            let b : j.0 ≤ i = y.1 x.0 in
            let same_place : i ≡ j.0 = omega arith in
            let z : get_or cs i 0 < get_or ds i 0 = rw same_place j.1 in
            absurd (omega arith)
      ]

  pub IsCut-only : (qs : List (List X)) (r : ℕ) (cs ds : List ℕ) → IsCutBy lt qs r cs → IsCutBy lt qs r ds → cs ≡ ds
  IsCut-only qs r cs ds c d =
      same_places cs ds (AreWithin-length cs qs c.within ∙ sym (AreWithin-length ds qs d.within)) (λ i k. omega (arith, IsCut-rises qs r r cs ds c d (omega arith) i, IsCut-rises qs r r ds cs d c (omega arith) i))

  -- the cuts of the smallest rank and of the greatest
  pub starts-cut : (qs : List (List X)) → IsCutBy lt qs 0 (starts qs)
  starts-cut qs = record {
    within = starts-within qs;
    adds_up = starts-total qs;
    apart = λ i j a b d h k n. absurd (let e = starts-at qs i in let f : ⊥ = omega arith in f);
  }

  pub ends-cut : (qs : List (List X)) → IsCutBy lt qs (total (ends qs)) (ends qs)
  ends-cut qs = record {
    within = ends-within qs;
    adds_up = refl;
    apart = λ i j a b d h k n. absurd (ends-past qs j b k n);
  }
