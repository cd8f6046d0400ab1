-- Arrays of a level that are brought to the end of a list.
use Rattle.std.proofs.Common.{◌≡◌, ℕ, zero, suc, ◌+◌, ◌-◌, ◌<◌, ◌≤◌, ◌==◌, true, cond, List, [], ◌∷◌, length, take, drop, get_or, All, refl, sym, ap, ◌∙◌, subst, arith, IsPermutation}
use Rattle.std.specs.List.{swap}
use Rattle.std.proofs.lemmas.List.{get_or-drop, length-drop}
use Rattle.std.proofs.lemmas.List.Edits.{swapped_from_swap}
use Rattle.std.proofs.lemmas.List.Sorted.{sum_by-IsPermutation}
use Rattle.std.proofs.lemmas.List.Sums.{sum_by-cons, sum_by-take-drop}
use Rattle.std.proofs.lemmas.List.Elements.{All-head, All-tail, All-get_or}
use Rattle.ppq_fetch.specs.ppq_array.External.{External}
use Rattle.ppq_spill.specs.Leveling.{HasLevel, count_level}

module _ {S R : Type 0} (level : ℕ) where
  abbrev weight : External S R → ℕ
  weight a = cond (a.level == level) 1 0

  counts_one : (a : External S R) → a.level ≡ level → weight a ≡ 1
  counts_one a e =
      let same : (level == level) ≡ true = grind arith in
      ap (λ k. cond (k == level) 1 0) e ∙ ap (λ b. cond b 1 0) same

  count_all : (xs : List (External S R)) → All (HasLevel level) xs → count_level level xs ≡ length xs
  count_all [] a = refl
  count_all (x ∷ xs) a =
      let P = HasLevel {S = S} {R = R} level in
      let e : count_level level (x ∷ xs) ≡ suc (length xs) = omega (arith, sum_by-cons weight x xs, counts_one x (All-head P x xs a), count_all xs (All-tail P x xs a)) in
      e

  -- one more stands before those that were found
  pub one_left :
      (old now : List (External S R)) (count found : ℕ) → IsPermutation old now → count ≤ count_level level old → found < count → found ≤ length now → All (HasLevel level) (drop (length now - found) now)
      → 0 < count_level level (take (length now - found) now)
  one_left old now count found moved enough few within levels =
      let n = length now - found in
      omega (
        arith,
        sum_by-IsPermutation weight old now moved,
        sum_by-take-drop weight now n,
        count_all (drop n now) levels,
        length-drop n now,
        enough,
        few,
        within,
      )

  -- the next one is moved before them
  pub found_more :
      (xs ys : List (External S R)) (found place j : ℕ) → found < length xs → place < length xs - found → j ≡ length xs - (found + 1) → ys ≡ swap xs place j → length ys ≡ length xs
      → All (HasLevel level) (drop (length xs - found) xs) → ((d : External S R) → (get_or xs place d).level ≡ level) → All (HasLevel level) (drop (length ys - (found + 1)) ys)
  found_more xs ys found place j more before last swapped long levels here =
      let n : length ys - (found + 1) ≡ j = omega (arith, long, last) in
      subst (λ n. All (HasLevel level) (drop n ys)) (sym n)
      (λ k d h. subst (HasLevel {S = S} {R = R} level) (sym (get_or-drop j ys k d)) (at d k (let e : j + k < length ys = omega (arith, h, length-drop j ys) in e)))
    where
      at : (d : External S R) (k : ℕ) → j + k < length ys → HasLevel {S = S} {R = R} level (get_or ys (j + k) d)
      at d zero h =
          let sw = swapped_from_swap xs ys place j d (omega arith) (omega arith) swapped in
          let z : j + 0 ≡ j = omega arith in
          subst (λ n. HasLevel {S = S} {R = R} level (get_or ys n d)) (sym z) (subst (HasLevel {S = S} {R = R} level) (sym sw.1) (here d))
      at d (suc k) h =
          let sw = swapped_from_swap xs ys place j d (omega arith) (omega arith) swapped in
          let n : j + suc k ≡ length xs - found + k = omega arith in
          let same : get_or ys (j + suc k) d ≡ get_or xs (j + suc k) d = sw.2 (j + suc k) (λ e. absurd (omega arith)) (λ e. absurd (omega arith)) in
          let there : HasLevel {S = S} {R = R} level (get_or (drop (length xs - found) xs) k d) = All-get_or (HasLevel {S = S} {R = R} level) (drop (length xs - found) xs) k d (omega (arith, length-drop (length xs - found) xs, long, h)) levels in
          subst (HasLevel {S = S} {R = R} level) (sym (same ∙ ap (λ m. get_or xs m d) n ∙ sym (get_or-drop (length xs - found) xs k d))) there
