-- Which of the records of a file is the first that is no edge.
use Rattle.std.proofs.Common.{◌≡◌, ℕ, suc, ◌+◌, ◌*◌, ◌/◌, ◌≤◌, Bool, true, false, List, [], ◌∷◌, ◌++◌, length, take, drop, Option, Some, None, refl, sym, ap, ap₂, ◌∙◌, arith, length-append}
use Rattle.std.specs.Prelude.{if◌then◌else◌, nat_lt}
use Rattle.std.proofs.lemmas.Bool.{and_parts, ltb-true}
use Rattle.std.proofs.lemmas.List.{take-append-le, take_all, drop-append-le, drop_all}
use Rattle.ppq_sweep.specs.ppq_record.declared.pair.Pair.{Pair}
use Rattle.ppq_sweep.specs.ppq_record.Pair.{pair_of}
use Rattle.ppq_sweep.specs.Levels.{AreEdges}
use Rattle.ppq_engine.specs.ppq_load.Given.{records_of}
use Rattle.ppq_engine.proofs.ppq_load.ppq_block.Blocks.{records_from-take}
use Rattle.ppq_engine.proofs.ppq_load.FileRecords.{records-add}
use Rattle.ppq_engine.specs.ppq_load.ppq_record.Given.{records_from}
use Rattle.ppq_jobs.specs.Edges.{is_edge, first_bad_from}

-- none is found only if the first record is an edge, and none of the others is found
none_of : (edge : Bool) (rest : Option ℕ) (at : ℕ) → (if edge then rest else Some at) ≡ None → (edge ≡ true) × (rest ≡ None)
none_of true rest at is = (refl, is)
none_of false rest at is = absurd (let no : Some at ≡ None = is in cc)

-- what is found of the others is found of all, and so is what was found before them
some_of : (edge : Bool) (rest more : Option ℕ) (at number : ℕ) → (rest ≡ Some number → more ≡ Some number) → (if edge then rest else Some at) ≡ Some number → (if edge then more else Some at) ≡ Some number
some_of true rest more at number so is = so is
some_of false rest more at number so is = is

-- so its number is none of those before them
later_of : (edge : Bool) (rest : Option ℕ) (at number : ℕ) → (rest ≡ Some number → suc at ≤ number) → (if edge then rest else Some at) ≡ Some number → at ≤ number
later_of true rest at number so is = omega (arith, so is)
later_of false rest at number so is = let same : at ≡ number = cc in omega (arith, same)

module _ (nodes : ℕ) where
  -- behind records that are edges the search goes on
  pub bad-append : (at : ℕ) (xs ys : List Pair) → first_bad_from nodes at xs ≡ None → first_bad_from nodes at (xs ++ ys) ≡ first_bad_from nodes (at + length xs) ys
  bad-append at [] ys none = let e : at ≡ at + 0 = omega arith in ap (λ n. first_bad_from nodes n ys) e
  bad-append at (x ∷ xs) ys none =
      let parts = none_of (is_edge nodes x) (first_bad_from nodes (suc at) xs) at none in
      let e : suc at + length xs ≡ at + suc (length xs) = omega arith in
      ap (λ b. if b then first_bad_from nodes (suc at) (xs ++ ys) else Some at) parts.0 ∙ bad-append (suc at) xs ys parts.1 ∙ ap (λ n. first_bad_from nodes n ys) e

  -- what was found in front stays the first
  pub bad-more : (at number : ℕ) (xs ys : List Pair) → first_bad_from nodes at xs ≡ Some number → first_bad_from nodes at (xs ++ ys) ≡ Some number
  bad-more at number [] ys is = absurd (let no : None ≡ Some number = is in cc)
  bad-more at number (x ∷ xs) ys is = some_of (is_edge nodes x) (first_bad_from nodes (suc at) xs) (first_bad_from nodes (suc at) (xs ++ ys)) at number (bad-more (suc at) number xs ys) is

  -- no number comes before the first one
  pub bad-later : (at number : ℕ) (xs : List Pair) → first_bad_from nodes at xs ≡ Some number → at ≤ number
  bad-later at number [] is = absurd (let no : None ≡ Some number = is in cc)
  bad-later at number (x ∷ xs) is = later_of (is_edge nodes x) (first_bad_from nodes (suc at) xs) at number (bad-later (suc at) number xs) is

  -- if none is found, all are edges
  pub none-edges : (at : ℕ) (xs : List Pair) → first_bad_from nodes at xs ≡ None → AreEdges nodes xs
  none-edges at [] none = tt
  none-edges at (x ∷ xs) none =
      let parts = none_of (is_edge nodes x) (first_bad_from nodes (suc at) xs) at none in
      let both = and_parts (nat_lt x.key x.value) (nat_lt x.value nodes) parts.0 in
      (record { up = ltb-true x.key x.value both.0; within = ltb-true x.value nodes both.1 }, none-edges (suc at) xs parts.1)

-- the records of bytes in two parts, the first of which has whole records
pub edges-append : (count : ℕ) (xs ys : List ℕ) → length xs ≡ count * 16 → records_of pair_of 16 (xs ++ ys) ≡ records_of pair_of 16 xs ++ records_of pair_of 16 ys
edges-append count xs ys long =
    let all : length (xs ++ ys) / 16 ≡ count + length ys / 16 = omega (arith, length-append xs ys, long) in
    let own : count ≡ length xs / 16 = omega (arith, long) in
    let within : count * 16 ≤ length xs = omega (arith, long) in
    let front : take (count * 16) (xs ++ ys) ≡ xs = take-append-le (count * 16) xs ys within ∙ take_all (count * 16) xs (omega (arith, long)) in
    let behind : drop (count * 16) (xs ++ ys) ≡ ys = drop-append-le (count * 16) xs ys within ∙ ap (λ (t : List ℕ). t ++ ys) (drop_all (count * 16) xs (omega (arith, long))) in
    ap (λ n. records_from pair_of 16 n (xs ++ ys)) all ∙ records-add pair_of 16 count (length ys / 16) (xs ++ ys)
    ∙ ap₂ (λ (a b : List Pair). a ++ b) (sym (records_from-take pair_of 16 count (xs ++ ys)) ∙ ap (records_from pair_of 16 count) front ∙ ap (λ n. records_from pair_of 16 n xs) own) (ap (records_from pair_of 16 (length ys / 16)) behind)
