-- What reading one line adds to what was read before it.
use Rattle.std.specs.Prelude.{◌≡◌, ◌⊎◌, ℕ, ◌+◌, ◌≤◌, true, List, ◌∷◌, ◌++◌, length, Option, Some, None}
use Rattle.ppq_script.specs.declared.numbered.Numbered.{Numbered}
use Rattle.ppq_script.specs.Lines.{LineKind, before_bad, names_before, file_after, bad_or, head_at, head_line}
use Rattle.ppq_script.specs.declared.head.Head.{Head}

-- a good line of this number and kind was taken: whatever comes behind it, the commands and the names before it and those that it
-- has are those that there are now
pub record IsTaken {R : Type 0} (line : ℕ) (kind : LineKind R) (had : List (Numbered R)) (knew : List (List ℕ)) (has : List (Numbered R)) (knows : List (List ℕ)) : Type 0 where
  pub commands : (rest : List (Numbered R)) → had ++ before_bad line (length knew) kind rest ≡ has ++ rest
  pub names : (rest : List (List ℕ)) → knew ++ names_before kind rest ≡ knows ++ rest
  pub file : file_after (length knew) kind ≡ length knows
  pub good : (rest : Option ℕ) → bad_or (λ name. true) line kind rest ≡ rest
  pub few : length knows ≤ length knew + 1

-- of a script's lines these are left, and the first has this number: those behind the head, or all where there is none
abbrev pub IsBehindHead : List (List ℕ) → List (List ℕ) → ℕ → Type 0
IsBehindHead lines left line =
    ((head_at lines ≡ None) × ((left ≡ lines) × (line ≡ 1)))
    ⊎ ((first : List ℕ) × ((head : Head) × ((head_line first ≡ Some head) × ((lines ≡ first ∷ left) × (line ≡ 2)))))
