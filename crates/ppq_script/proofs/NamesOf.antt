-- Lemmas on the names of files: what came before, and the next one.
use Rattle.std.proofs.Common.{◌≡◌, ℕ, ◌+◌, ◌<◌, List, [], ◌∷◌, ◌++◌, length, get_or, refl, sym, ap, ◌∙◌, arith, length-append}
use Rattle.std.proofs.Math.Seq.{get_or-append_seam}
use Rattle.ppq_script.specs.Files.{name_at}

-- one name more came before
pub names_more : (names pre : List (List ℕ)) (name : List ℕ) (rest : List (List ℕ)) → names ≡ pre ++ name ∷ rest → names ≡ (pre ++ name ∷ []) ++ rest
names_more names pre name rest e = e ∙ sym (snoc_first pre name rest)
  where
    snoc_first : (pre : List (List ℕ)) (name : List ℕ) (rest : List (List ℕ)) → (pre ++ name ∷ []) ++ rest ≡ pre ++ name ∷ rest
    snoc_first [] name rest = refl
    snoc_first (x ∷ xs) name rest = ap (λ (t : List (List ℕ)). x ∷ t) (snoc_first xs name rest)

pub file_more : (pre : List (List ℕ)) (name : List ℕ) (file : ℕ) → file ≡ length pre → file + 1 ≡ length (pre ++ name ∷ [])
file_more pre name file f = omega (arith, f, length-append pre (name ∷ []))

-- the next name is at its number
pub name_here : (names pre : List (List ℕ)) (name : List ℕ) (rest : List (List ℕ)) (file : ℕ) → file ≡ length pre → names ≡ pre ++ name ∷ rest → name_at names file ≡ name
name_here names pre name rest file f e =
    ap (λ (i : ℕ). get_or names i []) f ∙ ap (λ (ns : List (List ℕ)). get_or ns (length pre) []) e ∙ get_or-append_seam pre name rest []

pub name_there : (names pre : List (List ℕ)) (name : List ℕ) (rest : List (List ℕ)) (file : ℕ) → file ≡ length pre → names ≡ pre ++ name ∷ rest → file < length names
name_there names pre name rest file f e =
    let long : length names ≡ length (pre ++ name ∷ rest) = ap length e in
    omega (arith, f, long, length-append pre (name ∷ rest))
