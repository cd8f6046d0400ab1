-- Lemmas on the numbers of the first fields, taken one after the other.
use Rattle.std.proofs.Common.{◌≡◌, ℕ, zero, suc, ◌+◌, ◌-◌, ◌<◌, List, [], ◌∷◌, ◌++◌, length, take, set, Option, Some, None, refl, sym, ap, ap₂, ◌∙◌, arith}
use Rattle.std.proofs.lemmas.List.{take_more_set}
use Rattle.ppq_script.specs.Number.{number_of}
use Rattle.ppq_script.specs.Command.{in_front, numbers_of}
use Rattle.ppq_script.proofs.Spelling.{in_front_parts}

-- numbers behind others
abbrev behind : List ℕ → Option (List ℕ × List (List ℕ)) → Option (List ℕ × List (List ℕ))
behind ns None = None
behind ns (Some q) = Some (ns ++ q.0, q.1)

behind_none : (o : Option (List ℕ × List (List ℕ))) → o ≡ behind [] o
behind_none None = refl
behind_none (Some q) = refl

front_behind : (n : ℕ) (ns : List ℕ) (o : Option (List ℕ × List (List ℕ))) → in_front (Some n) (behind ns o) ≡ behind (n ∷ ns) o
front_behind n ns None = refl
front_behind n ns (Some q) = refl

-- the numbers of so many fields, and of so many behind these
numbers_then : (i j m : ℕ) (fields : List (List ℕ)) (p : List ℕ × List (List ℕ)) → numbers_of i fields ≡ Some p → m ≡ i + j → numbers_of m fields ≡ behind p.0 (numbers_of j p.1)
numbers_then zero j m fields p e is =
    let same : ([], fields) ≡ p = cc in
    let at : m ≡ j = omega (arith, is) in
    ap (λ (k : ℕ). numbers_of k fields) at ∙ behind_none (numbers_of j fields) ∙ ap (λ (q : List ℕ × List (List ℕ)). behind q.0 (numbers_of j q.1)) same
numbers_then (suc i) j zero fields p e is = absurd (omega (arith, is))
numbers_then (suc i) j (suc m) [] p e is = cc
numbers_then (suc i) j (suc m) (field ∷ fields) p e is =
    let parts = in_front_parts (number_of field) (numbers_of i fields) p e in
    let q = parts.1.0 in
    let rest : numbers_of m fields ≡ behind q.0 (numbers_of j q.1) = numbers_then i j m fields q parts.1.1.1.0 (omega (arith, is)) in
    ap₂ (λ (o : Option ℕ) (r : Option (List ℕ × List (List ℕ))). in_front o r) parts.1.1.0 rest
    ∙ front_behind parts.0 q.0 (numbers_of j q.1) ∙ ap (λ (r : List ℕ × List (List ℕ)). behind r.0 (numbers_of j r.1)) parts.1.1.1.1

-- where the next field is no number, no more are
no_number : (o : Option ℕ) (fields : List (List ℕ)) (r : Option (List ℕ × List (List ℕ))) → in_front o (Some ([], fields)) ≡ None → in_front o r ≡ None
no_number None fields r e = refl
no_number (Some n) fields r e = cc

none_more : (k : ℕ) (fields : List (List ℕ)) → numbers_of 1 fields ≡ None → numbers_of (suc k) fields ≡ None
none_more k [] e = refl
none_more k (field ∷ fields) e = no_number (number_of field) fields (numbers_of k fields) e

-- the first so many places of a slice have the numbers of the first fields; the next field is a number
pub numbers_next : (i n : ℕ) (numbers : List ℕ) (fields rest after : List (List ℕ)) → i < length numbers → numbers_of i fields ≡ Some (take i numbers, rest) → numbers_of 1 rest ≡ Some (n ∷ [], after)
    → numbers_of (i + 1) fields ≡ Some (take (i + 1) (set numbers i n), after)
numbers_next i n numbers fields rest after below had next =
    numbers_then i 1 (i + 1) fields (take i numbers, rest) had refl ∙ ap (behind (take i numbers)) next ∙ ap (λ (ns : List ℕ). Some (ns, after)) (sym (take_more_set numbers i n below))

-- or it is none
pub numbers_none : (i m : ℕ) (ns : List ℕ) (fields rest : List (List ℕ)) → i < m → numbers_of i fields ≡ Some (ns, rest) → numbers_of 1 rest ≡ None → numbers_of m fields ≡ None
numbers_none i m ns fields rest below had next =
    let left : m ≡ i + suc (m - suc i) = omega (arith, below) in
    numbers_then i (suc (m - suc i)) m fields (ns, rest) had left ∙ ap (behind ns) (none_more (m - suc i) rest next)
