-- What a script's head says of the type of its records.
use Rattle.std.proofs.Common.{◌≡◌, ◌∙◌, ℕ, ◌≤◌, ◌*◌, Bool, true, false, List, sym, ap, subst, arith, inl, inr}
use Rattle.std.specs.Prelude.{◌==◌, ◌&&◌}
use Rattle.std.proofs.lemmas.Bool.{cases_eq, ne_eqb}
use Rattle.ppq_words.specs.ppq_script.Words.{Words}
use Rattle.ppq_words.specs.ppq_script.Head.{count_of, goes, is_typed}
use Rattle.ppq_words.specs.ppq_script.Lines.{head_of}
use Rattle.ppq_words.specs.ppq_script.declared.head.Head.{Head}
use Rattle.ppq_words.specs.ppq_script.declared.kind.Kind.{Kind}
use Rattle.ppq_words.specs.ppq_script.declared.kind.Kind.TheVariants as kind
use Rattle.ppq_words.specs.ppq_script.declared.order.Order.{Order}
use Rattle.ppq_cli.specs.Types.{RecordType, type_at, type_of}

-- a number that passes a test for one is that one
is_that : (count wanted : ℕ) (rest : Bool) → (count == wanted) && rest ≡ true → count ≡ wanted
is_that count wanted rest is = elim (cases_eq count wanted) as (λ _. count ≡ wanted) [
  | inl e ↦ e
  | inr ne ↦ let no : false ≡ true = sym (ap (λ (b : Bool). b && rest) (ne_eqb count wanted ne)) ∙ is in cc
]

-- the records of a head have two fields or more
wide_by : (count : ℕ) (kind : Kind) (rest : Bool) → (count == count_of kind) && rest ≡ true → 2 ≤ count
wide_by count kind.Pair rest is = let e = is_that count 2 rest is in omega (arith, e)
wide_by count kind.Triple rest is = let e = is_that count 3 rest is in omega (arith, e)

-- so they have sixteen bytes or more
pub wide : {R : Type 0} (words : Words R) (head : Head) → is_typed words head ≡ true → words.WIDTH ≡ 8 * words.COUNT → 16 ≤ words.WIDTH
wide words head is width = let more = wide_by words.COUNT head.kind (goes words.DOWN head.order) is in omega (arith, width, more)

-- what holds of the type that kind and order name holds of the one that the head names
pub typed_at : (P : RecordType → Type 0) (bytes : List ℕ) (kind : Kind) (order : Order) → (head_of bytes).kind ≡ kind → (head_of bytes).order ≡ order → P (type_at kind order) → P (type_of bytes)
typed_at P bytes kind order is goes holds =
    let K : Kind → Type 0 = λ k. P (type_at k (head_of bytes).order) in
    let O : Order → Type 0 = λ o. P (type_at kind o) in
    subst K (sym is) (subst O (sym goes) holds)
