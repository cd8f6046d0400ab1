use Rattle.std.proofs.Common.{◌≡◌, ◌≢◌, ◌∙◌, ◌<◌, ℕ, Bool, cond, refl, sym, ap, arith, List, [], ◌∷◌, ◌++◌, length, get_or, Some, None, suc}
use Rattle.std.proofs.lemmas.Bool.{ne_eqb}
use Rattle.std.proofs.lemmas.Str.Pattern.{split_parts}
use Rattle.ppq_words.specs.Uses.{after_equals}
use Rattle.ppq_words.specs.Strays.{has_stray_value}
use Rattle.ppq_words.proofs.strays.has_stray_value.Goals as goal

after_equals-none : (bs : List ℕ) → ((i : ℕ) → i < length bs → get_or bs i 0 ≢ 61) → after_equals bs ≡ None
after_equals-none [] h = refl
after_equals-none (b ∷ bs) h =
    ap (λ (t : Bool). cond t (Some bs) (after_equals bs)) (ne_eqb b 61 (h 0 (omega arith))) ∙ after_equals-none bs (λ i lt. h (suc i) (omega arith))

after_equals-at : (xs ys : List ℕ) → ((i : ℕ) → i < length xs → get_or xs i 0 ≢ 61) → after_equals (xs ++ 61 ∷ ys) ≡ Some ys
after_equals-at [] ys h = refl
after_equals-at (x ∷ xs) ys h =
    ap (λ (t : Bool). cond t (Some (xs ++ 61 ∷ ys)) (after_equals (xs ++ 61 ∷ ys))) (ne_eqb x 61 (h 0 (omega arith))) ∙ after_equals-at xs ys (λ i lt. h (suc i) (omega arith))

pub returns-in-Some : goal.returns-in-Some
returns-in-Some c =
    let parts = split_parts 61 c.args.word.now (Some (c.in-Some.field-0-0, c.in-Some.value)) c.in-Some.ensures.cases (omega arith) in
    c.begins_with_hyphen.ensures ∙ sym (ap has_stray_value (ap after_equals parts.0 ∙ after_equals-at _ _ parts.1))

pub returns-in-None : goal.returns-in-None
returns-in-None c =
    let lacks = split_parts 61 c.args.word.now None c.in-None.ensures.cases (omega arith) in
    sym (ap has_stray_value (after_equals-none _ lacks))
