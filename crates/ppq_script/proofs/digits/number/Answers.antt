use Rattle.std.proofs.Common.{◌≡◌, ◌∙◌, sym, arith, ap, Some}
use Rattle.std.proofs.lemmas.Bool.Decides.{nat_tests}
use Rattle.ppq_script.specs.Number.{value_from}
use Rattle.ppq_script.proofs.NumberLemmas.{number_of-above, number_of-is, value_from-drop, value_from-past, list_all-past}
use Rattle.ppq_script.proofs.digits.number.Goals as goal

pub returns-in_err-checked_mul : goal.returns-in_err-checked_mul
returns-in_err-checked_mul c =
    let next = value_from-drop c.loop-digit.value c.args.digits.now c.loop-digit.digit-index (omega arith) in
    c.from_residual.ensures ∙ sym (number_of-above c.args.digits.now (omega (arith, next, c.loop-digit.invariant.0, c.in_err-checked_mul.ensures)))

pub returns-in_err-value : goal.returns-in_err-value
returns-in_err-value c =
    let next = value_from-drop c.loop-digit.value c.args.digits.now c.loop-digit.digit-index (omega arith) in
    c.from_residual-in_err-value.ensures ∙ sym (number_of-above c.args.digits.now (omega (arith, next, c.loop-digit.invariant.0, c.in_err-value.ensures, c.in_ok-checked_mul.ensures)))

pub returns : goal.returns
returns c =
    let value : value_from 0 c.args.digits.now ≡ c.loop-digit.value = c.loop-digit.invariant.0 ∙ value_from-past c.loop-digit.value c.args.digits.now c.loop-digit.digit-index (omega arith) in
    sym (number_of-is c.args.digits.now (c.loop-digit.invariant.1 ∙ list_all-past _ c.args.digits.now c.loop-digit.digit-index (omega arith)) (omega (arith, value)) (grind (arith, nat_tests, c.is_empty.ensures)) (omega arith) ∙ ap (λ v. Some v) value)
