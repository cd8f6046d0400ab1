use Rattle.std.proofs.Common.{◌≡◌, ◌<◌, ◌^◌, drop}
use Rattle.std.specs.List.{list_all}
use Rattle.std.specs.Char.{is_ascii_digit}
use Rattle.ppq_script.specs.Number.{value_from}
use Rattle.ppq_script.proofs.digits.number.Given as goal

abbrev pub invariant-loop-digit : goal.invariant-loop-digit
invariant-loop-digit l =
    (value_from 0 l.digits ≡ value_from l.value (drop l.digit-index l.digits))
    × (list_all is_ascii_digit l.digits ≡ list_all is_ascii_digit (drop l.digit-index l.digits))
    × (l.value < 2 ^ 64)
