-- Numbers in decimal digits.
use Rattle.std.specs.Prelude.{ℕ, ◌+◌, ◌*◌, ◌-◌, ◌^◌, List, [], ◌∷◌, length, Option, Some, None, if◌then◌else◌, ◌&&◌, nat_le, nat_lt}
use Rattle.std.specs.List.{list_all}
use Rattle.std.specs.Char.{is_ascii_digit}

-- the number that digits go on to, after those that made n
abbrev pub value_from : ℕ → List ℕ → ℕ
value_from n [] = n
value_from n (digit ∷ digits) = value_from (n * 10 + (digit - 48)) digits

-- 1 to 20 digits of a number below 2^64
abbrev pub number_of : List ℕ → Option ℕ
number_of digits =
    if list_all is_ascii_digit digits && nat_lt (value_from 0 digits) (2 ^ 64) && nat_le 1 (length digits) && nat_le (length digits) 20
    then Some (value_from 0 digits) else None
