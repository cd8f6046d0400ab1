-- Pairs have the order of key and value joined to one number.
use Rattle.std.proofs.Common.{◌≡◌, ℕ, ◌+◌, ◌*◌, ◌^◌, ◌<◌, refl, arith, nat_lt}
use Rattle.std.specs.declared.cmp.Ordering.{Ordering}
use Rattle.std.specs.declared.cmp.Ordering.TheVariants.{Less, Equal, Greater}
use Rattle.std.specs.Ordering.{nat_cmp, is_lt, MatchOrdering}
use Rattle.std.proofs.lemmas.Cmp.{ranked}
use Rattle.std.proofs.lemmas.Bool.{lt-ltb, le-ltb}
use Rattle.ppq_record.specs.declared.pair.Pair.{Pair}
use Rattle.ppq_record.specs.Pair.{pair_cmp}
use Rattle.ppq_record.proofs.ByteOrder.{digits}

-- the test that an answer of `cmp` stands for
pub less_from : (o : Ordering) (a b : ℕ) → MatchOrdering o (a < b) (a ≡ b) (b < a) → nat_lt a b ≡ is_lt o
less_from Less a b h = lt-ltb a b h
less_from Equal a b h = le-ltb a b (omega arith)
less_from Greater a b h = le-ltb a b (omega arith)

pub less_is : (a b : ℕ) → nat_lt a b ≡ is_lt (nat_cmp a b)
less_is a b = less_from (nat_cmp a b) a b (ranked a b (nat_cmp a b) refl)

pub joined_less : (x y : Pair) → x.value < 2 ^ 64 → y.value < 2 ^ 64 → nat_lt (x.key * 2 ^ 64 + x.value) (y.key * 2 ^ 64 + y.value) ≡ is_lt (pair_cmp x y)
joined_less x y h k =
    less_from (pair_cmp x y) (x.key * 2 ^ 64 + x.value) (y.key * 2 ^ 64 + y.value)
    (digits x.key y.key (2 ^ 64) x.value y.value (nat_cmp x.key y.key) (nat_cmp x.value y.value) (ranked x.key y.key (nat_cmp x.key y.key) refl) (ranked x.value y.value (nat_cmp x.value y.value) refl) h k)
