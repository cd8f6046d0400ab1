-- Costs of calls add up, one after the other.
use Rattle.std.proofs.Common.{ℕ, ◌+◌, ◌*◌, ◌≤◌, arith}
use Rattle.ppq_counts.specs.Account.{Account, Costs, Stops, beside}

-- nothing was done
pub costs-same : (a : Account) → Costs 0 0 a a
costs-same a = record { rises = λ light. record { spent = omega arith; weight = omega arith }; stay = omega arith; read = λ exact. omega arith }

-- one call after the other
pub costs-then : {c m d n : ℕ} {x y z : Account} → Costs c m x y → Costs d n y z → Costs (c + d) (m + n) x z
costs-then {c} {m} {d} {n} {x} {y} {z} first second =
    record {
      rises = λ light.
          let one = first.rises (omega (arith, light)) in
          let two = second.rises (omega (arith, light, one.weight)) in
          record { spent = omega (arith, one.spent, two.spent); weight = omega (arith, one.weight, two.weight) };
      stay = omega (arith, first.stay, second.stay);
      read = λ exact. omega (arith, first.read (omega (arith, exact, second.stay)), second.read exact);
    }

-- the second one met a fault
pub costs-stops : {c m d n : ℕ} {x y z : Account} → Costs c m x y → Stops d n y z → Stops (c + d) (m + n) x z
costs-stops {c} {m} {d} {n} {x} {y} {z} first second =
    record {
      written = λ light.
          let one = first.rises (omega (arith, light)) in
          omega (arith, one.spent, second.written (omega (arith, light, one.weight)));
      stay = omega (arith, first.stay, second.stay);
      read = λ exact. omega (arith, first.read (omega (arith, exact, second.stay)), second.read exact);
    }

-- it may have cost more
pub costs-more : {c m d n : ℕ} {x y : Account} → c ≤ d → m ≤ n → Costs c m x y → Costs d n x y
costs-more {c} {m} {d} {n} {x} {y} hc hm h = record { rises = λ light. (let is = h.rises (omega (arith, light, hm)) in record { spent = omega (arith, is.spent, hc); weight = omega (arith, is.weight, hm) }); stay = h.stay; read = h.read }

pub stops-more : {c m d n : ℕ} {x y : Account} → c ≤ d → m ≤ n → Stops c m x y → Stops d n x y
stops-more {c} {m} {d} {n} {x} {y} hc hm h = record { written = λ light. omega (arith, h.written (omega (arith, light, hm)), hc); stay = h.stay; read = h.read }

-- records in memory that stay
pub costs-beside : (k : ℕ) {c m : ℕ} {x y : Account} → Costs c m x y → Costs c m (beside k x) (beside k y)
costs-beside k {c} {m} {x} {y} h = record { rises = λ light. (let is = h.rises light in record { spent = omega (arith, is.spent); weight = is.weight }); stay = h.stay; read = h.read }

pub stops-beside : (k l : ℕ) {c m : ℕ} {x y : Account} → Stops c m x y → Stops c m (beside k x) (beside l y)
stops-beside k l {c} {m} {x} {y} h = record { written = λ light. omega (arith, h.written light); stay = h.stay; read = h.read }

-- records in memory that go to the runs are paid already: their store costs what it costs without them
pub costs-left : (n k l : ℕ) {c m : ℕ} {x y : Account} → n + l ≤ k → Costs (56 * n + c) m x y → Costs c m (beside k x) (beside l y)
costs-left n k l {c} {m} {x} {y} few h = record { rises = λ light. (let is = h.rises light in record { spent = omega (arith, is.spent, few); weight = is.weight }); stay = h.stay; read = h.read }

pub stops-left : (n k l : ℕ) {c m : ℕ} {x y : Account} → n ≤ k → Stops (56 * n + c) m x y → Stops c m (beside k x) (beside l y)
stops-left n k l {c} {m} {x} {y} few h = record { written = λ light. omega (arith, h.written light, few); stay = h.stay; read = h.read }

-- records in memory that leave
pub costs-fewer : (k l : ℕ) (x : Account) → l ≤ k → Costs 0 0 (beside k x) (beside l x)
costs-fewer k l x h = record { rises = λ light. record { spent = omega (arith, h); weight = omega arith }; stay = omega arith; read = λ exact. omega arith }

-- records more in memory
pub costs-added : (k n : ℕ) (x : Account) → Costs (56 * n) 0 (beside k x) (beside (k + n) x)
costs-added k n x = record { rises = λ light. record { spent = omega arith; weight = omega arith }; stay = omega arith; read = λ exact. omega arith }
