-- The numbers pay.
use Rattle.std.proofs.Common.{◌≡◌, ℕ, ◌+◌, ◌*◌, ◌<◌, ◌≤◌, min, ap, ◌∙◌, arith}
use Rattle.ppq_counts.specs.Tally.{Tally, last, tally, accepting, storing, beginning, joined, IsCounting, runs_of, credit_of, bound_of}
use Rattle.ppq_counts.specs.Account.{Account, too_heavy, Costs, Stops, IsPaid, IsCovered}

module _ (workers block : ℕ) where
  -- a call that costs no more than its numbers pay keeps them paying
  pub paid-costs :
      (t u : Tally) (c m : ℕ) (x y : Account) → IsPaid workers block t x → credit_of workers block t + c ≤ credit_of workers block u → runs_of workers t + m ≤ runs_of workers u → runs_of workers u < too_heavy → Costs c m x y → IsPaid workers block u y
  paid-costs t u c m x y paid credit runs few costs = let is = costs.rises (omega (arith, paid.weight, runs, few)) in record { spent = omega (arith, paid.spent, is.spent, credit); weight = omega (arith, paid.weight, is.weight, runs) }

  pub paid-stops :
      (t u : Tally) (c m : ℕ) (x y : Account) → IsPaid workers block t x → credit_of workers block t + c ≤ credit_of workers block u → runs_of workers t + m ≤ runs_of workers u → runs_of workers u < too_heavy → Stops c m x y → IsCovered workers block u y
  paid-stops t u c m x y paid credit runs few stops = omega (arith, paid.spent, stops.written (omega (arith, paid.weight, runs, few)), credit)

  pub paid-covered : (t : Tally) (x : Account) → IsPaid workers block t x → IsCovered workers block t x
  paid-covered t x paid = omega (arith, paid.spent)

  -- what was paid for bounds the writes
  pub covered-bound : (t : Tally) (writes : ℕ) (x : Account) → x.written ≡ 7 * (block * writes) → IsCovered workers block t x → block * writes ≤ bound_of workers block t
  covered-bound t writes x is covered = omega (arith, is, covered)

  -- what the numbers pay more, as they go up
  module _ (t : Tally) (counting : IsCounting t) where
    pub credit-accepting : (n : ℕ) → t.accepted + n ≤ last → credit_of workers block (accepting n t) ≡ credit_of workers block t + 56 * n
    credit-accepting n few =
        let e : min (t.accepted + n) last ≡ t.accepted + n = omega (arith, few) in
        ap (λ k. credit_of workers block (record t { accepted = k })) e ∙ (omega arith)

    -- a store of a full heap pays for the rest of an extract buffer and for two runs
    pub credit-storing : credit_of workers block (storing t) ≡ credit_of workers block t + (56 * (workers * block) + 16 * block)
    credit-storing =
        let e : min (t.stores + 1) last ≡ t.stores + 1 = omega (arith, counting.stores) in
        ap (λ k. credit_of workers block (record t { stores = k })) e ∙ (omega arith)

    pub runs-storing : runs_of workers (storing t) ≡ runs_of workers t + 2
    runs-storing =
        let e : min (t.stores + 1) last ≡ t.stores + 1 = omega (arith, counting.stores) in
        ap (λ k. runs_of workers (record t { stores = k })) e ∙ (omega arith)

    -- a session for the rest of an extract buffer, and for two runs and one for each worker
    pub credit-beginning : credit_of workers block (beginning t) ≡ credit_of workers block t + (56 * (workers * block) + 8 * (block * (workers + 2)))
    credit-beginning =
        let e : min (t.sessions + 1) last ≡ t.sessions + 1 = omega (arith, counting.sessions) in
        ap (λ k. credit_of workers block (record t { sessions = k })) e ∙ (omega arith)

    pub runs-beginning : runs_of workers (beginning t) ≡ runs_of workers t + (workers + 2)
    runs-beginning =
        let e : min (t.sessions + 1) last ≡ t.sessions + 1 = omega (arith, counting.sessions) in
        ap (λ k. runs_of workers (record t { sessions = k })) e ∙ (omega arith)

  -- the numbers of a pass come on top
  module _ (t u : Tally) (counting : IsCounting (joined t u)) where
    joined-is : joined t u ≡ tally (t.accepted + u.accepted) (t.stores + u.stores) (t.sessions + u.sessions)
    joined-is =
        let a : min (t.accepted + u.accepted) last ≡ t.accepted + u.accepted = omega (arith, counting.accepted) in
        let b : min (t.stores + u.stores) last ≡ t.stores + u.stores = omega (arith, counting.stores) in
        let c : min (t.sessions + u.sessions) last ≡ t.sessions + u.sessions = omega (arith, counting.sessions) in
        ap (λ k. tally k (min (t.stores + u.stores) last) (min (t.sessions + u.sessions) last)) a
        ∙ ap (λ k. tally (t.accepted + u.accepted) k (min (t.sessions + u.sessions) last)) b
        ∙ ap (λ k. tally (t.accepted + u.accepted) (t.stores + u.stores) k) c

    pub credit-joined : credit_of workers block (joined t u) ≡ credit_of workers block t + credit_of workers block u
    credit-joined = ap (credit_of workers block) joined-is ∙ (omega arith)

    pub runs-joined : runs_of workers (joined t u) ≡ runs_of workers t + runs_of workers u
    runs-joined = ap (runs_of workers) joined-is ∙ (omega arith)

-- what counts now counted before
pub counting-before : (t u : Tally) → t.accepted ≤ u.accepted → t.stores ≤ u.stores → t.sessions ≤ u.sessions → IsCounting u → IsCounting t
counting-before t u a b c is = record { accepted = omega (arith, a, is.accepted); stores = omega (arith, b, is.stores); sessions = omega (arith, c, is.sessions) }

-- so did both parts of what counts
pub counting-left : (t u : Tally) → IsCounting (joined t u) → IsCounting t
counting-left t u is = record { accepted = omega (arith, is.accepted); stores = omega (arith, is.stores); sessions = omega (arith, is.sessions) }

pub counting-right : (t u : Tally) → IsCounting (joined t u) → IsCounting u
counting-right t u is = record { accepted = omega (arith, is.accepted); stores = omega (arith, is.stores); sessions = omega (arith, is.sessions) }
