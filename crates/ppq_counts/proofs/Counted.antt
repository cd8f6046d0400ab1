-- What an owner of runs keeps from call to call.
use Rattle.std.proofs.Common.{◌≡◌, ℕ, ◌+◌, ◌*◌, ◌<◌, ◌≤◌, arith}
use Rattle.std.proofs.Math.Nat.{mul-le-mul_left}
use Rattle.ppq_counts.specs.Tally.{Tally, no_tally, accepting, storing, beginning, IsCounting, runs_of, credit_of, bound_of}
use Rattle.ppq_counts.specs.Account.{Account, too_heavy, Costs, Stops, IsPaid, IsCounted, IsCountedBeside, IsExact, beside}
use Rattle.ppq_counts.proofs.Accounts.{costs-beside}
use Rattle.ppq_counts.proofs.Paid.{paid-costs, paid-stops, paid-covered, covered-bound, credit-accepting, credit-storing, runs-storing, credit-beginning, runs-beginning, counting-before}

module _ (workers block : ℕ) {Sound Sound' : Type 0} where
  -- numbers that paid before pay still, after a call that costs no more than they pay more
  module _ (t u : Tally) (before : IsCounting u → IsCounting t) (c m : ℕ) (credit : IsCounting u → credit_of workers block t + c ≤ credit_of workers block u) (runs : IsCounting u → runs_of workers t + m ≤ runs_of workers u) (x y : Account) (was : IsCounted workers block Sound t x) (sound : Sound) where
    pub counted-costs : Costs c m x y → IsCounted workers block Sound' u y
    counted-costs costs =
        record {
          paid = λ counting few none. pays counting few;
          covered = λ counting few. paid-covered workers block u y (pays counting few);
          unread = λ exact none. unread exact;
          read = λ exact. omega (arith, unread exact);
        }
      where
        pays : IsCounting u → runs_of workers u < too_heavy → IsPaid workers block u y
        pays counting few = paid-costs workers block t u c m x y (was.paid (before counting) (omega (arith, few, runs counting)) sound) (credit counting) (runs counting) few costs

        unread : IsExact y → y.reads + y.stored ≤ y.writes
        unread exact = omega (arith, was.unread (omega (arith, exact, costs.stay)) sound, costs.read (omega (arith, exact)))

    -- a block failed
    pub counted-stops : (Sound' → ⊥) → Stops c m x y → IsCounted workers block Sound' u y
    counted-stops failed stops =
        record {
          paid = λ counting few none. absurd (failed none);
          covered = λ counting few. paid-stops workers block t u c m x y (was.paid (before counting) (omega (arith, few, runs counting)) sound) (credit counting) (runs counting) few stops;
          unread = λ exact none. absurd (failed none);
          read = λ exact. omega (arith, was.unread (omega (arith, exact, stops.stay)) sound, stops.read (omega (arith, exact)));
        }

  -- the same of parts that gave so many records of their heaps away
  module _ (begun : ℕ) (t u : Tally) (before : IsCounting u → IsCounting t) (c m : ℕ) (credit : IsCounting u → credit_of workers block t + c ≤ credit_of workers block u) (runs : IsCounting u → runs_of workers t + m ≤ runs_of workers u) (x y : Account)
      (was : IsCountedBeside workers block begun Sound t x) (sound : Sound) where
    pub beside-costs : Costs c m x y → IsCountedBeside workers block begun Sound' u y
    beside-costs costs =
        record {
          paid = λ counting few none. pays counting few;
          covered = λ counting few. (let p = pays counting few in omega (arith, p.spent));
          unread = λ exact none. unread exact;
          read = λ exact. omega (arith, unread exact);
        }
      where
        pays : IsCounting u → runs_of workers u < too_heavy → IsPaid workers block u (beside begun y)
        pays counting few =
            paid-costs workers block t u c m (beside begun x) (beside begun y) (was.paid (before counting) (omega (arith, few, runs counting)) sound) (credit counting) (runs counting) few (costs-beside begun costs)

        unread : IsExact y → y.reads + y.stored ≤ y.writes
        unread exact = omega (arith, was.unread (omega (arith, exact, costs.stay)) sound, costs.read (omega (arith, exact)))

    -- a block failed
    pub beside-stops : (Sound' → ⊥) → Stops c m x y → IsCountedBeside workers block begun Sound' u y
    beside-stops failed stops =
        record {
          paid = λ counting few none. absurd (failed none);
          covered = λ counting few.
              let p = was.paid (before counting) (omega (arith, few, runs counting)) sound in
              omega (arith, p.spent, stops.written (omega (arith, p.weight, few, runs counting)), credit counting);
          unread = λ exact none. absurd (failed none);
          read = λ exact. omega (arith, was.unread (omega (arith, exact, stops.stay)) sound, stops.read (omega (arith, exact)));
        }

module _ (workers block : ℕ) (t : Tally) where
  -- after n records more were accepted
  pub accepting-before : (n : ℕ) → IsCounting (accepting n t) → IsCounting t
  accepting-before n is = counting-before t (accepting n t) (omega (arith, is.accepted)) (omega arith) (omega arith) is

  pub accepting-credit : (n : ℕ) → IsCounting (accepting n t) → credit_of workers block t + 56 * n ≤ credit_of workers block (accepting n t)
  accepting-credit n is = let e = credit-accepting workers block t (accepting-before n is) n (omega (arith, is.accepted)) in omega (arith, e)

  -- after a store of a full heap was begun
  pub storing-before : IsCounting (storing t) → IsCounting t
  storing-before is = counting-before t (storing t) (omega arith) (omega (arith, is.stores)) (omega arith) is

  pub storing-credit : (rest : ℕ) → rest ≤ workers * block → IsCounting (storing t) → credit_of workers block t + (56 * rest + 16 * block) ≤ credit_of workers block (storing t)
  storing-credit rest few is = let e = credit-storing workers block t (storing-before is) in omega (arith, e, few)

  pub storing-runs : IsCounting (storing t) → runs_of workers t + 2 ≤ runs_of workers (storing t)
  storing-runs is = let e = runs-storing workers block t (storing-before is) in omega (arith, e)

  -- after a session was begun
  pub beginning-before : IsCounting (beginning t) → IsCounting t
  beginning-before is = counting-before t (beginning t) (omega arith) (omega arith) (omega (arith, is.sessions)) is

  pub beginning-credit : (rest runs : ℕ) → rest ≤ workers * block → runs ≤ workers + 2 → IsCounting (beginning t) → credit_of workers block t + (56 * rest + 8 * (block * runs)) ≤ credit_of workers block (beginning t)
  beginning-credit rest runs few few_runs is =
      let e = credit-beginning workers block t (beginning-before is) in
      let product : block * runs ≤ block * (workers + 2) = mul-le-mul_left block few_runs in
      omega (arith, e, few, product)

  pub beginning-runs : (runs : ℕ) → runs ≤ workers + 2 → IsCounting (beginning t) → runs_of workers t + runs ≤ runs_of workers (beginning t)
  beginning-runs runs few is = let e = runs-beginning workers block t (beginning-before is) in omega (arith, e, few)

-- Nothing was written or read, and there is nothing yet
pub counted-none :
    (workers block : ℕ) (Sound : Type 0) (x : Account) → x.written ≡ 0 → x.owed ≡ 0 → x.weight ≡ 0 → x.reads ≡ 0 → x.stored ≡ 0 → IsCounted workers block Sound no_tally x
counted-none workers block Sound x w o h r s =
    record {
      paid = λ counting few none. pays;
      covered = λ counting few. paid-covered workers block no_tally x pays;
      unread = λ exact none. omega (arith, r, s);
      read = λ exact. omega (arith, r);
    }
  where
    pays : IsPaid workers block no_tally x
    pays = record { spent = omega (arith, w, o); weight = omega (arith, h) }

module _ {workers block : ℕ} {Sound Sound' : Type 0} {t : Tally} where
  -- who is sound now was sound before
  pub counted-sound : {x : Account} → (Sound' → Sound) → IsCounted workers block Sound t x → IsCounted workers block Sound' t x
  counted-sound {x} was is = record { paid = λ counting few sound. is.paid counting few (was sound); covered = is.covered; unread = λ exact sound. is.unread exact (was sound); read = is.read }

  pub beside-sound : {begun : ℕ} {x : Account} → (Sound' → Sound) → IsCountedBeside workers block begun Sound t x → IsCountedBeside workers block begun Sound' t x
  beside-sound {begun} {x} was is = record { paid = λ counting few sound. is.paid counting few (was sound); covered = is.covered; unread = λ exact sound. is.unread exact (was sound); read = is.read }

module _ {workers block : ℕ} {Sound : Type 0} {t : Tally} where
  -- A queue gives the records of its heaps to passes. While they have them, they are no records of its parts, and they are paid for
  pub beside-counted : {begun : ℕ} {x : Account} → Sound → IsCounted workers block Sound t (beside begun x) → IsCountedBeside workers block begun Sound t x
  beside-counted {begun} {x} sound is = record { paid = is.paid; covered = λ counting few. (let p = is.paid counting few sound in omega (arith, p.spent)); unread = is.unread; read = is.read }

  -- all passes came back
  pub counted-beside : {x : Account} → IsCountedBeside workers block 0 Sound t x → IsCounted workers block Sound t x
  counted-beside {x} is =
      record {
        paid = λ counting few sound. (let p = is.paid counting few sound in record { spent = omega (arith, p.spent); weight = omega (arith, p.weight) });
        covered = λ counting few. omega (arith, is.covered counting few);
        unread = is.unread;
        read = is.read;
      }

-- what it says of the writes
pub counted-bound :
    (workers block : ℕ) (Sound : Type 0) (t : Tally) (writes : ℕ) (x : Account) → x.written ≡ 7 * (block * writes) → IsCounted workers block Sound t x → IsCounting t → runs_of workers t < too_heavy → block * writes ≤ bound_of workers block t
counted-bound workers block Sound t writes x e is counting few = covered-bound workers block t writes x e (is.covered counting few)

-- greater numbers allow more runs
pub runs-more : (workers : ℕ) (t u : Tally) → t.stores ≤ u.stores → t.sessions ≤ u.sessions → runs_of workers t ≤ runs_of workers u
runs-more workers t u b c =
    let per : (workers + 2) * t.sessions ≤ (workers + 2) * u.sessions = mul-le-mul_left (workers + 2) c in
    omega (arith, b, per)

-- and a bound by the numbers bounds by greater ones
pub bound-more : (workers block : ℕ) (t u : Tally) → t.accepted ≤ u.accepted → t.stores ≤ u.stores → t.sessions ≤ u.sessions → bound_of workers block t ≤ bound_of workers block u
bound-more workers block t u a b c =
    let one : workers * block * (t.stores + t.sessions) ≤ workers * block * (u.stores + u.sessions) = mul-le-mul_left (workers * block) (omega (arith, b, c)) in
    let two : block * runs_of workers t ≤ block * runs_of workers u = mul-le-mul_left block (runs-more workers t u b c) in
    omega (arith, a, one, two)
