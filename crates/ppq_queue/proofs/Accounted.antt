-- What the numbers of a queue pay for after a step, whatever was answered.
use Rattle.std.proofs.Common.{◌≡◌, ℕ, ◌+◌, ◌*◌, ◌≤◌, Option, None, sym, ◌∙◌, subst, arith}
use Rattle.std.specs.Prelude.{Result, Ok, Err}
use Rattle.ppq_spill.specs.ppq_counts.Tally.{Tally, accepting, storing, beginning, IsCounting, runs_of, credit_of}
use Rattle.ppq_spill.specs.ppq_counts.Account.{Account, IsCounted, beside}
use Rattle.ppq_spill.proofs.ppq_counts.Accounts.{costs-added, costs-fewer, costs-then, costs-more, costs-beside, stops-beside}
use Rattle.ppq_spill.proofs.ppq_counts.Counted.{counted-costs, counted-stops, accepting-before, accepting-credit, storing-before, storing-credit, storing-runs, beginning-before, beginning-credit, beginning-runs}
use Rattle.ppq_extract.specs.ppq_array.declared.store_fault.StoreFault.{StoreFault}
use Rattle.ppq_extract.specs.ppq_array.declared.store_fault.StoreFault.TheVariants.{NoFreeBlock, Device}
use Rattle.ppq_spill.specs.Costing.{Pays}
use Rattle.ppq_spill.specs.Latched.{latched}
use Rattle.ppq_queue.proofs.Flushed.{not_sound}

-- records of heaps that may have left
pub pays-fewer : (k l : ℕ) {T : Type 0} {r : Result T StoreFault} {c m : ℕ} {x y : Account} → l ≤ k → Pays r c m x y → Pays r c m (beside k x) (beside l y)
pays-fewer k l {r = Ok v} {y = y} fewer p = record { pays = costs-more (omega arith) (omega arith) (costs-then (costs-beside k p.pays) (costs-fewer k l y fewer)) }
pays-fewer k l {r = Err NoFreeBlock} {y = y} fewer p = record { pays = costs-more (omega arith) (omega arith) (costs-then (costs-beside k p.pays) (costs-fewer k l y fewer)) }
pays-fewer k l {r = Err (Device number)} fewer p = record { pays = stops-beside k l p.pays }

module _ {workers block : ℕ} where
  module _ {failed failed' : Option ℕ} (none : failed ≡ None) {t u : Tally} (before : IsCounting u → IsCounting t) {c m : ℕ} (credit : IsCounting u → credit_of workers block t + c ≤ credit_of workers block u) (runs : IsCounting u → runs_of workers t + m ≤ runs_of workers u) {x y : Account} where
    -- numbers that pay more pay for a call that costs no more, of a queue that was sound
    pub counted-call : {T : Type 0} (r : Result T StoreFault) → failed' ≡ latched r failed → Pays r c m x y → IsCounted workers block (failed ≡ None) t x → IsCounted workers block (failed' ≡ None) u y
    counted-call (Ok v) late p was = counted-costs workers block t u before c m credit runs x y was none p.pays
    counted-call (Err NoFreeBlock) late p was = counted-costs workers block t u before c m credit runs x y was none p.pays
    counted-call (Err (Device number)) late p was = counted-stops workers block t u before c m credit runs x y was none (λ sound. not_sound number (sym late ∙ sound)) p.pays

  module _ {failed failed' : Option ℕ} (none : failed ≡ None) {t : Tally} {T : Type 0} (r : Result T StoreFault) (late : failed' ≡ latched r failed) {x y : Account} (was : IsCounted workers block (failed ≡ None) t x) where
    -- a call that begins neither a store of a full heap nor a session
    pub counted-free : Pays r 0 0 x y → IsCounted workers block (failed' ≡ None) t y
    counted-free p = counted-call none (λ is. is) (λ is. omega arith) (λ is. omega arith) r late p was

    -- a store of a full heap, and before of an extract buffer of so many records
    pub counted-flushed : {u : Tally} (e : ℕ) → e ≤ workers * block → u ≡ storing t → Pays r (56 * e + 8 * (block * 2)) 2 x y → IsCounted workers block (failed' ≡ None) u y
    counted-flushed e few is p =
        subst (λ k. IsCounted workers block (failed' ≡ None) k y) (sym is)
        (counted-call none (storing-before workers block t) (λ counting. omega (arith, storing-credit workers block t e few counting)) (storing-runs workers block t) r late p was)

    -- the beginning of a session, which stores an extract buffer of so many records and makes so many runs
    pub counted-begun : {u : Tally} (e runs : ℕ) → e ≤ workers * block → runs ≤ workers + 2 → u ≡ beginning t → Pays r (56 * e + 8 * (block * runs)) runs x y → IsCounted workers block (failed' ≡ None) u y
    counted-begun e runs few few_runs is p =
        subst (λ k. IsCounted workers block (failed' ≡ None) k y) (sym is)
        (counted-call none (beginning-before workers block t) (beginning-credit workers block t e runs few few_runs) (beginning-runs workers block t runs few_runs) r late p was)

  -- a session that began nothing
  pub counted-later : {Sound : Type 0} {t u : Tally} {x : Account} → u ≡ beginning t → IsCounted workers block Sound t x → IsCounted workers block Sound u x
  counted-later {Sound = Sound} {t = t} {x = x} e is =
      subst (λ k. IsCounted workers block Sound k x) (sym e) (record {
        paid = λ counting few sound.
            let p = is.paid (beginning-before workers block t counting) (omega (arith, few, runs counting)) sound in
            record { spent = omega (arith, p.spent, credit counting); weight = omega (arith, p.weight, runs counting) };
        covered = λ counting few. omega (arith, is.covered (beginning-before workers block t counting) (omega (arith, few, runs counting)), credit counting);
        unread = is.unread;
        read = is.read;
      })
    where
      runs : IsCounting (beginning t) → runs_of workers t + 0 ≤ runs_of workers (beginning t)
      runs counting = beginning-runs workers block t 0 (omega arith) counting

      credit : IsCounting (beginning t) → credit_of workers block t + (56 * 0 + 8 * (block * 0)) ≤ credit_of workers block (beginning t)
      credit counting = beginning-credit workers block t 0 0 (omega arith) (omega arith) counting

  -- a record was put into a heap
  pub counted-put : {Sound : Type 0} {t u : Tally} (h : ℕ) (x : Account) → Sound → u ≡ accepting 1 t → IsCounted workers block Sound t (beside h x) → IsCounted workers block Sound u (beside (h + 1) x)
  counted-put {Sound = Sound} {t = t} h x sound e was =
      subst (λ k. IsCounted workers block Sound k (beside (h + 1) x)) (sym e)
      (counted-costs workers block t (accepting 1 t) (accepting-before workers block t 1) (56 * 1) 0 (accepting-credit workers block t 1) (λ is. omega arith) (beside h x) (beside (h + 1) x) was sound (costs-added h 1 x))

  -- records left the heaps
  pub counted-fewer : {Sound : Type 0} {t : Tally} (k l : ℕ) (x : Account) → l ≤ k → IsCounted workers block Sound t (beside k x) → IsCounted workers block Sound t (beside l x)
  counted-fewer k l x fewer is = record { paid = λ counting few sound. (let p = is.paid counting few sound in record { spent = omega (arith, p.spent, fewer); weight = p.weight }); covered = is.covered; unread = is.unread; read = is.read }
