-- What calls of a queue do to its numbers, as those above it see it.
use Rattle.std.proofs.Common.{◌≡◌, ℕ, ◌+◌, ◌-◌, ◌*◌, ◌≤◌, min, cond, refl, sym, ap, ap₂, ◌∙◌, subst, arith}
use Rattle.std.specs.Prelude.{Result, Ok, Err, OnOk, OnErr}
use Rattle.std.proofs.lemmas.Bool.{le-ltb}
use Rattle.ppq_spill.specs.ppq_counts.Tally.{Tally, last, accepting, storing, beginning, IsBacked}
use Rattle.ppq_spill.proofs.ppq_counts.Backed.{backed-accepting, backed-storing}
use Rattle.ppq_extract.specs.ppq_budget.Sizes.{Numbers, heap_of}
use Rattle.ppq_queue.specs.Holding.{Holding, IsBackedBeside, IsBackedQueue, IsBackedWithout, AreStoresBacked, CountsAs, CountsRoom, CountsStore, CountsFew, begun_push}

-- a full one begins one
pub begun-full : {R : Type 0} (q : Holding R) → heap_of q.sizes ≤ q.in_first → begun_push q ≡ storing q.counts
begun-full q full = ap (λ b. cond b q.counts (storing q.counts)) (le-ltb q.in_first (heap_of q.sizes) full)

module _ {R : Type 0} where
  -- with fewer records in heaps, the law holds all the more
  pub backed-less : (q : Holding R) (k l : ℕ) → l ≤ k → IsBackedBeside k q → IsBackedBeside l q
  backed-less q k l fewer is few = record { within = omega (arith, (is few).within, fewer) }

  -- it stays where neither records nor stores count
  pub backed-as : (old new : Holding R) (t : Tally) → new.sizes ≡ old.sizes → t.accepted ≡ old.counts.accepted → t.stores ≡ old.counts.stores → CountsAs t old new → IsBackedQueue old → IsBackedQueue new
  backed-as old new t sizes accepted stores is backed few =
      let same : heap_of new.sizes * new.counts.stores ≡ heap_of old.sizes * old.counts.stores = ap₂ (λ (n : Numbers) s. heap_of n * s) sizes (ap (λ u. u.stores) is.counts ∙ stores) in
      let all : new.counts.accepted ≡ old.counts.accepted = ap (λ u. u.accepted) is.counts ∙ accepted in
      record { within = omega (arith, (backed (omega (arith, few, all))).within, same, all, is.heaps) }

  module _ {T E : Type 0} where
    -- a full heap was stored, or is still there
    pub room-stored : (old new : Holding R) (r : Result T E) → new.sizes ≡ old.sizes → heap_of old.sizes ≤ old.in_first → old.in_first ≤ old.in_heap → CountsStore old new r → CountsRoom old new r
    room-stored old new r sizes full within is = record { counts = is.counts.counts ∙ sym (begun-full old full); backed = ok r is.left; unbacked = err r }
      where
        beside : (rest : ℕ) → rest + heap_of old.sizes ≤ old.in_heap → IsBackedQueue old → IsBackedBeside rest new
        beside rest fewer backed few =
            let all : new.counts.accepted ≡ old.counts.accepted = ap (λ u. u.accepted) is.counts.counts in
            let law = backed-storing (heap_of old.sizes) 0 old.in_heap rest old.counts fewer (backed (omega (arith, few, all))) in
            subst (λ (n : Numbers). IsBacked (heap_of n) 0 rest new.counts) (sym sizes) (subst (IsBacked (heap_of old.sizes) 0 rest) (sym is.counts.counts) law)

        ok : (r : Result T E) → OnOk r (new.in_heap + old.in_first ≤ old.in_heap) → OnOk r (IsBackedQueue old → IsBackedQueue new)
        ok (Ok v) left = beside new.in_heap (omega (arith, left, full))
        ok (Err e) left = tt

        err : (r : Result T E) → OnErr r (IsBackedQueue old → IsBackedWithout new)
        err (Ok v) = tt
        err (Err e) = λ backed. backed-less new (old.in_heap - heap_of old.sizes) (new.in_heap - heap_of new.sizes) (omega (arith, is.counts.heaps, ap heap_of sizes)) (beside (old.in_heap - heap_of old.sizes) (omega (arith, full, within)) backed)

    few-same : (k : ℕ) (old new : Holding R) (t : Tally) (r : Result T E) → new.sizes ≡ old.sizes → t.accepted ≡ old.counts.accepted → t.stores ≡ old.counts.stores → t.sessions ≤ old.counts.sessions + k → CountsAs t old new → CountsFew 0 k old new r
    few-same k old new t r sizes accepted stores sessions is =
        record { accepted = omega (arith, ap (λ u. u.accepted) is.counts, accepted); sessions = omega (arith, ap (λ u. u.sessions) is.counts, sessions); backed = ok r; unbacked = err r }
      where
        ok : (r : Result T E) → OnOk r (IsBackedQueue old → IsBackedQueue new)
        ok (Ok v) = backed-as old new t sizes accepted stores is
        ok (Err e) = tt

        err : (r : Result T E) → OnErr r (IsBackedQueue old → AreStoresBacked new)
        err (Ok v) = tt
        err (Err e) = λ backed. backed-less new new.in_heap 0 (omega arith) (backed-as old new t sizes accepted stores is backed)

    -- a call that counts nothing
    pub few-as : (old new : Holding R) (r : Result T E) → new.sizes ≡ old.sizes → CountsAs old.counts old new → CountsFew 0 0 old new r
    few-as old new r sizes is = few-same 0 old new old.counts r sizes refl refl (omega arith) is

    -- a call that begins a session
    pub few-begun : (old new : Holding R) (r : Result T E) → new.sizes ≡ old.sizes → CountsAs (beginning old.counts) old new → CountsFew 0 1 old new r
    few-begun old new r sizes is = few-same 1 old new (beginning old.counts) r sizes refl refl (omega arith) is

    -- more might have been counted
    pub few-more : (k l m n : ℕ) (old new : Holding R) (r : Result T E) → k ≤ m → l ≤ n → CountsFew k l old new r → CountsFew m n old new r
    few-more k l m n old new r hk hl is = record { accepted = omega (arith, is.accepted, hk); sessions = omega (arith, is.sessions, hl); backed = is.backed; unbacked = is.unbacked }

  -- a record was put into a heap
  pub put-backed : (old new : Holding R) → new.sizes ≡ old.sizes → new.counts ≡ accepting 1 old.counts → new.in_heap ≡ old.in_heap + 1 → IsBackedQueue old → IsBackedQueue new
  put-backed old new sizes counts heap backed few =
      let all : new.counts.accepted ≡ min (old.counts.accepted + 1) last = ap (λ u. u.accepted) counts in
      let law = backed-accepting (heap_of old.sizes) 0 old.in_heap 1 old.counts (omega (arith, few, all)) (backed (omega (arith, few, all))) in
      subst (λ (n : Numbers). IsBacked (heap_of n) 0 new.in_heap new.counts) (sym sizes) (subst (λ k. IsBacked (heap_of old.sizes) 0 k new.counts) (sym heap) (subst (IsBacked (heap_of old.sizes) 0 (old.in_heap + 1)) (sym counts) law))

  -- a call after one that was not refused
  pub few-then : {T U E F : Type 0} (k l m n : ℕ) (old mid new : Holding R) (v : T) (r : Result U E) → CountsFew {T = T} {E = F} k l old mid (Ok v) → CountsFew m n mid new r → CountsFew (k + m) (l + n) old new r
  few-then {U = U} {E = E} k l m n old mid new v r one two =
      record { accepted = omega (arith, one.accepted, two.accepted); sessions = omega (arith, one.sessions, two.sessions); backed = ok r two.backed; unbacked = err r two.unbacked }
    where
      ok : (r : Result U E) → OnOk r (IsBackedQueue mid → IsBackedQueue new) → OnOk r (IsBackedQueue old → IsBackedQueue new)
      ok (Ok w) p = λ backed. p (one.backed backed)
      ok (Err e) p = tt

      err : (r : Result U E) → OnErr r (IsBackedQueue mid → AreStoresBacked new) → OnErr r (IsBackedQueue old → AreStoresBacked new)
      err (Ok w) p = tt
      err (Err e) p = λ backed. p (one.backed backed)
