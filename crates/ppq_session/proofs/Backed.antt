-- Stores of full heaps of a session's passes are backed by the records that they got and accepted, and so are those of the queue at its end.
use Rattle.std.proofs.Common.{◌≡◌, ℕ, ◌+◌, ◌-◌, ◌*◌, ◌≤◌, List, [], ◌∷◌, All, get_or, sum_by, min, sym, ap, ◌∙◌, subst, arith}
use Rattle.std.specs.Prelude.{Ok, Err}
use Rattle.std.proofs.Math.Nat.{mul-le-mul_left}
use Rattle.std.proofs.lemmas.List.Sums.{sum_by-cons}
use Rattle.std.proofs.lemmas.List.Elements.{All-head, All-tail, All-map}
use Rattle.ppq_pass.specs.ppq_counts.Tally.{last, beginning, IsBacked}
use Rattle.ppq_pass.specs.ppq_outside.Shown.{Shown}
use Rattle.ppq_pass.specs.ppq_budget.Sizes.{Numbers, heap_of}
use Rattle.ppq_pass.specs.Passed.{PassKey, PassHolding, IsBackedPass, tally_of}
use Rattle.ppq_queue.specs.Holding.{Holding, CountsFew, IsBackedQueue, AreStoresBacked}
use Rattle.ppq_session.specs.BulkSession.{IsFresh, keys_of}
use Rattle.ppq_session.specs.Counting.{accepted_of, stores_of, tally_with}
use Rattle.ppq_session.specs.Dealing.{IsGoing, StaysBacked}
use Rattle.ppq_session.specs.Ends.{Staying, SessionEnded}
use Rattle.ppq_session.specs.Given.{CountsGiven}
use Rattle.ppq_session.specs.declared.fault.SessionEnd.{SessionEnd}
use Rattle.ppq_session.proofs.Mapped.{sum-mapped, all_mapped}

module _ {S R : Type 0} where
  -- a pass that is backed with the records of its heap is so without those of a full heap
  pub backed-stays : (pass : PassHolding S R) → IsBackedPass pass → StaysBacked pass
  backed-stays pass is = ((λ going. is), record { within = omega (arith, is.within) })

  -- nothing was pushed to the pass yet
  pub backed-fresh : (pass : PassHolding S R) → IsFresh pass → IsBackedPass pass
  backed-fresh pass fresh =
      let none : heap_of pass.key.sizes * pass.stores ≡ 0 = ap (λ k. heap_of pass.key.sizes * k) fresh.stores ∙ (omega arith) in
      record { within = omega (arith, none, fresh.in_heap) }

  pub backed-going : (passes : List (PassHolding S R)) → All IsGoing passes → All StaysBacked passes → All IsBackedPass passes
  backed-going passes going backed = λ k d h. (backed k d h).0 (going k d h)

  -- with heaps of one size: how many records of stores, and how many in heaps, or beyond a full heap, there are together
  module _ (heap : ℕ) (left : PassHolding S R → ℕ) where
    abbrev Within : PassHolding S R → Type 0
    Within pass = IsBacked heap pass.key.begun (left pass) (tally_of pass)

    backed-sum : (passes : List (PassHolding S R)) → All Within passes → heap * stores_of passes + sum_by left passes ≤ sum_by (λ p. p.key.begun) passes + accepted_of passes
    backed-sum [] all = omega arith
    backed-sum (p ∷ ps) all =
        let here = All-head Within p ps all in
        let more = backed-sum ps (All-tail Within p ps all) in
        let product : heap * stores_of (p ∷ ps) ≡ heap * p.stores + heap * stores_of ps = ap (λ k. heap * k) (sum_by-cons (λ (x : PassHolding S R). x.stores) p ps) ∙ (omega arith) in
        omega (
          arith,
          here.within,
          more,
          product,
          sum_by-cons left p ps,
          sum_by-cons (λ (x : PassHolding S R). x.key.begun) p ps,
          sum_by-cons (λ (x : PassHolding S R). x.accepted) p ps,
        )

  module _ (shown : S → Shown) (queue : Holding R) (stay : Staying R) (passes : List (PassHolding S R)) (c : CountsGiven queue stay passes) (new : Holding R) (how : SessionEnd) (e : SessionEnded shown stay passes new how) (same : new.sizes ≡ queue.sizes) where
    abbrev heap : ℕ
    heap = heap_of queue.sizes

    counts_are : new.counts ≡ tally_with (beginning queue.counts) passes
    counts_are = e.counts ∙ ap (λ t. tally_with t passes) c.counts

    accepted_is : new.counts.accepted ≡ min (queue.counts.accepted + accepted_of passes) last
    accepted_is = ap (λ t. t.accepted) counts_are

    stores_are : new.counts.stores ≡ min (queue.counts.stores + stores_of passes) last
    stores_are = ap (λ t. t.stores) counts_are

    sessions_are : new.counts.sessions ≡ min (min (queue.counts.sessions + 1) last + 0) last
    sessions_are = ap (λ t. t.sessions) counts_are

    -- its stores are no more than those of the queue and of the passes
    stores_few : heap * new.counts.stores ≤ heap * queue.counts.stores + heap * stores_of passes
    stores_few =
        let few : new.counts.stores ≤ queue.counts.stores + stores_of passes = omega (arith, stores_are) in
        let product : heap * new.counts.stores ≤ heap * (queue.counts.stores + stores_of passes) = mul-le-mul_left heap few in
        omega (arith, product)

    -- what holds of each pass with heaps of this size
    with_heap : (P : ℕ → PassHolding S R → Type 0) → All (λ (p : PassHolding S R). P (heap_of p.key.sizes) p) passes → All (P heap) passes
    with_heap P all = λ k d h. subst (λ (n : Numbers). P (heap_of n) (get_or passes k d)) (c.sizes k d h) (all k d h)

    -- all passes went on
    backed-whole : All IsGoing passes → IsBackedQueue queue → IsBackedQueue new
    backed-whole going was unsaturated =
        let before = was (omega (arith, accepted_is, unsaturated)) in
        let each = with_heap (λ (n : ℕ) (p : PassHolding S R). IsBacked n p.key.begun p.in_heap (tally_of p)) (backed-going passes going c.backed) in
        let sum = backed-sum heap (λ p. p.in_heap) passes each in
        subst (λ (n : Numbers). IsBacked (heap_of n) 0 new.in_heap new.counts) (sym same) (record { within = omega (arith, before.within, sum, c.begun, stores_few, accepted_is, unsaturated, e.heaps) })

    -- whatever they met
    backed-end : IsBackedQueue queue → AreStoresBacked new
    backed-end was unsaturated =
        let before = was (omega (arith, accepted_is, unsaturated)) in
        let each = with_heap (λ (n : ℕ) (p : PassHolding S R). IsBacked n p.key.begun (p.in_heap - n) (tally_of p)) (λ k d h. (c.backed k d h).1) in
        let sum = backed-sum heap (λ p. p.in_heap - heap) passes each in
        subst (λ (n : Numbers). IsBacked (heap_of n) 0 0 new.counts) (sym same) (record { within = omega (arith, before.within, sum, c.begun, stores_few, accepted_is, unsaturated) })

    module _ (records : ℕ) (most : accepted_of passes ≤ records) where
      -- what the queue counts at the end
      pub counts-whole : {T E : Type 0} (value : T) → All IsGoing passes → CountsFew {T = T} {E = E} records 1 queue new (Ok value)
      counts-whole value going = record { accepted = omega (arith, accepted_is, most); sessions = omega (arith, sessions_are); backed = backed-whole going; unbacked = tt }

      pub counts-stopped : {T E : Type 0} (fault : E) → CountsFew {T = T} {E = E} records 1 queue new (Err fault)
      counts-stopped fault = record { accepted = omega (arith, accepted_is, most); sessions = omega (arith, sessions_are); backed = tt; unbacked = backed-end }

  -- more records were given to passes that all went on
  pub counts-more :
      (queue : Holding R) (stay stay' : Staying R) (olds news : List (PassHolding S R)) → stay'.counts ≡ stay.counts → keys_of news ≡ keys_of olds → (All IsBackedPass olds → All StaysBacked news) → All IsGoing olds → CountsGiven queue stay olds
      → CountsGiven queue stay' news
  counts-more queue stay stay' olds news same keys backed going c =
      let key : PassHolding S R → PassKey S R = λ p. p.key in
      let Sized : PassKey S R → Type 0 = λ k. k.sizes ≡ queue.sizes in
      record {
        counts = same ∙ c.counts;
        begun = omega (arith, c.begun, sum-mapped key (λ k. k.begun) olds, sum-mapped key (λ k. k.begun) news, ap (sum_by (λ (k : PassKey S R). k.begun)) keys);
        sizes = all_mapped key Sized news (subst (All Sized) (sym keys) (All-map Sized key olds c.sizes));
        backed = backed (backed-going olds going c.backed);
      }

  -- nothing was given yet
  pub counts-none :
      (queue : Holding R) (stay : Staying R) (passes : List (PassHolding S R)) → stay.counts ≡ beginning queue.counts → sum_by (λ p. p.key.begun) passes ≤ queue.in_heap → All (λ (p : PassHolding S R). p.key.sizes ≡ queue.sizes) passes → All IsFresh passes
      → CountsGiven queue stay passes
  counts-none queue stay passes counts begun sizes fresh = record { counts = counts; begun = begun; sizes = sizes; backed = λ k d h. backed-stays _ (backed-fresh _ (fresh k d h)) }
