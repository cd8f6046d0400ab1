-- What a push counts: the stores that it begins are of records that the pass accepted or had in the beginning.
use Rattle.std.proofs.Common.{◌≡◌, ℕ, ◌+◌, ◌-◌, ◌*◌, ◌<◌, ◌≤◌, min, cond, List, Some, sym, ap, ◌∙◌, subst, arith}
use Rattle.std.specs.Prelude.{Ok, Err, nat_lt}
use Rattle.std.proofs.Math.Nat.{mul-le-mul_left}
use Rattle.std.proofs.lemmas.Bool.{cond_below, cond_above}
use Rattle.ppq_spill.specs.ppq_counts.Tally.{last}
use Rattle.ppq_extract.specs.ppq_budget.Sizes.{heap_of}
use Rattle.ppq_extract.specs.ppq_outside.Shown.{Shown}
use Rattle.ppq_extract.specs.ppq_array.declared.store_fault.StoreFault.{StoreFault}
use Rattle.ppq_extract.specs.ppq_array.declared.store_fault.StoreFault.TheVariants.{NoFreeBlock, Device}
use Rattle.ppq_pass.specs.Passed.{PassHolding, CountsPassPush, IsBackedPass, IsRefusedPush, PutAfterStore, PushKeeps, with_one}
use Rattle.ppq_pass.proofs.PassOpened.{not_both}

module _ {S R : Type 0} {T E : Type 0} where
  -- a fault was met before
  pub counts-latched : (pass : PassHolding S R) (number : ℕ) (e : E) → pass.failed ≡ Some number → CountsPassPush {T = T} pass pass (Err e)
  counts-latched pass number e met =
      record {
        stores = λ none. absurd (not_both pass.failed number none met);
        backed = tt;
        unbacked = λ is. record { within = omega (arith, is.within) };
      }

  -- the heap had room
  pub counts-one : (old new : PassHolding S R) (bag : List R) (v : T) → old.in_heap < heap_of old.key.sizes → new ≡ with_one old bag → CountsPassPush {E = E} old new (Ok v)
  counts-one old new bag v room one =
      record {
        stores = λ _. ap (λ p. p.stores) one ∙ cond_below old.in_heap (heap_of old.key.sizes) old.stores (min (old.stores + 1) last) room;
        backed = λ is. subst (λ p. IsBackedPass p) (sym one) record { within = omega (arith, is.within) };
        unbacked = tt;
      }

module _ {S R : Type 0} {shown : S → Shown} {old new : PassHolding S R} (keeps : PushKeeps shown old new) (full : old.in_heap ≡ heap_of old.key.sizes) where
  -- one store more was begun
  one_more : new.stores ≡ cond (nat_lt old.in_heap (heap_of old.key.sizes)) old.stores (min (old.stores + 1) last)
  one_more = cond_above old.in_heap (heap_of old.key.sizes) old.stores (min (old.stores + 1) last) new.stores (omega (arith, full)) keeps.stores

  -- with the records that the heap had
  spent : IsBackedPass old → heap_of new.key.sizes * new.stores ≤ old.key.begun + old.accepted
  spent is =
      let same : heap_of new.key.sizes * new.stores ≡ heap_of old.key.sizes * new.stores = ap (λ k. heap_of k.sizes * new.stores) keeps.key in
      let product : heap_of old.key.sizes * new.stores ≤ heap_of old.key.sizes * (old.stores + 1) = mul-le-mul_left (heap_of old.key.sizes) (omega (arith, keeps.stores)) in
      omega (arith, same, product, is.within, full)

  -- the store was made
  pub counts-stored : {T E : Type 0} {r : R} (v : T) → PutAfterStore shown r old new → CountsPassPush {E = E} old new (Ok v)
  counts-stored {T} {E} {r} v put =
      record {
        stores = λ _. one_more;
        backed = λ is. record { within = omega (arith, spent is, put.stored, put.accepted, ap (λ k. k.begun) keeps.key) };
        unbacked = tt;
      }

  -- it was not
  not_stored : {T E : Type 0} (e : E) → new.in_heap ≡ old.in_heap → new.accepted ≡ old.accepted → CountsPassPush {T = T} old new (Err e)
  not_stored {T} {E} e heap accepted =
      record {
        stores = λ _. one_more;
        backed = tt;
        unbacked = λ is. record { within = omega (arith, spent is, heap, full, ap (λ k. heap_of k.sizes) keeps.key, accepted, ap (λ k. k.begun) keeps.key) };
      }

  pub counts-refused : {T E : Type 0} (e : E) (fault : StoreFault) → IsRefusedPush old new fault → CountsPassPush {T = T} old new (Err e)
  counts-refused {T} {E} e NoFreeBlock found = not_stored e (ap (λ p. p.in_heap) found.rest) (ap (λ p. p.accepted) found.rest)
  counts-refused {T} {E} e (Device number) met = not_stored e met.in_heap met.accepted
