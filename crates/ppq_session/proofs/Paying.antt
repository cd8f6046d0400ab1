-- What a refill of a front costs: nothing, since blocks are read that were stored.
use Rattle.std.proofs.Common.{◌≡◌, ℕ, List, ◌++◌, length, Option, None, sym, subst, arith}
use Rattle.std.specs.Prelude.{Result, Ok, Err}
use Rattle.std.proofs.lemmas.List.Sums.{sum_by-append}
use Rattle.ppq_pass.specs.ppq_counts.Account.{Account, Costs, Stops, IsCountedBeside}
use Rattle.ppq_pass.proofs.ppq_counts.Counted.{beside-costs, beside-stops}
use Rattle.ppq_pass.proofs.ppq_counts.Passed.{IsWith, account-with}
use Rattle.ppq_pass.specs.ppq_outside.Shown.{Shown}
use Rattle.ppq_pass.specs.ppq_array.declared.store_fault.StoreFault.{StoreFault as QueueFault}
use Rattle.ppq_pass.specs.ppq_array.declared.store_fault.StoreFault.TheVariants.{NoFreeBlock, Device}
use Rattle.ppq_pass.specs.ppq_array.External.{External, size_of}
use Rattle.ppq_pass.specs.ppq_array.Kept.{all_writes, all_reads}
use Rattle.ppq_pass.specs.ppq_array.Owner.{slots_shown}
use Rattle.ppq_pass.specs.ppq_array.Supply.{Stock}
use Rattle.ppq_pass.specs.ppq_extract.Extracted.{Held}
use Rattle.ppq_pass.specs.ppq_extract.declared.sources.Sources.{Sources}
use Rattle.ppq_pass.specs.ppq_spill.Storing.{in_buffers}
use Rattle.ppq_pass.specs.ppq_spill.Costing.{Pays, body_account}
use Rattle.ppq_pass.specs.ppq_spill.declared.body.PassBody.{PassBody}
use Rattle.ppq_queue.specs.Paying.{runs_account}
use Rattle.ppq_queue.specs.Resting.{slots_of}
use Rattle.ppq_session.specs.Apart.{apart_account, IsCountedApart}
use Rattle.ppq_session.specs.declared.parts.BulkParts.{BulkParts}
use Rattle.ppq_session.proofs.Moved.{refilled}

module _ {block w r c m : ℕ} {x y x' y' : Account} (before : IsWith block w r x x') (after : IsWith block w r y y') where
  -- slots that a call does not touch cost nothing
  costs-with : Costs c m x y → Costs c m x' y'
  costs-with is =
      record {
        rises = λ light.
            let up = is.rises (omega (arith, light, before.weight)) in
            record { spent = omega (arith, up.spent, before.written, before.owed, after.written, after.owed); weight = omega (arith, up.weight, before.weight, after.weight) };
        stay = omega (arith, is.stay, before.writes, after.writes);
        read = λ exact. omega (arith, is.read (omega (arith, exact, after.writes)), before.writes, before.reads, before.stored, after.writes, after.reads, after.stored);
      }

  stops-with : Stops c m x y → Stops c m x' y'
  stops-with is =
      record {
        written = λ light. omega (arith, is.written (omega (arith, light, before.weight)), before.written, before.owed, after.written);
        stay = omega (arith, is.stay, before.writes, after.writes);
        read = λ exact. omega (arith, is.read (omega (arith, exact, after.writes)), before.writes, before.reads, before.stored, after.writes, after.reads);
      }

  pub pays-with : {T : Type 0} (result : Result T QueueFault) → Pays result c m x y → Pays result c m x' y'
  pays-with (Ok value) is = record { pays = costs-with is.pays }
  pays-with (Err NoFreeBlock) is = record { pays = costs-with is.pays }
  pays-with (Err (Device number)) is = record { pays = stops-with is.pays }

module _ {S R : Type 0} (shown : S → Shown) where
  -- the slots that were put into the row beside those of the runs and the free ones
  pub apart-with :
      (block : ℕ) (body : PassBody S R) (stock : Stock) (row : List Shown) → IsWith block (all_writes row) (all_reads row) (body_account block (slots_of shown body stock) body) (body_account block (slots_of shown body stock ++ row) body)
  apart-with block body stock row =
      let slots = slots_of shown body stock in
      account-with (λ (a : External S R). a.level) size_of (λ (a : External S R). length a.stored) block (all_writes row) (all_reads row) (all_writes slots) (all_writes (slots ++ row)) (all_reads slots) (all_reads (slots ++ row)) body.runs.external.items (in_buffers body)
      (sum_by-append (λ (s : Shown). s.writes) slots row)
      (sum_by-append (λ (s : Shown). s.reads) slots row)

  -- a refill of a front, from what it costs the runs
  pub pays-refilled :
      (width : ℕ) (q : BulkParts S R) (x : Held R) (b : PassBody S R) (t : Stock) (src : Sources R) {T : Type 0} (result : Result T QueueFault) → Pays result 0 0 (runs_account shown q.sizes q.body q.supply) (runs_account shown q.sizes b t)
      → Pays result 0 0 (apart_account shown q) (apart_account shown (refilled shown width q x b t src))
  pays-refilled width q x b t src result is =
      let row = slots_shown shown q.row_seat.hand.items in
      pays-with (apart-with q.sizes.block q.body q.supply row) (apart-with q.sizes.block b t row) result is

  module _ (q q' : BulkParts S R) (sizes : q'.sizes ≡ q.sizes) (counts : q'.counts ≡ q.counts) (failed failed' : Option ℕ) (sound : failed ≡ None) (was : IsCountedApart shown q 0 failed) where
    again : IsCountedBeside q.sizes.workers q.sizes.block 0 (failed' ≡ None) q.counts (apart_account shown q') → IsCountedApart shown q' 0 failed'
    again is =
        subst (λ n. IsCountedBeside n.workers n.block 0 (failed' ≡ None) q'.counts (apart_account shown q')) (sym sizes)
        (subst (λ t. IsCountedBeside q.sizes.workers q.sizes.block 0 (failed' ≡ None) t (apart_account shown q')) (sym counts) is)

    -- the numbers pay still
    pub paid-refilled : Costs 0 0 (apart_account shown q) (apart_account shown q') → IsCountedApart shown q' 0 failed'
    paid-refilled costs =
        again
        (beside-costs q.sizes.workers q.sizes.block 0 q.counts q.counts (λ is. is) 0 0 (λ is. omega arith) (λ is. omega arith) (apart_account shown q) (apart_account shown q') was sound costs)

    -- a block could not be read
    pub paid-failed : (failed' ≡ None → ⊥) → Stops 0 0 (apart_account shown q) (apart_account shown q') → IsCountedApart shown q' 0 failed'
    paid-failed some stops =
        again
        (beside-stops q.sizes.workers q.sizes.block 0 q.counts q.counts (λ is. is) 0 0 (λ is. omega arith) (λ is. omega arith) (apart_account shown q) (apart_account shown q') was sound some stops)
