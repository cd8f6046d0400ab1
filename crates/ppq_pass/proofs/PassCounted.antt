-- A pass pays for what it writes: a record that is put into its heap, and a store of its full heap, which may draw more slots.
use Rattle.std.proofs.Common.{◌≡◌, ℕ, ◌+◌, ◌*◌, ◌≤◌, ◌++◌, List, length, min, Option, None, sym, ◌∙◌, subst, arith}
use Rattle.std.specs.Prelude.{Result, Ok, Err}
use Rattle.std.proofs.lemmas.List.Sums.{sum_by-append}
use Rattle.ppq_spill.specs.ppq_counts.Tally.{tally, last, storing, IsCounting, runs_of, credit_of}
use Rattle.ppq_spill.specs.ppq_counts.Account.{Account, beside, Costs, Stops}
use Rattle.ppq_spill.proofs.ppq_counts.Accounts.{costs-beside, costs-left, stops-left}
use Rattle.ppq_spill.proofs.ppq_counts.Counted.{storing-before, storing-credit, storing-runs}
use Rattle.ppq_spill.proofs.ppq_counts.Passed.{IsWith, account-with, beside-with, from-counted, from-failed}
use Rattle.ppq_extract.specs.ppq_outside.Shown.{Shown}
use Rattle.ppq_extract.specs.ppq_budget.Sizes.{Numbers}
use Rattle.ppq_heap.specs.Heap.{Contents}
use Rattle.ppq_extract.specs.ppq_array.External.{External, size_of}
use Rattle.ppq_extract.specs.ppq_array.Kept.{all_writes, all_reads}
use Rattle.ppq_extract.specs.ppq_array.declared.store_fault.StoreFault.{StoreFault}
use Rattle.ppq_extract.specs.ppq_array.declared.store_fault.StoreFault.TheVariants.{NoFreeBlock, Device}
use Rattle.ppq_spill.specs.Storing.{in_buffers}
use Rattle.ppq_spill.specs.Costing.{PaysUnless, StorePays, body_account}
use Rattle.ppq_spill.specs.declared.body.PassBody.{PassBody}
use Rattle.ppq_pass.specs.declared.parts.PassParts.{PassParts}
use Rattle.ppq_pass.specs.Passed.{slots_of}
use Rattle.ppq_pass.specs.PassState.{IsPassCounted, pass_account, stock_of, drawn_of}

module _ {S R : Type 0} (shown : S → Shown) (n : Numbers) (heap : Contents R) (a : PassBody S R) (p : PassParts S R) (begun accepted stores : ℕ) (failed : Option ℕ) (was : IsPassCounted shown n heap a p begun accepted stores failed) where
  -- one record more in the heap
  pub counted-put : (heap' : Contents R) → length heap'.items ≡ length heap.items + 1 → IsPassCounted shown n heap' a p begun (accepted + 1) stores failed
  counted-put heap' more =
      let before : IsCounting (tally (accepted + 1) stores 0) → IsCounting (tally accepted stores 0) = λ is. record { accepted = omega (arith, is.accepted); stores = is.stores; sessions = is.sessions } in
      let pays : credit_of n.workers n.block (tally (accepted + 1) stores 0) ≡ credit_of n.workers n.block (tally accepted stores 0) + 56 = omega arith in
      record {
        paid = λ counting few sound. (let is = was.paid (before counting) few sound in record { spent = omega (arith, is.spent, pays, more); weight = is.weight });
        covered = λ counting few. (let is = was.covered (before counting) few in omega (arith, is, pays));
        stay = was.stay;
        unread = was.unread;
        read = was.read;
      }

  -- a store of the heap, as it was sorted
  module _ (b : PassBody S R) (q : PassParts S R) (same : p.block ≡ n.block) (sound : failed ≡ None) (more : all_writes (drawn_of shown p) ≤ all_writes (drawn_of shown q)) (records : ℕ) (all : length heap.items ≡ records) (heap' : Contents R) where
    abbrev before : Account
    before = body_account n.block (slots_of shown a p ++ drawn_of shown q) a

    abbrev after : Account
    after = body_account n.block (slots_of shown b q ++ drawn_of shown p) b

    -- the slots that were drawn are beside those that are held
    with_drawn : (xs ds : List Shown) (h : Contents R) (c : PassBody S R) → IsWith n.block (all_writes ds) (all_reads ds) (beside (length h.items) (body_account n.block xs c)) (beside (length h.items) (body_account n.block (xs ++ ds) c))
    with_drawn xs ds h c =
        beside-with (length h.items) (account-with (λ (x : External S R). x.level) size_of (λ (x : External S R). length x.stored) n.block (all_writes ds) (all_reads ds) (all_writes xs) (all_writes (xs ++ ds)) (all_reads xs) (all_reads (xs ++ ds)) c.runs.external.items (in_buffers c)
        (sum_by-append (λ (s : Shown). s.writes) xs ds) (sum_by-append (λ (s : Shown). s.reads) xs ds))

    -- what a store of a full heap pays for
    credit : IsCounting (storing (tally accepted stores 0)) → credit_of n.workers n.block (tally accepted stores 0) + 8 * n.block ≤ credit_of n.workers n.block (storing (tally accepted stores 0))
    credit counting = omega (arith, storing-credit n.workers n.block (tally accepted stores 0) 0 (omega arith) counting)

    runs : IsCounting (storing (tally accepted stores 0)) → runs_of n.workers (tally accepted stores 0) + 1 ≤ runs_of n.workers (storing (tally accepted stores 0))
    runs counting = omega (arith, storing-runs n.workers n.block (tally accepted stores 0) counting)

    none : IsCounting (storing (tally accepted stores 0)) → credit_of n.workers n.block (tally accepted stores 0) + 0 ≤ credit_of n.workers n.block (storing (tally accepted stores 0))
    none counting = omega (arith, credit counting)

    module _ {T : Type 0} (answer : Result T StoreFault) (stored : StorePays shown answer records a b (stock_of shown p) (stock_of shown q)) where
      -- the same, with the block size of the pass
      pays : PaysUnless answer (56 * records + 8 * n.block) 1 0 0 before after
      pays = subst (λ k. PaysUnless answer (56 * records + 8 * k) 1 0 0 (body_account k (slots_of shown a p ++ drawn_of shown q) a) (body_account k (slots_of shown b q ++ drawn_of shown p) b)) same stored

      -- the heap is a run now
      pub counted-stored : (v : T) → answer ≡ Ok v → length heap'.items ≡ 0 → IsPassCounted shown n heap' b q begun accepted (min (stores + 1) last) failed
      counted-stored v is empty =
          let costs : Costs (56 * records + 8 * n.block) 1 before after = (subst (λ (r : Result T StoreFault). PaysUnless r (56 * records + 8 * n.block) 1 0 0 before after) is pays).pays in
          from-counted n.workers n.block begun (tally accepted stores 0) (storing (tally accepted stores 0)) (storing-before n.workers n.block (tally accepted stores 0)) (8 * n.block) 1 credit runs
          (all_writes (drawn_of shown p)) (all_reads (drawn_of shown p)) (all_writes (drawn_of shown q)) (all_reads (drawn_of shown q)) (pass_account shown n heap a p) (pass_account shown n heap' b q) (beside (length heap.items) before) (beside (length heap'.items) after)
          (with_drawn (slots_of shown a p) (drawn_of shown q) heap a) (with_drawn (slots_of shown b q) (drawn_of shown p) heap' b) was sound more (costs-left records (length heap.items) (length heap'.items) (omega (arith, all, empty)) costs)

      -- no block was free, and the heap has as many records
      pub counted-refused : answer ≡ Err NoFreeBlock → length heap'.items ≡ records → IsPassCounted shown n heap' b q begun accepted (min (stores + 1) last) failed
      counted-refused is full =
          let costs : Costs 0 0 before after = (subst (λ (r : Result T StoreFault). PaysUnless r (56 * records + 8 * n.block) 1 0 0 before after) is pays).pays in
          let beside_heap : Costs 0 0 (beside (length heap.items) before) (beside (length heap'.items) after) = subst (λ k. Costs 0 0 (beside (length heap.items) before) (beside k after)) (all ∙ sym full) (costs-beside (length heap.items) costs) in
          from-counted n.workers n.block begun (tally accepted stores 0) (storing (tally accepted stores 0)) (storing-before n.workers n.block (tally accepted stores 0)) 0 0 none (λ counting. omega (arith, runs counting))
          (all_writes (drawn_of shown p)) (all_reads (drawn_of shown p)) (all_writes (drawn_of shown q)) (all_reads (drawn_of shown q)) (pass_account shown n heap a p) (pass_account shown n heap' b q) (beside (length heap.items) before) (beside (length heap'.items) after)
          (with_drawn (slots_of shown a p) (drawn_of shown q) heap a) (with_drawn (slots_of shown b q) (drawn_of shown p) heap' b) was sound more beside_heap

      -- a block failed
      pub counted-failed : (number : ℕ) → answer ≡ Err (Device number) → (failed' : Option ℕ) → (failed' ≡ None → ⊥) → IsPassCounted shown n heap' b q begun accepted (min (stores + 1) last) failed'
      counted-failed number is failed' met =
          let stops : Stops (56 * records + 8 * n.block) 1 before after = (subst (λ (r : Result T StoreFault). PaysUnless r (56 * records + 8 * n.block) 1 0 0 before after) is pays).pays in
          from-failed n.workers n.block begun (tally accepted stores 0) (storing (tally accepted stores 0)) (storing-before n.workers n.block (tally accepted stores 0)) (8 * n.block) 1 credit runs
          (all_writes (drawn_of shown p)) (all_reads (drawn_of shown p)) (all_writes (drawn_of shown q)) (all_reads (drawn_of shown q)) (pass_account shown n heap a p) (pass_account shown n heap' b q) (beside (length heap.items) before) (beside (length heap'.items) after)
          (with_drawn (slots_of shown a p) (drawn_of shown q) heap a) (with_drawn (slots_of shown b q) (drawn_of shown p) heap' b) was sound more met (stops-left records (length heap.items) (length heap'.items) (omega (arith, all)) stops)
