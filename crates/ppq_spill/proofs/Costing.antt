-- What storing a run and merging a level cost, from what they did.
use Rattle.std.proofs.Common.{◌≡◌, ℕ, ◌+◌, ◌-◌, ◌*◌, ◌≤◌, min, List, [], ◌∷◌, ◌++◌, length, sum_by, sym, ap, ◌∙◌, subst, arith, length-append, IsPermutation}
use Rattle.std.specs.Prelude.{Result, Ok, Err}
use Rattle.std.specs.declared.cmp.Ordering.{Ordering}
use Rattle.std.proofs.lemmas.List.Concat.{flat_map-cons, flat_map-append}
use Rattle.std.proofs.lemmas.List.Sums.{sum_by-append}
use Rattle.std.proofs.lemmas.List.Sorted.{IsPermutation-refl}
use Rattle.ppq_counts.specs.Account.{account, Costs, Stops}
use Rattle.ppq_counts.proofs.Accounts.{costs-more}
use Rattle.ppq_counts.proofs.Levels.{stored-costs, stored-stops, merged-costs, merged-stops, same-costs, held-costs}
use Rattle.ppq_fetch.specs.ppq_outside.Shown.{Shown}
use Rattle.ppq_fetch.specs.ppq_array.declared.store_fault.StoreFault.{StoreFault}
use Rattle.ppq_fetch.specs.ppq_array.declared.store_fault.StoreFault.TheVariants.{NoFreeBlock, Device}
use Rattle.ppq_fetch.specs.ppq_array.Run.{Run, items_of}
use Rattle.ppq_fetch.specs.ppq_array.External.{External, size_of}
use Rattle.ppq_fetch.specs.ppq_array.Supply.{Stock}
use Rattle.ppq_fetch.specs.ppq_array.Kept.{all_writes, all_reads}
use Rattle.ppq_fetch.specs.ppq_array.Holdings.{internal_items, external_slots}
use Rattle.ppq_fetch.specs.Fetching.{blocks_in}
use Rattle.ppq_spill.specs.Body.{body_slots, job_slots}
use Rattle.ppq_spill.specs.Moves.{FoundScant}
use Rattle.ppq_spill.specs.Storing.{in_buffers, BlocksStored, NoSlots, StoreLeaves, StoreEnds, WritesFew, slots_before, slots_after}
use Rattle.ppq_spill.specs.Leveling.{MoreCalls, records_count, arrays_before, arrays_after}
use Rattle.ppq_spill.specs.Making.{Table, table_slots, IsFaultOf}
use Rattle.ppq_spill.specs.Went.{AtLeast}
use Rattle.ppq_spill.specs.Costing.{StorePays, LevelPays, body_account}
use Rattle.ppq_spill.specs.declared.body.PassBody.{PassBody}
use Rattle.ppq_spill.proofs.Leveled.{Placed, level_writes, level_each, level_few}

module _ {S R : Type 0} (shown : S → Shown) where
  abbrev level_of : External S R → ℕ
  level_of a = a.level

  abbrev stored_of : External S R → ℕ
  stored_of a = length a.stored

  module _ (old new : PassBody S R) (before now : Stock) where
    -- all runs in buffers and the list are one run in blocks
    blocks_cost :
        (cmp : R → R → Ordering) (record_of : List ℕ → R) (width : ℕ) (sorted : List R) → BlocksStored cmp record_of width shown sorted old new before now → WritesFew shown (length sorted) old new before now
        → Costs (56 * length sorted + 8 * before.block) 1 (body_account before.block (slots_before shown old before now) old) (body_account before.block (slots_after shown new before now) new)
    blocks_cost cmp record_of width sorted b few =
        let none : in_buffers new ≡ 0 = ap (λ runs. length (internal_items runs)) b.internal in
        let slots = slots_before shown old before now in
        let slots' = slots_after shown new before now in
        subst (λ k. Costs (56 * length sorted + 8 * before.block) 1 (body_account before.block slots old) (account level_of size_of stored_of before.block (all_writes slots') (all_reads slots') new.runs.external.items k)) (sym none)
        (stored-costs level_of size_of stored_of before.block (all_writes slots) (all_writes slots') (all_reads slots) (all_reads slots') few.blocks few.transfers.writes (length sorted) (in_buffers old) old.runs.external.items new.runs.external.items
        b.array b.level b.size b.external few.few few.stay b.each few.transfers.reads)

    -- a write failed
    blocks_stop :
        (n : ℕ) → WritesFew shown n old new before now
        → Stops (56 * n + 8 * before.block) 1 (body_account before.block (slots_before shown old before now) old) (body_account before.block (slots_after shown new before now) new)
    blocks_stop n few =
        let slots = slots_before shown old before now in
        let slots' = slots_after shown new before now in
        stored-stops level_of size_of stored_of before.block (all_writes slots) (all_writes slots') (all_reads slots) (all_reads slots') few.blocks few.transfers.writes n (in_buffers old) old.runs.external.items new.runs.external.items (in_buffers new)
        few.few few.stay few.transfers.reads

    -- too few slots were had: nothing was written, and no run changed
    refused_cost : (n : ℕ) → NoSlots n old new before now → new.lanes.jobs.items ≡ old.lanes.jobs.items → Costs 0 0 (body_account before.block (slots_before shown old before now) old) (body_account before.block (slots_after shown new before now) new)
    refused_cost n none jobs =
        let arrays = old.runs.external.items in
        let slots = slots_before shown old before now in
        let slots' = slots_after shown new before now in
        let moved : IsPermutation arrays new.runs.external.items = subst (IsPermutation arrays) (sym none.external) (IsPermutation-refl arrays) in
        let same : (f : Shown → ℕ) → sum_by f slots' ≡ sum_by f slots = λ f.
        let here : sum_by f (body_slots shown new) ≡ sum_by f (body_slots shown old) = ap (λ xs. sum_by f (external_slots shown xs ++ job_slots shown new.lanes.jobs.items)) none.external ∙ ap (λ js. sum_by f (external_slots shown arrays ++ job_slots shown js)) jobs in
        omega (
          arith,
          here,
          none.untouched f,
          sum_by-append f (body_slots shown old ++ before.kept) now.drawn,
          sum_by-append f (body_slots shown old) before.kept,
          sum_by-append f (body_slots shown new ++ now.kept) before.drawn,
          sum_by-append f (body_slots shown new) now.kept,
          sum_by-append f before.kept now.drawn,
          sum_by-append f now.kept before.drawn,
        ) in
        subst (λ k. Costs 0 0 (body_account before.block slots old) (account level_of size_of stored_of before.block (all_writes slots') (all_reads slots') new.runs.external.items k)) (sym (ap (λ runs. length (internal_items runs)) none.internal))
        (same-costs level_of size_of stored_of before.block (all_writes slots) (all_writes slots') (all_reads slots) (all_reads slots') (same (λ s. s.writes)) (in_buffers old) arrays new.runs.external.items moved (omega (arith, same (λ s. s.reads))))

    -- what a store in blocks costs, whatever its answer
    pub blocks_counted :
        {T : Type 0} (cmp : R → R → Ordering) (record_of : List ℕ → R) (width : ℕ) (sorted : List R) → old.lanes.jobs.items ≡ [] → StoreLeaves shown width (length sorted) old new before now
        → (result : Result T StoreFault) → StoreEnds cmp record_of width shown sorted old new before now result → StorePays shown result (length sorted) old new before now
    blocks_counted cmp record_of width sorted no_job leaves (Ok v) ends = record { pays = blocks_cost cmp record_of width sorted ends leaves.writes }
    blocks_counted cmp record_of width sorted no_job leaves (Err NoFreeBlock) ends = record { pays = refused_cost (length sorted) ends (leaves.lanes.no_job ∙ sym no_job) }
    blocks_counted cmp record_of width sorted no_job leaves (Err (Device number)) ends = record { pays = blocks_stop (length sorted) leaves.writes }

  -- the same, after too few buffers were had
  pub store_counted :
      {T : Type 0} (cmp : R → R → Ordering) (record_of : List ℕ → R) (width : ℕ) (sorted : List R) (old new : PassBody S R) (o m r : Stock) → FoundScant (length sorted) o m → old.lanes.jobs.items ≡ [] → StoreLeaves shown width (length sorted) old new m r
      → (result : Result T StoreFault) → StoreEnds cmp record_of width shown sorted old new m r result → StorePays shown result (length sorted) old new o r
  store_counted cmp record_of width sorted old new o m r found no_job leaves result ends =
      let at = subst (λ (s : Stock). StorePays shown result (length sorted) old new s r) found.stock (blocks_counted old new m r cmp record_of width sorted no_job leaves result ends) in
      record { pays = at.pays }

  -- the list is one more run in buffers, and no slot was called
  pub buffers_counted :
      {T : Type 0} (value : T) (sorted : List R) (run : Run R) (old new : PassBody S R) (before now : Stock) → MoreCalls 0 0 (slots_before shown old before now) (slots_after shown new before now)
      → items_of run ≡ sorted → new.runs.internal.items ≡ old.runs.internal.items ++ run ∷ [] → new.runs.external.items ≡ old.runs.external.items → StorePays shown (Ok value) (length sorted) old new before now
  buffers_counted value sorted run old new before now none items internal external =
      let slots = slots_before shown old before now in
      let slots' = slots_after shown new before now in
      let x = all_writes slots in
      let y = all_writes slots' in
      let runs = old.runs.internal.items in
      let block = before.block in
      let was = body_account block slots old in
      let still : y ≡ x = omega (arith, none.written, none.stay) in
      let last : length (internal_items (run ∷ [])) ≡ length sorted = omega (arith, ap length (flat_map-cons (λ (r : Run R). items_of r) run []), length-append (items_of run) [], ap length items) in
      let more : in_buffers new ≡ in_buffers old + length sorted =
      omega (arith, ap (λ rs. length (internal_items rs)) internal, ap length (flat_map-append (λ (r : Run R). items_of r) runs (run ∷ [])), length-append (internal_items runs) (internal_items (run ∷ [])), last) in
      record {
        pays =
            subst (λ k. Costs (56 * length sorted + 8 * block) 1 was (account level_of size_of stored_of block y (all_reads slots') new.runs.external.items k)) (sym more)
            (subst (λ arrays. Costs (56 * length sorted + 8 * block) 1 was (account level_of size_of stored_of block y (all_reads slots') arrays (in_buffers old + length sorted))) (sym external)
            (costs-more (omega arith) (omega arith) (held-costs level_of size_of stored_of block x y (all_reads slots) (all_reads slots') still (length sorted) (in_buffers old) old.runs.external.items (omega (arith, none.read)))));
      }

-- a merge of a level
module _ {S R : Type 0} (shown : S → Shown) (width level : ℕ) (old new others : List (External S R)) (o t : Table S R) (stock now : Stock) (is : Placed shown width level old new others o t stock now) (at_most : level ≤ 7) where
  abbrev before : List Shown
  before = arrays_before shown old stock now

  abbrev after : List Shown
  after = arrays_after shown new stock now

  -- how often slots were called
  calls : MoreCalls (length is.merging.blocks + is.later) (blocks_in o.inputs) before after
  calls = level_writes shown width level old new others o t stock now is

  -- 8 runs became one
  pub level_counted :
      {T : Type 0} (value : T) → o.hand.made.level ≡ min (level + 1) 7 → size_of t.hand.made ≡ records_count o.inputs → new ≡ others ++ t.hand.made ∷ [] → AtLeast (length t.hand.made.stored - length o.hand.made.stored) (table_slots shown o) (table_slots shown t)
      → LevelPays shown (Ok value) old new stock now
  level_counted value next size new_is each records =
      let made : t.hand.made.level ≡ min (level + 1) 7 = ap (λ a. a.level) is.merging.made ∙ next in
      let all = level_each shown width level old new others o t stock now is (length t.hand.made.stored - length o.hand.made.stored) each in
      record {
        pays =
            merged-costs (λ (a : External S R). a.level) size_of (λ (a : External S R). length a.stored) stock.block (all_writes before) (all_writes after) (all_reads before) (all_reads after) (length is.merging.blocks + is.later) calls.written level old
            o.inputs others at_most is.of.parted is.of.eight is.of.levels records new t.hand.made made size new_is (level_few shown width level old new others o t stock now is) calls.stay (λ exact. omega (arith, all exact, ap length is.none_made)) calls.read;
      }

  -- a read or write failed
  pub stop_counted : {T : Type 0} (fault : StoreFault) (s : Stock) → IsFaultOf s fault → LevelPays shown {T = T} (Err fault) old new stock now
  stop_counted NoFreeBlock s failed records = absurd failed
  stop_counted (Device number) s failed records =
      record {
        pays =
            merged-stops (λ (a : External S R). a.level) size_of (λ (a : External S R). length a.stored) stock.block (all_writes before) (all_writes after) (all_reads before) (all_reads after) (length is.merging.blocks + is.later) calls.written level old
            o.inputs others at_most is.of.parted is.of.eight is.of.levels records records new (level_few shown width level old new others o t stock now is) calls.stay calls.read;
      }

-- too few slots were had for it
pub none_counted :
    {S R T : Type 0} (shown : S → Shown) (old new : List (External S R)) (stock now : Stock) → IsPermutation old new → MoreCalls 0 0 (arrays_before shown old stock now) (arrays_after shown new stock now)
    → LevelPays shown {T = T} (Err NoFreeBlock) old new stock now
none_counted {S} {R} shown old new stock now moved none records =
    let before = arrays_before shown old stock now in
    let after = arrays_after shown new stock now in
    let still : all_writes after ≡ all_writes before = omega (arith, none.written, none.stay) in
    record {
      pays = same-costs (λ (a : External S R). a.level) size_of (λ (a : External S R). length a.stored) stock.block (all_writes before) (all_writes after) (all_reads before) (all_reads after) still records old new moved (omega (arith, none.read));
    }
