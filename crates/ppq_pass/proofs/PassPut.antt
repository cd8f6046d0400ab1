-- A push that stores a full heap first: what is known then, and what each answer of the store leaves.
use Rattle.std.proofs.Common.{◌≡◌, ℕ, ◌+◌, ◌*◌, ◌^◌, ◌<◌, min, Bool, true, List, [], ◌∷◌, ◌++◌, length, Option, Some, refl, sym, ap, ◌∙◌, subst, arith}
use Rattle.std.specs.Prelude.{count_by, flat_map, Result, Ok, Err}
use Rattle.std.specs.declared.cmp.Ordering.{Ordering}
use Rattle.ppq_pool.specs.ppq_record.Bag.{IsSameBag}
use Rattle.ppq_pool.proofs.ppq_record.Order.{IsSameBag-length, count_by-append, count_by-cons}
use Rattle.ppq_pool.proofs.Lists.{Some-injective}
use Rattle.ppq_extract.specs.ppq_outside.Shown.{Shown}
use Rattle.ppq_extract.specs.ppq_budget.Sizes.{Numbers, heap_of}
use Rattle.ppq_extract.specs.ppq_array.External.{records_in}
use Rattle.ppq_extract.specs.ppq_array.Kept.{HasFailed}
use Rattle.ppq_extract.specs.ppq_array.declared.store_fault.StoreFault.{StoreFault}
use Rattle.ppq_extract.specs.ppq_array.declared.store_fault.StoreFault.TheVariants.{NoFreeBlock, Device}
use Rattle.ppq_extract.specs.ppq_array.Holdings.{internal_items}
use Rattle.ppq_extract.specs.ppq_fetch.Fetching.{count_in}
use Rattle.ppq_heap.specs.Heap.{Contents}
use Rattle.ppq_spill.specs.ppq_counts.Tally.{last}
use Rattle.ppq_spill.specs.Costing.{StorePays}
use Rattle.ppq_spill.specs.Storing.{MayStore, RunsAscend, IsStored, NoneFree}
use Rattle.ppq_spill.specs.declared.body.PassBody.{PassBody}
use Rattle.ppq_pass.specs.declared.shared.Shared.{Shared}
use Rattle.ppq_pass.specs.declared.parts.PassParts.{PassParts}
use Rattle.ppq_pass.specs.Passing.{IsPass}
use Rattle.ppq_pass.specs.Passed.{PassHolding, PassTells, PutAfterStore, PushKeeps, FoundNone, MetFault, holding_of, slots_of, runs_bag}
use Rattle.ppq_pass.specs.PassState.{IsPassing, IsPassCounted, stock_of}
use Rattle.ppq_pass.specs.PassStore.{StoreKept}
use Rattle.ppq_pass.proofs.PassCounted.{counted-put, counted-stored, counted-refused, counted-failed}
use Rattle.ppq_pass.proofs.PassKeeps.{heap_small, may_store, runs_ascend, size_few, passed_stored}
use Rattle.ppq_pass.proofs.PassOpened.{not_both, key_stored, refused_holding, of_shared}
use Rattle.ppq_pass.proofs.PassReady.{AtStore}
use Rattle.ppq_pass.proofs.PassSince.{kept_stored, drawn_more}
use Rattle.ppq_pass.proofs.PassSlots.{still_tell}
use Rattle.ppq_pass.proofs.PassStored.{sound_stored, size_stored, bag_stored, sound_refused, few_stash, int, ext}

module _ {S R : Type 0} {shown : S → Shown} {cmp : R → R → Ordering} {record_of : List ℕ → R} {width : ℕ} {n : Numbers} {heap : Contents R} {body : PassBody S R} {p : PassParts S R} {begun accepted : ℕ} {refused : Bool} {failed : Option ℕ} {stores : ℕ} {v : PassHolding S R} {shared : Shared S R} {sorted : List R}
    (at : AtStore shown cmp record_of width n heap body p begun accepted refused failed stores v shared sorted)
  where
    -- the store may be made: its list is not empty, and the supply is of what is shared
    pub some : 0 < length sorted
    some = omega (arith, at.long, (heap_small n at.is.range).0)

    pub of_session : IsPass shown width shared p.row_seat p.pool_seat p.stash p.numbers p.block p.dry p.scant
    of_session = subst (λ h. IsPass shown width h p.row_seat p.pool_seat p.stash p.numbers p.block p.dry p.scant) (of_shared p shared at.row at.pool) at.is.supply

    pub has_store_room : MayStore shown width (length sorted) body (stock_of shown p)
    has_store_room = may_store at.is at.sound (length sorted) at.long

    pub all_ascend : RunsAscend cmp shown sorted body (stock_of shown p)
    all_ascend = runs_ascend at.is at.sound sorted at.up

    -- one record more can be counted
    pub may_count : accepted < 2 ^ 63
    may_count = omega (arith, at.sound.counted, size_few at.is at.sound)

    -- a heap that was emptied
    abbrev emptied : Contents R
    emptied = record { items = []; cap = 0 }

    -- the heap had as many records before it was sorted
    same_long : length heap.items ≡ length sorted
    same_long = at.full ∙ sym at.long

    -- a store was tried and counted, with this answer
    module _ {b : PassBody S R} {q : PassParts S R} {T : Type 0} {answer : Result T StoreFault} {stores' : ℕ} (kept : StoreKept shown width (length sorted) shared body b p q) (pays : StorePays shown answer (length sorted) body b (stock_of shown p) (stock_of shown q)) (once : stores' ≡ min (stores + 1) last) where
      -- its stores are counted so
      with_stores : (accepted' : ℕ) (failed' : Option ℕ) (heap' : Contents R) → IsPassCounted shown n heap' b q begun accepted' (min (stores + 1) last) failed' → IsPassCounted shown n heap' b q begun accepted' stores' failed'
      with_stores accepted' failed' heap' is = subst (λ k. IsPassCounted shown n heap' b q begun accepted' k failed') (sym once) is

      same_key : (heap' : Contents R) (accepted' : ℕ) (refused' : Bool) (failed' : Option ℕ) → (holding_of shown record_of width n heap' b q begun accepted' refused' failed' stores').key ≡ v.key
      same_key heap' accepted' refused' failed' = key_stored kept at.row at.pool n begun ∙ ap (λ v. v.key) at.view

      -- whatever the store answered
      pub push_keeps : (heap' : Contents R) (accepted' : ℕ) (refused' : Bool) (failed' : Option ℕ) → PushKeeps shown v (holding_of shown record_of width n heap' b q begun accepted' refused' failed' stores')
      push_keeps heap' accepted' refused' failed' =
          let new = holding_of shown record_of width n heap' b q begun accepted' refused' failed' stores' in
          record {
            tells = λ tell. (still_tell kept).0 (subst (λ v. PassTells shown v) (sym at.view) tell);
            kept = kept_stored kept v new (sym (ap (λ v. v.drawn) at.view)) (sym (ap (λ v. v.slots) at.view)) (sym (ap (λ v. v.steps) at.view)) refl refl refl;
            key = same_key heap' accepted' refused' failed';
            stores = once ∙ ap (λ v. min (v.stores + 1) last) at.view;
          }

      -- a run was stored, and the emptied heap took the record
      module _ (r : R) (heap' : Contents R) (cap : heap'.cap ≡ heap.cap) (bag : IsSameBag heap'.items (r ∷ [])) (value : T) (ok : answer ≡ Ok value) (put : IsStored cmp record_of width shown sorted body b (stock_of shown p) (stock_of shown q)) where
        one : length heap'.items ≡ 1
        one = IsSameBag-length heap'.items (r ∷ []) bag

        pub put_holds : IsPassing shown cmp record_of width n heap' b (Some q) begun (accepted + 1) refused failed stores'
        put_holds = (
          passed_stored at.is at.row at.pool kept heap' refused failed cap (omega (arith, one, (heap_small n at.is.range).0)) (λ r. kept.dry (at.is.ended r)) (λ k h. absurd (not_both failed k at.none h)),
          (λ _. sound_stored at kept put heap' one),
          with_stores (accepted + 1) failed heap' (counted-put shown n emptied b q begun accepted (min (stores + 1) last) failed (counted-stored shown n heap body p begun accepted stores failed at.counted b q at.is.block at.none (drawn_more kept) (length sorted) same_long emptied answer pays value ok refl) heap' (omega (arith, one))),
        )

        pub put_after : PutAfterStore shown r v (holding_of shown record_of width n heap' b q begun (accepted + 1) refused failed stores')
        put_after =
            let runs = runs_bag shown record_of width body in
            record {
              added = λ tell t. omega (
                arith,
                bag t,
                count_by-cons t r [],
                bag_stored at kept put (subst (λ v. PassTells shown v) (sym at.view) tell) t,
                count_by-append t heap'.items (runs_bag shown record_of width b),
                count_by-append t sorted runs,
                at.bag t,
                count_by-append t heap.items runs,
                ap (λ v. count_by t v.bag) at.view,
                count_by-cons t r v.bag,
              );
              size = omega (arith, one, size_stored at kept put, at.full, ap (λ v. v.size) at.view);
              accepted = ap (λ v. v.accepted + 1) at.view;
              same = ap (λ v. v.refused) at.view;
              sound = at.none;
              stored = one;
            }

      -- no run was stored, so the heap is as full as it was
      module _ (heap' : Contents R) (cap : heap'.cap ≡ heap.cap) (items : heap'.items ≡ sorted) where
        all : length heap'.items ≡ heap_of n
        all = ap length items ∙ at.long

        -- there were too few slots
        module _ (none_free : answer ≡ Err NoFreeBlock) (none : NoneFree (length sorted) body b (stock_of shown p) (stock_of shown q)) where
          dry : 0 < q.dry
          dry = let slots = none.slots.dry in omega (arith, slots)

          pub none_holds : IsPassing shown cmp record_of width n heap' b (Some q) begun accepted true failed stores'
          none_holds = (
            passed_stored at.is at.row at.pool kept heap' true failed cap (omega (arith, all)) (λ _. dry) (λ k h. absurd (not_both failed k at.none h)),
            (λ _. sound_refused at kept none heap' all),
            with_stores accepted failed heap' (counted-refused shown n heap body p begun accepted stores failed at.counted b q at.is.block at.none (drawn_more kept) (length sorted) same_long heap' answer pays none_free (ap length items)),
          )

          pub found_none : FoundNone v (holding_of shown record_of width n heap' b q begun accepted true failed stores')
          found_none =
              let new = holding_of shown record_of width n heap' b q begun accepted true failed stores' in
              let same_int = int at kept none in
              let same_ext = ext at kept none in
              let noted = kept.supply.ended dry in
              let runs = runs_bag shown record_of width in
              let stored = flat_map (records_in record_of width shown) in
              record {
                bag = λ t. omega (
                  arith,
                  count_by-append t heap'.items (runs b),
                  ap (count_by t) items,
                  at.bag t,
                  ap (λ l. count_by t (internal_items l ++ stored b.runs.external.items)) same_int,
                  ap (λ l. count_by t (internal_items body.runs.internal.items ++ stored l)) same_ext,
                  count_by-append t heap.items (runs body),
                  ap (λ v. count_by t v.bag) at.view,
                );
                noted = noted;
                few = subst (λ v. length q.stash * v.key.sizes.block < heap_of v.key.sizes + v.in_buffers) at.view (few_stash at kept none);
                rest = refused_holding v new (same_key heap' accepted true failed)
                    (omega (arith, all, at.full, ap (λ l. count_in l b.runs.external.items) same_int, ap (λ l. count_in body.runs.internal.items l) same_ext, ap (λ v. v.size) at.view))
                    (omega (arith, all, at.full, ap (λ v. v.in_heap) at.view))
                    (ap (λ l. length (internal_items l)) same_int ∙ ap (λ v. v.in_buffers) at.view)
                    (omega (arith, kept.kept.buffers, none.slots.buffers, ap (λ v. v.buffers) at.view))
                    noted (ap (λ v. v.accepted) at.view) refl (ap (λ v. v.failed) at.view);
              }

        -- a call of the slot with this number failed
        module _ (number : ℕ) (device : answer ≡ Err (Device number)) (fault : HasFailed number (slots_of shown b q)) (late : Option ℕ) (is_late : Some number ≡ late) where
          pub fault_holds : IsPassing shown cmp record_of width n heap' b (Some q) begun accepted refused late stores'
          fault_holds = subst (λ f. IsPassing shown cmp record_of width n heap' b (Some q) begun accepted refused f stores') is_late (
            passed_stored at.is at.row at.pool kept heap' refused (Some number) cap (omega (arith, all)) (λ r. kept.dry (at.is.ended r)) (λ k h. (subst (λ j. HasFailed j (slots_of shown b q)) (Some-injective number k h) fault, all)),
            (λ h. absurd (not_both (Some number) number h refl)),
            with_stores accepted (Some number) heap' (counted-failed shown n heap body p begun accepted stores failed at.counted b q at.is.block at.none (drawn_more kept) (length sorted) same_long heap' answer pays number device (Some number) (λ h. not_both (Some number) number h refl)),
          )

          pub met_fault : MetFault number v (holding_of shown record_of width n heap' b q begun accepted refused late stores')
          met_fault = subst (λ f. MetFault number v (holding_of shown record_of width n heap' b q begun accepted refused f stores')) is_late record { kept = refl; fault = fault; accepted = ap (λ v. v.accepted) at.view; refused = ap (λ v. v.refused) at.view; in_heap = omega (arith, all, at.full, ap (λ v. v.in_heap) at.view) }
