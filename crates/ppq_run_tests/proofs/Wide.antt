-- A body with wide lanes can store a run.
use Rattle.std.proofs.Common.{◌≡◌, ℕ, ◌-◌, ◌*◌, ◌<◌, ◌≤◌, ◌^◌, List, [], length, All, sym, ap, subst, arith}
use Rattle.std.specs.declared.cmp.Ordering.{Ordering}
use Rattle.std.specs.Cmp.{IsTotalOrder}
use Rattle.ppq_record.specs.Order.{Ascends}
use Rattle.ppq_record.specs.Bag.{front}
use Rattle.ppq_record.proofs.Fronts.{IsFront-front}
use Rattle.ppq_outside.specs.Shown.{Shown}
use Rattle.ppq_array.specs.Run.{Run, items_of}
use Rattle.ppq_array.specs.Supply.{Stock}
use Rattle.ppq_array.specs.Owner.{HasBlock}
use Rattle.ppq_array.specs.Holdings.{internal_items, internal_buffers, external_slots, RunHasBlock, HasSlots}
use Rattle.ppq_spill.specs.declared.body.PassBody.{PassBody}
use Rattle.ppq_spill.specs.Storing.{MayStore, RunsAscend}
use Rattle.ppq_run_tests.specs.Wide.{IsWideBody}

module _ {S R : Type 0} (shown : S → Shown) (width : ℕ) where
  pub wide_body_may_store : (n : ℕ) (body : PassBody S R) (stock : Stock) → IsWideBody body → stock.block ≡ 2 → n < 2 ^ 32 - 1 → MayStore shown width n body stock
  wide_body_may_store n body stock is same few =
      let none = is.no_internal in
      let no_slots : length (external_slots shown body.runs.external.items) ≡ 0 = ap (λ arrays. length (external_slots shown arrays)) is.no_external in
      let no_buffers : internal_buffers body.runs.internal.items ≡ 0 = ap internal_buffers none in
      let no_items : length (internal_items body.runs.internal.items) ≡ 0 = ap (λ rs. length (internal_items rs)) none in
      let no_run : length body.runs.internal.items ≡ 0 = ap length none in
      let no_array : length body.runs.external.items ≡ 0 = ap length is.no_external in
      record {
        size = record {
          some = subst (λ b. 1 ≤ b) (sym same) (omega arith);
          small = subst (λ b. b ≤ 65536) (sym same) (omega arith);
          idle = subst (λ b. All (HasBlock b) body.lanes.idle) (sym same) is.blocks;
          internal = subst (All (RunHasBlock stock.block)) (sym none) (λ k d h. absurd (omega arith));
          external = subst (All (HasSlots shown (stock.block * width))) (sym is.no_external) (λ k d h. absurd (omega arith));
        };
        buffer = is.some_idle;
        few_idle = is.few_idle;
        no_job = is.no_job;
        takes_back = record { slots = omega (arith, no_slots); buffers = omega (arith, no_buffers) };
        internal_room = omega (arith, no_run, is.internal_room);
        external_room = omega (arith, no_array, is.external_room);
        leaves = omega (arith, no_run, is.leaves);
        few = omega (arith, no_items, few);
      }

  pub list_ascends : (cmp : R → R → Ordering) (sorted : List R) (body : PassBody S R) (stock : Stock) → body.runs.internal.items ≡ [] → Ascends cmp sorted → RunsAscend cmp shown sorted body stock
  list_ascends cmp sorted body stock none up =
      record {
        run = λ _. up;
        internal = λ _. subst (All (λ (run : Run R). Ascends cmp (items_of run))) (sym none) (λ k d h. absurd (omega arith));
      }

-- a list that is its own front ascends
pub least_ascends : {R : Type 0} {cmp : R → R → Ordering} → IsTotalOrder cmp → (all : List R) (k : ℕ) → all ≡ front cmp all k → Ascends cmp all
least_ascends {R} {cmp} o all k e = subst (Ascends cmp) (sym e) (IsFront-front o all k).ascends
