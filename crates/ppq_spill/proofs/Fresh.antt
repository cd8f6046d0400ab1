-- A new body can store a run.
use Rattle.std.proofs.Common.{◌≡◌, ℕ, ◌-◌, ◌*◌, ◌<◌, ◌≤◌, ◌^◌, [], ◌∷◌, length, All, sym, ap, subst, arith}
use Rattle.std.specs.declared.cmp.Ordering.{Ordering}
use Rattle.ppq_fetch.specs.ppq_record.Order.{Ascends}
use Rattle.ppq_fetch.specs.ppq_outside.Shown.{Shown}
use Rattle.ppq_fetch.specs.ppq_array.Run.{Run, items_of}
use Rattle.ppq_fetch.specs.ppq_array.Supply.{Stock}
use Rattle.ppq_fetch.specs.ppq_array.Owner.{HasBlock}
use Rattle.ppq_fetch.specs.ppq_array.Holdings.{internal_items, internal_buffers, external_slots, RunHasBlock, HasSlots}
use Rattle.ppq_spill.specs.declared.body.PassBody.{PassBody}
use Rattle.ppq_spill.specs.Body.{IsNewBody}
use Rattle.ppq_spill.specs.Storing.{MayStore, RunsAscend}

module _ {S R : Type 0} (shown : S → Shown) (width : ℕ) where
  pub new_body_may_store :
      (n block internal external : ℕ) (body : PassBody S R) (stock : Stock) → IsNewBody block internal external body → 1 ≤ block → block ≤ 65536 → stock.block ≡ block → 0 < internal → 0 < external → n < 2 ^ 32 - 1
      → MayStore shown width n body stock
  new_body_may_store n block internal external body stock is some small same i e few =
      let none = is.no_internal in
      let no_slots : length (external_slots shown body.runs.external.items) ≡ 0 = ap (λ arrays. length (external_slots shown arrays)) is.no_external in
      let no_buffers : internal_buffers body.runs.internal.items ≡ 0 = ap internal_buffers none in
      let no_items : length (internal_items body.runs.internal.items) ≡ 0 = ap (λ rs. length (internal_items rs)) none in
      let no_run : length body.runs.internal.items ≡ 0 = ap length none in
      let no_array : length body.runs.external.items ≡ 0 = ap length is.no_external in
      record {
        size = record {
          some = subst (λ b. 1 ≤ b) (sym same) some;
          small = subst (λ b. b ≤ 65536) (sym same) small;
          idle = subst (λ b. All (HasBlock b) body.lanes.idle) (sym same) is.blocks;
          internal = subst (All (RunHasBlock stock.block)) (sym none) (λ k d h. absurd (omega arith));
          external = subst (All (HasSlots shown (stock.block * width))) (sym is.no_external) (λ k d h. absurd (omega arith));
        };
        buffer = omega (arith, is.two);
        few_idle = omega (arith, is.two);
        no_job = is.no_job;
        takes_back = record { slots = omega (arith, no_slots); buffers = omega (arith, no_buffers) };
        internal_room = omega (arith, no_run, is.internal_room, i);
        external_room = omega (arith, no_array, is.external_room, e);
        leaves = omega (arith, no_run, is.leaves);
        few = omega (arith, no_items, few);
      }

  pub one_ascends : (cmp : R → R → Ordering) (x : R) (body : PassBody S R) (stock : Stock) → body.runs.internal.items ≡ [] → RunsAscend cmp shown (x ∷ []) body stock
  one_ascends cmp x body stock none =
      record {
        run = λ _. (tt, tt);
        internal = λ _. subst (All (λ (run : Run R). Ascends cmp (items_of run))) (sym none) (λ k d h. absurd (omega arith));
      }
