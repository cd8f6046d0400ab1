-- A pass whose full heap was sorted, to be stored.
use Rattle.std.proofs.Common.{◌≡◌, ℕ, Bool, List, length, Option, Some, None, sym, ap, ◌∙◌, subst}
use Rattle.std.specs.Prelude.{count_by}
use Rattle.std.specs.declared.cmp.Ordering.{Ordering}
use Rattle.std.specs.Cmp.{IsTotalOrder}
use Rattle.ppq_pool.specs.ppq_record.Order.{Ascends, is_before}
use Rattle.ppq_pool.specs.ppq_record.Bag.{IsSameBag, ascending}
use Rattle.ppq_pool.proofs.ppq_record.Order.{IsSameBag-length, in_order-same_bag}
use Rattle.ppq_pool.proofs.ppq_record.Fronts.{ranks}
use Rattle.ppq_extract.specs.ppq_outside.Shown.{Shown}
use Rattle.ppq_extract.specs.ppq_budget.Sizes.{Numbers, heap_of}
use Rattle.ppq_heap.specs.Heap.{Contents}
use Rattle.ppq_spill.specs.declared.body.PassBody.{PassBody}
use Rattle.ppq_pass.specs.declared.shared.Shared.{Shared}
use Rattle.ppq_pass.specs.declared.parts.PassParts.{PassParts}
use Rattle.ppq_pass.specs.Passed.{PassHolding, IsOf, holding_of, shown_holding}
use Rattle.ppq_pass.specs.PassState.{IsPassed, IsSoundPass, IsPassCounted, IsPassing}
use Rattle.ppq_pass.proofs.PassOpened.{opened, seen}

-- what is known of a pass that shows as `v` where its full heap was sorted, to be stored
pub record AtStore {S R : Type 0} (shown : S → Shown) (cmp : R → R → Ordering) (record_of : List ℕ → R) (width : ℕ) (n : Numbers) (heap : Contents R) (body : PassBody S R) (p : PassParts S R) (begun accepted : ℕ) (refused : Bool) (failed : Option ℕ) (stores : ℕ) (v : PassHolding S R) (shared : Shared S R) (sorted : List R) : Type 0 where
  pub is : IsPassed shown width n heap body p refused None
  pub sound : IsSoundPass shown cmp record_of width n heap body p begun accepted refused
  pub counted : IsPassCounted shown n heap body p begun accepted stores failed
  pub view : holding_of shown record_of width n heap body p begun accepted refused failed stores ≡ v
  pub none : failed ≡ None
  pub row : p.row_seat.row ≡ shared.row
  pub pool : p.pool_seat.pool ≡ shared.pool
  pub full : length heap.items ≡ heap_of n
  pub long : length sorted ≡ heap_of n
  pub bag : IsSameBag sorted heap.items
  pub up : Ascends cmp sorted

pub at_store :
    {S R : Type 0} (shown : S → Shown) (cmp : R → R → Ordering) (record_of : List ℕ → R) (width : ℕ) (n : Numbers) (heap : Contents R) (body : PassBody S R) (begun accepted : ℕ) (refused : Bool) (failed : Option ℕ) (stores : ℕ) (o : Option (PassParts S R)) (p : PassParts S R) → o ≡ Some p
    → IsTotalOrder cmp → IsPassing shown cmp record_of width n heap body o begun accepted refused failed stores → (v : PassHolding S R) → shown_holding shown record_of width n heap body o begun accepted refused failed stores ≡ v
    → (shared : Shared S R) → IsOf shared v → v.failed ≡ None → v.in_heap ≡ heap_of v.key.sizes → (sorted given : List R) → sorted ≡ given → given ≡ ascending cmp heap.items → Ascends cmp given
    → AtStore shown cmp record_of width n heap body p begun accepted refused failed stores v shared sorted
at_store {S = S} {R = R} shown cmp record_of width n heap body begun accepted refused failed stores o p e order is v view shared of sound full sorted given same asc up =
    let view' = seen shown cmp record_of width n heap body begun accepted refused failed stores o p e v view in
    let none : failed ≡ None = ap (λ v. v.failed) view' ∙ sound in
    let both = opened shown cmp record_of width n heap body begun accepted refused failed stores o p e is in
    let all : length heap.items ≡ heap_of n = subst (λ (v : PassHolding S R). v.in_heap ≡ heap_of v.key.sizes) (sym view') full in
    let bag : IsSameBag sorted heap.items = λ t. ap (count_by t) (same ∙ asc) ∙ in_order-same_bag (is_before cmp) (ranks order) heap.items t in
    record {
      is = subst (λ (f : Option ℕ). IsPassed shown width n heap body p refused f) none both.0;
      sound = both.1 none;
      counted = both.2;
      view = view';
      none = none;
      row = ap (λ v. v.key.row) view' ∙ of.row;
      pool = ap (λ v. v.key.pool) view' ∙ of.pool;
      full = all;
      long = IsSameBag-length sorted heap.items bag ∙ all;
      bag = bag;
      up = subst (Ascends cmp) (sym same) up;
    }
