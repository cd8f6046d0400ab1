-- A pass that is about to store its heap, and what it shows before and after.
use Rattle.std.proofs.Common.{◌≡◌, ℕ, ◌<◌, Bool, true, List, ◌∷◌, length, Option, Some, None, sym, ap, ap₂, ◌∙◌, subst, arith, refl}
use Rattle.std.specs.Prelude.{Result, Ok, Err, IsErr, OnOk, IsErrOf}
use Rattle.std.specs.declared.cmp.Ordering.{Ordering}
use Rattle.atomic_table.specs.Seated.{TableId}
use Rattle.ppq_pool.specs.ppq_record.Bag.{IsSameBag}
use Rattle.ppq_extract.specs.ppq_outside.Shown.{Shown}
use Rattle.ppq_extract.specs.ppq_budget.Sizes.{Numbers}
use Rattle.ppq_heap.specs.Heap.{Contents}
use Rattle.ppq_extract.specs.ppq_array.declared.berth.DeviceBlock.{DeviceBlock}
use Rattle.ppq_spill.specs.declared.body.PassBody.{PassBody}
use Rattle.ppq_pass.specs.declared.shared.Shared.{Shared}
use Rattle.ppq_pass.specs.declared.parts.PassParts.{PassParts}
use Rattle.ppq_pass.specs.Passed.{PassHolding, PassKey, key_of, holding_of, shown_holding}
use Rattle.ppq_pass.specs.PassState.{IsPassing, shared_of}
use Rattle.ppq_pass.specs.PassStore.{StoreKept}

-- one number is not kept where none is
pub not_both : (o : Option ℕ) (k : ℕ) → o ≡ None → o ≡ Some k → ⊥
not_both None k a b = cc
not_both (Some x) k a b = cc

module _ {T E : Type 0} where
  -- what holds on Ok, where the answer is that
  pub on_ok : {P : Type 0} (r : Result T E) (x : T) → r ≡ Ok x → OnOk r P → P
  on_ok (Ok v) x e p = p
  on_ok (Err f) x e p = cc

  pub matched : (r : Result T E) (e f : E) → r ≡ Err e → e ≡ f → IsErrOf r f
  matched r e f is same = let g : E → Result T E = λ x. Err x in is ∙ ap g same

  -- a heap with room takes a record
  pub has_room : {R : Type 0} (answer : Result T E) (most : ℕ) (x : R) (old new : List R) → length old < most → (IsErr answer → length old ≡ most) → OnOk answer (IsSameBag new (x ∷ old)) → IsSameBag new (x ∷ old)
  has_room (Ok v) most x old new room full added = added
  has_room (Err e) most x old new room full added = absurd (omega (arith, full refl))

module _ {S R : Type 0} (shown : S → Shown) (cmp : R → R → Ordering) (record_of : List ℕ → R) (width : ℕ) (n : Numbers) (heap : Contents R) (body : PassBody S R) where
  module _ (begun accepted : ℕ) (refused : Bool) (failed : Option ℕ) (stores : ℕ) (o : Option (PassParts S R)) (p : PassParts S R) (e : o ≡ Some p) where
    pub opened : IsPassing shown cmp record_of width n heap body o begun accepted refused failed stores → IsPassing shown cmp record_of width n heap body (Some p) begun accepted refused failed stores
    opened is = subst (λ (o : Option (PassParts S R)). IsPassing shown cmp record_of width n heap body o begun accepted refused failed stores) e is

    pub seen : (v : PassHolding S R) → shown_holding shown record_of width n heap body o begun accepted refused failed stores ≡ v → holding_of shown record_of width n heap body p begun accepted refused failed stores ≡ v
    seen v view = subst (λ (o : Option (PassParts S R)). shown_holding shown record_of width n heap body o begun accepted refused failed stores ≡ v) e view

module _ {S R : Type 0} {shown : S → Shown} {width records : ℕ} {shared : Shared S R} {a b : PassBody S R} {p q : PassParts S R} (kept : StoreKept shown width records shared a b p q) (row : p.row_seat.row ≡ shared.row) (pool : p.pool_seat.pool ≡ shared.pool) where
  -- the key stays
  pub key_stored : (n : Numbers) (begun : ℕ) → key_of n begun q.row_seat q.pool_seat ≡ key_of n begun p.row_seat p.pool_seat
  key_stored n begun =
      ap₂ (λ (r l : TableId). made r l q.row_seat.hand.items q.row_seat.hand.shares q.pool_seat.hand.shares) (kept.supply.row ∙ sym row) (kept.supply.pool ∙ sym pool)
      ∙ ap₂ (λ (xs : List (DeviceBlock S R)) (k : ℕ). made p.row_seat.row p.pool_seat.pool xs k q.pool_seat.hand.shares) kept.items kept.row_shares
      ∙ ap (λ (k : ℕ). made p.row_seat.row p.pool_seat.pool p.row_seat.hand.items p.row_seat.hand.shares k) kept.pool_shares
    where
      made : TableId → TableId → List (DeviceBlock S R) → ℕ → ℕ → PassKey S R
      made r l xs k j = record { row = r; pool = l; items = xs; row_shares = k; pool_shares = j; sizes = n; begun = begun }

-- the seats are of what is shared
pub of_shared : {S R : Type 0} (p : PassParts S R) (shared : Shared S R) → p.row_seat.row ≡ shared.row → p.pool_seat.pool ≡ shared.pool → shared_of p ≡ shared
of_shared {S = S} {R = R} p shared row pool = ap₂ made row pool
  where
    made : TableId → TableId → Shared S R
    made r l = record { row = r; pool = l }

-- two holdings with the same numbers differ in multiset, slots, stash, draws, numbers of buffers, note, steps, refusal and stores alone
pub refused_holding :
    {S R : Type 0} (old new : PassHolding S R) → new.key ≡ old.key → new.size ≡ old.size → new.in_heap ≡ old.in_heap → new.in_buffers ≡ old.in_buffers → new.buffers ≡ old.buffers → new.noted ≡ true → new.accepted ≡ old.accepted → new.refused ≡ true → new.failed ≡ old.failed
    → new ≡ record old { bag = new.bag; slots = new.slots; stash = new.stash; drawn = new.drawn; numbers = new.numbers; noted = true; steps = new.steps; refused = true; stores = new.stores }
refused_holding {S = S} {R = R} old new key size heap in_buffers buffers noted accepted refused failed =
    ap₂ (λ (k : PassKey S R) (s : ℕ). made k s new.in_heap new.in_buffers new.buffers new.noted new.accepted new.refused new.failed) key size
    ∙ ap₂ (λ (h m : ℕ). made old.key old.size h m new.buffers new.noted new.accepted new.refused new.failed) heap in_buffers
    ∙ ap₂ (λ (u : ℕ) (b : Bool). made old.key old.size old.in_heap old.in_buffers u b new.accepted new.refused new.failed) buffers noted
    ∙ ap₂ (λ (k : ℕ) (b : Bool). made old.key old.size old.in_heap old.in_buffers old.buffers true k b new.failed) accepted refused
    ∙ ap (λ (f : Option ℕ). made old.key old.size old.in_heap old.in_buffers old.buffers true old.accepted true f) failed
  where
    made : PassKey S R → ℕ → ℕ → ℕ → ℕ → Bool → ℕ → Bool → Option ℕ → PassHolding S R
    made k s h m u b a r f =
        record {
          key = k;
          bag = new.bag;
          size = s;
          in_heap = h;
          in_buffers = m;
          slots = new.slots;
          stash = new.stash;
          drawn = new.drawn;
          buffers = u;
          numbers = new.numbers;
          noted = b;
          steps = new.steps;
          accepted = a;
          refused = r;
          failed = f;
          stores = new.stores;
        }
