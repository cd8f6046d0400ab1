-- A pass whose heap gets one record more, and what is known of every pass.
use Rattle.std.proofs.Common.{◌≡◌, ◌≢◌, ℕ, ◌+◌, ◌<◌, ◌≤◌, ◌^◌, Bool, List, length, Option, Some, None, All, refl, sym, ap, ap₂, ◌∙◌, subst, arith}
use Rattle.std.specs.Prelude.{Result, Ok, Err, IsErr}
use Rattle.std.specs.declared.cmp.Ordering.{Ordering}
use Rattle.ppq_pool.specs.ppq_table.Sums.{times}
use Rattle.ppq_extract.specs.ppq_outside.Shown.{Shown}
use Rattle.ppq_extract.specs.ppq_budget.Sizes.{Numbers, heap_of}
use Rattle.ppq_heap.specs.Heap.{Contents}
use Rattle.ppq_spill.specs.declared.body.PassBody.{PassBody}
use Rattle.ppq_pool.specs.Seats.{count_of}
use Rattle.ppq_pass.specs.declared.parts.PassParts.{PassParts}
use Rattle.ppq_pass.specs.Passed.{PassHolding, IsKnown, holding_of, shown_holding, with_one}
use Rattle.ppq_pass.specs.PassState.{IsPassed, IsPassing}
use Rattle.ppq_pass.proofs.PassKeeps.{size_few}
use Rattle.ppq_pass.proofs.PassCounted.{counted-put}

-- a heap that took a record was not full
pub was_not_full : {T E : Type 0} (r : Result T E) (x : T) (a b : ℕ) → r ≡ Ok x → (a ≡ b → IsErr r) → a ≤ b → a < b
was_not_full {T = T} {E = E} (Ok v) x a b e full le = let ne : a ≢ b = λ same. absurd (not_err T E v (full same)) in omega (arith, ne, le)
  where
    not_err : (T E : Type 0) (v : T) → IsErr {T = T} {E = E} (Ok v) → ⊥
    not_err T E v h = cc
was_not_full (Err f) x a b e full le = cc

-- and one that did not was full
pub was_full : {T E P : Type 0} {r : Result T E} {e : E} → r ≡ Err e → (IsErr r → P) → P
was_full {T} {E} {P} {r} {e} is full = full (subst (λ (r : Result T E). IsErr r) (sym is) refl)

module _ {S R : Type 0} (shown : S → Shown) (cmp : R → R → Ordering) (record_of : List ℕ → R) (width : ℕ) (n : Numbers) (heap : Contents R) (body : PassBody S R) (begun accepted : ℕ) (refused : Bool) (stores : ℕ) where
  abbrev Holds : Option (PassParts S R) → Option ℕ → Type 0
  Holds o failed = IsPassing shown cmp record_of width n heap body o begun accepted refused failed stores

  -- no slot failed of a pass whose heap has room
  not_failed : (p : PassParts S R) (failed : Option ℕ) → IsPassed shown width n heap body p refused failed → length heap.items < heap_of n → failed ≡ None
  not_failed p None is room = refl
  not_failed p (Some k) is room = absurd (omega (arith, room, (is.fault k refl).1))

  -- so it can count one record more
  pub accepted_few : (o : Option (PassParts S R)) (failed : Option ℕ) → Holds o failed → length heap.items < heap_of n → accepted < 2 ^ 63
  accepted_few (Some p) failed is room =
      let sound = is.1 (not_failed p failed is.0 room) in
      omega (arith, sound.counted, size_few is.0 sound)
  accepted_few None failed is room = absurd is

  pub within_heap : (o : Option (PassParts S R)) (failed : Option ℕ) → Holds o failed → (length heap.items ≤ heap_of n) × (heap.cap ≡ heap_of n)
  within_heap (Some p) failed is = (is.0.in_heap, is.0.cap)
  within_heap None failed is = absurd is

  -- one record more
  pub pushed :
      (o : Option (PassParts S R)) (failed : Option ℕ) → Holds o failed → (heap' : Contents R) → heap'.cap ≡ heap.cap → length heap'.items ≡ length heap.items + 1 → length heap.items < heap_of n
      → IsPassing shown cmp record_of width n heap' body o begun (accepted + 1) refused failed stores
  pushed (Some p) failed is heap' cap more room =
      let was = is.0 in
      let none = not_failed p failed was room in (
        record {
          range = was.range;
          supply = was.supply;
          block = was.block;
          cap = cap ∙ was.cap;
          in_heap = omega (arith, more, room);
          few_buffers = was.few_buffers;
          few_slots = was.few_slots;
          slots = was.slots;
          untold = was.untold;
          writes = was.writes;
          buffers = was.buffers;
          size = was.size;
          takes_back = was.takes_back;
          no_job = was.no_job;
          two = was.two;
          internal_room = was.internal_room;
          external_room = was.external_room;
          leaves = was.leaves;
          ended = was.ended;
          fault = λ k h. absurd (omega (arith, room, (was.fault k h).1));
        },
        (λ none.
            let sound = is.1 none in
            record {
              quiet = sound.quiet;
              internal = sound.internal;
              external = sound.external;
              ascend = sound.ascend;
              rise = sound.rise;
              counted = omega (arith, more, sound.counted);
              some = λ _. omega (arith, more);
              stash = omega (arith, more, sound.stash);
              whole = λ r. omega (arith, more, sound.whole r);
            }),
        counted-put shown n heap body p begun accepted stores failed is.2 heap' more,
      )
  pushed None failed is heap' cap more room = absurd is

  -- the heap is as it was
  pub same_heap : (o : Option (PassParts S R)) (failed : Option ℕ) → Holds o failed → (heap' : Contents R) → heap'.items ≡ heap.items → heap'.cap ≡ heap.cap → IsPassing shown cmp record_of width n heap' body o begun accepted refused failed stores
  same_heap o failed is heap' items cap = subst (λ (h : Contents R). IsPassing shown cmp record_of width n h body o begun accepted refused failed stores) (sym (ap₂ contents items cap)) is
    where
      contents : List R → ℕ → Contents R
      contents items cap = record { items = items; cap = cap }

  -- what it shows then
  pub shows_one :
      (o : Option (PassParts S R)) (failed : Option ℕ) → Holds o failed → (heap' : Contents R) → length heap'.items ≡ length heap.items + 1 → (v : PassHolding S R) → shown_holding shown record_of width n heap body o begun accepted refused failed stores ≡ v
      → shown_holding shown record_of width n heap' body o begun (accepted + 1) refused failed stores ≡ with_one v (shown_holding shown record_of width n heap' body o begun (accepted + 1) refused failed stores).bag
  shows_one (Some p) failed is heap' more v view =
      let now = holding_of shown record_of width n heap' body p begun (accepted + 1) refused failed stores in
      let was = holding_of shown record_of width n heap body p begun accepted refused failed stores in
      let size : now.size ≡ was.size + 1 = omega (arith, more) in
      subst (λ (w : PassHolding S R). now ≡ with_one w now.bag) view (ap₂ (λ (k m : ℕ). record now { size = k; in_heap = m }) size more)
  shows_one None failed is heap' more v view = absurd is

  -- the fault that it shows is the one that it met
  pub shows_failed : (o : Option (PassParts S R)) (failed : Option ℕ) → Holds o failed → (v : PassHolding S R) → shown_holding shown record_of width n heap body o begun accepted refused failed stores ≡ v → v.failed ≡ failed
  shows_failed (Some p) failed is v view = ap (λ v. v.failed) (sym view)
  shows_failed None failed is v view = absurd is

  -- what is known of a pass
  pub known_of : (o : Option (PassParts S R)) (failed : Option ℕ) → Holds o failed → (v : PassHolding S R) → shown_holding shown record_of width n heap body o begun accepted refused failed stores ≡ v → IsKnown v
  known_of (Some p) failed is v view =
      subst (λ (w : PassHolding S R). IsKnown w) view record {
        range = is.0.range;
        in_heap = is.0.in_heap;
        slots = is.0.slots;
        buffers = is.0.buffers ∙ ap (λ (l : List ℕ). length l + 2) is.0.supply.numbers_are;
        numbers = subst (All (λ i. i < count_of p.pool_seat.pool)) is.0.supply.numbers_are is.0.supply.below;
        each_once = λ i. subst (λ (l : List ℕ). times i l ≤ 1) is.0.supply.numbers_are (is.0.supply.each_once i);
        pool = is.0.few_buffers;
        quiet = λ none. (is.1 none).quiet;
        counted = λ none. (is.1 none).counted;
        noted = λ r. is.0.supply.ended (is.0.ended r);
        full = λ r none. (is.1 none).whole r;
        fault = is.0.fault;
      }
  known_of None failed is v view = absurd is
