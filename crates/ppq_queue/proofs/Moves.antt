-- What runs keep, and what follows from an answer.
use Rattle.std.proofs.Common.{◌≡◌, ℕ, ◌+◌, ◌*◌, ◌≤◌, List, [], All, length, refl, sym, ap, ◌∙◌, arith, inl, inr}
use Rattle.std.specs.Prelude.{Result, Ok, Err, OnOk, IsErrOf}
use Rattle.ppq_extract.specs.ppq_array.declared.store_fault.StoreFault.{StoreFault}
use Rattle.ppq_extract.specs.ppq_array.declared.store_fault.StoreFault.TheVariants.{NoFreeBlock, Device}
use Rattle.std.specs.declared.cmp.Ordering.{Ordering}
use Rattle.ppq_extract.specs.ppq_outside.Shown.{Shown, AllTell}
use Rattle.ppq_extract.specs.ppq_budget.Sizes.{Numbers}
use Rattle.ppq_heap.specs.ppq_record.Bag.{IsSameBag}
use Rattle.ppq_heap.proofs.ppq_record.Order.{Each-weaker, Each-same_bag}
use Rattle.ppq_heap.specs.ppq_record.Order.{Le, is_before}
use Rattle.ppq_extract.specs.ppq_fetch.Taking.{NoneAfter}
use Rattle.std.specs.List.{AllByRecursion as Each}
use Rattle.ppq_extract.specs.ppq_array.Supply.{Stock}
use Rattle.ppq_extract.specs.ppq_array.Owner.{HasBlock}
use Rattle.ppq_extract.specs.ppq_array.Holdings.{external_buffers, CanTakeBack}
use Rattle.ppq_extract.specs.ppq_fetch.Fetching.{fronts_in}
use Rattle.ppq_spill.specs.declared.body.PassBody.{PassBody}
use Rattle.ppq_spill.proofs.SameSlots.{SameSlots-refl, SameSlots-trans}
use Rattle.ppq_queue.specs.Resting.{BodyKept, IsRestingRun, IsRestingArray, AllRise, AtRest, IsShort, slots_of, odd_in}

module _ {S R : Type 0} (shown : S → Shown) where
  pub kept-refl : (a : PassBody S R) (s : Stock) → BodyKept shown a a s s
  kept-refl a s =
      record {
        slots = SameSlots-refl (slots_of shown a s);
        tells = ((λ t. t), (λ t. t));
        writes = omega arith;
        held = refl;
        all_slots = refl;
        all_buffers = refl;
        block = refl;
        internal_room = refl;
        external_room = refl;
        leaves = refl;
      }

  pub kept-trans : (a b c : PassBody S R) (s t u : Stock) → BodyKept shown a b s t → BodyKept shown b c t u → BodyKept shown a c s u
  kept-trans a b c s t u h k =
      record {
        slots = SameSlots-trans (slots_of shown a s) (slots_of shown b t) (slots_of shown c u) h.slots k.slots;
        tells = ((λ x. k.tells.0 (h.tells.0 x)), (λ x. h.tells.1 (k.tells.1 x)));
        writes = omega (arith, h.writes, k.writes);
        held = omega (arith, h.held, k.held);
        all_slots = k.all_slots ∙ h.all_slots;
        all_buffers = k.all_buffers ∙ h.all_buffers;
        block = k.block ∙ h.block;
        internal_room = k.internal_room ∙ h.internal_room;
        external_room = k.external_room ∙ h.external_room;
        leaves = k.leaves ∙ h.leaves;
      }

module _ {S R : Type 0} {shown : S → Shown} {cmp : R → R → Ordering} {record_of : List ℕ → R} {width : ℕ} {n : Numbers} {a b : PassBody S R} {s t : Stock} where
  -- runs rest after a step that lost no buffer and no slot, if each of them rests
  pub rest-moved :
      AtRest shown cmp record_of width n a s → BodyKept shown a b s t
      → All (HasBlock t.block) b.lanes.idle → b.lanes.jobs.items ≡ [] → length b.lanes.batch.items ≡ length a.lanes.batch.items → CanTakeBack shown t b.runs.internal.items b.runs.external.items
      → All (IsRestingRun t.block) b.runs.internal.items → All (IsRestingArray shown width t.block) b.runs.external.items → length b.lanes.idle + external_buffers b.runs.external.items ≡ length a.lanes.idle + external_buffers a.runs.external.items
      → external_buffers b.runs.external.items ≤ fronts_in b.runs.external.items + n.workers → fronts_in b.runs.external.items ≤ 64 → odd_in t.block b.runs.external.items ≤ 65 → (AllTell (slots_of shown b t) → AllRise shown cmp record_of width b)
      → AtRest shown cmp record_of width n b t
  rest-moved rest kept idle no_job batch takes_back internal external buffers bounded fronts few rise =
      record {
        block = kept.block ∙ rest.block;
        idle = idle;
        internal = internal;
        external = external;
        takes_back = takes_back;
        no_job = no_job;
        batch = batch ∙ rest.batch ∙ ap (λ k. n.workers * k) (sym kept.block);
        buffers = buffers ∙ rest.buffers;
        held = omega (arith, kept.held, rest.held, ap length rest.no_job, ap length no_job);
        bounded = bounded;
        fronts = fronts;
        few = few;
        pool = kept.all_buffers ∙ rest.pool;
        slots = kept.all_slots ∙ rest.slots;
        internal_room = omega (arith, rest.internal_room, kept.internal_room);
        external_room = omega (arith, rest.external_room, kept.external_room);
        leaves = omega (arith, rest.leaves, kept.leaves);
        rise = rise;
      }

-- what no record of a list is after stays so in another order
pub none_after-same : {R : Type 0} (cmp : R → R → Ordering) (xs ys vs : List R) → IsSameBag ys vs → NoneAfter cmp xs ys → NoneAfter cmp xs vs
none_after-same cmp xs ys vs same e = Each-weaker (λ a. Each (Le (is_before cmp) a) ys) (λ a. Each (Le (is_before cmp) a) vs) (λ a f. Each-same_bag (λ b. is_before cmp b a) ys vs same f) xs e

-- more records are no easier to store
pub short-more : (n : Numbers) (free records more : ℕ) → records ≤ more → IsShort n free records → IsShort n free more
short-more n free records more h (inl few) = inl few
short-more n free records more h (inr few) = inr (omega arith)

module _ {T E : Type 0} where
  -- what follows from what holds on Ok
  pub ok-map : {P Q : Type 0} (r : Result T E) → (P → Q) → OnOk r P → OnOk r Q
  ok-map (Ok v) f p = f p
  ok-map (Err e) f p = tt

  pub ok-map3 : {P Q V W : Type 0} (r : Result T E) → (P → Q → V → W) → OnOk r P → OnOk r Q → OnOk r V → OnOk r W
  ok-map3 (Ok v) f p q w = f p q w
  ok-map3 (Err e) f p q w = tt

  pub ok-map2 : {P Q V : Type 0} (r : Result T E) → (P → Q → V) → OnOk r P → OnOk r Q → OnOk r V
  ok-map2 (Ok v) f p q = f p q
  ok-map2 (Err e) f p q = tt

-- what holds on each answer of a store
pub any_answer : {T : Type 0} (P : Type 0) (r : Result T StoreFault) → OnOk r P → (IsErrOf r NoFreeBlock → P) → ((number : ℕ) → IsErrOf r (Device number) → P) → P
any_answer P (Ok v) ok none device = ok
any_answer P (Err NoFreeBlock) ok none device = none refl
any_answer P (Err (Device number)) ok none device = device number refl
