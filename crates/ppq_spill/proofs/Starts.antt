-- 8 arrays that are to be merged: there is all that their merge asks for.
use Rattle.std.proofs.Common.{◌≡◌, ℕ, zero, suc, ◌+◌, ◌-◌, ◌*◌, ◌<◌, ◌≤◌, ◌^◌, List, [], ◌∷◌, ◌++◌, length, take, drop, sum_by, All, refl, sym, ap, ◌∙◌, subst, arith, length-append, take-append-drop, IsPermutation}
use Rattle.std.proofs.Math.Nat.{add-mul, suc-mul}
use Rattle.std.proofs.lemmas.Nat.{mul-le}
use Rattle.std.proofs.lemmas.List.{length-drop}
use Rattle.std.proofs.lemmas.List.Concat.{flat_map-cons}
use Rattle.std.proofs.lemmas.List.Sums.{sum_by-cons, sum_by-append}
use Rattle.std.proofs.lemmas.List.Sorted.{sum_by-IsPermutation, All-permutation}
use Rattle.std.proofs.lemmas.List.Elements.{All-head, All-tail, All-nil, All-weaker, recursion_from_All}
use Rattle.ppq_fetch.specs.ppq_block.Block.{Block, all_items}
use Rattle.ppq_fetch.specs.ppq_outside.Shown.{Shown}
use Rattle.ppq_fetch.specs.ppq_lane.declared.lanes.Lanes.{Lanes}
use Rattle.ppq_fetch.specs.ppq_array.declared.berth.DeviceBlock.{DeviceBlock}
use Rattle.ppq_fetch.specs.ppq_array.Run.{Run, run_of, items_of, buffers_of}
use Rattle.ppq_fetch.specs.ppq_array.External.{External, external, size_of, counts, IsPacked}
use Rattle.ppq_fetch.specs.ppq_array.Supply.{Stock}
use Rattle.ppq_fetch.specs.ppq_array.Owner.{HasBlock, HasSlot}
use Rattle.ppq_fetch.specs.ppq_array.Holdings.{external_slots, external_buffers, RunHasBlock, HasSlots}
use Rattle.ppq_fetch.proofs.ppq_array.Noted.{all_left, all_right}
use Rattle.ppq_fetch.specs.Fetching.{IsFitting, blocks_in, fronts_in, one_if_some}
use Rattle.ppq_spill.specs.Leveling.{HasLevel, EightOf, MayLevel, records_count}
use Rattle.ppq_spill.specs.Moves.{DrewSlots}
use Rattle.ppq_spill.specs.Making.{table, BetweenBatches, AllFit, loaded_count}
use Rattle.ppq_spill.proofs.Blocks.{counts_fit, packed_full}
use Rattle.ppq_spill.proofs.Fetches.{parts_counted, slots_counted, stored_count}

-- the last 8 arrays are the ones that are merged
pub eight_last :
    {S R : Type 0} (level : ℕ) (old now : List (External S R)) → IsPermutation old now → 8 ≤ length now → All (HasLevel level) (drop (length now - 8) now) → EightOf level old (drop (length now - 8) now) (take (length now - 8) now)
eight_last level old now moved eight levels =
    record {
      parted = subst (IsPermutation old) (sym (take-append-drop (length now - 8) now)) moved;
      eight = (let e : length (drop (length now - 8) now) ≡ 8 = omega (arith, length-drop (length now - 8) now, eight) in e);
      levels = levels;
    }

-- of 8 arrays and the others
module _ {S R : Type 0} (level : ℕ) (old inputs others : List (External S R)) (is : EightOf level old inputs others) where
  pub eight_sum : (f : External S R → ℕ) → sum_by f old ≡ sum_by f others + sum_by f inputs
  eight_sum f = sym (sum_by-IsPermutation f old (others ++ inputs) is.parted) ∙ sum_by-append f others inputs

  pub eight_all : (P : External S R → Type 0) → All P old → All P inputs
  eight_all P a = all_right P others inputs (All-permutation P old (others ++ inputs) is.parted a)

  pub others_all : (P : External S R → Type 0) → All P old → All P others
  others_all P a = all_left P others inputs (All-permutation P old (others ++ inputs) is.parted a)

front_none : (X : Type 0) (n : ℕ) → one_if_some (drop {A = X} n []) ≡ 0
front_none X zero = refl
front_none X (suc n) = refl

-- an array with a record loaded has a buffer
one_front : {R : Type 0} (live spent : List (Block R)) (taken : ℕ) → one_if_some (drop taken (all_items live)) ≤ length (spent ++ live)
one_front {R} [] spent taken = omega (arith, front_none R taken)
one_front {R} (b ∷ bs) spent taken = omega (arith, length-append spent (b ∷ bs), at_most (drop taken (all_items (b ∷ bs))))
  where
    at_most : (xs : List R) → one_if_some xs ≤ 1
    at_most [] = omega arith
    at_most (x ∷ xs) = omega arith

pub fronts_buffers : {S R : Type 0} (xs : List (External S R)) → fronts_in xs ≤ external_buffers xs
fronts_buffers [] = omega arith
fronts_buffers {S} {R} (x ∷ xs) =
    omega (
      arith,
      sum_by-cons (λ (a : External S R). one_if_some (items_of a.loaded)) x xs,
      sum_by-cons (λ (a : External S R). length (buffers_of a.loaded)) x xs,
      one_front x.loaded.live x.loaded.spent x.loaded.taken,
      fronts_buffers xs,
    )

-- what buffers hold
length-all_items_cons : {R : Type 0} (b : Block R) (bs : List (Block R)) → length (all_items (b ∷ bs)) ≡ length b.items + length (all_items bs)
length-all_items_cons {R} b bs = ap length (flat_map-cons (λ (b : Block R). b.items) b bs) ∙ length-append b.items (all_items bs)

live_fit : {R : Type 0} (block : ℕ) (live : List (Block R)) → All (HasBlock block) live → All IsFitting live → length (all_items live) ≤ length live * block
live_fit block [] has fit = omega arith
live_fit {R} block (b ∷ bs) has fit =
    omega (arith, length-all_items_cons b bs, suc-mul (length bs) block, All-head (HasBlock {R = R} block) b bs has, All-head (IsFitting {R = R}) b bs fit, live_fit block bs (All-tail (HasBlock {R = R} block) b bs has) (All-tail (IsFitting {R = R}) b bs fit))

-- and what a run in them has
pub run_fit : {R : Type 0} (block : ℕ) (run : Run R) → RunHasBlock block run → All IsFitting (buffers_of run) → length (items_of run) ≤ length (buffers_of run) * block
run_fit {R} block run has fit =
    let live = live_fit block run.live (all_right (HasBlock {R = R} block) run.spent run.live has) (all_right (IsFitting {R = R}) run.spent run.live fit) in
    let more : length run.live * block ≤ length (buffers_of run) * block = mul-le (length run.live) block (length (buffers_of run)) block (omega (arith, length-append run.spent run.live)) (omega arith) in
    omega (arith, live, more, length-drop run.taken (all_items run.live))

pub loaded_fit : {S R : Type 0} (block : ℕ) (xs : List (External S R)) → All (λ (a : External S R). RunHasBlock block a.loaded) xs → All (λ (a : External S R). All IsFitting (buffers_of a.loaded)) xs → loaded_count xs ≤ external_buffers xs * block
loaded_fit block [] has fit = omega arith
loaded_fit {S} {R} block (x ∷ xs) has fit =
    let P : External S R → Type 0 = λ a. RunHasBlock block a.loaded in
    let Q : External S R → Type 0 = λ a. All IsFitting (buffers_of a.loaded) in
    let size : External S R → ℕ = λ a. length (buffers_of a.loaded) in
    let sum : external_buffers (x ∷ xs) * block ≡ length (buffers_of x.loaded) * block + external_buffers xs * block = ap (λ k. k * block) (sum_by-cons size x xs) ∙ add-mul (length (buffers_of x.loaded)) (external_buffers xs) block in
    omega (arith, sum, sum_by-cons (λ (a : External S R). length (items_of a.loaded)) x xs, run_fit block x.loaded (All-head P x xs has) (All-head Q x xs fit), loaded_fit block xs (All-tail P x xs has) (All-tail Q x xs fit))

pub stored_fit : {S R : Type 0} (block : ℕ) (xs : List (External S R)) → All (λ (a : External S R). AllFit block a.stored) xs → stored_count xs ≤ blocks_in xs * block
stored_fit block [] fit = omega arith
stored_fit {S} {R} block (x ∷ xs) fit =
    let P : External S R → Type 0 = λ a. AllFit block a.stored in
    let size : External S R → ℕ = λ a. length a.stored in
    let sum : blocks_in (x ∷ xs) * block ≡ length x.stored * block + blocks_in xs * block = ap (λ k. k * block) (sum_by-cons size x xs) ∙ add-mul (length x.stored) (blocks_in xs) block in
    omega (arith, sum, sum_by-cons (λ (a : External S R). counts a.stored) x xs, counts_fit block x.stored (All-head P x xs fit), stored_fit block xs (All-tail P x xs fit))

module _ {S R : Type 0} (shown : S → Shown) (width workers level : ℕ) where
  -- all records of the 8 fit in as many blocks as they have
  pub records_fit : (block : ℕ) (inputs : List (External S R)) → All (λ (a : External S R). a.lifted ≡ []) inputs → All (λ (a : External S R). RunHasBlock block a.loaded) inputs → All (λ (a : External S R). All IsFitting (buffers_of a.loaded)) inputs → All (λ (a : External S R). IsPacked block a.stored) inputs
      → records_count inputs ≤ (external_buffers inputs + blocks_in inputs) * block
  records_fit block inputs lifted loaded fitting packed =
      let fit = All-weaker (λ (a : External S R). IsPacked block a.stored) (λ (a : External S R). AllFit block a.stored) (λ a p. p.last) inputs packed in
      omega (
        arith,
        parts_counted inputs (recursion_from_All (λ (a : External S R). a.lifted ≡ []) inputs lifted),
        loaded_fit block inputs loaded fitting,
        stored_fit block inputs fit,
        add-mul (external_buffers inputs) (blocks_in inputs) block,
      )

  -- a bound on the loaded blocks of the 8
  pub eight_bounded : (old inputs others : List (External S R)) → EightOf level old inputs others → external_buffers old ≤ fronts_in old + workers → external_buffers inputs ≤ fronts_in inputs + workers
  eight_bounded old inputs others is bounded =
      omega (
        arith,
        bounded,
        eight_sum level old inputs others is (λ (a : External S R). length (buffers_of a.loaded)),
        eight_sum level old inputs others is (λ (a : External S R). one_if_some (items_of a.loaded)),
        fronts_buffers others,
      )

  pub ready_first :
      (next : ℕ) (old inputs others : List (External S R)) (lanes : Lanes (DeviceBlock S R) R) (stock stock1 : Stock) (berths : List (DeviceBlock S R))
      → MayLevel shown width workers old lanes stock → EightOf level old inputs others → DrewSlots shown width stock stock1 berths → length berths ≡ external_buffers inputs
      → BetweenBatches shown width workers (table inputs lanes.idle (external next (run_of [] 0 []) [] []) berths stock1)
  ready_first next old inputs others lanes stock stock1 berths may is drew long =
      let b = stock.block in
      let all = eight_all level old inputs others is in
      let sums = eight_sum level old inputs others is in
      let block1 : stock1.block ≡ b = ap (λ s. s.block) drew.stock in
      let room1 : stock1.slot_room ≡ stock.slot_room + length berths = ap (λ s. s.slot_room) drew.stock in
      let loaded = all (λ (a : External S R). RunHasBlock b a.loaded) may.size.loaded in
      let fitting = all (λ (a : External S R). All IsFitting (buffers_of a.loaded)) may.fitting in
      let lifted = all (λ (a : External S R). a.lifted ≡ []) may.lifted in
      let packed = all (λ (a : External S R). IsPacked b a.stored) may.packed in
      let slots : length (external_slots shown inputs) ≤ stock.slot_room = omega (arith, may.size.takes_back, slots_counted shown inputs, slots_counted shown old, sums (λ (a : External S R). length a.stored)) in
      let buffers : external_buffers old ≡ external_buffers others + external_buffers inputs = sums (λ (a : External S R). length (buffers_of a.loaded)) in
      let blocks : blocks_in old ≡ blocks_in others + blocks_in inputs = sums (λ (a : External S R). length a.stored) in
      let records : records_count old ≡ records_count others + records_count inputs = sums size_of in
      let none : 0 * b ≡ 0 = omega arith in
      let enough : loaded_count inputs ≤ (length berths + length stock1.kept) * b =
      (let most = loaded_fit b inputs loaded fitting in
      let more : external_buffers inputs * b ≤ (length berths + length stock1.kept) * b = mul-le (external_buffers inputs) b (length berths + length stock1.kept) b (omega (arith, long)) (omega arith) in
      omega (arith, most, more)) in
      let few : records_count inputs ≤ (2 ^ 32 - 2) * b =
      (let most = records_fit b inputs lifted loaded fitting packed in
      let more : (external_buffers inputs + blocks_in inputs) * b ≤ (2 ^ 32 - 2) * b = mul-le (external_buffers inputs + blocks_in inputs) b (2 ^ 32 - 2) b (omega (arith, may.few_blocks, buffers, blocks)) (omega arith) in
      omega (arith, most, more)) in
      record {
        may = record {
          sources = record {
            idle = subst (λ k. All (HasBlock k) lanes.idle) (sym block1) may.size.idle;
            internal = λ k d h. absurd (omega arith);
            external = subst (λ k. All (HasSlots shown (k * width)) inputs) (sym block1) (all (HasSlots shown (b * width)) may.size.external);
            loaded = subst (λ k. All (λ (a : External S R). RunHasBlock k a.loaded) inputs) (sym block1) loaded;
            fitting = fitting;
            internal_fitting = λ k d h. absurd (omega arith);
            internal_spent = tt;
            external_spent = recursion_from_All (λ (a : External S R). a.loaded.spent ≡ []) inputs (all (λ (a : External S R). a.loaded.spent ≡ []) may.spent);
            takes_back = record { slots = omega (arith, slots, room1); buffers = omega arith };
            fronts = omega (arith, is.eight, may.buffers);
            bounded = eight_bounded old inputs others is may.bounded;
            few_buffers = omega (arith, may.few_buffers, buffers);
            few_runs = omega (arith, is.eight);
            few_records = omega (arith, may.few_records, records);
          };
          none_lifted = recursion_from_All (λ (a : External S R). a.lifted ≡ []) inputs lifted;
        };
        some = subst (λ k. 1 ≤ k) (sym block1) may.size.some;
        small = subst (λ k. k ≤ 65536) (sym block1) may.size.small;
        shape = refl;
        packed = packed_full stock1.block [] (All-nil (λ (b : DeviceBlock S R). b.count ≡ stock1.block));
        tight = subst (λ k. 0 * k < 0 + k) (sym block1) (omega (arith, none, may.size.some));
        full = λ _. All-nil (λ (b : DeviceBlock S R). b.count ≡ stock1.block);
        fit = subst (λ k. All (λ (a : External S R). AllFit k a.stored) inputs) (sym block1) (All-weaker (λ (a : External S R). IsPacked b a.stored) (λ (a : External S R). AllFit b a.stored) (λ a p. p.last) inputs packed);
        enough = subst (λ k. 0 + loaded_count inputs ≤ (0 + length berths + length stock1.kept) * k) (sym block1)
            (let e : (0 + length berths + length stock1.kept) * b ≡ (length berths + length stock1.kept) * b = ap (λ k. k * b) (let z : 0 + length berths + length stock1.kept ≡ length berths + length stock1.kept = omega arith in z) in omega (arith, enough, e));
        few = subst (λ k. 0 + (0 + records_count inputs) ≤ (2 ^ 32 - 2) * k) (sym block1) (omega (arith, few));
        sizes = subst (λ k. All (HasSlot shown (k * width)) berths) (sym block1) drew.sizes;
        room = omega (arith, slots, room1);
        buffers = omega (arith, may.buffers);
      }
