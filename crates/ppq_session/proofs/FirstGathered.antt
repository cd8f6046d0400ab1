-- A session whose seats were joined and closed, before the first pass is put in: all slots and all buffers are there.
use Rattle.std.proofs.Common.{◌≡◌, ℕ, ◌+◌, ◌-◌, ◌*◌, ◌<◌, ◌≤◌, List, [], ◌∷◌, ◌++◌, length, take, drop, map, sum_by, All, Option, None, refl, sym, ap, ap₂, ◌∙◌, subst, arith, inl, length-append, length-drop, take-append-drop}
use Rattle.std.specs.Prelude.{flat_map}
use Rattle.std.specs.declared.cmp.Ordering.{Ordering}
use Rattle.std.proofs.lemmas.Nat.{mul-le}
use Rattle.std.proofs.lemmas.List.{length-map, map-append}
use Rattle.std.proofs.lemmas.List.Sums.{sum_by-cons, sum_by-append}
use Rattle.std.proofs.lemmas.List.Elements.{All-nil, All-head, All-tail, All-append}
use Rattle.std.proofs.lemmas.List.Concat.{flat_map-cons}
use mathlib.Core.Logic.{dite}
use native.Mathlib.Decide.{dec_le}
use Rattle.ppq_pass.specs.ppq_table.Sums.{times, once_below}
use Rattle.ppq_pass.proofs.ppq_table.Numbers.{times_in, once-in}
use Rattle.ppq_pass.specs.ppq_pool.Seats.{count_of as pool_count}
use Rattle.ppq_pass.specs.ppq_outside.Shown.{Shown, AllTell}
use Rattle.ppq_pass.specs.ppq_budget.Sizes.{heap_of, Numbers}
use Rattle.ppq_pass.specs.ppq_heap.Heap.{Contents}
use Rattle.ppq_pass.specs.ppq_heap.Heaps.{items_in}
use Rattle.ppq_pass.specs.ppq_array.declared.berth.DeviceBlock.{DeviceBlock}
use Rattle.ppq_pass.specs.ppq_array.Owner.{slots_shown}
use Rattle.ppq_pass.specs.ppq_array.Kept.{SameSlots, AreQuiet, all_writes, all_faults}
use Rattle.ppq_pass.specs.ppq_spill.Body.{held_by, body_slots}
use Rattle.ppq_pass.specs.ppq_record.Order.{Le, is_before}
use Rattle.ppq_pass.proofs.ppq_record.Order.{Each-append_right}
use Rattle.ppq_pass.specs.ppq_fetch.Taking.{NoneAfter}
use Rattle.ppq_pass.proofs.ppq_spill.Keeping.{slots_long}
use Rattle.ppq_pass.proofs.ppq_spill.SameSlots.{SameSlots-refl, SameSlots-sums, SameSlots-trans}
use Rattle.ppq_pass.specs.ppq_spill.Untold.{untold}
use Rattle.ppq_pass.proofs.ppq_spill.Telling.{tell_sum, sum_tell}
use Rattle.ppq_pass.specs.Passing.{items_at}
use Rattle.ppq_pass.proofs.PassSince.{items_at-append}
use Rattle.ppq_pass.specs.Passed.{PassHolding, PassTells, slots_of as pass_slots}
use Rattle.ppq_queue.specs.Resting.{slots_of}
use Rattle.ppq_queue.proofs.Slots.{SameSums-length}
use Rattle.ppq_pass.specs.ppq_counts.Account.{IsCountedBeside}
use Rattle.ppq_session.specs.Apart.{IsApart, IsSoundApart, IsCountedApart, GoesBefore, apart_slots, apart_account}
use Rattle.ppq_pass.specs.ppq_spill.Costing.{body_account}
use Rattle.ppq_session.proofs.Counted.{same-account, beside-none}
use Rattle.ppq_session.specs.Passes.{IsBrought, pass_of}
use Rattle.ppq_session.specs.Bringing.{BroughtAll}
use Rattle.ppq_session.specs.Gathering.{IsGathered, IsGathering, IsSoundSoFar, slots_in, drawn_in, buffers_in, begun_in, gathered_account}
use Rattle.ppq_session.specs.Closing.{IsClosed}
use Rattle.ppq_session.specs.declared.brought.Brought.{Brought}
use Rattle.ppq_session.specs.declared.closed.Closed.{Closed}
use Rattle.ppq_session.specs.declared.parts.BulkParts.{BulkParts}
use Rattle.ppq_session.proofs.Brings.{places_in, numbers_in}
use Rattle.ppq_session.proofs.Mapped.{sum-mapped, all_mapped}
use Rattle.ppq_session.proofs.Places.{items_at-once}
use Rattle.ppq_session.proofs.Emptying.{SameSlots-append}
use Rattle.ppq_pass.specs.PassState.{drawn_of}

module _ {S R : Type 0} (shown : S → Shown) where
  -- what passes drew are the slots at their places
  pub drawn-places :
      (items : List (DeviceBlock S R)) (brought : List (Brought S R)) → All (λ (one : Brought S R). one.kept.value.row_seat.hand.items ≡ items) brought
      → drawn_in shown brought ≡ slots_shown shown (items_at items (places_in brought))
  drawn-places items [] all = refl
  drawn-places items (x ∷ xs) all =
      let here : x.kept.value.row_seat.hand.items ≡ items = All-head (λ (one : Brought S R). one.kept.value.row_seat.hand.items ≡ items) x xs all in
      let more = drawn-places items xs (All-tail (λ (one : Brought S R). one.kept.value.row_seat.hand.items ≡ items) x xs all) in
      let mine = x.kept.value.row_seat.hand.places in
      flat_map-cons (λ (one : Brought S R). drawn_of shown one.kept.value) x xs
      ∙ ap₂ (λ a b. a ++ b) (ap (λ l. slots_shown shown (items_at l mine)) here) more
      ∙ sym (map-append (λ (b : DeviceBlock S R). shown b.slot) (items_at items mine) (items_at items (places_in xs)))
      ∙ ap (slots_shown shown) (sym (items_at-append items mine (places_in xs)) ∙ ap (items_at items) (sym (flat_map-cons (λ (one : Brought S R). one.kept.value.row_seat.hand.places) x xs)))

  module _ (cmp : R → R → Ordering) (record_of : List ℕ → R) (width : ℕ) (n : Numbers) where
    -- what passes drew is what they have
    pub drawn-same : (brought : List (Brought S R)) → All (IsBrought shown record_of width n cmp) brought → SameSlots (drawn_in shown brought) (slots_in shown brought) × (all_writes (drawn_in shown brought) ≤ all_writes (slots_in shown brought))
    drawn-same [] all = (SameSlots-refl [], omega arith)
    drawn-same (x ∷ xs) all =
        let is = (All-head (IsBrought shown record_of width n cmp) x xs all).always in
        let more = drawn-same xs (All-tail (IsBrought shown record_of width n cmp) x xs all) in
        let mine = drawn_of shown x.kept.value in
        let have = pass_slots shown x.body x.kept.value in
        let a : drawn_in shown (x ∷ xs) ≡ mine ++ drawn_in shown xs = flat_map-cons (λ (one : Brought S R). drawn_of shown one.kept.value) x xs in
        let b : slots_in shown (x ∷ xs) ≡ have ++ slots_in shown xs = flat_map-cons (λ (one : Brought S R). pass_slots shown one.body one.kept.value) x xs in (
          subst (λ l. SameSlots l (slots_in shown (x ∷ xs))) (sym a) (subst (λ l. SameSlots (mine ++ drawn_in shown xs) l) (sym b) (SameSlots-append mine have (drawn_in shown xs) (slots_in shown xs) is.slots more.0)),
          omega (arith, is.writes, more.1, ap all_writes a, ap all_writes b, sum_by-append (λ (s : Shown). s.writes) mine (drawn_in shown xs), sum_by-append (λ (s : Shown). s.writes) have (slots_in shown xs)),
        )

    -- as many of what they drew do not tell as of what they have
    pub drawn-untold : (brought : List (Brought S R)) → All (IsBrought shown record_of width n cmp) brought → sum_by untold (drawn_in shown brought) ≡ sum_by untold (slots_in shown brought)
    drawn-untold [] all = refl
    drawn-untold (x ∷ xs) all =
        let is = (All-head (IsBrought shown record_of width n cmp) x xs all).always in
        let mine = drawn_of shown x.kept.value in
        let have = pass_slots shown x.body x.kept.value in
        let a : drawn_in shown (x ∷ xs) ≡ mine ++ drawn_in shown xs = flat_map-cons (λ (one : Brought S R). drawn_of shown one.kept.value) x xs in
        let b : slots_in shown (x ∷ xs) ≡ have ++ slots_in shown xs = flat_map-cons (λ (one : Brought S R). pass_slots shown one.body one.kept.value) x xs in
        let more = drawn-untold xs (All-tail (IsBrought shown record_of width n cmp) x xs all) in
        omega (arith, is.untold, more, ap (sum_by untold) a, ap (sum_by untold) b, sum_by-append untold mine (drawn_in shown xs), sum_by-append untold have (slots_in shown xs))

    -- no call failed of what they drew, where none of them met a fault
    pub drawn-quiet : (brought : List (Brought S R)) → All (IsBrought shown record_of width n cmp) brought → All (λ (one : Brought S R). one.failed ≡ None) brought → AreQuiet (drawn_in shown brought) (slots_in shown brought)
    drawn-quiet [] all fine = refl
    drawn-quiet (x ∷ xs) all fine =
        let is = (All-head (IsBrought shown record_of width n cmp) x xs all).sound (All-head (λ (one : Brought S R). one.failed ≡ None) x xs fine) in
        let mine = drawn_of shown x.kept.value in
        let have = pass_slots shown x.body x.kept.value in
        let a : drawn_in shown (x ∷ xs) ≡ mine ++ drawn_in shown xs = flat_map-cons (λ (one : Brought S R). drawn_of shown one.kept.value) x xs in
        let b : slots_in shown (x ∷ xs) ≡ have ++ slots_in shown xs = flat_map-cons (λ (one : Brought S R). pass_slots shown one.body one.kept.value) x xs in
        let more = drawn-quiet xs (All-tail (IsBrought shown record_of width n cmp) x xs all) (All-tail (λ (one : Brought S R). one.failed ≡ None) x xs fine) in
        let f : Shown → ℕ = λ s. s.faults in
        omega (arith, is.quiet, more, ap all_faults a, ap all_faults b, sum_by-append f mine (drawn_in shown xs), sum_by-append f have (slots_in shown xs))

module _ {S R : Type 0} (shown : S → Shown) (cmp : R → R → Ordering) (record_of : List ℕ → R) (width : ℕ) (q : BulkParts S R) (failed : Option ℕ) (is : IsApart shown width q failed) (q1 : BulkParts S R) (passes : List (PassHolding S R)) (br : BroughtAll shown record_of width q.sizes cmp passes q q1) (c : Closed S R) (cl : IsClosed shown q1 failed c) (count : length passes ≡ q.sizes.workers) (keys : All (λ (p : PassHolding S R). p.key.items ≡ q.row_seat.hand.items) passes) where
  abbrev rest : List (Brought S R)
  rest = br.brought

  abbrev items : List (DeviceBlock S R)
  items = q.row_seat.hand.items

  -- the parts, in terms of those that there were
  abbrev pub closed : Closed S R
  closed = record { sizes = q.sizes; heaps = q.heaps; tree = q.tree; body = q.body; supply = c.supply; extract = q.extract; sources = q.sources; count = q.count; peak = q.peak; limited = q.limited; failed = failed; slots = q.slots; counts = q.counts }

  pub closed_is : c ≡ closed
  closed_is =
      cl.rest
      ∙ ap (λ (p : BulkParts S R). record { sizes = p.sizes; heaps = p.heaps; tree = p.tree; body = p.body; supply = c.supply; extract = p.extract; sources = p.sources; count = p.count; peak = p.peak; limited = p.limited; failed = failed; slots = p.slots; counts = p.counts }) br.rest

  same_items : All (λ (one : Brought S R). one.kept.value.row_seat.hand.items ≡ items) rest
  same_items = all_mapped (pass_of shown record_of width q.sizes) (λ (p : PassHolding S R). p.key.items ≡ items) rest (subst (All (λ (p : PassHolding S R). p.key.items ≡ items)) (sym br.passes_are) keys)

  -- the places of all passes
  abbrev places : List ℕ
  places = places_in rest

  places_are : q1.row_seat.hand.places ≡ places
  places_are = br.places ∙ ap (λ l. l ++ places_in br.brought) is.out.home.undrawn

  below : All (λ p. p < length items) places
  below = by_list rest same_items br.each
    where
      by_list : (xs : List (Brought S R)) → All (λ (one : Brought S R). one.kept.value.row_seat.hand.items ≡ items) xs → All (IsBrought shown record_of width q.sizes cmp) xs → All (λ p. p < length items) (places_in xs)
      by_list [] same each = All-nil (λ p. p < length items)
      by_list (x ∷ xs) same each =
          let here : x.kept.value.row_seat.hand.items ≡ items = All-head (λ (one : Brought S R). one.kept.value.row_seat.hand.items ≡ items) x xs same in
          let drawn = (All-head (IsBrought shown record_of width q.sizes cmp) x xs each).always.supply.drawn in
          subst (All (λ p. p < length items)) (sym (flat_map-cons (λ (one : Brought S R). one.kept.value.row_seat.hand.places) x xs))
          (All-append (λ p. p < length items) x.kept.value.row_seat.hand.places (places_in xs) (subst (λ l. All (λ p. p < length l) x.kept.value.row_seat.hand.places) here drawn) (by_list xs (All-tail (λ (one : Brought S R). one.kept.value.row_seat.hand.items ≡ items) x xs same) (All-tail (IsBrought shown record_of width q.sizes cmp) x xs each)))

  once : (x : ℕ) → times x places ≡ once_below x (length places)
  once x = subst (λ l. times x l ≡ once_below x (length l)) places_are (cl.each_once x)

  few : length places ≤ length items
  few = dite (dec_le (length places) (length items)) (λ h. h) (λ h. absurd (too_many h))
    where
      too_many : (length places ≤ length items → ⊥) → ⊥
      too_many h =
          let last : length places - 1 < length items = times_in (λ p. p < length items) (length places - 1) places (omega (arith, once (length places - 1), once-in (length places - 1) (length places) (omega (arith, h)))) below in
          absurd (h (omega (arith, last)))

  left_is : cl.left ≡ drop (length places) items
  left_is = cl.left_is ∙ ap₂ (λ k l. drop k l) (ap length places_are) br.row_items

  sum-shown : (f : Shown → ℕ) (xs : List (DeviceBlock S R)) → sum_by f (slots_shown shown xs) ≡ sum_by (λ (b : DeviceBlock S R). f (shown b.slot)) xs
  sum-shown f xs = sum-mapped (λ (b : DeviceBlock S R). shown b.slot) f xs

  -- what was put into the row is what passes drew, and what is left
  parted : (f : Shown → ℕ) → sum_by f (slots_shown shown items) ≡ sum_by f (drawn_in shown rest) + sum_by f (slots_shown shown cl.left)
  parted f =
      let w : DeviceBlock S R → ℕ = λ b. f (shown b.slot) in
      omega (
        arith,
        sum-shown f items,
        ap (sum_by f) (drawn-places shown items rest same_items),
        sum-shown f (items_at items places),
        items_at-once w items places (length places) few below once,
        sum-shown f cl.left,
        ap (sum_by w) left_is,
        ap (sum_by w) (sym (take-append-drop (length places) items)),
        sum_by-append w (take (length places) items) (drop (length places) items),
      )

  same_supply : q1.supply ≡ q.supply
  same_supply = ap (λ p. p.supply) br.rest

  kept_is : c.supply.kept ≡ q.supply.kept ++ slots_shown shown cl.left
  kept_is = ap (λ s. s.kept) cl.supply ∙ ap (λ s. s.kept ++ slots_shown shown cl.left) same_supply

  -- the free slots are those that were free, and what is left of the row
  here : (f : Shown → ℕ) → sum_by f (slots_of shown q.body c.supply) ≡ sum_by f (slots_of shown q.body q.supply) + sum_by f (slots_shown shown cl.left)
  here f =
      omega (
        arith,
        sum_by-append f (body_slots shown q.body) c.supply.kept,
        sum_by-append f (body_slots shown q.body) q.supply.kept,
        ap (sum_by f) kept_is,
        sum_by-append f q.supply.kept (slots_shown shown cl.left),
      )

  abbrev mid : List Shown
  mid = slots_of shown q.body c.supply ++ drawn_in shown rest

  abbrev pub now : List Shown
  now = slots_of shown q.body c.supply ++ slots_in shown rest

  moved : (f : Shown → ℕ) → sum_by f (apart_slots shown q) ≡ sum_by f mid
  moved f =
      omega (
        arith,
        sum_by-append f (slots_of shown q.body q.supply) (slots_shown shown q.row_seat.hand.items),
        parted f,
        sum_by-append f (slots_of shown q.body c.supply) (drawn_in shown rest),
        here f,
      )

  drawn : SameSlots (drawn_in shown rest) (slots_in shown rest) × (all_writes (drawn_in shown rest) ≤ all_writes (slots_in shown rest))
  drawn = drawn-same shown cmp record_of width q.sizes rest br.each

  pub same_now : SameSlots (apart_slots shown q) now
  same_now =
      SameSlots-trans (apart_slots shown q) mid now
      (SameSlots-sums (apart_slots shown q) mid moved (sym (SameSums-length (apart_slots shown q) mid moved)))
      (SameSlots-append (slots_of shown q.body c.supply) (slots_of shown q.body c.supply) (drawn_in shown rest) (slots_in shown rest) (SameSlots-refl (slots_of shown q.body c.supply)) drawn.0)

  pub writes_now : all_writes (apart_slots shown q) ≤ all_writes now
  writes_now =
      let f : Shown → ℕ = λ s. s.writes in
      omega (arith, moved f, drawn.1, sum_by-append f (slots_of shown q.body c.supply) (drawn_in shown rest), sum_by-append f (slots_of shown q.body c.supply) (slots_in shown rest))

  -- where no pass met a fault, no call of a slot failed
  pub quiet_now : All (λ (one : Brought S R). one.failed ≡ None) rest → AreQuiet (apart_slots shown q) now
  quiet_now fine =
      let f : Shown → ℕ = λ s. s.faults in
      omega (
        arith,
        moved f,
        drawn-quiet shown cmp record_of width q.sizes rest br.each fine,
        sum_by-append f (slots_of shown q.body c.supply) (drawn_in shown rest),
        sum_by-append f (slots_of shown q.body c.supply) (slots_in shown rest),
      )

  -- where all tells now, the row's slots did
  items_told : AllTell now → AllTell (slots_shown shown items)
  items_told tell =
      let all = tell_sum now tell in
      let split = sum_by-append untold (slots_of shown q.body c.supply) (slots_in shown rest) in
      let mine = drawn-untold shown cmp record_of width q.sizes rest br.each in
      sum_tell (slots_shown shown items) (omega (arith, parted untold, mine, here untold, all, split))

  -- the slots of passes that tell
  tell_each : (xs : List (Brought S R)) → All (PassTells shown) (map (pass_of shown record_of width q.sizes) xs) → sum_by untold (slots_in shown xs) ≡ 0
  tell_each [] all = refl
  tell_each (x ∷ xs) all =
      let have = pass_slots shown x.body x.kept.value in
      let row = slots_shown shown x.kept.value.row_seat.hand.items in
      let here = tell_sum (have ++ row) (All-head (PassTells shown) (pass_of shown record_of width q.sizes x) (map (pass_of shown record_of width q.sizes) xs) all) in
      let more = tell_each xs (All-tail (PassTells shown) (pass_of shown record_of width q.sizes x) (map (pass_of shown record_of width q.sizes) xs) all) in
      omega (
        arith,
        here,
        more,
        sum_by-append untold have row,
        ap (sum_by untold) (flat_map-cons (λ (one : Brought S R). pass_slots shown one.body one.kept.value) x xs),
        sum_by-append untold have (slots_in shown xs),
      )

  -- where the slots of the bulk and of all passes tell, all tell now
  pub told_now : AllTell (apart_slots shown q) → All (PassTells shown) passes → AllTell now
  told_now tell each =
      let fine = tell_each rest (subst (All (PassTells shown)) (sym br.passes_are) each) in
      sum_tell now (
      omega (
        arith,
        fine,
        tell_sum (apart_slots shown q) tell,
        sum_by-append untold (slots_of shown q.body q.supply) (slots_shown shown items),
        parted untold,
        here untold,
        sum_by-append untold (slots_of shown q.body c.supply) (slots_in shown rest),
      ))

  rest_count : length rest ≡ q.sizes.workers
  rest_count = omega (arith, ap length br.passes_are, length-map br.brought (pass_of shown record_of width q.sizes), count)

  -- each pass has the buffers of its numbers, and two more
  buffers_are : (xs : List (Brought S R)) → All (IsBrought shown record_of width q.sizes cmp) xs → buffers_in shown xs ≡ length (numbers_in xs) + 2 * length xs
  buffers_are [] each = refl
  buffers_are (x ∷ xs) each =
      let passed = (All-head (IsBrought shown record_of width q.sizes cmp) x xs each).always in
      omega (
        arith,
        passed.buffers,
        ap length passed.supply.numbers_are,
        buffers_are xs (All-tail (IsBrought shown record_of width q.sizes cmp) x xs each),
        sum_by-cons (λ (y : Brought S R). (held_by shown y.body).buffers) x xs,
        ap length (flat_map-cons (λ (one : Brought S R). one.kept.value.pool_seat.hand.numbers) x xs),
        length-append x.kept.value.pool_seat.hand.numbers (numbers_in xs),
      )

  taken : length q1.pool_seat.hand.numbers ≡ length (numbers_in rest)
  taken = omega (arith, ap length br.numbers, length-append q.pool_seat.hand.numbers (flat_map (λ (one : Brought S R). one.kept.value.pool_seat.hand.numbers) br.brought), ap length is.out.home.untaken)

  all_pool : cl.given + length (numbers_in rest) ≡ pool_count q.pool_seat.pool
  all_pool = omega (arith, cl.given_are, taken, ap (λ p. p.slots) br.pool)

  room_is : c.supply.buffer_room ≡ q.supply.buffer_room - cl.given
  room_is = ap (λ s. s.buffer_room) cl.supply ∙ ap (λ s. s.buffer_room - cl.given) same_supply

  sure_is : c.supply.sure_buffers ≡ q.supply.sure_buffers + cl.given
  sure_is = ap (λ s. s.sure_buffers) cl.supply ∙ ap (λ s. s.sure_buffers + cl.given) same_supply

  slot_room_is : c.supply.slot_room ≡ q.supply.slot_room - length cl.left
  slot_room_is = ap (λ s. s.slot_room) cl.supply ∙ ap (λ s. s.slot_room - length cl.left) same_supply

  items_few : length items ≤ q.supply.slot_room
  items_few =
      omega (
        arith,
        is.out.slots,
        is.out.slot_room,
        length-append (slots_of shown q.body q.supply) (slots_shown shown items),
        length-append (body_slots shown q.body) q.supply.kept,
        slots_long shown items,
      )

  left_few : length cl.left ≤ length items
  left_few = omega (arith, ap length left_is, length-drop (length places) items)

  always : IsGathering shown width now (slots_shown shown items) closed rest
  always =
      record {
        range = is.out.home.range;
        budget = is.out.home.budget;
        heaps = omega (arith, ap length is.out.home.no_heap, rest_count);
        heaps_room = is.out.home.heaps_room;
        caps = subst (All (λ (h : Contents R). h.cap ≡ heap_of q.sizes)) (sym is.out.home.no_heap) (All-nil (λ (h : Contents R). h.cap ≡ heap_of q.sizes));
        leaves = is.out.home.heaps_leaves;
        block = ap (λ s. s.block) cl.supply ∙ ap (λ s. s.block) same_supply ∙ is.out.block;
        no_row = ap (λ s. s.drawn) cl.supply ∙ ap (λ s. s.drawn) same_supply ∙ is.out.no_row;
        pool = omega (arith, room_is, sure_is, all_pool, is.fits, is.out.pool);
        slot_room = omega (arith, ap length kept_is, length-append q.supply.kept (slots_shown shown cl.left), slots_long shown cl.left, slot_room_is, items_few, left_few, is.out.slot_room);
        no_job = is.out.no_job;
        holds = omega (arith, is.out.held, buffers_are rest br.each, rest_count, all_pool, room_is, is.fits);
        all_slots = same_now.length ∙ is.out.slots;
        overreads = omega (arith, same_now.overreads, is.out.overreads);
        sums = λ f. refl;
        told = items_told;
        fault = λ number e. omega (arith, is.fault number e, same_now.faults number);
        extract_room = is.out.room;
        in_extract = is.out.in_extract;
        workers = is.out.workers;
        serves = is.out.serves;
        no_slot = is.out.home.no_slot;
        slots_room = is.out.home.slots_room;
        most_peak = is.out.home.most;
      }

  -- where all tells now, all did
  was_told : AllTell now → AllTell (apart_slots shown q)
  was_told tell =
      let all = tell_sum now tell in
      sum_tell (apart_slots shown q)
      (omega (
        arith,
        all,
        sum_by-append untold (slots_of shown q.body c.supply) (slots_in shown rest),
        here untold,
        parted untold,
        drawn-untold shown cmp record_of width q.sizes rest br.each,
        sum_by-append untold (slots_of shown q.body q.supply) (slots_shown shown items),
      ))

  module _ (popped : ℕ) (so : failed ≡ None → IsSoundApart shown cmp record_of width q (sum_by (λ (p : PassHolding S R). p.key.begun) passes) popped) (before : failed ≡ None → All (GoesBefore shown cmp q) passes) (paid : IsCountedApart shown q (sum_by (λ (p : PassHolding S R). p.key.begun) passes) failed) where
    none_after-right : (xs ys zs : List R) → NoneAfter cmp xs (ys ++ zs) → NoneAfter cmp xs zs
    none_after-right [] ys zs h = tt
    none_after-right (x ∷ xs) ys zs h = (Each-append_right (Le (is_before cmp) x) ys zs h.0, none_after-right xs ys zs h.1)

    sound : failed ≡ None → IsSoundSoFar shown cmp record_of width closed rest
    sound whole =
        let l = so whole in
        let room : q.sizes.block * q.sizes.blocks ≤ 65536 * 65536 = mul-le q.sizes.block q.sizes.blocks 65536 65536 is.out.home.range.block is.out.home.range.blocks in
        record {
          idle = l.idle;
          internal = l.internal;
          external = l.external;
          batch = l.batch;
          buffers = omega (arith, l.buffers, rest_count);
          bounded = l.bounded;
          fronts = l.fronts;
          few = l.few;
          internal_room = l.internal_room;
          external_room = l.external_room;
          tree = l.leaves;
          rise = λ tell. l.rise (was_told tell);
          small = omega (arith, is.most_count, room, rest_count, is.out.home.range.workers, is.out.home.range.memory);
          counted = omega (arith, l.counted, sum-mapped (pass_of shown record_of width q.sizes) (λ (p : PassHolding S R). p.key.begun) rest, ap (sum_by (λ (p : PassHolding S R). p.key.begun)) br.passes_are, ap (λ l. length (items_in l)) is.out.home.no_heap);
          above = λ some. inl (l.above some);
          ascends = λ tell. l.ascends (was_told tell);
          order = λ tell. l.order (was_told tell);
          order_rest = λ tell k d h fine.
              let mine = all_mapped (pass_of shown record_of width q.sizes) (GoesBefore shown cmp q) rest (subst (All (GoesBefore shown cmp q)) (sym br.passes_are) (before whole)) k d h (was_told tell) fine in
              none_after-right q.extract.items _ _ mine;
        }

    begun_here : sum_by (λ (p : PassHolding S R). p.key.begun) passes ≡ begun_in shown rest
    begun_here = ap (sum_by (λ (p : PassHolding S R). p.key.begun)) (sym br.passes_are) ∙ sum-mapped (pass_of shown record_of width q.sizes) (λ (p : PassHolding S R). p.key.begun) rest

    account_here : apart_account shown q ≡ gathered_account shown closed rest
    account_here =
        let none : length (items_in q.heaps.items) ≡ 0 = ap (λ l. length (items_in l)) is.out.home.no_heap in
        let moved_account = same-account q.sizes.block (apart_slots shown q) mid q.body (moved (λ s. s.writes)) (moved (λ s. s.reads)) in
        moved_account ∙ beside-none (length (items_in q.heaps.items)) none (body_account q.sizes.block mid q.body)

    counted : IsCountedBeside q.sizes.workers q.sizes.block (begun_in shown rest) (failed ≡ None) q.counts (gathered_account shown closed rest)
    counted = subst (λ a. IsCountedBeside q.sizes.workers q.sizes.block (begun_in shown rest) (failed ≡ None) q.counts a) account_here (subst (λ k. IsCountedApart shown q k failed) begun_here paid)

    -- the parts and the passes that came, before the first is put in
    pub gathered-first : IsGathered shown cmp record_of width now (slots_shown shown q.row_seat.hand.items) c br.brought
    gathered-first =
        subst (λ k. IsGathered shown cmp record_of width now (slots_shown shown q.row_seat.hand.items) k br.brought) (sym closed_is)
        (record {
          always = always;
          each = br.each;
          items_are = λ k d h. ap (slots_shown shown) (same_items k d h);
          sound = sound;
          counted = counted;
        })
