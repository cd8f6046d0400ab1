-- A pass that is put in fits into the parts of a queue.
use Rattle.std.proofs.Common.{◌≡◌, ℕ, ◌+◌, ◌-◌, ◌*◌, ◌^◌, ◌<◌, ◌≤◌, List, [], ◌∷◌, ◌++◌, length, sum_by, All, None, sym, ap, ap₂, ◌∙◌, subst, arith, length-append, append-nil}
use Rattle.std.specs.declared.cmp.Ordering.{Ordering}
use Rattle.std.proofs.lemmas.List.Sums.{sum_by-append, sum_by-cons}
use Rattle.ppq_pass.specs.ppq_outside.Shown.{Shown}
use Rattle.ppq_pass.specs.ppq_array.Owner.{HasSlot, slots_shown}
use Rattle.ppq_pass.specs.ppq_array.Supply.{Stock}
use Rattle.ppq_pass.specs.ppq_array.Holdings.{HasSlots, external_slots, internal_buffers, external_buffers}
use Rattle.ppq_pass.proofs.ppq_spill.Keeping.{slots_long}
use Rattle.ppq_queue.specs.Slots.{SameSums, with_slots}
use Rattle.ppq_session.specs.Passes.{IsBrought}
use Rattle.ppq_session.specs.Gathering.{IsGathered, IsGathering, IsSoundSoFar, slots_in, buffers_in, CanAdopt}
use Rattle.ppq_session.specs.declared.brought.Brought.{Brought}
use Rattle.ppq_session.specs.declared.closed.Closed.{Closed}
use Rattle.ppq_session.proofs.Gathered.{accepted_few, resting-run, some_heap, rests, no_odd, buffers-push}
use Rattle.ppq_session.proofs.PutIn.{this, its_items, each_left}
use Rattle.std.proofs.lemmas.List.Elements.{All-head, All-tail}
use Rattle.std.proofs.lemmas.List.Concat.{flat_map-cons}
use Rattle.std.proofs.lemmas.Grind.{flat_map-append}
use Rattle.ppq_pass.specs.ppq_budget.Sizes.{heap_of, pool_of}
use Rattle.ppq_pass.specs.ppq_spill.Body.{held_by, body_slots, job_slots}
use Rattle.ppq_pass.specs.Passed.{slots_of as pass_slots}
use Rattle.ppq_pass.specs.PassState.{IsSoundPass}
use Rattle.ppq_queue.specs.Resting.{slots_of}
use Rattle.ppq_queue.proofs.Amounts.{runs_some, stored_slots}
use Rattle.ppq_queue.proofs.Slots.{SameSums-length}
use Rattle.ppq_queue.proofs.Odd.{runs_most}

module _ {S R : Type 0} (shown : S → Shown) (cmp : R → R → Ordering) (record_of : List ℕ → R) (width : ℕ) where
  -- each pass has two idle buffers at least
  two_each : (c : Closed S R) (rest : List (Brought S R)) → All (IsBrought shown record_of width c.sizes cmp) rest → 2 * length rest ≤ buffers_in shown rest
  two_each c [] all = omega arith
  two_each c (x ∷ xs) all =
      let is = All-head (IsBrought shown record_of width c.sizes cmp) x xs all in
      let two = is.always.two in
      omega (arith, two, two_each c xs (All-tail (IsBrought shown record_of width c.sizes cmp) x xs all), sum_by-cons (λ (y : Brought S R). (held_by shown y.body).buffers) x xs)

module _ {S R : Type 0} (shown : S → Shown) (cmp : R → R → Ordering) (record_of : List ℕ → R) (width : ℕ) (slots items : List Shown) (c : Closed S R) (one : Brought S R) (rest : List (Brought S R)) (is : IsGathered shown cmp record_of width slots items c (rest ++ one ∷ [])) where
  a : IsGathering shown width slots items c (rest ++ one ∷ [])
  a = is.always

  brought : IsBrought shown record_of width c.sizes cmp one
  brought = this shown cmp record_of width slots items c one rest is

  block : one.kept.value.block ≡ c.supply.block
  block = brought.always.block ∙ sym a.block

  more_buffers : buffers_in shown (rest ++ one ∷ []) ≡ buffers_in shown rest + (held_by shown one.body).buffers
  more_buffers = buffers-push shown width slots items c one rest a

  -- all slots of the parts, of the pass, and of those that are to come
  parts-slots : length (external_slots shown c.body.runs.external.items) + length c.supply.kept + (length (external_slots shown one.body.runs.external.items) + length one.kept.value.stash) ≤ c.sizes.blocks
  parts-slots =
      let g : Brought S R → List Shown = λ x. pass_slots shown x.body x.kept.value in
      omega (
        arith,
        a.all_slots,
        SameSums-length (slots_of shown c.body c.supply ++ slots_in shown (rest ++ one ∷ [])) slots a.sums,
        length-append (slots_of shown c.body c.supply) (slots_in shown (rest ++ one ∷ [])),
        length-append (external_slots shown c.body.runs.external.items ++ job_slots shown c.body.lanes.jobs.items) c.supply.kept,
        length-append (external_slots shown c.body.runs.external.items) (job_slots shown c.body.lanes.jobs.items),
        ap length (flat_map-append g rest (one ∷ [])),
        length-append (slots_in shown rest) (slots_in shown (one ∷ [])),
        ap length (flat_map-cons g one [] ∙ append-nil (g one)),
        length-append (body_slots shown one.body) (slots_shown shown one.kept.value.stash),
        length-append (external_slots shown one.body.runs.external.items) (job_slots shown one.body.lanes.jobs.items),
        slots_long shown one.kept.value.stash,
      )

  -- the supply has room for its slots
  pub slots-fit : length (external_slots shown one.body.runs.external.items) + length one.stash ≤ c.supply.slot_room
  slots-fit = omega (arith, parts-slots, a.slot_room, ap length brought.stash)

  pub stash-sizes : All (HasSlot shown (c.supply.block * width)) one.stash
  stash-sizes = subst (λ l. All (HasSlot shown (c.supply.block * width)) l) (sym brought.stash) (subst (λ b. All (HasSlot shown (b * width)) one.kept.value.stash) block brought.always.supply.stash_sizes)

  pub runs-sizes : All (HasSlots shown (c.supply.block * width)) one.body.runs.external.items
  runs-sizes = subst (λ b. All (HasSlots shown (b * width)) one.body.runs.external.items) block brought.always.size.external

  -- all buffers are few
  pub buffers-fit : length c.body.lanes.idle + internal_buffers one.body.runs.internal.items + external_buffers one.body.runs.external.items + length one.body.lanes.idle < 4294967295
  buffers-fit =
      let small : pool_of c.sizes ≤ 65536 = omega arith in
      omega (arith, a.holds, more_buffers, a.range.workers, a.pool, small)

  -- what its stash becomes in a supply that took it
  module _ (freed : Stock) (free : freed ≡ with_slots c.supply (c.supply.kept ++ slots_shown shown one.stash) (c.supply.slot_room - length one.stash)) where
    pub freed-kept : freed.kept ≡ c.supply.kept ++ slots_shown shown one.kept.value.stash
    freed-kept = ap (λ s. s.kept) free ∙ ap (λ l. c.supply.kept ++ slots_shown shown l) brought.stash

    pub freed-room : length freed.kept + freed.slot_room ≡ length c.supply.kept + c.supply.slot_room
    freed-room = omega (arith, ap (λ s. length s.kept) free, ap (λ s. s.slot_room) free, length-append c.supply.kept (slots_shown shown one.stash), slots_long shown one.stash, slots-fit)

    pub freed-stock : freed ≡ with_slots c.supply freed.kept freed.slot_room
    freed-stock = free ∙ ap₂ (λ k r. with_slots c.supply k r) (sym (ap (λ s. s.kept) free)) (sym (ap (λ s. s.slot_room) free))

    -- and with the slots of its runs
    pub freed-sums :
        (kept : List Shown) → SameSums (freed.kept ++ external_slots shown one.body.runs.external.items) kept
        → (f : Shown → ℕ) → sum_by f kept ≡ sum_by f c.supply.kept + sum_by f (slots_shown shown one.kept.value.stash) + sum_by f (external_slots shown one.body.runs.external.items)
    freed-sums kept same f =
        omega (
          arith,
          same f,
          sum_by-append f freed.kept (external_slots shown one.body.runs.external.items),
          ap (sum_by f) freed-kept,
          sum_by-append f c.supply.kept (slots_shown shown one.kept.value.stash),
        )

  -- while no fault was met, the lists of runs have room for its runs, and the count for its records
  module _ (none : c.failed ≡ None) (whole : one.failed ≡ None) where
    s : IsSoundSoFar shown cmp record_of width c (rest ++ one ∷ [])
    s = is.sound none

    p : IsSoundPass shown cmp record_of width c.sizes one.heap one.body one.kept.value one.begun one.accepted one.refused
    p = brought.sound whole

    own : slots_shown shown one.kept.value.row_seat.hand.items ≡ items
    own = its_items shown cmp record_of width slots items c one rest is

    pub can-adopt : CanAdopt c.body one.body
    can-adopt =
        record {
          internal =
              let some = some_heap shown cmp record_of width slots items c one rest a s brought.always p own in
              let mine = runs_some c.sizes.block one.body.runs.internal.items (λ k d h. resting-run c.sizes.block (heap_of c.sizes) _ some (p.internal k d h)) in
              let there = runs_some c.sizes.block c.body.runs.internal.items s.internal in
              let two = two_each shown cmp record_of width c rest (each_left shown cmp record_of width slots items c one rest is) in
              omega (arith, mine, there, a.holds, more_buffers, s.buffers, length-append rest (one ∷ []), two, brought.always.two, s.internal_room, a.pool);
          external =
              let mine = runs_most c.sizes.block shown width one.body.runs.external.items (rests shown cmp record_of width slots items c one rest a s brought.always p own) in
              let there = runs_most c.sizes.block shown width c.body.runs.external.items s.external in
              let even = no_odd shown cmp record_of width slots items c one rest a s brought.always p own in
              omega (arith, mine, there, s.few, even, stored_slots shown c.body.runs.external.items, stored_slots shown one.body.runs.external.items, parts-slots, s.external_room);
          few = omega (arith, buffers-fit);
        }

    pub count-fits : c.count + one.accepted < 2 ^ 64
    count-fits = omega (arith, s.small, accepted_few shown cmp record_of width slots items c one rest a s brought.always p own)
