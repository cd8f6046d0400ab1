use Rattle.std.proofs.Common.{◌≡◌, ℕ, ◌≤◌, ◌*◌, ◌-◌, ◌∙◌, length, map, Option, None, false, ap, sym, subst, refl, arith, All}
use Rattle.std.proofs.lemmas.Grind.{common_steps}
use Rattle.std.specs.Prelude.{vec_capacity}
use Rattle.std.proofs.lemmas.List.{length-map}
use Rattle.ppq_extract.specs.ppq_array.Supply.{IsSlot}
use Rattle.ppq_heap.specs.Heaps.{items_of}
use Rattle.ppq_spill.specs.ppq_counts.Account.{IsCounted}
use Rattle.ppq_queue.specs.Paying.{whole_account, heaps_account}
use Rattle.ppq_queue.specs.Slots.{with_slots}
use Rattle.ppq_queue.specs.State.{IsQueue, IsSound}
use Rattle.ppq_queue.proofs.Opened.{queue-opened, sound-opened, counted-opened, new_are_slots, err_holds, ok_holds}
use Rattle.ppq_queue.proofs.queue.Queue.open.Goals as goal

pub berth_slots-requires-clause-slots : goal.berth_slots-requires-clause-slots
berth_slots-requires-clause-slots g c =
    let block : c.in-Ok-new.parts.store.supply.block ≡ c.args.sizes.block = ap (λ s. s.block) c.in-Ok-new.ensures.supply in
    subst (λ b. All (λ s. IsSlot (b * g.R.Record.WIDTH) (g.S.Slot.shown s)) c.args.slots.items) (sym block) (new_are_slots g.S.Slot.shown (c.args.sizes.block * g.R.Record.WIDTH) c.args.slots.items c.requires.fresh)

pub returns-then-is_err-clause-back : goal.returns-then-is_err-clause-back
returns-then-is_err-clause-back g c = err_holds c.berth_slots.result c.is_err.result c.is_err.ensures.value c.if-is_err.true c.berth_slots.ensures.back

pub invariant_of-result : goal.invariant_of-result
invariant_of-result g c =
    let shown = g.S.Slot.shown in
    let parts = c.in-Ok-new.parts in
    let is = c.in-Ok-new.ensures in
    let slots = map shown c.args.slots.items in
    let stock = c.berth_slots.new.supply in
    let long = length-map c.args.slots.items shown in
    let e : stock ≡ with_slots parts.store.supply slots (parts.store.supply.slot_room - length slots) = ok_holds c.berth_slots.result c.is_err.result c.is_err.ensures.value c.if-is_err.false c.berth_slots.ensures.stock ∙ ap (λ k. with_slots parts.store.supply slots (parts.store.supply.slot_room - k)) (sym long) in
    let same = sym is.same_sizes in
    let room : c.args.sizes.blocks ≤ vec_capacity c.berth_slots.new.slots = omega (arith, c.berth_slots.ensures.capacity, c.requires.count, long) in (
      record {
        queue = subst (λ n. IsQueue shown n parts.heaps parts.store.extract parts.store.body stock 0 0 None) same (queue-opened shown c.args.sizes parts is slots stock e c.requires.count c.requires.fresh c.workers-workers.ensures.range (omega (arith, c.in-Ok.ensures.budget)));
        sound = λ none. subst (λ n. IsSound shown g.R.Ord.cmp g.R.Record.record_of g.R.Record.WIDTH n parts.heaps parts.store.extract parts.store.body stock parts.store.sources 0 0 false) same (sound-opened shown c.args.sizes parts is slots stock e c.requires.count g.R.Ord.cmp g.R.Record.record_of g.R.Record.WIDTH);
        counted = subst (λ n. IsCounted n.workers n.block (◌≡◌ {A = Option ℕ} None None) c.none.result (heaps_account shown parts.heaps (record parts.store { sizes = n; supply = stock }))) same
            (subst (λ t. IsCounted c.args.sizes.workers c.args.sizes.block (◌≡◌ {A = Option ℕ} None None) t (whole_account shown c.args.sizes (length (items_of parts.heaps)) parts.store.body stock)) (sym c.none.ensures)
            (counted-opened shown c.args.sizes parts is slots stock e c.requires.count c.requires.fresh));
        slots_room = subst (λ n. n.blocks ≤ vec_capacity c.berth_slots.new.slots) same room;
      },
      ok_holds c.berth_slots.result c.is_err.result c.is_err.ensures.value c.if-is_err.false c.berth_slots.ensures.emptied,
    )

pub new-requires-clause-budget : goal.new-requires-clause-budget
new-requires-clause-budget g c = grind arith

pub new-requires-clause-buffers : goal.new-requires-clause-buffers
new-requires-clause-buffers g c = grind arith

pub berth_slots-requires-clause-none : goal.berth_slots-requires-clause-none
berth_slots-requires-clause-none g c = grind arith

pub berth_slots-requires-clause-room : goal.berth_slots-requires-clause-room
berth_slots-requires-clause-room g c = grind (arith, common_steps)

pub returns-in-Err : goal.returns-in-Err
returns-in-Err g c = record { bag = tt; size = tt; sizes = tt; peak = tt; sound = tt; unlimited = tt; counts = tt; budget = tt; slots = tt; back = λ f. refl; need = grind arith }

pub returns : goal.returns
returns g c = record { bag = grind arith; size = assumption; sizes = grind arith; peak = assumption; sound = assumption; unlimited = assumption; counts = (c.none.ensures, ap length c.in-Ok-new.ensures.no_record); budget = grind arith; slots = grind arith; back = tt; need = tt }
