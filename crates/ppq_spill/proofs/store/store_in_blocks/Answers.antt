use Rattle.std.proofs.Common.{◌≡◌, ◌+◌, ◌*◌, ◌<◌, ◌≤◌, ◌∷◌, ◌++◌, [], All, length, refl, sym, ap, ◌∙◌, subst, arith, length-append}
use Rattle.std.proofs.lemmas.List.Elements.{All-head, All-tail, All-push}
use Rattle.ppq_fetch.specs.ppq_array.Holdings.{internal_items, internal_buffers, external_slots, external_buffers, RunHasBlock, HasSlots}
use Rattle.ppq_fetch.specs.ppq_array.Owner.{slots_shown, HasSlot, HasBlock}
use Rattle.ppq_fetch.proofs.ppq_array.Noted.{all_left, all_right}
use Rattle.std.specs.Prelude.{vec_capacity}
use Rattle.ppq_spill.specs.Body.{job_slots}
use Rattle.ppq_spill.specs.Writing.{SameBuffers, Writing, WriteFailed, block_in, left_in}
use Rattle.ppq_spill.proofs.Idle.{block_in_is}
use Rattle.ppq_spill.proofs.Keeping.{too_few, same_buffers, same_blocks, slots_more, buffers_more, slots_long}
use Rattle.ppq_spill.proofs.InBlocks.{blocks_stored}
use Rattle.ppq_spill.proofs.Storings.{kept_refused, kept_written, kept_failed, went_refused, went_written, went_failed, room_failed, buffers_failed, run_stopped, sizes_after}
use Rattle.ppq_spill.proofs.Going.{more_writes}
use Rattle.ppq_spill.proofs.Transfers.{fewer}
use Rattle.ppq_spill.proofs.store.store_in_blocks.Goals as goal

pub release_runs-requires-clause-room : goal.release_runs-requires-clause-room
release_runs-requires-clause-room g c =
    let writing = c.in-None.ensures.outcome in
    omega (arith, same_buffers c.args.body.now.runs.internal.items c.write_run-failed.new.body.runs.internal.items writing.buffers, c.requires.room.takes_back.buffers, ap (λ s. s.buffer_room) c.in-Some.ensures.drawn.stock)

pub release_runs-requires-clause-blocks : goal.release_runs-requires-clause-blocks
release_runs-requires-clause-blocks g c =
    let writing = c.in-None.ensures.outcome in
    let old = g.P.Supply.stock c.args.supply.now in
    let block : old.block ≡ (g.P.Supply.stock c.draw_slots.new.supply).block = sym (ap (λ s. s.block) c.in-Some.ensures.drawn.stock) in
    subst (λ b. All (RunHasBlock b) c.write_run-failed.new.body.runs.internal.items) block (same_blocks old.block c.args.body.now.runs.internal.items c.write_run-failed.new.body.runs.internal.items writing.buffers c.requires.room.size.internal)

pub free_slot-requires-clause-slot : goal.free_slot-requires-clause-slot
free_slot-requires-clause-slot g c =
    let body = c.args.body.now in
    let same : block_in body.lanes.idle ≡ c.args.block = block_in_is c.args.block body.lanes.idle (omega (arith, c.requires.room.buffer)) (subst (λ b. All (HasBlock b) body.lanes.idle) (sym c.requires.block) c.requires.room.size.idle) in
    let failed = subst (λ b. WriteFailed g.S.Slot.shown (b * g.R.Record.WIDTH) c.in-Some.berths body.runs.internal.items c.write_run-failed.new.making.berths c.write_run-failed.new.body.runs.internal.items c.write_run-failed.new.making.made c.in-Some-failed.berth) same c.in-Some-failed.ensures.outcome in
    let w = g.R.Record.WIDTH in
    let shown = g.S.Slot.shown in
    let block : c.args.block ≡ (g.P.Supply.stock c.draw_slots.new.supply).block = c.requires.block ∙ sym (ap (λ s. s.block) c.in-Some.ensures.drawn.stock) in
    subst (λ b. HasSlot shown (b * w) c.in-Some-failed.berth) block
    (All-head (HasSlot shown (c.args.block * w)) c.in-Some-failed.berth c.write_run-failed.new.making.berths (all_right (HasSlot shown (c.args.block * w)) c.write_run-failed.new.making.made.stored (c.in-Some-failed.berth ∷ c.write_run-failed.new.making.berths) failed.sizes))

pub free_slots-requires-clause-size : goal.free_slots-requires-clause-size
free_slots-requires-clause-size g c =
    let body = c.args.body.now in
    let same : block_in body.lanes.idle ≡ c.args.block = block_in_is c.args.block body.lanes.idle (omega (arith, c.requires.room.buffer)) (subst (λ b. All (HasBlock b) body.lanes.idle) (sym c.requires.block) c.requires.room.size.idle) in
    let failed = subst (λ b. WriteFailed g.S.Slot.shown (b * g.R.Record.WIDTH) c.in-Some.berths body.runs.internal.items c.write_run-failed.new.making.berths c.write_run-failed.new.body.runs.internal.items c.write_run-failed.new.making.made c.in-Some-failed.berth) same c.in-Some-failed.ensures.outcome in
    let w = g.R.Record.WIDTH in
    let shown = g.S.Slot.shown in
    let block : c.args.block ≡ (g.P.Supply.stock c.free_slot.new.supply).block = c.requires.block ∙ sym (ap (λ s. s.block) c.free_slot.ensures.back ∙ ap (λ s. s.block) c.in-Some.ensures.drawn.stock) in
    subst (λ b. All (HasSlot shown (b * w)) c.write_run-failed.new.making.berths) block
    (All-tail (HasSlot shown (c.args.block * w)) c.in-Some-failed.berth c.write_run-failed.new.making.berths (all_right (HasSlot shown (c.args.block * w)) c.write_run-failed.new.making.made.stored (c.in-Some-failed.berth ∷ c.write_run-failed.new.making.berths) failed.sizes))

pub write_run-failed-requires-clause-may : goal.write_run-failed-requires-clause-may
write_run-failed-requires-clause-may g c κs within =
    let body = c.args.body.now in
    let may = c.requires.room in
    let sorted = c.args.sorted.now in
    let items = internal_items body.runs.internal.items in
    let some : 0 < length body.lanes.idle = omega (arith, may.buffer) in
    let same : block_in body.lanes.idle ≡ c.args.block = block_in_is c.args.block body.lanes.idle some (subst (λ b. All (HasBlock b) body.lanes.idle) (sym c.requires.block) may.size.idle) in
    let berths = c.in-Some.berths in
    let long : length berths ≡ c.blocks_for.result = c.in-Some.ensures.all in
    let total : length sorted + c.count_records.result ≡ length sorted + length items = ap (λ n. length sorted + n) (c.count_records.ensures ∙ ap (λ xs. length (internal_items xs)) c.deref.ensures.value) in
    let all = length-append items sorted in
    let left = length (left_in body.runs.internal.items sorted) in
    let block : (g.P.Supply.stock c.args.supply.now).block ≡ block_in body.lanes.idle = sym c.requires.block ∙ sym same in
    let room : left ≤ length berths * c.args.block = subst (λ k. left ≤ k * c.args.block) (sym long) (omega (arith, c.blocks_for.ensures.enough, total, all)) in
    let least : length berths * c.args.block < left + c.args.block = subst (λ k. k * c.args.block < left + c.args.block) (sym long) (omega (arith, c.blocks_for.ensures.least, total, all)) in
    record {
      some = subst (λ b. 1 ≤ b) block may.size.some;
      leaves = may.leaves;
      idle = some;
      few_idle = may.few_idle;
      blocks = subst (λ b. All (HasBlock b) body.lanes.idle) block may.size.idle;
      no_job = may.no_job;
      empty = c.empty-made.ensures;
      few = may.few;
      few_slots = omega (arith, long, c.blocks_for.ensures.few, total, may.few);
      sizes = subst (λ b. All (HasSlot g.S.Slot.shown (b * g.R.Record.WIDTH)) berths) block c.in-Some.ensures.drawn.sizes;
      room = subst (λ b. left ≤ length berths * b) (sym same) room;
      least = subst (λ b. length berths * b < left + b) (sym same) least;
    }

pub returns-in_default-clause-leaves : goal.returns-in_default-clause-leaves
returns-in_default-clause-leaves g c =
    let body = c.args.body.now in
    let shown = g.S.Slot.shown in
    let stock = g.P.Supply.stock c.args.supply.now in
    let now = g.P.Supply.stock c.draw_slots.new.supply in
    let is = c.requires.room.size in
    let found = c.in_default.ensures.few in
    let calls = went_refused stock now c.blocks_for.result (external_slots shown body.runs.external.items) (job_slots shown body.lanes.jobs.items) found in
    record {
      kept = kept_refused stock now c.blocks_for.result (external_slots shown body.runs.external.items) (job_slots shown body.lanes.jobs.items) _ found;
      takes_back = record {
        slots = omega (arith, c.requires.room.takes_back.slots, ap (λ s. s.slot_room) found.stock);
        buffers = omega (arith, c.requires.room.takes_back.buffers, ap (λ s. s.buffer_room) found.stock);
      };
      tells = calls.went.tells;
      untold = calls.untold;
      writes = record {
        blocks = 0;
        few = omega (arith, c.requires.some, (let z : 0 * stock.block ≡ 0 = omega arith in z));
        transfers = more_writes 0 _ _ calls.went;
        stay = calls.went.calls.stay;
      };
      lanes = search;
      size = sizes_after shown g.R.Record.WIDTH body _ stock now is (ap (λ s. s.block) found.stock) is.idle is.internal is.external;
      rooms = search;
    }

pub returns-in_default-clause-outcome : goal.returns-in_default-clause-outcome
returns-in_default-clause-outcome g c =
    let found = c.in_default.ensures.few in
    let body = c.args.body.now in
    let total : length c.args.sorted.now + c.count_records.result ≡ length c.args.sorted.now + length (internal_items body.runs.internal.items) = ap (λ n. length c.args.sorted.now + n) (c.count_records.ensures ∙ ap (λ xs. length (internal_items xs)) c.deref.ensures.value) in
    let least : c.blocks_for.result * c.args.block < length c.args.sorted.now + length (internal_items body.runs.internal.items) + c.args.block = omega (arith, c.blocks_for.ensures.least, total) in
    let few = too_few (length (g.P.Supply.stock c.draw_slots.new.supply).kept) c.blocks_for.result (length c.args.sorted.now + length (internal_items body.runs.internal.items)) c.args.block found.few least in
    let before = too_few (length (g.P.Supply.stock c.args.supply.now).kept) c.blocks_for.result (length c.args.sorted.now + length (internal_items body.runs.internal.items)) c.args.block (omega (arith, found.few, found.still)) least in
    record {
      untouched = found.moved;
      dry = found.dry;
      unsure = subst (λ b. length (g.P.Supply.stock c.args.supply.now).kept * b < length c.args.sorted.now + length (internal_items body.runs.internal.items)) c.requires.block before;
      still = found.still;
      still_few = subst (λ b. length (g.P.Supply.stock c.draw_slots.new.supply).kept * b < length c.args.sorted.now + length (internal_items body.runs.internal.items)) c.requires.block few;
      internal = refl;
      external = refl;
      idle = refl;
      buffers = ap (λ s. s.buffer_room) found.stock;
    }

pub returns-in-None-clause-leaves : goal.returns-in-None-clause-leaves
returns-in-None-clause-leaves g c =
    let body = c.args.body.now in
    let shown = g.S.Slot.shown in
    let same : block_in body.lanes.idle ≡ c.args.block = block_in_is c.args.block body.lanes.idle (omega (arith, c.requires.room.buffer)) (subst (λ b. All (HasBlock b) body.lanes.idle) (sym c.requires.block) c.requires.room.size.idle) in
    let writing = subst (λ b. Writing g.R.Ord.cmp g.R.Record.record_of g.R.Record.WIDTH b g.S.Slot.shown c.in-Some.berths body.runs.internal.items c.args.sorted.now [] c.write_run-failed.new.body.runs.internal.items [] c.write_run-failed.new.making.made) same c.in-None.ensures.outcome in
    let rests = c.write_run-failed.ensures.rests in
    let no_job : c.write_run-failed.new.body.lanes.jobs.items ≡ body.lanes.jobs.items = rests.no_job ∙ sym c.requires.room.no_job in
    let pushed = c.push_reserved.ensures.items ∙ ap (λ v. v.items ++ c.write_run-failed.new.making.made ∷ []) rests.external in
    let idle = subst (λ b. SameBuffers b body.lanes.idle c.write_run-failed.new.body.lanes.idle) same rests.idle in
    let jobs = job_slots shown c.write_run-failed.new.body.lanes.jobs.items in
    let same_jobs = ap (job_slots shown) no_job in
    let array = c.write_run-failed.new.making.made in
    let old = g.P.Supply.stock c.args.supply.now in
    let all = length c.args.sorted.now + length (internal_items body.runs.internal.items) in
    let total : length c.args.sorted.now + c.count_records.result ≡ all = ap (λ n. length c.args.sorted.now + n) (c.count_records.ensures ∙ ap (λ xs. length (internal_items xs)) c.deref.ensures.value) in
    let long : length array.stored ≡ c.blocks_for.result = omega (arith, writing.went.went.same.length, length-append (slots_shown shown array.stored) [], slots_long shown array.stored, slots_long shown c.in-Some.berths, c.in-Some.ensures.all) in
    let few : length array.stored * c.args.block < all + c.args.block = subst (λ k. k * c.args.block < all + c.args.block) (sym long) (omega (arith, c.blocks_for.ensures.least, total)) in
    let is = c.requires.room.size in
    let w = g.R.Record.WIDTH in
    let block : (g.P.Supply.stock c.release_runs.new.supply).block ≡ old.block = ap (λ s. s.block) c.release_runs.ensures.stock ∙ ap (λ s. s.block) c.in-Some.ensures.drawn.stock in
    let put = subst (λ b. All (HasSlot shown (b * w)) array.stored) c.requires.block (all_left (HasSlot shown (c.args.block * w)) array.stored [] writing.sizes) in
    let drew = g.P.Supply.stock c.draw_slots.new.supply in
    let now = g.P.Supply.stock c.release_runs.new.supply in
    let more = ap (external_slots shown) pushed ∙ slots_more shown body.runs.external.items array in
    let calls = went_written shown w old drew (external_slots shown body.runs.external.items) (job_slots shown body.lanes.jobs.items) (external_slots shown c.push_reserved.new.self.items) jobs c.in-Some.berths array c.in-Some.ensures.drawn more same_jobs now now.sure_buffers _ c.release_runs.ensures.stock (length array.stored) writing.went in
    record {
      kept = kept_written shown w old drew (external_slots shown body.runs.external.items) (job_slots shown body.lanes.jobs.items) (external_slots shown c.push_reserved.new.self.items) jobs c.in-Some.berths array c.in-Some.ensures.drawn more same_jobs now now.sure_buffers _ c.release_runs.ensures.stock (length array.stored)
          (internal_buffers body.runs.internal.items) (internal_buffers c.write_run-failed.new.body.runs.internal.items) (internal_buffers c.release_runs.new.internal.items)
          (external_buffers body.runs.external.items) (external_buffers c.push_reserved.new.self.items)
          (length body.lanes.idle + length body.lanes.jobs.items) (length c.write_run-failed.new.body.lanes.idle + length c.write_run-failed.new.body.lanes.jobs.items)
          writing.went refl (same_buffers body.runs.internal.items c.write_run-failed.new.body.runs.internal.items writing.buffers) c.requires.room.takes_back.buffers
          (ap internal_buffers c.release_runs.ensures.none)
          (ap external_buffers pushed ∙ buffers_more shown body.runs.external.items array writing.shape)
          (omega (arith, idle.long, ap length no_job));
      takes_back = record {
        slots = omega (
          arith,
          c.requires.room.takes_back.slots,
          ap length more,
          length-append (external_slots shown body.runs.external.items) (slots_shown shown array.stored),
          slots_long shown array.stored,
          long,
          c.in-Some.ensures.all,
          ap (λ s. s.slot_room) c.release_runs.ensures.stock,
          ap (λ s. s.slot_room) c.in-Some.ensures.drawn.stock,
        );
        buffers = omega (arith, ap internal_buffers c.release_runs.ensures.none);
      };
      tells = calls.went.tells;
      untold = calls.untold;
      writes = record {
        blocks = length array.stored;
        few = subst (λ b. length array.stored * b < all + b) c.requires.block few;
        transfers = more_writes (length array.stored) _ _ calls.went;
        stay = calls.went.calls.stay;
      };
      lanes = record { no_job = rests.no_job; idle = rests.idle.long; batch = ap (λ v. length v.items) rests.batch; room = rests.job_room };
      size = sizes_after shown w c.args.body.now _ old (g.P.Supply.stock c.release_runs.new.supply) is block
          (subst (λ b. All (HasBlock b) c.write_run-failed.new.body.lanes.idle) c.requires.block idle.blocks)
          (subst (All (RunHasBlock old.block)) (sym c.release_runs.ensures.none) (λ k d h. absurd (omega arith)))
          (subst (All (HasSlots shown (old.block * w))) (sym pushed) (All-push (HasSlots shown (old.block * w)) c.args.body.now.runs.external.items array is.external put));
      rooms = record { internal = c.release_runs.ensures.room ∙ rests.internal_room; external = c.push_reserved.ensures.capacity ∙ ap (λ v. vec_capacity v) rests.external; tree = rests.leaves };
    }

pub returns-in-None-clause-outcome : goal.returns-in-None-clause-outcome
returns-in-None-clause-outcome g c =
    let body = c.args.body.now in
    let same : block_in body.lanes.idle ≡ c.args.block = block_in_is c.args.block body.lanes.idle (omega (arith, c.requires.room.buffer)) (subst (λ b. All (HasBlock b) body.lanes.idle) (sym c.requires.block) c.requires.room.size.idle) in
    let writing = subst (λ b. Writing g.R.Ord.cmp g.R.Record.record_of g.R.Record.WIDTH b g.S.Slot.shown c.in-Some.berths body.runs.internal.items c.args.sorted.now [] c.write_run-failed.new.body.runs.internal.items [] c.write_run-failed.new.making.made) same c.in-None.ensures.outcome in
    let rests = c.write_run-failed.ensures.rests in
    let no_job : c.write_run-failed.new.body.lanes.jobs.items ≡ body.lanes.jobs.items = rests.no_job ∙ sym c.requires.room.no_job in
    let pushed = c.push_reserved.ensures.items ∙ ap (λ v. v.items ++ c.write_run-failed.new.making.made ∷ []) rests.external in
    let total : length c.args.sorted.now + c.count_records.result ≡ length c.args.sorted.now + length (internal_items body.runs.internal.items) = ap (λ n. length c.args.sorted.now + n) (c.count_records.ensures ∙ ap (λ xs. length (internal_items xs)) c.deref.ensures.value) in
    let need : length c.in-Some.berths ≡ c.blocks_for.result = c.in-Some.ensures.all in
    let few_slots : length c.in-Some.berths * c.args.block < length c.args.sorted.now + length (internal_items body.runs.internal.items) + c.args.block = subst (λ k. k * c.args.block < length c.args.sorted.now + length (internal_items body.runs.internal.items) + c.args.block) (sym need) (omega (arith, c.blocks_for.ensures.least, total)) in
    blocks_stored g.R.Ord.cmp g.R.Record.record_of g.R.Record.WIDTH c.args.block g.S.Slot.shown c.args.sorted.now c.args.body.now _ (g.P.Supply.stock c.args.supply.now) (g.P.Supply.stock c.draw_slots.new.supply) (g.P.Supply.stock c.release_runs.new.supply)
    c.in-Some.berths c.write_run-failed.new.body.runs.internal.items c.write_run-failed.new.making.made c.in-Some.ensures.drawn (ap (λ s. s.drawn) c.release_runs.ensures.stock) (ap (λ s. s.kept) c.release_runs.ensures.stock) writing c.requires.block few_slots c.requires.ascend c.release_runs.ensures.none pushed no_job

pub returns-in-Some-failed-clause-leaves : goal.returns-in-Some-failed-clause-leaves
returns-in-Some-failed-clause-leaves g c =
    let body = c.args.body.now in
    let shown = g.S.Slot.shown in
    let same : block_in body.lanes.idle ≡ c.args.block = block_in_is c.args.block body.lanes.idle (omega (arith, c.requires.room.buffer)) (subst (λ b. All (HasBlock b) body.lanes.idle) (sym c.requires.block) c.requires.room.size.idle) in
    let failed = subst (λ b. WriteFailed g.S.Slot.shown (b * g.R.Record.WIDTH) c.in-Some.berths body.runs.internal.items c.write_run-failed.new.making.berths c.write_run-failed.new.body.runs.internal.items c.write_run-failed.new.making.made c.in-Some-failed.berth) same c.in-Some-failed.ensures.outcome in
    let rests = c.write_run-failed.ensures.rests in
    let no_job : c.write_run-failed.new.body.lanes.jobs.items ≡ body.lanes.jobs.items = rests.no_job ∙ sym c.requires.room.no_job in
    let pushed = c.push_reserved.ensures.items ∙ ap (λ v. v.items ++ c.write_run-failed.new.making.made ∷ []) rests.external in
    let idle = subst (λ b. SameBuffers b body.lanes.idle c.write_run-failed.new.body.lanes.idle) same rests.idle in
    let jobs = job_slots shown c.write_run-failed.new.body.lanes.jobs.items in
    let same_jobs = ap (job_slots shown) no_job in
    let array = c.write_run-failed.new.making.made in
    let old = g.P.Supply.stock c.args.supply.now in
    let more = ap (external_slots shown) pushed ∙ slots_more shown body.runs.external.items array in
    let all = length c.args.sorted.now + length (internal_items body.runs.internal.items) in
    let total : length c.args.sorted.now + c.count_records.result ≡ all = ap (λ n. length c.args.sorted.now + n) (c.count_records.ensures ∙ ap (λ xs. length (internal_items xs)) c.deref.ensures.value) in
    let most = length c.in-Some.berths in
    let few : most * c.args.block < all + c.args.block = fewer most c.blocks_for.result c.args.block (all + c.args.block) (omega (arith, c.in-Some.ensures.all)) (omega (arith, c.blocks_for.ensures.least, total)) in
    let is = c.requires.room.size in
    let w = g.R.Record.WIDTH in
    let block : (g.P.Supply.stock c.free_slots.new.supply).block ≡ old.block = ap (λ s. s.block) c.free_slots.ensures.stock ∙ ap (λ s. s.block) c.free_slot.ensures.back ∙ ap (λ s. s.block) c.in-Some.ensures.drawn.stock in
    let put = subst (λ b. All (HasSlot shown (b * w)) array.stored) c.requires.block (all_left (HasSlot shown (c.args.block * w)) array.stored (c.in-Some-failed.berth ∷ c.write_run-failed.new.making.berths) failed.sizes) in
    let drew = g.P.Supply.stock c.draw_slots.new.supply in
    let freed = g.P.Supply.stock c.free_slot.new.supply in
    let now = g.P.Supply.stock c.free_slots.new.supply in
    let same = same_buffers body.runs.internal.items c.write_run-failed.new.body.runs.internal.items failed.buffers in
    let calls = went_failed shown w old drew (external_slots shown body.runs.external.items) (job_slots shown body.lanes.jobs.items) (external_slots shown c.push_reserved.new.self.items) jobs c.in-Some.berths array c.in-Some.ensures.drawn more same_jobs freed now c.write_run-failed.new.making.berths c.in-Some-failed.berth c.free_slot.ensures.back c.free_slots.ensures.stock most failed.went in
    let room = room_failed shown w old drew (external_slots shown body.runs.external.items) (job_slots shown body.lanes.jobs.items) (external_slots shown c.push_reserved.new.self.items) jobs c.in-Some.berths array c.in-Some.ensures.drawn more same_jobs freed now c.write_run-failed.new.making.berths c.in-Some-failed.berth c.free_slot.ensures.back c.free_slots.ensures.stock most failed.went in
    let buffers = buffers_failed shown w old drew (external_slots shown body.runs.external.items) (job_slots shown body.lanes.jobs.items) (external_slots shown c.push_reserved.new.self.items) jobs c.in-Some.berths array c.in-Some.ensures.drawn more same_jobs freed now c.write_run-failed.new.making.berths c.in-Some-failed.berth c.free_slot.ensures.back c.free_slots.ensures.stock most failed.went in
    record {
      kept = kept_failed shown w old drew (external_slots shown body.runs.external.items) (job_slots shown body.lanes.jobs.items) (external_slots shown c.push_reserved.new.self.items) jobs c.in-Some.berths array c.in-Some.ensures.drawn more same_jobs freed now c.write_run-failed.new.making.berths c.in-Some-failed.berth c.free_slot.ensures.back c.free_slots.ensures.stock most failed.went
          (internal_buffers body.runs.internal.items) (internal_buffers c.write_run-failed.new.body.runs.internal.items)
          (external_buffers body.runs.external.items) (external_buffers c.push_reserved.new.self.items)
          (length body.lanes.idle + length body.lanes.jobs.items) (length c.write_run-failed.new.body.lanes.idle + length c.write_run-failed.new.body.lanes.jobs.items)
          same (ap external_buffers pushed ∙ buffers_more shown body.runs.external.items array failed.shape) (omega (arith, idle.long, ap length no_job));
      takes_back = record {
        slots = omega (arith, c.requires.room.takes_back.slots, room, ap length more, length-append (external_slots shown body.runs.external.items) (slots_shown shown array.stored), slots_long shown array.stored);
        buffers = omega (arith, c.requires.room.takes_back.buffers, buffers, same);
      };
      tells = calls.went.tells;
      untold = calls.untold;
      writes = record {
        blocks = most;
        few = subst (λ b. most * b < all + b) c.requires.block few;
        transfers = more_writes most _ _ calls.went;
        stay = calls.went.calls.stay;
      };
      lanes = record { no_job = rests.no_job; idle = rests.idle.long; batch = ap (λ v. length v.items) rests.batch; room = rests.job_room };
      size = sizes_after shown w c.args.body.now _ old (g.P.Supply.stock c.free_slots.new.supply) is block
          (subst (λ b. All (HasBlock b) c.write_run-failed.new.body.lanes.idle) c.requires.block idle.blocks)
          (same_blocks old.block c.args.body.now.runs.internal.items c.write_run-failed.new.body.runs.internal.items failed.buffers is.internal)
          (subst (All (HasSlots shown (old.block * w))) (sym pushed) (All-push (HasSlots shown (old.block * w)) c.args.body.now.runs.external.items array is.external put));
      rooms = record { internal = rests.internal_room; external = c.push_reserved.ensures.capacity ∙ ap (λ v. vec_capacity v) rests.external; tree = rests.leaves };
    }

pub returns-in-Some-failed-clause-outcome : goal.returns-in-Some-failed-clause-outcome
returns-in-Some-failed-clause-outcome g c =
    let body = c.args.body.now in
    let written = c.write_run-failed.new in
    let pushed = c.push_reserved.ensures.items ∙ ap (λ v. v.items ++ written.making.made ∷ []) c.write_run-failed.ensures.rests.external in
    run_stopped g.S.Slot.shown g.R.Record.WIDTH (g.P.Supply.stock c.args.supply.now) (g.P.Supply.stock c.draw_slots.new.supply) (g.P.Supply.stock c.free_slot.new.supply) (g.P.Supply.stock c.free_slots.new.supply) body _ c.in-Some.berths written.making.berths
    written.making.made c.in-Some-failed.berth _ _ c.in-Some.ensures.drawn c.free_slot.ensures.back c.free_slots.ensures.stock c.in-Some-failed.ensures.outcome.first pushed c.number-number.ensures
