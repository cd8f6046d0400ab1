-- The sweep of a graph, where no queue was opened, where one was, and where both were.
use Rattle.std.proofs.Common.{◌≡◌, ◌∙◌, ◌*◌, ◌++◌, List, length, map, min, refl, ap, ap₂, subst, arith}
use Rattle.std.specs.Prelude.{vec_capacity}
use Rattle.ppq_sweep.specs.ppq_queue.Shown.{Shown}
use Rattle.ppq_sweep.specs.ppq_queue.Kept.{SameSums}
use Rattle.ppq_event.proofs.ppq_queue.Slots.{slots-sums}
use Rattle.ppq_event.proofs.ppq_queue.ppq_spill.SameSlots.{SameSlots-refl}
use Rattle.ppq_engine.proofs.Ending.{same_blocks}
use Rattle.ppq_jobs.proofs.BothSlots.{shown-both, new-first, new-second, sums-length, sums-later, room-later, slots-later}
use Rattle.ppq_jobs.proofs.SweepClauses.{sweep-part, sweep-done, sweep-good, sweep-full, sweep-failed, sweep-unfailed, sweep-nothing, sweep-sink_stays, sweep-library_stays, sweep-answer}
use Rattle.ppq_jobs.proofs.sweep.run_graph.Given as over
use Rattle.ppq_jobs.proofs.sweep.run_graph.Goals.{After-close, After-drop-piece-2}
use Rattle.ppq_jobs.proofs.sweep.run_graph.Goals as goal

pub open-requires-after_bounds : goal.open-requires-after_bounds
open-requires-after_bounds g c κs within =
    let first = c.split-first.result.0.items in
    let half : length first ≡ min c.args.sizes.blocks (length c.args.slots.items) = omega (arith, c.split-first.ensures.first, c.blocks-half.ensures.same) in
    new-first g.S.Slot.shown c.args.slots.items first c.split-first.result.1.items c.split-first.ensures.all c.args.sizes c.requires.slots half

pub together-requires-clause-room : goal.together-requires-clause-room
together-requires-clause-room g c =
    let shown = g.S.Slot.shown in
    let first = c.split-first.result.0.items in
    let second = c.split-first.result.1.items in
    room-later shown c.args.slots.items first second c.split-first.ensures.all c.args.sizes c.blocks-half.result (vec_capacity c.in-Ok-new.halves.all) c.in-Err.first.items second c.requires.slots
    (sums-length shown (map shown first) c.in-Err.first.items c.in-Err.ensures.back) (sums-length shown (map shown second) second (λ f. refl)) c.blocks-half.ensures.same c.in-Ok-new.ensures.room.1

pub returns-in-Err-clause-blocks : goal.returns-in-Err-clause-blocks
returns-in-Err-clause-blocks g c =
    let shown = g.S.Slot.shown in
    let first = c.split-first.result.0.items in
    let second = c.split-first.result.1.items in
    slots-later shown c.args.slots.items first second c.split-first.ensures.all c.in-Err.first.items second c.together.result.items (slots-sums (map shown first) (map shown c.in-Err.first.items) c.in-Err.ensures.back)
    (SameSlots-refl (map shown second)) c.together.ensures

pub open-requires-2-after_bounds : goal.open-requires-2-after_bounds
open-requires-2-after_bounds g c κs within =
    let first = c.split-first.result.0.items in
    let half : length first ≡ min c.args.sizes.blocks (length c.args.slots.items) = omega (arith, c.split-first.ensures.first, c.blocks-half.ensures.same) in
    new-second g.S.Slot.shown c.args.slots.items first c.split-first.result.1.items c.split-first.ensures.all c.args.sizes c.requires.slots half

-- the blocks of the edges come back, where the notes got no queue
edges_back : (g : over.Over) (c : After-close g) → SameSums (map g.S.Slot.shown c.split-first.result.0.items) (map g.S.Slot.shown c.close.result.items)
edges_back g c = subst (λ (s : List Shown). SameSums s (map g.S.Slot.shown c.close.result.items)) c.in-Ok-open.ensures.slots c.close.ensures

pub together-requires-in-Err-open-clause-room : goal.together-requires-in-Err-open-clause-room
together-requires-in-Err-open-clause-room g c =
    let shown = g.S.Slot.shown in
    let first = c.split-first.result.0.items in
    let second = c.split-first.result.1.items in
    room-later shown c.args.slots.items first second c.split-first.ensures.all c.args.sizes c.blocks-half.result (vec_capacity c.in-Ok-new.halves.all) c.close.result.items c.in-Err-open.second.items c.requires.slots
    (sums-length shown (map shown first) c.close.result.items (edges_back g c)) (sums-length shown (map shown second) c.in-Err-open.second.items c.in-Err-open.ensures.back) c.blocks-half.ensures.same c.in-Ok-new.ensures.room.1

pub returns-in-Err-open-clause-blocks : goal.returns-in-Err-open-clause-blocks
returns-in-Err-open-clause-blocks g c =
    let shown = g.S.Slot.shown in
    let first = c.split-first.result.0.items in
    let second = c.split-first.result.1.items in
    let back = edges_back g (goal.at.returns-in-Err-open-clause-blocks g c).After-close in
    slots-later shown c.args.slots.items first second c.split-first.ensures.all c.close.result.items c.in-Err-open.second.items c.together-in-Err-open.result.items (slots-sums (map shown first) (map shown c.close.result.items) back)
    (slots-sums (map shown second) (map shown c.in-Err-open.second.items) c.in-Err-open.ensures.back) c.together-in-Err-open.ensures

pub together-requires-2-clause-room : goal.together-requires-2-clause-room
together-requires-2-clause-room g c =
    let shown = g.S.Slot.shown in
    let first = c.split-first.result.0.items in
    let second = c.split-first.result.1.items in
    let e = c.sweep_opened-edges.ensures in
    let edges : length c.close-2.result.items ≡ length (map shown first) = sums-length shown c.sweep_opened-edges.result.0.slots c.close-2.result.items c.close-2.ensures ∙ e.edges_slots.length ∙ ap length c.in-Ok-open.ensures.slots in
    let notes : length c.close-3.result.items ≡ length (map shown second) = sums-length shown c.sweep_opened-edges.result.1.slots c.close-3.result.items c.close-3.ensures ∙ e.notes_slots.length ∙ ap length c.in-Ok-open-2.ensures.slots in
    room-later shown c.args.slots.items first second c.split-first.ensures.all c.args.sizes c.blocks-half.result (vec_capacity c.in-Ok-new.halves.all) c.close-2.result.items c.close-3.result.items c.requires.slots edges notes
    c.blocks-half.ensures.same c.in-Ok-new.ensures.room.1

-- the queues began with the blocks that were handed in
began : (g : over.Over) (c : After-drop-piece-2 g) → c.in-Ok-open.edges.slots ++ c.in-Ok-open-2.notes.slots ≡ map g.S.Slot.shown c.args.slots.items
began g c =
    ap₂ (λ (a b : List Shown). a ++ b) c.in-Ok-open.ensures.slots c.in-Ok-open-2.ensures.slots
    ∙ shown-both g.S.Slot.shown c.args.slots.items c.split-first.result.0.items c.split-first.result.1.items c.split-first.ensures.all

-- and their blocks come back
back : (g : over.Over) (c : After-drop-piece-2 g) → SameSums (c.sweep_opened-edges.result.0.slots ++ c.sweep_opened-edges.result.1.slots) (map g.S.Slot.shown c.together-2.result.items)
back g c =
    sums-later g.S.Slot.shown c.sweep_opened-edges.result.0.slots c.sweep_opened-edges.result.1.slots c.close-2.result.items c.close-3.result.items c.together-2.result.items c.close-2.ensures c.close-3.ensures c.together-2.ensures

pub returns-clause-done : goal.returns-clause-done
returns-clause-done g c = sweep-done (map g.S.Slot.shown c.args.slots.items) c.args.sizes (began g c) c.in-Ok-open.ensures.sizes c.sweep_opened-edges.ensures.ends

pub returns-clause-part : goal.returns-clause-part
returns-clause-part g c = sweep-part (map g.S.Slot.shown c.args.slots.items) c.args.sizes (began g c) c.in-Ok-open.ensures.sizes c.sweep_opened-edges.ensures.ends

pub returns-clause-nothing : goal.returns-clause-nothing
returns-clause-nothing g c = sweep-nothing (map g.S.Slot.shown c.args.slots.items) c.args.sizes (began g c) c.in-Ok-open.ensures.sizes c.sweep_opened-edges.ensures.ends

pub returns-clause-answer : goal.returns-clause-answer
returns-clause-answer g c = sweep-answer (map g.S.Slot.shown c.args.slots.items) c.args.sizes (began g c) c.in-Ok-open.ensures.sizes c.sweep_opened-edges.ensures.ends c.in-Ok-open.ensures.budget

pub returns-clause-good : goal.returns-clause-good
returns-clause-good g c = sweep-good (map g.S.Slot.shown c.args.slots.items) c.args.sizes (began g c) c.in-Ok-open.ensures.sizes c.sweep_opened-edges.ensures.ends

pub returns-clause-failed : goal.returns-clause-failed
returns-clause-failed g c =
    sweep-failed (map g.S.Slot.shown c.args.slots.items) c.args.sizes (began g c) c.in-Ok-open.ensures.sizes c.sweep_opened-edges.ensures.ends (map g.S.Slot.shown c.together-2.result.items) (back g c)

pub returns-clause-full : goal.returns-clause-full
returns-clause-full g c = sweep-full (map g.S.Slot.shown c.args.slots.items) c.args.sizes (began g c) c.in-Ok-open.ensures.sizes c.sweep_opened-edges.ensures.ends

pub returns-clause-stays : goal.returns-clause-stays
returns-clause-stays g c = sweep-sink_stays (map g.S.Slot.shown c.args.slots.items) c.args.sizes (began g c) c.in-Ok-open.ensures.sizes c.sweep_opened-edges.ensures.ends

pub returns-clause-blocks : goal.returns-clause-blocks
returns-clause-blocks g c =
    let shown = g.S.Slot.shown in
    let first = c.split-first.result.0.items in
    let second = c.split-first.result.1.items in
    let e = c.sweep_opened-edges.ensures in
    let one = same_blocks (map shown first) c.in-Ok-open.edges.slots c.sweep_opened-edges.result.0.slots (map shown c.close-2.result.items) c.in-Ok-open.ensures.slots e.edges_slots c.close-2.ensures in
    let other = same_blocks (map shown second) c.in-Ok-open-2.notes.slots c.sweep_opened-edges.result.1.slots (map shown c.close-3.result.items) c.in-Ok-open-2.ensures.slots e.notes_slots c.close-3.ensures in
    slots-later shown c.args.slots.items first second c.split-first.ensures.all c.close-2.result.items c.close-3.result.items c.together-2.result.items one other c.together-2.ensures

pub returns-clause-unfailed : goal.returns-clause-unfailed
returns-clause-unfailed g c =
    sweep-unfailed (map g.S.Slot.shown c.args.slots.items) c.args.sizes (began g c) c.in-Ok-open.ensures.sizes c.sweep_opened-edges.ensures.ends (map g.S.Slot.shown c.together-2.result.items) (back g c) (c.args.sizes.block * 16)
    c.requires.slots.fresh

pub returns-clause-library_stays : goal.returns-clause-library_stays
returns-clause-library_stays g c = sweep-library_stays (map g.S.Slot.shown c.args.slots.items) c.args.sizes (began g c) c.in-Ok-open.ensures.sizes c.sweep_opened-edges.ensures.ends
