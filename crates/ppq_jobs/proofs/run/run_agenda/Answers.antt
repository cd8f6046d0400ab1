-- The run of an agenda, where no queue was opened and where one was.
use Rattle.std.proofs.Common.{map}
use Rattle.ppq_event.proofs.ppq_queue.Slots.{slots-sums}
use Rattle.ppq_engine.proofs.Ending.{same_blocks}
use Rattle.ppq_engine.proofs.Running.{takes_none}
use Rattle.ppq_jobs.proofs.Clauses.{end-done, end-part, end-full, end-nothing, end-answer, end-failed, end-sink_stays, end-unfailed, end-library_stays}
use Rattle.ppq_jobs.proofs.run.run_agenda.Goals as goal

pub returns-in_default-clause-part : goal.returns-in_default-clause-part
returns-in_default-clause-part g c tells files is = takes_none _ _

pub returns-in-Err-clause-part : goal.returns-in-Err-clause-part
returns-in-Err-clause-part g c tells files is = takes_none _ _

pub returns-in-Err-clause-blocks : goal.returns-in-Err-clause-blocks
returns-in-Err-clause-blocks g c = slots-sums (map g.S.Slot.shown c.args.slots.items) (map g.S.Slot.shown c.in-Err.blocks.items) c.in-Err.ensures.back

pub returns-clause-done : goal.returns-clause-done
returns-clause-done g c = let opened = c.in-Ok-open.ensures in end-done (map g.S.Slot.shown c.args.slots.items) c.args.sizes opened.slots opened.sizes c.run_opened-queue.ensures.ends (map g.S.Slot.shown c.close.result.items) c.close.ensures

pub returns-clause-part : goal.returns-clause-part
returns-clause-part g c = let opened = c.in-Ok-open.ensures in end-part (map g.S.Slot.shown c.args.slots.items) c.args.sizes opened.slots opened.sizes c.run_opened-queue.ensures.ends

pub returns-clause-full : goal.returns-clause-full
returns-clause-full g c = let opened = c.in-Ok-open.ensures in end-full (map g.S.Slot.shown c.args.slots.items) c.args.sizes opened.slots opened.sizes c.run_opened-queue.ensures.ends (map g.S.Slot.shown c.close.result.items) c.close.ensures

pub returns-clause-nothing : goal.returns-clause-nothing
returns-clause-nothing g c = let opened = c.in-Ok-open.ensures in end-nothing (map g.S.Slot.shown c.args.slots.items) c.args.sizes opened.slots opened.sizes c.run_opened-queue.ensures.ends

pub returns-clause-answer : goal.returns-clause-answer
returns-clause-answer g c = let opened = c.in-Ok-open.ensures in end-answer (map g.S.Slot.shown c.args.slots.items) c.args.sizes opened.slots opened.sizes c.run_opened-queue.ensures.ends opened.budget

pub returns-clause-failed : goal.returns-clause-failed
returns-clause-failed g c = let opened = c.in-Ok-open.ensures in end-failed (map g.S.Slot.shown c.args.slots.items) c.args.sizes opened.slots opened.sizes c.run_opened-queue.ensures.ends (map g.S.Slot.shown c.close.result.items) c.close.ensures

pub returns-clause-stays : goal.returns-clause-stays
returns-clause-stays g c = let opened = c.in-Ok-open.ensures in end-sink_stays (map g.S.Slot.shown c.args.slots.items) c.args.sizes opened.slots opened.sizes c.run_opened-queue.ensures.ends

pub returns-clause-blocks : goal.returns-clause-blocks
returns-clause-blocks g c = same_blocks (map g.S.Slot.shown c.args.slots.items) c.in-Ok-open.queue.slots c.run_opened-queue.result.0.slots (map g.S.Slot.shown c.close.result.items) c.in-Ok-open.ensures.slots c.run_opened-queue.ensures.slots c.close.ensures

pub returns-clause-unfailed : goal.returns-clause-unfailed
returns-clause-unfailed g c =
    let opened = c.in-Ok-open.ensures in
    end-unfailed (map g.S.Slot.shown c.args.slots.items) c.args.sizes opened.slots opened.sizes c.run_opened-queue.ensures.ends (map g.S.Slot.shown c.close.result.items) c.close.ensures _ c.requires.slots.fresh

pub returns-clause-library_stays : goal.returns-clause-library_stays
returns-clause-library_stays g c = let opened = c.in-Ok-open.ensures in end-library_stays (map g.S.Slot.shown c.args.slots.items) c.args.sizes opened.slots opened.sizes c.run_opened-queue.ensures.ends
