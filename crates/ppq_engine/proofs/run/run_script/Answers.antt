use Rattle.std.proofs.Common.{ℕ, ◌*◌, List, Option, map, subst, inr}
use Rattle.ppq_script.specs.Words.{words}
use Rattle.ppq_script.specs.ppq_outside.Shown.{Shown, AllTell}
use Rattle.ppq_script.specs.ppq_outside.Told.{TakesPart}
use Rattle.ppq_script.specs.Reading.{command_list}
use Rattle.ppq_load.specs.ppq_budget.Sizes.{Numbers}
use Rattle.ppq_load.proofs.ppq_queue.Slots.{slots-sums}
use Rattle.ppq_engine.specs.Output.{AreFilesOf, given_of, output_of}
use Rattle.ppq_engine.specs.Outcome.{EndSays, FaultBeforeFile}
use Rattle.ppq_engine.specs.Work.{TransfersFew}
use Rattle.ppq_engine.proofs.Counted.{transfers-same, transfers-none}
use Rattle.ppq_engine.proofs.Ending.{says-first, says-began, says-sink_stays, says-library_stays, same_blocks, end-done, end-used, end-used_any, end-unfailed, end-within, end-memory, end-above, end-above_any, end-failed, end-complete, end-complete_any}
use Rattle.ppq_engine.proofs.Running.{takes_none}
use Rattle.ppq_engine.proofs.run.run_script.Given as given
use Rattle.ppq_engine.proofs.run.run_script.Goals as goal

pub returns-in_default-clause-part : goal.returns-in_default-clause-part
returns-in_default-clause-part g c = let w = words g.R.PartialEq g.R.PartialOrd g.R.Ord g.R.Record g.R.Fields in
    λ tells files are. takes_none (g.O.Sink.told c.args.out.now) (output_of w c.args.form (given_of w files c.args.script.now) (command_list c.args.script.now))

pub returns-in-Err-clause-part : goal.returns-in-Err-clause-part
returns-in-Err-clause-part g c = let w = words g.R.PartialEq g.R.PartialOrd g.R.Ord g.R.Record g.R.Fields in
    λ tells files are. takes_none (g.O.Sink.told c.args.out.now) (output_of w c.args.form (given_of w files c.args.script.now) (command_list c.args.script.now))

-- what the end says, of the blocks and sizes that were handed in
says :
    (g : given.Over) (c : goal.After-close g)
    → EndSays (words g.R.PartialEq g.R.PartialOrd g.R.Ord g.R.Record g.R.Fields) c.args.form (g.L.Library.told c.args.library.now) (g.L.Library.replied c.run_opened-queue.new.library) c.args.script.now (map g.S.Slot.shown c.args.slots.items) c.run_opened-queue.result.0.slots c.args.sizes (g.O.Sink.told c.args.out.now) (g.O.Sink.told c.run_opened-queue.new.out) (g.O.Sink.faults c.args.out.now) (g.O.Sink.faults c.run_opened-queue.new.out) (g.L.Library.faults c.args.library.now) (g.L.Library.faults c.run_opened-queue.new.library) c.run_opened-queue.result.1
says g c = let w = words g.R.PartialEq g.R.PartialOrd g.R.Ord g.R.Record g.R.Fields in
    says-first w c.args.form (g.L.Library.told c.args.library.now) (g.L.Library.replied c.run_opened-queue.new.library) c.args.script.now (map g.S.Slot.shown c.args.slots.items) c.args.sizes (g.O.Sink.told c.args.out.now) (g.O.Sink.told c.run_opened-queue.new.out) (g.O.Sink.faults c.args.out.now) (g.O.Sink.faults c.run_opened-queue.new.out) (g.L.Library.faults c.args.library.now) (g.L.Library.faults c.run_opened-queue.new.library) c.in-Ok-open.queue.slots c.in-Ok-open.queue.sizes c.run_opened-queue.result.0.slots c.run_opened-queue.result.1 c.in-Ok-open.ensures.slots c.in-Ok-open.ensures.sizes c.run_opened-queue.ensures.ends.says

pub returns-clause-answer : goal.returns-clause-answer
returns-clause-answer g c = let w = words g.R.PartialEq g.R.PartialOrd g.R.Ord g.R.Record g.R.Fields in
    says-began w c.args.form (g.L.Library.told c.args.library.now) (g.L.Library.replied c.run_opened-queue.new.library) c.args.script.now (map g.S.Slot.shown c.args.slots.items) c.args.sizes (g.O.Sink.told c.args.out.now) (g.O.Sink.told c.run_opened-queue.new.out) (g.O.Sink.faults c.args.out.now) (g.O.Sink.faults c.run_opened-queue.new.out) (g.L.Library.faults c.args.library.now) (g.L.Library.faults c.run_opened-queue.new.library) c.run_opened-queue.result.0.slots c.run_opened-queue.result.1 (says g c) c.in-Ok-open.ensures.budget

pub returns-clause-done : goal.returns-clause-done
returns-clause-done g c = let w = words g.R.PartialEq g.R.PartialOrd g.R.Ord g.R.Record g.R.Fields in
    end-done w c.args.form (g.L.Library.told c.args.library.now) (g.L.Library.replied c.run_opened-queue.new.library) c.args.script.now (map g.S.Slot.shown c.args.slots.items) c.args.sizes (g.O.Sink.told c.args.out.now) (g.O.Sink.told c.run_opened-queue.new.out) (g.O.Sink.faults c.args.out.now) (g.O.Sink.faults c.run_opened-queue.new.out) (g.L.Library.faults c.args.library.now) (g.L.Library.faults c.run_opened-queue.new.library) c.run_opened-queue.result.0.slots (map g.S.Slot.shown c.close.result.items) c.run_opened-queue.result.1 c.close.ensures (says g c)

pub returns-clause-within : goal.returns-clause-within
returns-clause-within g c = let w = words g.R.PartialEq g.R.PartialOrd g.R.Ord g.R.Record g.R.Fields in
    end-within w c.args.form (g.L.Library.told c.args.library.now) (g.L.Library.replied c.run_opened-queue.new.library) c.args.script.now (map g.S.Slot.shown c.args.slots.items) c.args.sizes (g.O.Sink.told c.args.out.now) (g.O.Sink.told c.run_opened-queue.new.out) (g.O.Sink.faults c.args.out.now) (g.O.Sink.faults c.run_opened-queue.new.out) (g.L.Library.faults c.args.library.now) (g.L.Library.faults c.run_opened-queue.new.library) c.run_opened-queue.result.0.slots (map g.S.Slot.shown c.close.result.items) c.run_opened-queue.result.1 c.close.ensures (says g c)

pub returns-clause-memory : goal.returns-clause-memory
returns-clause-memory g c = let w = words g.R.PartialEq g.R.PartialOrd g.R.Ord g.R.Record g.R.Fields in
    λ is. inr (end-memory w c.args.form (g.L.Library.told c.args.library.now) (g.L.Library.replied c.run_opened-queue.new.library) c.args.script.now (map g.S.Slot.shown c.args.slots.items) c.args.sizes (g.O.Sink.told c.args.out.now) (g.O.Sink.told c.run_opened-queue.new.out) (g.O.Sink.faults c.args.out.now) (g.O.Sink.faults c.run_opened-queue.new.out) (g.L.Library.faults c.args.library.now) (g.L.Library.faults c.run_opened-queue.new.library) c.run_opened-queue.result.0.slots (map g.S.Slot.shown c.close.result.items) c.run_opened-queue.result.1 c.close.ensures (says g c) is)

pub returns-clause-failed : goal.returns-clause-failed
returns-clause-failed g c = let w = words g.R.PartialEq g.R.PartialOrd g.R.Ord g.R.Record g.R.Fields in
    end-failed w c.args.form (g.L.Library.told c.args.library.now) (g.L.Library.replied c.run_opened-queue.new.library) c.args.script.now (map g.S.Slot.shown c.args.slots.items) c.args.sizes (g.O.Sink.told c.args.out.now) (g.O.Sink.told c.run_opened-queue.new.out) (g.O.Sink.faults c.args.out.now) (g.O.Sink.faults c.run_opened-queue.new.out) (g.L.Library.faults c.args.library.now) (g.L.Library.faults c.run_opened-queue.new.library) c.run_opened-queue.result.0.slots (map g.S.Slot.shown c.close.result.items) c.run_opened-queue.result.1 c.close.ensures (says g c)

pub returns-clause-above : goal.returns-clause-above
returns-clause-above g c = let w = words g.R.PartialEq g.R.PartialOrd g.R.Ord g.R.Record g.R.Fields in
    end-above w c.args.form (g.L.Library.told c.args.library.now) (g.L.Library.replied c.run_opened-queue.new.library) c.args.script.now (map g.S.Slot.shown c.args.slots.items) c.args.sizes (g.O.Sink.told c.args.out.now) (g.O.Sink.told c.run_opened-queue.new.out) (g.O.Sink.faults c.args.out.now) (g.O.Sink.faults c.run_opened-queue.new.out) (g.L.Library.faults c.args.library.now) (g.L.Library.faults c.run_opened-queue.new.library) c.run_opened-queue.result.0.slots (map g.S.Slot.shown c.close.result.items) c.run_opened-queue.result.1 c.close.ensures (says g c)

pub returns-clause-above_any : goal.returns-clause-above_any
returns-clause-above_any g c = let w = words g.R.PartialEq g.R.PartialOrd g.R.Ord g.R.Record g.R.Fields in
    end-above_any w c.args.form (g.L.Library.told c.args.library.now) (g.L.Library.replied c.run_opened-queue.new.library) c.args.script.now (map g.S.Slot.shown c.args.slots.items) c.args.sizes (g.O.Sink.told c.args.out.now) (g.O.Sink.told c.run_opened-queue.new.out) (g.O.Sink.faults c.args.out.now) (g.O.Sink.faults c.run_opened-queue.new.out) (g.L.Library.faults c.args.library.now) (g.L.Library.faults c.run_opened-queue.new.library) c.run_opened-queue.result.0.slots (map g.S.Slot.shown c.close.result.items) c.run_opened-queue.result.1 c.close.ensures (says g c)

pub returns-clause-stays : goal.returns-clause-stays
returns-clause-stays g c = let w = words g.R.PartialEq g.R.PartialOrd g.R.Ord g.R.Record g.R.Fields in
    says-sink_stays w c.args.form (g.L.Library.told c.args.library.now) (g.L.Library.replied c.run_opened-queue.new.library) c.args.script.now (map g.S.Slot.shown c.args.slots.items) c.args.sizes (g.O.Sink.told c.args.out.now) (g.O.Sink.told c.run_opened-queue.new.out) (g.O.Sink.faults c.args.out.now) (g.O.Sink.faults c.run_opened-queue.new.out) (g.L.Library.faults c.args.library.now) (g.L.Library.faults c.run_opened-queue.new.library) c.run_opened-queue.result.0.slots c.run_opened-queue.result.1 (says g c)

pub returns-clause-library_stays : goal.returns-clause-library_stays
returns-clause-library_stays g c = let w = words g.R.PartialEq g.R.PartialOrd g.R.Ord g.R.Record g.R.Fields in
    says-library_stays w c.args.form (g.L.Library.told c.args.library.now) (g.L.Library.replied c.run_opened-queue.new.library) c.args.script.now (map g.S.Slot.shown c.args.slots.items) c.args.sizes (g.O.Sink.told c.args.out.now) (g.O.Sink.told c.run_opened-queue.new.out) (g.O.Sink.faults c.args.out.now) (g.O.Sink.faults c.run_opened-queue.new.out) (g.L.Library.faults c.args.library.now) (g.L.Library.faults c.run_opened-queue.new.library) c.run_opened-queue.result.0.slots c.run_opened-queue.result.1 (says g c)

pub returns-clause-used : goal.returns-clause-used
returns-clause-used g c = let w = words g.R.PartialEq g.R.PartialOrd g.R.Ord g.R.Record g.R.Fields in
    end-used w c.args.form (g.L.Library.told c.args.library.now) (g.L.Library.replied c.run_opened-queue.new.library) c.args.script.now (map g.S.Slot.shown c.args.slots.items) c.args.sizes (g.O.Sink.told c.args.out.now) (g.O.Sink.told c.run_opened-queue.new.out) (g.O.Sink.faults c.args.out.now) (g.O.Sink.faults c.run_opened-queue.new.out) (g.L.Library.faults c.args.library.now) (g.L.Library.faults c.run_opened-queue.new.library) c.run_opened-queue.result.0.slots (map g.S.Slot.shown c.close.result.items) c.run_opened-queue.result.1 c.close.ensures (says g c)

pub returns-clause-used_any : goal.returns-clause-used_any
returns-clause-used_any g c = let w = words g.R.PartialEq g.R.PartialOrd g.R.Ord g.R.Record g.R.Fields in
    end-used_any w c.args.form (g.L.Library.told c.args.library.now) (g.L.Library.replied c.run_opened-queue.new.library) c.args.script.now (map g.S.Slot.shown c.args.slots.items) c.args.sizes (g.O.Sink.told c.args.out.now) (g.O.Sink.told c.run_opened-queue.new.out) (g.O.Sink.faults c.args.out.now) (g.O.Sink.faults c.run_opened-queue.new.out) (g.L.Library.faults c.args.library.now) (g.L.Library.faults c.run_opened-queue.new.library) c.run_opened-queue.result.0.slots (map g.S.Slot.shown c.close.result.items) c.run_opened-queue.result.1 c.close.ensures (says g c)

pub returns-clause-unfailed : goal.returns-clause-unfailed
returns-clause-unfailed g c = let w = words g.R.PartialEq g.R.PartialOrd g.R.Ord g.R.Record g.R.Fields in
    end-unfailed w c.args.form (g.L.Library.told c.args.library.now) (g.L.Library.replied c.run_opened-queue.new.library) c.args.script.now (map g.S.Slot.shown c.args.slots.items) c.args.sizes (g.O.Sink.told c.args.out.now) (g.O.Sink.told c.run_opened-queue.new.out) (g.O.Sink.faults c.args.out.now) (g.O.Sink.faults c.run_opened-queue.new.out) (g.L.Library.faults c.args.library.now) (g.L.Library.faults c.run_opened-queue.new.library) c.run_opened-queue.result.0.slots (map g.S.Slot.shown c.close.result.items) c.run_opened-queue.result.1 c.close.ensures (says g c) (c.args.sizes.block * g.R.Record.WIDTH) c.requires.slots.fresh

pub returns-clause-complete : goal.returns-clause-complete
returns-clause-complete g c = let w = words g.R.PartialEq g.R.PartialOrd g.R.Ord g.R.Record g.R.Fields in
    λ fixed. end-complete w c.args.form (g.L.Library.told c.args.library.now) (g.L.Library.replied c.run_opened-queue.new.library) c.args.script.now (map g.S.Slot.shown c.args.slots.items) c.args.sizes (g.O.Sink.told c.args.out.now) (g.O.Sink.told c.run_opened-queue.new.out) (g.O.Sink.faults c.args.out.now) (g.O.Sink.faults c.run_opened-queue.new.out) (g.L.Library.faults c.args.library.now) (g.L.Library.faults c.run_opened-queue.new.library) c.run_opened-queue.result.0.slots (map g.S.Slot.shown c.close.result.items) c.run_opened-queue.result.1 c.close.ensures (says g c)

pub returns-clause-complete_any : goal.returns-clause-complete_any
returns-clause-complete_any g c = let w = words g.R.PartialEq g.R.PartialOrd g.R.Ord g.R.Record g.R.Fields in
    λ fixed. end-complete_any w c.args.form (g.L.Library.told c.args.library.now) (g.L.Library.replied c.run_opened-queue.new.library) c.args.script.now (map g.S.Slot.shown c.args.slots.items) c.args.sizes (g.O.Sink.told c.args.out.now) (g.O.Sink.told c.run_opened-queue.new.out) (g.O.Sink.faults c.args.out.now) (g.O.Sink.faults c.run_opened-queue.new.out) (g.L.Library.faults c.args.library.now) (g.L.Library.faults c.run_opened-queue.new.library) c.run_opened-queue.result.0.slots (map g.S.Slot.shown c.close.result.items) c.run_opened-queue.result.1 c.close.ensures (says g c)

pub returns-clause-part : goal.returns-clause-part
returns-clause-part g c = let w = words g.R.PartialEq g.R.PartialOrd g.R.Ord g.R.Record g.R.Fields in
    let P : List Shown → Type 0 =
    λ f. AllTell f → (files : List ℕ → Option (List ℕ)) → AreFilesOf (g.L.Library.told c.args.library.now) c.args.script.now files → TakesPart (g.O.Sink.told c.args.out.now) (g.O.Sink.told c.run_opened-queue.new.out) (output_of w c.args.form (given_of w files c.args.script.now) (command_list c.args.script.now)) in
    subst P c.in-Ok-open.ensures.slots c.run_opened-queue.ensures.ends.part

pub returns-clause-file : goal.returns-clause-file
returns-clause-file g c = let w = words g.R.PartialEq g.R.PartialOrd g.R.Ord g.R.Record g.R.Fields in
    let P : List Shown → Type 0 = λ f. FaultBeforeFile w c.args.form (g.L.Library.told c.args.library.now) c.args.script.now f (g.O.Sink.told c.args.out.now) (g.O.Sink.told c.run_opened-queue.new.out) c.run_opened-queue.result.1 in
    subst P c.in-Ok-open.ensures.slots c.run_opened-queue.ensures.ends.file

pub returns-clause-blocks : goal.returns-clause-blocks
returns-clause-blocks g c = same_blocks (map g.S.Slot.shown c.args.slots.items) c.in-Ok-open.queue.slots c.run_opened-queue.result.0.slots (map g.S.Slot.shown c.close.result.items) c.in-Ok-open.ensures.slots c.run_opened-queue.ensures.slots c.close.ensures

-- a queue was opened: its blocks come back as they are
pub returns-clause-transfers : goal.returns-clause-transfers
returns-clause-transfers g c = let w = words g.R.PartialEq g.R.PartialOrd g.R.Ord g.R.Record g.R.Fields in
    let commands = command_list c.args.script.now in
    let slots = c.run_opened-queue.result.0.slots in
    let Few : Numbers → Type 0 = λ n. TransfersFew w commands n slots in
    transfers-same w commands c.args.sizes slots (map g.S.Slot.shown c.close.result.items) c.close.ensures (subst Few c.in-Ok-open.ensures.sizes c.run_opened-queue.ensures.transfers)

-- none was, and none of them was called
pub returns-in_default-clause-transfers : goal.returns-in_default-clause-transfers
returns-in_default-clause-transfers g c = let w = words g.R.PartialEq g.R.PartialOrd g.R.Ord g.R.Record g.R.Fields in
    transfers-none w (command_list c.args.script.now) c.args.sizes (c.args.sizes.block * g.R.Record.WIDTH) (map g.S.Slot.shown c.args.slots.items) c.requires.slots.fresh

pub returns-in-Err-clause-transfers : goal.returns-in-Err-clause-transfers
returns-in-Err-clause-transfers g c = let w = words g.R.PartialEq g.R.PartialOrd g.R.Ord g.R.Record g.R.Fields in
    let commands = command_list c.args.script.now in
    let slots = map g.S.Slot.shown c.args.slots.items in
    transfers-same w commands c.args.sizes slots (map g.S.Slot.shown c.in-Err.blocks.items) c.in-Err.ensures.back (transfers-none w commands c.args.sizes (c.args.sizes.block * g.R.Record.WIDTH) slots c.requires.slots.fresh)

pub returns-in-Err-clause-blocks : goal.returns-in-Err-clause-blocks
returns-in-Err-clause-blocks g c = slots-sums (map g.S.Slot.shown c.args.slots.items) (map g.S.Slot.shown c.in-Err.blocks.items) c.in-Err.ensures.back
