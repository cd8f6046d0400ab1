-- The device was made and the script was run over it, or no device was made.
use Rattle.std.proofs.Common.{◌≡◌, ◌*◌, All, ap, length, map, subst}
use Rattle.ppq_words.specs.ppq_budget.Sizes.{Numbers, AreInRange}
use Rattle.ppq_words.proofs.ppq_outside.Replies.{no_replies}
use Rattle.ppq_words.specs.ppq_script.Words.{words}
use Rattle.ppq_words.specs.ppq_script.Reading.{command_list}
use Rattle.ppq_words.specs.Reading.{as_reading, sizes_at}
use Rattle.ppq_jobs.specs.ppq_engine.ppq_array.Supply.{IsSlot}
use Rattle.ppq_jobs.specs.ppq_engine.Loads.{most_of, least_of, begins_limit, FitsWritten}
use Rattle.ppq_jobs.specs.ppq_engine.Output.{given_of, load_of, crest_of, TakesWithin}
use Rattle.ppq_jobs.specs.ppq_engine.Refusal.{HasNoRoom}
use Rattle.ppq_jobs.specs.ppq_engine.Work.{TransfersFew}
use Rattle.ppq_jobs.proofs.ppq_engine.Counted.{transfers-none}
use Rattle.ppq_jobs.proofs.ppq_engine.Returned.{blocks_back, new_slots_are}
use Rattle.ppq_cli.specs.declared.plan.Plan.{Plan}
use Rattle.ppq_cli.specs.Budget.{refusal_by}
use Rattle.ppq_cli.specs.RunWords.{device_named, blocks_given, IsTriedOrRefusal}
use Rattle.ppq_cli.proofs.Ends.{ran_to_load, fault_to_file, may_write}
use Rattle.ppq_cli.proofs.Making.{begun_answer, ran_outside, run_made, run_unrefused, unmade_outside}
use Rattle.ppq_cli.proofs.RunOver.{shape_planned, unbegun_wrote, unbegun_ends}
use Rattle.ppq_cli.proofs.run.run_over.Goals as goal

-- the device was made, and the script was run

pub returns-in-Ok-clause-written : goal.returns-in-Ok-clause-written
returns-in-Ok-clause-written g c =
    let all = words g.R.PartialEq g.R.PartialOrd g.R.Ord g.R.Record g.R.Fields in
    let same : c.plan_for-plan.result.sizes ≡ sizes_at all.WIDTH (as_reading c.args.arguments.now) = ap (λ (p : Plan). p.sizes) c.plan_for-plan.ensures in
    let r = c.run_script in
    let script = c.args.script.now in
    let commands = command_list script in
    let tell = c.in-Ok.ensures.made.tell in
    let tells = g.K.Rack.tells c.args.rack.now in
    let told = g.L.Library.told c.args.library.now in
    let slots = map g.K.Slot.Slot.shown c.in-Ok.blocks.items in
    let back = map g.K.Slot.Slot.shown r.result.blocks.items in
    let before = g.O.Sink.told c.args.out.now in
    let now = g.O.Sink.told r.new.out in
    let form = c.args.arguments.now.form in
    record {
      done = λ is. record {
        took = λ t. r.ensures.done is (tell t);
        crest = λ t files are. subst (λ (n : Numbers). FitsWritten (crest_of all (given_of all files script) commands) n back) same (r.ensures.used is (tell t) files are);
        least = subst (λ (n : Numbers). FitsWritten (least_of all commands) n back) same (r.ensures.used_any is);
      };
      full = λ is. record {
        part = λ t. r.ensures.part (tell t);
        within = λ t files are. subst (λ (n : Numbers). TakesWithin all form (given_of all files script) before now n commands) same (r.ensures.within is (tell t) files are);
        above = λ t files are. subst (λ (n : Numbers). HasNoRoom n (begins_limit commands) (load_of all (given_of all files script) commands)) same (r.ensures.above is (tell t) files are);
        above_any = subst (λ (n : Numbers). HasNoRoom n (begins_limit commands) (most_of all commands)) same (r.ensures.above_any is);
      };
      part = λ t. r.ensures.part (tell t);
      memory = λ is. ran_to_load all form tells told script slots before now tell (r.ensures.memory is);
      file = fault_to_file all form tells told script slots before now r.result.end tell r.ensures.file;
      nothing = may_write _ c.plan_for-plan.result.sizes r.result.end r.ensures.answer r.ensures.nothing;
    }

pub returns-in-Ok-clause-outside : goal.returns-in-Ok-clause-outside
returns-in-Ok-clause-outside g c =
    let plan = c.plan_for-plan.result in
    let r = as_reading c.args.arguments.now in
    let made = c.in-Ok.ensures.made in
    let e = c.run_script.ensures in
    let end = c.run_script.result.end in
    ran_outside g.L.Library g.K.Rack g.O.Sink g.K.Slot.Slot.shown device_named blocks_given plan g.R.Record.WIDTH r (shape_planned g.R.Record.WIDTH r plan c.plan_for-plan.ensures) c.args.rack.now c.device_for.new.rack
    c.run_script.result c.args.library.now c.run_script.new.library c.args.out.now c.run_script.new.out c.in-Ok.blocks.items made (run_made plan.sizes end e.answer) (run_unrefused plan.sizes end made.enough e.answer)
    e.blocks e.unfailed e.failed e.files e.remembers e.read e.write e.library_later e.library_stays e.later e.stays

pub returns-in-Ok-clause-transfers : goal.returns-in-Ok-clause-transfers
returns-in-Ok-clause-transfers g c =
    let all = words g.R.PartialEq g.R.PartialOrd g.R.Ord g.R.Record g.R.Fields in
    let same : c.plan_for-plan.result.sizes ≡ sizes_at all.WIDTH (as_reading c.args.arguments.now) = ap (λ (p : Plan). p.sizes) c.plan_for-plan.ensures in
    let made = c.in-Ok.ensures.made in
    let slots = map g.K.Slot.Slot.shown c.in-Ok.blocks.items in
    let back = map g.K.Slot.Slot.shown c.run_script.result.blocks.items in
    let bytes = c.plan_for-plan.result.sizes.block * all.WIDTH in
    record {
      range = subst AreInRange same c.device_for.ensures.range;
      few = subst (λ (n : Numbers). TransfersFew all (command_list c.args.script.now) n back) same c.run_script.ensures.transfers;
      each = subst (λ (n : Numbers). All (IsSlot (n.block * all.WIDTH)) back) same (blocks_back bytes (length slots) slots back made.new.numbers made.new.each c.run_script.ensures.blocks);
    }

pub returns-in-Ok-clause-asks : goal.returns-in-Ok-clause-asks
returns-in-Ok-clause-asks g c = c.run_script.ensures.asks

pub returns-in-Ok-clause-ends : goal.returns-in-Ok-clause-ends
returns-in-Ok-clause-ends g c =
    let plan = c.plan_for-plan.result in
    let e = c.run_script.ensures in
    let end = c.run_script.result.end in
    record { answer = subst (λ (p : Plan). IsTriedOrRefusal (refusal_by p) end) c.plan_for-plan.ensures (begun_answer plan end c.in-Ok.ensures.made.enough e.answer); changed = e.changed }

-- no device was made

pub returns-in-Err-clause-written : goal.returns-in-Err-clause-written
returns-in-Err-clause-written g c =
    let all = words g.R.PartialEq g.R.PartialOrd g.R.Ord g.R.Record g.R.Fields in
    unbegun_wrote all (g.L.Library.told c.args.library.now) (as_reading c.args.arguments.now) c.args.script.now c.in-Err.ended.end c.in-Err.ensures.unmade.unbegun (g.K.Rack.tells c.args.rack.now) (g.O.Sink.told c.args.out.now) _

pub returns-in-Err-clause-outside : goal.returns-in-Err-clause-outside
returns-in-Err-clause-outside g c =
    let r = as_reading c.args.arguments.now in
    unmade_outside g.L.Library g.K.Rack g.O.Sink g.K.Slot.Slot.shown device_named blocks_given c.plan_for-plan.result g.R.Record.WIDTH r (shape_planned g.R.Record.WIDTH r c.plan_for-plan.result c.plan_for-plan.ensures) c.args.rack.now c.device_for.new.rack c.in-Err.ended c.args.library.now c.args.out.now
    c.in-Err.ensures.unmade

pub returns-in-Err-clause-transfers : goal.returns-in-Err-clause-transfers
returns-in-Err-clause-transfers g c =
    let all = words g.R.PartialEq g.R.PartialOrd g.R.Ord g.R.Record g.R.Fields in
    let same : c.plan_for-plan.result.sizes ≡ sizes_at all.WIDTH (as_reading c.args.arguments.now) = ap (λ (p : Plan). p.sizes) c.plan_for-plan.ensures in
    let back = map g.K.Slot.Slot.shown c.in-Err.ended.blocks.items in
    let bytes = c.plan_for-plan.result.sizes.block * all.WIDTH in
    let new = c.in-Err.ensures.unmade.new in
    record {
      range = subst AreInRange same c.device_for.ensures.range;
      few = transfers-none all (command_list c.args.script.now) (sizes_at all.WIDTH (as_reading c.args.arguments.now)) bytes back new;
      each = subst (λ (n : Numbers). All (IsSlot (n.block * all.WIDTH)) back) same (new_slots_are bytes back new);
    }

pub returns-in-Err-clause-asks : goal.returns-in-Err-clause-asks
returns-in-Err-clause-asks g c = no_replies (g.L.Library.replied c.args.library.now) _

pub returns-in-Err-clause-ends : goal.returns-in-Err-clause-ends
returns-in-Err-clause-ends g c =
    let all = words g.R.PartialEq g.R.PartialOrd g.R.Ord g.R.Record g.R.Fields in
    let lacks = c.in-Err.ensures.unmade in
    unbegun_ends all (g.L.Library.told c.args.library.now) (as_reading c.args.arguments.now) c.args.script.now c.in-Err.ended.end lacks.unbegun (g.L.Library.replied c.args.library.now)
    (subst (λ (p : Plan). IsTriedOrRefusal (refusal_by p) c.in-Err.ended.end) c.plan_for-plan.ensures lacks.answer)
