-- No device is made where the budget is too small, and none where a block cannot be made.
use Rattle.std.proofs.Common.{◌≡◌, ◌*◌, ◌≤◌, ◌<◌, All, length, map, ap, ap₂, sym, subst, arith}
use Rattle.std.proofs.lemmas.List.{length-map}
use Rattle.std.proofs.lemmas.List.Elements.{All-nil}
use Rattle.ppq_words.specs.ppq_budget.Sizes.{fixed_of}
use Rattle.ppq_words.specs.ppq_outside.Told.{Rose}
use Rattle.ppq_jobs.specs.ppq_engine.ppq_queue.Holding.{IsNewSlot}
use Rattle.ppq_jobs.specs.ppq_engine.Ends.{BeganCommands}
use Rattle.ppq_jobs.specs.ppq_engine.declared.end.End.{End}
use Rattle.ppq_jobs.specs.ppq_engine.declared.end.End.TheVariants.{BudgetTooSmall}
use Rattle.ppq_cli.specs.Budget.{refusal_by}
use Rattle.ppq_cli.specs.Device.{AreBlocks, HasAllBlocks}
use Rattle.ppq_cli.specs.DeviceFor.{plan_shape}
use Rattle.ppq_cli.specs.Outside.{Faults}
use Rattle.ppq_cli.specs.RunWords.{IsTriedOrRefusal}
use Rattle.ppq_cli.proofs.Blocks.{in_order, made_just, made_nothing}
use Rattle.ppq_cli.proofs.Ends.{no_blocks}
use Rattle.ppq_cli.proofs.Making.{small_answer, unmade_answer, unmade_blocks, unmade_faults, unmade_unbegun}
use Rattle.ppq_cli.proofs.Outside.{same_faults}
use Rattle.ppq_cli.proofs.device.device_for.Goals as goal

pub returns-then-memory-fixed-clause-unmade : goal.returns-then-memory-fixed-clause-unmade
returns-then-memory-fixed-clause-unmade g c =
    let plan = c.args.plan.now in
    let width = g.R.Record.WIDTH in
    let shown = g.K.Slot.Slot.shown in
    let ended = c.without_blocks.result in
    let none = c.without_blocks.ensures.none in
    let below : plan.sizes.memory < fixed_of plan.sizes = omega (arith, c.memory.ensures.same, c.fixed.ensures) in
    let is : ended.end ≡ BudgetTooSmall plan.need = c.without_blocks.ensures.end in
    let faults = g.K.Rack.faults c.args.rack.now in
    record {
      answer = subst (IsTriedOrRefusal (refusal_by plan)) (sym is) (small_answer plan below);
      unbegun = λ began. subst BeganCommands is began;
      made = made_nothing (λ s. (shown s).number) ended.blocks.items (g.K.Rack.made c.args.rack.now c.args.device.now) none;
      blocks = no_blocks (plan_shape plan width) ended.end (map shown ended.blocks.items) (λ all. subst HasAllBlocks is all) (ap (map shown) none);
      new = subst (All (IsNewSlot (plan.sizes.block * width))) (sym (ap (map shown) none)) (All-nil (IsNewSlot (plan.sizes.block * width)));
      kept = λ tells. tells;
      faults = λ of_library of_sink. subst (Faults Rose of_library of_library faults faults of_sink of_sink) (sym is) (same_faults Rose of_library faults of_sink (BudgetTooSmall plan.need) tt);
    }

pub returns-in-Err-clause-unmade : goal.returns-in-Err-clause-unmade
returns-in-Err-clause-unmade g c =
    let plan = c.args.plan.now in
    let width = g.R.Record.WIDTH in
    let shown = g.K.Slot.Slot.shown in
    let fault = c.in-Err.fault in
    let back = c.in-Err.blocks.items in
    let made = c.in-Err.ensures.blocks in
    let is = c.end_of_making.ensures in
    let enough : fixed_of plan.sizes ≤ plan.sizes.memory = omega (arith, c.fixed.ensures, c.memory.ensures.same) in
    let numbers = in_order (map shown back) made.new.numbers in
    let bytes : c.block.result * c.WIDTH.result ≡ plan.sizes.block * width = ap₂ (λ m n. m * n) c.block.ensures.same c.WIDTH.ensures in
    let new = subst (λ n. All (IsNewSlot n) (map shown back)) bytes made.new.each in
    let faults = g.K.Rack.faults c.args.rack.now in
    let faults_now = g.K.Rack.faults c.make_blocks.new.rack in
    let counts = c.in-Err.ensures.counts in
    record {
      answer = subst (IsTriedOrRefusal (refusal_by plan)) (sym is) (unmade_answer plan enough fault);
      unbegun = λ began. unmade_unbegun fault (subst BeganCommands is began);
      made = made_just shown back (g.K.Rack.made c.args.rack.now c.args.device.now) (g.K.Rack.made c.make_blocks.new.rack c.args.device.now) (length back) numbers (length-map back shown) c.in-Err.ensures.made;
      blocks = subst (λ (e : End). AreBlocks (plan_shape plan width) e (map shown back)) (sym is) (unmade_blocks plan width (map shown back) fault numbers new (omega (arith, made.most, length-map back shown)));
      new = new;
      kept = c.make_blocks.ensures.kept;
      faults = λ of_library of_sink. subst (Faults Rose of_library of_library faults faults_now of_sink of_sink) (sym is) (unmade_faults of_library faults faults_now of_sink fault counts.later counts.reason);
    }
