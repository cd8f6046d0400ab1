use Rattle.std.proofs.Common.{◌+◌, List, All, length, max, refl, sym, ap, ◌∙◌, subst, arith}
use Rattle.ppq_engine.proofs.Orders.{laws_of}
use Rattle.ppq_script.specs.Words.{words}
use Rattle.ppq_script.specs.declared.command.Command.{Command}
use Rattle.ppq_script.specs.declared.session.Session.TheVariants.{InBulk}
use Rattle.ppq_script.specs.Parts.{AreLines, commands_of}
use Rattle.ppq_load.specs.ppq_budget.Sizes.{Numbers, batch_of}
use Rattle.ppq_load.specs.ppq_session.Dealing.{IsGoing}
use Rattle.ppq_load.specs.Loading.{IsLoaded}
use Rattle.ppq_engine.specs.Pushes.{pushed_in}
use Rattle.ppq_engine.specs.declared.stop.Stop.TheVariants.{Memory}
use Rattle.ppq_load.proofs.ppq_queue.Bounds.{batch_some}
use Rattle.ppq_load.proofs.ppq_queue.Counted.{few-begun, few-more}
use Rattle.ppq_engine.proofs.Counted.{unrefused, few-none}
use Rattle.ppq_engine.proofs.Kept.{Keeps-refl}
use Rattle.ppq_engine.proofs.Loads.{unbegun-stop}
use Rattle.ppq_engine.proofs.Pushes.{given-some, given-all}
use Rattle.ppq_engine.proofs.Results.{on-ok-map}
use Rattle.ppq_engine.proofs.Turns.{session-quiet, bulk-stopped, bulk-ended}
use Rattle.ppq_engine.proofs.machine.Machine.run_bulk.Goals as goal

pub new-requires : goal.new-requires
new-requires g c = omega (arith, c.room.ensures, c.args.self.round, batch_some c.args.self.queue.sizes c.known.ensures.range)

pub returns-in_default : goal.returns-in_default
returns-in_default g c = let w = words g.R.PartialEq g.R.PartialOrd g.R.Ord g.R.Record g.R.Fields in let laws = laws_of w c.record_laws.ensures.order c.record_laws.ensures.same in
    let queue = c.args.self.queue in
    bulk-stopped w laws queue.sizes.workers (commands_of c.args.lines.now) c.requires.lines queue queue c.args.self.desk.gathered Memory tt tt tt (Keeps-refl queue) 0 (omega arith) (few-more 0 0 0 1 queue queue unrefused (omega arith) (omega arith) (few-none queue))

pub push_all-requires-clause-lines : goal.push_all-requires-clause-lines
push_all-requires-clause-lines g c κs within = let w = words g.R.PartialEq g.R.PartialOrd g.R.Ord g.R.Record g.R.Fields in
    let P : Numbers → Type 0 = λ n. AreLines w n.workers InBulk (commands_of c.args.lines.now) in
    subst P (sym c.in-Ok-begin.ensures.session.keeps.sizes) c.requires.lines

pub invariant_of-result-in-Ok-begin : goal.invariant_of-result-in-Ok-begin
invariant_of-result-in-Ok-begin g c =
    let queue = c.args.self.queue in
    let pushing = c.push_all.ensures.pushing in
    record { round = c.args.self.round ∙ ap batch_of (sym (c.end-queue.ensures.loaded queue (pushed_in pushing.given) (pushing.session queue c.in-Ok-begin.ensures.session)).kept.sizes); piece = c.args.self.piece }

pub returns-in-Ok-begin : goal.returns-in-Ok-begin
returns-in-Ok-begin g c = let w = words g.R.PartialEq g.R.PartialOrd g.R.Ord g.R.Record g.R.Fields in let laws = laws_of w c.record_laws.ensures.order c.record_laws.ensures.same in
    let shown = g.S.Slot.shown in
    let queue = c.args.self.queue in
    let body = commands_of c.args.lines.now in
    let begun = c.in-Ok-begin.session in
    let mid = c.push_all.new.session in
    let gives = c.push_all.ensures in
    let end = c.end-queue in
    let new = end.result.0 in
    let session = gives.pushing.session queue c.in-Ok-begin.ensures.session in
    let loaded = end.ensures.loaded queue (pushed_in gives.pushing.given) session in
    let P : List (Command g.row.R.Denot) → Type 0 = λ cs. IsLoaded queue (pushed_in cs) new end.result.1 in
    bulk-ended w laws queue.sizes.workers body c.requires.lines queue new c.args.self.desk.gathered _ end.result.1 c.ended.result c.ended.ensures
    (on-ok-map end.result.1 (All IsGoing mid.passes) (P body) (λ going. subst P (given-all shown body begun mid gives going) loaded) end.ensures.all)
    (pushed_in gives.pushing.given) (given-some shown body begun mid gives) (omega (arith, c.known.ensures.range.two_records)) loaded
    (session-quiet shown queue (pushed_in gives.pushing.given) mid new end.result.1 session end.ensures.left)

pub returns : goal.returns
returns g c = let w = words g.R.PartialEq g.R.PartialOrd g.R.Ord g.R.Record g.R.Fields in let laws = laws_of w c.record_laws.ensures.order c.record_laws.ensures.same in
    let queue = c.args.self.queue in
    let body = commands_of c.args.lines.now in
    let most = max queue.peak (queue.size + length (pushed_in body)) in
    let back = unbegun-stop queue queue c.in-Err.queue most c.in-Err.fault c.from.result refl (omega (arith, c.known.ensures.range.two_records)) (omega arith) c.from.ensures c.in-Err.ensures.refused in
    bulk-stopped w laws queue.sizes.workers body c.requires.lines queue c.in-Err.queue c.args.self.desk.gathered c.from.result back.by_session back.refused back.quiet back.kept
    0 (omega arith) (few-begun queue c.in-Err.queue unrefused back.kept.sizes back.counted)
