use Rattle.std.proofs.Common.{◌∷◌, ℕ, Bool, List, [], max, sym, subst, arith}
use Rattle.ppq_script.specs.Words.{words}
use Rattle.std.specs.Prelude.{IfErr, OnOk}
use Rattle.std.proofs.lemmas.Result.{IfErr-weaker}
use Rattle.ppq_script.specs.declared.command.Command.{Command}
use Rattle.ppq_script.specs.declared.part.Part.{Part}
use Rattle.ppq_script.specs.declared.part.Part.TheVariants.{One}
use Rattle.ppq_script.specs.Parts.{commands_in, first_in, HasItsLines}
use Rattle.ppq_load.specs.ppq_budget.Sizes.{Numbers}
use Rattle.ppq_load.proofs.ppq_queue.Counted.{few-more}
use Rattle.ppq_engine.specs.Calls.{Leaves, IsTurn, RunsStep, StopsStep, Goes}
use Rattle.ppq_engine.specs.Files.{IsByFile, IsBySession}
use Rattle.ppq_engine.specs.Loads.{none_go, all_go, size_after}
use Rattle.ppq_engine.specs.Output.{outside, after, given_of}
use Rattle.ppq_engine.specs.Popping.{IsByLimit, NotByFile}
use Rattle.ppq_engine.specs.Running.{StopsFor}
use Rattle.ppq_engine.specs.Work.{pushes_of, begins_of}
use Rattle.ppq_engine.specs.declared.stop.Stop.{Stop}
use Rattle.ppq_engine.proofs.Advancing.{lends}
use Rattle.ppq_engine.proofs.Results.{if-err-both, on-ok-map}
use Rattle.ppq_engine.proofs.Stops.{not_of_file, not-by_limit, session_by_file, session-by_limit, stops-more}
use Rattle.ppq_engine.proofs.Turns.{library-unasked, adds-sink, turn-goes}
use Rattle.ppq_engine.proofs.machine.Machine.advance.Goals as goal

pub run_bulk-requires-clause-lines : goal.run_bulk-requires-clause-lines
run_bulk-requires-clause-lines g c κs within = let w = words g.R.PartialEq g.R.PartialOrd g.R.Ord g.R.Record g.R.Fields in
    subst (HasItsLines w c.args.self.queue.sizes.workers) c.in-Bulk.is c.requires.turn.lines

pub run_limit-requires-clause-lines : goal.run_limit-requires-clause-lines
run_limit-requires-clause-lines g c κs within = let w = words g.R.PartialEq g.R.PartialOrd g.R.Ord g.R.Record g.R.Fields in
    subst (HasItsLines w c.args.self.queue.sizes.workers) c.in-Limit.is c.requires.turn.lines

pub returns-in-Bulk : goal.returns-in-Bulk
returns-in-Bulk g c = let w = words g.R.PartialEq g.R.PartialOrd g.R.Ord g.R.Record g.R.Fields in
    let script = c.args.script.now in
    let put = g.O.Sink.told c.args.out.now in
    let files = g.L.Library.told c.args.library.now in
    let replied = g.L.Library.replied c.args.library.now in
    let new = c.run_bulk.result.0 in
    let r = c.run_bulk.result.1 in
    let b = c.run_bulk.ensures in
    let Going : Part g.row.R.Denot → Type 0 = λ p. Goes w c.args.world.now.form files script (first_in p) (commands_in p) put put c.args.self.queue new.queue c.args.self.desk.gathered new.desk.gathered r in
    record {
      goes = subst Going (sym c.in-Bulk.is) (b.goes c.args.world.now.form files script put);
      library = library-unasked files replied script (g.L.Library.faults c.args.library.now) r (IfErr-weaker r IsBySession IsByLimit session-by_limit b.by_session);
      sink = adds-sink (g.O.Sink.faults c.args.out.now) r (IfErr-weaker r IsBySession IsByFile session_by_file b.by_session);
    }

pub returns-in-Limit : goal.returns-in-Limit
returns-in-Limit g c = let w = words g.R.PartialEq g.R.PartialOrd g.R.Ord g.R.Record g.R.Fields in
    let script = c.args.script.now in
    let told = g.O.Sink.told in
    let files = g.L.Library.told c.args.library.now in
    let replied = g.L.Library.replied c.args.library.now in
    let new = c.run_limit.result.0 in
    let r = c.run_limit.result.1 in
    let b = c.run_limit.ensures in
    let Going : Part g.row.R.Denot → Type 0 = λ p. Goes w c.args.world.now.form files script (first_in p) (commands_in p) (told c.args.out.now) (told c.run_limit.new.out) c.args.self.queue new.queue c.args.self.desk.gathered new.desk.gathered r in
    record {
      goes = subst Going (sym c.in-Limit.is) (b.goes files script);
      library = library-unasked files replied script (g.L.Library.faults c.args.library.now) r b.by_limit;
      sink = b.sink;
    }

pub push_file-requires-clause-turn : goal.push_file-requires-clause-turn
push_file-requires-clause-turn g c κs within = let w = words g.R.PartialEq g.R.PartialOrd g.R.Ord g.R.Record g.R.Fields in
    subst (λ (k : Command g.row.R.Denot). IsTurn w c.args.script.now c.args.self.queue c.args.place (One k)) c.in-Bulk-command.is (subst (IsTurn w c.args.script.now c.args.self.queue c.args.place) c.in-One.is c.requires.turn)

pub returns-in-Bulk-command : goal.returns-in-Bulk-command
returns-in-Bulk-command g c = let w = words g.R.PartialEq g.R.PartialOrd g.R.Ord g.R.Record g.R.Fields in
    let script = c.args.script.now in
    let put = g.O.Sink.told c.args.out.now in
    let files = g.L.Library.told c.args.library.now in
    let new = c.push_file.result.0 in
    let r = c.push_file.result.1 in
    let b = c.push_file.ensures in
    let Going : Command g.row.R.Denot → Type 0 = λ k. Goes w c.args.world.now.form files script k (k ∷ []) put put c.args.self.queue new.queue c.args.self.desk.gathered new.desk.gathered r in
    let Whole : Part g.row.R.Denot → Type 0 = λ p. Goes w c.args.world.now.form files script (first_in p) (commands_in p) put put c.args.self.queue new.queue c.args.self.desk.gathered new.desk.gathered r in
    record { goes = subst Whole (sym c.in-One.is) (subst Going (sym c.in-Bulk-command.is) (b.goes put)); library = b.library; sink = adds-sink (g.O.Sink.faults c.args.out.now) r b.by_file }

pub returns-in-Gen : goal.returns-in-Gen
returns-in-Gen g c = let w = words g.R.PartialEq g.R.PartialOrd g.R.Ord g.R.Record g.R.Fields in
    let script = c.args.script.now in
    let put = g.O.Sink.told c.args.out.now in
    let files = g.L.Library.told c.args.library.now in
    let replied = g.L.Library.replied c.args.library.now in
    let new = c.push_generated.result.0 in
    let r = c.push_generated.result.1 in
    let b = c.push_generated.ensures in
    let Going : Command g.row.R.Denot → Type 0 = λ k. Goes w c.args.world.now.form files script k (k ∷ []) put put c.args.self.queue new.queue c.args.self.desk.gathered new.desk.gathered r in
    let Whole : Part g.row.R.Denot → Type 0 = λ p. Goes w c.args.world.now.form files script (first_in p) (commands_in p) put put c.args.self.queue new.queue c.args.self.desk.gathered new.desk.gathered r in
    record {
      goes = subst Whole (sym c.in-One.is) (subst Going (sym c.in-Gen.is) (b.goes c.args.world.now.form files script put));
      library = library-unasked files replied script (g.L.Library.faults c.args.library.now) r (IfErr-weaker r IsBySession IsByLimit session-by_limit b.by_session);
      sink = adds-sink (g.O.Sink.faults c.args.out.now) r (IfErr-weaker r IsBySession IsByFile session_by_file b.by_session);
    }

pub lend-done-requires-clause-lends : goal.lend-done-requires-clause-lends
lend-done-requires-clause-lends g c = let w = words g.R.PartialEq g.R.PartialOrd g.R.Ord g.R.Record g.R.Fields in
    λ lives fits.
    let workers = c.args.self.queue.sizes.workers in
    lends w workers c.in-One.command (subst (HasItsLines w workers) c.in-One.is c.requires.turn.lines) c.in_default.not-Bulk c.in_default.not-Gen

pub returns-in_default : goal.returns-in_default
returns-in_default g c = let w = words g.R.PartialEq g.R.PartialOrd g.R.Ord g.R.Record g.R.Fields in
    let script = c.args.script.now in
    let k = c.in-One.command in
    let told = g.O.Sink.told in
    let files = g.L.Library.told c.args.library.now in
    let replied = g.L.Library.replied c.args.library.now in
    let old = c.args.self.queue in
    let new = c.lend-done.new.self.queue in
    let had = c.args.self.desk.gathered in
    let has = c.lend-done.new.self.desk.gathered in
    let a = c.lend-done.ensures in
    let r = c.lend-done.result in
    let higher = max old.peak (size_after w none_go old.size k) in
    let Left : Type 0 = (given : ℕ → List g.row.R.Denot) → Leaves old new (after w given (outside old.bag) k).bag (size_after w all_go old.size k) (size_after w none_go old.size k) in
    let Why : Stop → Numbers → Bool → Type 0 = λ stop n b. StopsFor new.peak n b new.slots stop in
    let By : Stop → Type 0 = λ stop. StopsFor new.peak new.sizes new.limited new.slots stop × NotByFile stop in
    let ran : OnOk r (RunsStep w files script old new k) =
    on-ok-map r Left (RunsStep w files script old new k)
    (λ left.
    let any = left (λ file. []) in
    record { bag = λ tells given are. (left (given_of w given script)).bag tells; low = any.low; high = any.high; sound = any.sound; quiet = any.quiet; peak = a.lent.peak }) a.left in
    let stops : IfErr r (StopsStep w old new k) =
    IfErr-weaker r By (StopsStep w old new k)
    (λ stop why. record {
      refused = stops-more old.sizes old.limited new.slots new.peak higher stop (omega (arith, c.known.ensures.range.two_records)) a.lent.peak (subst (Why stop old.sizes) a.lent.kept.limited (subst (λ (n : Numbers). Why stop n new.limited) a.lent.kept.sizes why.0));
      of_file = not_of_file k stop why.1;
    }) (if-err-both r (StopsFor new.peak new.sizes new.limited new.slots) NotByFile a.lent.refused a.lent.no_file) in
    let is = subst (HasItsLines w old.sizes.workers) c.in-One.is c.requires.turn.lines in
    let Whole : Part g.row.R.Denot → Type 0 = λ p. Goes w c.args.world.now.form files script (first_in p) (commands_in p) (told c.args.out.now) (told c.lend-done.new.out) old new had has r in
    record {
      goes = subst Whole (sym c.in-One.is) (turn-goes w c.args.world.now.form files script old.sizes.workers k is old new (told c.args.out.now) (told c.lend-done.new.out) had has r a.prints a.lent.kept (few-more (pushes_of w k) 0 (pushes_of w k) (begins_of k) old new r (omega arith) (omega arith) a.lent.counted) ran stops a.lent.quiet);
      library = library-unasked files replied script (g.L.Library.faults c.args.library.now) r (IfErr-weaker r NotByFile IsByLimit not-by_limit a.lent.no_file);
      sink = a.counts;
    }
