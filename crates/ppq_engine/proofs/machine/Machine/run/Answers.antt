use Rattle.std.proofs.Common.{◌≡◌, ◌≤◌, ◌<◌, ◌+◌, ◌++◌, ℕ, List, Option, true, length, take, drop, take_all, refl, sym, ap, ◌∙◌, subst, arith}
use Rattle.ppq_engine.proofs.Orders.{laws_of}
use Rattle.ppq_script.specs.Words.{words}
use Rattle.std.specs.Prelude.{OnOk, ◌||◌}
use Rattle.std.proofs.Math.Bool.{false-or}
use Rattle.std.proofs.Math.Facts.{Fits-of_lt}
use Rattle.std.proofs.lemmas.List.{length-map}
use Rattle.ppq_load.specs.ppq_budget.Sizes.{Numbers}
use Rattle.ppq_script.specs.declared.command.Command.{Command}
use Rattle.ppq_script.specs.declared.session.Session.{Session}
use Rattle.ppq_script.specs.declared.session.Session.TheVariants.{Outside}
use Rattle.ppq_script.specs.declared.part.Part.{Part}
use Rattle.ppq_script.specs.declared.part.Part.TheVariants as part
use Rattle.ppq_script.specs.Parts.{commands_in, first_in, HasItsLines}
use Rattle.ppq_script.specs.Reading.{Reading, command_list}
use Rattle.ppq_load.specs.Refusal.{Keeps}
use Rattle.ppq_load.proofs.ppq_queue.ppq_spill.SameSlots.{SameSlots-trans}
use Rattle.ppq_script.specs.Sessions.{are_in_place}
use Rattle.ppq_engine.specs.Calls.{RunsPart, StopsPart}
use Rattle.ppq_engine.specs.Loads.{FitsWritten, least_of, begins_limit}
use Rattle.ppq_engine.specs.Output.{AreFilesOf, given_of, output_of, crest_of}
use Rattle.ppq_engine.specs.Running.{HasRun, HasSizes, IsGathered, StopsQuiet, PartStops, SinkAfter, behind_part}
use Rattle.ppq_engine.proofs.Advancing.{Keeps-none, Keeps-behind}
use Rattle.ppq_engine.proofs.Counted.{HasCounted, counted-begin, counted-part, counted-stop, counted-all}
use Rattle.ppq_engine.proofs.Kept.{Keeps-refl, stops-then}
use Rattle.ppq_engine.proofs.Lengths.{has_length}
use Rattle.ppq_engine.proofs.Libraries.{library-none, library-stays, library-then, library-stop}
use Rattle.ppq_engine.proofs.Lines.{session_from, session_from-append, part-outside}
use Rattle.ppq_engine.proofs.Parts.{take-part, part-within}
use Rattle.ppq_engine.proofs.Results.{at-ok, at-err}
use Rattle.ppq_engine.proofs.Sizes.{sizes-begin, sizes-part}
use Rattle.ppq_engine.proofs.Steps.{run-begin, run-part}
use Rattle.ppq_engine.proofs.Stops.{stopped-part}
use Rattle.ppq_engine.proofs.machine.Machine.run.Goals as goal

pub commands-init : goal.commands-init
commands-init g c = let w = words g.R.PartialEq g.R.PartialOrd g.R.Ord g.R.Record g.R.Fields in let laws = laws_of w c.record_laws.ensures.order c.record_laws.ensures.same in
    let queue = c.args.self.queue in
    let told = g.L.Library.told c.args.library.now in
    record {
      run =
          λ tells files are.
          run-begin w laws c.args.world.now.form (given_of w files c.args.script.now) (g.O.Sink.told c.args.out.now) c.args.self.desk.gathered queue.bag queue.size queue.peak queue.sizes queue.slots (command_list c.args.script.now) c.requires.gathered c.requires.may.bag c.requires.may.size c.requires.may.peak;
      has = sizes-begin w queue.size queue.peak queue.sizes queue.slots (command_list c.args.script.now) c.requires.may.size c.requires.may.peak;
      closed = refl {a = Outside};
      within = omega arith;
      in_place = (c.checked.ensures.ready (c.checked.ensures.checked ∙ c.requires.may.checked)).in_place;
      sound = c.requires.may.sound;
      quiet = refl;
      kept = Keeps-none queue queue (take 0 (command_list c.args.script.now)) refl (Keeps-refl queue);
      counted = counted-begin w queue (command_list c.args.script.now) c.requires.may.counts c.requires.may.in_heap;
      library = library-none told (g.L.Library.replied c.args.library.now) c.args.script.now (g.L.Library.faults c.args.library.now);
      library_stays = refl;
      stays = refl;
    }

pub advance-back-requires-clause-turn : goal.advance-back-requires-clause-turn
advance-back-requires-clause-turn g c κs within = let w = words g.R.PartialEq g.R.PartialOrd g.R.Ord g.R.Record g.R.Fields in
    let P : ℕ → Type 0 = λ n. HasItsLines w n c.part-part.result in
    record {
      place_is = omega (arith, c.commands-test.true, c.len.ensures);
      first = c.part-part.ensures.part.first;
      lines = subst P (c.requires.may.workers ∙ ap (λ (n : Numbers). n.workers) (sym c.commands.invariant.kept.sizes)) c.part-part.ensures.part.lines;
      file = c.part-part.ensures.file;
      records = c.part-part.ensures.records c.requires.may.checked;
      sound = c.commands.invariant.sound;
    }

pub advance-back-requires-clause-lengths : goal.advance-back-requires-clause-lengths
advance-back-requires-clause-lengths g c κs within = λ files tells. c.requires.may.lengths files (sym c.commands.invariant.library.told ∙ tells)

pub returns-in-Err-clause-stopped : goal.returns-in-Err-clause-stopped
returns-in-Err-clause-stopped g c = let w = words g.R.PartialEq g.R.PartialOrd g.R.Ord g.R.Record g.R.Fields in let laws = laws_of w c.record_laws.ensures.order c.record_laws.ensures.same in
    let told = g.L.Library.told c.args.library.now in
    let sink = g.O.Sink.told in
    let script = c.args.script.now in
    let commands = command_list script in
    let queue = c.commands.machine.queue in
    let sizes = c.args.self.queue.sizes in
    let later = c.advance-back.result.0.queue.slots in
    let stop = c.in-Err.stop in
    let i = c.commands.place in
    let p = c.part-part.result in
    let is = c.part-part.ensures.part in
    let v = c.commands.invariant in
    let begun : queue.limited ≡ begins_limit (take i commands) = v.kept.limited ∙ ap (λ l. l || begins_limit (take i commands)) c.requires.may.unlimited ∙ false-or (begins_limit (take i commands)) in
    let why = at-err c.advance-back.result.1 stop (StopsPart w c.args.world.now.form queue c.advance-back.result.0.queue (sink c.commands.out) (sink c.advance-back.new.out) c.commands.machine.desk.gathered c.advance-back.result.0.desk.gathered (first_in p) (commands_in p)) c.in-Err.is c.advance-back.ensures.goes.stopped in
    let Why : Numbers → Type 0 =
    λ n. PartStops w c.args.world.now.form queue.slots (sink c.commands.out) (sink c.advance-back.new.out) c.commands.machine.desk.gathered queue.bag queue.size queue.peak (commands_in p) n (queue.limited || begins_limit (commands_in p)) later c.advance-back.result.0.desk.gathered stop in
    stopped-part w laws c.args.world.now.form told script c.args.self.queue.slots (sink c.args.out.now) (sink c.commands.out) (sink c.advance-back.new.out) c.commands.machine.desk.gathered c.advance-back.result.0.desk.gathered queue.bag queue.size queue.peak sizes queue.slots queue.slots later queue.limited i p
    is c.requires.block v.kept.tells begun (λ files are. has_length w told script files i (first_in p) is.first c.requires.may.lengths are)
    v.run v.has stop (subst Why v.kept.sizes why.wrote) why.of_file

pub returns-in-Err-clause-quiet : goal.returns-in-Err-clause-quiet
returns-in-Err-clause-quiet g c =
    let mid = c.commands.machine.queue.slots in
    let last = c.advance-back.result.0.queue.slots in
    stops-then c.args.self.queue.slots mid last c.commands.invariant.quiet c.in-Err.stop (at-err c.advance-back.result.1 c.in-Err.stop (StopsQuiet mid last) c.in-Err.is c.advance-back.ensures.goes.quiet)

pub returns-in-Err-clause-slots : goal.returns-in-Err-clause-slots
returns-in-Err-clause-slots g c = SameSlots-trans c.args.self.queue.slots c.commands.machine.queue.slots c.advance-back.result.0.queue.slots c.commands.invariant.kept.slots c.advance-back.ensures.goes.slots

pub returns-in-Err-clause-counted : goal.returns-in-Err-clause-counted
returns-in-Err-clause-counted g c = let w = words g.R.PartialEq g.R.PartialOrd g.R.Ord g.R.Record g.R.Fields in
    let commands = command_list c.args.script.now in
    let i = c.commands.place in
    let part = commands_in c.part-part.result in
    let a = c.advance-back in
    let v = c.commands.invariant in
    counted-stop w c.commands.machine.queue a.result.0.queue (take i commands) part v.counted a.result.1 (i + length part) commands c.args.self.queue.sizes
    (take-part commands i part c.part-part.ensures.part.whole) (a.ensures.goes.sizes ∙ v.kept.sizes) a.ensures.goes.counted

pub returns-in-Err-clause-library : goal.returns-in-Err-clause-library
returns-in-Err-clause-library g c = library-stop c.advance-back.result.1 c.in-Err.stop c.in-Err.is c.commands.invariant.library c.commands.invariant.library_stays c.advance-back.ensures.library

pub returns-in-Err-clause-sink : goal.returns-in-Err-clause-sink
returns-in-Err-clause-sink g c =
    let faults = g.O.Sink.faults in
    let stop = c.in-Err.stop in
    let a = c.advance-back.ensures.sink in
    let P : ℕ → Type 0 = λ n. SinkAfter n (faults c.advance-back.new.out) stop in
    record { later = omega (arith, a.later, c.commands.invariant.stays); stays = tt; cause = subst P c.commands.invariant.stays (at-err c.advance-back.result.1 stop (SinkAfter (faults c.commands.out) (faults c.advance-back.new.out)) c.in-Err.is a.cause) }

-- a part has a command
some_command : {R : Type 0} (p : Part R) → 0 < length (commands_in p)
some_command (part.One command) = omega arith
some_command (part.Bulk lines) = omega arith
some_command (part.Limit limit lines) = omega arith

-- the place behind it is one of the script's
within_script : {R : Type 0} (script : Reading R) (i : ℕ) (part : List (Command R)) → drop i (command_list script) ≡ part ++ drop (i + length part) (command_list script) → i < length script.commands → i + length part ≤ length script.commands
within_script script i part whole h =
    let long = length-map script.commands (λ n. n.command) in
    omega (arith, long, part-within (command_list script) i part whole (omega (arith, h, long)))

pub overflow_add-place : goal.overflow_add-place
overflow_add-place g c =
    let i = c.commands.place in
    let p = c.part-part.result in
    let here : i < length c.args.script.now.commands = omega (arith, c.commands-test.true, c.len.ensures) in
    Fits-of_lt (omega (arith, c.count-count.ensures, within_script c.args.script.now i (commands_in p) c.part-part.ensures.part.whole here, c.len.ensures))

pub commands-smaller : goal.commands-smaller
commands-smaller g c = omega (arith, c.commands-test.true, c.len.ensures, c.count-count.ensures, some_command c.part-part.result)

pub commands-preserved : goal.commands-preserved
commands-preserved g c = let w = words g.R.PartialEq g.R.PartialOrd g.R.Ord g.R.Record g.R.Fields in let laws = laws_of w c.record_laws.ensures.order c.record_laws.ensures.same in
    let told = g.L.Library.told in
    let sink = g.O.Sink.told in
    let script = c.args.script.now in
    let commands = command_list script in
    let queue = c.commands.machine.queue in
    let new = c.advance-back.result.0.queue in
    let sizes = c.args.self.queue.sizes in
    let i = c.commands.place in
    let p = c.part-part.result in
    let part = commands_in p in
    let is = c.part-part.ensures.part in
    let a = c.advance-back.ensures in
    let v = c.commands.invariant in
    let here : i < length script.commands = omega (arith, c.commands-test.true, c.len.ensures) in
    let next : i + c.count-count.result ≡ i + length part = ap (λ (n : ℕ). i + n) c.count-count.ensures in
    let split : take (i + c.count-count.result) commands ≡ take i commands ++ part = ap (λ (n : ℕ). take n commands) next ∙ take-part commands i part is.whole in
    let ok : (A : Type 0) → OnOk c.advance-back.result.1 A → A = λ A h. at-ok c.advance-back.result.1 tt A c.in-Ok.is h in
    let runs = ok (RunsPart w c.args.world.now.form (told c.commands.library) script queue new (sink c.commands.out) (sink c.advance-back.new.out) c.commands.machine.desk.gathered c.advance-back.result.0.desk.gathered part) a.goes.runs in
    let kept = Keeps-behind c.args.self.queue queue new (take i commands) part v.kept runs.kept in
    let Fits : Numbers → Type 0 = λ s. FitsWritten new.size s new.slots in
    let fits = subst Fits kept.sizes (c.known.ensures.written runs.sound) in
    let Sized : List (Command g.row.R.Denot) → Type 0 = λ cs. HasSizes w new.size new.peak sizes new.slots cs in
    let Kept : List (Command g.row.R.Denot) → Type 0 = λ cs. Keeps (behind_part c.args.self.queue cs) new in
    let Counted : List (Command g.row.R.Denot) → Type 0 = λ cs. HasCounted w cs new in
    let Place : ℕ → Type 0 = λ n. are_in_place w script.workers Outside (drop n commands) ≡ true in
    record {
      run =
          λ tells files are.
          let now = v.kept.tells tells in
          let given = given_of w files script in
          let Files : Option (List ℕ → Option (List ℕ)) → Type 0 = λ t. AreFilesOf t script files in
          let Run : List (Command g.row.R.Denot) → Type 0 = λ cs. HasRun w c.args.world.now.form given (sink c.args.out.now) (sink c.advance-back.new.out) c.advance-back.result.0.desk.gathered new.bag new.size new.peak sizes new.slots cs in
          let long = has_length w (told c.args.library.now) script files i (first_in p) is.first c.requires.may.lengths are in
          subst Run (sym split)
          (run-part w laws c.args.world.now.form given (sink c.args.out.now) (sink c.commands.out) c.commands.machine.desk.gathered queue.bag queue.size queue.peak sizes queue.slots (take i commands) (v.run tells files are) p script.workers is.lines long
          (sink c.advance-back.new.out) c.advance-back.result.0.desk.gathered new.bag new.size new.peak new.slots
          (runs.text now given) (runs.bag now files (subst Files (sym v.library.told) are)) (c.known.ensures.counted runs.sound (kept.tells tells)) runs.peak fits runs.kept.writes);
      has =
          subst Sized (sym split)
          (sizes-part w queue.size new.size queue.peak new.peak sizes queue.slots new.slots (take i commands) p script.workers is.lines v.closed v.has runs.low runs.high runs.peak fits runs.kept.writes);
      closed =
          ap (session_from Outside) split ∙ session_from-append Outside (take i commands) part ∙ ap (λ (s : Session g.row.R.Denot). session_from s part) v.closed ∙ part-outside w p script.workers is.lines;
      within = omega (arith, next, within_script script i part is.whole here);
      in_place = subst Place (sym next) is.next;
      sound = runs.sound;
      quiet = runs.quiet ∙ v.quiet;
      kept = subst Kept (sym split) kept;
      counted = subst Counted (sym split) (counted-part w queue new (take i commands) part v.counted c.advance-back.result.1 tt c.in-Ok.is a.goes.counted);
      library = library-then v.library (library-stays a.library);
      library_stays = ok (g.L.Library.faults c.advance-back.new.library ≡ g.L.Library.faults c.commands.library) a.library.stays ∙ v.library_stays;
      stays = ok (g.O.Sink.faults c.advance-back.new.out ≡ g.O.Sink.faults c.commands.out) a.sink.stays ∙ v.stays;
    }

-- all commands were run
all_run : {R : Type 0} (script : Reading R) (place : ℕ) → length script.commands ≤ place → take place (command_list script) ≡ command_list script
all_run script place h = take_all place (command_list script) (omega (arith, h, length-map script.commands (λ n. n.command)))

pub returns-clause-runs : goal.returns-clause-runs
returns-clause-runs g c = let w = words g.R.PartialEq g.R.PartialOrd g.R.Ord g.R.Record g.R.Fields in
    let script = c.args.script.now in
    let sizes = c.args.self.queue.sizes in
    let slots = c.commands.machine.queue.slots in
    let v = c.commands.invariant in
    let all = all_run script c.commands.place (omega (arith, c.commands-test.false, c.len.ensures)) in
    let Out : (ℕ → List g.row.R.Denot) → List (Command g.row.R.Denot) → Type 0 = λ given cs. IsGathered (g.O.Sink.told c.args.out.now) (g.O.Sink.told c.commands.out) c.commands.machine.desk.gathered (output_of w c.args.world.now.form given cs) in
    let Crest : (ℕ → List g.row.R.Denot) → List (Command g.row.R.Denot) → Type 0 = λ given cs. FitsWritten (crest_of w given cs) sizes slots in
    let Least : List (Command g.row.R.Denot) → Type 0 = λ cs. FitsWritten (least_of w cs) sizes slots in
    record {
      all = λ tells files are. subst (Out (given_of w files script)) all (v.run tells files are).output;
      crest = λ tells files are. subst (Crest (given_of w files script)) all (v.run tells files are).crest;
      least = subst Least all v.has.crest;
      quiet = v.quiet;
    }

pub returns-clause-counted : goal.returns-clause-counted
returns-clause-counted g c = let w = words g.R.PartialEq g.R.PartialOrd g.R.Ord g.R.Record g.R.Fields in
    let script = c.args.script.now in
    let v = c.commands.invariant in
    let all = all_run script c.commands.place (omega (arith, c.commands-test.false, c.len.ensures)) in
    counted-all w c.commands.machine.queue (take c.commands.place (command_list script)) (command_list script) c.args.self.queue.sizes all v.kept.sizes v.counted

pub returns-clause-library : goal.returns-clause-library
returns-clause-library g c =
    let l = c.commands.invariant.library in
    record { told = l.told; remembers = l.remembers; asks = l.asks; later = l.later; stays = c.commands.invariant.library_stays; cause = tt; changed = tt }

pub returns-clause-sink : goal.returns-clause-sink
returns-clause-sink g c = record { later = omega (arith, c.commands.invariant.stays); stays = c.commands.invariant.stays; cause = tt }
