use Rattle.std.proofs.Common.{◌≡◌, arith}
use Rattle.ppq_engine.proofs.Orders.{laws_of}
use Rattle.ppq_script.specs.Words.{words}
use Rattle.std.specs.Prelude.{OnOk}
use Rattle.ppq_script.specs.Reading.{command_list}
use Rattle.ppq_engine.specs.Calls.{RunsAll}
use Rattle.ppq_engine.specs.Output.{output_of, given_of}
use Rattle.ppq_engine.specs.Running.{ScriptStopped, StopsQuiet, ChangedIn, SinkAfter, LibraryAfter}
use Rattle.ppq_engine.proofs.Counted.{transfers-few}
use Rattle.ppq_engine.proofs.Libraries.{library-stays}
use Rattle.ppq_engine.proofs.Results.{at-ok, at-err}
use Rattle.ppq_engine.proofs.Running.{gathered-all, gathered-part}
use Rattle.ppq_engine.proofs.Stops.{part-stopped, says-stopped, before-stopped}
use Rattle.ppq_engine.proofs.run.run_opened.Goals as goal

pub returns-in-Ok-put-clause-ends : goal.returns-in-Ok-put-clause-ends
returns-in-Ok-put-clause-ends g c = let w = words g.R.PartialEq g.R.PartialOrd g.R.Ord g.R.Record g.R.Fields in
    let told = g.O.Sink.told in
    let put = g.O.Sink.faults in
    let faults = g.L.Library.faults in
    let script = c.args.script.now in
    let run = c.run-machine in
    let ok : (A : Type 0) → OnOk run.result.1 A → A = λ A h. at-ok run.result.1 c.in-Ok.field-0 A c.in-Ok.is h in
    let runs = ok (RunsAll w c.args.world.now.form (g.L.Library.told c.args.library.now) script c.args.queue run.result.0.queue (told c.args.out.now) (told run.new.out) run.result.0.desk.gathered) run.ensures.runs in
    record {
      part = λ tells files are. gathered-part (told c.args.out.now) (told run.new.out) (told c.put.new.out) run.result.0.desk.gathered (output_of w c.args.world.now.form (given_of w files script) (command_list script)) (runs.all tells files are) c.put.ensures.part;
      says = (
        λ tells files are. record {
          took = gathered-all (told c.args.out.now) (told run.new.out) (told c.put.new.out) run.result.0.desk.gathered (output_of w c.args.world.now.form (given_of w files script) (command_list script)) (runs.all tells files are) c.in-Ok-put.ensures.all;
          crest = runs.crest tells files are;
        },
        runs.least,
        record {
          sink_same = omega (arith, ok (put run.new.out ≡ put c.args.out.now) run.ensures.sink.stays, c.in-Ok-put.ensures.cause);
          library_same = ok (faults run.new.library ≡ faults c.args.library.now) run.ensures.library.stays;
        },
        runs.quiet,
      );
      file = tt;
    }

pub returns-in-Ok-clause-ends : goal.returns-in-Ok-clause-ends
returns-in-Ok-clause-ends g c = let w = words g.R.PartialEq g.R.PartialOrd g.R.Ord g.R.Record g.R.Fields in
    let told = g.O.Sink.told in
    let put = g.O.Sink.faults in
    let script = c.args.script.now in
    let run = c.run-machine in
    let ok : (A : Type 0) → OnOk run.result.1 A → A = λ A h. at-ok run.result.1 c.in-Ok.field-0 A c.in-Ok.is h in
    let runs = ok (RunsAll w c.args.world.now.form (g.L.Library.told c.args.library.now) script c.args.queue run.result.0.queue (told c.args.out.now) (told run.new.out) run.result.0.desk.gathered) run.ensures.runs in
    record {
      part = λ tells files are. gathered-part (told c.args.out.now) (told run.new.out) (told c.put.new.out) run.result.0.desk.gathered (output_of w c.args.world.now.form (given_of w files script) (command_list script)) (runs.all tells files are) c.put.ensures.part;
      says = omega (arith, ok (put run.new.out ≡ put c.args.out.now) run.ensures.sink.stays, c.in-Err-put.ensures.cause.failed);
      file = tt;
    }

pub returns-clause-ends : goal.returns-clause-ends
returns-clause-ends g c = let w = words g.R.PartialEq g.R.PartialOrd g.R.Ord g.R.Record g.R.Fields in let laws = laws_of w c.record_laws.ensures.order c.record_laws.ensures.same in
    let told = g.O.Sink.told in
    let faults = g.O.Sink.faults in
    let library = g.L.Library.faults in
    let files = g.L.Library.told c.args.library.now in
    let script = c.args.script.now in
    let queue = c.args.queue in
    let stop = c.in-Err.stop in
    let run = c.run-machine in
    let before = told c.args.out.now in
    let mid = told run.new.out in
    let now = told c.put_stopped.new.out in
    let sink_mid = faults run.new.out in
    let sink_now = faults c.put_stopped.new.out in
    let slots = run.result.0.queue.slots in
    let over = c.put_stopped.result in
    let puts = c.put_stopped.ensures.puts in
    let replied = g.L.Library.replied run.new.library in
    let why = at-err run.result.1 stop (ScriptStopped w c.args.world.now.form files script queue.slots before mid run.result.0.desk.gathered queue.sizes slots) c.in-Err.is run.ensures.stopped in
    record {
      part = part-stopped w laws c.args.world.now.form files script queue.slots before stop mid now sink_mid sink_now run.result.0.desk.gathered queue.sizes slots over why puts;
      says =
          says-stopped w laws c.args.world.now.form files script queue.slots before stop replied slots queue.sizes mid now (faults c.args.out.now) sink_mid sink_now (library c.args.library.now) (library run.new.library) run.result.0.desk.gathered over
          (omega (arith, c.known.ensures.range.two_records)) why (at-err run.result.1 stop (StopsQuiet queue.slots slots) c.in-Err.is run.ensures.quiet) (at-err run.result.1 stop (ChangedIn files replied script) c.in-Err.is run.ensures.library.changed) (at-err run.result.1 stop (SinkAfter (faults c.args.out.now) sink_mid) c.in-Err.is run.ensures.sink.cause)
          (at-err run.result.1 stop (LibraryAfter (library c.args.library.now) (library run.new.library)) c.in-Err.is run.ensures.library.cause) puts;
      file = before-stopped w laws c.args.world.now.form files script queue.slots before stop mid now sink_mid sink_now run.result.0.desk.gathered queue.sizes slots over why puts;
    }

pub returns-in-Ok-clause-library : goal.returns-in-Ok-clause-library
returns-in-Ok-clause-library g c = library-stays c.run-machine.ensures.library

pub returns-in-Ok-put-clause-transfers : goal.returns-in-Ok-put-clause-transfers
returns-in-Ok-put-clause-transfers g c = let w = words g.R.PartialEq g.R.PartialOrd g.R.Ord g.R.Record g.R.Fields in
    let k = c.known-2.ensures in
    transfers-few w (command_list c.args.script.now) c.args.queue.sizes c.run-machine.result.0.queue k.range c.run-machine.ensures.counted k.transfers k.read

pub returns-in-Ok-clause-transfers : goal.returns-in-Ok-clause-transfers
returns-in-Ok-clause-transfers g c = let w = words g.R.PartialEq g.R.PartialOrd g.R.Ord g.R.Record g.R.Fields in
    let k = c.known-2.ensures in
    transfers-few w (command_list c.args.script.now) c.args.queue.sizes c.run-machine.result.0.queue k.range c.run-machine.ensures.counted k.transfers k.read

pub returns-clause-transfers : goal.returns-clause-transfers
returns-clause-transfers g c = let w = words g.R.PartialEq g.R.PartialOrd g.R.Ord g.R.Record g.R.Fields in
    let k = c.known-2.ensures in
    transfers-few w (command_list c.args.script.now) c.args.queue.sizes c.run-machine.result.0.queue k.range c.run-machine.ensures.counted k.transfers k.read
