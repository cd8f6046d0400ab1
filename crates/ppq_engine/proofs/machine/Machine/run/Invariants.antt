use Rattle.std.proofs.Common.{◌≡◌, ◌≤◌, ◌-◌, ℕ, List, Option, None, true, take, drop, length}
use Rattle.ppq_script.specs.Words.{words}
use Rattle.ppq_script.specs.ppq_outside.Shown.{AllTell}
use Rattle.ppq_script.specs.declared.session.Session.TheVariants.{Outside}
use Rattle.ppq_script.specs.Reading.{command_list}
use Rattle.ppq_script.specs.Sessions.{are_in_place}
use Rattle.ppq_load.specs.ppq_array.Kept.{AreQuiet}
use Rattle.ppq_load.specs.Refusal.{Keeps}
use Rattle.ppq_engine.specs.Calls.{LibraryStays}
use Rattle.ppq_engine.specs.Output.{AreFilesOf, given_of}
use Rattle.ppq_engine.specs.Running.{HasRun, HasSizes, behind_part}
use Rattle.ppq_engine.proofs.Counted.{HasCounted}
use Rattle.ppq_engine.proofs.Lines.{session_from}
use Rattle.ppq_engine.proofs.machine.Machine.run.Given as goal

abbrev pub invariant-commands : goal.invariant-commands
invariant-commands g l = let w = words g.R.PartialEq g.R.PartialOrd g.R.Ord g.R.Record g.R.Fields in
    record {
      run :
          AllTell l.fn.self.queue.slots → (files : List ℕ → Option (List ℕ)) → AreFilesOf (g.L.Library.told l.fn.library) l.script files
          → HasRun w l.world.form (given_of w files l.script) (g.O.Sink.told l.fn.out) (g.O.Sink.told l.out) l.machine.desk.gathered l.machine.queue.bag l.machine.queue.size l.machine.queue.peak l.fn.self.queue.sizes l.machine.queue.slots (take l.place (command_list l.script));
      has : HasSizes w l.machine.queue.size l.machine.queue.peak l.fn.self.queue.sizes l.machine.queue.slots (take l.place (command_list l.script));
      closed : session_from Outside (take l.place (command_list l.script)) ≡ Outside;
      within : l.place ≤ length l.script.commands;
      in_place : are_in_place w l.script.workers Outside (drop l.place (command_list l.script)) ≡ true;
      sound : l.machine.queue.failed ≡ None;
      quiet : AreQuiet l.fn.self.queue.slots l.machine.queue.slots;
      kept : Keeps (behind_part l.fn.self.queue (take l.place (command_list l.script))) l.machine.queue;
      counted : HasCounted w (take l.place (command_list l.script)) l.machine.queue;
      library : LibraryStays (g.L.Library.told l.fn.library) (g.L.Library.told l.library) (g.L.Library.replied l.fn.library) (g.L.Library.replied l.library) l.script (g.L.Library.faults l.fn.library) (g.L.Library.faults l.library);
      library_stays : g.L.Library.faults l.library ≡ g.L.Library.faults l.fn.library;
      stays : g.O.Sink.faults l.out ≡ g.O.Sink.faults l.fn.out;
    }

abbrev pub decreases-commands : goal.decreases-commands
decreases-commands g l = length l.script.commands - l.place
