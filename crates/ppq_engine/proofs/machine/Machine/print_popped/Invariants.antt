use Rattle.std.proofs.Common.{◌≡◌, ◌≤◌, ◌-◌, None, take, drop}
use Rattle.ppq_script.specs.Words.{words}
use Rattle.ppq_script.specs.ppq_record.Bag.{IsSameBag, ascending}
use Rattle.ppq_script.specs.ppq_outside.Shown.{AllTell}
use Rattle.ppq_engine.specs.Output.{records_text}
use Rattle.ppq_engine.specs.Gathers.{Gathers}
use Rattle.ppq_engine.specs.Popping.{popped_count}
use Rattle.ppq_load.specs.ppq_array.Kept.{AreQuiet}
use Rattle.ppq_load.specs.ppq_queue.Holding.{CountsFew}
use Rattle.ppq_load.specs.Refusal.{Keeps}
use Rattle.ppq_engine.proofs.Counted.{unrefused}
use Rattle.ppq_engine.proofs.machine.Machine.print_popped.Given as goal

abbrev pub invariant-rounds : goal.invariant-rounds
invariant-rounds g l = let w = words g.R.PartialEq g.R.PartialOrd g.R.Ord g.R.Record g.R.Fields in
    record {
      left : AllTell l.fn.self.queue.slots → IsSameBag l.self.queue.bag (drop l.done (ascending w.cmp l.fn.self.queue.bag));
      passed : AllTell l.fn.self.queue.slots → l.done ≤ popped_count w l.below l.fn.self.queue.bag l.count;
      text : AllTell l.fn.self.queue.slots → Gathers (g.O.Sink.told l.fn.out) (g.O.Sink.told l.out) l.fn.self.desk.gathered (records_text w l.world.form (take l.done (ascending w.cmp l.fn.self.queue.bag))) l.self.desk.gathered;
      within : l.done ≤ l.count;
      size : l.self.queue.size ≡ l.fn.self.queue.size - l.done;
      sound : l.self.queue.failed ≡ None;
      quiet : AreQuiet l.fn.self.queue.slots l.self.queue.slots;
      peak : l.self.queue.peak ≤ l.fn.self.queue.peak;
      kept : Keeps l.fn.self.queue l.self.queue;
      counted : CountsFew 0 0 l.fn.self.queue l.self.queue unrefused;
      stays : g.O.Sink.faults l.out ≡ g.O.Sink.faults l.fn.out;
    }

abbrev pub decreases-rounds : goal.decreases-rounds
decreases-rounds g l = l.count - l.done
