use Rattle.std.proofs.Common.{◌≡◌, ◌≤◌, ◌-◌, None, take, drop}
use Rattle.ppq_script.specs.Words.{words}
use Rattle.ppq_script.specs.ppq_record.Bag.{IsSameBag, ascending}
use Rattle.ppq_script.specs.ppq_outside.Shown.{AllTell}
use Rattle.ppq_engine.specs.Gathers.{IsSummary}
use Rattle.ppq_load.specs.ppq_array.Kept.{AreQuiet}
use Rattle.ppq_load.specs.ppq_queue.Holding.{CountsFew}
use Rattle.ppq_load.specs.Refusal.{Keeps}
use Rattle.ppq_engine.proofs.Counted.{unrefused}
use Rattle.ppq_engine.proofs.machine.Machine.drain.Given as goal

abbrev pub invariant-rounds : goal.invariant-rounds
invariant-rounds g l = let w = words g.R.PartialEq g.R.PartialOrd g.R.Ord g.R.Record g.R.Fields in
    record {
      left : AllTell l.fn.self.queue.slots → IsSameBag l.self.queue.bag (drop l.done (ascending w.cmp l.fn.self.queue.bag));
      summary : AllTell l.fn.self.queue.slots → IsSummary w (take l.done (ascending w.cmp l.fn.self.queue.bag)) l.drained;
      count : l.drained.count ≡ l.done;
      within : l.done ≤ l.count;
      size : l.self.queue.size ≡ l.fn.self.queue.size - l.done;
      sound : l.self.queue.failed ≡ None;
      quiet : AreQuiet l.fn.self.queue.slots l.self.queue.slots;
      peak : l.self.queue.peak ≤ l.fn.self.queue.peak;
      kept : Keeps l.fn.self.queue l.self.queue;
      gathered : l.self.desk.gathered ≡ l.fn.self.desk.gathered;
      counted : CountsFew 0 0 l.fn.self.queue l.self.queue unrefused;
    }

abbrev pub decreases-rounds : goal.decreases-rounds
decreases-rounds g l = l.count - l.done
