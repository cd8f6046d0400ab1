use Rattle.std.proofs.Common.{rules, ◌≡◌, ◌+◌, ◌-◌, ◌++◌, ◌∙◌, ℕ, List, length, ap, None, refl, sym, subst, take, drop, arith}
use Rattle.ppq_engine.proofs.Orders.{laws_of}
use Rattle.ppq_script.specs.Words.{words}
use Rattle.ppq_script.specs.ppq_record.Bag.{IsSameBag, ascending}
use Rattle.ppq_engine.specs.Gathers.{IsSummary}
use Rattle.ppq_engine.proofs.Popped.{left-begin, round-left, round-taken, round-ends}
use Rattle.ppq_load.proofs.ppq_queue.Counted.{few-then}
use Rattle.ppq_load.proofs.ppq_queue.Flushed.{keeps-more}
use Rattle.ppq_engine.proofs.Counted.{few-none, few-ok, few-err}
use Rattle.ppq_engine.specs.Running.{QuietIfFull}
use Rattle.ppq_engine.proofs.Kept.{Keeps-refl, quiet-then}
use Rattle.ppq_engine.proofs.Results.{if-err}
use Rattle.ppq_engine.proofs.machine.Machine.drain.Goals as goal

pub rounds-init : goal.rounds-init
rounds-init g c = let w = words g.R.PartialEq g.R.PartialOrd g.R.Ord g.R.Record g.R.Fields in let laws = laws_of w c.record_laws.ensures.order c.record_laws.ensures.same in
    record {
      left = λ tells. left-begin w laws c.args.self.now.queue.bag;
      summary = λ tells. c.nothing-drained.ensures;
      count = c.nothing-drained.ensures.count;
      within = omega arith;
      size = omega arith;
      sound = c.requires;
      quiet = refl;
      peak = omega arith;
      kept = Keeps-refl c.args.self.now.queue;
      gathered = refl;
      counted = few-none c.args.self.now.queue;
    }

pub returns-in_err-pop_round-clause-called : goal.returns-in_err-pop_round-clause-called
returns-in_err-pop_round-clause-called g c = record {
  kept = keeps-more c.args.self.now.queue c.rounds.self.queue c.pop_round.new.self.queue c.rounds.invariant.kept c.pop_round.ensures.called.kept;
  gathered = c.pop_round.ensures.called.gathered ∙ c.rounds.invariant.gathered;
  peak = omega (arith, c.rounds.invariant.peak, c.pop_round.ensures.called.peak);
  counted = few-err c.args.self.now.queue c.pop_round.new.self.queue c.from_residual.result _ c.from_residual.ensures.1 (few-then 0 0 0 0 c.args.self.now.queue c.rounds.self.queue c.pop_round.new.self.queue _ _ c.rounds.invariant.counted c.pop_round.ensures.called.counted);
  refused = search rules;
  quiet =
      if-err c.from_residual.result c.in_err-pop_round.field-0.0 (QuietIfFull c.args.self.now.queue.slots c.pop_round.new.self.queue.slots) c.from_residual.ensures.1
      (quiet-then c.args.self.now.queue.slots c.rounds.self.queue.slots c.pop_round.new.self.queue.slots c.rounds.invariant.quiet c.in_err-pop_round.field-0.0 c.in_err-pop_round.ensures.called.quiet);
}

pub returns-then-is_empty-clause-summary : goal.returns-then-is_empty-clause-summary
returns-then-is_empty-clause-summary g c = let w = words g.R.PartialEq g.R.PartialOrd g.R.Ord g.R.Record g.R.Fields in let laws = laws_of w c.record_laws.ensures.order c.record_laws.ensures.same in
    λ tells.
    let here = c.rounds.invariant.kept.tells tells in
    let all = round-ends w laws None c.rounds.self.queue.bag c.pop_round.new.self.queue.bag c.args.self.now.queue.bag c.pop_round.new.self.desk.list.items c.rounds.done c.args.count (c.args.count - c.rounds.done) (c.if-is_empty.ensures.0 refl) (c.rounds.invariant.left tells) (c.in_ok-pop_round.ensures.popped.round here) c.rounds.invariant.within in
    let P : List g.row.R.Denot → Type 0 = λ items. IsSummary w items c.rounds.drained in
    subst P (sym all.0) (c.rounds.invariant.summary tells)

pub returns-then-is_empty-clause-left : goal.returns-then-is_empty-clause-left
returns-then-is_empty-clause-left g c = let w = words g.R.PartialEq g.R.PartialOrd g.R.Ord g.R.Record g.R.Fields in let laws = laws_of w c.record_laws.ensures.order c.record_laws.ensures.same in
    let popped = c.in_ok-pop_round.ensures.popped in
    let none = c.if-is_empty.ensures.0 refl in
    record {
      bag =
          λ tells.
          (round-ends w laws None c.rounds.self.queue.bag c.pop_round.new.self.queue.bag c.args.self.now.queue.bag c.pop_round.new.self.desk.list.items c.rounds.done c.args.count (c.args.count - c.rounds.done) none (c.rounds.invariant.left tells) (popped.round (c.rounds.invariant.kept.tells tells)) c.rounds.invariant.within).1;
      low = omega (arith, c.rounds.invariant.size, c.rounds.invariant.within, popped.size, popped.end refl none);
      high = omega (arith, c.rounds.invariant.size, c.rounds.invariant.within, popped.size, popped.end refl none);
      sound = popped.sound;
      quiet = popped.quiet ∙ c.rounds.invariant.quiet;
    }

pub returns-then-is_empty-clause-called : goal.returns-then-is_empty-clause-called
returns-then-is_empty-clause-called g c = record {
  kept = keeps-more c.args.self.now.queue c.rounds.self.queue c.pop_round.new.self.queue c.rounds.invariant.kept c.pop_round.ensures.called.kept;
  gathered = c.pop_round.ensures.called.gathered ∙ c.rounds.invariant.gathered;
  peak = omega (arith, c.rounds.invariant.peak, c.pop_round.ensures.called.peak);
  counted = few-ok c.args.self.now.queue c.pop_round.new.self.queue (few-then 0 0 0 0 c.args.self.now.queue c.rounds.self.queue c.pop_round.new.self.queue _ _ c.rounds.invariant.counted c.in_ok-pop_round.ensures.called.counted);
  refused = tt;
  quiet = tt;
}

pub rounds-preserved : goal.rounds-preserved
rounds-preserved g c = let w = words g.R.PartialEq g.R.PartialOrd g.R.Ord g.R.Record g.R.Fields in let laws = laws_of w c.record_laws.ensures.order c.record_laws.ensures.same in
    let old = c.args.self.now.queue.bag in
    let asc = ascending w.cmp old in
    let bag = c.rounds.self.queue.bag in
    let next = c.pop_round.new.self.queue.bag in
    let items = c.pop_round.new.self.desk.list.items in
    let done = c.rounds.done in
    let left = c.args.count - done in
    let v = c.rounds.invariant in
    let popped = c.in_ok-pop_round.ensures.popped in
    let sum : done + length items ≡ done + c.from-done.result = omega (arith, c.from-done.ensures, c.len.ensures.value) in
    record {
      left =
          λ tells.
          let P : ℕ → Type 0 = λ n. IsSameBag next (drop n asc) in
          subst P sum (round-left w laws bag next old items done left None (v.left tells) (popped.round (v.kept.tells tells)));
      summary =
          λ tells.
          let P : ℕ → Type 0 = λ n. IsSummary w (take n asc) c.add_all-drained.result in
          let Q : List g.row.R.Denot → Type 0 = λ xs. IsSummary w xs c.add_all-drained.result in
          let R : List g.row.R.Denot → Type 0 = λ xs. IsSummary w (take done asc ++ xs) c.add_all-drained.result in
          subst P sum
          (subst Q (sym (round-taken w laws bag next old items done left None (v.left tells) (popped.round (v.kept.tells tells))))
          (subst R c.as_slice.ensures (c.add_all-drained.ensures.summary (take done asc) (v.summary tells))));
      count = omega (arith, sum, c.add_all-drained.ensures.count, v.count, ap length c.as_slice.ensures);
      within = omega (arith, sum, popped.few, v.within);
      size = omega (arith, sum, popped.size, v.size);
      sound = popped.sound;
      quiet = popped.quiet ∙ v.quiet;
      peak = omega (arith, c.pop_round.ensures.called.peak, v.peak);
      kept = keeps-more c.args.self.now.queue c.rounds.self.queue c.pop_round.new.self.queue v.kept c.pop_round.ensures.called.kept;
      gathered = c.pop_round.ensures.called.gathered ∙ v.gathered;
      counted = few-ok c.args.self.now.queue c.pop_round.new.self.queue (few-then 0 0 0 0 c.args.self.now.queue c.rounds.self.queue c.pop_round.new.self.queue _ _ c.rounds.invariant.counted c.in_ok-pop_round.ensures.called.counted);
    }

pub returns-clause-summary : goal.returns-clause-summary
returns-clause-summary g c = let w = words g.R.PartialEq g.R.PartialOrd g.R.Ord g.R.Record g.R.Fields in
    λ tells.
    let P : ℕ → Type 0 = λ n. IsSummary w (take n (ascending w.cmp c.args.self.now.queue.bag)) c.rounds.drained in
    let all : c.rounds.done ≡ c.args.count = omega (arith, c.rounds.invariant.within) in
    subst P all (c.rounds.invariant.summary tells)

pub returns-clause-left : goal.returns-clause-left
returns-clause-left g c = let w = words g.R.PartialEq g.R.PartialOrd g.R.Ord g.R.Record g.R.Fields in
    let all : c.rounds.done ≡ c.args.count = omega (arith, c.rounds.invariant.within) in
    record {
      bag = λ tells. let P : ℕ → Type 0 = λ n. IsSameBag c.rounds.self.queue.bag (drop n (ascending w.cmp c.args.self.now.queue.bag)) in subst P all (c.rounds.invariant.left tells);
      low = omega (arith, c.rounds.invariant.size, all);
      high = omega (arith, c.rounds.invariant.size, all);
      sound = c.rounds.invariant.sound;
      quiet = c.rounds.invariant.quiet;
    }
