use Rattle.std.proofs.Common.{◌≡◌, ◌+◌, ◌-◌, ◌++◌, ◌∙◌, ℕ, List, length, refl, sym, subst, take, drop, arith}
use Rattle.ppq_engine.proofs.Orders.{laws_of}
use Rattle.ppq_script.specs.Words.{words}
use Rattle.ppq_script.specs.ppq_record.Bag.{IsSameBag, ascending}
use Rattle.ppq_script.specs.ppq_outside.Told.{TakesPart}
use Rattle.ppq_engine.specs.Output.{records_text}
use Rattle.ppq_engine.specs.Gathers.{Gathers}
use Rattle.ppq_engine.specs.Popping.{popped_count}
use Rattle.ppq_engine.specs.declared.stop.Stop.TheVariants.{Sink, Queue}
use Rattle.ppq_engine.proofs.Popped.{left-begin, round-left, round-lines, round-passed, round-taken, round-ends, round-put, gathers-nothing, gathers-more, gathers-kept, left-most, popped-part, popped-le, prints-stop}
use Rattle.ppq_load.proofs.ppq_queue.Counted.{few-then}
use Rattle.ppq_load.proofs.ppq_queue.Flushed.{keeps-more}
use Rattle.ppq_engine.proofs.Counted.{few-none, few-ok}
use Rattle.ppq_engine.proofs.Kept.{Keeps-refl, quiet-then, lent-stop}
use Rattle.ppq_engine.proofs.machine.Machine.print_popped.Goals as goal

pub rounds-init : goal.rounds-init
rounds-init g c = let w = words g.R.PartialEq g.R.PartialOrd g.R.Ord g.R.Record g.R.Fields in let laws = laws_of w c.record_laws.ensures.order c.record_laws.ensures.same in
    record {
      left = λ tells. left-begin w laws c.args.self.now.queue.bag;
      passed = λ tells. omega arith;
      text = λ tells. gathers-nothing (g.O.Sink.told c.args.out.now) c.args.self.now.desk.gathered;
      within = omega arith;
      size = omega arith;
      sound = c.requires;
      quiet = refl;
      peak = omega arith;
      kept = Keeps-refl c.args.self.now.queue;
      counted = few-none c.args.self.now.queue;
      stays = refl;
    }

pub returns-in_err-pop_round-clause-prints : goal.returns-in_err-pop_round-clause-prints
returns-in_err-pop_round-clause-prints g c = let w = words g.R.PartialEq g.R.PartialOrd g.R.Ord g.R.Record g.R.Fields in
    let told = g.O.Sink.told in
    let asc = ascending w.cmp c.args.self.now.queue.bag in
    let count = popped_count w c.args.below c.args.self.now.queue.bag c.args.count in
    prints-stop c.args.self.now.queue.slots (told c.args.out.now) (told c.rounds.out) c.args.self.now.desk.gathered (records_text w c.args.world.now.form (take count asc)) c.pop_round.new.self.desk.gathered c.from_residual.result (Queue c.in_err-pop_round.field-0.0) c.from_residual.ensures.1
    (λ tells. popped-part w c.args.world.now.form (told c.args.out.now) (told c.rounds.out) c.args.self.now.desk.gathered c.pop_round.new.self.desk.gathered asc c.rounds.done count (c.rounds.invariant.passed tells) (gathers-kept c.pop_round.ensures.called.gathered (c.rounds.invariant.text tells)))

pub returns-in_err-pop_round-clause-lent : goal.returns-in_err-pop_round-clause-lent
returns-in_err-pop_round-clause-lent g c =
    lent-stop c.from_residual.result (Queue c.in_err-pop_round.field-0.0) c.from_residual.ensures.1 c.args.self.now.queue c.rounds.self.queue c.pop_round.new.self.queue c.args.self.now.queue.peak 0
    c.rounds.invariant.kept c.pop_round.ensures.called.kept (omega (arith, c.rounds.invariant.peak, c.pop_round.ensures.called.peak)) (few-then 0 0 0 0 c.args.self.now.queue c.rounds.self.queue c.pop_round.new.self.queue _ _ c.rounds.invariant.counted c.pop_round.ensures.called.counted) c.in_err-pop_round.ensures.called.refused
    (quiet-then c.args.self.now.queue.slots c.rounds.self.queue.slots c.pop_round.new.self.queue.slots c.rounds.invariant.quiet c.in_err-pop_round.field-0.0 c.in_err-pop_round.ensures.called.quiet) tt

pub returns-then-is_empty-clause-prints : goal.returns-then-is_empty-clause-prints
returns-then-is_empty-clause-prints g c = let w = words g.R.PartialEq g.R.PartialOrd g.R.Ord g.R.Record g.R.Fields in let laws = laws_of w c.record_laws.ensures.order c.record_laws.ensures.same in
    let told = g.O.Sink.told in
    record {
      text =
          λ tells.
          let all = round-ends w laws c.args.below c.rounds.self.queue.bag c.pop_round.new.self.queue.bag c.args.self.now.queue.bag c.pop_round.new.self.desk.list.items c.rounds.done c.args.count (c.args.count - c.rounds.done) (c.if-is_empty.ensures.0 refl) (c.rounds.invariant.left tells) (c.in_ok-pop_round.ensures.popped.round (c.rounds.invariant.kept.tells tells)) (c.rounds.invariant.passed tells) in
          let P : List g.row.R.Denot → Type 0 = λ items. Gathers (told c.args.out.now) (told c.rounds.out) c.args.self.now.desk.gathered (records_text w c.args.world.now.form items) c.pop_round.new.self.desk.gathered in
          subst P (sym all.0) (gathers-kept c.pop_round.ensures.called.gathered (c.rounds.invariant.text tells));
      part = tt;
    }

pub returns-then-is_empty-clause-left : goal.returns-then-is_empty-clause-left
returns-then-is_empty-clause-left g c = let w = words g.R.PartialEq g.R.PartialOrd g.R.Ord g.R.Record g.R.Fields in let laws = laws_of w c.record_laws.ensures.order c.record_laws.ensures.same in
    let popped = c.in_ok-pop_round.ensures.popped in
    record {
      bag =
          λ tells.
          (round-ends w laws c.args.below c.rounds.self.queue.bag c.pop_round.new.self.queue.bag c.args.self.now.queue.bag c.pop_round.new.self.desk.list.items c.rounds.done c.args.count (c.args.count - c.rounds.done) (c.if-is_empty.ensures.0 refl) (c.rounds.invariant.left tells) (popped.round (c.rounds.invariant.kept.tells tells)) (c.rounds.invariant.passed tells)).1;
      low = omega (arith, c.rounds.invariant.size, c.rounds.invariant.within, popped.size, popped.few);
      high =
          left-most c.args.below c.args.self.now.queue.size c.args.count c.pop_round.new.self.queue.size (omega (arith, c.rounds.invariant.size, popped.size))
          (λ same. omega (arith, c.rounds.invariant.size, c.rounds.invariant.within, popped.size, popped.end same (c.if-is_empty.ensures.0 refl)));
      sound = popped.sound;
      quiet = popped.quiet ∙ c.rounds.invariant.quiet;
    }

pub returns-then-is_empty-clause-lent : goal.returns-then-is_empty-clause-lent
returns-then-is_empty-clause-lent g c = record {
  kept = keeps-more c.args.self.now.queue c.rounds.self.queue c.pop_round.new.self.queue c.rounds.invariant.kept c.pop_round.ensures.called.kept;
  peak = omega (arith, c.rounds.invariant.peak, c.pop_round.ensures.called.peak);
  counted = few-ok c.args.self.now.queue c.pop_round.new.self.queue (few-then 0 0 0 0 c.args.self.now.queue c.rounds.self.queue c.pop_round.new.self.queue _ _ c.rounds.invariant.counted c.in_ok-pop_round.ensures.called.counted);
  refused = tt;
  quiet = tt;
  no_file = tt;
}

pub returns-in_err-print_all-clause-prints : goal.returns-in_err-print_all-clause-prints
returns-in_err-print_all-clause-prints g c = let w = words g.R.PartialEq g.R.PartialOrd g.R.Ord g.R.Record g.R.Fields in let laws = laws_of w c.record_laws.ensures.order c.record_laws.ensures.same in
    let told = g.O.Sink.told in
    let old = c.args.self.now.queue.bag in
    let asc = ascending w.cmp old in
    let items = c.pop_round.new.self.desk.list.items in
    let count = popped_count w c.args.below old c.args.count in
    let Q : List g.row.R.Denot → Type 0 = λ xs. TakesPart (told c.rounds.out) (told c.print_all.new.out) (c.pop_round.new.self.desk.gathered ++ records_text w c.args.world.now.form xs) in
    prints-stop c.args.self.now.queue.slots (told c.args.out.now) (told c.print_all.new.out) c.args.self.now.desk.gathered (records_text w c.args.world.now.form (take count asc)) c.print_all.new.gathered c.from_residual-in_err-print_all.result Sink c.from_residual-in_err-print_all.ensures.1
    (λ tells.
    let round = c.in_ok-pop_round.ensures.popped.round (c.rounds.invariant.kept.tells tells) in
    let same = c.rounds.invariant.left tells in
    round-put w c.args.world.now.form (told c.args.out.now) (told c.rounds.out) (told c.print_all.new.out) c.args.self.now.desk.gathered c.pop_round.new.self.desk.gathered asc items c.rounds.done count
    (round-passed w laws c.rounds.self.queue.bag c.pop_round.new.self.queue.bag old items c.rounds.done c.args.count c.args.below same round c.rounds.invariant.within (c.rounds.invariant.passed tells))
    (round-taken w laws c.rounds.self.queue.bag c.pop_round.new.self.queue.bag old items c.rounds.done (c.args.count - c.rounds.done) c.args.below same round)
    (gathers-kept c.pop_round.ensures.called.gathered (c.rounds.invariant.text tells)) (subst Q c.as_slice.ensures c.in_err-print_all.ensures.part))

pub returns-in_err-print_all-clause-lent : goal.returns-in_err-print_all-clause-lent
returns-in_err-print_all-clause-lent g c =
    lent-stop c.from_residual-in_err-print_all.result Sink c.from_residual-in_err-print_all.ensures.1 c.args.self.now.queue c.rounds.self.queue c.pop_round.new.self.queue c.args.self.now.queue.peak 0
    c.rounds.invariant.kept c.pop_round.ensures.called.kept (omega (arith, c.rounds.invariant.peak, c.pop_round.ensures.called.peak)) (few-then 0 0 0 0 c.args.self.now.queue c.rounds.self.queue c.pop_round.new.self.queue _ _ c.rounds.invariant.counted c.pop_round.ensures.called.counted) tt tt tt

pub rounds-preserved : goal.rounds-preserved
rounds-preserved g c = let w = words g.R.PartialEq g.R.PartialOrd g.R.Ord g.R.Record g.R.Fields in let laws = laws_of w c.record_laws.ensures.order c.record_laws.ensures.same in
    let told = g.O.Sink.told in
    let old = c.args.self.now.queue.bag in
    let asc = ascending w.cmp old in
    let bag = c.rounds.self.queue.bag in
    let next = c.pop_round.new.self.queue.bag in
    let items = c.pop_round.new.self.desk.list.items in
    let done = c.rounds.done in
    let left = c.args.count - done in
    let v = c.rounds.invariant in
    let popped = c.in_ok-pop_round.ensures.popped in
    let sum : done + length items ≡ done + c.from-done.result = omega (arith, c.from-done.ensures, c.len.ensures.value) in
    record {
      left =
          λ tells.
          let P : ℕ → Type 0 = λ n. IsSameBag next (drop n asc) in
          subst P sum (round-left w laws bag next old items done left c.args.below (v.left tells) (popped.round (v.kept.tells tells)));
      passed =
          λ tells.
          omega (arith, sum, round-passed w laws bag next old items done c.args.count c.args.below (v.left tells) (popped.round (v.kept.tells tells)) v.within (v.passed tells));
      text =
          λ tells.
          let P : ℕ → Type 0 = λ n. Gathers (told c.args.out.now) (told c.print_all.new.out) c.args.self.now.desk.gathered (records_text w c.args.world.now.form (take n asc)) c.print_all.new.gathered in
          let Q : List g.row.R.Denot → Type 0 = λ xs. Gathers (told c.rounds.out) (told c.print_all.new.out) c.pop_round.new.self.desk.gathered (records_text w c.args.world.now.form xs) c.print_all.new.gathered in
          let R : List ℕ → Type 0 = λ t. Gathers (told c.args.out.now) (told c.print_all.new.out) c.args.self.now.desk.gathered t c.print_all.new.gathered in
          subst P sum
          (subst R (sym (round-lines w laws c.args.world.now.form bag next old items done left c.args.below (v.left tells) (popped.round (v.kept.tells tells))))
          (gathers-more (told c.args.out.now) (told c.rounds.out) (told c.print_all.new.out) c.args.self.now.desk.gathered c.pop_round.new.self.desk.gathered c.print_all.new.gathered (records_text w c.args.world.now.form (take done asc)) (records_text w c.args.world.now.form items) (gathers-kept c.pop_round.ensures.called.gathered (v.text tells)) (subst Q c.as_slice.ensures c.in_ok-print_all.ensures.text)));
      within = omega (arith, sum, popped.few, v.within);
      size = omega (arith, sum, popped.size, v.size);
      sound = popped.sound;
      quiet = popped.quiet ∙ v.quiet;
      peak = omega (arith, c.pop_round.ensures.called.peak, v.peak);
      kept = keeps-more c.args.self.now.queue c.rounds.self.queue c.pop_round.new.self.queue v.kept c.pop_round.ensures.called.kept;
      counted = few-ok c.args.self.now.queue c.pop_round.new.self.queue (few-then 0 0 0 0 c.args.self.now.queue c.rounds.self.queue c.pop_round.new.self.queue _ _ c.rounds.invariant.counted c.in_ok-pop_round.ensures.called.counted);
      stays = c.in_ok-print_all.ensures.cause.ok ∙ v.stays;
    }

pub returns-clause-prints : goal.returns-clause-prints
returns-clause-prints g c = let w = words g.R.PartialEq g.R.PartialOrd g.R.Ord g.R.Record g.R.Fields in
    let told = g.O.Sink.told in
    let old = c.args.self.now.queue.bag in
    let P : ℕ → Type 0 = λ n. Gathers (told c.args.out.now) (told c.rounds.out) c.args.self.now.desk.gathered (records_text w c.args.world.now.form (take n (ascending w.cmp old))) c.rounds.self.desk.gathered in
    record {
      text = λ tells. let all : c.rounds.done ≡ popped_count w c.args.below old c.args.count = omega (arith, c.rounds.invariant.passed tells, popped-le w c.args.below old c.args.count, c.rounds-test.false) in subst P all (c.rounds.invariant.text tells);
      part = tt;
    }

pub returns-clause-left : goal.returns-clause-left
returns-clause-left g c = let w = words g.R.PartialEq g.R.PartialOrd g.R.Ord g.R.Record g.R.Fields in
    let old = c.args.self.now.queue.bag in
    let P : ℕ → Type 0 = λ n. IsSameBag c.rounds.self.queue.bag (drop n (ascending w.cmp old)) in
    record {
      bag = λ tells. let all : c.rounds.done ≡ popped_count w c.args.below old c.args.count = omega (arith, c.rounds.invariant.passed tells, popped-le w c.args.below old c.args.count, c.rounds-test.false) in subst P all (c.rounds.invariant.left tells);
      low = omega (arith, c.rounds.invariant.size, c.rounds.invariant.within);
      high = left-most c.args.below c.args.self.now.queue.size c.args.count c.rounds.self.queue.size (omega (arith, c.rounds.invariant.size)) (λ same. omega (arith, c.rounds.invariant.size, c.rounds.invariant.within, c.rounds-test.false));
      sound = c.rounds.invariant.sound;
      quiet = c.rounds.invariant.quiet;
    }
