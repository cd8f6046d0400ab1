use Rattle.std.proofs.Common.{◌≡◌, Option, None, Some, length, refl, ap, sym, subst, arith}
use Rattle.ppq_engine.proofs.Orders.{laws_of}
use Rattle.ppq_script.specs.Words.{words}
use Rattle.ppq_load.specs.ppq_budget.Sizes.{batch_of}
use Rattle.ppq_load.proofs.ppq_queue.Bounds.{batch_some}
use Rattle.ppq_load.proofs.ppq_queue.Counted.{few-as}
use Rattle.ppq_engine.specs.Calls.{PopsRound}
use Rattle.ppq_engine.proofs.Popped.{round-all, round-low}
use Rattle.ppq_engine.proofs.machine.Machine.pop_round.Goals as goal

pub returns-in_ok-_taken-in-None-clause-popped : goal.returns-in_ok-_taken-in-None-clause-popped
returns-in_ok-_taken-in-None-clause-popped g c = let w = words g.R.PartialEq g.R.PartialOrd g.R.Ord g.R.Record g.R.Fields in
    let old = c.args.self.now.queue in
    let items = c.bulk_pop.new.out.items in
    let b = c.in_ok-_taken-in-None.ensures.pops in
    let room = batch_some old.sizes c.known.ensures.range in
    let P : Option g.row.R.Denot → Type 0 = λ below. PopsRound w below c.args.count old c.bulk_pop.new.self items in
    subst P (sym c.in-None.is) (record {
      round = λ tells. round-all w old.bag c.bulk_pop.new.self.bag items c.args.count (batch_of old.sizes) c.requires room (b.took.front tells) (b.took.rest tells);
      few = omega (arith, b.took.few);
      end = λ same none. omega (arith, c.requires, room, b.took.count refl, ap length none);
      size = b.size;
      sound = b.took.sound;
      quiet = b.took.quiet;
    })

pub returns-in_ok-_end-in-Some-clause-popped : goal.returns-in_ok-_end-in-Some-clause-popped
returns-in_ok-_end-in-Some-clause-popped g c = let w = words g.R.PartialEq g.R.PartialOrd g.R.Ord g.R.Record g.R.Fields in let laws = laws_of w c.record_laws.ensures.order c.record_laws.ensures.same in
    let old = c.args.self.now.queue in
    let limit = c.in-Some.limit in
    let items = c.bulk_pop_limit.new.out.items in
    let b = c.in_ok-_end-in-Some.ensures.pops in
    let P : Option g.row.R.Denot → Type 0 = λ below. PopsRound w below c.args.count old c.bulk_pop_limit.new.self items in
    subst P (sym c.in-Some.is) (record {
      round = λ tells. round-low w laws old.bag c.bulk_pop_limit.new.self.bag items limit c.args.count (batch_of old.sizes) c.requires (batch_some old.sizes c.known.ensures.range) (b.took.front tells) (b.took.rest tells);
      few = omega (arith, b.took.few);
      end = λ same none. let different : Some limit ≡ None = same in cc;
      size = b.size;
      sound = b.took.sound;
      quiet = b.took.quiet;
    })

pub returns-in_ok-_taken-in-None-clause-called : goal.returns-in_ok-_taken-in-None-clause-called
returns-in_ok-_taken-in-None-clause-called g c =
    let b = c.in_ok-_taken-in-None.ensures.pops in
    record { kept = b.keeps; gathered = refl; peak = omega (arith, b.peak); counted = few-as c.args.self.now.queue c.bulk_pop.new.self _ b.keeps.sizes b.counted; refused = tt; quiet = tt }
