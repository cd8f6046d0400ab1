use Rattle.std.proofs.Common.{◌≡◌, ◌∙◌, refl, subst, arith}
use Rattle.std.specs.Prelude.{min}
use Rattle.ppq_extract.specs.ppq_budget.Sizes.{batch_of}
use Rattle.ppq_queue.specs.Bulk.{IsEnd}
use Rattle.ppq_queue.proofs.Ends.{end_is}
use Rattle.ppq_queue.proofs.Calls.{bulk-at, bulk-given, bulk-answered}
use Rattle.ppq_queue.proofs.queue.Queue.bulk_pop_limit.Goals as goal

pub bulk-requires-clause-most : goal.bulk-requires-clause-most
bulk-requires-clause-most g c κs within = omega arith

pub returns-in_err-bulk : goal.returns-in_err-bulk
returns-in_err-bulk g c =
    let most : c.min-most.result ≡ min c.args.n (batch_of c.args.self.now.sizes) = omega (arith, c.min-most.ensures, c.from-room.ensures, c.room.ensures, c.requires.room) in
    record { pops = bulk-at most (bulk-given c.from_residual.ensures.1 c.in_err-bulk.ensures); answer = grind arith }

pub limit_end-requires-clause-ready : goal.limit_end-requires-clause-ready
limit_end-requires-clause-ready g c κs within = (let took = c.in_ok-bulk.ensures.took in record { sound = took.sound; some = took.ready c.args.l refl })

pub returns : goal.returns
returns g c =
    let laws = c.record_laws.ensures in
    let left = c.in_ok-bulk.ensures in
    let out = c.bulk.new.out.items in
    let bag = c.bulk.new.self.bag in
    let room : c.from-room.result ≡ batch_of c.args.self.now.sizes = c.from-room.ensures ∙ (c.room.ensures ∙ c.requires.room) in
    let asked : c.min-most.result ≡ min c.args.n c.from-room.result = omega (arith, c.min-most.ensures) in
    let most : c.min-most.result ≡ min c.args.n (batch_of c.args.self.now.sizes) = omega (arith, c.min-most.ensures, c.from-room.ensures, c.room.ensures, c.requires.room) in
    record {
      pops = bulk-at most (bulk-answered left);
      answer = λ tell.
          subst (λ k. IsEnd g.R.Ord.cmp k c.args.n c.args.l out bag c.limit_end.result) room
          (end_is laws.order laws.same c.args.l out bag c.args.n c.from-room.result c.min-most.result asked c.limit_end.result (left.took.left tell) (c.limit_end.ensures (left.keeps.tells tell)));
    }
