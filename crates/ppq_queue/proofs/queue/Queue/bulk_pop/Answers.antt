use Rattle.std.proofs.Common.{◌≡◌, arith}
use Rattle.std.specs.Prelude.{min}
use Rattle.ppq_extract.specs.ppq_budget.Sizes.{batch_of}
use Rattle.ppq_queue.proofs.Calls.{bulk-at, bulk-given, bulk-answered}
use Rattle.ppq_queue.proofs.queue.Queue.bulk_pop.Goals as goal

pub bulk-requires-clause-most : goal.bulk-requires-clause-most
bulk-requires-clause-most g c κs within = omega arith

pub returns-in_err-bulk : goal.returns-in_err-bulk
returns-in_err-bulk g c =
    let most : c.min-most.result ≡ min c.args.k (batch_of c.args.self.now.sizes) = omega (arith, c.min-most.ensures, c.from-room.ensures, c.room.ensures, c.requires.room) in
    record { pops = bulk-at most (bulk-given c.from_residual.ensures.1 c.in_err-bulk.ensures); answer = grind arith }

pub returns : goal.returns
returns g c =
    let most : c.min-most.result ≡ min c.args.k (batch_of c.args.self.now.sizes) = omega (arith, c.min-most.ensures, c.from-room.ensures, c.room.ensures, c.requires.room) in
    record { pops = bulk-at most (bulk-answered c.in_ok-bulk.ensures); answer = omega arith }
