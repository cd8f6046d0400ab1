use Rattle.std.proofs.Common.{arith}
use Rattle.ppq_raw.proofs.Parts.{given_more}
use Rattle.ppq_raw.proofs.transfers.read_more.Goals as goal

pub returns-clause-more : goal.returns-clause-more
returns-clause-more g c =
    let read = c.in_ok-count in
    λ file held first. given_more file c.args.into.now c.read_at.new.into c.args.at c.args.got read.count _ (omega arith) read.ensures.bound first (read.ensures.gives file held).bytes_are

pub returns-clause-none : goal.returns-clause-none
returns-clause-none g c = λ none. c.in_ok-count.ensures.none none (omega arith)
