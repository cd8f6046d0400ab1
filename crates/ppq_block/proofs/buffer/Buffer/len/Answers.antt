use Rattle.std.proofs.Common.{sym}
use Rattle.ppq_block.proofs.Buffers.{length-items}
use Rattle.ppq_block.proofs.buffer.Buffer.len.Goals as goal

pub returns-clause-len : goal.returns-clause-len
returns-clause-len g c =
    let s = c.self.inside in
    sym (length-items g.R.Record.record_of g.R.Record.WIDTH s.block s.count s.bytes.items c.args.self.now s.settled c.self.view_is c.self.invariant.none)
