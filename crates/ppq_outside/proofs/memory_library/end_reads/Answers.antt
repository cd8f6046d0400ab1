use Rattle.std.proofs.Common.{◌<◌, length, rules}
use Rattle.ppq_outside.specs.Entries.{IsShrunk}
use Rattle.ppq_outside.proofs.Shrunk.{done_more, left_more}
use Rattle.ppq_outside.proofs.memory_library.end_reads.Goals as goal

pub loop-entry-preserved : goal.loop-entry-preserved
loop-entry-preserved c =
    let l = c.loop-entry in
    let below : l.entry-index < length c.args.entries.now = c.loop-entry-test.true in
    record {
      done = done_more (IsShrunk c.args.name.now c.args.to) c.args.entries.now l.entries l.entry-index c.entry-item.result c.end_reads_of.new.entry below l.invariant.long l.invariant.left l.invariant.done c.end_reads_of.ensures;
      left = left_more c.args.entries.now l.entries l.entry-index c.entry-item.result c.end_reads_of.new.entry below l.invariant.long l.invariant.left;
      long = search rules;
    }
