use Rattle.std.proofs.Common.{◌/◌, length, ap, arith}
use Rattle.ppq_sweep.specs.ppq_record.Pair.{pair_of}
use Rattle.ppq_engine.specs.ppq_load.Given.{records_of}
use Rattle.ppq_engine.proofs.ppq_load.ppq_block.Blocks.{length-records_from}
use Rattle.ppq_jobs.specs.Edges.{first_bad_from}
use Rattle.ppq_jobs.proofs.looking.first_bad.Goals as goal

pub looking-init : goal.looking-init
looking-init c =
    let bytes = c.new-records.result in
    record {
      so_far = ap (λ b. first_bad_from c.args.nodes c.args.from (records_of pair_of 16 b)) c.new-records.ensures;
      room = omega (arith, length-records_from pair_of 16 (length bytes / 16) bytes, ap length c.new-records.ensures);
    }
