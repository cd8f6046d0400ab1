use Rattle.std.proofs.Common.{◌≡◌, ◌+◌, ◌≤◌, length}
use Rattle.ppq_sweep.specs.ppq_record.Pair.{pair_of}
use Rattle.ppq_engine.specs.ppq_load.Given.{records_of}
use Rattle.ppq_jobs.specs.Edges.{first_bad_from}
use Rattle.ppq_jobs.proofs.looking.first_bad.Given as goal

abbrev pub invariant-looking : goal.invariant-looking
invariant-looking l = record {
  so_far : first_bad_from l.nodes l.number (records_of pair_of 16 l.records) ≡ first_bad_from l.nodes l.from (records_of pair_of 16 l.piece);
  room : l.number + length (records_of pair_of 16 l.records) ≤ l.from + length l.piece;
}

abbrev pub decreases-looking : goal.decreases-looking
decreases-looking l = length (records_of pair_of 16 l.records)
