use Rattle.ppq_record.proofs.Taken.{records_from-flat_map}
use Rattle.ppq_record.proofs.bytes.taken_back.Goals as goal

pub returns : goal.returns
returns g c = records_from-flat_map g.R.Record.is_value g.R.Record.bytes_of g.R.Record.record_of g.R.Record.WIDTH c.record_laws.ensures.bytes_length c.record_laws.ensures.take_put
