use Rattle.ppq_script.specs.Words.{words}
use Rattle.ppq_requests.proofs.Writing.{request_means}
use Rattle.ppq_requests.proofs.laws.requests_mean.Goals as goal

pub returns : goal.returns
returns g c =
    let w = words g.R.PartialEq g.R.PartialOrd g.R.Ord g.R.Record g.R.Fields in
    request_means w c.record_laws.ensures.bytes_length c.record_laws.ensures.width.0 c.record_laws.ensures.put_take
