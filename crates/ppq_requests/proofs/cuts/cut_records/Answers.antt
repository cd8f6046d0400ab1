use Rattle.std.proofs.Common.{◌*◌, ℕ, ap}
use Rattle.ppq_requests.proofs.Operations.{whole_pieces}
use Rattle.ppq_requests.proofs.cuts.cut_records.Goals as goal

pub returns-clause-whole : goal.returns-clause-whole
returns-clause-whole g c =
    whole_pieces c.cut-2.result (λ cut. (cut.0.now, cut.1.now)) c.from_be_bytes-count.result g.R.Record.WIDTH _ _ c.record_laws.ensures.width.0
    (ap (λ (k : ℕ). c.from_be_bytes-count.result * k) c.WIDTH.ensures) c.cut-2.ensures
