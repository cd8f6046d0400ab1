use Rattle.ppq_session.proofs.Belows.{stand_back}
use Rattle.ppq_session.proofs.front_laws.high_records_stand_back.Goals as goal

pub returns : goal.returns
returns g c limit bag others high = stand_back c.record_laws.ensures.order c.record_laws.ensures.same limit bag others high
