use Rattle.ppq_handler.proofs.Gone.{nobody_feels_gone}
use Rattle.ppq_handler.proofs.laws.gone_law.Goals as goal

pub returns : goal.returns
returns c = nobody_feels_gone
