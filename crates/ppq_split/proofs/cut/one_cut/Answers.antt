use Rattle.ppq_record.specs.Order.{is_before}
use Rattle.ppq_split.proofs.Cuts.{IsCut-rises, IsCut-only}
use Rattle.ppq_split.proofs.cut.one_cut.Goals as goal

pub returns : goal.returns
returns g c = record { only = IsCut-only (is_before g.R.Ord.cmp); rises = IsCut-rises (is_before g.R.Ord.cmp) }
