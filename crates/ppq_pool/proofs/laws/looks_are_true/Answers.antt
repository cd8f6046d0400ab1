use Rattle.ppq_pool.proofs.Looks as looks
use Rattle.ppq_pool.proofs.laws.looks_are_true.Goals as goal

pub returns : goal.returns
returns g c = record {
  looks = looks.looks_are_true _;
  blind = looks.no_blind_look _;
  never = looks.no_false_look _;
}
