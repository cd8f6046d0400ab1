use Rattle.ppq_core.proofs.Parts.{parts_interleave, parts_are_legal, parts_go_on}
use Rattle.ppq_core.proofs.Renumbered.{passes_renumber}
use Rattle.ppq_core.proofs.laws.interleaving_laws.Goals as goal

pub returns : goal.returns
returns g c = record {
  together = parts_interleave _;
  apart = parts_are_legal _;
  go_on = parts_go_on _;
  renumbered = passes_renumber _;
}
