use Rattle.ppq_sweep.proofs.Leveling.{level-low}
use Rattle.ppq_sweep.proofs.Meaning.{levels-are, levels-only, edges-same, text-same}
use Rattle.ppq_sweep.proofs.laws.level_law.Goals as goal

pub returns : goal.returns
returns c = record { levels = levels-are; only = levels-only; low = level-low; same_edges = edges-same; same_text = text-same }
