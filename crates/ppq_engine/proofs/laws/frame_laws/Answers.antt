use Rattle.std.proofs.Common.{[], arith}
use Rattle.ppq_script.specs.Words.{words}
use Rattle.ppq_engine.specs.Output.{outside}
use Rattle.ppq_engine.proofs.Frames.{output-framed, all-short, frames-apart}
use Rattle.ppq_engine.proofs.laws.frame_laws.Goals as goal

pub returns-clause-frames : goal.returns-clause-frames
returns-clause-frames g c = let w = words g.R.PartialEq g.R.PartialOrd g.R.Ord g.R.Record g.R.Fields in
    λ given commands. output-framed w given (outside []) commands

pub returns-clause-short : goal.returns-clause-short
returns-clause-short g c = let w = words g.R.PartialEq g.R.PartialOrd g.R.Ord g.R.Record g.R.Fields in
    λ given commands. all-short w (λ r. omega (arith, c.record_laws.ensures.bytes_length r, c.record_laws.ensures.width.1)) given (outside []) commands

pub returns-clause-apart : goal.returns-clause-apart
returns-clause-apart g c = frames-apart
