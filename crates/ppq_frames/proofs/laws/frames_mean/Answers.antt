use Rattle.ppq_frames.proofs.Parting.{one_parting}
use Rattle.ppq_frames.proofs.laws.frames_mean.Goals as goal

pub returns : goal.returns
returns c = one_parting
