use Rattle.ppq_checked.proofs.Noticed.{byte_is_noticed}
use Rattle.ppq_checked.proofs.sums.one_byte_is_noticed.Goals as goal

pub returns : goal.returns
returns c = byte_is_noticed
