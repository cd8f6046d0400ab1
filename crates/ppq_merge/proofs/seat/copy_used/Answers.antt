use Rattle.std.proofs.Common.{length, take, ap, ◌∙◌}
use Rattle.ppq_merge.proofs.Used.{used-append}
use Rattle.ppq_merge.proofs.seat.copy_used.Goals as goal

pub returns : goal.returns
returns c =
    ap (take (length c.args.places.now)) (used-append c.split_at_mut-front.result.0.now c.copy_front.new.into c.split_at_mut-front.ensures.front_len) ∙ c.copy_front.ensures
