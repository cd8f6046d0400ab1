use Rattle.ppq_record.proofs.ByteOrder.{bytes_order, less_is_before, before_is_less}
use Rattle.ppq_record.proofs.pair.pair_order.Goals as goal

pub returns : goal.returns
returns c = record { by_key = λ x y. (less_is_before x y, before_is_less x y); by_bytes = bytes_order }
