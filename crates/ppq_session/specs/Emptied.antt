-- Parts whose own idle buffers are all in the lanes.
use Rattle.std.specs.Prelude.{◌+◌, List}
use Rattle.ppq_pass.specs.ppq_block.Block.{Block}
use Rattle.ppq_queue.specs.Slots.{with_pool}
use Rattle.ppq_session.specs.declared.parts.BulkParts.{BulkParts}

-- the parts with these idle buffers in the lanes, and none in the supply
abbrev pub emptied : {S R : Type 0} → List (Block R) → BulkParts S R → BulkParts S R
emptied idle q = record q { body = record q.body { lanes = record q.body.lanes { idle = idle } }; supply = with_pool q.supply 0 (q.supply.buffer_room + q.supply.sure_buffers) }
