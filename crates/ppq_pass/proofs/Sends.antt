-- A pass may go to another thread, if its slots and records may. The check finds this by itself for types without linked nodes; for those
-- with them it is put together here, from the nodes up.
use denote.RattleType.{RattleType}
use denote.Builtin.{unit, bool, u32, u64}
use denote.Param.Send.{IsSend, IsSync, AllSend, AllSync, view_send, recorded_send, recorded_sync, struct_send, struct_sync, sendable}
use denote.Param.SendFields.{as_row_send}
use denote.Struct.Struct.{Struct}
use denote.Struct.Declared as declared
use Rattle.std.specs.declared.clone.Clone as Clone
use Rattle.std.specs.declared.cmp.Eq as Eq
use Rattle.std.specs.declared.cmp.Ord as Ord
use Rattle.std.specs.declared.cmp.PartialEq as PartialEq
use Rattle.std.specs.declared.cmp.PartialOrd as PartialOrd
use Rattle.std.specs.contracts.option.Option as Option
use Rattle.std.specs.contracts.result.Result as Result
use Rattle.std.specs.contracts.snapshot.Snapshot as Snapshot
use Rattle.std.proofs.Crossing.{Box-send, Box-sync, Vec-send, crosses}
use Rattle.std.proofs.option.Option.TheSendSync as option
use Rattle.std.proofs.result.Result.TheSendSync as result
use Rattle.ppq_pool.specs.ppq_record.declared.record.Record as Record
use Rattle.ppq_extract.specs.ppq_outside.declared.slot.Slot as Slot
use Rattle.ppq_extract.specs.ppq_outside.contracts.fault.Failed as Failed
use Rattle.ppq_extract.proofs.ppq_outside.fault.Failed.TheSendSync as failed
use Rattle.ppq_extract.proofs.ppq_budget.sizes.Sizes.TheSendSync as sizes
use Rattle.ppq_heap.proofs.ppq_tree.min_tree.MinTree.TheSendSync as min_tree
use Rattle.ppq_heap.proofs.insertion_heap.InsertionHeap.TheSendSync as insertion_heap
use Rattle.ppq_row.proofs.row.Row.TheSendSync as row
use Rattle.ppq_row.proofs.seat.RowSeat.TheSendSync as row_seat
use Rattle.ppq_pool.proofs.pool.Pool.TheSendSync as pool
use Rattle.ppq_pool.proofs.seat.PoolSeat.TheSendSync as pool_seat
use Rattle.ppq_extract.specs.ppq_block.contracts.chain.Chain as Chain
use Rattle.ppq_extract.specs.ppq_block.contracts.chain.Node as Node
use Rattle.ppq_extract.proofs.ppq_block.chain.Chain.TheLaws.TheKnot as nodes
use Rattle.ppq_extract.specs.ppq_block.contracts.buffer.Buffer as Buffer
use Rattle.ppq_extract.proofs.ppq_block.buffer.Buffer.TheSendSync as buffer
use Rattle.ppq_extract.specs.ppq_block.contracts.buf_list.BufList as BufList
use Rattle.ppq_extract.specs.ppq_block.contracts.buf_list.BufList.TheInside as buf_list
use Rattle.ppq_extract.specs.ppq_block.contracts.block_buf.BlockBuf as BlockBuf
use Rattle.ppq_extract.specs.ppq_block.contracts.block_buf.BlockBuf.TheInside as block_buf
use Rattle.ppq_extract.specs.ppq_array.contracts.berth.DeviceBlock as DeviceBlock
use Rattle.ppq_extract.proofs.ppq_array.berth.DeviceBlock.TheSendSync as device_block
use Rattle.ppq_extract.specs.ppq_array.contracts.berth.Berth as Berth
use Rattle.ppq_extract.specs.ppq_array.contracts.berth.Berth.TheInside as berth
use Rattle.ppq_extract.specs.ppq_array.contracts.berth_list.BerthList as BerthList
use Rattle.ppq_extract.specs.ppq_array.contracts.berth_list.BerthList.TheInside as berth_list
use Rattle.ppq_extract.specs.ppq_array.contracts.internal_array.InternalArray as InternalArray
use Rattle.ppq_extract.specs.ppq_array.contracts.internal_array.InternalArray.TheInside as internal_array
use Rattle.ppq_extract.specs.ppq_array.contracts.external_array.ExternalArray as ExternalArray
use Rattle.ppq_extract.specs.ppq_array.contracts.external_array.ExternalArray.TheInside as external_array
use Rattle.ppq_extract.specs.ppq_array.contracts.runs.Runs as Runs
use Rattle.ppq_extract.specs.ppq_lane.contracts.job.Job as Job
use Rattle.ppq_extract.proofs.ppq_lane.job.JobKind.TheSendSync as job_kind
use Rattle.ppq_extract.specs.ppq_lane.contracts.lanes.Lanes as Lanes
use Rattle.ppq_spill.specs.contracts.body.PassBody as PassBody
use Rattle.ppq_pass.specs.contracts.shared.PoolBuf as PoolBuf
use Rattle.ppq_pass.specs.contracts.shared.Shared as Shared
use Rattle.ppq_pass.specs.contracts.parts.PassParts as PassParts
use Rattle.ppq_pass.specs.contracts.pass.Pass as Pass
use Rattle.ppq_pass.specs.contracts.pass.Pass.TheInside as pass

-- numbers, and what a slot returned
bool_sends : IsSend bool
bool_sends = search sendable

u32_sends : IsSend u32
u32_sends = search sendable

u64_sends : IsSend u64
u64_sends = search sendable

answer_sends : IsSend (Option.the_field (Result.the_row unit Failed.the_row)).row
answer_sends = option.the_field_send (Result.the_row unit Failed.the_row) (result.the_send unit Failed.the_row (search sendable) failed.the_send)

-- a value that only clauses read
snapshot_sends : (T : RattleType) → IsSend (Snapshot.the_row T)
snapshot_sends T = search (sendable, crosses)

-- a struct, by its fields
pub struct_sends : (D : declared.Declared) → AllSend (declared.fields D) → IsSend (declared.row D)
struct_sends D all = recorded_send (Struct (declared.shape D)) D.D D.to D.to_one (struct_send (declared.shape D) all)

struct_syncs : (D : declared.Declared) → AllSync (declared.fields D) → IsSync (declared.row D)
struct_syncs D all = recorded_sync (Struct (declared.shape D)) D.D D.to D.to_one (struct_sync (declared.shape D) all)

-- nodes in boxes, each linked to the next one
module _ (T : RattleType) (send : IsSend T) (sync : IsSync T) where
  chain_sends : IsSend (Chain.the_field T).row
  chain_sends = nodes.both_send-Chain T (λ R s y. Box-send R s) (λ R s y. Box-sync R y) send sync

  node_sends : IsSend (Node.the_row T)
  node_sends = as_row_send (Node.the_field T) (nodes.both_send-Node T (λ R s y. Box-send R s) (λ R s y. Box-sync R y) send sync)

module _ (S R : RattleType) (slot : Slot.Ghosts S.Denot) (of : Record.Ghosts R.Denot) (ord : Ord.Ghosts R.Denot) (eq : PartialEq.Ghosts R.Denot) (le : PartialOrd.Ghosts R.Denot) where
  abbrev a_buffer : RattleType
  a_buffer = Buffer.the_row R of ord eq le

  abbrev a_block : RattleType
  a_block = DeviceBlock.the_row S R

  abbrev a_berth : RattleType
  a_berth = Berth.the_row S R slot of ord eq le

  abbrev a_run : RattleType
  a_run = InternalArray.the_row R of ord eq le

  abbrev an_array : RattleType
  an_array = ExternalArray.the_row S R slot of ord eq le

  abbrev a_list : RattleType
  a_list = BerthList.the_row S R slot of ord eq le

  abbrev a_job : RattleType
  a_job = Job.the_row a_berth R of ord eq le

  -- buffers, and runs in them
  buf_list_sends : IsSend (BufList.the_row R of ord eq le)
  buf_list_sends =
      let buffers = chain_sends a_buffer (buffer.the_send R of ord eq le) (buffer.the_sync R of ord eq le) in
      view_send _ _ _ _ _ (struct_sends (buf_list.the_type R of ord eq le) (buffers, (buffers, (u32_sends, tt))))

  block_buf_sends : IsSend (BlockBuf.the_row R of ord eq le)
  block_buf_sends =
      let node = node_sends a_buffer (buffer.the_send R of ord eq le) (buffer.the_sync R of ord eq le) in
      view_send _ _ _ _ _ (struct_sends (block_buf.the_type R of ord eq le) (Box-send (Node.the_row a_buffer) node, tt))

  run_sends : IsSend a_run
  run_sends = view_send _ _ _ _ _ (struct_sends (internal_array.the_type R of ord eq le) (buf_list_sends, (u32_sends, (u64_sends, (buf_list_sends, tt)))))

  module _ (send_S : IsSend S) (sync_S : IsSync S) (send_R : IsSend R) (sync_R : IsSync R) where
    -- slots, and runs in blocks
    berth_sends : IsSend a_berth
    berth_sends =
        let node = node_sends a_block (device_block.the_send S R send_S send_R) (device_block.the_sync S R sync_S sync_R) in
        view_send _ _ _ _ _ (struct_sends (berth.the_type S R slot of ord eq le) (Box-send (Node.the_row a_block) node, tt))

    berth_list_sends : IsSend a_list
    berth_list_sends =
        let slots = chain_sends a_block (device_block.the_send S R send_S send_R) (device_block.the_sync S R sync_S sync_R) in
        view_send _ _ _ _ _ (struct_sends (berth_list.the_type S R slot of ord eq le) (slots, (slots, (u32_sends, tt))))

    array_sends : IsSend an_array
    array_sends =
        view_send _ _ _ _ _ (struct_sends (external_array.the_type S R slot of ord eq le)
        (u32_sends, (run_sends, (berth_list_sends, (snapshot_sends a_list, (u32_sends, (u32_sends, (u64_sends, (u32_sends, tt)))))))))

    -- the body of a pass
    runs_send : IsSend (Runs.the_field S R slot of ord eq le).row
    runs_send = struct_send (declared.shape (Runs.the_type S R slot of ord eq le)) (Vec-send a_run run_sends, (Vec-send an_array array_sends, tt))

    job_sends : IsSend a_job
    job_sends = struct_sends (Job.the_type a_berth R of ord eq le) (berth_sends, (block_buf_sends, (job_kind.the_field_send, (answer_sends, tt))))

    lanes_send : IsSend (Lanes.the_field a_berth R of ord eq le).row
    lanes_send = struct_send (declared.shape (Lanes.the_type a_berth R of ord eq le)) (buf_list_sends, (Vec-send a_job job_sends, (Vec-send R send_R, tt)))

    body_sends : IsSend (PassBody.the_field S R slot of ord eq le).row
    body_sends = struct_send (declared.shape (PassBody.the_type S R slot of ord eq le)) (runs_send, (lanes_send, (min_tree.the_send R of ord eq le send_R, tt)))

    -- what it keeps between calls
    pool_buf_sends : IsSend (PoolBuf.the_row R of ord eq le)
    pool_buf_sends = struct_sends (PoolBuf.the_type R of ord eq le) (block_buf_sends, tt)

    parts_send : IsSend (PassParts.the_row S R slot of ord eq le)
    parts_send =
        struct_sends (PassParts.the_type S R slot of ord eq le)
        (row_seat.the_send a_berth berth_sends, (berth_list_sends, (pool_seat.the_send (PoolBuf.the_row R of ord eq le) pool_buf_sends, (search (sendable, crosses), (u32_sends, (u64_sends, (u64_sends, (u64_sends, tt))))))))

    -- what all passes share
    pub shared_syncs : (clone : Clone.Ghosts R.Denot) (full : Eq.Ghosts R.Denot) → IsSync (Shared.the_row S R slot of clone ord full eq le)
    shared_syncs clone full = struct_syncs (Shared.the_type S R slot of clone ord full eq le) (row.the_sync a_berth berth_sends, (pool.the_sync (PoolBuf.the_row R of ord eq le) _ pool_buf_sends, tt))

    -- a pass
    pub pass_sends : IsSend (Pass.the_row S R slot of ord eq le)
    pass_sends =
        view_send _ _ _ _ _ (struct_sends (pass.the_type S R slot of ord eq le)
        (sizes.the_send, (insertion_heap.the_send R of ord eq le send_R, (body_sends, (option.the_field_send (PassParts.the_row S R slot of ord eq le) parts_send, (u64_sends, (u64_sends, (bool_sends, (option.the_field_send u32 u32_sends, (u64_sends, tt))))))))))
