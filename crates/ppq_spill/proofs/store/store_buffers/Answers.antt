use Rattle.std.proofs.Common.{[]}
use Rattle.ppq_spill.proofs.InBlocks.{ends_stored}
use Rattle.ppq_spill.proofs.Costing.{blocks_counted}
use Rattle.ppq_spill.proofs.store.store_buffers.Goals as goal

pub returns-clause-kept : goal.returns-clause-kept
returns-clause-kept g c = c.store_in_blocks.ensures.leaves.kept

pub returns-clause-takes_back : goal.returns-clause-takes_back
returns-clause-takes_back g c = c.store_in_blocks.ensures.leaves.takes_back

pub returns-clause-tells : goal.returns-clause-tells
returns-clause-tells g c = c.store_in_blocks.ensures.leaves.tells

pub returns-clause-untold : goal.returns-clause-untold
returns-clause-untold g c = c.store_in_blocks.ensures.leaves.untold

pub returns-clause-writes : goal.returns-clause-writes
returns-clause-writes g c = c.store_in_blocks.ensures.leaves.writes

pub returns-clause-lanes : goal.returns-clause-lanes
returns-clause-lanes g c = c.store_in_blocks.ensures.leaves.lanes

pub returns-clause-size : goal.returns-clause-size
returns-clause-size g c = c.store_in_blocks.ensures.leaves.size

pub returns-clause-rooms : goal.returns-clause-rooms
returns-clause-rooms g c = c.store_in_blocks.ensures.leaves.rooms

pub returns-clause-stored : goal.returns-clause-stored
returns-clause-stored g c = ends_stored g.R.Ord.cmp g.R.Record.record_of g.R.Record.WIDTH g.S.Slot.shown [] c.args.body.now c.store_in_blocks.new.body (g.P.Supply.stock c.args.supply.now) (g.P.Supply.stock c.store_in_blocks.new.supply) c.store_in_blocks.result c.store_in_blocks.ensures.outcome

pub returns-clause-none_free : goal.returns-clause-none_free
returns-clause-none_free g c = λ e. rw e at c.store_in_blocks.ensures.outcome

pub returns-clause-device : goal.returns-clause-device
returns-clause-device g c = λ number e. rw e at c.store_in_blocks.ensures.outcome

pub returns-clause-counted : goal.returns-clause-counted
returns-clause-counted g c =
    let e = c.store_in_blocks.ensures in
    blocks_counted g.S.Slot.shown c.args.body.now c.store_in_blocks.new.body (g.P.Supply.stock c.args.supply.now) (g.P.Supply.stock c.store_in_blocks.new.supply) g.R.Ord.cmp g.R.Record.record_of g.R.Record.WIDTH [] c.requires.room.no_job e.leaves c.store_in_blocks.result e.outcome
