use Rattle.std.proofs.Common.{◌≤◌, subst}
use Rattle.ppq_session.specs.BulkSession.{HasBuffers, HasPool, RowHasFree, resident_in}
use Rattle.ppq_session.proofs.Rows.{bulk-row, bulk-buffers, bulk-memory, bulk-pool}
use Rattle.ppq_session.proofs.bulk.Bulk.known.Goals as goal

pub returns-clause-row : goal.returns-clause-row
returns-clause-row g c =
    let shown = g.S.Slot.shown in
    subst (RowHasFree shown) c.self.view_is (bulk-row shown g.R.Ord.cmp g.R.Record.record_of g.R.Record.WIDTH c.self.inside.parts c.self.invariant)

pub returns-clause-buffers : goal.returns-clause-buffers
returns-clause-buffers g c = subst (λ b. HasBuffers b.sizes b.buffers b.pool) c.self.view_is (bulk-buffers g.S.Slot.shown g.R.Ord.cmp g.R.Record.record_of g.R.Record.WIDTH c.self.inside.parts c.self.invariant)

pub returns-clause-pool : goal.returns-clause-pool
returns-clause-pool g c = subst (λ b. HasPool b.sizes b.run_buffers b.pool) c.self.view_is (bulk-pool g.S.Slot.shown g.R.Ord.cmp g.R.Record.record_of g.R.Record.WIDTH c.self.inside.parts c.self.invariant)

pub returns-clause-memory : goal.returns-clause-memory
returns-clause-memory g c = subst (λ b. resident_in b.sizes b.buffers b.pool ≤ b.sizes.memory) c.self.view_is (bulk-memory g.S.Slot.shown g.R.Ord.cmp g.R.Record.record_of g.R.Record.WIDTH c.self.inside.parts c.self.invariant)
