use Rattle.std.proofs.Common.{◌≤◌, subst, arith}
use Rattle.ppq_pass.proofs.ppq_array.Noted.{all_right}
use Rattle.ppq_pass.specs.ppq_outside.Shown.{AllTell, Tells}
use Rattle.ppq_pass.specs.ppq_array.Owner.{slots_shown}
use Rattle.ppq_queue.specs.Resting.{slots_of}
use Rattle.ppq_session.specs.BulkSession.{HasBuffers, resident_in}
use Rattle.ppq_session.specs.Fronts.{RowHadFree}
use Rattle.ppq_session.proofs.Rows.{front-row, resident_fits}
use Rattle.ppq_session.proofs.front.Front.known.Goals as goal

pub returns-clause-items : goal.returns-clause-items
returns-clause-items g c =
    let shown = g.S.Slot.shown in
    let parts = c.self.inside.parts in
    let put = slots_shown shown parts.row_seat.hand.items in
    let rest = slots_of shown parts.body parts.supply in
    subst (λ f. AllTell f.slots → AllTell (slots_shown shown f.items)) c.self.view_is
    (λ t. all_right Tells rest put t)

pub returns-clause-buffers : goal.returns-clause-buffers
returns-clause-buffers g c =
    let front = c.self.invariant.0 in
    subst (λ f. HasBuffers f.sizes f.buffers f.pool) c.self.view_is (omega (arith, front.held, front.pool))

pub returns-clause-row : goal.returns-clause-row
returns-clause-row g c =
    let shown = g.S.Slot.shown in
    let s = c.self.inside in
    subst (RowHadFree shown) c.self.view_is (front-row shown g.R.Record.record_of g.R.Record.WIDTH s.parts s.limit s.popped s.failed c.self.invariant.0 c.self.invariant.1)

pub returns-clause-memory : goal.returns-clause-memory
returns-clause-memory g c =
    let front = c.self.invariant.0 in
    let parts = c.self.inside.parts in
    subst (λ f. resident_in f.sizes f.buffers f.pool ≤ f.sizes.memory) c.self.view_is (resident_fits parts.sizes front.home.range front.home.budget _ parts.pool_seat.pool (omega (arith, front.held, front.pool)))
