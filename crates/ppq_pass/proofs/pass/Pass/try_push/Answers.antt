use Rattle.std.proofs.Common.{◌≡◌, ◌+◌, ◌<◌, ◌∷◌, length, arith}
use Rattle.ppq_pool.proofs.ppq_record.Order.{IsSameBag-length}
use Rattle.ppq_pass.proofs.PassOpened.{on_ok}
use Rattle.ppq_pass.proofs.PassPushed.{was_not_full, accepted_few, within_heap, pushed, same_heap, shows_one}
use Rattle.ppq_pass.proofs.pass.Pass.try_push.Goals as goal

pub overflow_add-self : goal.overflow_add-self
overflow_add-self g c =
    let s = c.self.inside in
    let in_heap = within_heap g.S.Slot.shown g.R.Ord.cmp g.R.Record.record_of g.R.Record.WIDTH s.sizes s.heap s.body s.begun s.accepted s.refused s.stores s.parts s.failed c.self.invariant in
    let room : length s.heap.items < s.heap.cap = was_not_full c.try_append.result c.in-Ok.field-0 (length s.heap.items) s.heap.cap c.in-Ok.is c.try_append.ensures.full.1 (omega (arith, in_heap.0, in_heap.1)) in
    let few = accepted_few g.S.Slot.shown g.R.Ord.cmp g.R.Record.record_of g.R.Record.WIDTH s.sizes s.heap s.body s.begun s.accepted s.refused s.stores s.parts s.failed c.self.invariant (omega (arith, room, in_heap.1)) in
    omega (arith, few)

pub invariant_of-self : goal.invariant_of-self
invariant_of-self g c =
    let s = c.self.inside in
    let in_heap = within_heap g.S.Slot.shown g.R.Ord.cmp g.R.Record.record_of g.R.Record.WIDTH s.sizes s.heap s.body s.begun s.accepted s.refused s.stores s.parts s.failed c.self.invariant in
    let room : length s.heap.items < s.heap.cap = was_not_full c.try_append.result c.in-Ok.field-0 (length s.heap.items) s.heap.cap c.in-Ok.is c.try_append.ensures.full.1 (omega (arith, in_heap.0, in_heap.1)) in
    let more : length c.try_append.new.self.items ≡ length s.heap.items + 1 = omega (arith, IsSameBag-length c.try_append.new.self.items (c.args.r ∷ s.heap.items) (on_ok c.try_append.result c.in-Ok.field-0 c.in-Ok.is c.try_append.ensures.added)) in
    pushed g.S.Slot.shown g.R.Ord.cmp g.R.Record.record_of g.R.Record.WIDTH s.sizes s.heap s.body s.begun s.accepted s.refused s.stores s.parts s.failed c.self.invariant c.try_append.new.self c.try_append.ensures.cap more (omega (arith, room, in_heap.1))

pub invariant_of-self-in-Err : goal.invariant_of-self-in-Err
invariant_of-self-in-Err g c =
    let s = c.self.inside in
    same_heap g.S.Slot.shown g.R.Ord.cmp g.R.Record.record_of g.R.Record.WIDTH s.sizes s.heap s.body s.begun s.accepted s.refused s.stores s.parts s.failed c.self.invariant c.try_append.new.self c.in-Err.ensures.same c.try_append.ensures.cap

pub returns-in-Ok-clause-one : goal.returns-in-Ok-clause-one
returns-in-Ok-clause-one g c =
    let s = c.self.inside in
    let more : length c.try_append.new.self.items ≡ length s.heap.items + 1 = omega (arith, IsSameBag-length c.try_append.new.self.items (c.args.r ∷ s.heap.items) (on_ok c.try_append.result c.in-Ok.field-0 c.in-Ok.is c.try_append.ensures.added)) in
    shows_one g.S.Slot.shown g.R.Ord.cmp g.R.Record.record_of g.R.Record.WIDTH s.sizes s.heap s.body s.begun s.accepted s.refused s.stores s.parts s.failed c.self.invariant c.try_append.new.self more c.args.self.now c.self.view_is
