use Rattle.std.proofs.Common.{◌≡◌, ◌+◌, ◌-◌, ◌*◌, ◌≤◌, length, arith, ap, ap₂, ◌∙◌}
use Rattle.std.proofs.lemmas.Grind.{common_steps}
use Rattle.ppq_extract.specs.ppq_budget.Sizes.{batch_of, pool_of, lane_buffers}
use Rattle.ppq_heap.specs.Heaps.{items_of}
use Rattle.ppq_queue.proofs.Bounds.{resident_within}
use Rattle.ppq_queue.proofs.queue.Queue.resident.Goals as goal

pub returns-clause-budget : goal.returns-clause-budget
returns-clause-budget g c =
    let s = c.self.inside in
    let i = c.self.invariant.0.queue in
    let n = s.store.sizes in
    let used : c.from-2.result - c.from-3.result ≤ n.blocks = omega (arith, c.from-2.ensures, c.blocks-2.ensures.same) in
    let batches : c.from-batches.result ≡ batch_of n = c.from-batches.ensures ∙ c.batch.ensures.same in
    let lanes : c.from-lanes.result + c.from.result ≡ lane_buffers n + pool_of n = omega (arith, c.from-lanes.ensures, c.lane_buffers.ensures.same, c.from.ensures, c.in-Ok.ensures.buffers) in
    let block : c.from-block.result ≡ n.block = c.from-block.ensures ∙ c.block.ensures.same in
    let product : (c.from-lanes.result + c.from.result) * c.from-block.result ≡ (lane_buffers n + pool_of n) * n.block = ap₂ (λ a b. a * b) lanes block in
    let within = resident_within n i.range i.budget (length (items_of s.heaps)) (length s.store.extract.items) (c.from-2.result - c.from-3.result) i.in_heap i.in_extract used in
    omega (arith, within, c.len.ensures.value, c.len-2.ensures, batches, product, ap (λ q. q.sizes.memory) c.self.view_is)

pub returns-in_default : goal.returns-in_default
returns-in_default g c = record { sum = grind arith; budget = omega arith }

pub overflow_mul-buffers : goal.overflow_mul-buffers
overflow_mul-buffers g c = grind arith

pub overflow_sub-used : goal.overflow_sub-used
overflow_sub-used g c = grind (arith, common_steps)

pub returns-clause-sum : goal.returns-clause-sum
returns-clause-sum g c = grind arith
