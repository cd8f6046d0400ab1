use Rattle.std.proofs.Common.{◌≡◌, ℕ, ◌<◌, []}
use Rattle.ppq_heap.specs.Heaps.{share_at}
use Rattle.ppq_queue.specs.Stores.{HeapsLeave}
use Rattle.ppq_queue.proofs.Stores.{done}
use Rattle.ppq_queue.proofs.store.Store.store_heaps.Given as goal

abbrev pub invariant-storing : goal.invariant-storing
invariant-storing g l = record {
  so_far : HeapsLeave g.S.Slot.shown g.R.Ord.cmp g.R.Record.record_of g.R.Record.WIDTH l.place l.fn.heaps l.heaps l.fn.self l.self done;
  stored : (other : ℕ) → other < l.place → share_at l.heaps other ≡ [];
}
