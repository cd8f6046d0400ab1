use Rattle.std.specs.Prelude.{vec_capacity}
use Rattle.std.proofs.Common.{◌≡◌, ◌+◌, ◌/◌, ◌++◌, [], length, reverse, All}
use Rattle.ppq_pass.specs.ppq_budget.Sizes.{heap_of, pool_of}
use Rattle.ppq_pass.specs.ppq_heap.Heap.{Contents}
use Rattle.ppq_pass.specs.ppq_pool.Seats.{count_of}
use Rattle.ppq_pass.specs.Passed.{PassHolding}
use Rattle.ppq_session.specs.BulkSession.{IsFresh}
use Rattle.ppq_session.specs.Outfits.{IsOutfit}
use Rattle.ppq_session.specs.Equipped.{MayEquip, Equipped, HasBegun, bags_of, bags_in, session_key}
use Rattle.ppq_session.proofs.equip.equip.Given as goal

abbrev pub invariant-dealing : goal.invariant-dealing
invariant-dealing g l = record {
  count : length l.passes.items + length l.heaps.items ≡ length l.fn.heaps.items;
  keys : All (λ (p : PassHolding g.row.S.Denot g.row.R.Denot). p.key ≡ session_key l.sizes l.fn.session p.key.begun) l.passes.items;
  bags : bags_of l.passes.items ++ bags_in (reverse l.heaps.items) ≡ bags_in (reverse l.fn.heaps.items);
  slots : All (λ (p : PassHolding g.row.S.Denot g.row.R.Denot). p.slots ≡ []) l.passes.items;
  whole : All HasBegun l.passes.items;
  fresh : All IsFresh l.passes.items;
  caps : All (λ (heap : Contents g.row.R.Denot). heap.cap ≡ heap_of l.sizes) l.heaps.items;
  outfits : length l.outfits.items ≡ length l.heaps.items;
  each : All (IsOutfit (pool_of l.sizes / l.sizes.heap + 1) (l.sizes.blocks / l.sizes.heap + 1) (count_of l.fn.session.pool_seat.pool)) l.outfits.items;
  capacity : vec_capacity l.heaps ≡ vec_capacity l.fn.heaps;
  room : vec_capacity l.passes ≡ vec_capacity l.fn.passes;
  may : MayEquip g.S.Slot.shown g.R.Record.WIDTH l.sizes (length l.heaps.items) l.idle l.session;
  equipped : Equipped l.sizes (length l.passes.items) l.fn.idle l.idle l.fn.session l.session;
}

abbrev pub decreases-dealing : goal.decreases-dealing
decreases-dealing g l = length l.heaps.items
