use Rattle.std.specs.Prelude.{vec_capacity}
use Rattle.std.proofs.Common.{◌≡◌, ◌-◌, ◌≤◌, length, drop}
use Rattle.ppq_fetch.specs.ppq_block.Block.{holding}
use Rattle.ppq_spill.specs.Choosing.{OnTree}
use Rattle.ppq_spill.specs.Writing.{MergedOut}
use Rattle.ppq_spill.proofs.merging.merge_least.Given as goal

abbrev pub invariant-loop-tree : goal.invariant-loop-tree
invariant-loop-tree g l = record {
  ready : OnTree l.sorted l.at l.internal.items l.tree.items;
  leaves : length l.tree.items ≡ length l.fn.tree.items;
  capacity : vec_capacity l.internal ≡ vec_capacity l.fn.internal;
  fits : length l.buf.items ≤ l.fn.buf.block;
  buf : l.buf ≡ holding l.fn.buf.block l.buf.items;
  merged : MergedOut g.R.Ord.cmp (length l.buf.items) l.fn.internal.items l.internal.items (drop l.fn.at l.sorted) (drop l.at l.sorted) l.buf.items;
}

abbrev pub decreases-loop-tree : goal.decreases-loop-tree
decreases-loop-tree g l = l.fn.buf.block - length l.buf.items
