use Rattle.std.proofs.Common.{sym, ◌∙◌}
use Rattle.ppq_block.specs.Chain.{chain_items}
use Rattle.std.proofs.Common.{reverse}
use Rattle.ppq_block.proofs.Lists.{append-empty, left-empty}
use Rattle.ppq_block.proofs.buf_list.BufList.is_empty.Goals as goal

pub returns : goal.returns
returns g c =
    let s = c.self.inside in (
      λ t. sym c.self.view_is ∙ append-empty (chain_items s.front) (chain_items s.back) c.self.invariant.first (c.is_end.ensures.0 t),
      λ e. c.is_end.ensures.1 (left-empty (chain_items s.front) (reverse (chain_items s.back)) (c.self.view_is ∙ e)),
    )
