use Rattle.std.proofs.Common.{◌≡◌, ◌+◌, ◌-◌, reverse, length, ap, ◌∙◌, arith}
use Rattle.std.specs.List.{slice_get}
use Rattle.ppq_block.specs.Block.{all_items}
use Rattle.ppq_block.specs.Chain.{chain_items}
use Rattle.ppq_block.proofs.Lists.{length-all_items_reverse}
use Rattle.ppq_block.proofs.walk.from_bottom.Goals as goal

pub overflow_add-behind : goal.overflow_add-behind
overflow_add-behind g c =
    omega (arith, c.requires.within, c.records.ensures, c.records.type_inv, length-all_items_reverse (chain_items c.args.chain.now))

pub overflow_sub-behind : goal.overflow_sub-behind
overflow_sub-behind g c =
    omega (arith, c.requires.within, c.records.ensures, length-all_items_reverse (chain_items c.args.chain.now))

pub from_end-requires : goal.from_end-requires
from_end-requires g c =
    omega (arith, c.requires.within, c.records.ensures, length-all_items_reverse (chain_items c.args.chain.now))

pub returns-clause-record : goal.returns-clause-record
returns-clause-record g c =
    let all = all_items (reverse (chain_items c.args.chain.now)) in
    let place : c.args.i ≡ length all - (c.records.result - (c.args.i + 1) + 1) = omega (arith, c.requires.within, c.records.ensures, length-all_items_reverse (chain_items c.args.chain.now)) in
    ap (slice_get all) place ∙ c.from_end.ensures.record
