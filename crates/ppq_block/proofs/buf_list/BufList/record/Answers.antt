use Rattle.std.proofs.Common.{reverse, sym, ap, ◌∙◌}
use Rattle.std.specs.List.{slice_get}
use Rattle.ppq_block.specs.Block.{all_items}
use Rattle.ppq_block.specs.Chain.{chain_items}
use Rattle.ppq_block.proofs.Lists.{found-left, slice_get-right, all_items-append}
use Rattle.ppq_block.proofs.buf_list.BufList.record.Goals as goal

pub returns-in-Ok-clause-record : goal.returns-in-Ok-clause-record
returns-in-Ok-clause-record g c =
    let s = c.self.inside in
    let all = sym (ap all_items c.self.view_is) ∙ all_items-append (chain_items s.front) (reverse (chain_items s.back)) in
    ap (λ xs. slice_get xs c.args.i) all ∙ found-left (all_items (chain_items s.front)) (all_items (reverse (chain_items s.back))) c.args.i c.in-Ok.record c.in-Ok.ensures.found

pub returns-in-Err-clause-record : goal.returns-in-Err-clause-record
returns-in-Err-clause-record g c =
    let s = c.self.inside in
    let all = sym (ap all_items c.self.view_is) ∙ all_items-append (chain_items s.front) (reverse (chain_items s.back)) in
    ap (λ xs. slice_get xs c.args.i) all
    ∙ slice_get-right (all_items (chain_items s.front)) (all_items (reverse (chain_items s.back))) c.args.i c.in-Err.rest (sym c.in-Err.ensures.behind)
    ∙ c.from_bottom.ensures.record
