use Rattle.std.proofs.Common.{arith}
use Rattle.ppq_tree.proofs.Used.{used_none}
use Rattle.ppq_tree.proofs.apart.apart.Goals as goal

pub returns-clause-rest : goal.returns-clause-rest
returns-clause-rest g c =
    let size = c.loop-cell.invariant.size in
    let most = c.loop-cell.auto._cell-end in
    used_none c.loop-cell.all.items (omega arith)
