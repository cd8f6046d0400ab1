use Rattle.std.proofs.Common.{subst, arith}
use Rattle.ppq_queue.specs.Bulk.{CopiesFirst}
use Rattle.ppq_queue.proofs.Merging.{moves-then, run_moved}
use Rattle.ppq_queue.proofs.bulk.move_some.Goals as goal

pub returns-then-not-move_next : goal.returns-then-not-move_next
returns-then-not-move_next g c =
    let e = c.move_next.ensures in
    let no = c.if-not-move_next.true in
    record { moves = e.moves; few = omega (arith, e.none no, c.requires.room); some = λ t. cc; ended = λ f. e.ended no }

pub returns : goal.returns
returns g c =
    let laws = c.record_laws.ensures in
    let e = c.move_next.ensures in
    let was = c.move_next.new in
    let count = c.copy_first-count.result in
    let copied = subst (λ xs. CopiesFirst g.R.Ord.cmp c.args.most count c.min.result c.args.limit xs was.out c.copy_first-count.new.out) c.rest.ensures c.copy_first-count.ensures in
    let run = run_moved laws.order laws.same c.args.more c.args.limit c.args.most count c.min.result was.extract was.out c.min.ensures.value copied c.skip.ensures in
    record { moves = moves-then e.moves run; few = copied.few; some = λ t. omega (arith, e.one c.if-not-move_next.false, run.merged.count, run.merged.fewer); ended = λ f. cc }
