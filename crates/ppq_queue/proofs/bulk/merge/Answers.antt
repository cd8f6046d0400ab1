use Rattle.std.proofs.Common.{length, inr}
use Rattle.ppq_queue.proofs.Merging.{moves-same, moves-then}
use Rattle.ppq_queue.proofs.Took.{merge_ended}
use Rattle.ppq_queue.proofs.bulk.merge.Goals as goal

pub moving-init : goal.moving-init
moving-init g c = record { moves = moves-same; few = c.requires.few }

pub moving-preserved : goal.moving-preserved
moving-preserved g c =
    let i = c.moving.invariant in
    let e = c.move_some.ensures in
    record { moves = moves-then i.moves e.moves; few = e.few }

pub returns-then-not-move_some : goal.returns-then-not-move_some
returns-then-not-move_some g c =
    let i = c.moving.invariant in
    let e = c.move_some.ensures in
    record { moves = moves-then i.moves e.moves; few = e.few; ended = inr (inr (e.ended c.if-not-move_some.true)) }

pub returns : goal.returns
returns g c =
    let i = c.moving.invariant in
    record { moves = i.moves; few = i.few; ended = merge_ended (length c.moving.out.items) c.args.most i.few (c.goes_on.ensures.ended c.moving-test.false) }
