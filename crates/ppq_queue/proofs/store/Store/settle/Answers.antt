use Rattle.std.proofs.Common.{◌≤◌, arith}
use Rattle.ppq_queue.proofs.Leveled.{levels_few, levels_more}
use Rattle.ppq_queue.proofs.Stores.{levels-same, levels-on, levels-after, levels-given, not_ok}
use Rattle.ppq_queue.proofs.store.Store.settle.Goals as goal

pub loop-level-init : goal.loop-level-init
loop-level-init g c = record { so_far = levels-same c.requires.works; levels = λ j h. absurd (omega (arith, h)) }

pub settle_level-requires-clause-works : goal.settle_level-requires-clause-works
settle_level-requires-clause-works g c κs within = c.loop-level.invariant.so_far.leaves.holds.works

pub loop-level-preserved : goal.loop-level-preserved
loop-level-preserved g c =
    let i = c.loop-level.invariant in
    let e = c.in_ok-settle_level.ensures in
    record {
      so_far = levels-on i.so_far e.leaves.levels;
      levels = levels_more c.loop-level.level c.loop-level.self.body.runs.external.items c.settle_level.new.self.body.runs.external.items i.levels e.leaves.lower e.level;
    }

pub returns-in_err-settle_level : goal.returns-in_err-settle_level
returns-in_err-settle_level g c =
    let given = c.from_residual.ensures.1 in
    record { levels = levels-given given (levels-after c.loop-level.invariant.so_far c.in_err-settle_level.ensures.leaves.levels); few = not_ok _ _ _ given }

pub returns : goal.returns
returns g c =
    let i = c.loop-level.invariant in
    let all : 8 ≤ c.loop-level.level = omega arith in
    record {
      levels = i.so_far;
      few = levels_few c.loop-level.self.body.runs.external.items (λ k d h. (i.so_far.leaves.holds.works.runs.rest.external k d h).level) (λ j h. i.levels j (omega arith));
    }

pub settle_level-requires-clause-level : goal.settle_level-requires-clause-level
settle_level-requires-clause-level g c = omega arith
