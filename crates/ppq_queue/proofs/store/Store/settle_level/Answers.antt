use Rattle.std.proofs.Common.{◌∙◌, refl, arith}
use Rattle.ppq_queue.proofs.Stores.{levels-same, levels-on, levels-after, levels-given, not_ok}
use Rattle.ppq_queue.proofs.store.Store.settle_level.Goals as goal

pub loop-self-init : goal.loop-self-init
loop-self-init g c = record { levels = levels-same c.requires.works; lower = λ j h. refl }

pub merge_some-requires-clause-works : goal.merge_some-requires-clause-works
merge_some-requires-clause-works g c κs within = c.loop-self.invariant.levels.leaves.holds.works

pub loop-self-preserved : goal.loop-self-preserved
loop-self-preserved g c =
    let i = c.loop-self.invariant in
    let e = c.in_ok-merge_some.ensures.leaves in
    record { levels = levels-on i.levels e.levels; lower = λ j h. e.lower j h ∙ i.lower j h }

pub returns-in_err-merge_some : goal.returns-in_err-merge_some
returns-in_err-merge_some g c =
    let given = c.from_residual.ensures.1 in
    record {
      leaves = record { levels = levels-given given (levels-after c.loop-self.invariant.levels c.in_err-merge_some.ensures.leaves.levels); lower = not_ok _ _ _ given };
      level = not_ok _ _ _ given;
    }

pub returns-clause-leaves : goal.returns-clause-leaves
returns-clause-leaves g c = c.loop-self.invariant

pub merge_some-requires-clause-level : goal.merge_some-requires-clause-level
merge_some-requires-clause-level g c = assumption

pub merge_some-requires-clause-more : goal.merge_some-requires-clause-more
merge_some-requires-clause-more g c = grind arith

pub loop-self-smaller : goal.loop-self-smaller
loop-self-smaller g c = grind arith

pub returns-clause-level : goal.returns-clause-level
returns-clause-level g c = grind arith
