use Rattle.std.proofs.Common.{ap, inl, ◌∙◌, arith}
use Rattle.ppq_queue.proofs.Bounds.{half_idle}
use Rattle.ppq_queue.proofs.Moves.{ok-map2}
use Rattle.ppq_spill.proofs.ppq_counts.Accounts.{costs-same, costs-more}
use Rattle.ppq_queue.proofs.Paying.{ok_pays, pays_ok, pays-next, pays-given}
use Rattle.ppq_queue.proofs.Stores.{leaves-same, leaves-after, leaves-given, not_ok}
use Rattle.ppq_queue.proofs.store.Store.merge_buffers.Goals as goal

pub returns-then-not-are_few_idle : goal.returns-then-not-are_few_idle
returns-then-not-are_few_idle g c =
    let x = c.args.self.now in
    let works = c.requires.may.works in
    record {
      leaves = leaves-same works;
      pays = ok_pays (costs-more (omega arith) (omega arith) (costs-same _));
      idle = record {
        few = c.requires.may.few;
        idle = half_idle g.S.Slot.shown g.R.Ord.cmp g.R.Record.record_of g.R.Record.WIDTH x.sizes x.body x.supply works.runs.rest (c.are_few_idle.ensures.enough c.if-not-are_few_idle.true);
      };
    }

pub returns-in_err-merge_runs : goal.returns-in_err-merge_runs
returns-in_err-merge_runs g c =
    let given = c.from_residual.ensures.1 in
    record { leaves = leaves-given given c.in_err-merge_runs.ensures.leaves; pays = pays-given given c.in_err-merge_runs.ensures.pays; idle = not_ok _ _ _ given }

pub returns : goal.returns
returns g c =
    let z = c.settle.new.self in
    let two = c.settle.ensures in
    let none = ap (λ v. v.items) two.levels.internal ∙ c.in_ok-merge_runs.ensures.none in
    record {
      leaves = leaves-after c.in_ok-merge_runs.ensures.leaves two.levels.leaves;
      pays = pays-next (omega arith) (omega arith) (omega arith) (omega arith) (pays_ok c.in_ok-merge_runs.ensures.pays) two.levels.pays;
      idle = ok-map2 c.settle.result (λ few holds. record { few = few; idle = half_idle g.S.Slot.shown g.R.Ord.cmp g.R.Record.record_of g.R.Record.WIDTH z.sizes z.body z.supply holds.works.runs.rest (inl none) }) two.few two.levels.leaves.holds;
    }

pub are_few_idle-requires-clause-works : goal.are_few_idle-requires-clause-works
are_few_idle-requires-clause-works g c = assumption

pub merge_runs-requires-clause-may : goal.merge_runs-requires-clause-may
merge_runs-requires-clause-may g c = assumption

pub merge_runs-requires-clause-some : goal.merge_runs-requires-clause-some
merge_runs-requires-clause-some g c = omega arith

pub settle-requires-clause-works : goal.settle-requires-clause-works
settle-requires-clause-works g c = grind arith
