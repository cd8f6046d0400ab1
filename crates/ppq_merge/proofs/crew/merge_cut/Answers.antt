use Rattle.std.proofs.Common.{◌≡◌, ◌+◌, length, subst, rules, arith}
use Rattle.ppq_merge.specs.Plan.{IsPlanned}
use Rattle.ppq_merge.proofs.Merged.{merged_pieces}
use Rattle.ppq_merge.proofs.Seats.{sized_kept}
use Rattle.ppq_merge.proofs.crew.merge_cut.Goals as goal

pub merge_beside_idle-requires-clause-pieces : goal.merge_beside_idle-requires-clause-pieces
merge_beside_idle-requires-clause-pieces g c κs within =
    let same : length c.plan_cuts.new.seats ≡ length c.args.seats.now = search rules in
    let all : 0 + length c.args.out.now ≡ length c.args.out.now = omega arith in
    record {
      some = omega (arith, c.requires.seats.some);
      numbers = omega (arith, c.requires.seats.few);
      fill = rw all (c.plan_cuts.ensures.planned.plan c.if-not-plan_cuts.false).fill;
    }

pub returns-clause-sized : goal.returns-clause-sized
returns-clause-sized g c = sized_kept c.args.leaves c.plan_cuts.new.seats c.merge_beside_idle.new.seats c.merge_beside_idle.ensures.kept c.plan_cuts.ensures.sized

pub returns-clause-merged : goal.returns-clause-merged
returns-clause-merged g c =
    let laws = c.record_laws.ensures in
    let qs = g.Q.Listing.lists c.args.team.now.runs.now in
    let count = length c.args.out.now in
    let same : length c.merge_beside_idle.new.out ≡ count = search rules in
    let planned = subst (λ b. IsPlanned g.R.Ord.cmp qs c.args.carry.now c.plan_cuts.new.seats c.plan_cuts.new.carry count b) c.if-not-plan_cuts.false c.plan_cuts.ensures.planned in
    λ _. merged_pieces g.R.Ord.cmp laws.order laws.same qs c.args.carry.now c.plan_cuts.new.seats c.plan_cuts.new.carry c.merge_beside_idle.new.out count c.requires.zeros same planned c.merge_beside_idle.ensures.pieces
