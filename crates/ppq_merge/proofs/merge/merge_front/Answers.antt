use Rattle.std.proofs.Common.{rules, ◌<◌, ◌≤◌, length, take, subst, ◌∙◌, arith}
use Rattle.std.proofs.lemmas.List.{take_more_set, take_all}
use Rattle.ppq_split.specs.ppq_record.Order.{is_before}
use Rattle.ppq_split.proofs.ppq_record.Fronts.{ranks}
use Rattle.ppq_merge.specs.Heads.{IsMerging}
use Rattle.ppq_merge.specs.Parts.{between}
use Rattle.ppq_merge.proofs.Heads.{heads-length}
use Rattle.ppq_merge.proofs.Merging.{merged_one}
use Rattle.ppq_merge.proofs.merge.merge_front.Goals as goal

pub loop-at-preserved : goal.loop-at-preserved
loop-at-preserved g c =
    let qs = g.Q.Listing.lists c.args.runs.now in
    let lt = is_before g.R.Ord.cmp in
    let i = c.loop-at.invariant in
    let t = c.take_next.ensures in
    let less = t.less in
    let left = i.left in
    let here : c.loop-at.at < length c.loop-at.out = search rules in
    record {
      parts = t.parts;
      heads = t.heads;
      room = t.room ∙ i.room;
      left = omega arith;
      merging = rw (take_more_set c.loop-at.out c.loop-at.at c.take_next.result here)
          (merged_one lt (ranks c.record_laws.ensures.order) qs (take c.loop-at.at c.loop-at.out) _ _ _ c.take_next.result i.merging t.next);
      cut = λ ends up old. t.cut ends up (i.cut ends up old);
    }

pub returns-clause-merging : goal.returns-clause-merging
returns-clause-merging g c =
    let qs = g.Q.Listing.lists c.args.runs.now in
    let lt = is_before g.R.Ord.cmp in
    let done : length c.loop-at.out ≤ c.loop-at.at = search rules in
    subst (λ x. IsMerging lt qs x (between c.loop-at.from c.args.to.now qs) (between c.args.from.now c.args.to.now qs)) (take_all c.loop-at.at c.loop-at.out done) c.loop-at.invariant.merging

pub put_all-requires : goal.put_all-requires
put_all-requires g c = omega (arith, c.requires.leaves, heads-length c.args.from.now c.args.to.now (g.Q.Listing.lists c.args.runs.now) c.requires.parts)
