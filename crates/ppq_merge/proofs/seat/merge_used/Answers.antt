use Rattle.std.proofs.Common.{length, sym, subst, ◌∙◌}
use Rattle.ppq_merge.specs.Parts.{IsMerge, LieBetween, places_for}
use Rattle.ppq_merge.proofs.Used.{used_is}
use Rattle.ppq_merge.proofs.seat.merge_used.Goals as goal

pub merge_between-requires-clause-between : goal.merge_between-requires-clause-between
merge_between-requires-clause-between g c κs within =
    let qs = g.Q.Listing.lists c.args.runs.now in
    let places = c.split_at_mut-front.ensures.back ∙ used_is c.args.from.now in
    subst (λ v. LieBetween (places_for qs v) (places_for qs c.args.to.now) qs (length c.args.out.now)) (sym places) c.requires.between

pub returns-clause-merge : goal.returns-clause-merge
returns-clause-merge g c =
    let qs = g.Q.Listing.lists c.args.runs.now in
    let places = c.split_at_mut-front.ensures.back ∙ used_is c.args.from.now in
    subst (λ v. IsMerge g.R.Ord.cmp qs (places_for qs v) (places_for qs c.args.to.now) c.merge_between.new.out) places c.merge_between.ensures.merge
