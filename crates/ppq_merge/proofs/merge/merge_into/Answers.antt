use Rattle.std.proofs.Common.{◌≡◌, arith}
use Rattle.ppq_split.specs.ppq_record.Order.{is_before}
use Rattle.ppq_split.proofs.ppq_record.Fronts.{ranks}
use Rattle.ppq_merge.specs.Parts.{size_between}
use Rattle.ppq_merge.proofs.Heads.{all_moved}
use Rattle.ppq_merge.proofs.Merging.{merging_all}
use Rattle.ppq_merge.proofs.merge.merge_into.Goals as goal

pub returns-clause-merge : goal.returns-clause-merge
returns-clause-merge g c =
    let e = c.merge_front.ensures in
    let nothing : size_between c.merge_front.new.from c.args.to.now ≡ 0 = omega (arith, e.left, c.requires.size) in
    merging_all (is_before g.R.Ord.cmp) (ranks c.record_laws.ensures.order) (g.Q.Listing.lists c.args.runs.now) c.args.from.now c.args.to.now c.merge_front.new.from c.merge_front.new.out e.parts nothing e.merging

pub returns-clause-moved : goal.returns-clause-moved
returns-clause-moved g c =
    let e = c.merge_front.ensures in
    let nothing : size_between c.merge_front.new.from c.args.to.now ≡ 0 = omega (arith, e.left, c.requires.size) in
    all_moved c.merge_front.new.from c.args.to.now (g.Q.Listing.lists c.args.runs.now) e.parts nothing
