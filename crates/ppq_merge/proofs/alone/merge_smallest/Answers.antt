use Rattle.std.proofs.Common.{◌≡◌, length, ap, ◌∙◌, arith, rules}
use Rattle.std.specs.Prelude.{replicate}
use Rattle.ppq_merge.proofs.Merged.{merged_alone, whole_parts, whole_size}
use Rattle.ppq_merge.proofs.alone.merge_smallest.Goals as goal

pub merge_front-requires-clause-parts : goal.merge_front-requires-clause-parts
merge_front-requires-clause-parts g c κs within =
    let qs = g.Q.Listing.lists c.args.runs.now in
    let zeros : c.fill.new.self ≡ replicate (length qs) 0 = c.fill.ensures.after (λ y e. e) ∙ ap (λ n. replicate n 0) c.requires.places in
    whole_parts qs c.fill.new.self c.write_ends.new.to zeros c.write_ends.ensures

pub merge_front-requires-clause-size : goal.merge_front-requires-clause-size
merge_front-requires-clause-size g c κs within =
    let qs = g.Q.Listing.lists c.args.runs.now in
    let zeros : c.fill.new.self ≡ replicate (length qs) 0 = c.fill.ensures.after (λ y e. e) ∙ ap (λ n. replicate n 0) c.requires.places in
    omega (arith, c.requires.count, whole_size qs c.fill.new.self c.write_ends.new.to zeros c.write_ends.ensures)

pub returns-clause-merged : goal.returns-clause-merged
returns-clause-merged g c =
    let qs = g.Q.Listing.lists c.args.runs.now in
    let laws = c.record_laws.ensures in
    let e = c.merge_front.ensures in
    let zeros : c.fill.new.self ≡ replicate (length qs) 0 = c.fill.ensures.after (λ y e. e) ∙ ap (λ n. replicate n 0) c.requires.places in
    let same : length c.merge_front.new.out ≡ length c.args.out.now = search rules in
    merged_alone g.R.Ord.cmp laws.order laws.same qs c.fill.new.self c.write_ends.new.to c.merge_front.new.from c.merge_front.new.out (length c.args.out.now) zeros c.write_ends.ensures same e.parts e.left e.merging e.cut
