use Rattle.std.proofs.Common.{◌≡◌, length, sym, ap, ◌∙◌, arith, rules}
use Rattle.ppq_record.specs.Order.{is_before}
use Rattle.ppq_record.specs.Runs.{all_of}
use Rattle.ppq_record.proofs.Fronts.{ranks}
use Rattle.ppq_split.specs.Cut.{total}
use Rattle.ppq_split.specs.declared.edge.Edge.TheVariants.{End}
use Rattle.ppq_split.proofs.Cuts.{ends-total}
use Rattle.ppq_split.proofs.Edges.{moved_cut, start_bounds, end_edge}
use Rattle.ppq_split.proofs.search.find_cut.Goals as goal

pub move_to-size-requires-clause-edge : goal.move_to-size-requires-clause-edge
move_to-size-requires-clause-edge g c κs within = end_edge (is_before g.R.Ord.cmp) (g.Q.Listing.lists c.args.runs.now)

pub returns-then-size-rank-clause-found : goal.returns-then-size-rank-clause-found
returns-then-size-rank-clause-found g c =
    let qs = g.Q.Listing.lists c.args.runs.now in
    λ up.
    let e = c.move_to-size.ensures in
    let all : c.move_to-size.result ≡ length (all_of qs) = e.adds_up ∙ (ap total (e.places up) ∙ ends-total qs) in
    let low = c.if-size-rank.true in
    let same : c.move_to-size.result ≡ c.args.rank = omega (arith, c.requires.rank) in
    search rules

pub returns-then-size-rank-clause-cut : goal.returns-then-size-rank-clause-cut
returns-then-size-rank-clause-cut g c =
    let qs = g.Q.Listing.lists c.args.runs.now in
    let lt = is_before g.R.Ord.cmp in
    λ up.
    let e = c.move_to-size.ensures in
    let all : c.move_to-size.result ≡ length (all_of qs) = e.adds_up ∙ (ap total (e.places up) ∙ ends-total qs) in
    let low = c.if-size-rank.true in
    let w = ends-total qs in
    moved_cut lt (ranks c.record_laws.ensures.order) qs End c.move_to-size.new.cuts c.args.rank up (end_edge lt qs) (e.places up) (omega (arith, c.requires.rank))

pub loop-bounds-init : goal.loop-bounds-init
loop-bounds-init g c =
    let qs = g.Q.Listing.lists c.args.runs.now in
    let e = c.move_to-size.ensures in
    let n = c.new-bounds.ensures in
    start_bounds (is_before g.R.Ord.cmp) qs c.args.rank c.new-bounds.result n.low n.low_rank n.high (search rules) (search rules) (λ up. n.high_rank ∙ (e.adds_up ∙ ap total (e.places up)))

pub returns-clause-cut : goal.returns-clause-cut
returns-clause-cut g c =
    let qs = g.Q.Listing.lists c.args.runs.now in
    let lt = is_before g.R.Ord.cmp in
    let b = c.loop-bounds.invariant in
    λ up.
    let e = c.move_to.ensures in
    let same : c.loop-bounds.bounds.low_rank ≡ c.args.rank = omega (arith, b.below, c.loop-bounds-test.false) in
    moved_cut lt (ranks c.record_laws.ensures.order) qs c.loop-bounds.bounds.low c.move_to.new.cuts c.args.rank up b.low (e.places up) (sym same ∙ b.low_places up)
