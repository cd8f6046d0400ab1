use Rattle.std.proofs.Common.{◌≤◌, ◌<◌, ℕ, get_or}
use Rattle.ppq_record.specs.Order.{is_before}
use Rattle.ppq_split.specs.Cut.{AllAscend}
use Rattle.ppq_split.specs.Edge.{edge_places}
use Rattle.ppq_split.proofs.mark.choose_from.Given as goal

abbrev pub invariant-loop-run : goal.invariant-loop-run
invariant-loop-run g l =
    let qs = g.Q.Listing.lists l.runs in
    let lt = is_before g.R.Ord.cmp in
    AllAscend g.R.Ord.cmp qs → (j : ℕ) → l.from ≤ j → j < l.run → get_or (edge_places lt qs l.bounds.high) j 0 ≤ get_or (edge_places lt qs l.bounds.low) j 0
