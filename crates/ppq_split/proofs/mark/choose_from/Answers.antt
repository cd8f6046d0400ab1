use Rattle.std.proofs.Common.{◌+◌, ◌<◌, ◌≤◌, ◌^◌, length, get_or, sym, subst, inl, inr, arith, rules}
use Rattle.std.proofs.lemmas.Bool.{cases_eq}
use Rattle.ppq_record.specs.Order.{is_before}
use Rattle.ppq_record.proofs.Fronts.{ranks}
use Rattle.ppq_split.specs.Edge.{edge_places}
use Rattle.ppq_split.proofs.Edges.{mark_between, none_between}
use Rattle.ppq_split.proofs.mark.choose_from.Goals as goal

pub returns-then-first-end-clause-between : goal.returns-then-first-end-clause-between
returns-then-first-end-clause-between g c =
    let qs = g.Q.Listing.lists c.args.runs.now in
    let lt = is_before g.R.Ord.cmp in
    let b = c.requires.bounds in
    let here : c.loop-run.run < length qs = search rules in
    let fits : c.place_in-end.result < 2 ^ 64 = search rules in
    let p = c.part_of.ensures in
    let t = c.if-first-end.true in
    let room : (c.place_in-first.result + c.part_of.result) + 1 < 2 ^ 64 = omega arith in
    λ up.
    let first = c.place_in-first.ensures.place up in
    let end = c.place_in-end.ensures.place up in
    mark_between lt (ranks c.record_laws.ensures.order) qs c.args.bounds.now _ up b.low b.high (here, c.at-item.ensures, room) (omega arith) (omega arith)

pub loop-run-preserved : goal.loop-run-preserved
loop-run-preserved g c =
    let qs = g.Q.Listing.lists c.args.runs.now in
    let lt = is_before g.R.Ord.cmp in
    let low = edge_places lt qs c.args.bounds.now.low in
    let high = edge_places lt qs c.args.bounds.now.high in
    λ up j from below.
    elim (cases_eq j c.loop-run.run) as (λ _. get_or high j 0 ≤ get_or low j 0) [
      | inl e ↦
          (let a = c.place_in-first.ensures.place up in
          let b = c.place_in-end.ensures.place up in
          let f = c.if-first-end.false in
          let h : get_or high c.loop-run.run 0 ≤ get_or low c.loop-run.run 0 = omega arith in
          subst (λ n. get_or high n 0 ≤ get_or low n 0) (sym e) h)
      | inr n ↦ c.loop-run.invariant up j from (omega arith)
    ]

pub returns-clause-none : goal.returns-clause-none
returns-clause-none g c =
    let qs = g.Q.Listing.lists c.args.runs.now in
    let b = c.args.bounds.now in
    let past : length qs ≤ c.loop-run.run = search rules in
    λ _ zero up. none_between (is_before g.R.Ord.cmp) (ranks c.record_laws.ensures.order) qs b.low b.high c.loop-run.run past (λ j h. c.loop-run.invariant up j (omega (arith, zero)) h)
