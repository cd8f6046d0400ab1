use Rattle.std.proofs.Common.{◌≡◌, ◌<◌, ◌≤◌, length, take, min, ap, arith, rules}
use Rattle.std.proofs.lemmas.List.{take_all}
use Rattle.ppq_record.specs.Runs.{list_at, all_of}
use Rattle.ppq_split.specs.Cut.{total}
use Rattle.ppq_split.proofs.Filled.{total-more, each_more, all_more, within_each}
use Rattle.ppq_split.proofs.places.fill.Goals as goal

pub loop-run-preserved : goal.loop-run-preserved
loop-run-preserved g c =
    let qs = g.Q.Listing.lists c.args.runs.now in
    let i = c.loop-run.invariant in
    let v = c.min-part.result in
    let k = c.loop-run.run in
    let a = i.adds_up in
    let b = i.left in
    let here : k < length c.loop-run.cuts = search rules in
    let there : k < length qs = search rules in
    let e : v ≡ min c.len.result c.loop-run.left = search rules in
    let f = c.len.ensures in
    let t = total-more c.loop-run.cuts k v here in
    let m = all_more qs k there in
    record {
      adds_up = omega arith;
      left = omega arith;
      within = each_more (λ j x. x ≤ length (list_at qs j)) c.loop-run.cuts k v here (omega arith) i.within;
    }

pub returns-clause-within : goal.returns-clause-within
returns-clause-within g c =
    let qs = g.Q.Listing.lists c.args.runs.now in
    within_each c.loop-run.cuts qs c.loop-run.run (search rules) (search rules) c.loop-run.invariant.within

pub returns-clause-adds_up : goal.returns-clause-adds_up
returns-clause-adds_up g c =
    let qs = g.Q.Listing.lists c.args.runs.now in
    let i = c.loop-run.invariant in
    let a = i.adds_up in
    let b = i.left in
    let past : length qs ≤ c.loop-run.run = search rules in
    let same : length c.loop-run.cuts ≡ length qs = search rules in
    let whole : total (take c.loop-run.run c.loop-run.cuts) ≡ total c.loop-run.cuts = ap total (take_all c.loop-run.run c.loop-run.cuts (omega arith)) in
    let all : length (all_of (take c.loop-run.run qs)) ≡ length (all_of qs) = ap (λ x. length (all_of x)) (take_all c.loop-run.run qs past) in
    omega (arith, c.requires.rank)
