use Rattle.std.proofs.Common.{◌≡◌, ◌+◌, ◌<◌, ◌≤◌, ◌^◌, length, ◌∙◌, arith, rules}
use Rattle.ppq_split.proofs.Filled.{all_more, all_within}
use Rattle.ppq_split.proofs.places.size_of.Goals as goal

pub loop-run-preserved : goal.loop-run-preserved
loop-run-preserved g c =
    let qs = g.Q.Listing.lists c.args.runs.now in
    let there : c.loop-run.run < length qs = search rules in
    let more : c.in-Some.more ≡ c.loop-run.size + c.len.result = search rules in
    more ∙ omega (arith, all_more qs c.loop-run.run there, c.len.ensures, c.loop-run.invariant)

pub returns-in_default-clause-none : goal.returns-in_default-clause-none
returns-in_default-clause-none g c =
    let qs = g.Q.Listing.lists c.args.runs.now in
    let there : c.loop-run.run < length qs = search rules in
    let over : 2 ^ 64 ≤ c.loop-run.size + c.len.result = search rules in
    λ _. omega (arith, all_more qs c.loop-run.run there, all_within qs (c.loop-run.run + 1), c.len.ensures, c.loop-run.invariant, over)
