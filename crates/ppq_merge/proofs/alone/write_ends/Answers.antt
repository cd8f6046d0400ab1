use Rattle.std.proofs.Common.{◌≡◌, ◌<◌, ◌≤◌, length, sym, ◌∙◌, arith, rules}
use Rattle.ppq_split.specs.ppq_record.Runs.{list_at}
use Rattle.ppq_split.proofs.Cuts.{same_places, ends-at, ends-length}
use Rattle.ppq_split.specs.Edge.{ends}
use Rattle.ppq_split.proofs.Filled.{each_more}
use Rattle.ppq_merge.proofs.alone.write_ends.Goals as goal

pub loop-run-preserved : goal.loop-run-preserved
loop-run-preserved g c =
    let qs = g.Q.Listing.lists c.args.runs.now in
    let here : c.loop-run.run < length c.loop-run.to = search rules in
    each_more (λ j x. x ≡ length (list_at qs j)) c.loop-run.to c.loop-run.run c.len.result here c.len.ensures c.loop-run.invariant

pub returns : goal.returns
returns g c =
    let qs = g.Q.Listing.lists c.args.runs.now in
    let past : length qs ≤ c.loop-run.run = search rules in
    let same : length c.loop-run.to ≡ length qs = search rules in
    same_places c.loop-run.to (ends qs) (same ∙ sym (ends-length qs)) (λ j h. c.loop-run.invariant j (omega arith) ∙ sym (ends-at qs j (omega arith)))
