use Rattle.std.proofs.Common.{length, slice_set, ap, ap₂, ◌∙◌, arith, length-set}
use Rattle.ppq_fetch.specs.Bench.{Marks}
use Rattle.ppq_fetch.proofs.Hints.{next_index}
use Rattle.ppq_fetch.proofs.hint.tell_two.Goals as goal

pub hint-requires-2 : goal.hint-requires-2
hint-requires-2 g c = omega (arith, ap length c.hint.ensures.hints, length-set c.args.bench.now.hints c.args.first c.next_to_lift.result, c.requires.hints, c.requires.second)

pub returns : goal.returns
returns g c =
    let a = c.args in
    let xs = a.external.now in
    let one = c.next_to_lift.ensures.minimum ∙ next_index xs a.first c.index-external-first.result c.requires.first c.index-external-first.is in
    let other = c.next_to_lift-2.ensures.minimum ∙ next_index xs a.second c.index-external-second.result c.requires.second c.index-external-second.is in
    let here = ap (λ m. slice_set a.bench.now.hints a.first m) one in
    let hints = c.hint-2.ensures.hints ∙ (ap₂ (λ hs m. slice_set hs a.second m) (c.hint.ensures.hints ∙ here) other) in
    c.hint-2.ensures.rest ∙ (ap₂ (λ (b : Marks g.row.R.Denot) hs. record b { hints = hs }) c.hint.ensures.rest hints)
