use Rattle.std.proofs.Common.{◌<◌, length, inl, inr, sym, ap, ◌∙◌, arith}
use Rattle.std.proofs.lemmas.Bool.{cases_lt}
use Rattle.ppq_fetch.specs.ppq_record.Bag.{first_of}
use Rattle.ppq_fetch.specs.ppq_array.Run.{items_of}
use Rattle.ppq_spill.specs.Choosing.{first_at}
use Rattle.ppq_spill.proofs.Heads.{first_at-run, first_at-list, first_at-none}
use Rattle.ppq_spill.proofs.merging.head_at.Goals as goal

pub returns-then-at-internal : goal.returns-then-at-internal
returns-then-at-internal g c =
    let runs = c.args.internal.now in
    let run = c.index-internal-at.result in
    c.first.ensures.first ∙ ap (λ r. first_of (items_of r)) c.index-internal-at.is ∙ sym (first_at-run runs c.args.sorted.now c.args.at run c.if-at-internal.true)

pub returns-then-at-internal-2 : goal.returns-then-at-internal-2
returns-then-at-internal-2 g c = c.head_of.ensures ∙ sym (ap (first_at c.args.internal.now c.args.sorted.now) c.if-at-internal-2.true ∙ first_at-list c.args.internal.now c.args.sorted.now)

pub returns : goal.returns
returns g c =
    let n = length c.args.internal.now in
    let above : n < c.args.at = elim (cases_lt n c.args.at) as (λ _. n < c.args.at) [ inl k ↦ k | inr k ↦ absurd (c.if-at-internal-2.false (omega (arith, k, c.if-at-internal.false))) ] in
    sym (first_at-none c.args.internal.now c.args.sorted.now c.args.at above)
