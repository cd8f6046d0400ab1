use Rattle.std.proofs.Common.{All, reverse, sym, ap, ◌∙◌, subst}
use Rattle.std.proofs.lemmas.List.{reverse-reverse}
use Rattle.ppq_spill.specs.Grouping.{IsGood}
use Rattle.ppq_spill.proofs.groups.end_group.Goals as goal

pub returns-in-None-clause-good : goal.returns-in-None-clause-good
returns-in-None-clause-good g c =
    let took = rw c.in-None.is at c.append_written.ensures.taken in
    subst (All IsGood) (ap reverse c.reverse.ensures.items ∙ reverse-reverse c.args.jobs.now.items) took.2

pub returns-in-Some-clause-stopped : goal.returns-in-Some-clause-stopped
returns-in-Some-clause-stopped g c =
    let took = rw c.in-Some.is at c.append_written.ensures.taken in
    let all = ap reverse c.reverse.ensures.items ∙ reverse-reverse c.args.jobs.now.items in
    (took.0, took.1, reverse c.append_written.new.jobs.items, sym all ∙ took.2, c.give_rest.ensures.berths, took.4)
