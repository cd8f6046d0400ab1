use Rattle.std.proofs.Common.{◌≡◌, ◌∙◌, ap, sym, subst}
use Rattle.std.specs.Prelude.{◌↔◌, IsNone}
use Rattle.ppq_pass.specs.ppq_record.Bag.{size_below}
use Rattle.ppq_session.specs.Fronts.{least_below}
use Rattle.ppq_session.proofs.Belows.{least_below-same, least_below-none}
use Rattle.ppq_session.proofs.front.Front.top.Goals as goal

pub returns-clause-answer : goal.returns-clause-answer
returns-clause-answer g c tell =
    let laws = c.record_laws.ensures in
    let old = c.args.self.now in
    let new = c.ready.new.self in
    c.first.ensures.answer (c.ready.ensures.kept.tells tell)
    ∙ ap (λ f. least_below g.R.Ord.cmp f.limit new.bag) c.ready.ensures.kept.rest
    ∙ least_below-same laws.order laws.same old.limit new.bag old.bag (c.in_ok-ready.ensures.readied.bag tell)

pub returns-clause-none : goal.returns-clause-none
returns-clause-none g c tell =
    let laws = c.record_laws.ensures in
    let old = c.args.self.now in
    subst (λ one. IsNone one ↔ (size_below g.R.Ord.cmp old.bag old.limit ≡ 0)) (sym (returns-clause-answer g c tell)) (least_below-none laws.order laws.same old.limit old.bag)
