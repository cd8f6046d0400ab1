use Rattle.std.proofs.Common.{◌≡◌, true, false, Bool, Some, if◌then◌else◌, refl, sym, ap, ◌∙◌}
use Rattle.ppq_tree.proofs.ppq_record.Fronts.{ranks, no_tie}
use Rattle.ppq_heap.proofs.Shares.{pushed_none, pushed_some}
use Rattle.ppq_heap.proofs.insertion_heap.lesser.Goals as goal

pub returns-in-None : goal.returns-in-None
returns-in-None g c old new best more =
    let laws = c.record_laws.ensures in
    sym (pushed_none g.R.Ord.cmp (ranks laws.order) (no_tie laws.order laws.same) old new c.args.item true (sym best ∙ c.in-None.is) more refl)

chosen : {X : Type 0} (b : Bool) (one other : X) → Some (if b then other else one) ≡ (if b then Some other else Some one)
chosen true one other = refl
chosen false one other = refl

pub returns-in-Some : goal.returns-in-Some
returns-in-Some g c old new best more =
    let laws = c.record_laws.ensures in
    let least = c.in-Some.least in
    let less = c.is_less.result in
    ap Some c.either.ensures
    ∙ chosen less least c.args.item
    ∙ ap (λ l. if less then Some c.args.item else l) (sym c.in-Some.is ∙ best)
    ∙ sym (pushed_some g.R.Ord.cmp (ranks laws.order) (no_tie laws.order laws.same) old new c.args.item least less (sym best ∙ c.in-Some.is) more c.is_less.ensures)
