use Rattle.ppq_record.proofs.Fronts.{IsFront-front, IsFront-is, front-parts, IsSameBag-counts}
use Rattle.ppq_record.proofs.bag.one_front.Goals as goal

pub returns : goal.returns
returns g c =
    let order = c.record_laws.ensures.order in
    let same = c.record_laws.ensures.same in
    record { there_is = IsFront-front order; only = IsFront-is order same; parts = front-parts order; same_bag = IsSameBag-counts order same }
