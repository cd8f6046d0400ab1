use Rattle.std.proofs.Common.{◌≡◌, ◌+◌, ◌++◌, List, [], None, max, refl, sym, ap, subst, arith}
use Rattle.std.specs.Prelude.{IfErr, ⊤}
use Rattle.ppq_session.specs.ppq_record.Bag.{IsSameBag}
use Rattle.ppq_load.specs.Given.{generated_by, generated_from_by}
use Rattle.ppq_session.specs.ppq_outside.Shown.{AllTell}
use Rattle.ppq_session.specs.Dealing.{AddsPart}
use Rattle.ppq_session.specs.ppq_array.declared.store_fault.StoreFault.TheVariants.{Device}
use Rattle.ppq_load.specs.declared.fault.LoadFault.TheVariants.{Queue}
use Rattle.ppq_session.specs.ppq_queue.Holding.{CountsFew, session_begun}
use Rattle.ppq_session.proofs.ppq_queue.Counted.{few-begun, few-more}
use Rattle.ppq_load.specs.Loading.{InSession, IsLoaded, IsByLoad, LoadLeaves, loaded_of}
use Rattle.ppq_load.proofs.Counting.{few-to, loaded-on}
use Rattle.ppq_load.proofs.Generated.{length-generated}
use Rattle.ppq_load.proofs.Refusals.{stop-later}
use Rattle.ppq_load.proofs.Loadings.{unbegun, begin-latched}
use Rattle.ppq_load.proofs.Parts.{ended-part, unbegun-part}
use Rattle.ppq_load.proofs.Results.{LoadSays, loaded-says, loaded-by, on_err, loaded-left, unbegun-left, back-latched}
use Rattle.ppq_load.proofs.generate.load_generated.Given as over
use Rattle.ppq_load.proofs.generate.load_generated.Goals.{After-end-queue, After-loaded}
use Rattle.ppq_load.proofs.generate.load_generated.Goals as goal

-- the generated records were given to the session
given : (g : over.Over) (c : After-end-queue g) → InSession g.S.Slot.shown c.args.queue (generated_by g.R.Fields.COUNT g.R.Fields.of_fields c.args.seed c.args.count) c.deal-all.new.self
given g c =
    let of_new = ap (λ m. generated_from_by g.R.Fields.COUNT g.R.Fields.of_fields m.seed m.key m.number m.left) c.new.ensures in
    subst (λ (rs : List g.row.R.Denot). InSession g.S.Slot.shown c.args.queue rs c.deal-all.new.self) of_new (c.deal-all.ensures.session c.args.queue [] c.in-Ok.ensures.session)

-- and it ended with them
done : (g : over.Over) (c : After-end-queue g) → IsLoaded c.args.queue (generated_by g.R.Fields.COUNT g.R.Fields.of_fields c.args.seed c.args.count) c.end-queue.result.0 c.end-queue.result.1
done g c = c.end-queue.ensures.loaded c.args.queue (generated_by g.R.Fields.COUNT g.R.Fields.of_fields c.args.seed c.args.count) (given g c)

says :
    (g : over.Over) (c : After-loaded g)
    → LoadSays (AllTell c.args.queue.slots → IsSameBag c.end-queue.result.0.bag (generated_by g.R.Fields.COUNT g.R.Fields.of_fields c.args.seed c.args.count ++ c.args.queue.bag)) c.args.queue c.end-queue.result.0 c.args.count c.loaded.result
says g c =
    let q = c.args.queue in
    let new = c.end-queue.result.0 in
    let records = generated_by g.R.Fields.COUNT g.R.Fields.of_fields c.args.seed c.args.count in
    let Bag : Type 0 = AllTell q.slots → IsSameBag new.bag (records ++ q.bag) in
    subst (λ r. LoadSays Bag q new c.args.count r) (sym c.loaded.ensures) (loaded-says q new records c.args.count Bag (length-generated g.R.Fields.COUNT g.R.Fields.of_fields c.args.seed c.args.seed 0 c.args.count) (λ bag. bag) c.end-queue.result.1 (done g c.before))

pub returns-in-Ok-clause-bag : goal.returns-in-Ok-clause-bag
returns-in-Ok-clause-bag g c = (says g (goal.at.returns-in-Ok-clause-bag g c).After-loaded).all

pub returns-in-Ok-clause-size : goal.returns-in-Ok-clause-size
returns-in-Ok-clause-size g c = (says g (goal.at.returns-in-Ok-clause-size g c).After-loaded).size

pub returns-in-Ok-clause-sound : goal.returns-in-Ok-clause-sound
returns-in-Ok-clause-sound g c = (says g (goal.at.returns-in-Ok-clause-sound g c).After-loaded).sound

pub returns-in-Ok-clause-quiet : goal.returns-in-Ok-clause-quiet
returns-in-Ok-clause-quiet g c = (says g (goal.at.returns-in-Ok-clause-quiet g c).After-loaded).quiet

pub returns-in-Ok-clause-part : goal.returns-in-Ok-clause-part
returns-in-Ok-clause-part g c =
    let q = c.args.queue in
    let new = c.end-queue.result.0 in
    let records = generated_by g.R.Fields.COUNT g.R.Fields.of_fields c.args.seed c.args.count in
    let ended = done g (goal.at.returns-in-Ok-clause-part g c).After-end-queue in
    on_err c.loaded.result (new.failed ≡ None → AllTell q.slots → AddsPart records q.bag new.bag)
    (ended-part g.S.Slot.shown c.deal-all.new.self q new records c.end-queue.result.1 ended c.end-queue.ensures.left)

pub returns-in-Err-clause-part : goal.returns-in-Err-clause-part
returns-in-Err-clause-part g c =
    let back = unbegun c.args.queue c.args.queue c.in-Err.queue c.in-Err.fault c.from.result refl c.from.ensures c.in-Err.ensures.refused in
    unbegun-part (generated_by g.R.Fields.COUNT g.R.Fields.of_fields c.args.seed c.args.count) c.args.queue c.in-Err.queue c.from.result back.intact

pub returns-in-Ok-clause-peak : goal.returns-in-Ok-clause-peak
returns-in-Ok-clause-peak g c = (says g (goal.at.returns-in-Ok-clause-peak g c).After-loaded).peak

pub returns-in-Ok-clause-refused : goal.returns-in-Ok-clause-refused
returns-in-Ok-clause-refused g c = (says g (goal.at.returns-in-Ok-clause-refused g c).After-loaded).refused

pub returns-in-Ok-clause-by_load : goal.returns-in-Ok-clause-by_load
returns-in-Ok-clause-by_load g c = subst (λ r. IfErr r IsByLoad) (sym c.loaded.ensures) (loaded-by c.end-queue.result.1)

pub returns-in-Ok-clause-kept : goal.returns-in-Ok-clause-kept
returns-in-Ok-clause-kept g c = (done g (goal.at.returns-in-Ok-clause-kept g c).After-end-queue).kept

pub returns-in-Err-clause-refused : goal.returns-in-Err-clause-refused
returns-in-Err-clause-refused g c =
    let back = unbegun c.args.queue c.args.queue c.in-Err.queue c.in-Err.fault c.from.result refl c.from.ensures c.in-Err.ensures.refused in
    let q = c.args.queue in
    stop-later q.sizes q.limited q.limited q.peak (max q.peak (q.size + c.args.count)) (omega (arith, c.known.ensures.range.two_records)) (λ same. same) (omega arith) c.in-Err.queue.slots c.from.result back.refused

pub returns-in-Ok-clause-left : goal.returns-in-Ok-clause-left
returns-in-Ok-clause-left g c =
    let q = c.args.queue in
    let records = generated_by g.R.Fields.COUNT g.R.Fields.of_fields c.args.seed c.args.count in
    let new = c.end-queue.result.0 in
    let long = length-generated g.R.Fields.COUNT g.R.Fields.of_fields c.args.seed c.args.seed 0 c.args.count in
    subst (λ r. IfErr r (LoadLeaves q new c.args.count)) (sym c.loaded.ensures)
    (loaded-left g.S.Slot.shown q records c.deal-all.new.self new c.args.count (omega (arith, long)) (given g (goal.at.returns-in-Ok-clause-left g c).After-end-queue) c.end-queue.result.1 c.end-queue.ensures.left)

pub returns-in-Err-clause-left : goal.returns-in-Err-clause-left
returns-in-Err-clause-left g c =
    let back = unbegun c.args.queue c.args.queue c.in-Err.queue c.in-Err.fault c.from.result refl c.from.ensures c.in-Err.ensures.refused in
    unbegun-left c.args.queue c.in-Err.queue c.args.count c.from.result back.peak c.known.ensures.peak back.intact

pub returns-in-Ok-clause-latched : goal.returns-in-Ok-clause-latched
returns-in-Ok-clause-latched g c = λ number failed. let back = c.in-Ok.ensures.latched number failed in absurd (cc)

pub returns-in-Err-clause-latched : goal.returns-in-Err-clause-latched
returns-in-Err-clause-latched g c = λ number failed.
    back-latched (session_begun c.args.queue) c.in-Err.queue c.from.result (Queue (Device number)) (begin-latched {B = ⊤} (session_begun c.args.queue) c.in-Err.queue c.in-Err.fault c.from.result number c.from.ensures (c.in-Err.ensures.latched number failed))

pub returns-in-Ok-clause-counted : goal.returns-in-Ok-clause-counted
returns-in-Ok-clause-counted g c =
    let q = c.args.queue in
    let new = c.end-queue.result.0 in
    let ended = done g (goal.at.returns-in-Ok-clause-counted g c).After-end-queue in
    let long = length-generated g.R.Fields.COUNT g.R.Fields.of_fields c.args.seed c.args.seed 0 c.args.count in
    subst (λ r. CountsFew c.args.count 1 q new r) (sym c.loaded.ensures)
    (few-to q new c.end-queue.result.1 (loaded_of c.end-queue.result.1) (loaded-on c.end-queue.result.1) (subst (λ n. CountsFew n 1 q new c.end-queue.result.1) long ended.counted))

pub returns-in-Err-clause-counted : goal.returns-in-Err-clause-counted
returns-in-Err-clause-counted g c =
    let back = unbegun c.args.queue c.args.queue c.in-Err.queue c.in-Err.fault c.from.result refl c.from.ensures c.in-Err.ensures.refused in
    let q = c.args.queue in
    let new = c.in-Err.queue in
    few-more 0 1 c.args.count 1 q new _ (omega arith) (omega arith) (few-begun q new _ back.kept.sizes back.counted)
