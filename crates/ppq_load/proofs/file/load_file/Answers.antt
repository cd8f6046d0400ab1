use Rattle.std.proofs.Common.{◌≡◌, ℕ, ◌+◌, ◌/◌, ◌++◌, List, length, Option, Some, None, max, [], refl, sym, subst, arith}
use Rattle.std.specs.Prelude.{OnOk, IfErr, ⊤}
use Rattle.std.proofs.lemmas.Result.{IfErr-weaker}
use Rattle.ppq_session.specs.ppq_record.Bag.{IsSameBag}
use Rattle.ppq_load.specs.Given.{records_of}
use Rattle.ppq_session.specs.ppq_outside.Shown.{AllTell}
use Rattle.ppq_session.specs.ppq_outside.Told.{RepliesOnly, bytes_or_none}
use Rattle.ppq_session.proofs.ppq_outside.Replies.{no_replies}
use Rattle.ppq_session.specs.ppq_queue.Holding.{Holding, CountsFew, session_begun}
use Rattle.ppq_session.proofs.ppq_queue.Counted.{few-begun, few-more}
use Rattle.ppq_session.specs.Dealing.{AddsPart}
use Rattle.ppq_session.specs.ppq_array.declared.store_fault.StoreFault.TheVariants.{Device}
use Rattle.ppq_load.specs.declared.fault.LoadFault.TheVariants.{Queue}
use Rattle.ppq_files.specs.Pieces.{PieceState}
use Rattle.ppq_load.specs.Loading.{InSession, HasGiven, DealsFile, IsByRead, IsReadRefusal, LoadLeaves, LoadEndsIn, LoadCountsFrom, first_of}
use Rattle.ppq_files.specs.Reading.{HasLength, IsReadWithin}
use Rattle.ppq_load.proofs.Counting.{few-to, first-on}
use Rattle.ppq_load.proofs.Refusals.{stop-later}
use Rattle.ppq_load.proofs.Loadings.{unbegun, begin-latched}
use Rattle.ppq_load.proofs.Parts.{ended-part, unbegun-part, file-part}
use Rattle.ppq_load.proofs.Results.{LoadSays, first-says, first-err, first-ok, on_err, on_ok, on_ok-map, unread-ends, unread-counts, first-left, unbegun-left, back-latched}
use Rattle.ppq_load.proofs.file.load_file.Given as over
use Rattle.ppq_load.proofs.file.load_file.Goals.{After-deal_file-read, After-first_fault}
use Rattle.ppq_load.proofs.file.load_file.Goals as goal

-- what was read of the file, and dealt
deals :
    (g : over.Over) (c : After-deal_file-read g)
    → DealsFile g.R.Record.record_of g.R.Record.WIDTH g.S.Slot.shown (g.L.Library.told c.args.library.now) (g.L.Library.replied c.deal_file-read.new.library) c.args.name.now c.args.said c.in-Ok.session c.deal_file-read.new.session c.deal_file-read.result
deals g c =
    let read = c.deal_file-read in
    subst (λ (p : PieceState). DealsFile g.R.Record.record_of g.R.Record.WIDTH g.S.Slot.shown (g.L.Library.told c.args.library.now) (g.L.Library.replied read.new.library) p.name p.said c.in-Ok.session read.new.session read.result) c.new-pieces.ensures
    read.ensures.deals

-- what the load says, once its session ended
says :
    (g : over.Over) (c : After-first_fault g)
    → DealsFile g.R.Record.record_of g.R.Record.WIDTH g.S.Slot.shown (g.L.Library.told c.args.library.now) (g.L.Library.replied c.deal_file-read.new.library) c.args.name.now c.args.said c.in-Ok.session c.deal_file-read.new.session c.deal_file-read.result
    → LoadSays (AllTell c.args.queue.slots → (files : List ℕ → Option (List ℕ)) → g.L.Library.told c.args.library.now ≡ Some files → IsSameBag c.end-queue.result.0.bag (records_of g.R.Record.record_of g.R.Record.WIDTH (bytes_or_none (files c.args.name.now)) ++ c.args.queue.bag)) c.args.queue c.end-queue.result.0 (c.args.said / g.R.Record.WIDTH) c.first_fault.result
says g c all_read =
    let q = c.args.queue in
    let told = g.L.Library.told c.args.library.now in
    let new = c.end-queue.result.0 in
    let read = c.deal_file-read in
    let given =
    on_ok-map read.result ((queue : Holding g.row.R.Denot) → InSession g.S.Slot.shown queue [] c.in-Ok.session → HasGiven g.R.Record.record_of g.R.Record.WIDTH g.S.Slot.shown queue told c.args.name.now (c.args.said / g.R.Record.WIDTH) read.new.session)
    (HasGiven g.R.Record.record_of g.R.Record.WIDTH g.S.Slot.shown q told c.args.name.now (c.args.said / g.R.Record.WIDTH) read.new.session) (λ all. all q c.in-Ok.ensures.session) all_read.given
    in
    let by_file = IfErr-weaker read.result (IsReadRefusal told (g.L.Library.replied read.new.library) c.args.name.now c.args.said) IsByRead (λ fault refused. refused.by_file) all_read.refused in
    subst (λ r. LoadSays (AllTell q.slots → (files : List ℕ → Option (List ℕ)) → told ≡ Some files → IsSameBag new.bag (records_of g.R.Record.record_of g.R.Record.WIDTH (bytes_or_none (files c.args.name.now)) ++ q.bag)) q new (c.args.said / g.R.Record.WIDTH) r) (sym c.first_fault.ensures)
    (first-says g.R.Record.record_of g.R.Record.WIDTH g.S.Slot.shown told c.args.name.now c.args.said read.new.session q new c.end-queue.result.1 (c.end-queue.ensures.loaded q) c.requires.long read.result given by_file)

pub returns-in-Ok-clause-bag : goal.returns-in-Ok-clause-bag
returns-in-Ok-clause-bag g c = (says g (goal.at.returns-in-Ok-clause-bag g c).After-first_fault (deals g (goal.at.returns-in-Ok-clause-bag g c).After-deal_file-read)).all

pub returns-in-Ok-clause-size : goal.returns-in-Ok-clause-size
returns-in-Ok-clause-size g c = (says g (goal.at.returns-in-Ok-clause-size g c).After-first_fault (deals g (goal.at.returns-in-Ok-clause-size g c).After-deal_file-read)).size

pub returns-in-Ok-clause-sound : goal.returns-in-Ok-clause-sound
returns-in-Ok-clause-sound g c = (says g (goal.at.returns-in-Ok-clause-sound g c).After-first_fault (deals g (goal.at.returns-in-Ok-clause-sound g c).After-deal_file-read)).sound

pub returns-in-Ok-clause-quiet : goal.returns-in-Ok-clause-quiet
returns-in-Ok-clause-quiet g c = (says g (goal.at.returns-in-Ok-clause-quiet g c).After-first_fault (deals g (goal.at.returns-in-Ok-clause-quiet g c).After-deal_file-read)).quiet

pub returns-in-Ok-clause-part : goal.returns-in-Ok-clause-part
returns-in-Ok-clause-part g c =
    let all_read = deals g (goal.at.returns-in-Ok-clause-part g c).After-deal_file-read in
    let q = c.args.queue in
    let new = c.end-queue.result.0 in
    let name = c.args.name.now in
    let told = g.L.Library.told c.args.library.now in
    let some = all_read.some q c.in-Ok.ensures.session in
    let ended = c.end-queue.ensures.loaded q some.given.records some.given.session in
    on_err c.first_fault.result (new.failed ≡ None → AllTell q.slots → (files : List ℕ → Option (List ℕ)) → told ≡ Some files → AddsPart (records_of g.R.Record.record_of g.R.Record.WIDTH (bytes_or_none (files name))) q.bag new.bag)
    (λ sound tells files is.
    file-part g.R.Record.record_of g.R.Record.WIDTH told name files c.args.said some.count some.given.records q.bag new.bag is (c.requires.long files is) some.few some.given.are
    (ended-part g.S.Slot.shown c.deal_file-read.new.session q new some.given.records c.end-queue.result.1 ended c.end-queue.ensures.left sound tells))

pub returns-in-Err-clause-part : goal.returns-in-Err-clause-part
returns-in-Err-clause-part g c =
    let back = unbegun c.args.queue c.args.queue c.in-Err.queue c.in-Err.fault c.from.result refl c.from.ensures c.in-Err.ensures.refused in
    λ sound tells files is. unbegun-part (records_of g.R.Record.record_of g.R.Record.WIDTH (bytes_or_none (files c.args.name.now))) c.args.queue c.in-Err.queue c.from.result back.intact sound tells

pub returns-in-Ok-clause-peak : goal.returns-in-Ok-clause-peak
returns-in-Ok-clause-peak g c = (says g (goal.at.returns-in-Ok-clause-peak g c).After-first_fault (deals g (goal.at.returns-in-Ok-clause-peak g c).After-deal_file-read)).peak

pub returns-in-Ok-clause-refused : goal.returns-in-Ok-clause-refused
returns-in-Ok-clause-refused g c = (says g (goal.at.returns-in-Ok-clause-refused g c).After-first_fault (deals g (goal.at.returns-in-Ok-clause-refused g c).After-deal_file-read)).refused

pub returns-in-Ok-clause-ended : goal.returns-in-Ok-clause-ended
returns-in-Ok-clause-ended g c =
    let all_read = deals g (goal.at.returns-in-Ok-clause-ended g c).After-deal_file-read in
    let read = c.deal_file-read in
    let P = LoadEndsIn (g.L.Library.told c.args.library.now) (g.L.Library.replied read.new.library) c.args.name.now c.args.said in
    subst (λ r. IfErr r P) (sym c.first_fault.ensures) (first-err read.result c.end-queue.result.1 P (λ fault. on_ok read.result ⊤ tt)
    (IfErr-weaker read.result (IsReadRefusal (g.L.Library.told c.args.library.now) (g.L.Library.replied read.new.library) c.args.name.now c.args.said) P (λ fault refused. refused.ended) all_read.refused))

pub returns-in-Ok-clause-kept : goal.returns-in-Ok-clause-kept
returns-in-Ok-clause-kept g c =
    let all_read = deals g (goal.at.returns-in-Ok-clause-kept g c).After-deal_file-read in
    let some = all_read.some c.args.queue c.in-Ok.ensures.session in
    (c.end-queue.ensures.loaded c.args.queue some.given.records some.given.session).kept

pub returns-in-Ok-clause-stays : goal.returns-in-Ok-clause-stays
returns-in-Ok-clause-stays g c =
    let read = c.deal_file-read in
    let P = g.L.Library.faults read.new.library ≡ g.L.Library.faults c.args.library.now in
    subst (λ r. OnOk r P) (sym c.first_fault.ensures) (first-ok read.result c.end-queue.result.1 P read.ensures.counts.stays)

pub returns-in-Ok-clause-cause : goal.returns-in-Ok-clause-cause
returns-in-Ok-clause-cause g c =
    let read = c.deal_file-read in
    let P = LoadCountsFrom (g.L.Library.faults c.args.library.now) (g.L.Library.faults read.new.library) in
    subst (λ r. IfErr r P) (sym c.first_fault.ensures) (first-err read.result c.end-queue.result.1 P (λ fault. read.ensures.counts.stays) read.ensures.counts.cause)

pub returns-in-Err-clause-refused : goal.returns-in-Err-clause-refused
returns-in-Err-clause-refused g c =
    let back = unbegun c.args.queue c.args.queue c.in-Err.queue c.in-Err.fault c.from.result refl c.from.ensures c.in-Err.ensures.refused in
    let q = c.args.queue in
    stop-later q.sizes q.limited q.limited q.peak (max q.peak (q.size + c.args.said / g.R.Record.WIDTH)) (omega (arith, c.known.ensures.range.two_records)) (λ same. same) (omega arith) c.in-Err.queue.slots c.from.result back.refused

pub returns-in-Err-clause-ended : goal.returns-in-Err-clause-ended
returns-in-Err-clause-ended g c =
    let back = unbegun c.args.queue c.args.queue c.in-Err.queue c.in-Err.fault c.from.result refl c.from.ensures c.in-Err.ensures.refused in
    unread-ends (g.L.Library.told c.args.library.now) (g.L.Library.replied c.args.library.now) c.args.name.now c.args.said c.from.result back.by_load

pub returns-in-Err-clause-asks : goal.returns-in-Err-clause-asks
returns-in-Err-clause-asks g c = no_replies (g.L.Library.replied c.args.library.now) (IsReadWithin c.args.name.now c.args.said)

pub returns-in-Err-clause-cause : goal.returns-in-Err-clause-cause
returns-in-Err-clause-cause g c =
    let back = unbegun c.args.queue c.args.queue c.in-Err.queue c.in-Err.fault c.from.result refl c.from.ensures c.in-Err.ensures.refused in
    unread-counts (g.L.Library.faults c.args.library.now) c.from.result back.by_load

pub returns-in-Ok-clause-left : goal.returns-in-Ok-clause-left
returns-in-Ok-clause-left g c =
    let all_read = deals g (goal.at.returns-in-Ok-clause-left g c).After-deal_file-read in
    let q = c.args.queue in
    let told = g.L.Library.told c.args.library.now in
    let read = c.deal_file-read in
    let new = c.end-queue.result.0 in
    let some = all_read.some q c.in-Ok.ensures.session in
    let by_file = IfErr-weaker read.result (IsReadRefusal told (g.L.Library.replied read.new.library) c.args.name.now c.args.said) IsByRead (λ fault refused. refused.by_file) all_read.refused in
    let n = c.args.said / g.R.Record.WIDTH in
    subst (λ r. IfErr r (LoadLeaves q new n)) (sym c.first_fault.ensures)
    (first-left g.S.Slot.shown q some.given.records read.new.session new n (omega (arith, some.given.are.length, some.few)) some.given.session read.result c.end-queue.result.1 (c.end-queue.ensures.loaded q some.given.records some.given.session) c.end-queue.ensures.left by_file)

pub returns-in-Err-clause-left : goal.returns-in-Err-clause-left
returns-in-Err-clause-left g c =
    let back = unbegun c.args.queue c.args.queue c.in-Err.queue c.in-Err.fault c.from.result refl c.from.ensures c.in-Err.ensures.refused in
    unbegun-left c.args.queue c.in-Err.queue (c.args.said / g.R.Record.WIDTH) c.from.result back.peak c.known.ensures.peak back.intact

pub returns-in-Ok-clause-latched : goal.returns-in-Ok-clause-latched
returns-in-Ok-clause-latched g c = λ number failed. let back = c.in-Ok.ensures.latched number failed in absurd (cc)

pub returns-in-Err-clause-latched : goal.returns-in-Err-clause-latched
returns-in-Err-clause-latched g c = λ number failed.
    back-latched (session_begun c.args.queue) c.in-Err.queue c.from.result (Queue (Device number)) (begin-latched {B = ⊤} (session_begun c.args.queue) c.in-Err.queue c.in-Err.fault c.from.result number c.from.ensures (c.in-Err.ensures.latched number failed))

pub returns-in-Ok-clause-counted : goal.returns-in-Ok-clause-counted
returns-in-Ok-clause-counted g c =
    let all_read = deals g (goal.at.returns-in-Ok-clause-counted g c).After-deal_file-read in
    let q = c.args.queue in
    let read = c.deal_file-read in
    let new = c.end-queue.result.0 in
    let ended = c.end-queue.result.1 in
    let some = all_read.some q c.in-Ok.ensures.session in
    let given = length some.given.records in
    let said = c.args.said / g.R.Record.WIDTH in
    subst (λ r. CountsFew said 1 q new r) (sym c.first_fault.ensures)
    (few-to q new ended (first_of read.result ended) (first-on read.result ended)
    (few-more given 1 said 1 q new ended (omega (arith, some.given.are.length, some.few)) (omega arith) (c.end-queue.ensures.loaded q some.given.records some.given.session).counted))

pub returns-in-Err-clause-counted : goal.returns-in-Err-clause-counted
returns-in-Err-clause-counted g c =
    let back = unbegun c.args.queue c.args.queue c.in-Err.queue c.in-Err.fault c.from.result refl c.from.ensures c.in-Err.ensures.refused in
    let q = c.args.queue in
    let new = c.in-Err.queue in
    few-more 0 1 (c.args.said / g.R.Record.WIDTH) 1 q new _ (omega arith) (omega arith) (few-begun q new _ back.kept.sizes back.counted)

pub deal_file-read-requires-clause-long : goal.deal_file-read-requires-clause-long
deal_file-read-requires-clause-long g c κs within = subst (λ (p : PieceState). HasLength (g.L.Library.told c.args.library.now) p.name p.said) (sym c.new-pieces.ensures) c.requires.long

pub returns-in-Ok-clause-asks : goal.returns-in-Ok-clause-asks
returns-in-Ok-clause-asks g c =
    let read = c.deal_file-read in
    subst (λ (p : PieceState). RepliesOnly (g.L.Library.replied c.args.library.now) (g.L.Library.replied read.new.library) (IsReadWithin p.name p.said)) c.new-pieces.ensures read.ensures.reads.asks
