-- How a talk over a queue that was opened ends.
use Rattle.std.proofs.Common.{◌≡◌, ◌∙◌, ◌<◌, ◌≤◌, ℕ, zero, suc, false, List, [], ◌∷◌, ◌++◌, Option, Some, None, refl, sym, ap, subst, arith, inl, inr, append-nil}
use Rattle.std.specs.Prelude.{slice_get}
use Rattle.std.specs.List.{AllByRecursion as Each}
use Rattle.ppq_frames.specs.ppq_outside.declared.source.Source.{Ghosts as SourceShows}
use Rattle.ppq_engine.specs.ppq_script.Words.{Words}
use Rattle.ppq_engine.specs.ppq_script.declared.form.Form.TheVariants.{Bytes}
use Rattle.ppq_engine.specs.ppq_script.declared.command.Command.{Command}
use Rattle.ppq_engine.specs.ppq_script.declared.command.Command.TheVariants.{Bulk}
use Rattle.ppq_engine.specs.ppq_script.Reading.{command_list}
use Rattle.ppq_engine.specs.ppq_script.ppq_outside.Shown.{Shown, AllTell}
use Rattle.ppq_engine.specs.ppq_script.ppq_outside.Told.{TakesAll, TakesPart}
use Rattle.ppq_engine.specs.ppq_load.ppq_budget.Sizes.{Numbers}
use Rattle.ppq_engine.specs.ppq_array.Kept.{SameSlots, SameSums, AreQuiet, weight_at, all_writes}
use Rattle.ppq_engine.specs.ppq_array.declared.store_fault.StoreFault.TheVariants.{NoFreeBlock, Device}
use Rattle.ppq_engine.specs.ppq_queue.Holding.{Holding, NamesNeed}
use Rattle.ppq_engine.specs.ppq_queue.declared.fault.OpenFault.{OpenFault}
use Rattle.ppq_engine.specs.ppq_queue.declared.fault.OpenFault.TheVariants.{TooSmall, Memory}
use Rattle.ppq_engine.specs.Loads.{FitsWritten, least_of}
use Rattle.ppq_engine.specs.Outcome.{PutsStopped}
use Rattle.ppq_engine.specs.Output.{State, outside, text_of, after, output_of, output_from, crest_of, given_of, ReadsNoFile}
use Rattle.ppq_engine.specs.Popping.{NotByFile}
use Rattle.ppq_engine.specs.Running.{LendsQueue, LibraryAfter, SinkAfter, ChangedIn, open_end}
use Rattle.ppq_engine.specs.declared.end.End.{End}
use Rattle.ppq_engine.specs.declared.end.End.TheVariants as end
use Rattle.ppq_engine.specs.declared.stop.Stop.{Stop}
use Rattle.ppq_engine.specs.declared.stop.Stop.TheVariants.{Sink, Queue, Read, Changed}
use Rattle.ppq_engine.specs.declared.stop.Stop.TheVariants as stop
use Rattle.ppq_engine.proofs.Kept.{Keeps-refl}
use Rattle.ppq_engine.proofs.Orders.{HasLaws}
use Rattle.ppq_engine.proofs.Running.{gathered-all, takes_none}
use Rattle.ppq_engine.specs.ppq_script.Reading.{Reading}
use Rattle.ppq_engine.proofs.Sizes.{sizes-begin, fits-more}
use Rattle.ppq_engine.proofs.Steps.{run-begin}
use Rattle.ppq_engine.proofs.Stops.{part-stopped, says-stopped, not-by_limit, limit_not_changed, limit_unasked}
use Rattle.ppq_engine.proofs.ppq_load.ppq_queue.Slots.{slots-sums}
use Rattle.ppq_engine.proofs.ppq_load.ppq_queue.ppq_spill.SameSlots.{SameSlots-trans}
use Rattle.ppq_engine.proofs.ppq_load.ppq_queue.ppq_outside.Takes.{takes_nothing, all_is_part}
use Rattle.ppq_answer.specs.Answers.{no_files, no_replies, AnswersAll, FinishesAs, TalkSays, OutcomeSays, ServesTalk}
use Rattle.ppq_answer.specs.Serving.{script_of, Served, Halted}
use Rattle.ppq_answer.specs.Talking.{talk_of, AllAnswered, Halts}
use Rattle.ppq_answer.specs.declared.halt.Halt.{Halt}
use Rattle.ppq_answer.specs.declared.halt.Halt.TheVariants as halt
use Rattle.ppq_answer.specs.declared.outcome.Outcome.{Outcome}
use Rattle.ppq_answer.specs.declared.outcome.Outcome.TheVariants.{Ended, BadRequest}
use Rattle.ppq_answer.proofs.Asked.{requests-lend}
use Rattle.ppq_answer.proofs.Lending.{commands-are}
use Rattle.ppq_answer.proofs.Talked.{came-none}

-- what commands that read no file print does not depend on files
after-any : {R : Type 0} (w : Words R) (given other : ℕ → List R) (state : State R) (c : Command R) → LendsQueue c → after w given state c ≡ after w other state c
after-any w given other state (Bulk file size) lends = absurd lends
after-any w given other state _ lends = refl

output-any : {R : Type 0} (w : Words R) (given other : ℕ → List R) (state : State R) (cs : List (Command R)) → Each LendsQueue cs → output_from w Bytes given state cs ≡ output_from w Bytes other state cs
output-any w given other state [] each = refl
output-any {R} w given other state (c ∷ cs) each =
    let text = text_of w Bytes state c in
    ap (λ (s : State R). text ++ output_from w Bytes given s cs) (after-any w given other state c each.0) ∙ ap (λ (t : List ℕ). text ++ t) (output-any w given other (after w other state c) cs each.1)

-- none of them names a file
each-at : {X : Type 0} (P : X → Type 0) (xs : List X) (i : ℕ) (x : X) → Each P xs → slice_get xs i ≡ Some x → P x
each-at P [] i x each is = cc
each-at P (y ∷ ys) zero x each is = let same : y ≡ x = cc in subst P same each.0
each-at P (y ∷ ys) (suc i) x each is = each-at P ys i x each.1 is

no-file : {R : Type 0} (cs : List (Command R)) → Each LendsQueue cs → ReadsNoFile (script_of cs)
no-file {R} cs each = λ i file size is.
    let bulk : Command R = Bulk file size in
    let here : slice_get cs i ≡ Some bulk = ap (λ (xs : List (Command R)). slice_get xs i) (sym (commands-are cs)) ∙ is in
    each-at LendsQueue cs i bulk each here

pub talk-lends : {R : Type 0} (w : Words R) (requests : List (List ℕ)) → Each LendsQueue (talk_of w requests)
talk-lends w requests = (tt, requests-lend w requests)

-- the library of a talk is its source: it tells no files, and none is read
unread : {R : Type 0} (cs : List (Command R)) (stop : Stop) → NotByFile stop → ChangedIn None no_replies (script_of cs) stop
unread cs stop by = limit_not_changed None no_replies (script_of cs) stop (not-by_limit stop by)

unasked : (before now : ℕ) (stop : Stop) → now ≡ before → NotByFile stop → LibraryAfter before now stop
unasked before now stop same by = let P : ℕ → Type 0 = λ n. LibraryAfter before n stop in subst P (sym same) (limit_unasked before stop (not-by_limit stop by))

-- a queue that was opened, to which nothing was done
pub served-begin :
    {R : Type 0} (w : Words R) (laws : HasLaws w) (before : Option (List ℕ)) (queue : Holding R) (gathered : List ℕ) → gathered ≡ [] → queue.bag ≡ [] → queue.size ≡ 0 → queue.peak ≡ 0 → queue.limited ≡ false
    → Served w Bytes queue before before [] queue gathered
served-begin w laws before queue gathered none empty size peak unlimited = record {
  run = λ tells given. run-begin w laws Bytes given before gathered queue.bag queue.size queue.peak queue.sizes queue.slots [] none empty size peak;
  has = sizes-begin w queue.size queue.peak queue.sizes queue.slots [] size peak;
  lend = tt;
  unlimited = unlimited;
  quiet = refl;
  kept = Keeps-refl queue;
}

module _ {R : Type 0} (w : Words R) {I : Type 0} (source : SourceShows I) (old_source new_source : I) (sizes : Numbers) (first : List Shown) (before : Option (List ℕ)) (sink : ℕ) (requests : List (List ℕ)) (waiting : List ℕ) where
  abbrev talk : List (Command R)
  talk = talk_of w requests

  -- the blocks as they come back
  module _ (slots later : List Shown) (now : Option (List ℕ)) (sink_now : ℕ) (sums : SameSums slots later) where
    says-later :
        (over : End) → TalkSays w source old_source new_source sizes first slots before now sink sink_now requests waiting over
        → TalkSays w source old_source new_source sizes first later before now sink sink_now requests waiting over
    says-later end.Done says =
        let more : all_writes slots ≤ all_writes later = omega (arith, sums (λ s. s.writes)) in (
          λ tells files is. record { took = (says.0 tells files is).took; crest = fits-more (crest_of w (given_of w files (script_of talk)) (command_list (script_of talk))) sizes slots later (says.0 tells files is).crest more },
          fits-more (least_of w (command_list (script_of talk))) sizes slots later says.1 more,
          says.2,
          sym (sums (λ s. s.faults)) ∙ says.3,
        )
    says-later end.NoFreeBlock says = (says.0, says.1, says.2, sym (sums (λ s. s.faults)) ∙ says.3)
    says-later (end.DeviceFault number) says = (omega (arith, says.0, sums (weight_at (λ s. s.faults) number)), says.1)
    says-later _ says = says

    -- an end that comes of a stop
    module _ (mid : Option (List ℕ)) (sink_mid : ℕ) (had : List ℕ) (over : End) where
      abbrev Says : Outcome → Type 0
      Says outcome = OutcomeSays w source old_source new_source sizes first later before now sink sink_now requests waiting outcome

      abbrev Later : End → Type 0
      Later e = TalkSays w source old_source new_source sizes first later before now sink sink_now requests waiting e

      stopped-as : (is : End) → over ≡ is → (Later is → Says (Ended is)) → (AnswersAll (Ended is) → ⊥) → Later over → Says (Ended over) × (AnswersAll (Ended over) → ⊥)
      stopped-as is same says none own =
          let P : End → Type 0 = λ e. Says (Ended e) × (AnswersAll (Ended e) → ⊥) in
          let Q : End → Type 0 = λ e. Later e in
          subst P (sym same) (says (subst Q same own), none)

      stopped-says : (why : Stop) → NotByFile why → PutsStopped mid now sink_mid sink_now had over why → Later over → Says (Ended over) × (AnswersAll (Ended over) → ⊥)
      stopped-says stop.Sink by puts own = stopped-as end.WriteFault puts.1 (λ s. s) (λ a. a) own
      stopped-says (stop.Queue NoFreeBlock) by (inl puts) own = stopped-as end.NoFreeBlock puts.1 (λ s. s) (λ a. a) own
      stopped-says (stop.Queue NoFreeBlock) by (inr puts) own = stopped-as end.WriteFault puts.1 (λ s. s) (λ a. a) own
      stopped-says (stop.Queue (Device number)) by (inl puts) own = stopped-as (end.DeviceFault number) puts.1 (λ s. s) (λ a. a) own
      stopped-says (stop.Queue (Device number)) by (inr puts) own = stopped-as end.WriteFault puts.1 (λ s. s) (λ a. a) own
      stopped-says stop.Read by puts own = absurd by
      stopped-says stop.Memory by puts own = absurd by
      stopped-says (stop.Changed line said got) by puts own = absurd by

-- a talk over a queue that was opened
module _
    {R : Type 0} (w : Words R) (laws : HasLaws w) {I : Type 0} (source : SourceShows I) (old_source new_source : I) (queue new : Holding R) (waiting : List ℕ) (before mid now : Option (List ℕ)) (sink sink_mid sink_now : ℕ) (gathered has : List ℕ)
    (begun : Served w Bytes queue before before [] queue gathered) (block : 0 < queue.sizes.block) (later : List Shown) (sums : SameSums new.slots later) (requests : List (List ℕ)) (outcome : Outcome)
  where
    abbrev commands : List (Command R)
    commands = talk_of w requests

    abbrev script : Reading R
    script = script_of commands

    abbrev output : List ℕ
    output = output_of w Bytes no_files commands

    -- what is said of what was written, and of the outcome
    abbrev pub Tells : Outcome → Option (List ℕ) → ℕ → Type 0
    Tells over at count =
        (AllTell queue.slots → TakesPart before at output) × (AnswersAll over → AllTell queue.slots → TakesAll before at output)
        × OutcomeSays w source old_source new_source queue.sizes queue.slots later before at sink count requests waiting over

    moved : (over : Outcome) → outcome ≡ over → now ≡ mid → sink_now ≡ sink_mid → Tells over mid sink_mid → Tells outcome now sink_now
    moved over is same still told =
        let P : ℕ → Type 0 = λ n. Tells over mid n in
        let Q : Option (List ℕ) → Type 0 = λ o. Tells over o sink_now in
        let S : Outcome → Type 0 = λ o. Tells o now sink_now in
        subst S (sym is) (subst Q (sym same) (subst P (sym still) told))

    -- all requests were answered
    module _ (done : AllAnswered w Bytes before mid sink sink_mid queue new gathered has commands) where
      abbrev served : Served w Bytes queue before mid commands new has
      served = done.done queue before [] begun

      took : AllTell queue.slots → (given : ℕ → List R) → TakesAll before mid (output_of w Bytes given commands)
      took tells given =
          let P : List ℕ → Type 0 = λ g. TakesAll mid mid g in
          gathered-all before mid mid has (output_of w Bytes given commands) (served.run tells given).output (subst P (sym done.put) (takes_nothing mid))

      all-told : (over : Outcome) → OutcomeSays w source old_source new_source queue.sizes queue.slots later before mid sink sink_mid requests waiting over → Tells over mid sink_mid
      all-told over says = (λ tells. all_is_part before mid output (took tells no_files), λ all tells. took tells no_files, says)

      says-done : source.faults new_source ≡ source.faults old_source → TalkSays w source old_source new_source queue.sizes queue.slots later before mid sink sink_mid requests waiting end.Done
      says-done unfailed =
          let Took : (ℕ → List R) → List (Command R) → Type 0 = λ given cs. TakesAll before mid (output_of w Bytes given cs) in
          let Crest : (ℕ → List R) → List (Command R) → Type 0 = λ given cs. FitsWritten (crest_of w given cs) queue.sizes new.slots in
          let Least : List (Command R) → Type 0 = λ cs. FitsWritten (least_of w cs) queue.sizes new.slots in
          let are = sym (commands-are commands) in
          says-later w source old_source new_source queue.sizes queue.slots before sink requests waiting new.slots later mid sink_mid sums end.Done (
            λ tells files is. let given = given_of w files script in record { took = subst (Took given) are (took tells given); crest = subst (Crest given) are (served.run tells given).crest },
            subst Least are served.has.crest,
            record { sink_same = done.same; library_same = unfailed },
            served.quiet,
          )

      quiet-later : AreQuiet queue.slots later
      quiet-later = sym (sums (λ s. s.faults)) ∙ served.quiet

    -- a request stopped
    module _ (why : Stop) (halted : Halted w Bytes queue before mid commands new has why) (over : End) (puts : PutsStopped mid now sink_mid sink_now has over why) (unfailed : source.faults new_source ≡ source.faults old_source) (after_sink : SinkAfter sink sink_mid why) where
      stopped-told : outcome ≡ Ended over → Tells outcome now sink_now
      stopped-told is =
          let own =
          says-later w source old_source new_source queue.sizes queue.slots before sink requests waiting new.slots later now sink_now sums over
          (says-stopped w laws Bytes None script queue.slots before why no_replies new.slots queue.sizes mid now sink sink_mid sink_now (source.faults old_source) (source.faults new_source) has over
          block halted.stopped halted.quiet (unread commands why halted.no_file) after_sink (unasked (source.faults old_source) (source.faults new_source) why unfailed halted.no_file) puts) in
          let says = stopped-says w source old_source new_source queue.sizes queue.slots before sink requests waiting new.slots later now sink_now sums mid sink_mid has over why halted.no_file puts own in
          let files : List ℕ → Option (List ℕ) = λ name. None in
          let given = given_of w files script in
          let P : List ℕ → Type 0 = λ t. TakesPart before now t in
          let S : Outcome → Type 0 = λ o. Tells o now sink_now in
          let same : output_of w Bytes given (command_list script) ≡ output =
          ap (output_of w Bytes given) (commands-are commands) ∙ output-any w given no_files (outside []) commands (talk-lends w requests) in
          subst S (sym is) (
            λ tells. subst P same (part-stopped w laws Bytes None script queue.slots before why mid now sink_mid sink_now has queue.sizes new.slots over halted.stopped puts tells files (inr (no-file commands (talk-lends w requests)))),
            λ all tells. absurd (says.1 all),
            says.0,
          )

    pub halt-told : (why : Halt) → Halts w Bytes source old_source new_source waiting before mid sink sink_mid queue new gathered has requests why → FinishesAs mid now sink_mid sink_now has why outcome → Tells outcome now sink_now
    halt-told halt.Over h f = moved (Ended end.Done) f.0 f.1 f.2 (all-told h.0 (Ended end.Done) (says-done h.0 h.1, h.2, h.3))
    halt-told (halt.Bad number) h f =
        moved (BadRequest number) f.0 f.1 f.2 (all-told h.0 (BadRequest number) (h.2, h.3, record { sink_same = h.0.same; library_same = h.1 }, quiet-later h.0))
    halt-told halt.Source h f = moved (Ended end.ReadFault) f.0 f.1 f.2 (all-told h.0 (Ended end.ReadFault) ((h.1, h.0.same), h.2))
    halt-told (halt.Stopped stop) h f =
        let P : List (Command R) → Type 0 = λ cs. Halted w Bytes queue before mid cs new has stop in
        let halted = subst P (append-nil commands) (h.0 queue before [] [] block tt begun) in
        stopped-told stop halted f.0 f.2 h.1 h.2 f.1

    pub slots-halt : (why : Halt) → Halts w Bytes source old_source new_source waiting before mid sink sink_mid queue new gathered has requests why → SameSlots queue.slots later
    slots-halt why h = SameSlots-trans queue.slots new.slots later (same why h) (slots-sums new.slots later sums)
      where
        same : (why : Halt) → Halts w Bytes source old_source new_source waiting before mid sink sink_mid queue new gathered has requests why → SameSlots queue.slots new.slots
        same halt.Over h = (h.0.done queue before [] begun).kept.slots
        same (halt.Bad number) h = (h.0.done queue before [] begun).kept.slots
        same halt.Source h = (h.0.done queue before [] begun).kept.slots
        same (halt.Stopped stop) h = (h.0 queue before [] [] block tt begun).slots

-- a queue that was not opened
unopened-says :
    {R : Type 0} (w : Words R) {I : Type 0} (source : SourceShows I) (at : I) (sizes : Numbers) (first later : List Shown) (put : Option (List ℕ)) (sink : ℕ) (waiting : List ℕ) (fault : OpenFault) → NamesNeed sizes fault
    → OutcomeSays w source at at sizes first later put put sink sink [] waiting (Ended (open_end fault))
unopened-says w source at sizes first later put sink waiting (TooSmall need) names = (record { unasked = refl; unwritten = refl; counts = record { sink_same = refl; library_same = refl } }, names.0, names.1)
unopened-says w source at sizes first later put sink waiting Memory names = record { unasked = refl; unwritten = refl; counts = record { sink_same = refl; library_same = refl } }

unopened-all : (fault : OpenFault) → AnswersAll (Ended (open_end fault)) → ⊥
unopened-all (TooSmall need) all = all
unopened-all Memory all = all

-- nothing was read or written
module _
    {R : Type 0} (w : Words R) {I : Type 0} (source : SourceShows I) (at : I) (sizes : Numbers) (first later : List Shown) (same : SameSlots first later) (put : Option (List ℕ)) (sink : ℕ) (waiting : List ℕ) where
  idle : (over : End) → (AnswersAll (Ended over) → ⊥) → OutcomeSays w source at at sizes first later put put sink sink [] waiting (Ended over) → ServesTalk w source sizes first later at at waiting waiting put put sink sink (Ended over)
  idle over none says = record {
    requests = [];
    came = λ told taken was. came-none taken waiting was;
    are = tt;
    part = λ tells. takes_none put (output_of w Bytes no_files (talk_of w []));
    all = λ all tells. absurd (none all);
    says = says;
    slots = same;
  }

  pub memory-talk : ServesTalk w source sizes first later at at waiting waiting put put sink sink (Ended end.Memory)
  memory-talk = idle end.Memory (λ a. a) (record { unasked = refl; unwritten = refl; counts = record { sink_same = refl; library_same = refl } })

  pub unopened-talk : (fault : OpenFault) → NamesNeed sizes fault → ServesTalk w source sizes first later at at waiting waiting put put sink sink (Ended (open_end fault))
  unopened-talk fault names = idle (open_end fault) (unopened-all fault) (unopened-says w source at sizes first later put sink waiting fault names)
