-- How what is said of the words of a simulation follows from what its parts say: from the length of the agenda, and from its run.
use Rattle.std.proofs.Common.{◌≡◌, ◌∙◌, inl, inr, ℕ, ◌+◌, ◌<◌, ◌≤◌, ◌^◌, List, [], length, Option, Some, None, refl, sym, subst, arith}
use Rattle.std.specs.Prelude.{true, false, IfSome, String}
use Rattle.std.specs.declared.alloc.Global.{Global}
use Rattle.ppq_files.specs.declared.length.LengthFault.{LengthFault}
use Rattle.ppq_files.specs.declared.length.LengthFault.TheVariants as lengths
use Rattle.ppq_files.specs.Lengths.{IsRecordLength, LengthRefusalIsRight, LengthFaultAfter}
use Rattle.ppq_files.specs.Reading.{HasLength, IsOn, LibraryKeeps}
use Rattle.ppq_files.proofs.Asked.{piece_asked}
use Rattle.ppq_files.proofs.Truth.{AreTrue}
use Rattle.ppq_words.specs.ppq_outside.Shown.{Shown}
use Rattle.ppq_words.specs.ppq_outside.Told.{Reply, OfLength, Remembers, RepliesOnly, Rose, TakesAll, TakesPart, bytes_or_none}
use Rattle.ppq_words.specs.ppq_outside.declared.library.Library.{Ghosts as LibraryShows}
use Rattle.ppq_words.specs.ppq_outside.declared.rack.Rack.{Ghosts as RackShows}
use Rattle.ppq_words.specs.ppq_outside.declared.sink.Sink.{Ghosts as SinkShows}
use Rattle.ppq_words.proofs.ppq_outside.Replies.{no_replies}
use Rattle.ppq_words.specs.Reading.{texts_of}
use Rattle.ppq_words.specs.SimReading.{SimReading, may_sim}
use Rattle.ppq_jobs.specs.ppq_engine.Refusal.{HasNoRoom}
use Rattle.ppq_jobs.specs.ppq_engine.Ends.{BeganCommands, NoFault, IsCompleted}
use Rattle.ppq_jobs.specs.ppq_engine.declared.end.End.{End}
use Rattle.ppq_jobs.specs.ppq_engine.declared.end.End.TheVariants.{Done, BadLine, Usage, ReadFault, WriteFault, DeviceFault, NoFreeBlock, BudgetTooSmall, Memory, FileChanged, NoDevice, NoScript, ScriptTooLong, BadAgenda, BadEdge}
use Rattle.ppq_jobs.specs.ppq_engine.declared.end.Ended.{Ended}
use Rattle.ppq_jobs.proofs.ppq_engine.Running.{takes_none}
use Rattle.ppq_jobs.proofs.ppq_engine.ppq_load.Refusals.{room-not_none}
use Rattle.ppq_jobs.specs.ppq_handler.Roster.{Place}
use Rattle.ppq_jobs.specs.ppq_handler.Agenda.{journal}
use Rattle.ppq_jobs.specs.Asked.{count_of, run_of, load_of_run, OfRun}
use Rattle.ppq_jobs.specs.Ending.{HasShrunk}
use Rattle.ppq_cli.specs.Budget.{plan_for, refusal_by}
use Rattle.ppq_cli.specs.Device.{IsSurelyRun, HasAllBlocks}
use Rattle.ppq_cli.specs.Load.{length_end}
use Rattle.ppq_cli.specs.Outside.{IsHigher, Faults, Unreadable}
use Rattle.ppq_cli.specs.Replies.{Files}
use Rattle.ppq_cli.specs.RunWords.{IsAnswer, IsTriedOrRefusal}
use Rattle.ppq_cli.specs.SimOver.{SimsOver}
use Rattle.ppq_cli.specs.SimWords.{sim_reading, OfSim, sim_device, sim_blocks, sim_sizes, asked_by, AboutRun, OfEvents, OfAgenda, RunsOut, sim_refusal_of_file, sim_refusal_of, OfSize, OfTried, SimEndIsRight, HasNoRoomForAll, EndsWell, HasRoomForAny, SimsWords}
use Rattle.ppq_cli.proofs.Ends.{ways, enough, completed, surely_all}
use Rattle.ppq_cli.proofs.FileLengths.{record_length, may_write, tried_read, answer_of, unfound_answer, found_refusal, unfound_faults, unfound_unrun, unfound_read}
use Rattle.ppq_cli.proofs.Outside.{same_faults, higher_faults, blockless_outside, later_outside, named_outside}
use Rattle.ppq_cli.proofs.Transfers.{of_any}

-- what holds of a run holds of the agenda's, where its length is known
pub of_run : (told : Option Files) (r : SimReading) (size : ℕ) (places : List Place) (P : AboutRun) → HasLength told r.agenda size → OfRun told (asked_by r size) places (P r (asked_by r size)) → OfEvents told r places P
of_run None r size places P long run = tt
of_run (Some files) r size places P long run = by_file (files r.agenda) (long files refl) where
  by_file : (file : Option (List ℕ)) → length (bytes_or_none file) ≡ size → IfSome file (λ bytes. P r (asked_by r (length bytes)) (run_of files (asked_by r (length bytes)) places))
  by_file None is = tt
  by_file (Some bytes) is = let Q : ℕ → Type 0 = λ n. P r (asked_by r n) (run_of files (asked_by r n) places) in subst Q (sym is) (run files refl)

-- Completeness.

-- an agenda that was answered, and that is not refused, is done if there is room for its run, or memory was wanting
file_completes :
    (files : Files) (file : Option (List ℕ)) (r : SimReading) (places : List Place) (end : End)
    → IsAnswer (sim_refusal_of_file r file) end → ((line said got : ℕ) → end ≡ FileChanged line said got → Some files ≡ None)
    → (end ≡ NoFreeBlock → IfSome file (λ bytes. HasNoRoom (sim_sizes r) false (load_of_run (count_of (asked_by r (length bytes))) (run_of files (asked_by r (length bytes)) places)))) → NoFault end
    → IfSome file (λ bytes. EndsWell end r (asked_by r (length bytes)) (run_of files (asked_by r (length bytes)) places))
file_completes files None r places end answer changed above fault = tt
file_completes files (Some bytes) r places end answer changed above fault = λ good room.
    let P : Option End → Type 0 = λ e. IsAnswer e end in
    completed files (sim_sizes r) false (load_of_run (count_of (asked_by r (length bytes))) (run_of files (asked_by r (length bytes)) places)) end (subst P good answer) changed above fault room

-- where a file had changed, the library does not tell
untold : (told : Option Files) (replied : Reply → Type 0) (r : SimReading) (end : End) → SimEndIsRight told replied r end → (line said got : ℕ) → end ≡ FileChanged line said got → told ≡ None
untold told replied r end right line said got is =
    let P : End → Type 0 = λ e. SimEndIsRight told replied r e in
    let shrunk : P (FileChanged line said got) = subst P is right in
    shrunk.1.1.1.1.early.untold

-- the load of a run, which the device has no room for
abbrev IsLoadAbove : AboutRun
IsLoadAbove r asked run = HasNoRoom (sim_sizes r) false (load_of_run (count_of asked) run)

completes :
    (o : Option SimReading) (told : Option Files) (replied : Reply → Type 0) (places : List Place) (end : End)
    → IfSome told (λ files. IsAnswer (sim_refusal_of o files) end) → IfSome o (λ r. SimEndIsRight told replied r end) → (end ≡ NoFreeBlock → IfSome o (λ r. OfEvents told r places IsLoadAbove)) → NoFault end
    → IfSome o (λ r. OfEvents told r places (EndsWell end))
completes None told replied places end answer right above fault = tt
completes (Some r) None replied places end answer right above fault = tt
completes (Some r) (Some files) replied places end answer right above fault = file_completes files (files r.agenda) r places end answer (untold (Some files) replied r end right) above fault

-- by the library's replies alone
replies_complete :
    (told : Option Files) (replied : Reply → Type 0) (r : SimReading) (end : End)
    → SimEndIsRight told replied r end → (end ≡ NoFreeBlock → OfTried replied r (HasNoRoomForAll r)) → NoFault end → HasRoomForAny replied r → IsCompleted told end
replies_complete told replied r Done right full fault any = tt
replies_complete told replied r (BadLine line) right full fault any = absurd (right tt)
replies_complete told replied r Usage right full fault any = absurd (right tt)
replies_complete told replied r ReadFault right full fault any = absurd fault
replies_complete told replied r WriteFault right full fault any = absurd fault
replies_complete told replied r (DeviceFault number) right full fault any = absurd fault
replies_complete told replied r NoFreeBlock right full fault any =
    let found = (full refl).1 in
    absurd (room-not_none (sim_sizes r) false (count_of (asked_by r found.0) + r.events) (any.each found.0 found.1.0).1 found.1.1.1)
replies_complete told replied r (BudgetTooSmall need) right full fault any = absurd (omega (arith, right.0.0, any.budget))
replies_complete told replied r Memory right full fault any = tt
replies_complete told replied r (FileChanged line said got) right full fault any = right.1.1.1.1.early.untold
replies_complete told replied r NoDevice right full fault any = absurd fault
replies_complete told replied r NoScript right full fault any = absurd (any.there right)
replies_complete told replied r ScriptTooLong right full fault any = absurd (right tt)
replies_complete told replied r (BadEdge at) right full fault any = absurd right
replies_complete told replied r BadAgenda right full fault any =
    let no : false ≡ true = sym right.1.1 ∙ record_length 24 right.0 (any.each right.0 right.1.0).0 in cc

completes_any :
    (o : Option SimReading) (told : Option Files) (replied : Reply → Type 0) (end : End)
    → IfSome o (λ r. SimEndIsRight told replied r end) → (end ≡ NoFreeBlock → IfSome o (λ r. OfTried replied r (HasNoRoomForAll r))) → NoFault end → IfSome o (λ r. HasRoomForAny replied r → IsCompleted told end)
completes_any None told replied end right full fault = tt
completes_any (Some r) told replied end right full fault = replies_complete told replied r end right full fault

-- An agenda whose length was not found.

unfound_refused : (told : Option Files) (replied : Reply → Type 0) (r : SimReading) (fault : LengthFault) → LengthRefusalIsRight 24 replied r.agenda fault → SimEndIsRight told replied r (length_end BadAgenda fault)
unfound_refused told replied r lengths.Failed refused = λ other. other
unfound_refused told replied r lengths.Memory refused = λ other. other
unfound_refused told replied r lengths.Absent refused = refused
unfound_refused told replied r lengths.NoRecords refused = refused

-- An agenda whose length was found.

-- its end refuses the budget, the device, or a file that had changed, or nothing
begun_right :
    (told : Option Files) (replied : Reply → Type 0) (r : SimReading) (end : End) → BeganCommands end
    → ((line said got : ℕ) → end ≡ FileChanged line said got → SimEndIsRight told replied r (FileChanged line said got)) → SimEndIsRight told replied r end
begun_right told replied r Done began changed = λ refused. refused
begun_right told replied r ReadFault began changed = λ refused. refused
begun_right told replied r WriteFault began changed = λ refused. refused
begun_right told replied r (DeviceFault number) began changed = λ refused. refused
begun_right told replied r NoFreeBlock began changed = λ refused. refused
begun_right told replied r (FileChanged line said got) began changed = changed line said got refl
begun_right told replied r end began changed = absurd began

found_right :
    (told : Option Files) (replied : Reply → Type 0) (r : SimReading) (size : ℕ) (end : End) → replied (OfLength r.agenda (Some size)) → IsRecordLength 24 size → IsTriedOrRefusal (refusal_by (plan_for 24 r.given)) end
    → ((line said got : ℕ) → end ≡ FileChanged line said got → HasShrunk told replied r.agenda size line said got) → SimEndIsRight told replied r end
found_right told replied r size end had good answer changed =
    let P : End → Type 0 = λ e. SimEndIsRight told replied r e in
    let found : OfSize replied r (λ n. Unit {0}) = (size, (had, (good, tt))) in
    elim (ways (plan_for 24 r.given) end answer) as (λ _. SimEndIsRight told replied r end) [
      | inl (small, is) ↦ subst P (sym is) ((small, refl), found)
      | inr (inl (enough, inl began)) ↦ begun_right told replied r end began (λ line said got is. (enough, (size, (had, (good, changed line said got is)))))
      | inr (inl (enough, inr is)) ↦ subst P (sym is) (enough, found)
      | inr (inr is) ↦ subst P (sym is) (λ refused. refused)
    ]

-- The clauses of `sim_words`.

module _
    {L K O S : Type 0} (library : LibraryShows L) (rack : RackShows K S) (sink : SinkShows O) (shown : S → Shown) (words : List (String Global)) (places : List Place) where
  -- no run was begun: no block was made, and rack and sink were left alone
  pub unrun_sims :
      (old new : L) (held : K) (out : O) (ended : Ended S) → ended.blocks.items ≡ [] → (HasAllBlocks ended.end → ⊥)
      → library.told new ≡ library.told old → Remembers (library.replied old) (library.replied new)
      → Faults IsHigher (library.faults old) (library.faults new) (rack.faults held) (rack.faults held) (sink.faults out) (sink.faults out) ended.end
      → OfSim words (λ r. RepliesOnly (library.replied old) (library.replied new) (IsOn (library.replied new) r.agenda))
      → Unreadable (sim_reading words) (may_sim (texts_of words)) old new held held out out ended
      → IfSome (library.told old) (λ files. IsAnswer (sim_refusal_of (sim_reading words) files) ended.end)
      → OfSim words (λ r. SimEndIsRight (library.told old) (library.replied new) r ended.end)
      → SimsWords library rack sink shown words places old new held held out out ended
  unrun_sims old new held out ended none unrun told kept faults reads unreadable answer right =
      let no : (end : End) → IsSurelyRun end → ended.end ≡ end → ⊥ = λ end run is. unrun (surely_all ended.end (subst IsSurelyRun (sym is) run)) in
      record {
        written = record {
          done = λ is. absurd (no Done tt is);
          part = λ tells. of_any (sim_reading words) _ (λ r. of_any (library.told old) _ (λ files. of_any (files r.agenda) _ (λ bytes. takes_none (sink.told out) _)));
          nothing = inr refl;
        };
        before = inr refl;
        full = λ is. absurd (no NoFreeBlock tt is);
        full_any = λ is. absurd (no NoFreeBlock tt is);
        reads = reads;
        outside = blockless_outside library rack sink shown sim_device sim_blocks IsHigher (sim_reading words) old new held out ended none unrun told kept faults;
        unreadable = unreadable;
        answer = answer;
        refused = right;
        complete = λ tells fault. completes (sim_reading words) (library.told old) (library.replied new) places ended.end answer right (λ is. absurd (no NoFreeBlock tt is)) fault;
        complete_any = λ fault. completes_any (sim_reading words) (library.told old) (library.replied new) ended.end right (λ is. absurd (no NoFreeBlock tt is)) fault;
      }

  -- memory was wanting for the words
  pub memory_sims :
      (held : L) (rack_held : K) (out : O) (ended : Ended S) → ended.end ≡ Memory → ended.blocks.items ≡ [] → (may_sim (texts_of words) ≡ false → ⊥)
      → SimsWords library rack sink shown words places held held rack_held rack_held out out ended
  memory_sims held rack_held out ended is none parsed =
      let other : (end : End) → (Memory ≡ end → ⊥) → ended.end ≡ end → ⊥ = λ end differs e. differs (sym is ∙ e) in
      unrun_sims held held rack_held out ended none (λ all. subst HasAllBlocks is all) refl (λ reply had. had)
      (same_faults IsHigher (library.faults held) (rack.faults rack_held) (sink.faults out) ended.end (subst NoFault (sym is) tt))
      (of_any (sim_reading words) _ (λ r. no_replies (library.replied held) _))
      (record {
        usage = λ usage. absurd (other Usage (λ e. cc) usage);
        no_reading = λ unread. inr is;
        early = λ unread stray. absurd (parsed stray);
        none = λ unread. none;
        unasked = λ unread. (refl, (refl, refl));
      })
      (of_any (library.told held) _ (λ files. inr (inl is)))
      (of_any (sim_reading words) _ (λ r. let P : End → Type 0 = λ e. SimEndIsRight (library.told held) (library.replied held) r e in subst P (sym is) (λ refused. refused)))

  -- the words have no reading
  pub usage_sims :
      (held : L) (rack_held : K) (out : O) (ended : Ended S) → ended.end ≡ Usage → ended.blocks.items ≡ [] → sim_reading words ≡ None
      → SimsWords library rack sink shown words places held held rack_held rack_held out out ended
  usage_sims held rack_held out ended is none unread =
      let nothing : (P : SimReading → Type 0) → OfSim words P = λ P. (let Q : Option SimReading → Type 0 = λ o. IfSome o P in subst Q (sym unread) tt) in
      unrun_sims held held rack_held out ended none (λ all. subst HasAllBlocks is all) refl (λ reply had. had)
      (same_faults IsHigher (library.faults held) (rack.faults rack_held) (sink.faults out) ended.end (subst NoFault (sym is) tt))
      (nothing _)
      (record { usage = λ usage. unread; no_reading = λ no. inl is; early = λ no stray. is; none = λ no. none; unasked = λ no. (refl, (refl, refl)) })
      (of_any (library.told held) _ (λ files. let P : Option SimReading → Type 0 = λ o. IsAnswer (sim_refusal_of o files) ended.end in subst P (sym unread) (inl is)))
      (nothing _)

  -- the words have a reading
  module _ (r : SimReading) (named : sim_reading words ≡ Some r) (ended : Ended S) where
    of_words : (P : SimReading → Type 0) → P r → OfSim words P
    of_words P holds = let Q : Option SimReading → Type 0 = λ o. IfSome o P in subst Q (sym named) holds

    readable : (old new : L) (old_rack new_rack : K) (old_out new_out : O) → (ended.end ≡ Usage → ⊥) → Unreadable (sim_reading words) (may_sim (texts_of words)) old new old_rack new_rack old_out new_out ended
    readable old new old_rack new_rack old_out new_out not_usage =
        let no : sim_reading words ≡ None → ⊥ = λ is. let other : Some r ≡ None = sym named ∙ is in cc in
        record {
          usage = λ is. absurd (not_usage is);
          no_reading = λ is. absurd (no is);
          early = λ is. absurd (no is);
          none = λ is. absurd (no is);
          unasked = λ is. absurd (no is);
        }

    answered : (told : Option Files) → IfSome told (λ files. IsAnswer (sim_refusal_of_file r (files r.agenda)) ended.end) → IfSome told (λ files. IsAnswer (sim_refusal_of (sim_reading words) files) ended.end)
    answered told answer = let P : Option SimReading → Type 0 = λ o. IfSome told (λ files. IsAnswer (sim_refusal_of o files) ended.end) in subst P (sym named) answer

    -- the length of the agenda was found, and it was simulated
    pub found_sims :
        (old mid new : L) (old_rack new_rack : K) (old_out new_out : O) (size : ℕ) → AreTrue (library.told old) (library.replied mid) → library.replied mid (OfLength r.agenda (Some size)) → IsRecordLength 24 size → HasLength (library.told old) r.agenda size
        → LibraryKeeps library.told library.replied (IsOn (library.replied mid) r.agenda) old mid → library.faults mid ≡ library.faults old
        → library.faults old < 2 ^ 63 → rack.faults old_rack < 2 ^ 63 → sink.faults old_out < 2 ^ 63
        → SimsOver library rack sink shown r size places mid new old_rack new_rack old_out new_out ended
        → SimsWords library rack sink shown words places old new old_rack new_rack old_out new_out ended
    found_sims old mid new old_rack new_rack old_out new_out size honest had good long kept same few_library few_rack few_sink e =
        let told = library.told old in
        let had_now : library.replied new (OfLength r.agenda (Some size)) = e.outside.remembers (OfLength r.agenda (Some size)) had in
        let events : (P : AboutRun) → OfRun (library.told mid) (asked_by r size) places (P r (asked_by r size)) → OfAgenda library.told old words places P =
        λ P run. of_words _ (of_run told r size places P long (let Q : Option Files → Type 0 = λ t. OfRun t (asked_by r size) places (P r (asked_by r size)) in subst Q kept.told run)) in
        let shrunk : (line said got : ℕ) → ended.end ≡ FileChanged line said got → HasShrunk told (library.replied new) r.agenda size line said got =
        λ line said got is. (let Q : Option Files → Type 0 = λ t. HasShrunk t (library.replied new) r.agenda size line said got in subst Q kept.told (e.changed line said got is)) in
        let right : OfSim words (λ r. SimEndIsRight told (library.replied new) r ended.end) = of_words _ (found_right told (library.replied new) r size ended.end had_now good e.answer shrunk) in
        let exact : IfSome told (λ files. IsAnswer (sim_refusal_of (sim_reading words) files) ended.end) = answered told
        (found_refusal 24 (plan_for 24 r.given) BadAgenda told (library.replied mid) r.agenda size (λ refusal. IsAnswer refusal ended.end) honest had good (answer_of (refusal_by (plan_for 24 r.given)) ended.end e.answer)) in
        let full_any : ended.end ≡ NoFreeBlock → OfSim words (λ r. OfTried (library.replied new) r (HasNoRoomForAll r)) =
        λ is. of_words _ (enough (plan_for 24 r.given) ended.end (subst BeganCommands (sym is) tt) e.answer, (size, (had_now, (good, e.full_any is)))) in
        record {
          written = record {
            done = λ is tells. events (λ r asked run. TakesAll (sink.told old_out) (sink.told new_out) (journal run)) (e.done is tells);
            part = λ tells. events (λ r asked run. TakesPart (sink.told old_out) (sink.told new_out) (journal run)) (e.part tells);
            nothing = may_write ended.end _ e.before;
          };
          before = e.before;
          full = λ is tells. events (RunsOut sink.told old_out new_out) (e.full is tells);
          full_any = full_any;
          reads = of_words _ (piece_asked (library.replied old) (library.replied mid) (library.replied new) r.agenda size e.outside.remembers had kept.asks e.asks);
          outside =
              named_outside library rack sink shown sim_device sim_blocks (sim_reading words) r old new old_rack new_rack old_out new_out ended named few_library few_rack few_sink
              (later_outside library rack sink shown sim_device sim_blocks Rose (Some r) old mid new old_rack new_rack old_out new_out ended kept.told kept.remembers same e.outside);
          unreadable = readable old new old_rack new_rack old_out new_out (tried_read (plan_for 24 r.given) ended.end e.answer);
          answer = exact;
          refused = right;
          complete = λ tells fault. completes (sim_reading words) told (library.replied new) places ended.end exact right (λ is. events IsLoadAbove (e.above is tells)) fault;
          complete_any = λ fault. completes_any (sim_reading words) told (library.replied new) ended.end right full_any fault;
        }

    -- its length was not found
    pub unfound_sims :
        (old new : L) (held : K) (out : O) (fault : LengthFault) → AreTrue (library.told old) (library.replied new) → LengthRefusalIsRight 24 (library.replied new) r.agenda fault
        → LibraryKeeps library.told library.replied (IsOn (library.replied new) r.agenda) old new → library.faults old ≤ library.faults new → LengthFaultAfter (library.faults old) (library.faults new) fault
        → library.faults old < 2 ^ 63 → rack.faults held < 2 ^ 63 → sink.faults out < 2 ^ 63
        → ended.end ≡ length_end BadAgenda fault → ended.blocks.items ≡ [] → SimsWords library rack sink shown words places old new held held out out ended
    unfound_sims old new held out fault honest refused kept later after few_library few_rack few_sink is none =
        let told = library.told old in
        let not_usage : ended.end ≡ Usage → ⊥ = λ usage. unfound_read BadAgenda fault (λ e. cc) (sym is ∙ usage) in
        let faults : Faults Rose (library.faults old) (library.faults new) (rack.faults held) (rack.faults held) (sink.faults out) (sink.faults out) (length_end BadAgenda fault) =
        unfound_faults BadAgenda (library.faults old) (library.faults new) (rack.faults held) (sink.faults out) fault tt later after in
        let At : (P : End → Type 0) → P (length_end BadAgenda fault) → P ended.end = λ P holds. subst P (sym is) holds in
        unrun_sims old new held out ended none (λ run. unfound_unrun BadAgenda fault (λ other. other) (subst HasAllBlocks is run)) kept.told kept.remembers
        (higher_faults (library.faults old) (library.faults new) (rack.faults held) (rack.faults held) (sink.faults out) (sink.faults out) ended.end few_library few_rack few_sink
        (At (λ e. Faults Rose (library.faults old) (library.faults new) (rack.faults held) (rack.faults held) (sink.faults out) (sink.faults out) e) faults))
        (of_words _ kept.asks)
        (readable old new held held out out not_usage)
        (answered told (At (λ e. IfSome told (λ files. IsAnswer (sim_refusal_of_file r (files r.agenda)) e)) (unfound_answer 24 (plan_for 24 r.given) BadAgenda told (library.replied new) r.agenda fault honest refused)))
        (of_words _ (At (λ e. SimEndIsRight told (library.replied new) r e) (unfound_refused told (library.replied new) r fault refused)))
