-- How what is said of the words of a sweep follows from what its parts say: from the length of the file of edges, and from the sweep over it.
use Rattle.std.proofs.Common.{◌≡◌, ◌∙◌, inl, inr, ℕ, zero, suc, ◌<◌, ◌≤◌, ◌^◌, List, [], ◌∷◌, length, Option, Some, None, refl, sym, ap, subst, arith}
use Rattle.std.specs.Prelude.{◌⊎◌, Bool, true, false, if◌then◌else◌, IfSome, String}
use Rattle.std.specs.declared.alloc.Global.{Global}
use Rattle.std.proofs.lemmas.Bool.{le-ltb}
use Rattle.ppq_files.specs.declared.length.LengthFault.{LengthFault}
use Rattle.ppq_files.specs.declared.length.LengthFault.TheVariants as lengths
use Rattle.ppq_files.specs.Lengths.{IsRecordLength, LengthRefusalIsRight, LengthFaultAfter}
use Rattle.ppq_files.specs.Reading.{HasLength, IsOn, LibraryKeeps}
use Rattle.ppq_files.proofs.Asked.{piece_asked}
use Rattle.ppq_files.proofs.Truth.{AreTrue}
use Rattle.ppq_words.specs.ppq_outside.Shown.{Shown}
use Rattle.ppq_words.specs.ppq_outside.Told.{Reply, OfLength, Remembers, RepliesOnly, Rose, TakesAll, TakesPart, bytes_or_none}
use Rattle.ppq_words.specs.ppq_outside.declared.library.Library.{Ghosts as LibraryShows}
use Rattle.ppq_words.specs.ppq_outside.declared.rack.Rack.{Ghosts as RackShows}
use Rattle.ppq_words.specs.ppq_outside.declared.sink.Sink.{Ghosts as SinkShows}
use Rattle.ppq_words.proofs.ppq_outside.Replies.{no_replies}
use Rattle.ppq_words.specs.ppq_budget.Sizes.{fixed_of}
use Rattle.ppq_words.specs.Reading.{texts_of}
use Rattle.ppq_words.specs.SweepReading.{SweepReading, may_sweep}
use Rattle.ppq_jobs.specs.ppq_record.declared.pair.Pair.{Pair}
use Rattle.ppq_jobs.specs.ppq_record.Pair.{pair_of}
use Rattle.ppq_jobs.specs.ppq_sweep.Levels.{sweep_text}
use Rattle.ppq_jobs.specs.ppq_engine.ppq_load.Given.{records_of}
use Rattle.ppq_jobs.specs.ppq_engine.Refusal.{HasNoRoom}
use Rattle.ppq_jobs.specs.ppq_engine.Ends.{BeganCommands, NoFault, IsCompleted}
use Rattle.ppq_jobs.specs.ppq_engine.declared.end.End.{End}
use Rattle.ppq_jobs.specs.ppq_engine.declared.end.End.TheVariants.{Done, BadLine, Usage, ReadFault, WriteFault, DeviceFault, NoFreeBlock, BudgetTooSmall, Memory, FileChanged, NoDevice, NoScript, ScriptTooLong, BadAgenda, BadEdge}
use Rattle.ppq_jobs.specs.ppq_engine.declared.end.Ended.{Ended}
use Rattle.ppq_jobs.proofs.ppq_engine.Running.{takes_none}
use Rattle.ppq_jobs.proofs.ppq_engine.ppq_load.Refusals.{room-not_none}
use Rattle.ppq_jobs.specs.Edges.{Wanted, edge_count, is_edge, first_bad_from, first_bad, OfEdges, FindsBad, FindsNone}
use Rattle.ppq_jobs.specs.Ending.{HasShrunk}
use Rattle.ppq_cli.specs.declared.plan.Plan.{Plan}
use Rattle.ppq_cli.specs.Budget.{half_plan_for, refusal_by}
use Rattle.ppq_cli.specs.Device.{IsSurelyRun, HasAllBlocks}
use Rattle.ppq_cli.specs.Load.{length_end}
use Rattle.ppq_cli.specs.Outside.{IsHigher, Faults, Unreadable}
use Rattle.ppq_cli.specs.Replies.{Files}
use Rattle.ppq_cli.specs.RunWords.{IsAnswer}
use Rattle.ppq_cli.specs.SweepOver.{IsSweptOrRefusal, SweepsOver}
use Rattle.ppq_cli.specs.SweepWords.{sweep_reading, OfSweep, sweep_device, sweep_blocks, sweep_sizes, wanted_by, sweep_refusal_of_file, sweep_refusal_of, IsSweepAnswer, OfSize, OfTried, SweepEndIsRight, SweepEndsWell, HasRoomForEdges, SweepsWords}
use Rattle.ppq_cli.proofs.Ends.{ways, enough, completed, surely_all}
use Rattle.ppq_cli.proofs.FileLengths.{record_length, may_write, tried_read, answer_of, unfound_answer, found_refusal, unfound_faults, unfound_unrun, unfound_read}
use Rattle.ppq_cli.proofs.Outside.{same_faults, higher_faults, blockless_outside, later_outside, named_outside}
use Rattle.ppq_cli.proofs.Transfers.{of_any}

-- what holds of the edges of a file holds of those of the graph that is named
of_edges : (told : Option Files) (r : SweepReading) (size : ℕ) (P : List Pair → Type 0) → OfEdges told (wanted_by r size) P → IfSome told (λ files. IfSome (files r.edges) (λ bytes. P (records_of pair_of 16 bytes)))
of_edges None r size P edges = tt
of_edges (Some files) r size P edges = by_file (files r.edges) (edges files refl) where
  by_file : (file : Option (List ℕ)) → P (records_of pair_of 16 (bytes_or_none file)) → IfSome file (λ bytes. P (records_of pair_of 16 bytes))
  by_file None holds = tt
  by_file (Some bytes) holds = holds

-- what holds of a length that is known holds of that of the file
of_length : (told : Option Files) (r : SweepReading) (size : ℕ) (P : ℕ → Type 0) → HasLength told r.edges size → P size → IfSome told (λ files. IfSome (files r.edges) (λ bytes. P (length bytes)))
of_length None r size P long holds = tt
of_length (Some files) r size P long holds = by_file (files r.edges) (long files refl) where
  by_file : (file : Option (List ℕ)) → length (bytes_or_none file) ≡ size → IfSome file (λ bytes. P (length bytes))
  by_file None is = tt
  by_file (Some bytes) is = subst P (sym is) holds

-- records are counted from the first one on
counted_by : (good : Bool) (from at : ℕ) (rest : Option ℕ) → (rest ≡ Some at → suc from ≤ at) → (if good then rest else Some from) ≡ Some at → from ≤ at
counted_by true from at rest later is = omega (arith, later is)
counted_by false from at rest later is = let same : from ≡ at = cc in omega (arith, same)

counted : (nodes from at : ℕ) (records : List Pair) → first_bad_from nodes from records ≡ Some at → from ≤ at
counted nodes from at [] is = cc
counted nodes from at (r ∷ rs) is = counted_by (is_edge nodes r) from at (first_bad_from nodes (suc from) rs) (counted nodes (suc from) at rs) is

-- so the number of a record that is no edge is not 0
bad_counted : (told : Option Files) (replied : Reply → Type 0) (wanted : Wanted) (at : ℕ) → FindsBad told replied wanted at → 1 ≤ at
bad_counted told replied wanted at finds = counted wanted.nodes 1 at (records_of pair_of 16 finds.bytes) finds.bad

-- Completeness.

-- where a file had changed, the library does not tell
untold : (told : Option Files) (replied : Reply → Type 0) (r : SweepReading) (end : End) → SweepEndIsRight told replied r end → (line said got : ℕ) → end ≡ FileChanged line said got → told ≡ None
untold told replied r end right line said got is =
    let P : End → Type 0 = λ e. SweepEndIsRight told replied r e in
    let shrunk : P (FileChanged line said got) = subst P is right in
    shrunk.1.1.1.1.early.untold

-- where a record is no edge, one of the file is none
unlike_edges :
    (files : Files) (replied : Reply → Type 0) (r : SweepReading) (end : End) (bytes : List ℕ) (at : ℕ) → files r.edges ≡ Some bytes → SweepEndIsRight (Some files) replied r end → end ≡ BadEdge (suc at)
    → first_bad r.nodes (records_of pair_of 16 bytes) ≡ None → ⊥
unlike_edges files replied r end bytes at named right is good =
    let P : End → Type 0 = λ e. SweepEndIsRight (Some files) replied r e in
    let found : P (BadEdge (suc at)) = subst P is right in
    let Q : Option (List ℕ) → Type 0 = λ file. first_bad r.nodes (records_of pair_of 16 (bytes_or_none file)) ≡ Some (suc at) in
    let bad : first_bad r.nodes (records_of pair_of 16 bytes) ≡ Some (suc at) = subst Q named (found.1.1.1.1.told_bad files refl) in
    let no : None ≡ Some (suc at) = sym good ∙ bad in
    cc

-- a file that was swept, and that is not refused, is done if all its records are edges and there is room for them, or memory was wanting
file_completes :
    (files : Files) (replied : Reply → Type 0) (file : Option (List ℕ)) (r : SweepReading) (end : End) → files r.edges ≡ file
    → IsSweepAnswer (sweep_refusal_of_file r file) end → SweepEndIsRight (Some files) replied r end
    → (end ≡ NoFreeBlock → IfSome file (λ bytes. HasNoRoom (sweep_sizes r) false (edge_count (wanted_by r (length bytes))))) → NoFault end
    → IfSome file (λ bytes. SweepEndsWell end r (length bytes) (records_of pair_of 16 bytes))
file_completes files replied None r end named answer right above fault = tt
file_completes files replied (Some bytes) r end named answer right above fault = λ good edges room.
    let P : Option End → Type 0 = λ e. IsSweepAnswer e end in
    elim (subst P good answer) as (λ _. (end ≡ Done) ⊎ (end ≡ Memory)) [
      | inl answered ↦ completed files (sweep_sizes r) false (edge_count (wanted_by r (length bytes))) end answered (untold (Some files) replied r end right) above fault room
      | inr (none, (at, is)) ↦ absurd (unlike_edges files replied r end bytes at named right is edges)
    ]

completes :
    (o : Option SweepReading) (told : Option Files) (replied : Reply → Type 0) (end : End)
    → IfSome told (λ files. IsSweepAnswer (sweep_refusal_of o files) end) → IfSome o (λ r. SweepEndIsRight told replied r end)
    → (end ≡ NoFreeBlock → IfSome o (λ r. IfSome told (λ files. IfSome (files r.edges) (λ bytes. HasNoRoom (sweep_sizes r) false (edge_count (wanted_by r (length bytes))))))) → NoFault end
    → IfSome o (λ r. IfSome told (λ files. IfSome (files r.edges) (λ bytes. SweepEndsWell end r (length bytes) (records_of pair_of 16 bytes))))
completes None told replied end answer right above fault = tt
completes (Some r) None replied end answer right above fault = tt
completes (Some r) (Some files) replied end answer right above fault = file_completes files replied (files r.edges) r end refl answer right above fault

-- the device has too few blocks for the edges of a file of so many bytes
abbrev HasNoRoomForEdges : SweepReading → ℕ → Type 0
HasNoRoomForEdges r size = HasNoRoom (sweep_sizes r) false (edge_count (wanted_by r size))

-- by the library's replies alone
replies_complete :
    (told : Option Files) (replied : Reply → Type 0) (r : SweepReading) (end : End)
    → SweepEndIsRight told replied r end → (end ≡ NoFreeBlock → OfTried replied r (HasNoRoomForEdges r)) → NoFault end → HasRoomForEdges told replied r → IsCompleted told end
replies_complete told replied r Done right full fault any = tt
replies_complete told replied r (BadLine line) right full fault any = absurd (right tt)
replies_complete told replied r Usage right full fault any = absurd (right tt)
replies_complete told replied r ReadFault right full fault any = absurd fault
replies_complete told replied r WriteFault right full fault any = absurd fault
replies_complete told replied r (DeviceFault number) right full fault any = absurd fault
replies_complete told replied r NoFreeBlock right full fault any =
    let found = (full refl).1 in
    absurd (room-not_none (sweep_sizes r) false (edge_count (wanted_by r found.0)) (any.each found.0 found.1.0).1 found.1.1.1)
replies_complete told replied r (BudgetTooSmall need) right full fault any = absurd (omega (arith, right.0.0, any.budget))
replies_complete told replied r Memory right full fault any = tt
replies_complete told replied r (FileChanged line said got) right full fault any = right.1.1.1.1.early.untold
replies_complete told replied r NoDevice right full fault any = absurd fault
replies_complete told replied r NoScript right full fault any = absurd (any.there right)
replies_complete told replied r ScriptTooLong right full fault any = absurd (right tt)
replies_complete told replied r BadAgenda right full fault any = absurd (right tt)
replies_complete told replied r (BadEdge zero) right full fault any =
    let no : false ≡ true = sym right.1.1 ∙ record_length 16 right.0 (any.each right.0 right.1.0).0 in cc
replies_complete told replied r (BadEdge (suc at)) right full fault any = absurd (any.good right.1.0 (suc at) right.1.1.1.1)

completes_any :
    (o : Option SweepReading) (told : Option Files) (replied : Reply → Type 0) (end : End)
    → IfSome o (λ r. SweepEndIsRight told replied r end) → (end ≡ NoFreeBlock → IfSome o (λ r. OfTried replied r (HasNoRoomForEdges r))) → NoFault end
    → IfSome o (λ r. HasRoomForEdges told replied r → IsCompleted told end)
completes_any None told replied end right full fault = tt
completes_any (Some r) told replied end right full fault = replies_complete told replied r end right full fault

-- A file whose length was not found.

only_answers : (told : Option Files) (refusal : Files → Option End) (end : End) → IfSome told (λ files. IsAnswer (refusal files) end) → IfSome told (λ files. IsSweepAnswer (refusal files) end)
only_answers None refusal end answer = tt
only_answers (Some files) refusal end answer = inl answer

unfound_refused : (told : Option Files) (replied : Reply → Type 0) (r : SweepReading) (fault : LengthFault) → LengthRefusalIsRight 16 replied r.edges fault → SweepEndIsRight told replied r (length_end (BadEdge 0) fault)
unfound_refused told replied r lengths.Failed refused = λ other. other
unfound_refused told replied r lengths.Memory refused = λ other. other
unfound_refused told replied r lengths.Absent refused = refused
unfound_refused told replied r lengths.NoRecords refused = refused

-- A file whose length was found.

-- its end refuses the budget, the device, a file that had changed, a record that is no edge, or nothing
begun_right :
    (told : Option Files) (replied : Reply → Type 0) (r : SweepReading) (end : End) → BeganCommands end
    → ((line said got : ℕ) → end ≡ FileChanged line said got → SweepEndIsRight told replied r (FileChanged line said got)) → SweepEndIsRight told replied r end
begun_right told replied r Done began changed = λ refused. refused
begun_right told replied r ReadFault began changed = λ refused. refused
begun_right told replied r WriteFault began changed = λ refused. refused
begun_right told replied r (DeviceFault number) began changed = λ refused. refused
begun_right told replied r NoFreeBlock began changed = λ refused. refused
begun_right told replied r (FileChanged line said got) began changed = changed line said got refl
begun_right told replied r end began changed = absurd began

bad_right :
    (told : Option Files) (replied : Reply → Type 0) (r : SweepReading) (size at : ℕ) → replied (OfLength r.edges (Some size)) → IsRecordLength 16 size → fixed_of (sweep_sizes r) ≤ (sweep_sizes r).memory
    → FindsBad told replied (wanted_by r size) at → SweepEndIsRight told replied r (BadEdge at)
bad_right told replied r size zero had good enough finds = absurd (omega (arith, bad_counted told replied (wanted_by r size) 0 finds))
bad_right told replied r size (suc at) had good enough finds = (enough, (size, (had, (good, finds))))

found_right :
    (told : Option Files) (replied : Reply → Type 0) (r : SweepReading) (size : ℕ) (end : End) → replied (OfLength r.edges (Some size)) → IsRecordLength 16 size → IsSweptOrRefusal (half_plan_for 16 r.given) end
    → ((line said got : ℕ) → end ≡ FileChanged line said got → HasShrunk told replied r.edges size line said got) → ((at : ℕ) → end ≡ BadEdge at → FindsBad told replied (wanted_by r size) at)
    → SweepEndIsRight told replied r end
found_right told replied r size end had good (inl answer) changed bad =
    let P : End → Type 0 = λ e. SweepEndIsRight told replied r e in
    let found : OfSize replied r (λ n. Unit {0}) = (size, (had, (good, tt))) in
    elim (ways (half_plan_for 16 r.given) end answer) as (λ _. SweepEndIsRight told replied r end) [
      | inl (small, is) ↦ subst P (sym is) ((small, refl), found)
      | inr (inl (enough, inl began)) ↦ begun_right told replied r end began (λ line said got is. (enough, (size, (had, (good, changed line said got is)))))
      | inr (inl (enough, inr is)) ↦ subst P (sym is) (enough, found)
      | inr (inr is) ↦ subst P (sym is) (λ refused. refused)
    ]
found_right told replied r size end had good (inr (enough, (at, is))) changed bad =
    let P : End → Type 0 = λ e. SweepEndIsRight told replied r e in
    subst P (sym is) (bad_right told replied r size at had good enough (bad at is))

-- its answer is exact where the library tells
found_answer : (plan : Plan) (end : End) → IsSweptOrRefusal plan end → ((at : ℕ) → end ≡ BadEdge at → 1 ≤ at) → IsSweepAnswer (refusal_by plan) end
found_answer plan end (inl answer) some = inl (answer_of (refusal_by plan) end answer)
found_answer plan end (inr (enough, (zero, is))) some = absurd (omega (arith, some 0 is))
found_answer plan end (inr (enough, (suc at, is))) some =
    inr (ap (λ (b : Bool). if b then Some (BudgetTooSmall plan.need) else None) (le-ltb plan.sizes.memory (fixed_of plan.sizes) enough), (at, is))

-- a sweep that was begun has a budget that is large enough
swept_enough : (plan : Plan) (end : End) → BeganCommands end → IsSweptOrRefusal plan end → fixed_of plan.sizes ≤ plan.sizes.memory
swept_enough plan end began (inl answer) = enough plan end began answer
swept_enough plan end began (inr (large, bad)) = large

-- as where the sweep came to its end, or the sink failed
over_begun : (end : End) → (end ≡ Done) ⊎ (end ≡ WriteFault) → BeganCommands end
over_begun end (inl is) = subst BeganCommands (sym is) tt
over_begun end (inr is) = subst BeganCommands (sym is) tt

-- its arguments have a reading
swept_read : (plan : Plan) (end : End) → IsSweptOrRefusal plan end → end ≡ Usage → ⊥
swept_read plan end (inl answer) is = tried_read plan end answer is
swept_read plan end (inr (large, (at, bad))) is = let other : BadEdge at ≡ Usage = sym bad ∙ is in cc

-- The clauses of `sweep_words`.

module _
    {L K O S : Type 0} (library : LibraryShows L) (rack : RackShows K S) (sink : SinkShows O) (shown : S → Shown) (words : List (String Global)) where
  -- no sweep was begun: no block was made, and rack and sink were left alone
  pub unrun_sweeps :
      (old new : L) (held : K) (out : O) (ended : Ended S) → ended.blocks.items ≡ [] → (HasAllBlocks ended.end → ⊥)
      → library.told new ≡ library.told old → Remembers (library.replied old) (library.replied new)
      → Faults IsHigher (library.faults old) (library.faults new) (rack.faults held) (rack.faults held) (sink.faults out) (sink.faults out) ended.end
      → OfSweep words (λ r. RepliesOnly (library.replied old) (library.replied new) (IsOn (library.replied new) r.edges))
      → Unreadable (sweep_reading words) (may_sweep (texts_of words)) old new held held out out ended
      → IfSome (library.told old) (λ files. IsSweepAnswer (sweep_refusal_of (sweep_reading words) files) ended.end)
      → OfSweep words (λ r. SweepEndIsRight (library.told old) (library.replied new) r ended.end)
      → SweepsWords library rack sink shown words old new held held out out ended
  unrun_sweeps old new held out ended none unrun told kept faults reads unreadable answer right =
      let no : (end : End) → IsSurelyRun end → ended.end ≡ end → ⊥ = λ end run is. unrun (surely_all ended.end (subst IsSurelyRun (sym is) run)) in
      record {
        written = record {
          done = λ is. absurd (no Done tt is);
          part = λ tells. of_any (sweep_reading words) _ (λ r. of_any (library.told old) _ (λ files. of_any (files r.edges) _ (λ bytes. takes_none (sink.told out) _)));
          nothing = inr refl;
        };
        before = inr refl;
        full = λ is. absurd (no NoFreeBlock tt is);
        reads = reads;
        outside = blockless_outside library rack sink shown sweep_device sweep_blocks IsHigher (sweep_reading words) old new held out ended none unrun told kept faults;
        unreadable = unreadable;
        answer = answer;
        refused = right;
        unmade = λ is. none;
        good = λ either. absurd (elim either as (λ _. ⊥) [ inl is ↦ no Done tt is | inr is ↦ no WriteFault tt is ]);
        complete = λ fault. completes (sweep_reading words) (library.told old) (library.replied new) ended.end answer right (λ is. absurd (no NoFreeBlock tt is)) fault;
        complete_any = λ fault. completes_any (sweep_reading words) (library.told old) (library.replied new) ended.end right (λ is. absurd (no NoFreeBlock tt is)) fault;
      }

  -- memory was wanting for the words
  pub memory_sweeps :
      (held : L) (rack_held : K) (out : O) (ended : Ended S) → ended.end ≡ Memory → ended.blocks.items ≡ [] → (may_sweep (texts_of words) ≡ false → ⊥)
      → SweepsWords library rack sink shown words held held rack_held rack_held out out ended
  memory_sweeps held rack_held out ended is none parsed =
      let other : (end : End) → (Memory ≡ end → ⊥) → ended.end ≡ end → ⊥ = λ end differs e. differs (sym is ∙ e) in
      unrun_sweeps held held rack_held out ended none (λ all. subst HasAllBlocks is all) refl (λ reply had. had)
      (same_faults IsHigher (library.faults held) (rack.faults rack_held) (sink.faults out) ended.end (subst NoFault (sym is) tt))
      (of_any (sweep_reading words) _ (λ r. no_replies (library.replied held) _))
      (record {
        usage = λ usage. absurd (other Usage (λ e. cc) usage);
        no_reading = λ unread. inr is;
        early = λ unread stray. absurd (parsed stray);
        none = λ unread. none;
        unasked = λ unread. (refl, (refl, refl));
      })
      (of_any (library.told held) _ (λ files. inl (inr (inl is))))
      (of_any (sweep_reading words) _ (λ r. let P : End → Type 0 = λ e. SweepEndIsRight (library.told held) (library.replied held) r e in subst P (sym is) (λ refused. refused)))

  -- the words have no reading
  pub usage_sweeps :
      (held : L) (rack_held : K) (out : O) (ended : Ended S) → ended.end ≡ Usage → ended.blocks.items ≡ [] → sweep_reading words ≡ None
      → SweepsWords library rack sink shown words held held rack_held rack_held out out ended
  usage_sweeps held rack_held out ended is none unread =
      let nothing : (P : SweepReading → Type 0) → OfSweep words P = λ P. (let Q : Option SweepReading → Type 0 = λ o. IfSome o P in subst Q (sym unread) tt) in
      unrun_sweeps held held rack_held out ended none (λ all. subst HasAllBlocks is all) refl (λ reply had. had)
      (same_faults IsHigher (library.faults held) (rack.faults rack_held) (sink.faults out) ended.end (subst NoFault (sym is) tt))
      (nothing _)
      (record { usage = λ usage. unread; no_reading = λ no. inl is; early = λ no stray. is; none = λ no. none; unasked = λ no. (refl, (refl, refl)) })
      (of_any (library.told held) _ (λ files. let P : Option SweepReading → Type 0 = λ o. IsSweepAnswer (sweep_refusal_of o files) ended.end in subst P (sym unread) (inl (inl is))))
      (nothing _)

  -- the words have a reading
  module _ (r : SweepReading) (named : sweep_reading words ≡ Some r) (ended : Ended S) where
    of_words : (P : SweepReading → Type 0) → P r → OfSweep words P
    of_words P holds = let Q : Option SweepReading → Type 0 = λ o. IfSome o P in subst Q (sym named) holds

    readable : (old new : L) (old_rack new_rack : K) (old_out new_out : O) → (ended.end ≡ Usage → ⊥) → Unreadable (sweep_reading words) (may_sweep (texts_of words)) old new old_rack new_rack old_out new_out ended
    readable old new old_rack new_rack old_out new_out not_usage =
        let no : sweep_reading words ≡ None → ⊥ = λ is. let other : Some r ≡ None = sym named ∙ is in cc in
        record {
          usage = λ is. absurd (not_usage is);
          no_reading = λ is. absurd (no is);
          early = λ is. absurd (no is);
          none = λ is. absurd (no is);
          unasked = λ is. absurd (no is);
        }

    answered : (told : Option Files) → IfSome told (λ files. IsSweepAnswer (sweep_refusal_of_file r (files r.edges)) ended.end) → IfSome told (λ files. IsSweepAnswer (sweep_refusal_of (sweep_reading words) files) ended.end)
    answered told answer = let P : Option SweepReading → Type 0 = λ o. IfSome told (λ files. IsSweepAnswer (sweep_refusal_of o files) ended.end) in subst P (sym named) answer

    -- the length of the file was found, and it was swept
    pub found_sweeps :
        (old mid new : L) (old_rack new_rack : K) (old_out new_out : O) (size : ℕ) → AreTrue (library.told old) (library.replied mid) → library.replied mid (OfLength r.edges (Some size)) → IsRecordLength 16 size → HasLength (library.told old) r.edges size
        → LibraryKeeps library.told library.replied (IsOn (library.replied mid) r.edges) old mid → library.faults mid ≡ library.faults old
        → library.faults old < 2 ^ 63 → rack.faults old_rack < 2 ^ 63 → sink.faults old_out < 2 ^ 63
        → SweepsOver library rack sink shown r size mid new old_rack new_rack old_out new_out ended
        → SweepsWords library rack sink shown words old new old_rack new_rack old_out new_out ended
    found_sweeps old mid new old_rack new_rack old_out new_out size honest had good long kept same few_library few_rack few_sink e =
        let told = library.told old in
        let plan = half_plan_for 16 r.given in
        let had_now : library.replied new (OfLength r.edges (Some size)) = e.outside.remembers (OfLength r.edges (Some size)) had in
        let At : (P : Option Files → Type 0) → P (library.told mid) → P told = λ P holds. subst P kept.told holds in
        let lines : (P : List ℕ → Type 0) → OfEdges (library.told mid) (wanted_by r size) (λ found. P (sweep_text found r.nodes))
        → OfSweep words (λ s. IfSome told (λ files. IfSome (files s.edges) (λ bytes. P (sweep_text (records_of pair_of 16 bytes) s.nodes)))) =
        λ P holds. of_words _ (of_edges told r size (λ found. P (sweep_text found r.nodes)) (At (λ t. OfEdges t (wanted_by r size) (λ found. P (sweep_text found r.nodes))) holds)) in
        let shrunk : (line said got : ℕ) → ended.end ≡ FileChanged line said got → HasShrunk told (library.replied new) r.edges size line said got =
        λ line said got is. At (λ t. HasShrunk t (library.replied new) r.edges size line said got) (e.changed line said got is) in
        let bad : (at : ℕ) → ended.end ≡ BadEdge at → FindsBad told (library.replied new) (wanted_by r size) at = λ at is. At (λ t. FindsBad t (library.replied new) (wanted_by r size) at) (e.bad at is) in
        let some : (at : ℕ) → ended.end ≡ BadEdge at → 1 ≤ at = λ at is. bad_counted told (library.replied new) (wanted_by r size) at (bad at is) in
        let right : OfSweep words (λ r. SweepEndIsRight told (library.replied new) r ended.end) = of_words _ (found_right told (library.replied new) r size ended.end had_now good e.answer shrunk bad) in
        let exact : IfSome told (λ files. IsSweepAnswer (sweep_refusal_of (sweep_reading words) files) ended.end) =
        answered told (found_refusal 16 plan (BadEdge 0) told (library.replied mid) r.edges size (λ refusal. IsSweepAnswer refusal ended.end) honest had good (found_answer plan ended.end e.answer some)) in
        let full : ended.end ≡ NoFreeBlock → OfSweep words (λ r. OfTried (library.replied new) r (HasNoRoomForEdges r)) =
        λ is. of_words _ (swept_enough plan ended.end (subst BeganCommands (sym is) tt) e.answer, (size, (had_now, (good, e.full is)))) in
        let none : (ended.end ≡ Done) ⊎ (ended.end ≡ WriteFault) → OfSweep words (λ r. OfTried (library.replied new) r (λ size. FindsNone told (library.replied new) (wanted_by r size))) = λ over.
        of_words _ (swept_enough plan ended.end (over_begun ended.end over) e.answer, (size, (had_now, (good, At (λ t. FindsNone t (library.replied new) (wanted_by r size)) (e.good over))))) in
        record {
          written = record {
            done = λ is tells. lines (λ text. TakesAll (sink.told old_out) (sink.told new_out) text) (e.done is tells);
            part = λ tells. lines (λ text. TakesPart (sink.told old_out) (sink.told new_out) text) (e.part tells);
            nothing = may_write ended.end _ e.before;
          };
          before = e.before;
          full = full;
          reads = of_words _ (piece_asked (library.replied old) (library.replied mid) (library.replied new) r.edges size e.outside.remembers had kept.asks e.asks);
          outside =
              named_outside library rack sink shown sweep_device sweep_blocks (sweep_reading words) r old new old_rack new_rack old_out new_out ended named few_library few_rack few_sink
              (later_outside library rack sink shown sweep_device sweep_blocks Rose (Some r) old mid new old_rack new_rack old_out new_out ended kept.told kept.remembers same e.outside);
          unreadable = readable old new old_rack new_rack old_out new_out (swept_read plan ended.end e.answer);
          answer = exact;
          refused = right;
          unmade = λ is. absurd (omega (arith, some 0 is));
          good = none;
          complete = λ fault. completes (sweep_reading words) told (library.replied new) ended.end exact right (λ is. of_words _ (of_length told r size (HasNoRoomForEdges r) long (e.full is))) fault;
          complete_any = λ fault. completes_any (sweep_reading words) told (library.replied new) ended.end right full fault;
        }

    -- its length was not found
    pub unfound_sweeps :
        (old new : L) (held : K) (out : O) (fault : LengthFault) → AreTrue (library.told old) (library.replied new) → LengthRefusalIsRight 16 (library.replied new) r.edges fault
        → LibraryKeeps library.told library.replied (IsOn (library.replied new) r.edges) old new → library.faults old ≤ library.faults new → LengthFaultAfter (library.faults old) (library.faults new) fault
        → library.faults old < 2 ^ 63 → rack.faults held < 2 ^ 63 → sink.faults out < 2 ^ 63
        → ended.end ≡ length_end (BadEdge 0) fault → ended.blocks.items ≡ [] → SweepsWords library rack sink shown words old new held held out out ended
    unfound_sweeps old new held out fault honest refused kept later after few_library few_rack few_sink is none =
        let told = library.told old in
        let plan = half_plan_for 16 r.given in
        let not_usage : ended.end ≡ Usage → ⊥ = λ usage. unfound_read (BadEdge 0) fault (λ e. cc) (sym is ∙ usage) in
        let faults : Faults Rose (library.faults old) (library.faults new) (rack.faults held) (rack.faults held) (sink.faults out) (sink.faults out) (length_end (BadEdge 0) fault) =
        unfound_faults (BadEdge 0) (library.faults old) (library.faults new) (rack.faults held) (sink.faults out) fault tt later after in
        let At : (P : End → Type 0) → P (length_end (BadEdge 0) fault) → P ended.end = λ P holds. subst P (sym is) holds in
        let exact : IfSome told (λ files. IsSweepAnswer (sweep_refusal_of_file r (files r.edges)) (length_end (BadEdge 0) fault)) =
        only_answers told (λ files. sweep_refusal_of_file r (files r.edges)) (length_end (BadEdge 0) fault) (unfound_answer 16 plan (BadEdge 0) told (library.replied new) r.edges fault honest refused) in
        unrun_sweeps old new held out ended none (λ run. unfound_unrun (BadEdge 0) fault (λ other. other) (subst HasAllBlocks is run)) kept.told kept.remembers
        (higher_faults (library.faults old) (library.faults new) (rack.faults held) (rack.faults held) (sink.faults out) (sink.faults out) ended.end few_library few_rack few_sink
        (At (λ e. Faults Rose (library.faults old) (library.faults new) (rack.faults held) (rack.faults held) (sink.faults out) (sink.faults out) e) faults))
        (of_words _ kept.asks)
        (readable old new held held out out not_usage)
        (answered told (At (λ e. IfSome told (λ files. IsSweepAnswer (sweep_refusal_of_file r (files r.edges)) e)) exact))
        (of_words _ (At (λ e. SweepEndIsRight told (library.replied new) r e) (unfound_refused told (library.replied new) r fault refused)))
