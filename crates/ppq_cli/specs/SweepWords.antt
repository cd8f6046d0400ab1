-- The words of the contract of `sweep_words`: the graph that the arguments name, its lines, and what is said of it.
use Rattle.std.specs.Prelude.{◌≡◌, ◌⊎◌, ◌≤◌, ◌*◌, false, ℕ, zero, suc, List, [], length, Option, Some, None, IfSome, ⊤, String}
use Rattle.std.specs.declared.alloc.Global.{Global}
use Rattle.ppq_files.specs.Lengths.{IsRecordLength, IsAbsent, HasPartRecords}
use Rattle.ppq_files.specs.Reading.{IsOn}
use Rattle.ppq_words.specs.ppq_outside.Shown.{Shown}
use Rattle.ppq_words.specs.ppq_outside.Told.{Reply, OfLength, RepliesOnly}
use Rattle.ppq_words.specs.ppq_outside.declared.library.Library.{Ghosts as LibraryShows}
use Rattle.ppq_words.specs.ppq_outside.declared.rack.Rack.{Ghosts as RackShows}
use Rattle.ppq_words.specs.ppq_outside.declared.sink.Sink.{Ghosts as SinkShows}
use Rattle.ppq_words.specs.ppq_budget.Sizes.{Numbers, fixed_of}
use Rattle.ppq_words.specs.Reading.{texts_of, half_sizes_for}
use Rattle.ppq_words.specs.SweepReading.{SweepReading, sweep_reading_of, may_sweep}
use Rattle.ppq_jobs.specs.ppq_record.declared.pair.Pair.{Pair}
use Rattle.ppq_jobs.specs.ppq_record.Pair.{pair_of}
use Rattle.ppq_jobs.specs.ppq_sweep.Levels.{sweep_text}
use Rattle.ppq_jobs.specs.ppq_engine.ppq_load.Given.{records_of}
use Rattle.ppq_jobs.specs.ppq_engine.Refusal.{HasRoom, HasNoRoom}
use Rattle.ppq_jobs.specs.ppq_engine.Ends.{class_of, IsRefusal, NoFault, IsCompleted}
use Rattle.ppq_jobs.specs.ppq_engine.declared.end.End.{End}
use Rattle.ppq_jobs.specs.ppq_engine.declared.end.End.TheVariants.{Done, Usage, WriteFault, NoFreeBlock, BudgetTooSmall, Memory, FileChanged, NoDevice, NoScript, BadEdge}
use Rattle.ppq_jobs.specs.ppq_engine.declared.end.Ended.{Ended}
use Rattle.ppq_jobs.specs.Edges.{Wanted, edge_count, first_bad, FindsBad, FindsNone}
use Rattle.ppq_jobs.specs.Ending.{HasShrunk}
use Rattle.ppq_cli.specs.Budget.{half_plan_for, IsBelow}
use Rattle.ppq_cli.specs.Device.{IsSurelyRun, DeviceShape}
use Rattle.ppq_cli.specs.Load.{refusal_of_record_length, refusal_of_record_file}
use Rattle.ppq_cli.specs.Outside.{WritesText, IsHigher, OutsideKept, Unreadable}
use Rattle.ppq_cli.specs.Replies.{Files}
use Rattle.ppq_cli.specs.RunWords.{IsAnswer}

-- The graph that the words name.

-- what the words say, where they have a reading
abbrev pub sweep_reading : List (String Global) → Option SweepReading
sweep_reading words = sweep_reading_of (texts_of words)

-- the fact holds of what the words say, where they have a reading
abbrev pub OfSweep : List (String Global) → (SweepReading → Type 0) → Type 0
OfSweep words P = IfSome (sweep_reading words) P

-- the device that they name, and what is made of it: as many blocks for the one queue as for the other, each of the bytes of its records
abbrev pub sweep_device : SweepReading → List ℕ
sweep_device r = r.device

abbrev pub sweep_blocks : SweepReading → DeviceShape
sweep_blocks r = record { blocks = (half_plan_for 16 r.given).blocks; IsSize = λ bytes. bytes ≡ r.given.numbers.block * 16 }

-- the sizes of each of the two queues, whose records have 16 bytes
abbrev pub sweep_sizes : SweepReading → Numbers
sweep_sizes r = half_sizes_for 16 r.given

-- what they ask of a file of so many bytes
abbrev pub wanted_by : SweepReading → ℕ → Wanted
wanted_by r size = record { name = r.edges; bytes = size; nodes = r.nodes }

-- a fact about a sweep: about what the words say, how many bytes the file has, and its edges
abbrev pub AboutEdges : Type 1
AboutEdges = SweepReading → ℕ → List Pair → Type 0

-- the fact holds of the edges of the file that the words name, where the library tells and has it
abbrev pub OfGraph : {L : Type 0} → (L → Option Files) → L → List (String Global) → AboutEdges → Type 0
OfGraph told library words P = OfSweep words (λ r. IfSome (told library) (λ files. IfSome (files r.edges) (λ bytes. P r (length bytes) (records_of pair_of 16 bytes))))

-- the fact holds of the lines of all nodes, where blocks and library tell and the library has the file
abbrev pub OfLines : {L : Type 0} → Type 0 → (L → Option Files) → L → List (String Global) → (List ℕ → Type 0) → Type 0
OfLines tells told library words P = tells → OfGraph told library words (λ r size edges. P (sweep_text edges r.nodes))

-- When each outcome comes.

-- the answer that refuses a file of so many bytes: first that these are not whole records, or too many of them, then that the budget is too small
abbrev pub sweep_refusal_of_length : SweepReading → ℕ → Option End
sweep_refusal_of_length r size = refusal_of_record_length 16 (half_plan_for 16 r.given) (BadEdge 0) size

-- before both, that it is not there
abbrev pub sweep_refusal_of_file : SweepReading → Option (List ℕ) → Option End
sweep_refusal_of_file r file = refusal_of_record_file 16 (half_plan_for 16 r.given) (BadEdge 0) file

-- before all of them, that the words have no reading
abbrev pub sweep_refusal_of : Option SweepReading → Files → Option End
sweep_refusal_of None files = Some Usage
sweep_refusal_of (Some r) files = sweep_refusal_of_file r (files r.edges)

-- the refusal, where there is one, and only then; or it gave up; or, where there is none, a record of the file is no edge
abbrev pub IsSweepAnswer : Option End → End → Type 0
IsSweepAnswer refusal end = IsAnswer refusal end ⊎ ((refusal ≡ None) × ((at : ℕ) × (end ≡ BadEdge (suc at))))

-- the fact holds of a length that the library replied of the file, which is one of whole records
abbrev pub OfSize : (Reply → Type 0) → SweepReading → (ℕ → Type 0) → Type 0
OfSize replied r P = (size : ℕ) × (replied (OfLength r.edges (Some size)) × (IsRecordLength 16 size × P size))

-- the same, and the budget is no less than the fixed parts of both queues
abbrev pub OfTried : (Reply → Type 0) → SweepReading → (ℕ → Type 0) → Type 0
OfTried replied r P = (fixed_of (sweep_sizes r) ≤ (sweep_sizes r).memory) × OfSize replied r P

-- if the end refuses the file, that rests on what the library replied of it; it is no refusal of another kind
abbrev pub SweepEndIsRight : Option Files → (Reply → Type 0) → SweepReading → End → Type 0
SweepEndIsRight told replied r NoScript = IsAbsent replied r.edges
SweepEndIsRight told replied r (BadEdge zero) = HasPartRecords 16 replied r.edges
SweepEndIsRight told replied r (BadEdge (suc at)) = OfTried replied r (λ size. FindsBad told replied (wanted_by r size) (suc at))
SweepEndIsRight told replied r (BudgetTooSmall need) = IsBelow (half_plan_for 16 r.given) need × OfSize replied r (λ size. ⊤)
SweepEndIsRight told replied r (FileChanged line said got) = OfTried replied r (λ size. HasShrunk told replied r.edges size line said got)
SweepEndIsRight told replied r NoDevice = OfTried replied r (λ size. ⊤)
SweepEndIsRight told replied r end = ¬ IsRefusal (class_of end)

-- Completeness.

-- a file that is not refused, of edges alone, for which there is room, is done, or memory was wanting
abbrev pub SweepEndsWell : End → AboutEdges
SweepEndsWell end r size edges =
    sweep_refusal_of_length r size ≡ None → first_bad r.nodes edges ≡ None → HasRoom (sweep_sizes r) false (edge_count (wanted_by r size)) → (end ≡ Done) ⊎ (end ≡ Memory)

-- The budget is no less than the fixed parts of both queues, and whatever the library replied of the file, it is there, of whole records, all of
-- which are edges as far as reads gave them, and there is room for them
pub record HasRoomForEdges (told : Option Files) (replied : Reply → Type 0) (r : SweepReading) : Type 0 where
  pub budget : fixed_of (sweep_sizes r) ≤ (sweep_sizes r).memory
  pub there : ¬ IsAbsent replied r.edges
  pub each : (size : ℕ) → replied (OfLength r.edges (Some size)) → IsRecordLength 16 size × HasRoom (sweep_sizes r) false (edge_count (wanted_by r size))
  pub good : (size at : ℕ) → ¬ FindsBad told replied (wanted_by r size) at

-- The clauses of `sweep_words` under their names, for an outcome with its blocks: those that speak of the outside alone are in `WritesText`,
-- `OutsideKept` and `Unreadable`
pub record SweepsWords
    {L K O S : Type 0} (library : LibraryShows L) (rack : RackShows K S) (sink : SinkShows O) (shown : S → Shown) (words : List (String Global))
    (old_library new_library : L) (old_rack new_rack : K) (old_out new_out : O) (ended : Ended S) : Type 0 where
  -- after Done the sink took the lines of all nodes, after every other end a prefix of them, and nothing before a sweep, as where memory was wanting
  pub written : WritesText (OfLines (rack.tells old_rack) library.told old_library words) (sink.told old_out) (sink.told new_out) ended.end
  pub before : IsSurelyRun ended.end ⊎ (sink.told new_out ≡ sink.told old_out)
  -- no block was free for the edges
  pub full : ended.end ≡ NoFreeBlock → OfSweep words (λ r. OfTried (library.replied new_library) r (λ size. HasNoRoom (sweep_sizes r) false (edge_count (wanted_by r size))))
  -- the library was asked for nothing but the file, and not past its length
  pub reads : OfSweep words (λ r. RepliesOnly (library.replied old_library) (library.replied new_library) (IsOn (library.replied new_library) r.edges))
  pub outside : OutsideKept IsHigher library rack sink shown (sweep_reading words) sweep_device sweep_blocks old_library new_library old_rack new_rack old_out new_out ended
  pub unreadable : Unreadable (sweep_reading words) (may_sweep (texts_of words)) old_library new_library old_rack new_rack old_out new_out ended
  -- refusals, in their order where the library tells, and by its replies where it does not; a file of part records makes no block
  pub answer : IfSome (library.told old_library) (λ files. IsSweepAnswer (sweep_refusal_of (sweep_reading words) files) ended.end)
  pub refused : OfSweep words (λ r. SweepEndIsRight (library.told old_library) (library.replied new_library) r ended.end)
  pub unmade : ended.end ≡ BadEdge 0 → ended.blocks.items ≡ []
  -- all records are edges after Done, and where the sink failed
  pub good : (ended.end ≡ Done) ⊎ (ended.end ≡ WriteFault) → OfSweep words (λ r. OfTried (library.replied new_library) r (λ size. FindsNone (library.told old_library) (library.replied new_library) (wanted_by r size)))
  -- completeness, where the library tells, and for every library
  pub complete : NoFault ended.end → OfGraph library.told old_library words (SweepEndsWell ended.end)
  pub complete_any : NoFault ended.end → OfSweep words (λ r. HasRoomForEdges (library.told old_library) (library.replied new_library) r → IsCompleted (library.told old_library) ended.end)
