-- What `run_over` says, of a script that was loaded and is run over a device; and `run_bytes`, of a script's bytes.
use Rattle.std.specs.Prelude.{◌≡◌, ◌⊎◌, ◌*◌, ℕ, List, map, Option, Some, IfSome, All}
use Rattle.ppq_words.specs.ppq_outside.Shown.{Shown}
use Rattle.ppq_words.specs.ppq_outside.Told.{Reply, Rose}
use Rattle.ppq_words.specs.ppq_outside.declared.library.Library.{Ghosts as LibraryShows}
use Rattle.ppq_words.specs.ppq_outside.declared.rack.Rack.{Ghosts as RackShows}
use Rattle.ppq_words.specs.ppq_outside.declared.sink.Sink.{Ghosts as SinkShows}
use Rattle.ppq_words.specs.ppq_script.Words.{Words}
use Rattle.ppq_words.specs.Reading.{Reading as Arguments, sizes_at}
use Rattle.ppq_words.specs.ppq_script.Reading.{Reading, command_list}
use Rattle.ppq_words.specs.ppq_budget.Sizes.{Numbers, AreInRange}
use Rattle.ppq_jobs.specs.ppq_engine.ppq_array.Supply.{IsSlot}
use Rattle.ppq_jobs.specs.ppq_engine.Running.{HasChanged}
use Rattle.ppq_jobs.specs.ppq_engine.Work.{TransfersFew}
use Rattle.ppq_jobs.specs.ppq_engine.declared.end.End.{End}
use Rattle.ppq_jobs.specs.ppq_engine.declared.end.End.TheVariants.{Done, NoFreeBlock, Memory, FileChanged}
use Rattle.ppq_jobs.specs.ppq_engine.declared.end.Ended.{Ended}
use Rattle.ppq_cli.specs.Outside.{OutsideKept, MayWrite}
use Rattle.ppq_cli.specs.Replies.{Files, HasRunWhole, HasRunPart, HasRunFull, RanToLoad, FaultToFile, WroteNothing, RunOf, RefusalOf, TransfersOf, AsksOf}
use Rattle.ppq_cli.specs.RunWords.{OfBytes, WritesPart, device_named, blocks_given, refusal_of_budget, refusal_of_bytes, IsAnswer, IsTriedOrRefusal}
use Rattle.ppq_cli.specs.Types.{RecordType}

-- what the sink took and the blocks were used for, by the end: all of the output, or a prefix of it, or nothing
pub record RunWrites {R : Type 0} (words : Words R) (tells : Type 0) (told : Option Files) (before now : Option (List ℕ)) (r : Arguments) (script : Reading R) (blocks : List Shown) (end : End) : Type 0 where
  pub done : end ≡ Done → HasRunWhole words r.form tells told (sizes_at words.WIDTH r) before now blocks script
  pub full : end ≡ NoFreeBlock → HasRunFull words r.form tells told (sizes_at words.WIDTH r) before now script
  pub part : HasRunPart words r.form tells told before now script
  pub memory : end ≡ Memory → RanToLoad words r.form tells told before now script
  pub file : FaultToFile words r.form tells told before now script end
  pub nothing : MayWrite end ⊎ (now ≡ before)

-- when each end comes
pub record RunEnds {R : Type 0} (words : Words R) (told : Option Files) (replied : Reply → Type 0) (r : Arguments) (script : Reading R) (end : End) : Type 0 where
  pub answer : IsTriedOrRefusal (refusal_of_budget words r) end
  pub changed : (line said got : ℕ) → end ≡ FileChanged line said got → HasChanged told replied script line said got

-- each of these sizes is in its range, few blocks were written and read for the work of the script, and each has the bytes of a block of its records
pub record RunTransfers {R : Type 0} (words : Words R) (sizes : Numbers) (script : Reading R) (blocks : List Shown) : Type 0 where
  pub range : AreInRange sizes
  pub few : TransfersFew words (command_list script) sizes blocks
  pub each : All (IsSlot (sizes.block * words.WIDTH)) blocks

-- What comes of a script of these bytes with records of this type, by what library, rack, sink and blocks show, before it and after it: what
-- the sink took, when each end comes, and what is said of the outside
pub record RunsBytes
    {L K O S : Type 0} (type : RecordType) (library : LibraryShows L) (rack : RackShows K S) (sink : SinkShows O) (shown : S → Shown) (r : Arguments) (bytes : List ℕ)
    (old_library new_library : L) (old_rack new_rack : K) (old_out new_out : O) (ended : Ended S) : Type 0 where
  pub ran :
      WroteNothing (sink.told old_out) (sink.told new_out) ended.end
      ⊎ RunOf type.words (rack.tells old_rack) (library.told old_library) (library.replied new_library) r bytes (sink.told old_out) (sink.told new_out) (map shown ended.blocks.items) ended.end
  pub part : rack.tells old_rack → OfBytes (library.told old_library) type r bytes (WritesPart sink.told old_out new_out)
  pub nothing : MayWrite ended.end ⊎ (sink.told new_out ≡ sink.told old_out)
  pub answer : IfSome (library.told old_library) (λ files. IsAnswer (refusal_of_bytes type.words files bytes r) ended.end)
  pub transfers : TransfersOf type.words (library.told old_library) (library.replied new_library) r bytes (map shown ended.blocks.items)
  pub refused : RefusalOf type.words (library.told old_library) (library.replied new_library) r bytes ended.end
  pub asks : AsksOf type.words (library.told old_library) (library.replied old_library) (library.replied new_library) r bytes ended.end
  pub outside : OutsideKept Rose library rack sink shown (Some r) device_named blocks_given old_library new_library old_rack new_rack old_out new_out ended
