-- What `sim_over` says, of an agenda whose length was found and that is simulated over a device.
use Rattle.std.specs.Prelude.{◌≡◌, ◌⊎◌, false, ℕ, List, Some}
use Rattle.ppq_files.specs.Reading.{IsReadWithin}
use Rattle.ppq_words.specs.ppq_outside.Shown.{Shown}
use Rattle.ppq_words.specs.ppq_outside.Told.{RepliesOnly, Rose, TakesAll, TakesPart}
use Rattle.ppq_words.specs.ppq_outside.declared.library.Library.{Ghosts as LibraryShows}
use Rattle.ppq_words.specs.ppq_outside.declared.rack.Rack.{Ghosts as RackShows}
use Rattle.ppq_words.specs.ppq_outside.declared.sink.Sink.{Ghosts as SinkShows}
use Rattle.ppq_words.specs.SimReading.{SimReading}
use Rattle.ppq_jobs.specs.ppq_engine.Refusal.{HasNoRoom}
use Rattle.ppq_jobs.specs.ppq_engine.declared.end.End.TheVariants.{Done, NoFreeBlock, FileChanged}
use Rattle.ppq_jobs.specs.ppq_engine.declared.end.Ended.{Ended}
use Rattle.ppq_jobs.specs.ppq_handler.Roster.{Place}
use Rattle.ppq_jobs.specs.ppq_handler.Agenda.{journal}
use Rattle.ppq_jobs.specs.Asked.{count_of, load_of_run, OfRun}
use Rattle.ppq_jobs.specs.Ending.{RanOut, HasShrunk}
use Rattle.ppq_cli.specs.Budget.{refusal_for}
use Rattle.ppq_cli.specs.Device.{IsSurelyRun}
use Rattle.ppq_cli.specs.Outside.{OutsideKept}
use Rattle.ppq_cli.specs.RunWords.{IsTriedOrRefusal}
use Rattle.ppq_cli.specs.SimWords.{sim_device, sim_blocks, sim_sizes, asked_by, HasNoRoomForAll}

-- What comes of an agenda of so many bytes, by what library, rack, sink and blocks show, before it and after it: what the sink took, when each end
-- comes, and what is said of the outside
pub record SimsOver
    {L K O S : Type 0} (library : LibraryShows L) (rack : RackShows K S) (sink : SinkShows O) (shown : S → Shown) (r : SimReading) (size : ℕ) (places : List Place)
    (old_library new_library : L) (old_rack new_rack : K) (old_out new_out : O) (ended : Ended S) : Type 0 where
  pub done : ended.end ≡ Done → rack.tells old_rack → OfRun (library.told old_library) (asked_by r size) places (λ run. TakesAll (sink.told old_out) (sink.told new_out) (journal run))
  pub part : rack.tells old_rack → OfRun (library.told old_library) (asked_by r size) places (λ run. TakesPart (sink.told old_out) (sink.told new_out) (journal run))
  pub before : IsSurelyRun ended.end ⊎ (sink.told new_out ≡ sink.told old_out)
  pub full : ended.end ≡ NoFreeBlock → rack.tells old_rack → OfRun (library.told old_library) (asked_by r size) places (λ run. RanOut (sim_sizes r) (count_of (asked_by r size)) run (sink.told old_out) (sink.told new_out))
  pub above : ended.end ≡ NoFreeBlock → rack.tells old_rack → OfRun (library.told old_library) (asked_by r size) places (λ run. HasNoRoom (sim_sizes r) false (load_of_run (count_of (asked_by r size)) run))
  pub full_any : ended.end ≡ NoFreeBlock → HasNoRoomForAll r size
  pub answer : IsTriedOrRefusal (refusal_for 24 r.given) ended.end
  pub changed : (line said got : ℕ) → ended.end ≡ FileChanged line said got → HasShrunk (library.told old_library) (library.replied new_library) r.agenda size line said got
  pub asks : RepliesOnly (library.replied old_library) (library.replied new_library) (IsReadWithin r.agenda size)
  pub outside : OutsideKept Rose library rack sink shown (Some r) sim_device sim_blocks old_library new_library old_rack new_rack old_out new_out ended
