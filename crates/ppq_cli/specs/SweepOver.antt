-- What `sweep_over` says, of a file of edges whose length was found and that is swept over a device.
use Rattle.std.specs.Prelude.{◌≡◌, ◌⊎◌, ◌≤◌, false, ℕ, Some}
use Rattle.ppq_files.specs.Reading.{IsReadWithin}
use Rattle.ppq_words.specs.ppq_outside.Shown.{Shown}
use Rattle.ppq_words.specs.ppq_outside.Told.{RepliesOnly, Rose, TakesAll, TakesPart}
use Rattle.ppq_words.specs.ppq_outside.declared.library.Library.{Ghosts as LibraryShows}
use Rattle.ppq_words.specs.ppq_outside.declared.rack.Rack.{Ghosts as RackShows}
use Rattle.ppq_words.specs.ppq_outside.declared.sink.Sink.{Ghosts as SinkShows}
use Rattle.ppq_words.specs.ppq_budget.Sizes.{fixed_of}
use Rattle.ppq_words.specs.SweepReading.{SweepReading}
use Rattle.ppq_jobs.specs.ppq_engine.Refusal.{HasNoRoom}
use Rattle.ppq_jobs.specs.ppq_engine.declared.end.End.{End}
use Rattle.ppq_jobs.specs.ppq_engine.declared.end.End.TheVariants.{Done, WriteFault, NoFreeBlock, FileChanged, BadEdge}
use Rattle.ppq_jobs.specs.ppq_engine.declared.end.Ended.{Ended}
use Rattle.ppq_jobs.specs.ppq_sweep.Levels.{sweep_text}
use Rattle.ppq_jobs.specs.Edges.{edge_count, OfEdges, FindsBad, FindsNone}
use Rattle.ppq_jobs.specs.Ending.{HasShrunk}
use Rattle.ppq_cli.specs.declared.plan.Plan.{Plan}
use Rattle.ppq_cli.specs.Budget.{half_plan_for, refusal_by}
use Rattle.ppq_cli.specs.Device.{IsSurelyRun}
use Rattle.ppq_cli.specs.Outside.{OutsideKept}
use Rattle.ppq_cli.specs.RunWords.{IsTriedOrRefusal}
use Rattle.ppq_cli.specs.SweepWords.{sweep_device, sweep_blocks, sweep_sizes, wanted_by}

-- the budget of a plan is too small, and only then; or the file was tried; or memory was wanting; or, if the budget is large enough, a record of the
-- file is no edge
abbrev pub IsSweptOrRefusal : Plan → End → Type 0
IsSweptOrRefusal plan end = IsTriedOrRefusal (refusal_by plan) end ⊎ ((fixed_of plan.sizes ≤ plan.sizes.memory) × ((at : ℕ) × (end ≡ BadEdge at)))

-- What comes of a file of so many bytes, by what library, rack, sink and blocks show, before it and after it: what the sink took, when each end
-- comes, and what is said of the outside
pub record SweepsOver
    {L K O S : Type 0} (library : LibraryShows L) (rack : RackShows K S) (sink : SinkShows O) (shown : S → Shown) (r : SweepReading) (size : ℕ)
    (old_library new_library : L) (old_rack new_rack : K) (old_out new_out : O) (ended : Ended S) : Type 0 where
  pub done : ended.end ≡ Done → rack.tells old_rack → OfEdges (library.told old_library) (wanted_by r size) (λ edges. TakesAll (sink.told old_out) (sink.told new_out) (sweep_text edges r.nodes))
  pub part : rack.tells old_rack → OfEdges (library.told old_library) (wanted_by r size) (λ edges. TakesPart (sink.told old_out) (sink.told new_out) (sweep_text edges r.nodes))
  pub before : IsSurelyRun ended.end ⊎ (sink.told new_out ≡ sink.told old_out)
  pub full : ended.end ≡ NoFreeBlock → HasNoRoom (sweep_sizes r) false (edge_count (wanted_by r size))
  pub answer : IsSweptOrRefusal (half_plan_for 16 r.given) ended.end
  pub bad : (at : ℕ) → ended.end ≡ BadEdge at → FindsBad (library.told old_library) (library.replied new_library) (wanted_by r size) at
  pub good : (ended.end ≡ Done) ⊎ (ended.end ≡ WriteFault) → FindsNone (library.told old_library) (library.replied new_library) (wanted_by r size)
  pub changed : (line said got : ℕ) → ended.end ≡ FileChanged line said got → HasShrunk (library.told old_library) (library.replied new_library) r.edges size line said got
  pub asks : RepliesOnly (library.replied old_library) (library.replied new_library) (IsReadWithin r.edges size)
  pub outside : OutsideKept Rose library rack sink shown (Some r) sweep_device sweep_blocks old_library new_library old_rack new_rack old_out new_out ended
