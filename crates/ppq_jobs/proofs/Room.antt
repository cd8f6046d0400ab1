-- Where the device has room for the events of a run, they do not run out of blocks.
use Rattle.std.proofs.Common.{ℕ, ◌+◌, ◌<◌, false, List, take, Option}
use Rattle.ppq_event.specs.ppq_handler.Agenda.{Run}
use Rattle.ppq_event.specs.Going.{greatest}
use Rattle.ppq_engine.specs.ppq_load.ppq_budget.Sizes.{Numbers}
use Rattle.ppq_engine.specs.Refusal.{HasRoom, HasNoRoom}
use Rattle.ppq_engine.proofs.ppq_load.Refusals.{room-not_none, no_room-later}
use Rattle.ppq_jobs.specs.Asked.{load_of_run}
use Rattle.ppq_jobs.specs.Ending.{RanOut}
use Rattle.ppq_jobs.proofs.Runs.{greatest-take}

-- for the greatest number of events that wait at once
pub room-not_ran_out : (sizes : Numbers) (count : ℕ) (run : Run) (told told' : Option (List ℕ)) → 0 < sizes.block → HasRoom sizes false (load_of_run count run) → RanOut sizes count run told told' → ⊥
room-not_ran_out sizes count run told told' some room ran =
    room-not_none sizes false (load_of_run count run) room
    (no_room-later sizes false false (greatest count (take ran.turns run.waiting)) (load_of_run count run) some (λ h. h) (greatest-take count ran.turns run.waiting) ran.room)

-- for one event more with each that is handled
pub room-not_full : (sizes : Numbers) (count events : ℕ) → HasRoom sizes false (count + events) → HasNoRoom sizes false (count + events) → ⊥
room-not_full sizes count events room none = room-not_none sizes false (count + events) room none
