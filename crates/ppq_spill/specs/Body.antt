-- What a body of runs and lanes holds.
use Rattle.std.specs.Prelude.{◌≡◌, ℕ, ◌+◌, ◌≤◌, List, [], ◌++◌, length, map, All, vec_capacity}
use Rattle.ppq_fetch.specs.ppq_outside.Shown.{Shown, AllTell}
use Rattle.ppq_fetch.specs.ppq_lane.declared.job.Job.{Job}
use Rattle.ppq_fetch.specs.ppq_array.declared.berth.DeviceBlock.{DeviceBlock}
use Rattle.ppq_fetch.specs.ppq_array.Supply.{Stock}
use Rattle.ppq_fetch.specs.ppq_array.Owner.{HasBlock}
use Rattle.ppq_fetch.specs.ppq_array.Kept.{Held}
use Rattle.ppq_fetch.specs.ppq_array.Holdings.{external_slots, external_buffers, internal_buffers}
use Rattle.ppq_spill.specs.declared.body.PassBody.{PassBody}

-- a body with no runs and two idle buffers of so many records, with room for so many runs in buffers and so many in blocks
pub record IsNewBody {S R : Type 0} (block internal external : ℕ) (body : PassBody S R) : Type 0 where
  pub no_internal : body.runs.internal.items ≡ []
  pub no_external : body.runs.external.items ≡ []
  pub internal_room : internal ≤ vec_capacity body.runs.internal
  pub external_room : external ≤ vec_capacity body.runs.external
  pub two : length body.lanes.idle ≡ 2
  pub blocks : All (HasBlock block) body.lanes.idle
  pub no_job : body.lanes.jobs.items ≡ []
  pub leaves : length body.tree.items ≡ internal + 1

module _ {S R : Type 0} (shown : S → Shown) where
  -- the slots of jobs
  abbrev pub job_slots : List (Job (DeviceBlock S R) R) → List Shown
  job_slots jobs = map (λ j. shown j.slot.slot) jobs

  -- all slots of a body, those of its runs and those of its jobs
  abbrev pub body_slots : PassBody S R → List Shown
  body_slots body = external_slots shown body.runs.external.items ++ job_slots body.lanes.jobs.items

  -- what a body holds beside its supply
  abbrev pub held_by : PassBody S R → Held
  held_by body =
      record {
        slots = body_slots body;
        buffers = internal_buffers body.runs.internal.items + external_buffers body.runs.external.items + (length body.lanes.idle + length body.lanes.jobs.items);
      }

  -- the slots of a body tell, and those that its supply has and gives
  abbrev pub TellsAll : PassBody S R → Stock → Stock → Type 0
  TellsAll body old new = AllTell (body_slots body ++ old.kept ++ new.drawn)
