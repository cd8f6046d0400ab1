-- Bodies whose lanes have more than two buffers.
use Rattle.std.specs.Prelude.{◌≡◌, ◌-◌, ◌^◌, ◌<◌, ◌≤◌, [], length, All, vec_capacity}
use Rattle.ppq_array.specs.Owner.{HasBlock}
use Rattle.ppq_spill.specs.declared.body.PassBody.{PassBody}

-- a body with no runs, for one run in blocks, and with idle buffers of two records each
pub record IsWideBody {S R : Type 0} (body : PassBody S R) : Type 0 where
  pub no_internal : body.runs.internal.items ≡ []
  pub no_external : body.runs.external.items ≡ []
  pub internal_room : 1 ≤ vec_capacity body.runs.internal
  pub external_room : 1 ≤ vec_capacity body.runs.external
  pub some_idle : 2 ≤ length body.lanes.idle
  pub few_idle : length body.lanes.idle < 2 ^ 32 - 1
  pub blocks : All (HasBlock 2) body.lanes.idle
  pub no_job : body.lanes.jobs.items ≡ []
  pub leaves : 1 ≤ length body.tree.items
