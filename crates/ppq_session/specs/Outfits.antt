-- What is allocated for a pass.
use Rattle.std.specs.Prelude.{◌≡◌, ℕ, ◌+◌, ◌/◌, ◌≤◌, Vec, List, [], length, All, vec_capacity}
use Rattle.std.specs.Global.{Global}
use Rattle.ppq_pass.specs.Passed.{PassHolding}
use Rattle.ppq_session.specs.declared.brought.Brought.{Brought}
use Rattle.ppq_pass.specs.ppq_budget.Sizes.{Numbers, pool_of}
use Rattle.ppq_session.specs.declared.outfit.Outfit.{Outfit}
use Rattle.ppq_session.specs.declared.stores.Stores.{Stores}

-- no runs, with room for so many in buffers and so many in blocks; no buffer, and room for the numbers of so many
pub record IsOutfit {S R : Type 0} (internal external buffers : ℕ) (outfit : Outfit S R) : Type 0 where
  pub no_internal : outfit.body.runs.internal.items ≡ []
  pub no_external : outfit.body.runs.external.items ≡ []
  pub internal_room : internal ≤ vec_capacity outfit.body.runs.internal
  pub external_room : external ≤ vec_capacity outfit.body.runs.external
  pub no_idle : outfit.body.lanes.idle ≡ []
  pub no_job : outfit.body.lanes.jobs.items ≡ []
  pub leaves : length outfit.body.tree.items ≡ internal + 1
  pub no_number : outfit.numbers.items ≡ []
  pub numbers_room : buffers ≤ vec_capacity outfit.numbers

-- an outfit for each worker, where so many buffers are shared, and empty lists with room for the passes and for what these bring
pub record ServeWorkers {S R : Type 0} (sizes : Numbers) (buffers : ℕ) (outfits : List (Outfit S R)) (passes : Vec (PassHolding S R) Global) (brought : Vec (Brought S R) Global) : Type 0 where
  pub outfits_are : length outfits ≡ sizes.workers
  pub each : All (IsOutfit (pool_of sizes / sizes.heap + 1) (sizes.blocks / sizes.heap + 1) buffers) outfits
  pub no_pass : passes.items ≡ []
  pub passes_room : sizes.workers ≤ vec_capacity passes
  pub none_brought : brought.items ≡ []
  pub brought_room : sizes.workers ≤ vec_capacity brought

-- all that, and empty lists with room for so many slots and buffers
pub record AreStores {S R : Type 0} (sizes : Numbers) (slots buffers : ℕ) (stores : Stores S R) : Type 0 where
  pub no_slot : stores.slots.items ≡ []
  pub slots_room : slots ≤ vec_capacity stores.slots
  pub no_buffer : stores.buffers.items ≡ []
  pub buffers_room : buffers ≤ vec_capacity stores.buffers
  pub serve : ServeWorkers sizes buffers stores.outfits.items stores.passes stores.brought
