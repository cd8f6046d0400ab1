-- What one turn of a taking does.
use Rattle.std.specs.Prelude.{ℕ, ◌+◌, ◌<◌, List, length, Option}
use Rattle.std.specs.declared.cmp.Ordering.{Ordering}
use Rattle.ppq_array.specs.ppq_outside.Shown.{Shown}
use Rattle.ppq_fetch.specs.Fetching.{State, MayFetch, AreSources, Fetched, FetchFailed, blocks_in}

-- A turn took so many records, or loaded a block and took none
pub record TookTurn {S R : Type 0} (cmp : R → R → Ordering) (record_of : List ℕ → R) (width : ℕ) (shown : S → Shown) (below : Option R) (ahead : ℕ) (old new : State S R) (out : List R) : Type 0 where
  pub fetched : Fetched cmp record_of width shown below old new out
  pub may : MayFetch shown width ahead new
  pub less : blocks_in new.external < blocks_in old.external + length out

-- A read of a turn failed
pub record LostTurn {S R : Type 0} (shown : S → Shown) (width ahead number : ℕ) (old new : State S R) : Type 0 where
  pub failed : FetchFailed shown number old new
  pub sources : AreSources shown width ahead new
