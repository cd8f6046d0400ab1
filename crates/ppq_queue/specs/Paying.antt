-- What the steps of a queue cost.
use Rattle.std.specs.Prelude.{ℕ, ◌+◌, ◌*◌, length}
use Rattle.ppq_spill.specs.ppq_counts.Account.{Account, beside}
use Rattle.ppq_extract.specs.ppq_outside.Shown.{Shown}
use Rattle.ppq_extract.specs.ppq_budget.Sizes.{Numbers}
use Rattle.ppq_extract.specs.ppq_array.Supply.{Stock}
use Rattle.ppq_spill.specs.Costing.{body_account}
use Rattle.ppq_spill.specs.declared.body.PassBody.{PassBody}
use Rattle.ppq_heap.specs.Heaps.{Shares, items_of}
use Rattle.ppq_queue.specs.Resting.{slots_of}
use Rattle.ppq_queue.specs.declared.store.Store.{Store}

-- what stores of so many records cost that were not paid before, in so many runs
abbrev pub stores_cost : Numbers → ℕ → ℕ → ℕ
stores_cost sizes records runs = 56 * records + 8 * (sizes.block * runs)

module _ {S R : Type 0} (shown : S → Shown) where
  -- what was written and read, and what the runs may still cost
  abbrev pub runs_account : Numbers → PassBody S R → Stock → Account
  runs_account sizes body stock = body_account sizes.block (slots_of shown body stock) body

  -- with so many records in heaps
  abbrev pub whole_account : Numbers → ℕ → PassBody S R → Stock → Account
  whole_account sizes in_heaps body stock = beside in_heaps (runs_account sizes body stock)

  -- the account of a store
  abbrev pub store_account : Store S R → Account
  store_account store = runs_account store.sizes store.body store.supply

  -- with the records of these heaps
  abbrev pub heaps_account : Shares R → Store S R → Account
  heaps_account heaps store = whole_account store.sizes (length (items_of heaps)) store.body store.supply
