-- The extract buffer, and what a refill of it does to the sources.
use Rattle.std.specs.Prelude.{◌≡◌, ◌↔◌, ℕ, ◌+◌, ◌-◌, ◌<◌, ◌≤◌, List, length, sum_by, All, Contains, Option}
use Rattle.std.specs.declared.cmp.Ordering.{Ordering}
use Rattle.ppq_fetch.specs.ppq_outside.Shown.{Shown, AllTell}
use Rattle.ppq_fetch.specs.ppq_array.Run.{Run, items_of}
use Rattle.ppq_fetch.specs.ppq_array.External.{External, size_of}
use Rattle.ppq_fetch.specs.ppq_array.Kept.{Kept, AreQuiet}
use Rattle.ppq_fetch.specs.ppq_array.Holdings.{external_buffers}
use Rattle.ppq_fetch.specs.ppq_array.declared.runs.Runs.{Runs}
use Rattle.ppq_fetch.specs.ppq_array.Supply.{Stock}
use Rattle.ppq_fetch.specs.ppq_block.Block.{Block}
use Rattle.ppq_fetch.specs.Taking.{IsTaken, AllBelow}
use Rattle.ppq_fetch.specs.Fetching.{State, state, held_in, slots_in, count_in, blocks_in, source_items, SourcesTell, RunsRise, WentOn, StockWentOn, MoreReads}
use Rattle.ppq_extract.specs.declared.sources.Sources.{Sources}

-- What a contract sees of an extract buffer: the records that are left, in order, and how many there is room for
pub record Held (R : Type 0) : Type 0 where
  pub items : List R
  pub room : ℕ

abbrev pub held : {R : Type 0} → List R → ℕ → Held R
held items room = record { items = items; room = room }

-- The bench and the places serve for so many runs
pub record ServesFor {R : Type 0} (runs : ℕ) (sources : Sources R) : Type 0 where
  pub bench : runs ≤ length sources.bench.places
  pub places : runs ≤ length sources.places.items

-- The bench and the places serve for as many runs as before, and the bench for as many workers
pub record SourcesRest {R : Type 0} (old new : Sources R) : Type 0 where
  pub workers : new.bench.workers ≡ old.bench.workers
  pub bench : length new.bench.places ≡ length old.bench.places
  pub places : length new.places.items ≡ length old.places.items

module _ {S R : Type 0} where
  -- the runs of one owner as sources, with the idle buffers of its lanes and its supply
  abbrev pub sources_of : Runs S R → List (Block R) → Stock → State S R
  sources_of runs idle stock = state runs.internal.items runs.external.items idle stock

  -- the run is one of these, of which blocks may have been loaded since
  pub record ComesFrom (arrays : List (External S R)) (now : External S R) : Type 0 where
    pub before : External S R
    pub there : Contains arrays before
    pub went_on : WentOn before now

  module _ (cmp : R → R → Ordering) (record_of : List ℕ → R) (width : ℕ) (shown : S → Shown) where
    -- From old to new, out was taken of the sources, no call of a slot failed, and the runs that had no record left are gone; the order of the
    -- others is free. Where slots tell and runs ascend, these are the records that are smallest, all below the limit
    pub record Refilled (below : Option R) (old new : State S R) (out : List R) : Type 0 where
      pub kept : Kept old.stock new.stock (held_in shown old) (held_in shown new)
      pub quiet : AreQuiet (slots_in shown old) (slots_in shown new)
      pub all_tell : AllTell (slots_in shown old) ↔ AllTell (slots_in shown new)
      pub counted : length out + count_in new.internal new.external ≡ count_in old.internal old.external
      pub internal : length new.internal ≤ length old.internal
      -- no more records are in buffers
      pub in_memory : sum_by (λ run. length (items_of run)) new.internal ≤ sum_by (λ run. length (items_of run)) old.internal
      pub external : length new.external ≤ length old.external
      pub some_internal : All (λ (run : Run R). 0 < length (items_of run)) new.internal
      pub some_external : All (λ (a : External S R). 0 < size_of a) new.external
      -- as many buffers are idle and loaded
      pub buffers : length new.idle + external_buffers new.external ≡ length old.idle + external_buffers old.external
      pub stock : StockWentOn (blocks_in old.external - blocks_in new.external) old.stock new.stock
      pub transfers : MoreReads (blocks_in old.external - blocks_in new.external) (slots_in shown old) (slots_in shown new)
      pub came_from : All (ComesFrom old.external) new.external
      -- a weight of runs that no load raises has not risen, added up
      pub weights : (f : External S R → ℕ) → ((a b : External S R) → WentOn a b → f b ≤ f a) → sum_by f new.external ≤ sum_by f old.external
      pub tell : SourcesTell shown old → SourcesTell shown new
      pub rise : SourcesTell shown old → RunsRise record_of width shown cmp old → RunsRise record_of width shown cmp new
      pub taken : SourcesTell shown old → RunsRise record_of width shown cmp old → IsTaken cmp (source_items record_of width shown old) out (source_items record_of width shown new)
      pub under : SourcesTell shown old → RunsRise record_of width shown cmp old → AllBelow cmp below out
