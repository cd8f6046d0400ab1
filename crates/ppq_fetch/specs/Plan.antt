-- What is to be done next, and which loaded records are safe.
use Rattle.std.specs.Prelude.{◌≡◌, ℕ, ◌+◌, ◌<◌, ◌≤◌, ◌^◌, List, [], ◌++◌, length, Option, None}
use Rattle.std.specs.declared.cmp.Ordering.{Ordering}
use Rattle.std.specs.List.{AllByRecursion as Each}
use Rattle.ppq_array.specs.ppq_record.Order.{Ascends}
use Rattle.ppq_array.specs.ppq_record.Runs.{all_of}
use Rattle.ppq_array.specs.ppq_outside.Shown.{Shown, AllTell}
use Rattle.ppq_array.specs.Run.{Run, items_of}
use Rattle.ppq_array.specs.External.{External, records_in}
use Rattle.ppq_array.specs.Holdings.{external_slots, external_buffers}
use Rattle.ppq_merge.specs.ppq_split.Cut.{AreWithin, total}
use Rattle.ppq_fetch.specs.Edges.{is_within, IsSafeEdge}
use Rattle.ppq_fetch.specs.Parts.{passed}
use Rattle.ppq_fetch.specs.Taking.{NoneBelow}
use Rattle.ppq_fetch.specs.Turns.{LoadsNext}
use Rattle.ppq_fetch.specs.Fetching.{loaded_lists, waiting_items, count_in}
use Rattle.ppq_fetch.specs.declared.edge.Edge.{Edge}
use Rattle.ppq_fetch.specs.declared.edge.Edge.TheVariants.{Whole}
use Rattle.ppq_fetch.specs.declared.turn.Turn.{Turn}
use Rattle.ppq_fetch.specs.declared.turn.Turn.TheVariants.{End, Load, Take}

-- The places say how many records of each run are on this side of the edge, where runs ascend, and they add up to the sum
pub record IsMarked {R : Type 0} (cmp : R → R → Ordering) (edge : Edge R) (lists : List (List R)) (places : List ℕ) (sum : ℕ) : Type 0 where
  pub within : AreWithin places lists
  pub counted : sum ≡ total places
  pub safe : Each (Ascends cmp) lists → places ≡ passed (is_within cmp edge) lists
  pub whole : edge ≡ Whole → sum ≡ length (all_of lists)

-- There is a place for each run, no block is lifted, and the numbers fit
pub record MayPlan {S R : Type 0} (internal : List (Run R)) (arrays : List (External S R)) (places : List ℕ) : Type 0 where
  pub each : length places ≡ length internal + length arrays
  pub none_lifted : Each (λ (a : External S R). a.lifted ≡ []) arrays
  pub few_records : count_in internal arrays < 2 ^ 64
  pub few_runs : length internal + length arrays < 2 ^ 32
  pub few_buffers : external_buffers arrays < 2 ^ 32

module _ {S R : Type 0} (cmp : R → R → Ordering) (record_of : List ℕ → R) (width : ℕ) (shown : S → Shown) where
  -- slots tell, and runs ascend
  pub record AllRise (runs : List (Run R)) (arrays : List (External S R)) : Type 0 where
    pub tell : AllTell (external_slots shown arrays)
    pub internal : Each (λ (run : Run R). Ascends cmp (items_of run)) runs
    pub external : Each (λ (a : External S R). Ascends cmp (records_in record_of width shown a)) arrays

  module _ (below : Option R) (internal : List (Run R)) (arrays : List (External S R)) where
    -- So many records may be taken, at most those in front of the places; where slots tell and runs ascend these are safe
    pub record TakesPart (places : List ℕ) (room n : ℕ) : Type 0 where
      pub some : 0 < n
      pub few : n ≤ room
      pub within : AreWithin places (loaded_lists internal arrays)
      pub count : n ≤ total places
      pub edge : Edge R
      pub marked : Each (Ascends cmp) (loaded_lists internal arrays) → places ≡ passed (is_within cmp edge) (loaded_lists internal arrays)
      pub safe : AllRise internal arrays → IsSafeEdge cmp edge below (waiting_items record_of width shown arrays)

    -- No record is within reach, where slots tell and runs ascend; and without a limit there is none
    pub record FindsNone : Type 0 where
      pub none : AllRise internal arrays → NoneBelow cmp below (all_of (loaded_lists internal arrays) ++ waiting_items record_of width shown arrays)
      pub all : below ≡ None → count_in internal arrays ≡ 0

    abbrev pub IsPlan : List ℕ → ℕ → ℕ → Turn → Type 0
    IsPlan places room ahead (Take n) = TakesPart places room n
    IsPlan places room ahead (Load at) = LoadsNext arrays ahead at
    IsPlan places room ahead End = FindsNone
