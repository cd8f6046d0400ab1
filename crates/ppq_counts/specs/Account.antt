-- What was written, and what the runs that are there may still cost.
use Rattle.std.specs.Prelude.{ℕ, ◌+◌, ◌*◌, ◌-◌, ◌^◌, ◌<◌, ◌≤◌, List, sum_by}
use Rattle.ppq_counts.specs.Tally.{Tally, last, IsCounting, runs_of, credit_of}

-- In sevenths of records: what was written, and what is owed, since records that are there may be written again and runs be merged. How heavy the
-- runs in blocks are, which bounds their levels. In blocks: how many were written, how many were read, and how many the runs have stored
pub record Account : Type 0 where
  pub written : ℕ
  pub owed : ℕ
  pub weight : ℕ
  pub writes : ℕ
  pub reads : ℕ
  pub stored : ℕ

-- what a run in blocks owes: each record may be written once more for each level that is above it, and its last block may be part full
abbrev pub toll : ℕ → ℕ → ℕ → ℕ
toll block level records = 7 * ((7 - level) * records) + block

-- how heavy a run of a level is: as heavy as 8 of the level below
unfoldable pub heft : ℕ → ℕ
heft level = 8 ^ level

-- runs that are lighter together have fewer than 8 of level 7, and none above
abbrev pub too_heavy : ℕ
too_heavy = 8 * heft 7

module _ {X : Type 0} (level size : X → ℕ) where
  -- what runs in blocks owe
  unfoldable pub tolls : ℕ → List X → ℕ
  tolls block runs = sum_by (λ x. toll block (level x) (size x)) runs

  -- how heavy they are
  unfoldable pub hefts : List X → ℕ
  hefts runs = sum_by (λ x. heft (level x)) runs

-- how many blocks runs have stored
module _ {X : Type 0} (blocks : X → ℕ) where
  unfoldable pub blocks_of : List X → ℕ
  blocks_of runs = sum_by blocks runs

-- the account of runs with so many writes and reads of blocks, and so many records in memory
module _ {X : Type 0} (level size blocks : X → ℕ) where
  abbrev pub account : ℕ → ℕ → ℕ → List X → ℕ → Account
  account block writes reads runs in_memory =
      record { written = 7 * (block * writes); owed = tolls level size block runs + 56 * in_memory; weight = hefts level size runs; writes = writes; reads = reads; stored = blocks_of blocks runs }

-- with so many records in memory more
abbrev pub beside : ℕ → Account → Account
beside records a = record a { owed = a.owed + 56 * records }

-- From old to new, it went up by no more than this cost, and by so many runs
pub record Rises (cost runs : ℕ) (old new : Account) : Type 0 where
  pub spent : new.written + new.owed ≤ old.written + old.owed + cost
  pub weight : new.weight ≤ old.weight + runs

-- The count of a slot stands still at 2^64 - 1. With half as many writes of all slots none does, even if a slot is counted twice
abbrev pub IsExact : Account → Type 0
IsExact a = a.writes < 2 ^ 63

-- A call costs no more than this, and makes no more runs in blocks than so many; unless they get too heavy. While no count stands still, each
-- block that is stored more was written, and each that was read is stored no more
pub record Costs (cost runs : ℕ) (old new : Account) : Type 0 where
  pub rises : old.weight + runs < too_heavy → Rises cost runs old new
  pub stay : old.writes ≤ new.writes
  pub read : new.writes < last → new.reads + new.stored + old.writes ≤ old.reads + old.stored + new.writes

-- A call that met a fault wrote no more than was owed and this; nothing is said of what is owed now. While no count stands still, it read no
-- more blocks than were stored
pub record Stops (cost runs : ℕ) (old new : Account) : Type 0 where
  pub written : old.weight + runs < too_heavy → new.written ≤ old.written + old.owed + cost
  pub stay : old.writes ≤ new.writes
  pub read : new.writes < last → new.reads + old.writes ≤ old.reads + old.stored + new.writes

-- the numbers pay for all that was written and is owed, and for as many runs
pub record IsPaid (workers block : ℕ) (t : Tally) (a : Account) : Type 0 where
  pub spent : a.written + a.owed ≤ credit_of workers block t
  pub weight : a.weight ≤ runs_of workers t

-- they pay for all that was written
abbrev pub IsCovered : ℕ → ℕ → Tally → Account → Type 0
IsCovered workers block t a = a.written ≤ credit_of workers block t

-- the same of a part whose slots were written before it had them, and which got records that were paid elsewhere
pub record IsPaidFrom (workers block base : ℕ) (t : Tally) (a : Account) : Type 0 where
  pub spent : a.written + a.owed ≤ base + credit_of workers block t
  pub weight : a.weight ≤ runs_of workers t

abbrev pub IsCoveredFrom : ℕ → ℕ → ℕ → Tally → Account → Type 0
IsCoveredFrom workers block base t a = a.written ≤ base + credit_of workers block t

-- What an owner of runs keeps from call to call. While none of its numbers stands still and they allow too few runs to get too heavy: all
-- that was written is paid for; and while it is sound, that is while no block failed, all that is owed is, too. While counts are exact: no more
-- blocks were read than written; and while it is sound, no more than were written and are not stored
pub record IsCounted (workers block : ℕ) (Sound : Type 0) (t : Tally) (a : Account) : Type 0 where
  pub paid : IsCounting t → runs_of workers t < too_heavy → Sound → IsPaid workers block t a
  pub covered : IsCounting t → runs_of workers t < too_heavy → IsCovered workers block t a
  pub unread : IsExact a → Sound → a.reads + a.stored ≤ a.writes
  pub read : IsExact a → a.reads ≤ a.writes

-- The same of parts that gave so many records of their heaps away, which they paid for
pub record IsCountedBeside (workers block begun : ℕ) (Sound : Type 0) (t : Tally) (a : Account) : Type 0 where
  pub paid : IsCounting t → runs_of workers t < too_heavy → Sound → IsPaid workers block t (beside begun a)
  pub covered : IsCounting t → runs_of workers t < too_heavy → a.written + 56 * begun ≤ credit_of workers block t
  pub unread : IsExact a → Sound → a.reads + a.stored ≤ a.writes
  pub read : IsExact a → a.reads ≤ a.writes

-- The same of a pass that got so many records, and whose slots were written and read so many times before it drew them
pub record IsCountedFrom (workers block begun writes reads : ℕ) (Sound : Type 0) (t : Tally) (a : Account) : Type 0 where
  pub paid : IsCounting t → runs_of workers t < too_heavy → Sound → IsPaidFrom workers block (7 * (block * writes) + 56 * begun) t a
  pub covered : IsCounting t → runs_of workers t < too_heavy → IsCoveredFrom workers block (7 * (block * writes) + 56 * begun) t a
  pub stay : writes ≤ a.writes
  pub unread : IsExact a → Sound → a.reads + a.stored + writes ≤ a.writes + reads
  pub read : IsExact a → a.reads + writes ≤ a.writes + reads
