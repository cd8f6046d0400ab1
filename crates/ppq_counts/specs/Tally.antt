-- The numbers that a queue keeps, and what they pay for.
use Rattle.std.specs.Prelude.{ℕ, ◌+◌, ◌*◌, ◌-◌, ◌^◌, ◌<◌, ◌≤◌, min}

-- how many records were accepted, how many stores of a full heap were begun, and how many sessions
pub record Tally : Type 0 where
  pub accepted : ℕ
  pub stores : ℕ
  pub sessions : ℕ

abbrev pub tally : ℕ → ℕ → ℕ → Tally
tally accepted stores sessions = record { accepted = accepted; stores = stores; sessions = sessions }

abbrev pub no_tally : Tally
no_tally = tally 0 0 0

-- a number at which each of the three stands still
abbrev pub last : ℕ
last = 2 ^ 64 - 1

abbrev pub accepting : ℕ → Tally → Tally
accepting records t = record t { accepted = min (t.accepted + records) last }

abbrev pub storing : Tally → Tally
storing t = record t { stores = min (t.stores + 1) last }

abbrev pub beginning : Tally → Tally
beginning t = record t { sessions = min (t.sessions + 1) last }

abbrev pub joined : Tally → Tally → Tally
joined t u = tally (min (t.accepted + u.accepted) last) (min (t.stores + u.stores) last) (min (t.sessions + u.sessions) last)

-- none of the numbers stands still
pub record IsCounting (t : Tally) : Type 0 where
  pub accepted : t.accepted < last
  pub stores : t.stores < last
  pub sessions : t.sessions < last

-- how many runs in blocks they allow: two for each store of a full heap, and for each session two and one for each worker
abbrev pub runs_of : ℕ → Tally → ℕ
runs_of workers t = 2 * t.stores + (workers + 2) * t.sessions

-- what they pay: for each record, for an extract buffer at each store of a full heap and each session, and for the last block of each run,
-- which may be part full
abbrev pub credit_of : ℕ → ℕ → Tally → ℕ
credit_of workers block t = 56 * (t.accepted + workers * block * (t.stores + t.sessions)) + 8 * (block * runs_of workers t)

-- so many records at most, in blocks of this size, are written where these are the numbers
abbrev pub bound_of : ℕ → ℕ → Tally → ℕ
bound_of workers block t = 8 * (t.accepted + workers * block * (t.stores + t.sessions)) + 2 * (block * runs_of workers t)

-- Stores of full heaps were begun with accepted records alone: with a heap of so many records, those of all such stores and those that are
-- in heaps now are no more than were accepted, and those that were there before
pub record IsBacked (heap before in_heaps : ℕ) (t : Tally) : Type 0 where
  pub within : heap * t.stores + in_heaps ≤ before + t.accepted
