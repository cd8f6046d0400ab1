-- Records that are dealt to passes.
use Rattle.std.specs.Prelude.{◌≡◌, ◌⊎◌, ◌<◌, ◌≤◌, ◌==◌, ◌+◌, ◌-◌, ◌^◌, ℕ, true, false, List, ◌++◌, length, take, get_or, map, All, Some, None}
use Rattle.std.specs.Fork.{slice_chunk}
use Rattle.std.specs.Int.{div_ceil}
use Rattle.std.specs.List.{Any, filter}
use Rattle.ppq_pass.specs.ppq_record.Bag.{IsSameBag}
use Rattle.ppq_pass.specs.ppq_outside.Shown.{Shown}
use Rattle.ppq_pass.specs.Passed.{PassHolding, PassTells, IsOf, IsBackedPass, IsBackedPassWithout}
use Rattle.ppq_pass.specs.declared.shared.Shared.{Shared}
use Rattle.ppq_session.specs.BulkSession.{keys_of, bag_of, accepted_of}
use Rattle.ppq_session.specs.declared.line.Line.{Line}

module _ {R : Type 0} where
  -- the records of lines
  abbrev pub records_in : List (Line R) → List R
  records_in lines = map (λ line. line.record) lines

  -- the records of the lines that name a pass
  abbrev pub records_for : ℕ → List (Line R) → List R
  records_for pass lines = records_in (filter (λ line. line.pass == pass) lines)

  -- the records for a pass where all are dealt to so many passes: equal parts in a row, rounded up, of which the last ones may be smaller
  abbrev pub part_for : ℕ → List R → ℕ → List R
  part_for passes records pass = slice_chunk records (div_ceil (length records) passes) pass

  -- a multiset got a part of these records, each once, and no other
  pub record AddsPart (records old new : List R) : Type 0 where
    pub part : List R
    pub left : List R
    pub all : IsSameBag records (part ++ left)
    pub bag : IsSameBag new (part ++ old)

module _ {S R : Type 0} where
  -- no push of the pass was refused
  pub record IsGoing (pass : PassHolding S R) : Type 0 where
    pub unrefused : pass.refused ≡ false
    pub sound : pass.failed ≡ None

  -- records can be added to these passes of one session: there are some, and no push of one was refused
  pub record MayAdd (shared : Shared S R) (passes : List (PassHolding S R)) : Type 0 where
    pub some : 0 < length passes
    pub workers : length passes < 2 ^ 32
    pub of : All (IsOf shared) passes
    pub going : All IsGoing passes

  -- no call of a slot of the pass failed
  abbrev pub HasNoFault : PassHolding S R → Type 0
  HasNoFault pass = pass.failed ≡ None

  -- a push of the pass was refused: no block was free, or a call of a slot failed
  abbrev pub HasEnded : PassHolding S R → Type 0
  HasEnded pass = (pass.refused ≡ true) ⊎ ((number : ℕ) × (pass.failed ≡ Some number))

  -- The stores of full heaps of a pass are backed by the records that it got and accepted: with those of its heap while no push was refused, and
  -- in any case without those of a full heap
  abbrev pub StaysBacked : PassHolding S R → Type 0
  StaysBacked pass = (IsGoing pass → IsBackedPass pass) × IsBackedPassWithout pass

  module _ (shown : S → Shown) where
    -- a pass was given these records: it has all of them, or stopped at one that was refused and has those in front of it, unless a call of a
    -- slot failed
    pub record Adds (records : List R) (old new : PassHolding S R) : Type 0 where
      pub key : new.key ≡ old.key
      pub tells : PassTells shown old → PassTells shown new
      pub bag : new.failed ≡ None → PassTells shown old → IsSameBag new.bag (take (new.accepted - old.accepted) records ++ old.bag)
      pub least : old.accepted ≤ new.accepted
      pub accepted : IsGoing new → new.accepted ≡ old.accepted + length records
      pub fewer : HasEnded new → new.accepted < old.accepted + length records
      pub backed : IsBackedPass old → StaysBacked new

    -- each of several passes was given records of its own: the first those for 0, and so on
    pub record EachAdds (records_of : ℕ → List R) (old new : List (PassHolding S R)) : Type 0 where
      pub count : length new ≡ length old
      pub each : (i : ℕ) (d : PassHolding S R) → i < length old → Adds (records_of i) (get_or old i d) (get_or new i d)

    -- several passes were given these records together
    pub record Dealt (records : List R) (old new : List (PassHolding S R)) : Type 0 where
      pub keys : keys_of new ≡ keys_of old
      pub tells : All (PassTells shown) old → All (PassTells shown) new
      pub bag : All IsGoing new → All (PassTells shown) old → IsSameBag (bag_of new) (records ++ bag_of old)
      pub part : All HasNoFault new → All (PassTells shown) old → AddsPart records (bag_of old) (bag_of new)
      pub accepted : All IsGoing new → accepted_of new ≡ accepted_of old + length records
      pub most : accepted_of new ≤ accepted_of old + length records
      pub fewer : Any HasEnded new → accepted_of new < accepted_of old + length records
      pub backed : All IsBackedPass old → All StaysBacked new
