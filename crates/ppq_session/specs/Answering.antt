-- What a front does that answers asks.
use Rattle.std.specs.Prelude.{◌≡◌, ℕ, ◌+◌, ◌≤◌, Vec, List, [], length, take, Option, None, vec_capacity}
use Rattle.std.specs.Global.{Global}
use Rattle.std.specs.declared.cmp.Ordering.{Ordering}
use Rattle.ppq_pass.specs.ppq_record.Bag.{IsSameBag}
use Rattle.ppq_pass.specs.ppq_outside.Shown.{AllTell}
use Rattle.ppq_pass.specs.ppq_array.Kept.{SameSlots, AreQuiet, all_writes}
use Rattle.ppq_session.specs.Fronts.{FrontHolding}
use Rattle.ppq_session.specs.declared.ask.Ask.{Ask}
use Rattle.ppq_session.specs.Asks.{answers_to, left_after, removed_in}

module _ {S R : Type 0} where
  -- what calls of a front keep that remove so many records
  pub record KeepsFront (gone : ℕ) (old new : FrontHolding S R) : Type 0 where
    pub rest : new ≡ record old { bag = new.bag; size = new.size; popped = new.popped; slots = new.slots; run_buffers = new.run_buffers; in_extract = new.in_extract; failed = new.failed }
    pub total : new.size + new.popped ≡ old.size + old.popped
    pub popped : new.popped ≡ old.popped + gone
    pub slots : SameSlots old.slots new.slots
    pub tells : AllTell old.slots → AllTell new.slots
    pub writes : all_writes old.slots ≤ all_writes new.slots

  -- a front can answer these asks, into an empty list that has room for the answers
  pub record MayAnswer (asks : List Ask) (answers : Vec (Option R) Global) (front : FrontHolding S R) : Type 0 where
    pub sound : front.failed ≡ None
    pub no_answer : answers.items ≡ []
    pub room : length asks ≤ vec_capacity answers

  -- A front answered these asks, up to the first that met a fault
  pub record HasAnswered (cmp : R → R → Ordering) (asks : List Ask) (answers : List (Option R)) (old new : FrontHolding S R) : Type 0 where
    pub kept : KeepsFront (removed_in asks answers) old new
    pub quiet : new.failed ≡ None → AreQuiet old.slots new.slots
    pub fewer : length answers ≤ length asks
    pub all : new.failed ≡ None → length answers ≡ length asks
    pub are : AllTell old.slots → answers ≡ take (length answers) (answers_to cmp old.limit old.bag asks)
    pub left : new.failed ≡ None → AllTell old.slots → IsSameBag new.bag (left_after cmp old.limit old.bag asks)
