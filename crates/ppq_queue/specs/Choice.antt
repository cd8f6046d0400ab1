-- Which of two smallest records goes first.
use Rattle.std.specs.Prelude.{◌≡◌, ◌+◌, ◌-◌, ◌≤◌, Bool, true, false, not, cond, List, ◌++◌, length, Option, Some, None}
use Rattle.std.specs.declared.cmp.Ordering.{Ordering}
use Rattle.ppq_heap.specs.ppq_record.Order.{is_before, Ascends}
use Rattle.ppq_heap.specs.ppq_record.Bag.{IsSameBag, first_of, least, without_front}
use Rattle.ppq_heap.specs.Heaps.{Shares, items_of}
use Rattle.ppq_extract.specs.ppq_fetch.Taking.{NoneAfter}
use Rattle.ppq_extract.specs.Extracted.{Held}
use Rattle.ppq_queue.specs.Stores.{HeapsStay}

-- the first of two records, where the other is not before it; one that is there before one that is not
abbrev pub goes_first : {R : Type 0} → (R → R → Ordering) → Option R → Option R → Bool
goes_first cmp None other = false
goes_first cmp (Some x) None = true
goes_first cmp (Some x) (Some y) = not (is_before cmp y x)

-- the one of two smallest records that goes first
abbrev pub first_of_two : {R : Type 0} → (R → R → Ordering) → Option R → Option R → Option R
first_of_two cmp one other = cond (goes_first cmp one other) one other

-- The smallest record of a heap, or the first of an extract buffer, left them, if there was one: the one that goes first. If it is the smallest of both and of
-- runs, the others are left
pub record TookFirst {R : Type 0} (cmp : R → R → Ordering) (heap heap' extract extract' : List R) (answer : Option R) : Type 0 where
  pub value : answer ≡ first_of_two cmp (least cmp heap) (first_of extract)
  pub count : length heap' + length extract' ≡ length heap + length extract - 1
  pub near : length heap ≤ length heap' + 1
  pub fewer : length extract' ≤ length extract
  pub ascends : Ascends cmp extract → Ascends cmp extract'
  pub order : (runs : List R) → NoneAfter cmp extract runs → NoneAfter cmp extract' runs
  pub rest : (runs : List R) → answer ≡ least cmp (heap ++ extract ++ runs) → IsSameBag (heap' ++ extract' ++ runs) (without_front cmp (heap ++ extract ++ runs) 1)

-- the same of heaps and an extract buffer, which keep their room
pub record TakesFirst {R : Type 0} (cmp : R → R → Ordering) (before after : Shares R) (extract extract' : Held R) (answer : Option R) : Type 0 where
  pub took : TookFirst cmp (items_of before) (items_of after) extract.items extract'.items answer
  pub heaps : HeapsStay before after
  pub room : extract'.room ≡ extract.room
