-- Records that are popped one after the other, all or those below a limit.
use Rattle.std.specs.Prelude.{◌≡◌, ◌≤◌, ◌-◌, ℕ, List, [], length, take, drop, Option, Some, None, if◌then◌else◌, ⊤}
use Rattle.ppq_script.specs.Words.{Words}
use Rattle.ppq_script.specs.ppq_record.Order.{is_before}
use Rattle.ppq_script.specs.ppq_record.Bag.{IsSameBag, ascending, least}
use Rattle.ppq_script.specs.declared.form.Form.{Form}
use Rattle.ppq_engine.specs.Output.{limited_count, all_text, more_text}
use Rattle.ppq_engine.specs.declared.stop.Stop.{Stop}
use Rattle.ppq_engine.specs.declared.stop.Stop.TheVariants.{Sink, Queue, Read, Memory, Changed}

-- a record, where there is one and it is below the limit, if there is one
abbrev pub passing : {R : Type 0} → Words R → Option R → Option R → Option R
passing w None item = item
passing w (Some limit) None = None
passing w (Some limit) (Some item) = if is_before w.cmp item limit then Some item else None

-- the smallest record of a multiset, where it is below the limit
abbrev pub next_of : {R : Type 0} → Words R → Option R → List R → Option R
next_of w below bag = passing w below (least w.cmp bag)

-- whether a record below the limit is left, where this is the smallest of them or none
abbrev pub left_mark : {R : Type 0} → Form → Option R → List ℕ
left_mark form None = all_text form
left_mark form (Some item) = more_text form

-- how many records are popped at the most: so many, and none that is not below the limit
abbrev pub popped_count : {R : Type 0} → Words R → Option R → List R → ℕ → ℕ
popped_count w None bag count = count
popped_count w (Some limit) bag count = limited_count w bag limit count

-- how many of so many records are left at the most, where up to `count` are popped
abbrev pub left_at_most : {R : Type 0} → Option R → ℕ → ℕ → ℕ
left_at_most None size count = size - count
left_at_most (Some limit) size count = size

-- of a multiset the smallest records were popped, as many as these, so many at the most, and none that is not below the limit; where there are
-- none of these, none passes
pub record IsRound {R : Type 0} (w : Words R) (below : Option R) (count : ℕ) (bag rest items : List R) : Type 0 where
  pub first : items ≡ take (length items) (ascending w.cmp bag)
  pub rest_is : IsSameBag rest (drop (length items) (ascending w.cmp bag))
  pub few : length items ≤ popped_count w below bag count
  pub end : items ≡ [] → next_of w below bag ≡ None

-- it was the sink or the queue that stopped
abbrev pub NotByFile : Stop → Type 0
NotByFile Sink = ⊤
NotByFile (Queue fault) = ⊤
NotByFile Read = ⊥
NotByFile Memory = ⊥
NotByFile (Changed line said got) = ⊥

-- it was the sink or the queue that stopped, or memory was wanting
abbrev pub IsByLimit : Stop → Type 0
IsByLimit Sink = ⊤
IsByLimit (Queue fault) = ⊤
IsByLimit Read = ⊥
IsByLimit Memory = ⊤
IsByLimit (Changed line said got) = ⊥
