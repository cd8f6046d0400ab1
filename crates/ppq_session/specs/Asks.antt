-- Asks of the owner in a limit session, and their answers.
use Rattle.std.specs.Prelude.{ℕ, ◌+◌, List, [], ◌∷◌, Option, Result, Ok, Err}
use Rattle.std.specs.declared.cmp.Ordering.{Ordering}
use Rattle.ppq_session.specs.Fronts.{least_below, without_least_below, number_in}
use Rattle.ppq_session.specs.declared.ask.Ask.{Ask}
use Rattle.ppq_session.specs.declared.ask.Ask.TheVariants.{Top, Pop}

-- how many records an ask removes at the most
abbrev pub pops_by : Ask → ℕ
pops_by Top = 0
pops_by Pop = 1

-- the same of several asks
abbrev pub pops_in : List Ask → ℕ
pops_in [] = 0
pops_in (ask ∷ asks) = pops_by ask + pops_in asks

-- how many records an ask removed that was answered so: one, if it was for a pop and the answer is a record
abbrev pub removed_by : {R : Type 0} → Ask → Option R → ℕ
removed_by Top answer = 0
removed_by Pop answer = number_in answer

-- the same of several asks, of which the first ones have these answers
abbrev pub removed_in : {R : Type 0} → List Ask → List (Option R) → ℕ
removed_in [] answers = 0
removed_in (ask ∷ asks) [] = 0
removed_in (ask ∷ asks) (answer ∷ answers) = removed_by ask answer + removed_in asks answers

-- the same of an ask that may have been refused
abbrev pub removed_with : {R E : Type 0} → Ask → Result (Option R) E → ℕ
removed_with ask (Ok answer) = removed_by ask answer
removed_with ask (Err fault) = 0

module _ {R : Type 0} (cmp : R → R → Ordering) (limit : R) where
  -- what an ask leaves of a multiset
  abbrev pub left_by : List R → Ask → List R
  left_by bag Top = bag
  left_by bag Pop = without_least_below cmp limit bag

  -- what asks leave, one after the other
  abbrev pub left_after : List R → List Ask → List R
  left_after bag [] = bag
  left_after bag (ask ∷ asks) = left_after (left_by bag ask) asks

  -- the answers to them: each time the smallest record that is below the limit, and none where none is below it
  abbrev pub answers_to : List R → List Ask → List (Option R)
  answers_to bag [] = []
  answers_to bag (ask ∷ asks) = least_below cmp limit bag ∷ answers_to (left_by bag ask) asks
