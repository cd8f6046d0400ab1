-- What a drain removes, one record after the other.
use Rattle.std.specs.Prelude.{◌≡◌, ◌≤◌, ℕ, zero, suc, List, [], ◌∷◌, length, Option, Some, None}
use Rattle.ppq_script.specs.Words.{Words}
use Rattle.ppq_script.specs.ppq_record.Bag.{IsSameBag, least, front, without_front}
use Rattle.ppq_script.specs.declared.command.Command.{Command}
use Rattle.ppq_script.specs.declared.command.Command.TheVariants.{Pop, BulkPop, Drain}
use Rattle.ppq_script.specs.declared.form.Form.{Form}
use Rattle.ppq_engine.specs.Output.{outside, text_of, summary_text, state_from, output_from}

-- a record in front of others, if there is one
abbrev pub with_first : {R : Type 0} → Option R → List R → List R
with_first None items = items
with_first (Some item) items = item ∷ items

-- so many commands `pop`
abbrev pub pops : {R : Type 0} → ℕ → List (Command R)
pops zero = []
pops (suc n) = Pop ∷ pops n

module _ {R : Type 0} (w : Words R) where
  -- the records that so many pops remove, one after the other: each time the smallest, if there is one
  abbrev pub popped_by : List R → ℕ → List R
  popped_by bag zero = []
  popped_by bag (suc n) = with_first (least w.cmp bag) (popped_by (without_front w.cmp bag 1) n)

  -- and what they leave
  abbrev pub left_by : List R → ℕ → List R
  left_by bag zero = bag
  left_by bag (suc n) = left_by (without_front w.cmp bag 1) n

-- A drain of so many records removes what as many pops remove, and prints what the records that these remove add up to; and of as many records as there
-- are, these pops print what a bulk pop prints
pub record DrainsAsPops {R : Type 0} (w : Words R) (bag : List R) (n : ℕ) : Type 0 where
  pub popped : front w.cmp bag n ≡ popped_by w bag n
  pub left : IsSameBag (without_front w.cmp bag n) (left_by w bag n)
  pub summary : (form : Form) → text_of w form (outside bag) (Drain n) ≡ summary_text w form (popped_by w bag n)
  pub by_pops : (given : ℕ → List R) → state_from w given (outside bag) (pops n) ≡ outside (left_by w bag n)
  pub texts : (form : Form) (given : ℕ → List R) → n ≤ length bag → output_from w form given (outside bag) (pops n) ≡ text_of w form (outside bag) (BulkPop n)
