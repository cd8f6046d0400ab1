-- The text of an answer in each form, and what is known of drained records.
use Rattle.std.specs.Prelude.{◌≡◌, ℕ, List, [], length, None}
use Rattle.ppq_script.specs.Words.{Words}
use Rattle.ppq_script.specs.ppq_record.Bag.{first_of}
pub use Rattle.ppq_text.specs.Gathering.{Gathers}
use Rattle.ppq_script.specs.declared.form.Form.{Form}
use Rattle.ppq_engine.specs.Output.{record_text, empty_text, size_text, all_text, more_text, limited_text, drained_text, last_of, first_sum}
use Rattle.ppq_engine.specs.declared.answer.Answer.{Answer}
use Rattle.ppq_engine.specs.declared.answer.Answer.TheVariants as answer
use Rattle.ppq_engine.specs.declared.drained.Drained.{Drained}

-- the text of an answer
abbrev pub answer_text : {R : Type 0} → Words R → Form → Answer R → List ℕ
answer_text w form answer.Nothing = []
answer_text w form answer.Empty = empty_text form
answer_text w form (answer.Record item) = record_text w form item
answer_text w form (answer.Size records) = size_text form records
answer_text w form answer.All = all_text form
answer_text w form answer.More = more_text form
answer_text w form answer.Limit = limited_text w form None
answer_text w form (answer.Drained drained) = drained_text w form drained.count drained.first drained.last drained.sum

-- what is known of drained records
pub record IsSummary {R : Type 0} (w : Words R) (items : List R) (drained : Drained R) : Type 0 where
  pub count : drained.count ≡ length items
  pub first : drained.first ≡ first_of items
  pub last : drained.last ≡ last_of items
  pub sum : drained.sum ≡ first_sum w items
