-- The frames of a script's output, one for each answer.
use Rattle.std.specs.Prelude.{◌<◌, ◌^◌, ℕ, List, [], ◌∷◌, ◌++◌, length, map, flat_map, codes, Option, Some, None, nat_le, if◌then◌else◌}
use Rattle.std.specs.Int.{w64, to_be_bytes}
use Rattle.std.specs.List.{AllByRecursion as Each}
use Rattle.ppq_script.specs.Words.{Words}
use Rattle.ppq_script.specs.ppq_record.Bag.{least, front, first_of, size_below}
use Rattle.ppq_script.specs.declared.command.Command.{Command}
use Rattle.ppq_script.specs.declared.command.Command.TheVariants.{Push, Pop, Top, Size, Bulk, Gen, BulkPop, BulkPopLimit, Drain, BulkBegin, BulkPush, BulkEnd, LimitBegin, LimitPush, LimitTop, LimitPop, LimitEnd}
use Rattle.ppq_engine.specs.Output.{State, outside, frame, limited_count, popped_in, last_of, first_sum, drained_bytes, after}

module _ {R : Type 0} (w : Words R) where
  -- a record's bytes, or a letter where there is none
  abbrev pub bytes_or : List ℕ → Option R → List ℕ
  bytes_or letter None = letter
  bytes_or letter (Some item) = w.bytes_of item

  -- of records that a drain removed
  abbrev pub summary_bytes : ℕ → Option R → Option R → ℕ → List ℕ
  summary_bytes count None last sum = to_be_bytes w64 0
  summary_bytes count (Some first) None sum = to_be_bytes w64 0
  summary_bytes count (Some first) (Some last) sum = drained_bytes w count first last sum

  -- the bytes of a command's answers, an answer each
  abbrev pub answers_by : State R → Command R → List (List ℕ)
  answers_by state (Push item) = []
  answers_by state Pop = bytes_or (codes "e") (least w.cmp state.bag) ∷ []
  answers_by state Top = bytes_or (codes "e") (least w.cmp state.bag) ∷ []
  answers_by state Size = to_be_bytes w64 (length state.bag) ∷ []
  answers_by state (Bulk file size) = []
  answers_by state (Gen seed count) = []
  answers_by state (BulkPop count) = map w.bytes_of (front w.cmp state.bag count)
  answers_by state (BulkPopLimit limit count) =
      map w.bytes_of (front w.cmp state.bag (limited_count w state.bag limit count)) ++ (if nat_le (size_below w.cmp state.bag limit) count then codes "a" else codes "m") ∷ []
  answers_by state (Drain count) = let items = front w.cmp state.bag count in summary_bytes (length items) (first_of items) (last_of items) (first_sum w items) ∷ []
  answers_by state BulkBegin = []
  answers_by state (BulkPush pass item) = []
  answers_by state BulkEnd = []
  answers_by state (LimitBegin limit) = []
  answers_by state (LimitPush pass item) = []
  answers_by state LimitTop = bytes_or (codes "l") (first_of (front w.cmp state.bag (popped_in w state.session state.bag))) ∷ []
  answers_by state LimitPop = bytes_or (codes "l") (first_of (front w.cmp state.bag (popped_in w state.session state.bag))) ∷ []
  answers_by state LimitEnd = []

  module _ (given : ℕ → List R) where
    -- those of commands
    abbrev pub answers_from : State R → List (Command R) → List (List ℕ)
    answers_from state [] = []
    answers_from state (command ∷ commands) = answers_by state command ++ answers_from (after w given state command) commands

    -- those of a script
    abbrev pub all_answers : List (Command R) → List (List ℕ)
    all_answers commands = answers_from (outside []) commands

-- the frames of these bytes, one after the other
abbrev pub framed : List (List ℕ) → List ℕ
framed answers = flat_map frame answers

-- each is short enough that its length fits into the head of a frame
abbrev pub AreShort : List (List ℕ) → Type 0
AreShort answers = Each (λ bytes. length bytes < 2 ^ 32) answers
