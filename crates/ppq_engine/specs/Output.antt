-- What a script writes, in each form, and how many records its multiset comes to hold.
use Rattle.std.specs.Prelude.{◌≡◌, ◌⊎◌, ◌%◌, ◌^◌, ℕ, List, [], ◌∷◌, ◌++◌, length, take, min, max, Option, Some, None, codes, decimal, flat_map, sum_by, get_or, nat_le, if◌then◌else◌, ◌+◌, slice_get}
use Rattle.std.specs.Int.{w32, w64, to_be_bytes}
use Rattle.ppq_script.specs.Words.{Words}
use Rattle.ppq_script.specs.ppq_record.Bag.{least, front, without_front, first_of, size_below}
use Rattle.ppq_load.specs.Given.{records_of, generated_by}
use Rattle.ppq_script.specs.ppq_outside.Told.{bytes_or_none}
use Rattle.ppq_load.specs.ppq_budget.Sizes.{Numbers}
use Rattle.ppq_script.specs.declared.command.Command.{Command}
use Rattle.ppq_script.specs.declared.command.Command.TheVariants.{Push, Pop, Top, Size, Bulk, Gen, BulkPop, BulkPopLimit, Drain, BulkBegin, BulkPush, BulkEnd, LimitBegin, LimitPush, LimitTop, LimitPop, LimitEnd}
use Rattle.ppq_script.specs.declared.form.Form.{Form}
use Rattle.ppq_script.specs.declared.form.Form.TheVariants.{Text, Bytes}
use Rattle.ppq_script.specs.declared.session.Session.{Session}
use Rattle.ppq_script.specs.declared.session.Session.TheVariants.{Outside, InBulk, InLimit}
use Rattle.ppq_script.specs.Sessions.{is_outside}
use Rattle.ppq_script.specs.Reading.{Reading, command_list}
use Rattle.ppq_script.specs.Files.{name_at}
use Rattle.ppq_load.specs.Refusal.{HasRoom}
use Rattle.ppq_text.specs.Gathering.{numbers_text}
use Rattle.ppq_engine.specs.Loads.{begins_limit}

-- a frame: how many bytes follow, in four bytes with the highest first, and these bytes
abbrev pub frame : List ℕ → List ℕ
frame bytes = to_be_bytes w32 (length bytes) ++ bytes

-- an answer in its form: its line, or the frame of its bytes
abbrev pub written : Form → List ℕ → List ℕ → List ℕ
written Text line bytes = line
written Bytes line bytes = frame bytes

-- fields in decimal, parted by one space
abbrev pub fields_text : List ℕ → List ℕ
fields_text fields = numbers_text fields

-- a record: its fields, or its bytes
abbrev pub record_text : {R : Type 0} → Words R → Form → R → List ℕ
record_text w form item = written form (fields_text (w.fields_of item) ++ codes "\n") (w.bytes_of item)

-- records, one after the other
abbrev pub records_text : {R : Type 0} → Words R → Form → List R → List ℕ
records_text w form items = flat_map (record_text w form) items

-- that there is no record
abbrev pub empty_text : Form → List ℕ
empty_text form = written form (codes "empty\n") (codes "e")

-- what `pop` and `top` write, where this is the smallest record or none
abbrev pub least_text : {R : Type 0} → Words R → Form → Option R → List ℕ
least_text w form None = empty_text form
least_text w form (Some item) = record_text w form item

-- what `size` writes of a multiset of so many records
abbrev pub size_text : Form → ℕ → List ℕ
size_text form records = written form (decimal records ++ codes "\n") (to_be_bytes w64 records)

-- the last of a list
abbrev pub last_of : {X : Type 0} → List X → Option X
last_of [] = None
last_of (x ∷ []) = Some x
last_of (x ∷ y ∷ ys) = last_of (y ∷ ys)

-- the first field of a record
abbrev pub first_field : {R : Type 0} → Words R → R → ℕ
first_field w item = get_or (w.fields_of item) 0 0

-- the first fields of records, added up modulo 2^64
abbrev pub first_sum : {R : Type 0} → Words R → List R → ℕ
first_sum w items = sum_by (first_field w) items % 2 ^ 64

-- what `drain` writes of so many records, of the first and the last of them, and of the sum of their first fields
abbrev pub drained_line : {R : Type 0} → Words R → ℕ → R → R → ℕ → List ℕ
drained_line w count first last sum =
    codes "count " ++ decimal count ++ codes " first " ++ fields_text (w.fields_of first) ++ codes " last " ++ fields_text (w.fields_of last) ++ codes " sum " ++ decimal sum ++ codes "\n"

abbrev pub drained_bytes : {R : Type 0} → Words R → ℕ → R → R → ℕ → List ℕ
drained_bytes w count first last sum = to_be_bytes w64 count ++ w.bytes_of first ++ w.bytes_of last ++ to_be_bytes w64 sum

-- that none was removed
abbrev pub undrained_text : Form → List ℕ
undrained_text form = written form (codes "count 0\n") (to_be_bytes w64 0)

abbrev pub drained_text : {R : Type 0} → Words R → Form → ℕ → Option R → Option R → ℕ → List ℕ
drained_text w form count None last sum = undrained_text form
drained_text w form count (Some first) None sum = undrained_text form
drained_text w form count (Some first) (Some last) sum = written form (drained_line w count first last sum) (drained_bytes w count first last sum)

-- what `drain` writes of the records that it removed
abbrev pub summary_text : {R : Type 0} → Words R → Form → List R → List ℕ
summary_text w form items = drained_text w form (length items) (first_of items) (last_of items) (first_sum w items)

-- how many records `bulk_pop_limit` removes: those below the limit, and no more than so many
abbrev pub limited_count : {R : Type 0} → Words R → List R → R → ℕ → ℕ
limited_count w bag limit count = min count (size_below w.cmp bag limit)

-- that no record below the limit is left, or that one is
abbrev pub all_text : Form → List ℕ
all_text form = written form (codes "all\n") (codes "a")

abbrev pub more_text : Form → List ℕ
more_text form = written form (codes "more\n") (codes "m")

-- what it writes behind the records: whether all below the limit were removed
abbrev pub mark_text : {R : Type 0} → Words R → Form → List R → R → ℕ → List ℕ
mark_text w form bag limit count = if nat_le (size_below w.cmp bag limit) count then all_text form else more_text form

-- what there is between commands: the multiset, the session that is open, and how many records were popped in it
pub record State (R : Type 0) : Type 0 where
  pub bag : List R
  pub session : Session R
  pub popped : ℕ

-- a multiset where no session is open
abbrev pub outside : {R : Type 0} → List R → State R
outside bag = record { bag = bag; session = Outside; popped = 0 }

-- how many records `limit_pop` removes in a session: one, if the smallest is below the limit
abbrev pub popped_in : {R : Type 0} → Words R → Session R → List R → ℕ
popped_in w Outside bag = 0
popped_in w InBulk bag = 0
popped_in w (InLimit limit) bag = limited_count w bag limit 1

-- what `limit_top` and `limit_pop` write, where this is the smallest record below the limit, or none is below it
abbrev pub limited_text : {R : Type 0} → Words R → Form → Option R → List ℕ
limited_text w form None = written form (codes "limit\n") (codes "l")
limited_text w form (Some item) = record_text w form item

-- what a command writes
abbrev pub text_of : {R : Type 0} → Words R → Form → State R → Command R → List ℕ
text_of w form state (Push item) = []
text_of w form state Pop = least_text w form (least w.cmp state.bag)
text_of w form state Top = least_text w form (least w.cmp state.bag)
text_of w form state Size = size_text form (length state.bag)
text_of w form state (Bulk file size) = []
text_of w form state (Gen seed count) = []
text_of w form state (BulkPop count) = records_text w form (front w.cmp state.bag count)
text_of w form state (BulkPopLimit limit count) = records_text w form (front w.cmp state.bag (limited_count w state.bag limit count)) ++ mark_text w form state.bag limit count
text_of w form state (Drain count) = summary_text w form (front w.cmp state.bag count)
text_of w form state BulkBegin = []
text_of w form state (BulkPush pass item) = []
text_of w form state BulkEnd = []
text_of w form state (LimitBegin limit) = []
text_of w form state (LimitPush pass item) = []
text_of w form state LimitTop = limited_text w form (first_of (front w.cmp state.bag (popped_in w state.session state.bag)))
text_of w form state LimitPop = limited_text w form (first_of (front w.cmp state.bag (popped_in w state.session state.bag)))
text_of w form state LimitEnd = []

-- the records of a file of the script
abbrev pub given_of : {R : Type 0} → Words R → (List ℕ → Option (List ℕ)) → Reading R → ℕ → List R
given_of w files script file = records_of w.record_of w.WIDTH (bytes_or_none (files (name_at script.names file)))

-- the lengths that the script keeps are those of these files
abbrev pub KeepsLengths : {R : Type 0} → (List ℕ → Option (List ℕ)) → Reading R → Type 0
KeepsLengths files script = (i file size : ℕ) → slice_get (command_list script) i ≡ Some (Bulk file size) → length (bytes_or_none (files (name_at script.names file))) ≡ size

-- so they are where the library tells its files
abbrev pub TellsLengths : {R : Type 0} → Option (List ℕ → Option (List ℕ)) → Reading R → Type 0
TellsLengths told script = (files : List ℕ → Option (List ℕ)) → told ≡ Some files → KeepsLengths files script

-- no command reads a file
abbrev pub ReadsNoFile : {R : Type 0} → Reading R → Type 0
ReadsNoFile script = (i file size : ℕ) → slice_get (command_list script) i ≡ Some (Bulk file size) → ⊥

-- these are the files of a library that tells, or the script reads none
abbrev pub AreFilesOf : {R : Type 0} → Option (List ℕ → Option (List ℕ)) → Reading R → (List ℕ → Option (List ℕ)) → Type 0
AreFilesOf told script files = (told ≡ Some files) ⊎ ReadsNoFile script

-- what follows, where files are given as these records
module _ {R : Type 0} (w : Words R) (given : ℕ → List R) where
  -- what there is after a command
  abbrev pub after : State R → Command R → State R
  after state (Push item) = record state { bag = item ∷ state.bag }
  after state Pop = record state { bag = without_front w.cmp state.bag 1 }
  after state Top = state
  after state Size = state
  after state (Bulk file size) = record state { bag = given file ++ state.bag }
  after state (Gen seed count) = record state { bag = generated_by w.COUNT w.of_fields seed count ++ state.bag }
  after state (BulkPop count) = record state { bag = without_front w.cmp state.bag count }
  after state (BulkPopLimit limit count) = record state { bag = without_front w.cmp state.bag (limited_count w state.bag limit count) }
  after state (Drain count) = record state { bag = without_front w.cmp state.bag count }
  after state BulkBegin = record { bag = state.bag; session = InBulk; popped = 0 }
  after state (BulkPush pass item) = record state { bag = item ∷ state.bag }
  after state BulkEnd = outside state.bag
  after state (LimitBegin limit) = record { bag = state.bag; session = InLimit limit; popped = 0 }
  after state (LimitPush pass item) = record state { bag = item ∷ state.bag }
  after state LimitTop = state
  after state LimitPop =
      record {
        bag = without_front w.cmp state.bag (popped_in w state.session state.bag);
        session = state.session;
        popped = state.popped + popped_in w state.session state.bag;
      }
  after state LimitEnd = outside state.bag

  -- what there is after commands
  abbrev pub state_from : State R → List (Command R) → State R
  state_from state [] = state
  state_from state (command ∷ commands) = state_from (after state command) commands

  -- how many records count: those of the multiset, and those that were popped in the session that is open
  abbrev pub counted_in : State R → ℕ
  counted_in state = length state.bag + state.popped

  -- the greatest count of records after any of the commands, 0 for none
  abbrev pub load_from : State R → List (Command R) → ℕ
  load_from state [] = 0
  load_from state (command ∷ commands) = max (counted_in (after state command)) (load_from (after state command) commands)

  -- the greatest size of the multiset after any of the commands behind which no session is open, 0 for none
  abbrev pub crest_from : State R → List (Command R) → ℕ
  crest_from state [] = 0
  crest_from state (command ∷ commands) =
      let behind = after state command in
      max (if is_outside behind.session then length behind.bag else 0) (crest_from behind commands)

  -- what they leave
  abbrev pub state_of : List (Command R) → State R
  state_of commands = state_from (outside []) commands

  -- the multiset that they leave
  abbrev pub bag_of : List (Command R) → List R
  bag_of commands = (state_of commands).bag

  -- the load of a script: the greatest count of its records after any command
  abbrev pub load_of : List (Command R) → ℕ
  load_of commands = load_from (outside []) commands

  -- the crest of a script: the greatest size of its multiset after a command outside a session
  abbrev pub crest_of : List (Command R) → ℕ
  crest_of commands = crest_from (outside []) commands

module _ {R : Type 0} (w : Words R) (form : Form) (given : ℕ → List R) where
  -- the texts of commands, one after the other
  abbrev pub output_from : State R → List (Command R) → List ℕ
  output_from state [] = []
  output_from state (command ∷ commands) = text_of w form state command ++ output_from (after w given state command) commands

  -- what the commands of a script write, from the empty multiset on
  abbrev pub output_of : List (Command R) → List ℕ
  output_of commands = output_from (outside []) commands

-- where the sink tells, it took at least this piece
abbrev pub TakesAtLeast : Option (List ℕ) → Option (List ℕ) → List ℕ → Type 0
TakesAtLeast None new piece = new ≡ None
TakesAtLeast (Some had) new piece = (more : List ℕ) × (new ≡ Some (had ++ (piece ++ more)))

-- the sink took what the first commands write, as long as there is room for their load
abbrev pub TakesWithin : {R : Type 0} → Words R → Form → (ℕ → List R) → Option (List ℕ) → Option (List ℕ) → Numbers → List (Command R) → Type 0
TakesWithin w form given before now sizes commands = (k : ℕ) → HasRoom sizes (begins_limit (take k commands)) (load_of w given (take k commands)) → TakesAtLeast before now (output_of w form given (take k commands))
