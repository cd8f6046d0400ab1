-- What a script prints, by a second definition: what is pushed in a session is kept apart from the multiset until the session ends.
use Rattle.std.specs.Prelude.{◌≡◌, ℕ, true, not, List, [], ◌∷◌, ◌++◌, length, filter, max, if◌then◌else◌, ◌+◌}
use Rattle.ppq_script.specs.Words.{Words}
use Rattle.ppq_script.specs.ppq_record.Order.{is_before}
use Rattle.ppq_script.specs.ppq_record.Bag.{least, front, without_front, first_of}
use Rattle.ppq_load.specs.Given.{generated_by}
use Rattle.ppq_script.specs.declared.command.Command.{Command}
use Rattle.ppq_script.specs.declared.command.Command.TheVariants.{Push, Pop, Top, Size, Bulk, Gen, BulkPop, BulkPopLimit, Drain, BulkBegin, BulkPush, BulkEnd, LimitBegin, LimitPush, LimitTop, LimitPop, LimitEnd}
use Rattle.ppq_script.specs.declared.form.Form.{Form}
use Rattle.ppq_script.specs.declared.session.Session.{Session}
use Rattle.ppq_script.specs.declared.session.Session.TheVariants.{Outside, InBulk, InLimit}
use Rattle.ppq_script.specs.Sessions.{is_outside, are_in_place}
use Rattle.ppq_engine.specs.Output.{records_text, least_text, all_text, more_text, size_text, summary_text, limited_text, output_of, load_of, crest_of}

-- what there is between commands: the multiset, the session that is open, what was pushed in it, and how many records were popped in it
pub record Deferred (R : Type 0) : Type 0 where
  pub bag : List R
  pub session : Session R
  pub pushed : List R
  pub popped : ℕ

-- a multiset where a session begins, or where none is open
abbrev pub begun : {R : Type 0} → Session R → List R → Deferred R
begun session bag = record { bag = bag; session = session; pushed = []; popped = 0 }

-- the records of a multiset that are below a limit
abbrev pub below : {R : Type 0} → Words R → R → List R → List R
below w limit bag = filter (λ x. is_before w.cmp x limit) bag

-- the others
abbrev pub not_below : {R : Type 0} → Words R → R → List R → List R
not_below w limit bag = filter (λ x. not (is_before w.cmp x limit)) bag

-- a multiset without the smallest of its records below a limit, so many or all
abbrev pub without_below : {R : Type 0} → Words R → R → List R → ℕ → List R
without_below w limit bag count = not_below w limit bag ++ without_front w.cmp (below w limit bag) count

-- the smallest record of a multiset that is below the limit of a session, if one is
abbrev pub least_in : {R : Type 0} → Words R → Session R → List R → List R
least_in w Outside bag = []
least_in w InBulk bag = []
least_in w (InLimit limit) bag = front w.cmp (below w limit bag) 1

-- the multiset without it
abbrev pub without_least : {R : Type 0} → Words R → Session R → List R → List R
without_least w Outside bag = bag
without_least w InBulk bag = bag
without_least w (InLimit limit) bag = without_below w limit bag 1

-- what `bulk_pop_limit` writes behind the lines, where these records below the limit are left
abbrev pub left_text : {R : Type 0} → Form → List R → List ℕ
left_text form [] = all_text form
left_text form (x ∷ xs) = more_text form

-- what a command writes
abbrev pub text_deferred : {R : Type 0} → Words R → Form → Deferred R → Command R → List ℕ
text_deferred w form state (Push item) = []
text_deferred w form state Pop = least_text w form (least w.cmp state.bag)
text_deferred w form state Top = least_text w form (least w.cmp state.bag)
text_deferred w form state Size = size_text form (length state.bag)
text_deferred w form state (Bulk file size) = []
text_deferred w form state (Gen seed count) = []
text_deferred w form state (BulkPop count) = records_text w form (front w.cmp state.bag count)
text_deferred w form state (BulkPopLimit limit count) = records_text w form (front w.cmp (below w limit state.bag) count) ++ left_text form (without_front w.cmp (below w limit state.bag) count)
text_deferred w form state (Drain count) = summary_text w form (front w.cmp state.bag count)
text_deferred w form state BulkBegin = []
text_deferred w form state (BulkPush pass item) = []
text_deferred w form state BulkEnd = []
text_deferred w form state (LimitBegin limit) = []
text_deferred w form state (LimitPush pass item) = []
text_deferred w form state LimitTop = limited_text w form (first_of (least_in w state.session state.bag))
text_deferred w form state LimitPop = limited_text w form (first_of (least_in w state.session state.bag))
text_deferred w form state LimitEnd = []

-- what follows, where files are given as these records
module _ {R : Type 0} (w : Words R) (given : ℕ → List R) where
  -- what there is after a command
  abbrev pub after_deferred : Deferred R → Command R → Deferred R
  after_deferred state (Push item) = record state { bag = state.bag ++ item ∷ [] }
  after_deferred state Pop = record state { bag = without_front w.cmp state.bag 1 }
  after_deferred state Top = state
  after_deferred state Size = state
  after_deferred state (Bulk file size) = record state { bag = state.bag ++ given file }
  after_deferred state (Gen seed count) = record state { bag = state.bag ++ generated_by w.COUNT w.of_fields seed count }
  after_deferred state (BulkPop count) = record state { bag = without_front w.cmp state.bag count }
  after_deferred state (BulkPopLimit limit count) = record state { bag = without_below w limit state.bag count }
  after_deferred state (Drain count) = record state { bag = without_front w.cmp state.bag count }
  after_deferred state BulkBegin = begun InBulk state.bag
  after_deferred state (BulkPush pass item) = record state { pushed = state.pushed ++ item ∷ [] }
  after_deferred state BulkEnd = begun Outside (state.bag ++ state.pushed)
  after_deferred state (LimitBegin limit) = begun (InLimit limit) state.bag
  after_deferred state (LimitPush pass item) = record state { pushed = state.pushed ++ item ∷ [] }
  after_deferred state LimitTop = state
  after_deferred state LimitPop =
      record {
        bag = without_least w state.session state.bag;
        session = state.session;
        pushed = state.pushed;
        popped = state.popped + length (least_in w state.session state.bag);
      }
  after_deferred state LimitEnd = begun Outside (state.bag ++ state.pushed)

  -- how many records count: those of the multiset, those that were pushed in the session that is open, and those that were popped in it
  abbrev pub counted_deferred : Deferred R → ℕ
  counted_deferred state = length state.bag + length state.pushed + state.popped

  -- the greatest count of records after any of the commands, 0 for none
  abbrev pub load_deferred_from : Deferred R → List (Command R) → ℕ
  load_deferred_from state [] = 0
  load_deferred_from state (command ∷ commands) = max (counted_deferred (after_deferred state command)) (load_deferred_from (after_deferred state command) commands)

  -- the greatest size of the multiset after any of the commands behind which no session is open, 0 for none
  abbrev pub crest_deferred_from : Deferred R → List (Command R) → ℕ
  crest_deferred_from state [] = 0
  crest_deferred_from state (command ∷ commands) =
      let behind = after_deferred state command in
      max (if is_outside behind.session then length behind.bag else 0) (crest_deferred_from behind commands)

  -- the load of a script
  abbrev pub load_deferred : List (Command R) → ℕ
  load_deferred commands = load_deferred_from (begun Outside []) commands

  -- the crest of a script
  abbrev pub crest_deferred : List (Command R) → ℕ
  crest_deferred commands = crest_deferred_from (begun Outside []) commands

module _ {R : Type 0} (w : Words R) (form : Form) (given : ℕ → List R) where
  -- the texts of commands, one after the other
  abbrev pub output_deferred_from : Deferred R → List (Command R) → List ℕ
  output_deferred_from state [] = []
  output_deferred_from state (command ∷ commands) = text_deferred w form state command ++ output_deferred_from (after_deferred w given state command) commands

  -- what the commands of a script write, from the empty multiset on
  abbrev pub output_deferred : List (Command R) → List ℕ
  output_deferred commands = output_deferred_from (begun Outside []) commands

-- both definitions say the same of these commands
pub record DefinitionsAgree {R : Type 0} (w : Words R) (given : ℕ → List R) (commands : List (Command R)) : Type 0 where
  pub output : (form : Form) → output_deferred w form given commands ≡ output_of w form given commands
  pub load : load_deferred w given commands ≡ load_of w given commands
  pub crest : crest_deferred w given commands ≡ crest_of w given commands

-- this holds of all commands that stand in their places, for any number of workers, whatever records files give
abbrev pub HoldsInPlace : {R : Type 0} → Words R → ((ℕ → List R) → List (Command R) → Type 0) → Type 0
HoldsInPlace {R} w P = (workers : ℕ) (given : ℕ → List R) (commands : List (Command R)) → are_in_place w workers Outside commands ≡ true → P given commands
