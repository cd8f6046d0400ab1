-- Lines of a limit session: what they ask, what is answered, and how they are run in batches.
use Rattle.std.specs.Prelude.{◌≡◌, ℕ, List, [], ◌∷◌, ◌++◌, flat_map, length, take, Option, None, Result, Ok, Err, ⊤}
use Rattle.ppq_script.specs.Words.{Words}
use Rattle.ppq_script.specs.ppq_outside.Shown.{Shown, AllTell}
use Rattle.ppq_script.specs.ppq_outside.Told.{TakesPart}
use Rattle.ppq_script.specs.ppq_outside.declared.fault.Failed.{Failed}
use Rattle.ppq_script.specs.declared.form.Form.{Form}
use Rattle.ppq_script.specs.declared.command.Command.{Command}
use Rattle.ppq_script.specs.declared.command.Command.TheVariants.{Push, Pop, Top, Size, Bulk, Gen, BulkPop, BulkPopLimit, Drain, BulkBegin, BulkPush, BulkEnd, LimitBegin, LimitPush, LimitTop, LimitPop, LimitEnd}
use Rattle.ppq_load.specs.ppq_queue.Holding.{Holding}
use Rattle.ppq_load.specs.ppq_array.declared.store_fault.StoreFault.{StoreFault as QueueFault}
use Rattle.ppq_load.specs.ppq_session.declared.ask.Ask.{Ask}
use Rattle.ppq_load.specs.ppq_session.declared.ask.Ask.TheVariants as ask
use Rattle.ppq_load.specs.ppq_session.Asks.{answers_to, left_after, pops_in}
use Rattle.ppq_load.specs.ppq_session.LimitSessions.{LimitSessionHolding, InLimits, AreGoing}
use Rattle.ppq_engine.specs.Gathers.{Gathers}
use Rattle.ppq_engine.specs.Output.{limited_text}
use Rattle.ppq_engine.specs.Pushes.{pushed_in}
use Rattle.ppq_engine.specs.Running.{GathersPart}
use Rattle.ppq_engine.specs.declared.stop.Stop.{Stop}
use Rattle.ppq_engine.specs.declared.stop.Stop.TheVariants.{Sink, Queue}

-- what a command of a limit session asks of the front
abbrev pub ask_by : {R : Type 0} → Command R → List Ask
ask_by (Push item) = []
ask_by Pop = []
ask_by Top = []
ask_by Size = []
ask_by (Bulk file size) = []
ask_by (Gen seed count) = []
ask_by (BulkPop count) = []
ask_by (BulkPopLimit limit count) = []
ask_by (Drain count) = []
ask_by BulkBegin = []
ask_by (BulkPush pass item) = []
ask_by BulkEnd = []
ask_by (LimitBegin limit) = []
ask_by (LimitPush pass item) = []
ask_by LimitTop = ask.Top ∷ []
ask_by LimitPop = ask.Pop ∷ []
ask_by LimitEnd = []

-- the same of commands
abbrev pub asks_in : {R : Type 0} → List (Command R) → List Ask
asks_in commands = flat_map ask_by commands

-- the texts of answers, one after the other
abbrev pub answers_text : {R : Type 0} → Words R → Form → List (Option R) → List ℕ
answers_text w form answers = flat_map (limited_text w form) answers

-- the texts of the answers to what these lines ask, where there are these records in the beginning
abbrev pub answers_of : {R : Type 0} → Words R → Form → R → List R → List (Command R) → List ℕ
answers_of w form limit bag lines = answers_text w form (answers_to w.cmp limit bag (asks_in lines))

module _ {R : Type 0} (w : Words R) {S : Type 0} (shown : S → Shown) where
  -- of a session with this limit, of this queue, these lines were run
  abbrev pub HasDone : Holding R → R → List (Command R) → LimitSessionHolding S R → Type 0
  HasDone queue limit lines session = InLimits shown queue limit (pushed_in lines) (left_after w.cmp limit queue.bag (asks_in lines)) (pops_in (asks_in lines)) session

  -- it has just begun
  abbrev pub HasJustBegun : Holding R → R → LimitSessionHolding S R → Type 0
  HasJustBegun queue limit session = HasDone queue limit [] session

  -- a batch of lines more was run, and its asks were answered, all of them unless a call of a slot of the front failed
  pub record RunsBatch (lines : List (Command R)) (answers : List (Option R)) (old new : LimitSessionHolding S R) : Type 0 where
    pub session : (queue : Holding R) (limit : R) (done : List (Command R)) → HasDone queue limit done old → HasDone queue limit (done ++ lines) new
    pub answers_are :
        (queue : Holding R) (limit : R) (done : List (Command R)) → HasDone queue limit done old → AllTell queue.slots
        → answers ≡ take (length answers) (answers_to w.cmp limit (left_after w.cmp limit queue.bag (asks_in done)) (asks_in lines))
    pub answered : new.front.failed ≡ None → length answers ≡ length (asks_in lines)
    pub sizes : new.front.sizes ≡ old.front.sizes
    pub limit_is : new.front.limit ≡ old.front.limit

  -- Of the lines of a session all were run or the first, and the answers are gathered, all of them unless a call of a slot of the front failed
  pub record RunsLines (form : Form) (whole : List (Command R)) (before now : Option (List ℕ)) (had has : List ℕ) (old new : LimitSessionHolding S R) : Type 0 where
    pub lines : List (Command R)
    pub rest : List (Command R)
    pub all : whole ≡ lines ++ rest
    pub session : (queue : Holding R) (limit : R) → HasJustBegun queue limit old → HasDone queue limit lines new
    pub part : (queue : Holding R) (limit : R) → HasJustBegun queue limit old → AllTell queue.slots → GathersPart before now had (answers_of w form limit queue.bag lines) has
    pub text : new.front.failed ≡ None → (queue : Holding R) (limit : R) → HasJustBegun queue limit old → AllTell queue.slots → Gathers before now had (answers_of w form limit queue.bag lines) has
    pub end : AreGoing new → rest ≡ []

  -- the sink failed when these lines of them were run: it took a part of the answers
  pub record BreaksOff (form : Form) (whole : List (Command R)) (before now : Option (List ℕ)) (had : List ℕ) (old new : LimitSessionHolding S R) : Type 0 where
    pub lines : List (Command R)
    pub rest : List (Command R)
    pub all : whole ≡ lines ++ rest
    pub session : (queue : Holding R) (limit : R) → HasJustBegun queue limit old → HasDone queue limit lines new
    pub text : (queue : Holding R) (limit : R) → HasJustBegun queue limit old → AllTell queue.slots → TakesPart before now (had ++ answers_of w form limit queue.bag whole)

-- how a session ended, by what was printed and what its end answered
abbrev pub session_end : Result ⊤ Failed → Result ⊤ QueueFault → Result ⊤ Stop
session_end (Err failed) over = Err Sink
session_end (Ok printed) (Ok value) = Ok value
session_end (Ok printed) (Err fault) = Err (Queue fault)
