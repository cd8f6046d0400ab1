-- What stands while commands of requests are executed, and where they stop.
use Rattle.std.specs.Prelude.{◌≡◌, ◌<◌, ℕ, true, false, List, [], ◌++◌, map, Option, None, Result, OnOk, IfErr, ⊤}
use Rattle.std.specs.List.{AllByRecursion as Each}
use Rattle.ppq_engine.specs.ppq_script.Words.{Words}
use Rattle.ppq_engine.specs.ppq_script.Reading.{Reading}
use Rattle.ppq_engine.specs.ppq_script.declared.form.Form.{Form}
use Rattle.ppq_engine.specs.ppq_script.declared.command.Command.{Command}
use Rattle.ppq_engine.specs.ppq_script.declared.numbered.Numbered.{Numbered}
use Rattle.ppq_engine.specs.ppq_script.ppq_outside.Shown.{AllTell}
use Rattle.ppq_engine.specs.ppq_array.Kept.{SameSlots, AreQuiet}
use Rattle.ppq_engine.specs.ppq_queue.Holding.{Holding}
use Rattle.ppq_engine.specs.Refusal.{Keeps}
use Rattle.ppq_engine.specs.Calls.{SinkCounts}
use Rattle.ppq_engine.specs.Popping.{NotByFile}
use Rattle.ppq_engine.specs.Running.{HasRun, HasSizes, LendsQueue, ScriptStopped, StopsQuiet}
use Rattle.ppq_engine.specs.declared.stop.Stop.{Stop}

-- commands as the script that has them: no line is bad, and no file is named
abbrev pub on_a_line : {R : Type 0} → Command R → Numbered R
on_a_line command = record { line = 1; command = command }

abbrev pub script_of : {R : Type 0} → List (Command R) → Reading R
script_of commands = record { commands = map on_a_line commands; bad = None; names = []; workers = 1; checked = true }

module _ {R : Type 0} (w : Words R) (form : Form) where
  -- These commands were executed, none of which needs a session, on this queue, since it was in a first state: as far as the slots tell, what they print
  -- is put or gathered, and it holds their multiset
  pub record Served (first : Holding R) (before now : Option (List ℕ)) (commands : List (Command R)) (queue : Holding R) (gathered : List ℕ) : Type 0 where
    pub run : AllTell first.slots → (given : ℕ → List R) → HasRun w form given before now gathered queue.bag queue.size queue.peak first.sizes queue.slots commands
    pub has : HasSizes w queue.size queue.peak first.sizes queue.slots commands
    pub lend : Each LendsQueue commands
    pub unlimited : queue.limited ≡ false
    pub quiet : AreQuiet first.slots queue.slots
    pub kept : Keeps first queue

  -- one of these commands stopped: the sink took a part of their output, or the queue refused it
  pub record Halted (first : Holding R) (before now : Option (List ℕ)) (commands : List (Command R)) (queue : Holding R) (gathered : List ℕ) (stop : Stop) : Type 0 where
    pub stopped : ScriptStopped w form None (script_of commands) first.slots before now gathered first.sizes queue.slots stop
    pub quiet : StopsQuiet first.slots queue.slots stop
    pub slots : SameSlots first.slots queue.slots
    pub no_file : NotByFile stop

  module _ (mid now : Option (List ℕ)) (old new : Holding R) (had has : List ℕ) (part : List (Command R)) where
    -- a call executed these commands, whatever was executed before it
    abbrev pub Executes : Type 0
    Executes = (first : Holding R) (before : Option (List ℕ)) (commands : List (Command R)) → Served first before mid commands old had → Served first before now (commands ++ part) new has

    -- it stopped at one of them, whatever was executed before it, and whatever was to come
    abbrev pub StopsAmong : Stop → Type 0
    StopsAmong stop =
        (first : Holding R) (before : Option (List ℕ)) (commands behind : List (Command R)) → 0 < first.sizes.block → Each LendsQueue behind
        → Served first before mid commands old had → Halted first before now (commands ++ (part ++ behind)) new has stop

    -- a call that is to execute these commands: what was executed, or where it stopped; and the sink's count rose if it was the sink
    pub record Serves (sink sink_now : ℕ) (result : Result ⊤ Stop) : Type 0 where
      pub done : OnOk result Executes
      pub sound : OnOk result (new.failed ≡ None)
      pub stopped : IfErr result StopsAmong
      pub counts : SinkCounts sink sink_now result
