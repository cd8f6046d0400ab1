-- What the lines of a session push, and how they are given to the passes of a bulk session.
use Rattle.std.specs.Prelude.{◌≡◌, List, [], ◌∷◌, ◌++◌, flat_map, All}
use Rattle.ppq_script.specs.ppq_outside.Shown.{Shown}
use Rattle.ppq_script.specs.declared.command.Command.{Command}
use Rattle.ppq_script.specs.declared.command.Command.TheVariants.{Push, Pop, Top, Size, Bulk, Gen, BulkPop, BulkPopLimit, Drain, BulkBegin, BulkPush, BulkEnd, LimitBegin, LimitPush, LimitTop, LimitPop, LimitEnd}
use Rattle.ppq_load.specs.ppq_queue.Holding.{Holding}
use Rattle.ppq_load.specs.ppq_session.declared.line.Line.{Line}
use Rattle.ppq_load.specs.ppq_session.Dealing.{IsGoing, records_in}
use Rattle.ppq_load.specs.Loading.{SessionHolding, InSession}

-- the line of a pass that a command of a session is
abbrev pub line_by : {R : Type 0} → Command R → List (Line R)
line_by (Push item) = []
line_by Pop = []
line_by Top = []
line_by Size = []
line_by (Bulk file size) = []
line_by (Gen seed count) = []
line_by (BulkPop count) = []
line_by (BulkPopLimit limit count) = []
line_by (Drain count) = []
line_by BulkBegin = []
line_by (BulkPush pass item) = record { pass = pass; «record» = item } ∷ []
line_by BulkEnd = []
line_by (LimitBegin limit) = []
line_by (LimitPush pass item) = record { pass = pass; «record» = item } ∷ []
line_by LimitTop = []
line_by LimitPop = []
line_by LimitEnd = []

-- the same of commands
abbrev pub lines_in : {R : Type 0} → List (Command R) → List (Line R)
lines_in commands = flat_map line_by commands

-- the records that they push
abbrev pub pushed_in : {R : Type 0} → List (Command R) → List R
pushed_in commands = records_in (lines_in commands)

-- of the lines of a bulk session these are left, and the records of the others were given to its passes
pub record IsPushing {R : Type 0} {S : Type 0} (shown : S → Shown) (lines rest : List (Command R)) (old new : SessionHolding S R) : Type 0 where
  pub given : List (Command R)
  pub all : lines ≡ given ++ rest
  pub session : (queue : Holding R) → InSession shown queue [] old → InSession shown queue (pushed_in given) new

-- the records of the first lines were given to them, and those of all if no pass stopped
pub record GivesLines {R : Type 0} {S : Type 0} (shown : S → Shown) (lines : List (Command R)) (old new : SessionHolding S R) : Type 0 where
  pub rest : List (Command R)
  pub pushing : IsPushing shown lines rest old new
  pub whole : All IsGoing new.passes → rest ≡ []
