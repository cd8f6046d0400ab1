-- How many records a script may bring, told by its commands alone, and whether they fit.
use Rattle.std.specs.Prelude.{⊤, Bool, true, false, ◌||◌, if◌then◌else◌, unwrap_or, ◌≤◌, ◌+◌, ◌-◌, ◌*◌, ◌/◌, ℕ, List, [], ◌∷◌, max}
use Rattle.ppq_script.specs.Words.{Words}
use Rattle.ppq_script.specs.ppq_outside.Shown.{Shown}
use Rattle.ppq_load.specs.ppq_budget.Sizes.{Numbers}
use Rattle.ppq_load.specs.ppq_array.Kept.{all_writes}
use Rattle.ppq_script.specs.declared.command.Command.{Command}
use Rattle.ppq_script.specs.declared.command.Command.TheVariants.{Push, Pop, Top, Size, Bulk, Gen, BulkPop, BulkPopLimit, Drain, BulkBegin, BulkPush, BulkEnd, LimitBegin, LimitPush, LimitTop, LimitPop, LimitEnd}
use Rattle.ppq_script.specs.declared.session.Session.{Session}
use Rattle.ppq_script.specs.declared.session.Session.TheVariants.{Outside}
use Rattle.ppq_script.specs.Sessions.{turn_of, is_outside}

-- a command that begins a session: `bulk`, `gen`, or the first of a session of lines
abbrev pub IsLoad : {R : Type 0} → Command R → Type 0
IsLoad (Push item) = ⊥
IsLoad Pop = ⊥
IsLoad Top = ⊥
IsLoad Size = ⊥
IsLoad (Bulk file size) = ⊤
IsLoad (Gen seed count) = ⊤
IsLoad (BulkPop count) = ⊥
IsLoad (BulkPopLimit limit count) = ⊥
IsLoad (Drain count) = ⊥
IsLoad BulkBegin = ⊤
IsLoad (BulkPush pass item) = ⊥
IsLoad BulkEnd = ⊥
IsLoad (LimitBegin limit) = ⊤
IsLoad (LimitPush pass item) = ⊥
IsLoad LimitTop = ⊥
IsLoad LimitPop = ⊥
IsLoad LimitEnd = ⊥

-- how many of so many records are left at the most, and at the least, where up to `count` below a limit are popped
abbrev pub none_go : ℕ → ℕ → ℕ
none_go size count = size

abbrev pub all_go : ℕ → ℕ → ℕ
all_go size count = size - count

-- what follows for a multiset of which pops below a limit leave so many
module _ {R : Type 0} (w : Words R) (leaves : ℕ → ℕ → ℕ) where
  -- the size after a command
  abbrev pub size_after : ℕ → Command R → ℕ
  size_after size (Push item) = size + 1
  size_after size Pop = size - 1
  size_after size Top = size
  size_after size Size = size
  size_after size (Bulk file bytes) = size + bytes / w.WIDTH
  size_after size (Gen seed count) = size + count
  size_after size (BulkPop count) = size - count
  size_after size (BulkPopLimit limit count) = leaves size count
  size_after size (Drain count) = size - count
  size_after size BulkBegin = size
  size_after size (BulkPush pass item) = size + 1
  size_after size BulkEnd = size
  size_after size (LimitBegin limit) = size
  size_after size (LimitPush pass item) = size + 1
  size_after size LimitTop = size
  size_after size LimitPop = leaves size 1
  size_after size LimitEnd = size

  -- the size after commands
  abbrev pub size_from : ℕ → List (Command R) → ℕ
  size_from size [] = size
  size_from size (command ∷ commands) = size_from (size_after size command) commands

  -- the greatest size after any of the commands, 0 for none
  abbrev pub greatest_from : ℕ → List (Command R) → ℕ
  greatest_from size [] = 0
  greatest_from size (command ∷ commands) = max (size_after size command) (greatest_from (size_after size command) commands)

  -- the greatest size after any of the commands behind which no session is open, the first in this session; 0 for none
  abbrev pub settled_from : ℕ → Session R → List (Command R) → ℕ
  settled_from size session [] = 0
  settled_from size session (command ∷ commands) =
      let behind = unwrap_or (turn_of command) session in
      max (if is_outside behind then size_after size command else 0) (settled_from (size_after size command) behind commands)

-- the greatest size that the multiset of a script can have after a command
abbrev pub most_of : {R : Type 0} → Words R → List (Command R) → ℕ
most_of w commands = greatest_from w none_go 0 commands

-- a size that the multiset of a script has after some command outside a session, or passes
abbrev pub least_of : {R : Type 0} → Words R → List (Command R) → ℕ
least_of w commands = settled_from w all_go 0 Outside commands

-- whether a command begins a limit session
abbrev pub is_limit_begin : {R : Type 0} → Command R → Bool
is_limit_begin (Push item) = false
is_limit_begin Pop = false
is_limit_begin Top = false
is_limit_begin Size = false
is_limit_begin (Bulk file size) = false
is_limit_begin (Gen seed count) = false
is_limit_begin (BulkPop count) = false
is_limit_begin (BulkPopLimit limit count) = false
is_limit_begin (Drain count) = false
is_limit_begin BulkBegin = false
is_limit_begin (BulkPush pass item) = false
is_limit_begin BulkEnd = false
is_limit_begin (LimitBegin limit) = true
is_limit_begin (LimitPush pass item) = false
is_limit_begin LimitTop = false
is_limit_begin LimitPop = false
is_limit_begin LimitEnd = false

-- whether one of the commands does
abbrev pub begins_limit : {R : Type 0} → List (Command R) → Bool
begins_limit [] = false
begins_limit (command ∷ commands) = is_limit_begin command || begins_limit commands

-- so many records are no more than the budget and a block for each write of these slots
abbrev pub FitsWritten : ℕ → Numbers → List Shown → Type 0
FitsWritten size sizes slots = size ≤ sizes.memory + sizes.block * all_writes slots
