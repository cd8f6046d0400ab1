-- Commands that run together: a session from its beginning to its end, or one command alone.
use Rattle.std.specs.Prelude.{◌≡◌, ℕ, ◌+◌, Bool, true, false, List, [], ◌∷◌, ◌++◌, length, drop, map, slice_get, Option, Some, None, ⊤}
use Rattle.ppq_script.specs.declared.command.Command.{Command}
use Rattle.ppq_script.specs.declared.command.Command.TheVariants.{BulkBegin, BulkEnd, LimitBegin, LimitEnd}
use Rattle.ppq_script.specs.declared.numbered.Numbered.{Numbered}
use Rattle.ppq_script.specs.declared.part.Part.{Part}
use Rattle.ppq_script.specs.declared.part.Part.TheVariants as part
use Rattle.ppq_script.specs.declared.session.Session.{Session}
use Rattle.ppq_script.specs.declared.session.Session.TheVariants.{Outside, InBulk, InLimit}
use Rattle.ppq_script.specs.Reading.{Reading, command_list}
use Rattle.ppq_script.specs.Sessions.{turn_of, is_outside, may_stand, are_in_place}
use Rattle.ppq_script.specs.Words.{Words}

-- the commands of lines
abbrev pub commands_of : {R : Type 0} → List (Numbered R) → List (Command R)
commands_of lines = map (λ n. n.command) lines

-- a command that may stand in this session of a script for so many workers, and neither begins a session nor ends one
pub record IsLine {R : Type 0} (words : Words R) (workers : ℕ) (session : Session R) (command : Command R) : Type 0 where
  pub stands : may_stand words workers session command ≡ true
  pub stays : turn_of command ≡ None

-- each of these is one
abbrev pub AreLines : {R : Type 0} → Words R → ℕ → Session R → List (Command R) → Type 0
AreLines words workers session [] = ⊤
AreLines words workers session (command ∷ commands) = IsLine words workers session command × AreLines words workers session commands

-- a session with these lines, from its beginning to its end
abbrev pub bulk_part : {R : Type 0} → List (Command R) → List (Command R)
bulk_part lines = BulkBegin ∷ (lines ++ BulkEnd ∷ [])

abbrev pub limit_part : {R : Type 0} → R → List (Command R) → List (Command R)
limit_part limit lines = LimitBegin limit ∷ (lines ++ LimitEnd ∷ [])

-- the commands of a part
abbrev pub commands_in : {R : Type 0} → Part R → List (Command R)
commands_in (part.One command) = command ∷ []
commands_in (part.Bulk lines) = bulk_part (commands_of lines.now)
commands_in (part.Limit limit lines) = limit_part limit (commands_of lines.now)

-- its first command
abbrev pub first_in : {R : Type 0} → Part R → Command R
first_in (part.One command) = command
first_in (part.Bulk lines) = BulkBegin
first_in (part.Limit limit lines) = LimitBegin limit

-- its lines are those of its session, or its one command is one of no session
abbrev pub HasItsLines : {R : Type 0} → Words R → ℕ → Part R → Type 0
HasItsLines words workers (part.One command) = IsLine words workers Outside command
HasItsLines words workers (part.Bulk lines) = AreLines words workers InBulk (commands_of lines.now)
HasItsLines words workers (part.Limit limit lines) = AreLines words workers (InLimit limit) (commands_of lines.now)

-- at this place of a script a part begins; behind it come the other commands, and no session is open there
pub record IsPartAt {R : Type 0} (words : Words R) (script : Reading R) (place : ℕ) (here : Part R) : Type 0 where
  pub first : slice_get (command_list script) place ≡ Some (first_in here)
  pub whole : drop place (command_list script) ≡ commands_in here ++ drop (place + length (commands_in here)) (command_list script)
  pub lines : HasItsLines words script.workers here
  pub next : are_in_place words script.workers Outside (drop (place + length (commands_in here)) (command_list script)) ≡ true

-- a session ends there
abbrev pub is_end : {R : Type 0} → Option (Session R) → Bool
is_end None = false
is_end (Some Outside) = true
is_end (Some InBulk) = false
is_end (Some (InLimit limit)) = false

-- a session is open, in which each of these commands may stand where it does
pub record IsOpenIn {R : Type 0} (words : Words R) (workers : ℕ) (session : Session R) (commands : List (Command R)) : Type 0 where
  pub opened : is_outside session ≡ false
  pub in_place : are_in_place words workers session commands ≡ true

-- of commands in a session these are its lines; then comes its end, and the others
pub record EndsAt {R : Type 0} (words : Words R) (workers : ℕ) (session : Session R) (commands lines : List (Command R)) : Type 0 where
  pub end : Command R
  pub rest : List (Command R)
  pub whole : commands ≡ lines ++ (end ∷ rest)
  pub lines_are : AreLines words workers session lines
  pub stands : may_stand words workers session end ≡ true
  pub ends : is_end (turn_of end) ≡ true
  pub behind : are_in_place words workers Outside rest ≡ true
