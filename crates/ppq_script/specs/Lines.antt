-- The lines of a script, the fields of a line, and the commands of a script.
use Rattle.std.specs.Prelude.{◌≡◌, ℕ, Bool, true, false, ◌+◌, List, [], ◌∷◌, Option, Some, None, unwrap_or, if◌then◌else◌, ◌==◌, nat_eq, bytes_eq, codes}
use Rattle.std.specs.List.{starts_with}
use Rattle.ppq_script.specs.declared.command.Command.{Command}
use Rattle.ppq_script.specs.declared.command.Command.TheVariants.{Bulk}
use Rattle.ppq_script.specs.declared.numbered.Numbered.{Numbered}
use Rattle.ppq_script.specs.declared.session.Session.{Session}
use Rattle.ppq_script.specs.declared.session.Session.TheVariants.{Outside}
use Rattle.ppq_script.specs.declared.head.Head.{Head}
use Rattle.ppq_script.specs.Command.{command_of, file_of}
use Rattle.ppq_script.specs.Head.{head_in, plain_head}
use Rattle.ppq_script.specs.Sessions.{turn_of, is_outside, may_stand}
use Rattle.ppq_script.specs.Words.{Words}

-- a byte at the front of the first line
abbrev pub onto : ℕ → List (List ℕ) → List (List ℕ)
onto b [] = (b ∷ []) ∷ []
onto b (l ∷ ls) = (b ∷ l) ∷ ls

-- a line ends with a line feed, which the last may lack
abbrev pub lines_of : List ℕ → List (List ℕ)
lines_of [] = []
lines_of (b ∷ bs) = if b == 10 then [] ∷ lines_of bs else onto b (lines_of bs)

-- the line without one carriage return at its end, where it has one there
abbrev pub text_of : List ℕ → List ℕ
text_of [] = []
text_of (b ∷ []) = if b == 13 then [] else b ∷ []
text_of (b ∷ c ∷ bs) = b ∷ text_of (c ∷ bs)

-- a byte that is no space, before these bytes, which have these fields: a field of its own where they begin with a space or are
-- none, and else at the front of their first field
abbrev pub joined : ℕ → List ℕ → List (List ℕ) → List (List ℕ)
joined b [] fields = (b ∷ []) ∷ fields
joined b (c ∷ bs) fields = if c == 32 then (b ∷ []) ∷ fields else onto b fields

-- the fields of a text: its pieces between spaces that are not empty
abbrev pub fields_of : List ℕ → List (List ℕ)
fields_of [] = []
fields_of (b ∷ bs) = if b == 32 then fields_of bs else joined b bs (fields_of bs)

-- a text that begins with a field
abbrev pub BeginsField : List ℕ → Type 0
BeginsField [] = ⊥
BeginsField (b ∷ bs) = (b == 32) ≡ false

-- what a line is: skipped, as a blank line, a comment and the head are, a command, the command `bulk` with the name of a file, or bad
pub data LineKind (R : Type 0) : Type 0 where
  Skipped : LineKind R
  Plain : (command : Command R) → LineKind R
  OfFile : (name : List ℕ) → LineKind R
  Bad : LineKind R

abbrev pub plain_or_bad : {R : Type 0} → Option (Command R) → LineKind R
plain_or_bad None = Bad
plain_or_bad (Some command) = Plain command

abbrev pub file_or_bad : {R : Type 0} → Option (List ℕ) → LineKind R
file_or_bad None = Bad
file_or_bad (Some name) = OfFile name

-- a line with no field is blank, and one whose first field begins with `#` is a comment: both are skipped
abbrev pub kind_of_fields : {R : Type 0} → Words R → List (List ℕ) → LineKind R
kind_of_fields words [] = Skipped
kind_of_fields words (name ∷ fields) =
    if starts_with nat_eq name (codes "#") then Skipped
    else if bytes_eq name (codes "bulk") then file_or_bad (file_of fields)
    else plain_or_bad (command_of words name fields)

-- what a line is
abbrev pub kind_of : {R : Type 0} → Words R → List ℕ → LineKind R
kind_of words line = kind_of_fields words (fields_of (text_of line))

-- the session behind a line of this kind, by the session before it
abbrev pub session_behind : {R : Type 0} → Session R → LineKind R → Session R
session_behind session Skipped = session
session_behind session (Plain command) = unwrap_or (turn_of command) session
session_behind session (OfFile name) = session
session_behind session Bad = session

-- what a line of this kind is in this session of a script for so many workers: bad where it may not stand there
abbrev pub placed : {R : Type 0} → Words R → ℕ → Session R → LineKind R → LineKind R
placed words workers session Skipped = Skipped
placed words workers session (Plain command) = if may_stand words workers session command then Plain command else Bad
placed words workers session (OfFile name) = if is_outside session then OfFile name else Bad
placed words workers session Bad = Bad

-- what each line is where it stands, the first in this session; a session that is open behind the last makes the line after it bad
abbrev pub kinds_from : {R : Type 0} → Words R → ℕ → Session R → List (List ℕ) → List (LineKind R)
kinds_from words workers session [] = if is_outside session then [] else Bad ∷ []
kinds_from words workers session (l ∷ ls) = placed words workers session (kind_of words l) ∷ kinds_from words workers (session_behind session (kind_of words l)) ls

-- the head that a line is, if it is one
abbrev pub head_line : List ℕ → Option Head
head_line line = head_in (fields_of (text_of line))

-- the kinds behind the first line, which is skipped where it is a head
abbrev pub headed : {R : Type 0} → Words R → ℕ → Option Head → List ℕ → List (List ℕ) → List (LineKind R)
headed words workers None l ls = kinds_from words workers Outside (l ∷ ls)
headed words workers (Some head) l ls = Skipped ∷ kinds_from words workers Outside ls

-- what each line is, the first in no session, and it may be a head
abbrev pub kinds_of : {R : Type 0} → Words R → ℕ → List (List ℕ) → List (LineKind R)
kinds_of words workers [] = []
kinds_of words workers (l ∷ ls) = headed words workers (head_line l) l ls

-- the head of these lines, if the first is one
abbrev pub head_at : List (List ℕ) → Option Head
head_at [] = None
head_at (l ∷ ls) = head_line l

-- the head of a script, or what is meant without one
abbrev pub head_of : List ℕ → Head
head_of bytes = unwrap_or (head_at (lines_of bytes)) plain_head

-- the number that the next file gets behind a line, where this is the one that a file of this line gets
abbrev pub file_after : {R : Type 0} → ℕ → LineKind R → ℕ
file_after file Skipped = file
file_after file (Plain command) = file
file_after file (OfFile name) = file + 1
file_after file Bad = file

-- the command of line n, if it has one, and those behind it, up to the first bad line; if it names a file, that gets this number
abbrev pub before_bad : {R : Type 0} → ℕ → ℕ → LineKind R → List (Numbered R) → List (Numbered R)
before_bad n file Skipped rest = rest
before_bad n file (Plain command) rest = record { line = n; command = command } ∷ rest
before_bad n file (OfFile name) rest = record { line = n; command = Bulk file 0 } ∷ rest
before_bad n file Bad rest = []

-- the commands of the lines before the first that is bad, the first line numbered n, and the first file numbered `file`
abbrev pub numbered_from : {R : Type 0} → ℕ → ℕ → List (LineKind R) → List (Numbered R)
numbered_from n file [] = []
numbered_from n file (kind ∷ kinds) = before_bad n file kind (numbered_from (n + 1) (file_after file kind) kinds)

-- and the first file numbered 0
abbrev pub numbered_of : {R : Type 0} → ℕ → List (LineKind R) → List (Numbered R)
numbered_of n kinds = numbered_from n 0 kinds

-- the name in a line, if it names a file, and those behind it, up to the first bad line
abbrev pub names_before : {R : Type 0} → LineKind R → List (List ℕ) → List (List ℕ)
names_before Skipped rest = rest
names_before (Plain command) rest = rest
names_before (OfFile name) rest = name ∷ rest
names_before Bad rest = []

-- the names of the files in the lines before the first that is bad, in order
abbrev pub names_of : {R : Type 0} → List (LineKind R) → List (List ℕ)
names_of [] = []
names_of (kind ∷ kinds) = names_before kind (names_of kinds)

-- the number of the first line that is bad or names a file that cannot be used, counted from n
abbrev pub bad_or : {R : Type 0} → (List ℕ → Bool) → ℕ → LineKind R → Option ℕ → Option ℕ
bad_or usable n Skipped rest = rest
bad_or usable n (Plain command) rest = rest
bad_or usable n (OfFile name) rest = if usable name then rest else Some n
bad_or usable n Bad rest = Some n

abbrev pub first_bad_by : {R : Type 0} → (List ℕ → Bool) → ℕ → List (LineKind R) → Option ℕ
first_bad_by usable n [] = None
first_bad_by usable n (kind ∷ kinds) = bad_or usable n kind (first_bad_by usable (n + 1) kinds)

-- by the lines alone
abbrev pub first_bad : {R : Type 0} → ℕ → List (LineKind R) → Option ℕ
first_bad n kinds = first_bad_by (λ name. true) n kinds
