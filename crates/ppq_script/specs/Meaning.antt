-- What numbers, commands and lines mean to a reader: relations above the definitions that compute.
use Rattle.std.specs.Prelude.{◌≡◌, ◌≢◌, ◌⊎◌, ⊤, Bool, true, false, Option, ℕ, ◌-◌, ◌*◌, ◌+◌, ◌^◌, ◌≤◌, ◌<◌, ◌↔◌, List, [], ◌∷◌, ◌++◌, length, get_or, Some, None, MatchOption, codes}
use Rattle.std.specs.List.{AllByRecursion as Each}
use Rattle.ppq_script.specs.declared.command.Command.{Command}
use Rattle.ppq_script.specs.declared.command.Command.TheVariants.{Push, Pop, Top, Size, Bulk, Gen, BulkPop, BulkPopLimit, Drain, BulkBegin, BulkPush, BulkEnd, LimitBegin, LimitPush, LimitTop, LimitPop, LimitEnd}
use Rattle.ppq_script.specs.declared.numbered.Numbered.{Numbered}
use Rattle.ppq_script.specs.declared.session.Session.{Session}
use Rattle.ppq_script.specs.declared.session.Session.TheVariants.{Outside, InBulk, InLimit}
use Rattle.ppq_script.specs.declared.head.Head.{Head}
use Rattle.ppq_script.specs.Number.{value_from, number_of}
use Rattle.ppq_script.specs.Head.{plain_head, head_fields}
use Rattle.ppq_script.specs.Lines.{lines_of, text_of, fields_of, kind_of, Skipped, Plain, OfFile, kinds_of, numbered_of, names_of, first_bad, first_bad_by, head_of}
use Rattle.ppq_script.specs.Sessions.{may_stand}
use Rattle.ppq_script.specs.Files.{file_in, name_at}
use Rattle.ppq_script.specs.Words.{Words}

-- the bytes of the digits 0 to 9
abbrev pub IsDigit : ℕ → Type 0
IsDigit byte = (48 ≤ byte) × (byte ≤ 57)

-- 1 to 20 decimal digits of the number n, which fits in 64 bits
pub record Spells (digits : List ℕ) (n : ℕ) : Type 0 where
  pub all_digits : Each IsDigit digits
  pub some : 1 ≤ length digits
  pub few : length digits ≤ 20
  pub value : value_from 0 digits ≡ n
  pub fits : n < 2 ^ 64

-- a space
abbrev pub IsSpace : ℕ → Type 0
IsSpace byte = byte ≡ 32

-- one byte or more, and no space among them
pub record IsField (field : List ℕ) : Type 0 where
  pub some : 1 ≤ length field
  pub bytes : Each (λ byte. byte ≢ 32) field

-- nothing, or bytes that begin with a space
abbrev pub IsApart : List ℕ → Type 0
IsApart [] = ⊤
IsApart (byte ∷ bytes) = IsSpace byte

-- the fields of a line
abbrev pub fields_in : List ℕ → List (List ℕ)
fields_in line = fields_of (text_of line)

-- no field, or a first one that begins with `#`
abbrev pub IsSkipped : List (List ℕ) → Type 0
IsSkipped [] = ⊤
IsSkipped (name ∷ fields) = (more : List ℕ) × (name ≡ codes "#" ++ more)

-- the bytes from 0x21 to 0x7E
abbrev pub IsGraphic : ℕ → Type 0
IsGraphic byte = (33 ≤ byte) × (byte ≤ 126)

-- 1 to 255 bytes from 0x21 to 0x7E
pub record IsFileName (name : List ℕ) : Type 0 where
  pub all_graphic : Each IsGraphic name
  pub some : 1 ≤ length name
  pub few : length name ≤ 255

-- fields that are the digits of these numbers, one after the other
abbrev pub SpellAll : List (List ℕ) → List ℕ → Type 0
SpellAll [] [] = ⊤
SpellAll [] (n ∷ ns) = ⊥
SpellAll (field ∷ fields) [] = ⊥
SpellAll (field ∷ fields) (n ∷ ns) = Spells field n × SpellAll fields ns

-- this word, and behind it the digits of these numbers
abbrev pub HasNumbers : List ℕ → List (List ℕ) → List ℕ → Type 0
HasNumbers word [] numbers = ⊥
HasNumbers word (name ∷ fields) numbers = (name ≡ word) × SpellAll fields numbers

-- fields that spell this command, which names no file; a record is its numbers
abbrev pub IsSpelled : {R : Type 0} → Words R → List (List ℕ) → Command R → Type 0
IsSpelled words fields (Push item) = HasNumbers (codes "push") fields (words.fields_of item)
IsSpelled words fields Pop = HasNumbers (codes "pop") fields []
IsSpelled words fields Top = HasNumbers (codes "top") fields []
IsSpelled words fields Size = HasNumbers (codes "size") fields []
IsSpelled words fields (Bulk file length) = ⊥
IsSpelled words fields (Gen seed count) = HasNumbers (codes "gen") fields (seed ∷ count ∷ []) × (count ≤ 4294967296)
IsSpelled words fields (BulkPop count) = HasNumbers (codes "bulk_pop") fields (count ∷ [])
IsSpelled words fields (BulkPopLimit limit count) = HasNumbers (codes "bulk_pop_limit") fields (words.fields_of limit ++ count ∷ [])
IsSpelled words fields (Drain count) = HasNumbers (codes "drain") fields (count ∷ [])
IsSpelled words fields BulkBegin = HasNumbers (codes "bulk_begin") fields []
IsSpelled words fields (BulkPush pass item) = HasNumbers (codes "bulk_push") fields (pass ∷ words.fields_of item) × (pass ≤ 4294967295)
IsSpelled words fields BulkEnd = HasNumbers (codes "bulk_end") fields []
IsSpelled words fields (LimitBegin limit) = HasNumbers (codes "limit_begin") fields (words.fields_of limit)
IsSpelled words fields (LimitPush pass item) = HasNumbers (codes "limit_push") fields (pass ∷ words.fields_of item) × (pass ≤ 4294967295)
IsSpelled words fields LimitTop = HasNumbers (codes "limit_top") fields []
IsSpelled words fields LimitPop = HasNumbers (codes "limit_pop") fields []
IsSpelled words fields LimitEnd = HasNumbers (codes "limit_end") fields []

-- `bulk` and the name of a file
pub record IsBulk (fields : List (List ℕ)) (name : List ℕ) : Type 0 where
  pub spelled : fields ≡ codes "bulk" ∷ name ∷ []
  pub is_name : IsFileName name

-- a line that is blank or a comment
abbrev pub IsBlankOrComment : List ℕ → Type 0
IsBlankOrComment line = IsSkipped (fields_in line)

-- a line that is spelled as this command, which names no file
abbrev pub Reads : {R : Type 0} → Words R → List ℕ → Command R → Type 0
Reads words line command = IsSpelled words (fields_in line) command

-- a line that is spelled as `bulk` and the name of this file
abbrev pub ReadsFile : List ℕ → List ℕ → Type 0
ReadsFile line name = IsBulk (fields_in line) name

-- a line that is this head: the words `ppq` and `2`, and those of its kind and its order
abbrev pub IsHead : List ℕ → Head → Type 0
IsHead line head = fields_in line ≡ head_fields head

-- the line with this number, from 1
abbrev pub line_at : List (List ℕ) → ℕ → List ℕ
line_at lines n = get_or lines (n - 1) []

-- the first line is this head, or it is none and this one is meant
abbrev pub HasHead : List (List ℕ) → Head → Type 0
HasHead lines head = IsHead (line_at lines 1) head ⊎ (((other : Head) → ¬ IsHead (line_at lines 1) other) × (head ≡ plain_head))

-- line n is the head: it is the first, and reads as one
abbrev pub IsHeadLine : List (List ℕ) → ℕ → Type 0
IsHeadLine lines n = (n ≡ 1) × ((head : Head) × IsHead (line_at lines n) head)

-- a line that begins or ends a session, and the session behind it
abbrev pub Turns : {R : Type 0} → Words R → List ℕ → Session R → Type 0
Turns words line Outside = Reads words line BulkEnd ⊎ Reads words line LimitEnd
Turns words line InBulk = Reads words line BulkBegin
Turns words line (InLimit limit) = Reads words line (LimitBegin limit)

-- no line from one number on and before another begins or ends a session
abbrev pub NoTurn : {R : Type 0} → Words R → List (List ℕ) → ℕ → ℕ → Type 0
NoTurn {R} words lines from n = (k : ℕ) (session : Session R) → from ≤ k → k < n → ¬ Turns words (line_at lines k) session

-- the last line before line n that begins or ends a session, in its place or not, tells this one
pub record IsLastTurn {R : Type 0} (words : Words R) (lines : List (List ℕ)) (n : ℕ) (session : Session R) : Type 0 where
  pub turn : ℕ
  pub from_one : 1 ≤ turn
  pub before : turn < n
  pub turns : Turns words (line_at lines turn) session
  pub last : NoTurn words lines (turn + 1) n

-- the session before line n: the one that the last such line tells, and none where there is no such line
abbrev pub IsSession : {R : Type 0} → Words R → List (List ℕ) → ℕ → Session R → Type 0
IsSession words lines n session = IsLastTurn words lines n session ⊎ ((session ≡ Outside) × NoTurn words lines 1 n)

-- numbers of which the first one that differs is less
abbrev pub AreLess : List ℕ → List ℕ → Type 0
AreLess [] ys = ⊥
AreLess (x ∷ xs) [] = ⊥
AreLess (x ∷ xs) (y ∷ ys) = (x < y) ⊎ ((x ≡ y) × AreLess xs ys)

-- or greater, in the order in which the greater goes first
abbrev pub AreBefore : Bool → List ℕ → List ℕ → Type 0
AreBefore false xs ys = AreLess xs ys
AreBefore true xs ys = AreLess ys xs

-- a record below a limit: the first of its numbers that differs is less, or, in the order down, greater
abbrev pub IsBelow : {R : Type 0} → Words R → R → R → Type 0
IsBelow words item limit = AreBefore words.DOWN (words.fields_of item) (words.fields_of limit)

-- a limit session
abbrev pub IsInLimit : {R : Type 0} → Session R → Type 0
IsInLimit {R} session = (limit : R) × (session ≡ InLimit limit)

-- a limit session whose limit this record is not below
abbrev pub IsAtLimit : {R : Type 0} → Words R → Session R → R → Type 0
IsAtLimit {R} words session item = (limit : R) × ((session ≡ InLimit limit) × ¬ IsBelow words item limit)

-- where a command may stand in a script for so many workers
abbrev pub Stands : {R : Type 0} → Words R → ℕ → Session R → Command R → Type 0
Stands words workers session (Push item) = session ≡ Outside
Stands words workers session Pop = session ≡ Outside
Stands words workers session Top = session ≡ Outside
Stands words workers session Size = session ≡ Outside
Stands words workers session (Bulk file length) = session ≡ Outside
Stands words workers session (Gen seed count) = session ≡ Outside
Stands words workers session (BulkPop count) = session ≡ Outside
Stands words workers session (BulkPopLimit limit count) = session ≡ Outside
Stands words workers session (Drain count) = session ≡ Outside
Stands words workers session BulkBegin = session ≡ Outside
Stands words workers session (BulkPush pass item) = (session ≡ InBulk) × (pass < workers)
Stands words workers session BulkEnd = session ≡ InBulk
Stands words workers session (LimitBegin limit) = session ≡ Outside
Stands words workers session (LimitPush pass item) = IsAtLimit words session item × (pass < workers)
Stands words workers session LimitTop = IsInLimit session
Stands words workers session LimitPop = IsInLimit session
Stands words workers session LimitEnd = IsInLimit session

-- a line that is blank, a comment, or spelled as some command that may stand in this session, whose file, if it names one, can be used
abbrev pub IsGoodIn : {R : Type 0} → Words R → (List ℕ → Bool) → ℕ → Session R → List ℕ → Type 0
IsGoodIn {R} words usable workers session line =
    IsBlankOrComment line
    ⊎ (((command : Command R) × (Reads words line command × Stands words workers session command)) ⊎ ((name : List ℕ) × (ReadsFile line name × ((session ≡ Outside) × (usable name ≡ true)))))

-- a line that is none of these
pub record IsBadIn {R : Type 0} (words : Words R) (usable : List ℕ → Bool) (workers : ℕ) (session : Session R) (line : List ℕ) : Type 0 where
  pub not_skipped : ¬ IsBlankOrComment line
  pub no_command : (command : Command R) → Reads words line command → ¬ Stands words workers session command
  pub no_file : (name : List ℕ) → ReadsFile line name → session ≡ Outside → usable name ≡ false

-- line n is good: the head, or good in the session before it
abbrev pub IsGood : {R : Type 0} → Words R → (List ℕ → Bool) → ℕ → List (List ℕ) → ℕ → Type 0
IsGood {R} words usable workers lines n = IsHeadLine lines n ⊎ ((session : Session R) × (IsSession words lines n session × IsGoodIn words usable workers session (line_at lines n)))

-- or bad: neither of these
abbrev pub IsBad : {R : Type 0} → Words R → (List ℕ → Bool) → ℕ → List (List ℕ) → ℕ → Type 0
IsBad {R} words usable workers lines n = (¬ IsHeadLine lines n) × ((session : Session R) × (IsSession words lines n session × IsBadIn words usable workers session (line_at lines n)))

-- a session is open behind the last line
abbrev pub IsOpen : {R : Type 0} → Words R → List (List ℕ) → Type 0
IsOpen {R} words lines = (session : Session R) × (IsSession words lines (length lines + 1) session × (session ≢ Outside))

-- bytes with no line feed
abbrev pub IsOneLine : List ℕ → Type 0
IsOneLine bytes = Each (λ byte. byte ≢ 10) bytes

-- the smallest number of a bad line, or the one after the last line where no line is bad and a session is open there
pub record IsFirstBad {R : Type 0} (words : Words R) (usable : List ℕ → Bool) (workers : ℕ) (lines : List (List ℕ)) (n : ℕ) : Type 0 where
  pub from_one : 1 ≤ n
  pub bad : ((n ≤ length lines) × IsBad words usable workers lines n) ⊎ ((n ≡ length lines + 1) × IsOpen words lines)
  pub before : (earlier : ℕ) → 1 ≤ earlier → earlier < n → IsGood words usable workers lines earlier

-- every line is good, and no session is open behind the last
pub record AreGood {R : Type 0} (words : Words R) (usable : List ℕ → Bool) (workers : ℕ) (lines : List (List ℕ)) : Type 0 where
  pub good : (n : ℕ) → 1 ≤ n → n ≤ length lines → IsGood words usable workers lines n
  pub closed : IsSession words lines (length lines + 1) Outside

-- the number of a line before the first bad one, if there is a bad one
pub record IsBefore {R : Type 0} (words : Words R) (workers : ℕ) (lines : List (List ℕ)) (n : ℕ) : Type 0 where
  pub from_one : 1 ≤ n
  pub there : n ≤ length lines
  pub before : MatchOption (first_bad 1 (kinds_of words workers lines)) ⊤ (λ bad. n < bad)

-- one of the commands has the line with this number
abbrev pub HasLine : {R : Type 0} → ℕ → List (Numbered R) → Type 0
HasLine n [] = ⊥
HasLine n (item ∷ items) = (item.line ≡ n) ⊎ HasLine n items

-- the commands are in the order of their lines, which are above n
abbrev pub Rises : {R : Type 0} → ℕ → List (Numbered R) → Type 0
Rises n [] = ⊤
Rises n (item ∷ items) = (n < item.line) × Rises item.line items

-- a line that is spelled as this command; if it names a file, by the number that the file has among the names
abbrev pub AsksFile : {R : Type 0} → Words R → List (List ℕ) → List ℕ → Option (ℕ × ℕ) → Command R → Type 0
AsksFile words names line None command = Reads words line command
AsksFile words names line (Some file) command = (file.0 < length names) × ReadsFile line (name_at names file.0)

abbrev pub Asks : {R : Type 0} → Words R → List (List ℕ) → List ℕ → Command R → Type 0
Asks words names line command = AsksFile words names line (file_in command) command

-- line n asks for nothing: it is the head, blank, or a comment
abbrev pub AsksNothing : List (List ℕ) → ℕ → Type 0
AsksNothing lines n = IsHeadLine lines n ⊎ IsBlankOrComment (line_at lines n)

-- the commands of all lines before the first bad one, each with its line's number, in order
pub record AreCommands {R : Type 0} (words : Words R) (workers : ℕ) (lines names : List (List ℕ)) (commands : List (Numbered R)) : Type 0 where
  pub right : Each (λ item. IsBefore words workers lines item.line × Asks words names (line_at lines item.line) item.command) commands
  pub whole : (n : ℕ) → IsBefore words workers lines n → AsksNothing lines n ⊎ HasLine n commands
  pub order : Rises 0 commands

-- there is just one session before line n
pub record HasOneSession {R : Type 0} (words : Words R) (lines : List (List ℕ)) (n : ℕ) : Type 0 where
  pub session : Session R
  pub is : IsSession words lines n session
  pub only : (other : Session R) → IsSession words lines n other → other ≡ session

-- the grammar means what it says
pub record LinesMean {R : Type 0} (words : Words R) : Type 0 where
  -- a number is its digits, each further one worth ten times what stands before it and itself
  pub number : (digits : List ℕ) (n : ℕ) → (number_of digits ≡ Some n) ↔ Spells digits n
  pub no_digit : value_from 0 [] ≡ 0
  pub last_digit : (digits : List ℕ) (digit : ℕ) → value_from 0 (digits ++ digit ∷ []) ≡ 10 * value_from 0 digits + (digit - 48)
  -- one carriage return at the end of a line is dropped
  pub no_text : text_of [] ≡ []
  pub return : (text : List ℕ) → text_of (text ++ 13 ∷ []) ≡ text
  pub no_return : (text : List ℕ) (last : ℕ) → last ≢ 13 → text_of (text ++ last ∷ []) ≡ text ++ last ∷ []
  -- fields are parted by spaces, of which a line may have more at both ends
  pub no_field : (text : List ℕ) → (fields_of text ≡ []) ↔ Each IsSpace text
  pub first_field : (before field rest : List ℕ) → Each IsSpace before → IsField field → IsApart rest → fields_of (before ++ field ++ rest) ≡ field ∷ fields_of rest
  -- a line is skipped where it is blank or a comment, and a command where it is spelled as that one
  pub skipped : (line : List ℕ) → (kind_of words line ≡ Skipped) ↔ IsBlankOrComment line
  pub command : (line : List ℕ) (command : Command R) → (kind_of words line ≡ Plain command) ↔ Reads words line command
  pub file : (line name : List ℕ) → (kind_of words line ≡ OfFile name) ↔ ReadsFile line name
  -- the head is told by the first line
  pub head : (bytes : List ℕ) (head : Head) → (head_of bytes ≡ head) ↔ HasHead (lines_of bytes) head
  -- a line feed ends a line, and the last line may lack it
  pub no_line : lines_of [] ≡ []
  pub first_line : (line rest : List ℕ) → IsOneLine line → lines_of (line ++ 10 ∷ rest) ≡ line ∷ lines_of rest
  pub last_line : (line : List ℕ) → IsOneLine line → 1 ≤ length line → lines_of line ≡ line ∷ []
  -- each line has one session before it, in which some commands may stand
  pub session : (lines : List (List ℕ)) (n : ℕ) → 1 ≤ n → HasOneSession words lines n
  pub stands : (workers : ℕ) (session : Session R) (command : Command R) → (may_stand words workers session command ≡ true) ↔ Stands words workers session command
  -- the first bad line, by which files can be used, and the commands before the one that is bad whatever the files are
  pub bad : (usable : List ℕ → Bool) (workers : ℕ) (lines : List (List ℕ)) (n : ℕ) → (first_bad_by usable 1 (kinds_of words workers lines) ≡ Some n) ↔ IsFirstBad words usable workers lines n
  pub none_bad : (usable : List ℕ → Bool) (workers : ℕ) (lines : List (List ℕ)) → (first_bad_by usable 1 (kinds_of words workers lines) ≡ None) ↔ AreGood words usable workers lines
  pub commands : (workers : ℕ) (lines : List (List ℕ)) → AreCommands words workers lines (names_of (kinds_of words workers lines)) (numbered_of 1 (kinds_of words workers lines))
