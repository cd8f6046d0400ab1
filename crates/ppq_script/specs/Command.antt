-- Fields that are a command.
use Rattle.std.specs.Prelude.{ℕ, zero, suc, Bool, ◌&&◌, List, [], ◌∷◌, length, Option, Some, None, if◌then◌else◌, bytes_eq, codes, nat_le}
use Rattle.std.specs.List.{list_all}
use Rattle.std.specs.Char.{is_ascii_graphic}
use Rattle.ppq_script.specs.declared.command.Command.{Command}
use Rattle.ppq_script.specs.declared.command.Command.TheVariants.{Push, Pop, Top, Size, Gen, BulkPop, BulkPopLimit, Drain, BulkBegin, BulkPush, BulkEnd, LimitBegin, LimitPush, LimitTop, LimitPop, LimitEnd}
use Rattle.ppq_script.specs.Number.{number_of}
use Rattle.ppq_script.specs.Words.{Words}

-- a value behind which no field is left
abbrev pub alone : {X : Type 0} → X → List (List ℕ) → Option X
alone x [] = Some x
alone x (field ∷ fields) = None

-- the number that is the only field
abbrev pub one_of : List (List ℕ) → Option ℕ
one_of [] = None
one_of (field ∷ []) = number_of field
one_of (field ∷ next ∷ fields) = None

-- both, where both are there
abbrev pub both_of : {X Y : Type 0} → Option X → Option Y → Option (X × Y)
both_of None y = None
both_of (Some x) None = None
both_of (Some x) (Some y) = Some (x, y)

-- the numbers that are the two fields
abbrev pub two_of : List (List ℕ) → Option (ℕ × ℕ)
two_of [] = None
two_of (field ∷ fields) = both_of (number_of field) (one_of fields)

-- a number in front of others
abbrev pub in_front : Option ℕ → Option (List ℕ × List (List ℕ)) → Option (List ℕ × List (List ℕ))
in_front None rest = None
in_front (Some n) None = None
in_front (Some n) (Some rest) = Some (n ∷ rest.0, rest.1)

-- the numbers of the first so many fields, and the fields behind them
abbrev pub numbers_of : ℕ → List (List ℕ) → Option (List ℕ × List (List ℕ))
numbers_of zero fields = Some ([], fields)
numbers_of (suc n) [] = None
numbers_of (suc n) (field ∷ fields) = in_front (number_of field) (numbers_of n fields)

-- the record that has these numbers
abbrev pub item_made : {R : Type 0} → Words R → Option (List ℕ × List (List ℕ)) → Option (R × List (List ℕ))
item_made words None = None
item_made words (Some numbers) = Some (words.of_fields numbers.0, numbers.1)

-- the record that the first fields are, and the fields behind them
abbrev pub first_item : {R : Type 0} → Words R → List (List ℕ) → Option (R × List (List ℕ))
first_item words fields = item_made words (numbers_of words.COUNT fields)

-- the record behind which no field is left
abbrev pub last_item : {R : Type 0} → Option (R × List (List ℕ)) → Option R
last_item None = None
last_item (Some first) = alone first.0 first.1

-- the record that is all fields
abbrev pub item_of : {R : Type 0} → Words R → List (List ℕ) → Option R
item_of words fields = last_item (first_item words fields)

-- a record, and the number that is the only field behind it
abbrev pub counted : {R : Type 0} → Option (R × List (List ℕ)) → Option (R × ℕ)
counted None = None
counted (Some first) = both_of (Some first.0) (one_of first.1)

abbrev pub item_and_count : {R : Type 0} → Words R → List (List ℕ) → Option (R × ℕ)
item_and_count words fields = counted (first_item words fields)

-- a number of 32 bits in front of a record
abbrev pub small_pass : {R : Type 0} → Option (ℕ × R) → Option (ℕ × R)
small_pass None = None
small_pass (Some push) = if nat_le push.0 4294967295 then Some push else None

-- such a number, and the record that is all fields behind it
abbrev pub pass_of : {R : Type 0} → Words R → List (List ℕ) → Option (ℕ × R)
pass_of words [] = None
pass_of words (field ∷ fields) = small_pass (both_of (number_of field) (item_of words fields))

-- 1 to 255 bytes from 0x21 to 0x7E
abbrev pub is_file_name : List ℕ → Bool
is_file_name bytes = list_all is_ascii_graphic bytes && nat_le 1 (length bytes) && nat_le (length bytes) 255

-- the name of a file that is the only field
abbrev pub file_of : List (List ℕ) → Option (List ℕ)
file_of [] = None
file_of (field ∷ []) = if is_file_name field then Some field else None
file_of (field ∷ next ∷ fields) = None

-- the command that pushes a record
abbrev pub push_of : {R : Type 0} → Option R → Option (Command R)
push_of None = None
push_of (Some item) = Some (Push item)

-- the command that makes so many records from a seed, at most 4294967296
abbrev pub gen_of : {R : Type 0} → Option (ℕ × ℕ) → Option (Command R)
gen_of None = None
gen_of (Some pair) = if nat_le pair.1 4294967296 then Some (Gen pair.0 pair.1) else None

-- the commands that remove so many records
abbrev pub bulk_pop_of : {R : Type 0} → Option ℕ → Option (Command R)
bulk_pop_of None = None
bulk_pop_of (Some count) = Some (BulkPop count)

abbrev pub drain_of : {R : Type 0} → Option ℕ → Option (Command R)
drain_of None = None
drain_of (Some count) = Some (Drain count)

-- the one that removes at most so many of those before a record
abbrev pub bulk_pop_limit_of : {R : Type 0} → Option (R × ℕ) → Option (Command R)
bulk_pop_limit_of None = None
bulk_pop_limit_of (Some limit) = Some (BulkPopLimit limit.0 limit.1)

-- the commands by which the pass of this number pushes the record
abbrev pub bulk_push_of : {R : Type 0} → Option (ℕ × R) → Option (Command R)
bulk_push_of None = None
bulk_push_of (Some push) = Some (BulkPush push.0 push.1)

abbrev pub limit_push_of : {R : Type 0} → Option (ℕ × R) → Option (Command R)
limit_push_of None = None
limit_push_of (Some push) = Some (LimitPush push.0 push.1)

-- the one that begins a session with a record as its limit
abbrev pub limit_begin_of : {R : Type 0} → Option R → Option (Command R)
limit_begin_of None = None
limit_begin_of (Some limit) = Some (LimitBegin limit)

-- the command of this name with these fields behind it, of those of a limit session
abbrev pub limit_of : {R : Type 0} → Words R → List ℕ → List (List ℕ) → Option (Command R)
limit_of words name fields =
    if bytes_eq name (codes "limit_begin") then limit_begin_of (item_of words fields)
    else if bytes_eq name (codes "limit_push") then limit_push_of (pass_of words fields)
    else if bytes_eq name (codes "limit_top") then alone LimitTop fields
    else if bytes_eq name (codes "limit_pop") then alone LimitPop fields
    else if bytes_eq name (codes "limit_end") then alone LimitEnd fields
    else None

-- of those of a session
abbrev pub session_of : {R : Type 0} → Words R → List ℕ → List (List ℕ) → Option (Command R)
session_of words name fields =
    if bytes_eq name (codes "bulk_begin") then alone BulkBegin fields
    else if bytes_eq name (codes "bulk_push") then bulk_push_of (pass_of words fields)
    else if bytes_eq name (codes "bulk_end") then alone BulkEnd fields
    else limit_of words name fields

-- of those on many records and of a session
abbrev pub many_of : {R : Type 0} → Words R → List ℕ → List (List ℕ) → Option (Command R)
many_of words name fields =
    if bytes_eq name (codes "gen") then gen_of (two_of fields)
    else if bytes_eq name (codes "bulk_pop") then bulk_pop_of (one_of fields)
    else if bytes_eq name (codes "bulk_pop_limit") then bulk_pop_limit_of (item_and_count words fields)
    else if bytes_eq name (codes "drain") then drain_of (one_of fields)
    else session_of words name fields

-- the command of this name with these fields behind it, but for `bulk`
abbrev pub command_of : {R : Type 0} → Words R → List ℕ → List (List ℕ) → Option (Command R)
command_of words name fields =
    if bytes_eq name (codes "push") then push_of (item_of words fields)
    else if bytes_eq name (codes "pop") then alone Pop fields
    else if bytes_eq name (codes "top") then alone Top fields
    else if bytes_eq name (codes "size") then alone Size fields
    else many_of words name fields
