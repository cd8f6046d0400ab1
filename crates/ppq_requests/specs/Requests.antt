-- The operations of a request, and the commands that they stand for.
use Rattle.std.specs.Prelude.{◌≡◌, ℕ, zero, suc, ◌*◌, ◌/◌, ◌==◌, List, [], ◌∷◌, ◌++◌, length, take, drop, map, nat_lt, Option, Some, None, option_map, is_some, true, if◌then◌else◌, ⊤}
use Rattle.std.specs.List.{AllByRecursion as Each}
use Rattle.std.specs.Int.{w32, w64, from_be_bytes}
use Rattle.ppq_record.specs.Given.{records_from}
use Rattle.ppq_script.specs.Words.{Words}
use Rattle.ppq_script.specs.declared.command.Command.{Command}
use Rattle.ppq_script.specs.declared.command.Command.TheVariants.{Push, Pop, Top, Size, BulkPop, BulkPopLimit}
use Rattle.ppq_requests.specs.declared.operation.Operation.{Operation}
use Rattle.ppq_requests.specs.declared.operation.Operation.TheVariants as op

-- the first so many bytes and those behind them, where there are as many
abbrev pub cut_of : ℕ → List ℕ → Option (List ℕ × List ℕ)
cut_of count bytes = if nat_lt (length bytes) count then None else Some (take count bytes, drop count bytes)

-- a number of eight bytes, the highest first, and what is behind it
abbrev pub first_number : List ℕ → Option (ℕ × List ℕ)
first_number bytes = option_map (λ cut. (from_be_bytes w64 cut.0, cut.1)) (cut_of 8 bytes)

-- a record, and what is behind it
abbrev pub first_record : {R : Type 0} → Words R → List ℕ → Option (R × List ℕ)
first_record w bytes = option_map (λ cut. (w.record_of cut.0, cut.1)) (cut_of w.WIDTH bytes)

-- a number of four bytes and the bytes of so many records, and what is behind them
abbrev pub records_behind : ℕ → Option (List ℕ × List ℕ) → Option (List ℕ × List ℕ)
records_behind width None = None
records_behind width (Some cut) = cut_of (from_be_bytes w32 cut.0 * width) cut.1

abbrev pub first_records : ℕ → List ℕ → Option (List ℕ × List ℕ)
first_records width bytes = records_behind width (cut_of 4 bytes)

-- the records that stand in bytes, one behind the other
abbrev pub records_in : {R : Type 0} → Words R → List ℕ → List R
records_in w bytes = records_from w.record_of w.WIDTH (length bytes / w.WIDTH) bytes

-- what is pushed, and what is behind it
abbrev pub pushes_of : {R : Type 0} → Words R → Option (List ℕ × List ℕ) → Option (List (Command R) × List ℕ)
pushes_of w cut = option_map (λ cut. (map Push (records_in w cut.0), cut.1)) cut

-- one command with a record, with a number, or with both
abbrev pub pushed : {R : Type 0} → Option (R × List ℕ) → Option (List (Command R) × List ℕ)
pushed cut = option_map (λ cut. (Push cut.0 ∷ [], cut.1)) cut

abbrev pub numbered : {R : Type 0} → (ℕ → Command R) → Option (ℕ × List ℕ) → Option (List (Command R) × List ℕ)
numbered command cut = option_map (λ cut. (command cut.0 ∷ [], cut.1)) cut

abbrev pub limited : {R : Type 0} → Option (R × List ℕ) → Option (List (Command R) × List ℕ)
limited None = None
limited (Some cut) = numbered (BulkPopLimit cut.0) (first_number cut.1)

-- the commands of the operation with this letter, and what is behind it: +, P, p, t, n, b
abbrev pub operation_of : {R : Type 0} → Words R → ℕ → List ℕ → Option (List (Command R) × List ℕ)
operation_of w letter bytes =
    if letter == 43 then pushed (first_record w bytes)
    else if letter == 80 then pushes_of w (first_records w.WIDTH bytes)
    else if letter == 112 then Some (Pop ∷ [], bytes)
    else if letter == 116 then Some (Top ∷ [], bytes)
    else if letter == 110 then numbered BulkPop (first_number bytes)
    else if letter == 98 then limited (first_record w bytes)
    else None

abbrev pub first_operation : {R : Type 0} → Words R → List ℕ → Option (List (Command R) × List ℕ)
first_operation w [] = None
first_operation w (letter ∷ bytes) = operation_of w letter bytes

-- the commands of an operation
abbrev pub commands_of : {R : Type 0} → Words R → Operation R → List (Command R)
commands_of w (op.Push item) = Push item ∷ []
commands_of w (op.PushMany records) = map Push (records_in w records.now)
commands_of w op.Pop = Pop ∷ []
commands_of w op.Top = Top ∷ []
commands_of w (op.BulkPop count) = BulkPop count ∷ []
commands_of w (op.BulkPopLimit limit count) = BulkPopLimit limit count ∷ []

-- the records that it brings are values, and its bytes are those of whole records
abbrev pub IsWhole : {R : Type 0} → Words R → Operation R → Type 0
IsWhole w (op.Push item) = w.is_value item
IsWhole w (op.PushMany records) = length records.now ≡ length records.now / w.WIDTH * w.WIDTH
IsWhole w op.Pop = ⊤
IsWhole w op.Top = ⊤
IsWhole w (op.BulkPop count) = ⊤
IsWhole w (op.BulkPopLimit limit count) = w.is_value limit

-- The commands of a request: those of its operations, one behind the other, where it is that. An operation has a byte at least, so as many
-- steps as there are bytes are enough.
abbrev pub in_front : {R : Type 0} → List (Command R) → Option (List (Command R)) → Option (List (Command R))
in_front commands rest = option_map (λ behind. commands ++ behind) rest

abbrev pub request_behind : {R : Type 0} → (List ℕ → Option (List (Command R))) → Option (List (Command R) × List ℕ) → Option (List (Command R))
request_behind rest None = None
request_behind rest (Some cut) = in_front cut.0 (rest cut.1)

abbrev pub request_by : {R : Type 0} → Words R → ℕ → List ℕ → Option (List (Command R))
request_by w steps [] = Some []
request_by w zero (byte ∷ bytes) = None
request_by w (suc steps) (byte ∷ bytes) = request_behind (request_by w steps) (operation_of w byte bytes)

abbrev pub request_of : {R : Type 0} → Words R → List ℕ → Option (List (Command R))
request_of w bytes = request_by w (length bytes) bytes

-- The commands of requests: those of each, and `size` behind them, so that the answer to each ends with the one frame of eight bytes in it.
-- Where one is no request, those in front of it.
abbrev pub answered : {R : Type 0} → Option (List (Command R)) → List (Command R) → List (Command R)
answered None behind = []
answered (Some commands) behind = commands ++ Size ∷ behind

abbrev pub requests_of : {R : Type 0} → Words R → List (List ℕ) → List (Command R)
requests_of w [] = []
requests_of w (request ∷ requests) = answered (request_of w request) (requests_of w requests)

-- each of these is a request
abbrev pub AreAsked : {R : Type 0} → Words R → List (List ℕ) → Type 0
AreAsked w requests = Each (λ request. is_some (request_of w request) ≡ true) requests
