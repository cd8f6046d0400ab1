-- How much a script may push: it has no more commands than bytes, and none pushes more than 4,294,967,296 records. So the numbers of its work are
-- far from the value at which they would stand still.
use Rattle.std.proofs.Common.{◌≡◌, ℕ, ◌+◌, ◌*◌, ◌/◌, ◌<◌, ◌≤◌, Bool, true, false, cond, List, [], ◌∷◌, All, length, map, Option, Some, None, refl, sym, ap, subst, arith, inl, inr, eq-zero-or-pos, div-le_self, div-lt_iff_lt-mul}
use Rattle.std.specs.Int.{div_ceil}
use Rattle.std.specs.Prelude.{◌==◌}
use Rattle.std.specs.List.{AllZip, AllByRecursion as Each}
use Rattle.std.proofs.lemmas.List.Sums.{sum_by-cons}
use Rattle.ppq_words.specs.ppq_outside.Told.{Reply}
use Rattle.ppq_words.specs.ppq_outside.Shown.{Shown}
use Rattle.ppq_words.specs.ppq_budget.Sizes.{Numbers, heap_of}
use Rattle.ppq_words.specs.ppq_script.Words.{Words}
use Rattle.ppq_words.specs.ppq_script.declared.command.Command.{Command}
use Rattle.ppq_words.specs.ppq_script.declared.command.Command.TheVariants.{Bulk, Gen, BulkBegin, LimitBegin}
use Rattle.ppq_words.specs.ppq_script.declared.head.Head.{Head}
use Rattle.ppq_words.specs.ppq_script.declared.numbered.Numbered.{Numbered}
use Rattle.ppq_words.specs.ppq_script.declared.session.Session.{Session}
use Rattle.ppq_words.specs.ppq_script.declared.session.Session.TheVariants.{Outside}
use Rattle.ppq_words.specs.ppq_script.Lines.{onto, lines_of, LineKind, Skipped, Plain, OfFile, Bad, kind_of, session_behind, placed, kinds_from, head_line, headed, kinds_of, file_after, before_bad, numbered_from, numbered_of, names_of}
use Rattle.ppq_words.specs.ppq_script.Meaning.{IsSpelled, fields_in}
use Rattle.ppq_words.specs.ppq_script.Sessions.{is_outside, may_stand}
use Rattle.ppq_words.specs.ppq_script.Files.{file_in}
use Rattle.ppq_words.specs.ppq_script.Checking.{IsAsked, IsAskedFile}
use Rattle.ppq_words.specs.ppq_script.Reading.{Reading, command_list}
use Rattle.ppq_words.proofs.ppq_script.Spelling.{Reads-Plain}
use Rattle.ppq_words.proofs.ppq_script.WordLaws.{Laws}
use Rattle.ppq_jobs.specs.ppq_engine.ppq_array.Supply.{IsSlot}
use Rattle.ppq_jobs.specs.ppq_engine.ppq_counts.Tally.{Tally, IsCounting}
use Rattle.ppq_jobs.specs.ppq_engine.Work.{pushes_of, begins_of, pushed_by, begun_by, work_of, TransfersFew}
use Rattle.ppq_jobs.proofs.ppq_engine.ppq_load.ppq_queue.Overreads.{spent_all}
use Rattle.ppq_cli.specs.Load.{script_kinds}
use Rattle.ppq_cli.specs.Replies.{Files, IsScript}
use Rattle.ppq_cli.specs.Transfers.{TransfersWithin}

-- lines are no more than bytes
onto_length : (b : ℕ) (ls : List (List ℕ)) → length (onto b ls) ≤ length ls + 1
onto_length b [] = omega arith
onto_length b (l ∷ ls) = omega arith

cut_length : (feed : Bool) (b : ℕ) (ls : List (List ℕ)) → length (cond feed ([] ∷ ls) (onto b ls)) ≤ length ls + 1
cut_length true b ls = omega arith
cut_length false b ls = onto_length b ls

lines_length : (bytes : List ℕ) → length (lines_of bytes) ≤ length bytes
lines_length [] = omega arith
lines_length (b ∷ bs) = omega (arith, cut_length (b == 10) b (lines_of bs), lines_length bs)

-- commands are no more than lines, and one that a session may leave open
module _ {R : Type 0} (words : Words R) (workers : ℕ) where
  open_length : (outside : Bool) → length (cond {A = List (LineKind R)} outside [] (Bad ∷ [])) ≤ 1
  open_length true = omega arith
  open_length false = omega arith

  kinds_from_length : (session : Session R) (ls : List (List ℕ)) → length (kinds_from words workers session ls) ≤ length ls + 1
  kinds_from_length session [] = open_length (is_outside session)
  kinds_from_length session (l ∷ ls) = omega (arith, kinds_from_length (session_behind session (kind_of words l)) ls)

  headed_length : (head : Option Head) (l : List ℕ) (ls : List (List ℕ)) → length (headed words workers head l ls) ≤ length ls + 2
  headed_length None l ls = omega (arith, kinds_from_length Outside (l ∷ ls))
  headed_length (Some head) l ls = omega (arith, kinds_from_length Outside ls)

  kinds_length : (ls : List (List ℕ)) → length (kinds_of words workers ls) ≤ length ls + 1
  kinds_length [] = omega arith
  kinds_length (l ∷ ls) = omega (arith, headed_length (head_line l) l ls)

-- what a line adds to them, and all lines
before_length : {R : Type 0} (n file : ℕ) (kind : LineKind R) (rest : List (Numbered R)) → length (before_bad n file kind rest) ≤ length rest + 1
before_length n file Skipped rest = omega arith
before_length n file (Plain command) rest = omega arith
before_length n file (OfFile name) rest = omega arith
before_length n file Bad rest = omega arith

numbered_length : {R : Type 0} (n file : ℕ) (kinds : List (LineKind R)) → length (numbered_from n file kinds) ≤ length kinds
numbered_length n file [] = omega arith
numbered_length n file (kind ∷ kinds) = omega (arith, before_length n file kind (numbered_from (n + 1) (file_after file kind) kinds), numbered_length (n + 1) (file_after file kind) kinds)

-- so many whole records have a length of no more than so many
few_records : (width length : ℕ) → length ≤ 4294967296 * width → length / width ≤ 4294967296
few_records width length few = elim (eq-zero-or-pos width) as (λ _. length / width ≤ 4294967296) [
  | inl none ↦ omega (arith, div-le_self length width, few, none)
  | inr some ↦ let below : length / width < 4294967297 = (div-lt_iff_lt-mul some).1 (omega (arith, few)) in omega (arith, below)
]

-- whatever the size of a heap, so many records fill no more heaps than there are records, and one
filled : (records heap : ℕ) → div_ceil records heap ≤ records + 1
filled records heap = omega (arith, div-le_self records heap)

-- numbers that are far from the value at which they would stand still
record AreFew (t : Tally) : Type 0 where
  accepted : t.accepted ≤ 4294967296 * 1048577
  stores : t.stores ≤ t.accepted + 1
  sessions : t.sessions ≤ 1048577

-- a command begins no more than one session
begins_few : {R : Type 0} (command : Command R) → begins_of command ≤ 1
begins_few (Bulk file size) = omega arith
begins_few (Gen seed count) = omega arith
begins_few BulkBegin = omega arith
begins_few (LimitBegin limit) = omega arith
begins_few command = omega arith

module _ {R : Type 0} (words : Words R) where
  -- a command that pushes no more than 4,294,967,296 records
  abbrev IsFew : Command R → Type 0
  IsFew command = pushes_of words command ≤ 4294967296

  -- a line that is none but such a command
  abbrev IsFewKind : LineKind R → Type 0
  IsFewKind Skipped = Unit {0}
  IsFewKind (Plain command) = IsFew command
  IsFewKind (OfFile name) = Unit {0}
  IsFewKind Bad = Unit {0}

  -- what a line is read as is such a command
  spelled_few : (fields : List (List ℕ)) (command : Command R) → IsSpelled words fields command → IsFew command
  spelled_few fields (Bulk file size) spelled = absurd spelled
  spelled_few fields (Gen seed count) spelled = spelled.1
  spelled_few fields command spelled = omega arith

  kind_few : Laws words → (line : List ℕ) (kind : LineKind R) → kind_of words line ≡ kind → IsFewKind kind
  kind_few laws line Skipped is = tt
  kind_few laws line (Plain command) is = spelled_few (fields_in line) command (Reads-Plain words laws line command is)
  kind_few laws line (OfFile name) is = tt
  kind_few laws line Bad is = tt

  -- and it is where it stands
  stands_few : (stands : Bool) (command : Command R) → IsFew command → IsFewKind (cond stands (Plain command) Bad)
  stands_few true command few = few
  stands_few false command few = tt

  file_few : (outside : Bool) (name : List ℕ) → IsFewKind (cond outside (OfFile name) Bad)
  file_few true name = tt
  file_few false name = tt

  placed_few : (workers : ℕ) (session : Session R) (kind : LineKind R) → IsFewKind kind → IsFewKind (placed words workers session kind)
  placed_few workers session Skipped few = tt
  placed_few workers session (Plain command) few = stands_few (may_stand words workers session command) command few
  placed_few workers session (OfFile name) few = file_few (is_outside session) name
  placed_few workers session Bad few = tt

  open_few : (outside : Bool) → Each IsFewKind (cond outside [] (Bad ∷ []))
  open_few true = tt
  open_few false = (tt, tt)

  kinds_from_few : Laws words → (workers : ℕ) (session : Session R) (ls : List (List ℕ)) → Each IsFewKind (kinds_from words workers session ls)
  kinds_from_few laws workers session [] = open_few (is_outside session)
  kinds_from_few laws workers session (l ∷ ls) = (placed_few workers session (kind_of words l) (kind_few laws l (kind_of words l) refl), kinds_from_few laws workers (session_behind session (kind_of words l)) ls)

  headed_few : Laws words → (workers : ℕ) (head : Option Head) (l : List ℕ) (ls : List (List ℕ)) → Each IsFewKind (headed words workers head l ls)
  headed_few laws workers None l ls = kinds_from_few laws workers Outside (l ∷ ls)
  headed_few laws workers (Some head) l ls = (tt, kinds_from_few laws workers Outside ls)

  kinds_few : Laws words → (workers : ℕ) (ls : List (List ℕ)) → Each IsFewKind (kinds_of words workers ls)
  kinds_few laws workers [] = tt
  kinds_few laws workers (l ∷ ls) = headed_few laws workers (head_line l) l ls

  -- so is each command that is read from such lines
  abbrev AreAllFew : List (Numbered R) → Type 0
  AreAllFew items = Each (λ n. IsFew n.command) items

  before_few : (n file : ℕ) (kind : LineKind R) (rest : List (Numbered R)) → IsFewKind kind → AreAllFew rest → AreAllFew (before_bad n file kind rest)
  before_few n file Skipped rest few all = all
  before_few n file (Plain command) rest few all = (few, all)
  before_few n file (OfFile name) rest few all = (few_records words.WIDTH 0 (omega arith), all)
  before_few n file Bad rest few all = tt

  numbered_few : (n file : ℕ) (kinds : List (LineKind R)) → Each IsFewKind kinds → AreAllFew (numbered_from n file kinds)
  numbered_few n file [] few = tt
  numbered_few n file (kind ∷ kinds) few = before_few n file kind (numbered_from (n + 1) (file_after file kind) kinds) few.0 (numbered_few (n + 1) (file_after file kind) kinds few.1)

  -- and each with the length that the library replied of its file
  asked_few : (replied : Reply → Type 0) (names : List (List ℕ)) (file : Option (ℕ × ℕ)) (old new : Command R) → IsAskedFile words replied names file old new → IsFew old → IsFew new
  asked_few replied names None old new is few = subst IsFew (sym is) few
  asked_few replied names (Some file) old new (long, (is, (reply, records))) few = subst IsFew (sym is) (few_records words.WIDTH long records.1)

  all_asked_few : (replied : Reply → Type 0) (names : List (List ℕ)) (old new : List (Numbered R)) → AllZip (IsAsked words replied names) old new → AreAllFew old → AreAllFew new × (length new ≤ length old)
  all_asked_few replied names [] [] asked few = (tt, omega arith)
  all_asked_few replied names [] (y ∷ ys) asked few = absurd asked
  all_asked_few replied names (x ∷ xs) [] asked few = absurd asked
  all_asked_few replied names (x ∷ xs) (y ∷ ys) (one, rest) few =
      let others = all_asked_few replied names xs ys rest few.1 in
      ((asked_few replied names (file_in x.command) x.command y.command one.command few.0, others.0), omega (arith, others.1))

  -- so many commands push so many records at the most, and begin so many sessions
  pushed_few : (items : List (Numbered R)) → AreAllFew items → pushed_by words (map (λ n. n.command) items) ≤ 4294967296 * length items
  pushed_few [] few = omega arith
  pushed_few (item ∷ items) few =
      omega (arith, sum_by-cons (pushes_of words) item.command (map (λ (n : Numbered R). n.command) items), few.0, pushed_few items few.1)

  begun_few : (items : List (Numbered R)) → begun_by (map (λ n. n.command) items) ≤ length items
  begun_few [] = omega arith
  begun_few (item ∷ items) =
      omega (arith, sum_by-cons begins_of item.command (map (λ (n : Numbered R). n.command) items), begins_few item.command, begun_few items)

  -- the work of a script that was read is far from the last value of each number
  script_few :
      Laws words → (told : Option Files) (replied : Reply → Type 0) (bytes : List ℕ) (workers : ℕ) (script : Reading R) → length bytes ≤ 1048576
      → IsScript words told replied bytes workers script → (sizes : Numbers) → AreFew (work_of words sizes (command_list script))
  script_few laws told replied bytes workers script short is sizes =
      let kinds = script_kinds words bytes workers in
      let lines = lines_length bytes in
      let known = kinds_length words workers (lines_of bytes) in
      let first = numbered_length 1 0 kinds in
      let all = all_asked_few replied (names_of kinds) (numbered_of 1 kinds) script.commands is.asked (numbered_few 1 0 kinds (kinds_few laws workers (lines_of bytes))) in
      let pushed = pushed_few script.commands all.0 in
      let begun = begun_few script.commands in
      record {
        accepted = omega (arith, lines, known, first, all.1, pushed, short);
        stores = filled (pushed_by words (command_list script)) (heap_of sizes);
        sessions = omega (arith, lines, known, first, all.1, begun, short);
      }

  -- so the transfers of its blocks are within the bound
  pub within :
      Laws words → (told : Option Files) (replied : Reply → Type 0) (bytes : List ℕ) (workers : ℕ) (script : Reading R) → length bytes ≤ 1048576
      → IsScript words told replied bytes workers script → (sizes : Numbers) (slots : List Shown) → TransfersFew words (command_list script) sizes slots
      → All (IsSlot (sizes.block * words.WIDTH)) slots → TransfersWithin sizes words.WIDTH (work_of words sizes (command_list script)) slots
  within laws told replied bytes workers script short is sizes slots transfers each =
      let few = script_few laws told replied bytes workers script short is sizes in
      let counting : IsCounting (work_of words sizes (command_list script)) =
      record {
        accepted = omega (arith, few.accepted);
        stores = omega (arith, few.accepted, few.stores);
        sessions = omega (arith, few.sessions);
      } in
      record {
        writes = transfers.writes counting;
        read = spent_all slots transfers.read;
        each = each;
      }
