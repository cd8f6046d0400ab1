-- What a script that was read says of its files is not forgotten.
use Rattle.std.proofs.Common.{ℕ, List, [], ◌∷◌, Option, Some, None}
use Rattle.ppq_words.specs.ppq_outside.Told.{Reply, OfLength, Remembers}
use Rattle.std.specs.List.{AllZip}
use Rattle.ppq_words.specs.ppq_script.Words.{Words}
use Rattle.ppq_words.specs.ppq_script.declared.command.Command.{Command}
use Rattle.ppq_words.specs.ppq_script.declared.numbered.Numbered.{Numbered}
use Rattle.ppq_words.specs.ppq_script.Lines.{names_of, numbered_of}
use Rattle.ppq_words.specs.ppq_script.Files.{file_in, name_at}
use Rattle.ppq_words.specs.ppq_script.Checking.{IsAskedFile, IsAsked}
use Rattle.ppq_words.specs.ppq_script.Reading.{Reading}
use Rattle.ppq_cli.specs.Load.{script_kinds}
use Rattle.ppq_cli.specs.Replies.{Files, IsScript}

asked_remembered : {R : Type 0} (words : Words R) (before now : Reply → Type 0) (names : List (List ℕ)) (file : Option (ℕ × ℕ)) (old new : Command R) → Remembers before now → IsAskedFile words before names file old new → IsAskedFile words now names file old new
asked_remembered words before now names None old new kept asked = asked
asked_remembered words before now names (Some file) old new kept (length, (is, (reply, records))) = (length, (is, (kept (OfLength (name_at names file.0) (Some length)) reply, records)))

all_asked_remembered : {R : Type 0} (words : Words R) (before now : Reply → Type 0) (names : List (List ℕ)) (old new : List (Numbered R)) → Remembers before now → AllZip (IsAsked words before names) old new → AllZip (IsAsked words now names) old new
all_asked_remembered words before now names [] [] kept asked = tt
all_asked_remembered words before now names [] (y ∷ ys) kept asked = absurd asked
all_asked_remembered words before now names (x ∷ xs) [] kept asked = absurd asked
all_asked_remembered words before now names (x ∷ xs) (y ∷ ys) kept (one, rest) =
    (record { line = one.line; command = asked_remembered words before now names (file_in x.command) x.command y.command kept one.command }, all_asked_remembered words before now names xs ys kept rest)

-- a script that was read stays one while nothing is forgotten
pub script_remembered :
    {R : Type 0} (words : Words R) (told : Option Files) (before now : Reply → Type 0) (bytes : List ℕ) (workers : ℕ) (script : Reading R)
    → Remembers before now → IsScript words told before bytes workers script → IsScript words told now bytes workers script
script_remembered words told before now bytes workers script kept is = record {
  good = is.good;
  names = is.names;
  asked = all_asked_remembered words before now (names_of (script_kinds words bytes workers)) (numbered_of 1 (script_kinds words bytes workers)) script.commands kept is.asked;
  usable = is.usable;
  lengths = is.lengths;
  ready = is.ready;
  same_workers = is.same_workers;
}
