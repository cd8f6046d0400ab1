-- A file of a checked script has as many records as its length says.
use Rattle.std.proofs.Common.{◌≡◌, ℕ, ◌/◌, List, [], ◌∷◌, ◌++◌, Option, Some, sym, ap, ◌∙◌, inl, inr, length, subst, zero, suc}
use Rattle.std.specs.Prelude.{slice_get, map}
use Rattle.ppq_script.specs.Words.{Words}
use Rattle.ppq_script.specs.ppq_record.Bag.{IsSameBag}
use Rattle.ppq_load.specs.Given.{records_of}
use Rattle.ppq_load.proofs.ppq_block.Blocks.{length-records_from}
use Rattle.ppq_script.specs.ppq_outside.Told.{bytes_or_none}
use Rattle.ppq_script.specs.declared.command.Command.{Command}
use Rattle.ppq_script.specs.declared.command.Command.TheVariants.{Bulk}
use Rattle.ppq_script.specs.declared.numbered.Numbered.{Numbered}
use Rattle.ppq_script.specs.Files.{file_in, name_at}
use Rattle.ppq_script.specs.Checking.{with_size, with_sizes}
use Rattle.ppq_script.specs.Reading.{Reading, command_list}
use Rattle.ppq_engine.specs.Output.{AreFilesOf, KeepsLengths, given_of, outside, after}
use Rattle.ppq_engine.specs.Bounds.{HasLength}

pub has_length :
    {R : Type 0} (w : Words R) (told : Option (List ℕ → Option (List ℕ))) (script : Reading R) (files : List ℕ → Option (List ℕ)) (i : ℕ) (command : Command R)
    → slice_get (command_list script) i ≡ Some command → ((files : List ℕ → Option (List ℕ)) → told ≡ Some files → KeepsLengths files script) → AreFilesOf told script files → HasLength w (given_of w files script) command
has_length {R} w told script files i command here keeps (inl is) = λ file bytes e.
    let there : slice_get (command_list script) i ≡ Some (Bulk file bytes) = here ∙ ap (λ (c : Command R). Some c) e in
    let all = bytes_or_none (files (name_at script.names file)) in
    length-records_from w.record_of w.WIDTH (length all / w.WIDTH) all ∙ ap (λ (n : ℕ). n / w.WIDTH) (keeps files is i file bytes there)
has_length {R} w told script files i command here keeps (inr never) = λ file bytes e. absurd (never i file bytes (here ∙ ap (λ (c : Command R). Some c) e))

-- the records of a file that a command adds are those that the script's command gives
pub file-bag :
    {R : Type 0} (w : Words R) (told : Option (List ℕ → Option (List ℕ))) (script : Reading R) (i file size : ℕ) (command : Command R) (name : List ℕ) (bag next : List R)
    → slice_get (command_list script) i ≡ Some command → command ≡ Bulk file size → name ≡ name_at script.names file
    → ((files : List ℕ → Option (List ℕ)) → told ≡ Some files → IsSameBag next (records_of w.record_of w.WIDTH (bytes_or_none (files name)) ++ bag))
    → (files : List ℕ → Option (List ℕ)) → AreFilesOf told script files → IsSameBag next (after w (given_of w files script) (outside bag) command).bag
file-bag {R} w told script i file size command name bag next here is named loaded files (inl tells) =
    let P : List ℕ → Type 0 = λ n. IsSameBag next (records_of w.record_of w.WIDTH (bytes_or_none (files n)) ++ bag) in
    let Q : Command R → Type 0 = λ c. IsSameBag next (after w (given_of w files script) (outside bag) c).bag in
    subst Q (sym is) (subst P named (loaded files tells))
file-bag {R} w told script i file size command name bag next here is named loaded files (inr never) = absurd (never i file size (here ∙ ap (λ (c : Command R). Some c) is))

-- a command that was given the length of its file has it
sized : {R : Type 0} (files : List ℕ → Option (List ℕ)) (names : List (List ℕ)) (command : Command R) (file size : ℕ) → with_size files names (file_in command) command ≡ Bulk file size → length (bytes_or_none (files (name_at names file))) ≡ size
sized files names (Bulk f s) file size e =
    let same : f ≡ file = cc in
    let long : length (bytes_or_none (files (name_at names f))) ≡ size = cc in
    ap (λ (n : ℕ). length (bytes_or_none (files (name_at names n)))) (sym same) ∙ long
sized files names _ file size e = cc

sized_at :
    {R : Type 0} (files : List ℕ → Option (List ℕ)) (names : List (List ℕ)) (items : List (Numbered R)) (i file size : ℕ) → slice_get (map (λ n. n.command) (with_sizes files names items)) i ≡ Some (Bulk file size)
    → length (bytes_or_none (files (name_at names file))) ≡ size
sized_at files names [] i file size e = cc
sized_at files names (n ∷ items) zero file size e = let h : with_size files names (file_in n.command) n.command ≡ Bulk file size = cc in sized files names n.command file size h
sized_at files names (n ∷ items) (suc i) file size e = sized_at files names items i file size e

-- a script whose files were asked of a library keeps their lengths
pub keeps_lengths : {R : Type 0} (files : List ℕ → Option (List ℕ)) (script : Reading R) (asked : List (Numbered R)) → script.commands ≡ with_sizes files script.names asked → KeepsLengths files script
keeps_lengths {R} files script asked is = λ i file size here.
    sized_at files script.names asked i file size (ap (λ (items : List (Numbered R)). slice_get (map (λ n. n.command) items) i) (sym is) ∙ here)
