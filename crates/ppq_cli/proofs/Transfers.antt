-- What a script that was read says of its blocks, and what is said where there are none.
use Rattle.std.proofs.Common.{◌≡◌, ℕ, ◌*◌, ◌≤◌, List, [], map, Option, Some, None, refl, sym, ap, subst, arith, inl, inr}
use Rattle.std.specs.Prelude.{IfSome, String}
use Rattle.std.specs.declared.alloc.Global.{Global}
use Rattle.std.proofs.lemmas.List.Elements.{All-nil}
use Rattle.ppq_words.specs.ppq_outside.Shown.{Shown}
use Rattle.ppq_words.specs.ppq_outside.Told.{Reply}
use Rattle.ppq_words.specs.ppq_budget.Sizes.{Numbers}
use Rattle.ppq_words.specs.ppq_script.declared.command.Command.{Command}
use Rattle.ppq_words.specs.Reading.{Reading as Arguments, sizes_at}
use Rattle.ppq_jobs.specs.ppq_engine.ppq_array.Kept.{all_writes}
use Rattle.ppq_jobs.specs.ppq_engine.ppq_array.Supply.{IsSlot}
use Rattle.ppq_jobs.specs.ppq_engine.ppq_counts.Tally.{Tally}
use Rattle.ppq_jobs.specs.ppq_engine.Work.{work_of}
use Rattle.ppq_jobs.specs.ppq_engine.declared.end.Ended.{Ended}
use Rattle.ppq_files.specs.Whole.{IsLoaded}
use Rattle.ppq_cli.specs.Replies.{Files, TransfersOf}
use Rattle.ppq_cli.specs.RunWords.{reading, script_commands, About, OfFile, OfScript, TransfersBounded, AreTransfersRight}
use Rattle.ppq_cli.specs.Transfers.{TransfersWithin}
use Rattle.ppq_cli.specs.Types.{RecordType, type_of}
use Rattle.ppq_cli.proofs.Ends.{of_commands, of_bytes}

-- no block is within every bound
none_within : (sizes : Numbers) (width : ℕ) (work : Tally) → TransfersWithin sizes width work []
none_within sizes width work =
    let none : all_writes [] ≡ 0 = refl in
    let nothing = ap (λ n. sizes.block * n) none in
    record { writes = λ few. omega (arith, nothing); read = omega arith; each = All-nil (IsSlot (sizes.block * width)) }

pub of_any : {A : Type 0} (o : Option A) (P : A → Type 0) → ((a : A) → P a) → IfSome o P
of_any None P holds = tt
of_any (Some a) P holds = holds a

-- what holds of every script holds of the one that the words name
pub of_every :
    {L : Type 0} (told : L → Option Files) (library : L) (words : List (String Global)) (P : About) → ((type : RecordType) (r : Arguments) (given : ℕ → List type.R) (commands : List (Command type.R)) → P type r given commands)
    → OfScript told library words P
of_every told library words P holds = of_any (reading words) _ (λ r. of_any (told library) _ (λ files. of_any (files r.script) _ (λ bytes. holds (type_of bytes) r _ _)))

any_file : {S : Type 0} (shown : S → Shown) (ended : Ended S) (told : Option Files) (r : Arguments) → map shown ended.blocks.items ≡ [] → OfFile told r (TransfersBounded shown ended)
any_file shown ended told r none =
    of_any told _ (λ files. of_any (files r.script) _ (λ bytes.
    let type = type_of bytes in
    let sizes = sizes_at type.words.WIDTH r in
    let work = work_of type.words sizes (script_commands type.words files bytes r.given.numbers.workers) in
    let Within : List Shown → Type 0 = λ s. TransfersWithin sizes type.words.WIDTH work s in
    subst Within (sym none) (none_within sizes type.words.WIDTH work)))

-- so whatever the script is
pub any_script :
    {L S : Type 0} (shown : S → Shown) (ended : Ended S) (told : L → Option Files) (library : L) (words : List (String Global)) → ended.blocks.items ≡ []
    → OfScript told library words (TransfersBounded shown ended)
any_script shown ended told library words none = of_any (reading words) _ (λ r. any_file shown ended (told library) r (ap (map shown) none))

pub any_reply :
    {L S : Type 0} (shown : S → Shown) (ended : Ended S) (told : L → Option Files) (library : L) (replied : L → Reply → Type 0) (later : L) (words : List (String Global)) → ended.blocks.items ≡ []
    → AreTransfersRight words told library replied later shown ended
any_reply shown ended told library replied later words none = of_any (reading words) _ (λ r. inl (ap (map shown) none))

-- the transfers of a script that was read are those of its file
pub of_file :
    {S : Type 0} (shown : S → Shown) (ended : Ended S) (told : Option Files) (replied : Reply → Type 0) (r : Arguments) (bytes : List ℕ)
    → IsLoaded told r.script bytes → TransfersOf (type_of bytes).words told replied r bytes (map shown ended.blocks.items) → OfFile told r (TransfersBounded shown ended)
of_file shown ended told replied r bytes loaded (inl none) = any_file shown ended told r none
of_file shown ended told replied r bytes loaded (inr (script, (is, within))) =
    of_bytes told r bytes (TransfersBounded shown ended) loaded (of_commands (type_of bytes).words told replied r bytes script (TransfersBounded shown ended) is (λ files are. within))
