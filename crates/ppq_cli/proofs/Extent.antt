-- Which files the program asks for, and how far it reads them.
use Rattle.std.proofs.Common.{ℕ, List, Option, inl, inr}
use Rattle.std.specs.Prelude.{◌⊎◌}
use Rattle.ppq_files.specs.Reading.{IsOn}
use Rattle.ppq_files.proofs.Asked.{later_on}
use Rattle.ppq_words.specs.ppq_outside.Told.{Reply, Remembers, RepliesOnly}
use Rattle.ppq_words.proofs.ppq_outside.Replies.{replies_wider, replies_then}
use Rattle.ppq_words.specs.ppq_script.Words.{Words}
use Rattle.ppq_words.specs.ppq_script.Files.{IsLength}
use Rattle.ppq_words.specs.ppq_script.Checking.{IsKeptLength}
use Rattle.ppq_words.specs.ppq_script.Reading.{Reading}
use Rattle.ppq_words.specs.Reading.{Reading as Arguments}
use Rattle.ppq_jobs.specs.ppq_engine.Files.{IsReadInScript}
use Rattle.ppq_jobs.specs.ppq_engine.declared.end.End.{End}
use Rattle.ppq_cli.specs.Replies.{Files, IsOnFile, AsksOf}

-- first of one file, and then of others too
then_others :
    (before mid now : Reply → Type 0) (asked : List ℕ) (Other : Reply → Type 0) → Remembers mid now → RepliesOnly before mid (IsOn mid asked) → RepliesOnly mid now (λ reply. IsOn now asked reply ⊎ Other reply)
    → RepliesOnly before now (λ reply. IsOn now asked reply ⊎ Other reply)
then_others before mid now asked Other kept first next =
    let kind : Reply → Type 0 = λ reply. IsOn now asked reply ⊎ Other reply in
    replies_then before mid now kind (replies_wider before mid (IsOn mid asked) kind (λ reply on. inl (later_on mid now asked kept reply on)) first) next

-- so of a script that was loaded, and then of its files
pub files_asked :
    {R : Type 0} (words : Words R) (told : Option Files) (before mid now : Reply → Type 0) (r : Arguments) (bytes : List ℕ) (end : End) → Remembers mid now → RepliesOnly before mid (IsOn mid r.script)
    → AsksOf words told mid now r bytes end → AsksOf words told before now r bytes end
files_asked words told before mid now r bytes end kept first (inl (check, next)) = inl (check, then_others before mid now r.script IsLength kept first next)
files_asked words told before mid now r bytes end kept first (inr (script, (is, next))) = inr (script, (is, then_others before mid now r.script (IsOnFile script) kept first next))

-- first the lengths that commands keep, and then reads up to these
pub commands_asked :
    {R : Type 0} (before mid now : Reply → Type 0) (r : Arguments) (script : Reading R) → RepliesOnly before mid (IsKeptLength script) → RepliesOnly mid now (IsReadInScript script)
    → RepliesOnly before now (λ reply. IsOn now r.script reply ⊎ IsOnFile script reply)
commands_asked before mid now r script first next =
    let kind : Reply → Type 0 = λ reply. IsOn now r.script reply ⊎ IsOnFile script reply in
    replies_then before mid now kind (replies_wider before mid (IsKeptLength script) kind (λ reply kept. inr (inl kept)) first)
    (replies_wider mid now (IsReadInScript script) kind (λ reply read. inr (inr read)) next)

-- lengths alone
pub lengths_asked : (before now : Reply → Type 0) (r : Arguments) → RepliesOnly before now IsLength → RepliesOnly before now (λ reply. IsOn now r.script reply ⊎ IsLength reply)
lengths_asked before now r only = replies_wider before now IsLength (λ reply. IsOn now r.script reply ⊎ IsLength reply) (λ reply length. inr length) only
