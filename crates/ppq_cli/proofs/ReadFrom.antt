-- A script that was read, and why the check of its files refused it.
use Rattle.std.proofs.Common.{◌≡◌, ℕ, Bool, List, Option, Some, None, sym, ◌∙◌, subst, inl, inr}
use Rattle.std.specs.Prelude.{Result, Ok, Err, IfSome}
use Rattle.ppq_words.specs.ppq_outside.Told.{Reply}
use Rattle.ppq_words.specs.ppq_script.Words.{Words}
use Rattle.ppq_words.specs.ppq_script.declared.numbered.Numbered.{Numbered}
use Rattle.ppq_words.specs.ppq_script.declared.check.CheckFault.{CheckFault}
use Rattle.ppq_words.specs.ppq_script.declared.check.CheckFault.TheVariants as check
use Rattle.ppq_words.specs.ppq_script.Lines.{lines_of, names_of, numbered_of, first_bad, first_bad_by}
use Rattle.ppq_words.specs.ppq_script.Files.{is_usable, IsBadAmong}
use Rattle.ppq_words.specs.ppq_script.Checking.{bad_of, IsCheckAnswer, CheckRefusalIsRight}
use Rattle.ppq_words.specs.ppq_script.Reading.{Reading}
use Rattle.ppq_words.proofs.ppq_script.BadFiles.{IsBadLine-IsBadAmong}
use Rattle.ppq_words.proofs.ppq_script.WordLaws.{Laws}
use Rattle.ppq_cli.specs.Load.{script_kinds}
use Rattle.ppq_cli.specs.Replies.{Files, IsRefused}

-- a script that was read from bytes
pub record IsReadFrom {R : Type 0} (words : Words R) (bytes : List ℕ) (workers : ℕ) (script : Reading R) : Type 0 where
  pub commands : script.commands ≡ numbered_of 1 (script_kinds words bytes workers)
  pub names : script.names ≡ names_of (script_kinds words bytes workers)
  pub bad : script.bad ≡ first_bad 1 (script_kinds words bytes workers)
  pub files : (usable : List ℕ → Bool) → bad_of usable script ≡ first_bad_by usable 1 (script_kinds words bytes workers)

some_bad : {T : Type 0} (bad : Option ℕ) (result : Result T CheckFault) (line : ℕ) → result ≡ Err (check.BadLine line) → IsCheckAnswer bad result → bad ≡ Some line
some_bad None (Ok x) line is answer = cc
some_bad None (Err e) line is (inl ok) = cc
some_bad None (Err e) line is (inr (inl other)) = cc
some_bad None (Err e) line is (inr (inr other)) = cc
some_bad (Some n) (Ok x) line is answer = cc
some_bad (Some n) (Err e) line is (inl other) = cc
some_bad (Some n) (Err e) line is (inr (inl other)) = cc
some_bad (Some n) (Err e) line is (inr (inr other)) = cc

module _ {R : Type 0} (words : Words R) where
  refused_by : {T : Type 0} (told : Option Files) (bytes : List ℕ) (workers : ℕ) (old : Reading R) (result : Result T CheckFault) (line : ℕ) → result ≡ Err (check.BadLine line) → IsReadFrom words bytes workers old
      → IfSome told (λ files. IsCheckAnswer (bad_of (is_usable words files) old) result) → IfSome told (λ files. first_bad_by (is_usable words files) 1 (script_kinds words bytes workers) ≡ Some line)
  refused_by None bytes workers old result line is read answer = tt
  refused_by (Some files) bytes workers old result line is read answer = sym (read.files (is_usable words files)) ∙ some_bad (bad_of (is_usable words files) old) result line is answer

  -- where the check of its files refused it, the reason rests on its bytes
  pub checked_refused :
      {T : Type 0} → Laws words → (told : Option Files) (now : Reply → Type 0) (bytes : List ℕ) (workers : ℕ) (old : Reading R) (result : Result T CheckFault) (fault : CheckFault) → result ≡ Err fault
      → IsReadFrom words bytes workers old → IfSome told (λ files. IsCheckAnswer (bad_of (is_usable words files) old) result) → CheckRefusalIsRight words now old fault → IsRefused words told now bytes workers fault
  checked_refused laws told now bytes workers old result (check.BadLine line) is read answer refused =
      let P : List (List ℕ) → Type 0 = λ ns. IsBadAmong words now ns (numbered_of 1 (script_kinds words bytes workers)) (first_bad 1 (script_kinds words bytes workers)) line in
      let Q : List (Numbered R) → Type 0 = λ items. IsBadAmong words now old.names items (first_bad 1 (script_kinds words bytes workers)) line in
      let W : Option ℕ → Type 0 = λ bad. IsBadAmong words now old.names old.commands bad line in
      record {
        replies = IsBadLine-IsBadAmong words laws now workers (lines_of bytes) line (subst P read.names (subst Q read.commands (subst W read.bad refused)));
        files = refused_by told bytes workers old result line is read answer;
      }
  checked_refused laws told now bytes workers old result check.ReadFault is read answer refused = tt
  checked_refused laws told now bytes workers old result check.Memory is read answer refused = tt
