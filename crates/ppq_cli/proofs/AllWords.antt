-- What a status says of the outcome that has it, whatever the command is.
use Rattle.std.proofs.Common.{◌≡◌, ◌∙◌, ℕ, Bool, true, false, List, [], ◌∷◌, Option, None, refl, sym, subst, inl, inr}
use Rattle.std.specs.Prelude.{◌⊎◌, if◌then◌else◌, codes, bytes_eq, IfSome, IsTrue, String}
use Rattle.std.specs.declared.alloc.Global.{Global}
use Rattle.std.proofs.lemmas.Slice.Eq.{bytes_eq-Decides}
use Rattle.ppq_words.specs.ppq_outside.Shown.{Shown}
use Rattle.ppq_words.specs.ppq_outside.declared.library.Library.{Ghosts as LibraryShows}
use Rattle.ppq_words.specs.ppq_outside.declared.rack.Rack.{Ghosts as RackShows}
use Rattle.ppq_words.specs.ppq_outside.declared.sink.Sink.{Ghosts as SinkShows}
use Rattle.ppq_words.specs.Reading.{Reading, reading_of, texts_of}
use Rattle.ppq_words.specs.Uses.{Text}
use Rattle.ppq_jobs.specs.ppq_engine.declared.end.Ended.{Ended}
use Rattle.ppq_jobs.specs.ppq_handler.Roster.{Place}
use Rattle.ppq_cli.specs.declared.subcommand.Subcommand.{Subcommand}
use Rattle.ppq_cli.specs.declared.subcommand.Subcommand.TheVariants.{Run, Sim, Sweep}
use Rattle.ppq_cli.specs.AllWords.{subcommand_of, AllWords}
use Rattle.ppq_cli.specs.Outside.{MayWrite}
use Rattle.ppq_cli.specs.RunWords.{reading, OfWords, OfScript, WritesAll, WritesPart, IsTooLarge, load_by, RunsWords}
use Rattle.ppq_cli.specs.Status.{status_of, writes_nothing}
use Rattle.ppq_cli.proofs.ByStatus.{is_done, is_full, has_not_written}

-- words of another command have no reading as those of a script
unread_by : (command : Subcommand) → (command ≡ Run → ⊥) → (texts : List Text) → subcommand_of texts ≡ command → reading_of texts ≡ None
unread_by command other [] is = absurd (other (sym is))
unread_by command other (first ∷ texts) is = go (bytes_eq first (codes "sim")) (bytes_eq first (codes "sweep")) refl refl is where
  named : (name : Text) → bytes_eq first name ≡ true → reading_of (name ∷ texts) ≡ None → reading_of (first ∷ texts) ≡ None
  named name same unread = let P : Text → Type 0 = λ n. reading_of (n ∷ texts) ≡ None in subst P (sym ((bytes_eq-Decides first name).0 same)) unread

  go : (sim sweep : Bool) → bytes_eq first (codes "sim") ≡ sim → bytes_eq first (codes "sweep") ≡ sweep → (if sim then Sim else if sweep then Sweep else Run) ≡ command → reading_of (first ∷ texts) ≡ None
  go true sweep p q named_so = named (codes "sim") p refl
  go false true p q named_so = named (codes "sweep") q refl
  go false false p q named_so = absurd (other (sym named_so))

-- so nothing is said of a script that they name
of_none : (words : List (String Global)) (P : Reading → Type 0) → reading words ≡ None → OfWords words P
of_none words P unread = let Q : Option Reading → Type 0 = λ o. IfSome o P in subst Q (sym unread) tt

-- what the sink took of the script that the words name, and why no block was free for it, by the status
pub record SaidByStatus {L K O S : Type 0} (library : LibraryShows L) (rack : RackShows K S) (sink : SinkShows O) (words : List (String Global)) (old_library : L) (old_rack : K) (old_out new_out : O) (status : ℕ) : Type 0 where
  pub done : status ≡ 0 → rack.tells old_rack → OfScript library.told old_library words (WritesAll sink.told old_out new_out)
  pub part : rack.tells old_rack → OfScript library.told old_library words (WritesPart sink.told old_out new_out)
  pub nothing : IsTrue (writes_nothing status) → sink.told new_out ≡ sink.told old_out
  pub above : status ≡ 6 → rack.tells old_rack → OfScript library.told old_library words (IsTooLarge load_by)

module _
    {L K O S : Type 0} (library : LibraryShows L) (rack : RackShows K S) (sink : SinkShows O) (shown : S → Shown) (words : List (String Global)) (places : List Place)
    (old_library new_library : L) (old_rack new_rack : K) (old_out new_out : O) (ended : Ended S) (status : ℕ) (numbered : status ≡ status_of ended.end) where
  -- nothing was written where the status says so
  unwritten : MayWrite ended.end ⊎ (sink.told new_out ≡ sink.told old_out) → IsTrue (writes_nothing status) → sink.told new_out ≡ sink.told old_out
  unwritten nothing none = elim nothing as (λ _. sink.told new_out ≡ sink.told old_out) [
    | inl may ↦ absurd (has_not_written ended.end (subst (λ (n : ℕ). IsTrue (writes_nothing n)) numbered none) may)
    | inr same ↦ same
  ]

  of_run : RunsWords library rack sink shown words old_library new_library old_rack new_rack old_out new_out ended → SaidByStatus library rack sink words old_library old_rack old_out new_out status
  of_run e = record {
    done = λ is. e.written.done (is_done ended.end (sym numbered ∙ is));
    part = e.written.part;
    nothing = unwritten e.written.nothing;
    above = λ is. e.above (is_full ended.end (sym numbered ∙ is));
  }

  -- of another command, with which the sink took nothing where its status says so
  of_other : reading words ≡ None → (IsTrue (writes_nothing status) → sink.told new_out ≡ sink.told old_out) → SaidByStatus library rack sink words old_library old_rack old_out new_out status
  of_other unread nothing = record {
    done = λ is tells. of_none words _ unread;
    part = λ tells. of_none words _ unread;
    nothing = nothing;
    above = λ is tells. of_none words _ unread;
  }

  pub said_by_status : AllWords library rack sink shown words places old_library new_library old_rack new_rack old_out new_out ended → SaidByStatus library rack sink words old_library old_rack old_out new_out status
  said_by_status all = by_command (subcommand_of (texts_of words)) refl where
    by_command : (command : Subcommand) → subcommand_of (texts_of words) ≡ command → SaidByStatus library rack sink words old_library old_rack old_out new_out status
    by_command Run is = of_run (all.run is)
    by_command Sim is = of_other (unread_by Sim (λ e. cc) (texts_of words) is) (unwritten (all.sim is).written.nothing)
    by_command Sweep is = of_other (unread_by Sweep (λ e. cc) (texts_of words) is) (unwritten (all.sweep is).written.nothing)
