-- The words of the contract of `all_words`: the command that the first argument names, and what is said for each.
use Rattle.std.specs.Prelude.{◌≡◌, List, [], ◌∷◌, if◌then◌else◌, codes, bytes_eq, String}
use Rattle.std.specs.declared.alloc.Global.{Global}
use Rattle.ppq_words.specs.ppq_outside.Shown.{Shown}
use Rattle.ppq_words.specs.ppq_outside.declared.library.Library.{Ghosts as LibraryShows}
use Rattle.ppq_words.specs.ppq_outside.declared.rack.Rack.{Ghosts as RackShows}
use Rattle.ppq_words.specs.ppq_outside.declared.sink.Sink.{Ghosts as SinkShows}
use Rattle.ppq_words.specs.Uses.{Text}
use Rattle.ppq_words.specs.Reading.{texts_of}
use Rattle.ppq_jobs.specs.ppq_engine.declared.end.Ended.{Ended}
use Rattle.ppq_jobs.specs.ppq_handler.Roster.{Place}
use Rattle.ppq_cli.specs.declared.subcommand.Subcommand.{Subcommand}
use Rattle.ppq_cli.specs.declared.subcommand.Subcommand.TheVariants.{Run, Sim, Sweep}
use Rattle.ppq_cli.specs.RunWords.{RunsWords}
use Rattle.ppq_cli.specs.SimWords.{SimsWords}
use Rattle.ppq_cli.specs.SweepWords.{SweepsWords}

-- the command of this name: that of a script where it is none of the others
abbrev pub subcommand_named : Text → Subcommand
subcommand_named name = if bytes_eq name (codes "sim") then Sim else if bytes_eq name (codes "sweep") then Sweep else Run

-- the command that the first text names
abbrev pub subcommand_of : List Text → Subcommand
subcommand_of [] = Run
subcommand_of (first ∷ texts) = subcommand_named first

-- The clauses of `all_words` as one, under their names: each is of one command. The roster has handlers in these places
pub record AllWords
    {L K O S : Type 0} (library : LibraryShows L) (rack : RackShows K S) (sink : SinkShows O) (shown : S → Shown) (words : List (String Global)) (places : List Place)
    (old_library new_library : L) (old_rack new_rack : K) (old_out new_out : O) (ended : Ended S) : Type 0 where
  pub run : subcommand_of (texts_of words) ≡ Run → RunsWords library rack sink shown words old_library new_library old_rack new_rack old_out new_out ended
  pub sim : subcommand_of (texts_of words) ≡ Sim → SimsWords library rack sink shown words places old_library new_library old_rack new_rack old_out new_out ended
  pub sweep : subcommand_of (texts_of words) ≡ Sweep → SweepsWords library rack sink shown words old_library new_library old_rack new_rack old_out new_out ended
