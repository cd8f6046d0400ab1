-- A command as `clap` is told of it.
use Rattle.std.specs.Prelude.{◌∷◌, Some, true, drop, map}
use Rattle.clap.specs.Words.{App, Rule, new_app, new_rule}
use Rattle.ppq_words.specs.Uses.{Text, alone}
use Rattle.ppq_words.specs.Usage.{Usage}

-- an option that takes one value, kept under its name with the hyphens
abbrev pub option_rule : Text → Rule
option_rule option = record (new_rule option) { long = Some (drop 2 option) }

-- a word that stands alone and the options, with no help
abbrev pub command_app : Usage → App
command_app usage =
    let start = new_app usage.word in
    record start { top = record start.top { disable_help_flag = true; rules = new_rule alone ∷ map option_rule usage.options } }
