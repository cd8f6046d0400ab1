-- The words that the program refuses before the parse.
use Rattle.std.specs.Prelude.{Bool, true, false, not, ◌&&◌, ◌==◌, List, [], ◌∷◌, Option, Some, None, if◌then◌else◌, bytes_eq}
use Rattle.std.specs.List.{list_any}
use Rattle.ppq_words.specs.Uses.{Text, begins_with_hyphen, after_equals}
use Rattle.ppq_words.specs.Reading.{run_usage}

-- the value in the word begins with `-`
abbrev pub has_stray_value : Option Text → Bool
has_stray_value None = false
has_stray_value (Some value) = begins_with_hyphen value

-- of a word that begins with `--`, by what is after that
abbrev pub is_stray_long : Text → Bool
is_stray_long [] = true
is_stray_long (b ∷ bs) = has_stray_value (after_equals (b ∷ bs))

-- of a word that begins with `-`, by what is after that
abbrev pub is_stray_option : Text → Bool
is_stray_option [] = true
is_stray_option (b ∷ bs) = if b == 45 then is_stray_long bs else true

-- a word that begins with `-` and is no `--name`, or has a value that begins with `-`
abbrev pub is_stray : Text → Bool
is_stray [] = false
is_stray (b ∷ bs) = if b == 45 then is_stray_option bs else false

-- the words go on to the parse: the first is the command's, and no other is stray
abbrev pub may_parse : Text → List Text → Bool
may_parse word [] = false
may_parse word (first ∷ words) = bytes_eq first word && not (list_any is_stray words)

-- the same of the command `run`
abbrev pub may_run : List Text → Bool
may_run = may_parse run_usage.word
