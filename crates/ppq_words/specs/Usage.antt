-- A command by its description, and the values that words have under it.
use Rattle.std.specs.Prelude.{Bool, true, false, not, ◌&&◌, ◌==◌, List, [], ◌∷◌, Option, Some, None, if◌then◌else◌, bytes_eq, option_and_then}
use Rattle.ppq_words.specs.Uses.{Text, Use, uses_of, names_differ, value_under}

-- a command: its word, and its options, each with two hyphens in front
pub record Usage : Type 0 where
  pub word : Text
  pub options : List Text

-- no byte is `=`
abbrev pub has_no_equals : Text → Bool
has_no_equals [] = true
has_no_equals (b ∷ bs) = not (b == 61) && has_no_equals bs

-- two hyphens, and then something without `=`
abbrev pub is_option_name : Text → Bool
is_option_name [] = false
is_option_name (x ∷ []) = false
is_option_name (x ∷ y ∷ []) = false
is_option_name (x ∷ y ∷ b ∷ bs) = x == 45 && (y == 45 && has_no_equals (b ∷ bs))

-- the values of uses by their names, where no name stands twice
abbrev pub values_by : List Use → Option (Text → Option Text)
values_by uses = if names_differ uses then Some (λ name. value_under name uses) else None

-- the values of a command's words by their names: the first word is the command's
abbrev pub values_in : Usage → List Text → Option (Text → Option Text)
values_in usage [] = None
values_in usage (first ∷ words) = if bytes_eq first usage.word then option_and_then values_by (uses_of usage.options None words) else None
