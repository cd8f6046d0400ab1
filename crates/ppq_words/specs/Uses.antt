-- The values that words name: that of each option, and that of the word that stands alone.
use Rattle.std.specs.Prelude.{ℕ, Bool, true, false, not, ◌&&◌, ◌==◌, List, [], ◌∷◌, Option, Some, None, if◌then◌else◌, codes, bytes_eq}
use Rattle.std.specs.List.{list_any}

-- the bytes of a word, a name or a value
abbrev pub Text : Type 0
Text = List ℕ

-- the name under which a word that stands alone is kept
abbrev pub alone : Text
alone = codes "SCRIPT"

abbrev pub begins_with_hyphen : Text → Bool
begins_with_hyphen [] = false
begins_with_hyphen (b ∷ bs) = b == 45

-- what is before the first `=`, and what is after it, where there is one
abbrev pub before_equals : Text → Text
before_equals [] = []
before_equals (b ∷ bs) = if b == 61 then [] else b ∷ before_equals bs

abbrev pub after_equals : Text → Option Text
after_equals [] = None
after_equals (b ∷ bs) = if b == 61 then Some bs else after_equals bs

-- a name with its value
abbrev pub Use : Type 0
Use = Text × Text

-- a value that does not begin with `-`, before other uses
abbrev pub with_use : Text → Text → Option (List Use) → Option (List Use)
with_use name value None = None
with_use name value (Some uses) = if begins_with_hyphen value then None else Some ((name, value) ∷ uses)

-- an option whose value is in its word, or else in the next
abbrev pub option_use : Text → Option Text → Option (List Use) → Option (List Use) → Option (List Use)
option_use name (Some value) behind waiting = with_use name value behind
option_use name None behind waiting = waiting

-- one of the options
abbrev pub is_option : List Text → Text → Bool
is_option options word = list_any (λ o. bytes_eq o word) options

-- the values of the words, each under its name; `waiting` is an option whose value is the next word
abbrev pub uses_of : List Text → Option Text → List Text → Option (List Use)
uses_of options None [] = Some []
uses_of options (Some name) [] = None
uses_of options (Some name) (word ∷ words) = with_use name word (uses_of options None words)
uses_of options None (word ∷ words) =
    if begins_with_hyphen word
    then (if is_option options (before_equals word) then option_use (before_equals word) (after_equals word) (uses_of options None words) (uses_of options (Some (before_equals word)) words) else None)
    else with_use alone word (uses_of options None words)

-- no name stands twice
abbrev pub names_differ : List Use → Bool
names_differ [] = true
names_differ (u ∷ us) = not (list_any (λ v. bytes_eq u.0 v.0) us) && names_differ us

-- the value under a name
abbrev pub value_under : Text → List Use → Option Text
value_under name [] = None
value_under name (u ∷ us) = if bytes_eq u.0 name then Some u.1 else value_under name us
