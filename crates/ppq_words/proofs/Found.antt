-- The command that `clap` is told of, and what a parse by it finds, for any description.
use Rattle.std.proofs.Common.{◌≡◌, ◌∙◌, ℕ, suc, zero, ◌<◌, ◌+◌, Bool, true, false, not, cond, ◌&&◌, ◌||◌, refl, sym, ap, ap₂, subst, arith, List, [], ◌∷◌, ◌++◌, map, length, take, drop, get_or, add-one, Option, Some, None, unwrap_or, bytes_eq, codes, Bor, MatchOption, inl, inr, String, Global, string_bytes}
use Rattle.std.specs.List.{list_any, list_all}
use Rattle.std.specs.Option.{option_and_then}
use Rattle.std.specs.Str.Pattern.{FindsTextPrefix}
use Rattle.std.proofs.Math.Path.{fun_ext}
use Rattle.std.proofs.Math.Seq.{take-suc}
use Rattle.std.proofs.lemmas.List.{map-append}
use Rattle.std.proofs.lemmas.Bool.{and_parts, and_from, not-true}
use Rattle.clap.specs.Words.{App, Rule, HasMatchesOf, HasKind, new_app, new_rule, with_rule, kind_of, found_of, first_value, fault_of, first_of, is_simple_and_free}
use Rattle.clap.specs.Walk.{is_early_multiple}
use Rattle.clap.specs.Simple.{is_ready, is_ready_leaf, is_buildable}
use Rattle.clap.specs.Faults.{is_free_app}
use Rattle.clap.specs.Kinds.{Kinds}
use Rattle.clap.proofs.WalkLemmas.{first_value-rows}
use Rattle.clap.specs.declared.parser.matches.ArgMatches.{ArgMatches}
use Rattle.clap.specs.declared.error.Error.{Error}
use Rattle.clap.specs.declared.error.kind.ErrorKind.TheVariants.{OutOfMemory}
use Rattle.ppq_words.specs.Command.{option_rule, command_app}
use Rattle.ppq_words.specs.Uses.{Text, Use, alone, uses_of, names_differ, value_under}
use Rattle.ppq_words.specs.Usage.{Usage, is_option_name, values_by, values_in}
use Rattle.ppq_words.specs.Strays.{is_stray, may_parse}
use Rattle.ppq_words.specs.Reading.{texts_of}
use Rattle.ppq_words.proofs.Names.{hyphens, names_from}
use Rattle.ppq_words.proofs.Spelled.{stray_none}
use Rattle.ppq_words.proofs.Parse.{hyphened, built_option, shape, built_app, is_built, parse_ok, parse_uses}

-- ---- the options, without their hyphens and with them

-- the names behind the hyphens
abbrev bare_names : List Text → List Text
bare_names options = map (λ o. drop 2 o) options

hyphened_one : (o : Text) → is_option_name o ≡ true → o ≡ hyphened (drop 2 o)
hyphened_one [] e = cc
hyphened_one (x ∷ []) e = cc
hyphened_one (x ∷ y ∷ []) e = cc
hyphened_one (x ∷ y ∷ b ∷ bs) e = (hyphens x y b bs e).0

hyphened_again : (options : List Text) → list_all is_option_name options ≡ true → map hyphened (bare_names options) ≡ options
hyphened_again [] e = refl
hyphened_again (o ∷ os) e =
    let parts = and_parts (is_option_name o) (list_all is_option_name os) e in
    ap₂ (λ (x : Text) (xs : List Text). x ∷ xs) (sym (hyphened_one o parts.0)) (hyphened_again os parts.1)

-- ---- what `clap` makes of the command

options_simple : (ns : List Text) → list_all (λ a. a.is_simple) (map option_rule (map hyphened ns)) ≡ true
options_simple [] = refl
options_simple (n ∷ ns) = options_simple ns

each_built : (p : Rule → Bool) → ((n : Text) → p (built_option n) ≡ true) → (ns : List Text) → list_all p (map built_option ns) ≡ true
each_built p h [] = refl
each_built p h (n ∷ ns) = and_from _ _ (h n) (each_built p h ns)

none_early : (k : ℕ) (ns : List Text) → list_any (is_early_multiple k) (map built_option ns) ≡ false
none_early k [] = refl
none_early k (n ∷ ns) = none_early k ns

-- ---- an option more

-- the command with one option more
pub grown : (word : Text) (items : List (Bor Text)) (i : ℕ) (d : Bor Text) → i < length items
    → with_rule (command_app (record { word = word; options = map (λ o. o.now) (take i items) })) (option_rule ((get_or items i d).now)) ≡ command_app (record { word = word; options = map (λ o. o.now) (take (i + 1) items) })
grown word items i d below =
    let start = new_app word in
    let o = get_or items i d in
    let some = map (λ (b : Bor Text). b.now) (take i items) in
    let more : map (λ (b : Bor Text). b.now) (take (i + 1) items) ≡ some ++ o.now ∷ [] =
    ap (λ (k : ℕ). map (λ (b : Bor Text). b.now) (take k items)) (add-one i)
    ∙ (ap (map (λ (b : Bor Text). b.now)) (take-suc items i d below) ∙ map-append (λ (b : Bor Text). b.now) (take i items) (o ∷ [])) in
    sym (ap (λ (z : List Rule). record start { top = record start.top { disable_help_flag = true; rules = new_rule alone ∷ z } })
    (ap (map option_rule) more ∙ map-append option_rule some (o.now ∷ [])))

-- each option of a description is one
pub option_there : (items : List (Bor Text)) (i : ℕ) (d : Bor Text) → i < length items → list_all is_option_name (map (λ o. o.now) items) ≡ true → is_option_name ((get_or items i d).now) ≡ true
option_there [] i d below all = absurd (omega arith)
option_there (o ∷ os) zero d below all = (and_parts (is_option_name o.now) _ all).0
option_there (o ∷ os) (suc i) d below all = option_there os i d (omega arith) (and_parts (is_option_name o.now) _ all).1

-- what stands behind the hyphens of an option
pub stripped : (s : Text) (r : Option (Bor Text)) (o : Bor Text) → is_option_name s ≡ true
    → MatchOption r (FindsTextPrefix (codes "--") s None) (λ x. (n : ℕ) × FindsTextPrefix (codes "--") s (Some n) × (x.now ≡ drop n s) × (length x.now + n ≡ length s)) → (unwrap_or r o).now ≡ drop 2 s
stripped s None o is none = absurd (none (drop 2 s) (hyphened_one s is))
stripped s (Some x) o is some = some.2 ∙ ap (λ (n : ℕ). drop n s) some.1.0

-- ---- what a parse finds

pub list_any-texts : (ws : List (String Global)) → list_any (λ w. is_stray (string_bytes w)) ws ≡ list_any is_stray (texts_of ws)
list_any-texts [] = refl
list_any-texts (w ∷ ws) = ap (λ b. is_stray (string_bytes w) || b) (list_any-texts ws)

-- what matches say by names
abbrev pub found_in : ArgMatches → Text → Option Text
found_in m = first_value (found_of m)

-- what holds of a parse by a description
pub record IsParsed (usage : Usage) : Type 0 where
  -- `clap` reads the command by its simple rules, and no argument has a rule on another
  pub free : is_simple_and_free (command_app usage) ≡ true
  -- the matches have the values of the words
  pub found : (words : List Text) (m : ArgMatches) → may_parse usage.word words ≡ true → HasMatchesOf (command_app usage) words m → fault_of (command_app usage) words ≡ [] → Some (found_in m) ≡ values_in usage words
  -- a parse that fails, and not for want of memory, says that the words have no values
  pub none_found : (words : List Text) (e : Error) → may_parse usage.word words ≡ true → HasKind (fault_of (command_app usage) words) e → (kind_of e ≡ OutOfMemory → ⊥) → None ≡ values_in usage words

module _ (word : Text) (names : List Text) where
  abbrev usage_of : Usage
  usage_of = record { word = word; options = map hyphened names }

  free : is_simple_and_free (command_app usage_of) ≡ true
  free =
      let buildable : is_buildable (command_app usage_of) ≡ true = and_from _ _ (options_simple names) refl in
      let ready : (is_ready (shape word names) && true) ≡ true = and_from _ _ (and_from _ _ (each_built (λ a. a.is_simple) (λ n. refl) names) (ap not (none_early _ names))) refl in
      let is_free : is_free_app (built_app word names) ≡ true = and_from _ _ (each_built (λ a. a.is_free) (λ n. refl) names) refl in
      and_from _ _
      (and_from _ _ buildable (subst (λ (b : App). (is_ready b.top && list_all is_ready_leaf b.subs) ≡ true) (sym (is_built word names)) ready))
      (subst (λ (b : App). is_free_app b ≡ true) (sym (is_built word names)) is_free)

  -- the values of words of which the first is the command's
  behind_word : (first : Text) (rest : List Text) → bytes_eq first word ≡ true → values_in usage_of (first ∷ rest) ≡ option_and_then values_by (uses_of usage_of.options None rest)
  behind_word first rest is = ap (λ (b : Bool). cond b (option_and_then values_by (uses_of usage_of.options None rest)) None) is

  found : (words : List Text) (m : ArgMatches) → may_parse word words ≡ true → HasMatchesOf (command_app usage_of) words m → fault_of (command_app usage_of) words ≡ [] → Some (found_in m) ≡ values_in usage_of words
  found [] m may has e = cc
  found (first ∷ rest) m may has e =
      let parts = and_parts (bytes_eq first word) (not (list_any is_stray rest)) may in
      let parse = parse_ok word names first rest (not-true (list_any is_stray rest) parts.1) e in
      let value : found_in m ≡ (λ name. value_under name parse.0) = fun_ext (λ id. first_value-rows (found_of m) id ∙ (ap (first_of id) (has (and_parts _ _ free).0).0 ∙ parse.3 id)) in
      ap (λ (f : Text → Option Text). Some f) value
      ∙ sym (behind_word first rest parts.0 ∙ (ap (option_and_then values_by) parse.1 ∙ ap (λ (b : Bool). cond b (Some (λ name. value_under name parse.0)) None) parse.2))

  none_found : (words : List Text) (e : Error) → may_parse word words ≡ true → HasKind (fault_of (command_app usage_of) words) e → (kind_of e ≡ OutOfMemory → ⊥) → None ≡ values_in usage_of words
  none_found [] e may has other = cc
  none_found (first ∷ rest) e may has other =
      let parts = and_parts (bytes_eq first word) (not (list_any is_stray rest)) may in
      sym (behind_word first rest parts.0 ∙ go (uses_of usage_of.options None rest) refl (not-true (list_any is_stray rest) parts.1))
    where
      none : (us : List Use) (b : Bool) → list_any is_stray rest ≡ false → uses_of usage_of.options None rest ≡ Some us → names_differ us ≡ b → cond {A = Option (Text → Option Text)} b (Some (λ name. value_under name us)) None ≡ None
      none us false few at is = refl
      none us true few at is = elim (subst (λ (k : Kinds). HasKind k e) (parse_uses word names first rest us few at is) has) [ inl memory ↦ absurd (other memory) | inr h ↦ absurd h ]

      go : (o : Option (List Use)) → uses_of usage_of.options None rest ≡ o → list_any is_stray rest ≡ false → option_and_then values_by o ≡ None
      go None at few = refl
      go (Some us) at few = none us (names_differ us) few at refl

pub parsed : (usage : Usage) → list_all is_option_name usage.options ≡ true → IsParsed usage
parsed usage good =
    let names = bare_names usage.options in
    subst IsParsed (ap (λ (os : List Text). record usage { options = os }) (hyphened_again usage.options good)) (record { free = free usage.word names; found = found usage.word names; none_found = none_found usage.word names })

-- words that are not handed on have no values
pub not_handed : (usage : Usage) → list_all is_option_name usage.options ≡ true → (words : List Text) → may_parse usage.word words ≡ false → None ≡ values_in usage words
not_handed usage good [] e = refl
not_handed usage good (first ∷ words) e = go (bytes_eq first usage.word) (list_any is_stray words) refl e
  where
    go : (command stray : Bool) → list_any is_stray words ≡ stray → (command && not stray) ≡ false → None ≡ cond command (option_and_then values_by (uses_of usage.options None words)) None
    go false stray is e = refl
    go true true is e = sym (ap (option_and_then values_by) (stray_none usage.options (names_from usage.options good) words is))
    go true false is e = cc
