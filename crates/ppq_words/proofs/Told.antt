-- The values of a command's words, against the arguments that they spell: for any command.
use Rattle.std.proofs.Common.{◌≡◌, ◌∙◌, ◌↔◌, ◌≤◌, Bool, true, false, not, cond, refl, sym, ap, ap₂, subst, arith, List, [], ◌∷◌, map, flat_map, length, Option, Some, None, bytes_eq, inl, inr}
use Rattle.std.specs.Prelude.{if◌then◌else◌}
use Rattle.std.specs.List.{list_any, list_all, AllByRecursion as Each}
use Rattle.std.specs.Option.{option_and_then}
use Rattle.std.proofs.lemmas.Bool.{and_parts, and_from, or_cases, or_right, not-true, not_from_false}
use Rattle.std.proofs.lemmas.Bool.Decides.{nat_tests}
use Rattle.std.proofs.lemmas.Slice.Eq.{bytes_eq-Decides}
use Rattle.ppq_words.specs.Uses.{Text, Use, alone, is_option, uses_of, names_differ, value_under}
use Rattle.ppq_words.specs.Usage.{Usage, values_by, values_in}
use Rattle.ppq_words.specs.Meaning.{Argument, bare, apart, joined, spelled_as, IsNamed, IsPlain, value_in, scripts_in, values_of}
use Rattle.ppq_words.proofs.Names.{AreNames, IsOptionName, contained, is_among, among}
use Rattle.ppq_words.proofs.Rows.{some_parts, then_parts}
use Rattle.ppq_words.proofs.Spelled.{use_of, uses_mean}

-- one value, or none
abbrev pub Stands : Option Text → List Text → Type 0
Stands None values = values ≡ []
Stands (Some v) values = values ≡ v ∷ []

pub value_told : (o : Option Text) (values : List Text) (v : Text) → Stands o values → values ≡ v ∷ [] → o ≡ Some v
value_told None values v h e = cc
value_told (Some w) values v h e = let same : w ≡ v = cc in ap (λ (z : Text). Some z) same

pub none_told : (o : Option Text) (values : List Text) → Stands o values → values ≡ [] → o ≡ None
none_told None values h e = refl
none_told (Some w) values h e = cc

-- these are the values of the arguments, and none stands twice
pub record Tells (value : Text → Option Text) (args : List Argument) : Type 0 where
  pub script : Stands (value alone) (scripts_in args)
  pub option : (name : Text) → bytes_eq alone name ≡ false → Stands (value name) (values_of name args)

-- the words are the command's, and spelled as these arguments
pub record AreSpelled (usage : Usage) (words : List Text) (args : List Argument) : Type 0 where
  pub spelled : words ≡ usage.word ∷ flat_map spelled_as args
  pub named : Each (IsNamed usage.options) args
  pub plain : Each (λ a. IsPlain (value_in a)) args

-- the words spell arguments that have something
pub record Spell (usage : Usage) (words : List Text) (Has : List Argument → Type 0) : Type 0 where
  pub arguments : List Argument
  pub spelled : AreSpelled usage words arguments
  pub has : Has arguments

-- no word stands alone beside another, and no option stands twice
pub record StandOnce (usage : Usage) (args : List Argument) : Type 0 where
  pub script : length (scripts_in args) ≤ 1
  pub options : Each (λ o. length (values_of o args) ≤ 1) usage.options

-- `IsNamed` as a test
abbrev pub is_named : List Text → Argument → Bool
is_named options (bare value) = true
is_named options (apart name value) = is_option options name
is_named options (joined name value) = is_option options name

pub all_named : (options : List Text) (args : List Argument) → list_all (is_named options) args ≡ true → Each (IsNamed options) args
all_named options [] e = tt
all_named options (a ∷ args) e = let parts = and_parts (is_named options a) (list_all (is_named options) args) e in (one a parts.0, all_named options args parts.1)
  where
    one : (a : Argument) → is_named options a ≡ true → IsNamed options a
    one (bare value) e = tt
    one (apart name value) e = contained options name e
    one (joined name value) e = contained options name e

-- ---- values under names

-- the values under a name
abbrev values_under : Text → List Use → List Text
values_under name [] = []
values_under name (u ∷ us) = if bytes_eq u.0 name then u.1 ∷ values_under name us else values_under name us

values_under-values_of : (name : Text) → bytes_eq alone name ≡ false → (args : List Argument) → values_under name (map use_of args) ≡ values_of name args
values_under-values_of name e [] = refl
values_under-values_of name e (bare v ∷ args) =
    ap (λ (b : Bool). cond b (v ∷ values_under name (map use_of args)) (values_under name (map use_of args))) e ∙ values_under-values_of name e args
values_under-values_of name e (apart n v ∷ args) = ap (λ (z : List Text). cond (bytes_eq n name) (v ∷ z) z) (values_under-values_of name e args)
values_under-values_of name e (joined n v ∷ args) = ap (λ (z : List Text). cond (bytes_eq n name) (v ∷ z) z) (values_under-values_of name e args)

-- ---- where names differ

bytes_eq-swap : (x y : Text) → bytes_eq x y ≡ bytes_eq y x
bytes_eq-swap x y = grind (arith, bytes_eq-Decides x y, bytes_eq-Decides y x)

-- no other value stands under the name of a first
none_under : (name : Text) (us : List Use) → list_any (λ v. bytes_eq name v.0) us ≡ false → values_under name us ≡ []
none_under name [] e = refl
none_under name (u ∷ us) e = grind (arith, nat_tests, bytes_eq-swap u.0 name, none_under name us)

stands_under : (name : Text) (us : List Use) → names_differ us ≡ true → Stands (value_under name us) (values_under name us)
stands_under name [] differ = refl
stands_under name (u ∷ us) differ =
    let parts = and_parts (not (list_any (λ w. bytes_eq u.0 w.0) us)) (names_differ us) differ in
    go (bytes_eq u.0 name) refl (not-true (list_any (λ w. bytes_eq u.0 w.0) us) parts.0) (stands_under name us parts.1)
  where
    go : (b : Bool) → bytes_eq u.0 name ≡ b → list_any (λ w. bytes_eq u.0 w.0) us ≡ false → Stands (value_under name us) (values_under name us)
        → Stands (cond b (Some u.1) (value_under name us)) (cond b (u.1 ∷ values_under name us) (values_under name us))
    go true is none ih = ap (λ (xs : List Text). u.1 ∷ xs) (none_under name us (ap (λ (n : Text). list_any (λ w. bytes_eq n w.0) us) (sym ((bytes_eq-Decides u.0 name).0 is)) ∙ none))
    go false is none ih = ih

-- ---- where no name stands twice

-- at most one value stands under each of these names
abbrev AtMostOnce : List Text → List Use → Type 0
AtMostOnce keys us = (name : Text) → is_option keys name ≡ true → length (values_under name us) ≤ 1

rest_once : (keys : List Text) (u : Use) (us : List Use) → AtMostOnce keys (u ∷ us) → AtMostOnce keys us
rest_once keys u us h name key = grind (arith, nat_tests, h name key)

some_under : (name : Text) (us : List Use) → list_any (λ v. bytes_eq name v.0) us ≡ true → 1 ≤ length (values_under name us)
some_under name [] e = cc
some_under name (u ∷ us) e = grind (arith, nat_tests, bytes_eq-swap u.0 name, some_under name us)

first_once : (keys : List Text) (u : Use) (us : List Use) → is_option keys u.0 ≡ true → AtMostOnce keys (u ∷ us) → list_any (λ v. bytes_eq u.0 v.0) us ≡ false
first_once keys u us key h = grind (arith, nat_tests, h u.0 key, (bytes_eq-Decides u.0 u.0).1 refl, some_under u.0 us)

module _ (usage : Usage) (all : AreNames usage.options) where
  -- the names under which values are kept
  abbrev keys : List Text
  keys = alone ∷ usage.options

  -- an option is no word that stands alone
  option_not_alone : (name : Text) → is_option usage.options name ≡ true → bytes_eq name alone ≡ false
  option_not_alone name known = ap (λ (z : Text). bytes_eq z alone) (among usage.options name IsOptionName known all).long.2

  values_under-scripts_in : (args : List Argument) → Each (IsNamed usage.options) args → values_under alone (map use_of args) ≡ scripts_in args
  values_under-scripts_in [] h = refl
  values_under-scripts_in (bare v ∷ args) h = ap (λ (z : List Text). v ∷ z) (values_under-scripts_in args h.1)
  values_under-scripts_in (apart n v ∷ args) h =
      ap (λ (b : Bool). cond b (v ∷ values_under alone (map use_of args)) (values_under alone (map use_of args))) (option_not_alone n (is_among usage.options n h.0)) ∙ values_under-scripts_in args h.1
  values_under-scripts_in (joined n v ∷ args) h =
      ap (λ (b : Bool). cond b (v ∷ values_under alone (map use_of args)) (values_under alone (map use_of args))) (option_not_alone n (is_among usage.options n h.0)) ∙ values_under-scripts_in args h.1

  argument_key : (a : Argument) → IsNamed usage.options a → is_option keys (use_of a).0 ≡ true
  argument_key (bare v) named = refl
  argument_key (apart name v) named = or_right (bytes_eq alone name) (is_option usage.options name) (is_among usage.options name named)
  argument_key (joined name v) named = or_right (bytes_eq alone name) (is_option usage.options name) (is_among usage.options name named)

  differ_once : (args : List Argument) → Each (IsNamed usage.options) args → AtMostOnce keys (map use_of args) → names_differ (map use_of args) ≡ true
  differ_once [] named h = refl
  differ_once (a ∷ args) named h =
      and_from (not (list_any (λ v. bytes_eq (use_of a).0 v.0) (map use_of args))) (names_differ (map use_of args))
      (not_from_false (list_any (λ v. bytes_eq (use_of a).0 v.0) (map use_of args)) (first_once keys (use_of a) (map use_of args) (argument_key a named.0) h))
      (differ_once args named.1 (rest_once keys (use_of a) (map use_of args) h))

  at_most_once : (args : List Argument) → Each (IsNamed usage.options) args → StandOnce usage args → AtMostOnce keys (map use_of args)
  at_most_once args named once name key = elim (or_cases (bytes_eq alone name) (is_option usage.options name) key) [
    | inl here ↦ subst (λ (z : Text). length (values_under z (map use_of args)) ≤ 1) ((bytes_eq-Decides alone name).0 here)
        (subst (λ (z : List Text). length z ≤ 1) (sym (values_under-scripts_in args named)) once.script)
    | inr there ↦ subst (λ (z : List Text). length z ≤ 1) (sym (values_under-values_of name (bytes_eq-swap alone name ∙ option_not_alone name there) args))
        (among usage.options name (λ z. length (values_of z args) ≤ 1) there once.options)
  ]

  -- ---- both directions

  uses_told : (args : List Argument) → Each (IsNamed usage.options) args → names_differ (map use_of args) ≡ true → Tells (λ name. value_under name (map use_of args)) args
  uses_told args named differ = record {
    script = subst (Stands (value_under alone (map use_of args))) (values_under-scripts_in args named) (stands_under alone (map use_of args) differ);
    option = λ name other. subst (Stands (value_under name (map use_of args))) (values_under-values_of name other args) (stands_under name (map use_of args) differ);
  }

  -- words with values are spelled as arguments that have them
  pub words_told : (words : List Text) (value : Text → Option Text) → values_in usage words ≡ Some value → (args : List Argument) × AreSpelled usage words args × Tells value args
  words_told [] value e = cc
  words_told (first ∷ rest) value e =
      let command = then_parts (bytes_eq first usage.word) (option_and_then values_by (uses_of usage.options None rest)) value e in
      go (uses_of usage.options None rest) refl ((bytes_eq-Decides first usage.word).0 command.0) command.1
    where
      go : (o : Option (List Use)) → uses_of usage.options None rest ≡ o → first ≡ usage.word → option_and_then values_by o ≡ Some value → (args : List Argument) × AreSpelled usage (first ∷ rest) args × Tells value args
      go None at same e = cc
      go (Some us) at same e =
          let differ = some_parts (names_differ us) (λ name. value_under name us) value e in
          let h = (uses_mean usage.options all rest us).0 at in
          let told = uses_told h.arguments h.named (ap names_differ h.values ∙ differ.0) in (
            h.arguments,
            record { spelled = ap₂ (λ (x : Text) (xs : List Text). x ∷ xs) same h.spelled; named = h.named; plain = h.plain },
            subst (λ (z : Text → Option Text). Tells z h.arguments) (ap {B = Text → Option Text} (λ (z : List Use) (name : Text). value_under name z) h.values ∙ differ.1) told,
          )

  -- and words that are spelled as arguments have values
  pub told_words : (words : List Text) (args : List Argument) → AreSpelled usage words args → StandOnce usage args → (value : Text → Option Text) × (values_in usage words ≡ Some value) × Tells value args
  told_words words args h once =
      let us = map use_of args in
      let rest = flat_map spelled_as args in
      let uses : uses_of usage.options None rest ≡ Some us = (uses_mean usage.options all rest us).1 (record { arguments = args; spelled = refl; named = h.named; plain = h.plain; values = refl }) in
      let differ : names_differ us ≡ true = differ_once args h.named (at_most_once args h.named once) in (
        λ name. value_under name us,
        ap (values_in usage) h.spelled
            ∙ (ap (λ (b : Bool). cond b (option_and_then values_by (uses_of usage.options None rest)) None) ((bytes_eq-Decides usage.word usage.word).1 refl)
            ∙ (ap (option_and_then values_by) uses ∙ ap (λ (b : Bool). cond b (Some (λ name. value_under name us)) None) differ)),
        uses_told args h.named differ,
      )

  -- ---- what is read from the values

  module _ {R : Type 0} (by : (Text → Option Text) → Option R) where
    pub read_told : (words : List Text) (r : R) → option_and_then by (values_in usage words) ≡ Some r → (value : Text → Option Text) × (args : List Argument) × AreSpelled usage words args × Tells value args × (by value ≡ Some r)
    read_told words r e = go (values_in usage words) refl e
      where
        go : (o : Option (Text → Option Text)) → values_in usage words ≡ o → option_and_then by o ≡ Some r → (value : Text → Option Text) × (args : List Argument) × AreSpelled usage words args × Tells value args × (by value ≡ Some r)
        go None at e = cc
        go (Some value) at e = let told = words_told words value at in (value, told.0, told.1, told.2, e)

    pub told_read : (words : List Text) (r : R) (args : List Argument) → AreSpelled usage words args → StandOnce usage args → ((value : Text → Option Text) → Tells value args → by value ≡ Some r)
        → option_and_then by (values_in usage words) ≡ Some r
    told_read words r args h once read = let told = told_words words args h once in ap (option_and_then by) told.1 ∙ read told.0 told.2

    -- words have a reading if and only if they spell arguments that have what it says
    pub command_means : (Has : List Argument → R → Type 0) → ((value : Text → Option Text) (args : List Argument) → Tells value args → (r : R) → (by value ≡ Some r) ↔ Has args r)
        → ((args : List Argument) (r : R) → Has args r → StandOnce usage args) → (words : List Text) (r : R) → (option_and_then by (values_in usage words) ≡ Some r) ↔ Spell usage words (λ args. Has args r)
    command_means Has same once words r = (
      λ e. let read = read_told words r e in record { arguments = read.1; spelled = read.2; has = (same read.0 read.1 read.3 r).0 read.4 },
      λ h. told_read words r h.arguments h.spelled (once h.arguments r h.has) (λ value told. (same value h.arguments told r).1 h.has),
    )

-- ---- a definition that finds just what a relation has

module _ {W R : Type 0} (read : W → Option R) (Reads : W → R → Type 0) (law : (w : W) (r : R) → (read w ≡ Some r) ↔ Reads w r) where
  pub no_reading : (w : W) → (read w ≡ None) ↔ ((r : R) → ¬ Reads w r)
  no_reading w = (λ e r h. some_none r (sym ((law w r).1 h) ∙ e), go (read w) refl)
    where
      some_none : (r : R) → Some r ≡ None → ⊥
      some_none r e = cc

      go : (o : Option R) → read w ≡ o → ((r : R) → ¬ Reads w r) → o ≡ None
      go None e none = refl
      go (Some r) e none = absurd (none r ((law w r).0 e))

  pub one_reading : (w : W) (r s : R) → Reads w r → Reads w s → r ≡ s
  one_reading w r s h k = let both : Some r ≡ Some s = sym ((law w r).1 h) ∙ (law w s).1 k in cc
