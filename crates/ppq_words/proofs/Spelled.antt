-- Words that are spelled as arguments have the values of these arguments, and no others; and none of them is stray.
use Rattle.std.proofs.Common.{◌≡◌, ◌∙◌, ◌↔◌, ℕ, Bool, true, false, cond, ◌||◌, ◌==◌, refl, sym, ap, ap₂, subst, List, [], ◌∷◌, ◌++◌, append_assoc, map, flat_map, Option, Some, None, codes}
use Rattle.std.specs.List.{list_any, AllByRecursion as Each}
use Rattle.std.proofs.lemmas.Bool.{eqb-true}
use Rattle.ppq_words.specs.Uses.{Text, Use, alone, is_option, begins_with_hyphen, before_equals, after_equals, uses_of, with_use, option_use}
use Rattle.ppq_words.specs.Strays.{has_stray_value, is_stray, is_stray_option}
use Rattle.ppq_words.specs.Meaning.{Argument, bare, apart, joined, spelled_as, IsNamed, IsPlain, value_in}
use Rattle.ppq_words.proofs.Names.{IsLong, IsOptionName, AreNames, contained, is_among, among}

-- the value under its name
abbrev pub use_of : Argument → Use
use_of (bare value) = (alone, value)
use_of (apart name value) = (name, value)
use_of (joined name value) = (name, value)

-- the words are spelled as arguments with these values, in this order
pub record AreUses (options words : List Text) (uses : List Use) : Type 0 where
  pub arguments : List Argument
  pub spelled : words ≡ flat_map spelled_as arguments
  pub named : Each (IsNamed options) arguments
  pub plain : Each (λ a. IsPlain (value_in a)) arguments
  pub values : map use_of arguments ≡ uses

module _ (options : List Text) (all : AreNames options) where
  -- what is known of an option
  is_name : (name : Text) → is_option options name ≡ true → IsOptionName name
  is_name name known = among options name IsOptionName known all

  -- an option word, by its arguments
  option_word : (word name : Text) (vo : Option Text) (words : List Text) → begins_with_hyphen word ≡ true → before_equals word ≡ name → is_option options name ≡ true → after_equals word ≡ vo
      → uses_of options None (word ∷ words) ≡ option_use name vo (uses_of options None words) (uses_of options (Some name) words)
  option_word word name vo words hyphen before known after =
      ap (λ (b : Bool). cond b (cond (is_option options (before_equals word)) (option_use (before_equals word) (after_equals word) (uses_of options None words) (uses_of options (Some (before_equals word)) words)) None) (with_use alone word (uses_of options None words))) hyphen
      ∙ (ap₂ (λ (n : Text) (v : Option Text). cond (is_option options n) (option_use n v (uses_of options None words) (uses_of options (Some n) words)) None) before after
      ∙ ap (λ (b : Bool). cond b (option_use name vo (uses_of options None words) (uses_of options (Some name) words)) None) known)

  tidy_use : (name v : Text) (us : List Use) → begins_with_hyphen v ≡ false → with_use name v (Some us) ≡ Some ((name, v) ∷ us)
  tidy_use name v us e = ap (λ (b : Bool). cond b None (Some ((name, v) ∷ us))) e

  one_equals : (name v : Text) → name ++ codes "=" ++ v ≡ name ++ 61 ∷ v
  one_equals name v = append_assoc name (61 ∷ []) v

  uses_spelled : (arguments : List Argument) → Each (IsNamed options) arguments → Each (λ a. IsPlain (value_in a)) arguments → uses_of options None (flat_map spelled_as arguments) ≡ Some (map use_of arguments)
  uses_spelled [] named plain = refl
  uses_spelled (bare v ∷ arguments) named plain =
      ap (λ (b : Bool). cond b (cond (is_option options (before_equals v)) (option_use (before_equals v) (after_equals v) (uses_of options None (flat_map spelled_as arguments)) (uses_of options (Some (before_equals v)) (flat_map spelled_as arguments))) None) (with_use alone v (uses_of options None (flat_map spelled_as arguments)))) plain.0
      ∙ (ap (with_use alone v) (uses_spelled arguments named.1 plain.1) ∙ tidy_use alone v (map use_of arguments) plain.0)
  uses_spelled (apart name v ∷ arguments) named plain =
      let known = is_among options name named.0 in
      let is = is_name name known in
      option_word name name None (v ∷ flat_map spelled_as arguments) (ap begins_with_hyphen is.long.2) is.before known is.after
      ∙ (ap (with_use name v) (uses_spelled arguments named.1 plain.1) ∙ tidy_use name v (map use_of arguments) plain.0)
  uses_spelled (joined name v ∷ arguments) named plain =
      let known = is_among options name named.0 in
      let is = is_name name known in
      ap (λ (z : Text). uses_of options None (z ∷ flat_map spelled_as arguments)) (one_equals name v)
      ∙ (option_word (name ++ 61 ∷ v) name (Some v) (flat_map spelled_as arguments) (ap (λ (z : Text). begins_with_hyphen (z ++ 61 ∷ v)) is.long.2) (is.before_at v) known (is.after_at v)
      ∙ (ap (with_use name v) (uses_spelled arguments named.1 plain.1) ∙ tidy_use name v (map use_of arguments) plain.0))

  -- ---- from uses to arguments

  with_use-Some : (id v : Text) (o : Option (List Use)) (us : List Use) → with_use id v o ≡ Some us → (vs : List Use) × (o ≡ Some vs) × ((id, v) ∷ vs ≡ us) × (begins_with_hyphen v ≡ false)
  with_use-Some id v None us e = cc
  with_use-Some id v (Some vs) us e = go (begins_with_hyphen v) e
    where
      go : (b : Bool) → cond b None (Some ((id, v) ∷ vs)) ≡ Some us → (ws : List Use) × (Some vs ≡ Some ws) × ((id, v) ∷ ws ≡ us) × (b ≡ false)
      go true e = cc
      go false e = (vs, refl, cc, refl)

  equals_at : (word v : Text) → after_equals word ≡ Some v → word ≡ before_equals word ++ 61 ∷ v
  equals_at [] v e = cc
  equals_at (b ∷ bs) v e = go (b == 61) refl e (equals_at bs v)
    where
      go : (t : Bool) → (b == 61) ≡ t → cond t (Some bs) (after_equals bs) ≡ Some v → (after_equals bs ≡ Some v → bs ≡ before_equals bs ++ 61 ∷ v) → b ∷ bs ≡ cond t [] (b ∷ before_equals bs) ++ 61 ∷ v
      go true is e ih = let same : bs ≡ v = cc in ap₂ (λ (x : ℕ) (xs : Text). x ∷ xs) (eqb-true b 61 is) same
      go false is e ih = ap (λ (xs : Text). b ∷ xs) (ih e)

  equals_none : (word : Text) → after_equals word ≡ None → before_equals word ≡ word
  equals_none [] e = refl
  equals_none (b ∷ bs) e = go (b == 61) e (equals_none bs)
    where
      go : (t : Bool) → cond t (Some bs) (after_equals bs) ≡ None → (after_equals bs ≡ None → before_equals bs ≡ bs) → cond t [] (b ∷ before_equals bs) ≡ b ∷ bs
      go true e ih = cc
      go false e ih = ap (λ (xs : Text). b ∷ xs) (ih e)

  abbrev ArgumentsFrom : List Text → Option (List Use) → Type 0
  ArgumentsFrom words o = (us : List Use) → o ≡ Some us → AreUses options words us

  word_arguments : (word : Text) (words : List Text) → ArgumentsFrom words (uses_of options None words) → ((name : Text) → is_option options name ≡ true → ArgumentsFrom (name ∷ words) (uses_of options (Some name) words)) → ArgumentsFrom (word ∷ words) (uses_of options None (word ∷ words))
  word_arguments word words behind waiting us e = go (begins_with_hyphen word) (is_option options (before_equals word)) (after_equals word) refl refl e
    where
      go : (hyphen known : Bool) (vo : Option Text) → is_option options (before_equals word) ≡ known → after_equals word ≡ vo
          → cond hyphen (cond known (option_use (before_equals word) vo (uses_of options None words) (uses_of options (Some (before_equals word)) words)) None) (with_use alone word (uses_of options None words)) ≡ Some us → AreUses options (word ∷ words) us
      go false known vo is at e =
          let first = with_use-Some alone word (uses_of options None words) us e in
          let rest = behind first.0 first.1 in
          record {
            arguments = bare word ∷ rest.arguments;
            spelled = ap (λ (z : List Text). word ∷ z) rest.spelled;
            named = (tt, rest.named);
            plain = (first.3, rest.plain);
            values = ap (λ (z : List Use). (alone, word) ∷ z) rest.values ∙ first.2;
          }
      go true false vo is at e = cc
      go true true (Some v) is at e =
          let first = with_use-Some (before_equals word) v (uses_of options None words) us e in
          let rest = behind first.0 first.1 in
          record {
            arguments = joined (before_equals word) v ∷ rest.arguments;
            spelled = ap₂ (λ (x : Text) (z : List Text). x ∷ z) (equals_at word v at ∙ sym (one_equals (before_equals word) v)) rest.spelled;
            named = (contained options (before_equals word) is, rest.named);
            plain = (first.3, rest.plain);
            values = ap (λ (z : List Use). (before_equals word, v) ∷ z) rest.values ∙ first.2;
          }
      go true true None is at e = subst (λ (z : Text). AreUses options (z ∷ words) us) (equals_none word at) (waiting (before_equals word) is us e)

  value_arguments : (name word : Text) (words : List Text) → is_option options name ≡ true → ArgumentsFrom words (uses_of options None words) → ArgumentsFrom (name ∷ word ∷ words) (uses_of options (Some name) (word ∷ words))
  value_arguments name word words known behind us e =
      let first = with_use-Some name word (uses_of options None words) us e in
      let rest = behind first.0 first.1 in
      record {
        arguments = apart name word ∷ rest.arguments;
        spelled = ap (λ (z : List Text). name ∷ word ∷ z) rest.spelled;
        named = (contained options name known, rest.named);
        plain = (first.3, rest.plain);
        values = ap (λ (z : List Use). (name, word) ∷ z) rest.values ∙ first.2;
      }

  all_arguments : (words : List Text) → ArgumentsFrom words (uses_of options None words) × ((name : Text) → is_option options name ≡ true → ArgumentsFrom (name ∷ words) (uses_of options (Some name) words))
  all_arguments [] = (λ us e. record { arguments = []; spelled = refl; named = tt; plain = tt; values = cc }, λ name known us e. cc)
  all_arguments (word ∷ words) = let ih = all_arguments words in (word_arguments word words ih.0 ih.1, λ name known. value_arguments name word words known ih.0)

  pub uses_mean : (words : List Text) (us : List Use) → (uses_of options None words ≡ Some us) ↔ AreUses options words us
  uses_mean words us = (
    (all_arguments words).0 us,
    λ h. ap (uses_of options None) h.spelled ∙ (uses_spelled h.arguments h.named h.plain ∙ ap (λ (z : List Use). Some z) h.values),
  )

  -- ---- stray words

  long_stray : (word : Text) → IsLong word → is_stray word ≡ has_stray_value (after_equals word)
  long_stray word h = ap is_stray h.2 ∙ sym (ap (λ (z : Text). has_stray_value (after_equals z)) h.2)

  plain_stray : (word : Text) → begins_with_hyphen word ≡ false → is_stray word ≡ false
  plain_stray [] e = refl
  plain_stray (b ∷ bs) e = ap (λ (t : Bool). cond t (is_stray_option bs) false) e

  -- no word of arguments is stray
  none_stray : (arguments : List Argument) → Each (IsNamed options) arguments → Each (λ a. IsPlain (value_in a)) arguments → list_any is_stray (flat_map spelled_as arguments) ≡ false
  none_stray [] named plain = refl
  none_stray (bare v ∷ arguments) named plain = ap₂ (λ (x y : Bool). x || y) (plain_stray v plain.0) (none_stray arguments named.1 plain.1)
  none_stray (apart name v ∷ arguments) named plain =
      let is = is_name name (is_among options name named.0) in
      ap₂ (λ (x y : Bool). x || y) (long_stray name is.long ∙ ap has_stray_value is.after) (ap₂ (λ (x y : Bool). x || y) (plain_stray v plain.0) (none_stray arguments named.1 plain.1))
  none_stray (joined name v ∷ arguments) named plain =
      let is = is_name name (is_among options name named.0) in
      let long : IsLong (name ++ 61 ∷ v) = (is.long.0, is.long.1 ++ 61 ∷ v, ap (λ (z : Text). z ++ 61 ∷ v) is.long.2) in
      ap₂ (λ (x y : Bool). x || y) (ap is_stray (one_equals name v) ∙ (long_stray (name ++ 61 ∷ v) long ∙ (ap has_stray_value (is.after_at v) ∙ plain.0))) (none_stray arguments named.1 plain.1)

  -- words of which one is stray have no uses
  pub stray_none : (words : List Text) → list_any is_stray words ≡ true → uses_of options None words ≡ None
  stray_none words e = go (uses_of options None words) refl
    where
      go : (o : Option (List Use)) → uses_of options None words ≡ o → o ≡ None
      go None at = refl
      go (Some us) at =
          let h = (uses_mean words us).0 at in
          let bad : true ≡ false = sym e ∙ (ap (list_any is_stray) h.spelled ∙ none_stray h.arguments h.named h.plain) in
          cc
