-- What a parse makes of the words: the values under names that `uses_of` gives, each name once.
use Rattle.std.proofs.Common.{◌≡◌, ◌∙◌, ℕ, Bool, true, false, not, cond, ◌&&◌, ◌||◌, ◌==◌, refl, sym, ap, ap₂, List, [], ◌∷◌, ◌++◌, map, nat_lt, Option, Some, None, bytes_eq, ◌⊎◌, inl, inr, subst}
use Rattle.std.specs.List.{list_any, find, fold, before_first}
use Rattle.std.specs.Option.{is_some, option_and_then, option_map_or}
use Rattle.std.proofs.Math.Bool.{or-false}
use Rattle.std.proofs.lemmas.Bool.{and_right, or_parts, or_right, or_left, eqb-true}
use Rattle.std.proofs.lemmas.Slice.Eq.{bytes_eq-Decides}
use Rattle.clap.specs.Lexer.{long_of, long_of_rest, short_of, short_of_rest, strip_byte}
use Rattle.clap.specs.Kinds.{Kinds, or_else, check_kinds}
use Rattle.clap.specs.Walk.{Rule, Text, Row, Held, Waiting, Walk, Step, has_long, arg_by_long, arg_by_id, has_row, settled, used_by_id, walked, walk_from, nothing_held, idle, option, long_met, after_flag, after_step, option_word, short_or_plain, long_or_other, trailing, next, pushed, is_pending, takes_several, first_of, with_default, rows_after, arg_by_index, to_positional}
use Rattle.clap.specs.Simple.{App, Shape, new_rule, new_shape, filled, filled_from, with_index, built, matches_of, names_of, entered}
use Rattle.clap.specs.Takes.{is_given}
use Rattle.clap.specs.Faults.{walk_fault, turn_fault, settle_fault, use_fault, long_fault, step_fault, bundle_fault, flag_word_fault, positional_fault, stray_fault, fault_of, built_fault, level_fault, entered_fault, defaults_fault}
use Rattle.clap.specs.declared.error.kind.ErrorKind.TheVariants as kind
use Rattle.ppq_words.specs.Command.{option_rule, command_app}
use Rattle.ppq_words.specs.Uses.{Use, alone, is_option, before_equals, after_equals, begins_with_hyphen, uses_of, with_use, option_use, names_differ, value_under}
use Rattle.ppq_words.specs.Strays.{is_stray, has_stray_value}
use Rattle.ppq_words.proofs.Rows.{row, add, add_uses, set_row, set_missing, has_row-append, before_is, after_is, clean, clean-or_else, settled_once, no_default, or_true, or_else-nil, or_else-parts, clean-nil, some_parts, then_parts, row_of_use, uses_parts, add_all-rows, first_under}

-- a name as an option
abbrev pub hyphened : Text → Text
hyphened name = 45 ∷ 45 ∷ name

-- an option as it is built
abbrev pub built_option : Text → Rule
built_option name = filled (option_rule (hyphened name))

-- the word that stands alone, as it is built
abbrev pub built_script : Rule
built_script = with_index 1 (filled (new_rule alone))

module _ (command : Text) (names : List Text) where
  abbrev pub options : List Text
  options = map hyphened names

  abbrev pub rules : List Rule
  rules = built_script ∷ map built_option names

  abbrev pub shape : Shape
  shape = record (new_shape command) { rules = rules; disable_help_flag = true; disable_help_subcommand = true; is_built = true }

  abbrev pub built_app : App
  built_app = record { top = shape; subs = [] }

  abbrev is_known : Text → Bool
  is_known word = is_option options word

  -- a name among some, or none
  among_step : (n name : Text) (b rest : Bool) (o : Option Rule) → (b ≡ true → n ≡ name) → o ≡ cond rest (Some (built_option name)) None
      → cond b (Some (built_option n)) o ≡ cond (b || rest) (Some (built_option name)) None
  among_step n name true rest o same e = ap (λ (m : Text). Some (built_option m)) (same refl)
  among_step n name false rest o same e = e

  id_among : (ns : List Text) (name : Text) → find (λ a. bytes_eq a.id (45 ∷ 45 ∷ name)) (map built_option ns) ≡ cond (is_option (map hyphened ns) (hyphened name)) (Some (built_option name)) None
  id_among [] name = refl
  id_among (n ∷ ns) name = among_step n name (bytes_eq n name) (is_option (map hyphened ns) (hyphened name)) _ (λ e. (bytes_eq-Decides n name).0 e) (id_among ns name)

  long_among : (ns : List Text) (name : Text) → find (λ a. not (is_some a.index) && has_long a name) (map built_option ns) ≡ cond (is_option (map hyphened ns) (hyphened name)) (Some (built_option name)) None
  long_among [] name = refl
  long_among (n ∷ ns) name =
      ap (λ (b : Bool). cond b (Some (built_option n)) (find (λ a. not (is_some a.index) && has_long a name) (map built_option ns))) (or-false (bytes_eq n name))
      ∙ among_step n name (bytes_eq n name) (is_option (map hyphened ns) (hyphened name)) _ (λ e. (bytes_eq-Decides n name).0 e) (long_among ns name)

  pub by_long : (name : Text) → arg_by_long rules name ≡ cond (is_known (45 ∷ 45 ∷ name)) (Some (built_option name)) None
  by_long name = long_among names name

  pub by_id : (name : Text) → is_known (45 ∷ 45 ∷ name) ≡ true → arg_by_id rules (45 ∷ 45 ∷ name) ≡ Some (built_option name)
  by_id name known = id_among names name ∙ ap (λ b. cond b (Some (built_option name)) None) known

  -- the rows where what is held is settled
  abbrev pub settles : Held → Option (List Row)
  settles h = cond (clean (settle_fault rules false h)) (Some (settled rules h).rows) None

  abbrev pub run_rows : Walk → List Text → Option (List Row)
  run_rows w [] = settles w.held
  run_rows w (word ∷ words) = cond (clean (turn_fault shape [] w word)) (run_rows (walked rules [] w word) words) None

  pub run_rows-is : (w : Walk) (words : List Text)
      → run_rows w words ≡ cond (clean (walk_fault shape [] w words)) (settles (fold (walked rules []) w words).held) None
  unfolding walk_fault
  run_rows-is w [] = refl
  run_rows-is w (word ∷ words) =
      ap (λ o. cond (clean (turn_fault shape [] w word)) o None) (run_rows-is (walked rules [] w word) words)
      ∙ both (clean (turn_fault shape [] w word)) (clean (walk_fault shape [] (walked rules [] w word) words)) _
      ∙ ap (λ b. cond b (settles (fold (walked rules []) (walked rules [] w word) words).held) None) (sym (clean-or_else (turn_fault shape [] w word) (walk_fault shape [] (walked rules [] w word) words)))
    where
      both : (a b : Bool) (o : Option (List Row)) → cond a (cond b o None) None ≡ cond (a && b) o None
      both true b o = refl
      both false b o = refl

  abbrev pub held : List Row → Option (Text × List Text) → Held
  held rows p = record { rows = rows; pending = p; skip = 0 }

  abbrev pub at : List Row → Option (Text × List Text) → Waiting → ℕ → Walk
  at rows p waiting position = record { held = held rows p; waiting = waiting; position = position; is_trailing = false; stopped = None }

  pub settles_one : (name v : Text) (rows : List Row) → is_known (45 ∷ 45 ∷ name) ≡ true → settles (held rows (Some (45 ∷ 45 ∷ name, v ∷ []))) ≡ add (45 ∷ 45 ∷ name) v rows
  settles_one name v rows known =
      ap (λ (o : Option Rule). cond (clean (option_map_or (λ a. use_fault false a (v ∷ []) rows) o [])) (Some (used_by_id o (v ∷ []) rows)) None) (by_id name known)
      ∙ settled_once (45 ∷ 45 ∷ name) v rows

  pub settles_script : (v : Text) (rows : List Row) → settles (held rows (Some (alone, v ∷ []))) ≡ add alone v rows
  settles_script v rows = settled_once alone v rows

  pub settles_waiting : (name : Text) (rows : List Row) → is_known (45 ∷ 45 ∷ name) ≡ true → settles (held rows (Some (45 ∷ 45 ∷ name, []))) ≡ None
  settles_waiting name rows known =
      ap (λ (o : Option Rule). cond (clean (option_map_or (λ a. use_fault false a [] rows) o [])) (Some (used_by_id o [] rows)) None) (by_id name known)

  -- ---- one word

  -- the rest of the walk from what a word was
  abbrev met_next : Walk → Text → List Text → Kinds → Held × Step → Option (List Row)
  met_next w word words fault met = cond (clean (or_else fault (step_fault shape w.position met.0 met.1))) (run_rows (after_step rules word w met.0 met.1) words) None

  -- by whether the word is `--`, and what it is as an option
  abbrev word_next : Walk → Text → List Text → Bool → Option (Text × Option Text) → Option (List Row)
  word_next w word words dashes lo =
      met_next w word words (cond dashes [] (flag_word_fault rules false lo word w.held)) (cond dashes (w.held, trailing w.position) (long_or_other rules w.waiting word lo w.held))

  abbrev short_next : Walk → Text → List Text → Option Text → Option (List Row)
  short_next w word words so = met_next w word words (option_map_or (λ flags. bundle_fault rules false flags w.held) so []) (short_or_plain rules w.waiting word so w.held)

  abbrev long_next : Walk → Text → List Text → Option Rule → Option Text → Option (List Row)
  long_next w word words o vo =
      met_next w word words (long_fault rules false o vo w.held) (after_flag rules w.waiting word (long_met rules o vo w.held).0 (long_met rules o vo w.held).1)

  idle_next : (rows : List Row) (p : Option (Text × List Text)) (position : ℕ) (word : Text) (words : List Text)
      → run_rows (at rows p idle position) (word ∷ words) ≡ word_next (at rows p idle position) word words (bytes_eq word (45 ∷ 45 ∷ [])) (long_of word)
  unfolding walked
  idle_next rows p position word words = refl

  waiting_next : (rows : List Row) (p : Option (Text × List Text)) (id : Text) (position : ℕ) (word : Text) (words : List Text)
      → run_rows (at rows p (option id) position) (word ∷ words) ≡ word_next (at rows p (option id) position) word words (bytes_eq word (45 ∷ 45 ∷ [])) (long_of word)
  unfolding walked
  waiting_next rows p id position word words = refl

  -- a word that does not begin with `-`
  plain_is : (word : Text) → begins_with_hyphen word ≡ false → (bytes_eq word (45 ∷ 45 ∷ []) ≡ false) × (long_of word ≡ None) × (short_of word ≡ None)
  plain_is [] e = (refl, refl, refl)
  plain_is (b ∷ bs) e = (
    ap (λ (t : Bool). t && bytes_eq bs (45 ∷ [])) e,
    ap (λ (t : Bool). option_and_then long_of_rest (option_and_then (strip_byte 45) (cond t (Some bs) None))) e,
    ap (λ (t : Bool). option_and_then short_of_rest (cond t (Some bs) None)) e,
  )

  -- ---- values and names

  nothing_then : (rows : Option (List Row)) → option_and_then (add_uses None) rows ≡ None
  nothing_then None = refl
  nothing_then (Some rows) = refl

  -- one value more
  use_step : (id v : Text) (o : Option (List Use)) (rows : List Row) → begins_with_hyphen v ≡ false → add_uses (with_use id v o) rows ≡ option_and_then (add_uses o) (add id v rows)
  use_step id v None rows e = sym (nothing_then (add id v rows))
  use_step id v (Some us) rows e = ap (λ (b : Bool). add_uses (cond b None (Some ((id, v) ∷ us))) rows) e

  use_again : (id v : Text) (o : Option (List Use)) (rows : List Row) → begins_with_hyphen v ≡ false → has_row id rows ≡ true → add_uses (with_use id v o) rows ≡ None
  use_again id v o rows e there = use_step id v o rows e ∙ ap (λ (b : Bool). option_and_then (add_uses o) (cond b None (Some (rows ++ row id v ∷ [])))) there

  use_first : (id v : Text) (o : Option (List Use)) (rows : List Row) → begins_with_hyphen v ≡ false → has_row id rows ≡ false → add_uses (with_use id v o) rows ≡ add_uses o (rows ++ row id v ∷ [])
  use_first id v o rows e none = use_step id v o rows e ∙ ap (λ (b : Bool). option_and_then (add_uses o) (cond b None (Some (rows ++ row id v ∷ [])))) none

  -- an option with its value in the word
  value_met : (fault : Kinds) (id v : Text) (rows : List Row) (o : Option (List Use)) (rest : List Row → Option (List Row)) → begins_with_hyphen v ≡ false
      → (clean fault ≡ true → has_row id rows ≡ false → rest (set_row id v rows) ≡ add_uses o (rows ++ row id v ∷ []))
      → cond (clean (or_else (or_else fault (or_else (cond (has_row id rows && true) (kind.ArgumentConflict ∷ []) []) [])) [])) (rest (set_row id v rows)) None
      ≡ option_and_then (add_uses (with_use id v o)) (cond (clean fault) (Some rows) None)
  value_met (k ∷ ks) id v rows o rest e ih = refl
  value_met [] id v rows o rest e ih = go (has_row id rows) refl
    where
      go : (b : Bool) → has_row id rows ≡ b
          → cond (clean (or_else (or_else (cond (b && true) (kind.ArgumentConflict ∷ []) []) []) [])) (rest (set_row id v rows)) None ≡ add_uses (with_use id v o) rows
      go true there = sym (use_again id v o rows e there)
      go false none = ih refl none ∙ sym (use_first id v o rows e none)

  -- an option that waits for its value
  waiting_met : (fault : Kinds) (rows : List Row) (o : Option (List Use)) (rest : Option (List Row)) → (clean fault ≡ true → rest ≡ add_uses o rows)
      → cond (clean (or_else fault [])) rest None ≡ option_and_then (add_uses o) (cond (clean fault) (Some rows) None)
  waiting_met [] rows o rest ih = ih refl
  waiting_met (k ∷ ks) rows o rest ih = refl

  -- ---- all words

  -- where the walk looks for SCRIPT: at position 1, or at 2, and then it has it
  abbrev HasPlace : ℕ → Option (List Row) → Type 0
  HasPlace position o = (position ≡ 1) ⊎ ((position ≡ 2) × ((rows : List Row) → o ≡ Some rows → has_row alone rows ≡ true))

  abbrev Idle : List Text → Type 0
  Idle words = (rows : List Row) (p : Option (Text × List Text)) (position : ℕ) → HasPlace position (settles (held rows p)) → list_any is_stray words ≡ false
      → run_rows (at rows p idle position) words ≡ option_and_then (add_uses (uses_of options None words)) (settles (held rows p))

  abbrev Waits : List Text → Type 0
  Waits words = (rows : List Row) (name : Text) (position : ℕ) → is_known (45 ∷ 45 ∷ name) ≡ true → HasPlace position (Some rows) → list_any is_stray words ≡ false
      → run_rows (at rows (Some (45 ∷ 45 ∷ name, [])) (option (45 ∷ 45 ∷ name)) position) words ≡ add_uses (uses_of options (Some (45 ∷ 45 ∷ name)) words) rows

  -- a word that begins with `-` and is handed on
  two_hyphens : (t stray : Bool) → cond t stray true ≡ false → (t ≡ true) × (stray ≡ false)
  two_hyphens true stray e = (refl, e)
  two_hyphens false stray e = cc

  hyphen_word : (word : Text) → begins_with_hyphen word ≡ true → is_stray word ≡ false → (x : ℕ) × (xs : List ℕ) × (word ≡ 45 ∷ 45 ∷ x ∷ xs) × (has_stray_value (after_equals (x ∷ xs)) ≡ false)
  hyphen_word [] h e = cc
  hyphen_word (b ∷ []) h e = let bad : true ≡ false = sym (ap (λ (t : Bool). cond t true false) h) ∙ e in cc
  hyphen_word (b ∷ c ∷ []) h e =
      let left : cond (c == 45) true true ≡ false = sym (ap (λ (t : Bool). cond t (cond (c == 45) true true) false) h) ∙ e in
      let bad = two_hyphens (c == 45) true left in
      cc
  hyphen_word (b ∷ c ∷ x ∷ xs) h e =
      let left : cond (c == 45) (has_stray_value (after_equals (x ∷ xs))) true ≡ false = sym (ap (λ (t : Bool). cond t (cond (c == 45) (has_stray_value (after_equals (x ∷ xs))) true) false) h) ∙ e in
      let parts = two_hyphens (c == 45) (has_stray_value (after_equals (x ∷ xs))) left in
      (x, xs, ap₂ (λ (y z : ℕ). y ∷ z ∷ x ∷ xs) (eqb-true b 45 h) (eqb-true c 45 parts.0), parts.1)

  -- the rows after a value more
  kept_there : (k id v : Text) (rows rs : List Row) → add id v rows ≡ Some rs → has_row k rows ≡ true → has_row k rs ≡ true
  kept_there k id v rows rs e there = go (has_row id rows) e
    where
      go : (b : Bool) → cond b None (Some (rows ++ row id v ∷ [])) ≡ Some rs → has_row k rs ≡ true
      go true e = cc
      go false e =
          let same : rows ++ row id v ∷ [] ≡ rs = cc in
          sym (ap (has_row k) same) ∙ (has_row-append k rows (row id v ∷ []) ∙ or_left (has_row k rows) (has_row k (row id v ∷ [])) there)

  added_there : (id v : Text) (rows rs : List Row) → add id v rows ≡ Some rs → has_row id rs ≡ true
  added_there id v rows rs e = go (has_row id rows) e
    where
      go : (b : Bool) → cond b None (Some (rows ++ row id v ∷ [])) ≡ Some rs → has_row id rs ≡ true
      go true e = cc
      go false e =
          let same : rows ++ row id v ∷ [] ≡ rs = cc in
          let here : has_row id (row id v ∷ []) ≡ true = or_left (bytes_eq id id) false ((bytes_eq-Decides id id).1 refl) in
          sym (ap (has_row id) same) ∙ (has_row-append id rows (row id v ∷ []) ∙ or_right (has_row id rows) (has_row id (row id v ∷ [])) here)

  place_settled : (position : ℕ) (fault : Kinds) (rows : List Row) → HasPlace position (cond (clean fault) (Some rows) None) → clean fault ≡ true → HasPlace position (Some rows)
  place_settled position fault rows place ok = subst (λ (b : Bool). HasPlace position (cond b (Some rows) None)) ok place

  place_set : (position : ℕ) (id v : Text) (rows rs : List Row) → HasPlace position (Some rows) → rs ≡ rows ++ row id v ∷ [] → HasPlace position (Some rs)
  place_set position id v rows rs place e = elim place [
    | inl one ↦ inl one
    | inr two ↦ inr (
      two.0,
      λ (zs : List Row) (is : Some rs ≡ Some zs).
          let same : rs ≡ zs = cc in
          sym (ap (has_row alone) same) ∙ (ap (has_row alone) e ∙ (has_row-append alone rows (row id v ∷ []) ∙ or_left (has_row alone rows) (has_row alone (row id v ∷ [])) (two.1 rows refl))),
    )
  ]

  place_added : (position : ℕ) (id v : Text) (rows : List Row) (o : Option (List Row)) → o ≡ add id v rows → HasPlace position (Some rows) → HasPlace position o
  place_added position id v rows o e place = elim place [
    | inl one ↦ inl one
    | inr two ↦ inr (two.0, λ (zs : List Row) (is : o ≡ Some zs). kept_there alone id v rows zs (sym e ∙ is) (two.1 rows refl))
  ]

  -- SCRIPT
  script_met : (fault : Kinds) (v : Text) (rows : List Row) (o : Option (List Use)) (rest : Option (List Row)) → begins_with_hyphen v ≡ false
      → (clean fault ≡ true → rest ≡ option_and_then (add_uses o) (add alone v rows))
      → cond (clean fault) rest None ≡ option_and_then (add_uses (with_use alone v o)) (cond (clean fault) (Some rows) None)
  script_met [] v rows o rest e ih = ih refl ∙ sym (use_step alone v o rows e)
  script_met (k ∷ ks) v rows o rest e ih = refl

  idle_first : (word : Text) (words : List Text) → Idle words → (rows : List Row) (p : Option (Text × List Text)) → list_any is_stray words ≡ false → begins_with_hyphen word ≡ false
      → short_next (at rows p idle 1) word words None ≡ option_and_then (add_uses (with_use alone word (uses_of options None words))) (settles (held rows p))
  idle_first word words ih rows p few plain =
      let h = held rows p in
      let rs : List Row = (settled rules h).rows in
      let first_at : Bool → Option (List Row) = λ b. cond (clean (cond b [] (settle_fault rules false h)))
      (run_rows (record { held = pushed alone word (cond b h (settled rules h)); waiting = idle; position = 2; is_trailing = false; stopped = None }) words) None in
      let is_first : short_next (at rows p idle 1) word words None ≡ first_at false = ap first_at (and_right (is_pending built_script p) (takes_several built_script) refl) in
      is_first ∙ script_met (settle_fault rules false h) word rs (uses_of options None words) (run_rows (at rs (Some (alone, word ∷ [])) idle 2) words) plain
      (λ ok. ih rs (Some (alone, word ∷ [])) 2 (inr (refl, λ (zs : List Row) (is : settles (held rs (Some (alone, word ∷ []))) ≡ Some zs). added_there alone word rs zs (sym (settles_script word rs) ∙ is))) few
      ∙ ap (option_and_then (add_uses (uses_of options None words))) (settles_script word rs))

  no_positional : (ns : List Text) (i : ℕ) → arg_by_index (map built_option ns) i ≡ None
  no_positional [] i = refl
  no_positional (n ∷ ns) i = no_positional ns i

  idle_second : (word : Text) (words : List Text) (rows : List Row) (p : Option (Text × List Text)) → ((rs : List Row) → settles (held rows p) ≡ Some rs → has_row alone rs ≡ true) → begins_with_hyphen word ≡ false
      → short_next (at rows p idle 2) word words None ≡ option_and_then (add_uses (with_use alone word (uses_of options None words))) (settles (held rows p))
  idle_second word words rows p there plain =
      let second_at : Option Rule → Option (List Row) = λ o. cond (clean (option_map_or (λ a. positional_fault rules false a (held rows p)) o (stray_fault shape))) (run_rows (to_positional rules o word (at rows p idle 2) (held rows p)) words) None in
      let is_second : short_next (at rows p idle 2) word words None ≡ None = ap second_at (no_positional names 2) in
      is_second ∙ go (settles (held rows p)) refl
    where
      go : (o : Option (List Row)) → settles (held rows p) ≡ o → None ≡ option_and_then (add_uses (with_use alone word (uses_of options None words))) o
      go None e = refl
      go (Some rs) e = sym (use_again alone word (uses_of options None words) rs plain (there rs e))

  plain_next : (w : Walk) (word : Text) (words : List Text) → begins_with_hyphen word ≡ false → word_next w word words (bytes_eq word (45 ∷ 45 ∷ [])) (long_of word) ≡ short_next w word words None
  plain_next w word words plain =
      let facts = plain_is word plain in
      ap₂ (word_next w word words) facts.0 facts.1 ∙ ap (short_next w word words) facts.2

  idle_plain : (word : Text) (words : List Text) → Idle words → (rows : List Row) (p : Option (Text × List Text)) (position : ℕ) → HasPlace position (settles (held rows p)) → list_any is_stray words ≡ false
      → begins_with_hyphen word ≡ false
      → run_rows (at rows p idle position) (word ∷ words) ≡ option_and_then (add_uses (with_use alone word (uses_of options None words))) (settles (held rows p))
  idle_plain word words ih rows p position place few plain =
      idle_next rows p position word words ∙ (plain_next (at rows p idle position) word words plain ∙ elim place [
        | inl one ↦ ap (λ (k : ℕ). short_next (at rows p idle k) word words None) one ∙ idle_first word words ih rows p few plain
        | inr two ↦ ap (λ (k : ℕ). short_next (at rows p idle k) word words None) two.0 ∙ idle_second word words rows p two.1 plain
      ])

  idle_option : (word name : Text) (words : List Text) → Idle words → Waits words → (rows : List Row) (p : Option (Text × List Text)) (position : ℕ) → HasPlace position (settles (held rows p)) → list_any is_stray words ≡ false
      → (known : Bool) (vo : Option Text) → is_known (45 ∷ 45 ∷ name) ≡ known → has_stray_value vo ≡ false
      → long_next (at rows p idle position) word words (cond known (Some (built_option name)) None) vo
      ≡ option_and_then (add_uses (cond known (option_use (45 ∷ 45 ∷ name) vo (uses_of options None words) (uses_of options (Some (45 ∷ 45 ∷ name)) words)) None)) (settles (held rows p))
  idle_option word name words idles waits rows p position place few false vo is tidy = sym (nothing_then (settles (held rows p)))
  idle_option word name words idles waits rows p position place few true (Some v) is tidy =
      let h = held rows p in
      let rs : List Row = (settled rules h).rows in
      let id : Text = 45 ∷ 45 ∷ name in
      value_met (settle_fault rules false h) id v rs (uses_of options None words) (λ (zs : List Row). run_rows (at zs None idle position) words) tidy
      (λ ok none.
      let set = set_missing id v rs none in
      idles (set_row id v rs) None position (place_set position id v rs (set_row id v rs) (place_settled position (settle_fault rules false h) rs place ok) set) few
      ∙ ap (add_uses (uses_of options None words)) set)
  idle_option word name words idles waits rows p position place few true None is tidy =
      let h = held rows p in
      let rs : List Row = (settled rules h).rows in
      waiting_met (settle_fault rules false h) rs (uses_of options (Some (45 ∷ 45 ∷ name)) words) (run_rows (at rs (Some (45 ∷ 45 ∷ name, [])) (option (45 ∷ 45 ∷ name)) position) words)
      (λ ok. waits rs name position is (place_settled position (settle_fault rules false h) rs place ok) few)

  long_is : (xs : List ℕ) → arg_by_long rules (before_first (λ y. y == 61) xs) ≡ cond (is_known (45 ∷ 45 ∷ before_equals xs)) (Some (built_option (before_equals xs))) None
  long_is xs = ap (arg_by_long rules) (before_is xs) ∙ by_long (before_equals xs)

  idle_long : (x : ℕ) (xs : List ℕ) (words : List Text) → Idle words → Waits words → (rows : List Row) (p : Option (Text × List Text)) (position : ℕ) → HasPlace position (settles (held rows p)) → list_any is_stray words ≡ false
      → has_stray_value (after_equals (x ∷ xs)) ≡ false
      → run_rows (at rows p idle position) ((45 ∷ 45 ∷ x ∷ xs) ∷ words) ≡ option_and_then (add_uses (uses_of options None ((45 ∷ 45 ∷ x ∷ xs) ∷ words))) (settles (held rows p))
  idle_long x xs words idles waits rows p position place few tidy =
      idle_next rows p position (45 ∷ 45 ∷ x ∷ xs) words
      ∙ (ap₂ (long_next (at rows p idle position) (45 ∷ 45 ∷ x ∷ xs) words) (long_is (x ∷ xs)) (after_is (x ∷ xs))
      ∙ idle_option (45 ∷ 45 ∷ x ∷ xs) (before_equals (x ∷ xs)) words idles waits rows p position place few (is_known (45 ∷ 45 ∷ before_equals (x ∷ xs))) (after_equals (x ∷ xs)) refl tidy)

  waits_plain : (word : Text) (words : List Text) → Idle words → (rows : List Row) (name : Text) (position : ℕ) → is_known (45 ∷ 45 ∷ name) ≡ true → HasPlace position (Some rows) → list_any is_stray words ≡ false
      → begins_with_hyphen word ≡ false
      → run_rows (at rows (Some (45 ∷ 45 ∷ name, [])) (option (45 ∷ 45 ∷ name)) position) (word ∷ words) ≡ add_uses (with_use (45 ∷ 45 ∷ name) word (uses_of options None words)) rows
  waits_plain word words ih rows name position known place few plain =
      let id : Text = 45 ∷ 45 ∷ name in
      let h = held rows (Some (id, [])) in
      let w = at rows (Some (id, [])) (option id) position in
      let by_rule : Option Rule → Option (List Row) = λ o. met_next w word words [] ((option_word o id word h).0, next (option_word o id word h).1) in
      let by_count : Bool → Option (List Row) = λ b. run_rows (at rows (Some (id, word ∷ [])) (cond (nat_lt (cond b 1 0) 1) (option id) idle) position) words in
      let counted : by_rule (arg_by_id rules id) ≡ by_count true = ap by_rule (by_id name known) ∙ ap by_count ((bytes_eq-Decides name name).1 refl) in
      let one = settles_one name word rows known in
      waiting_next rows (Some (id, [])) id position word words ∙ (plain_next w word words plain ∙ (counted
      ∙ (ih rows (Some (id, word ∷ [])) position (place_added position id word rows (settles (held rows (Some (id, word ∷ [])))) one place) few
      ∙ (ap (option_and_then (add_uses (uses_of options None words))) one ∙ sym (use_step id word (uses_of options None words) rows plain)))))

  still_faulty : (a b : Kinds) (rest : Option (List Row)) → clean a ≡ false → cond (clean (or_else (or_else a b) [])) rest None ≡ None
  still_faulty [] b rest e = cc
  still_faulty (k ∷ ks) b rest e = refl

  faulty : (a : Kinds) (rest : Option (List Row)) → clean a ≡ false → cond (clean (or_else a [])) rest None ≡ None
  faulty [] rest e = cc
  faulty (k ∷ ks) rest e = refl

  waits_option : (word other : Text) (words : List Text) (rows : List Row) (name : Text) (position : ℕ) → clean (settle_fault rules false (held rows (Some (45 ∷ 45 ∷ name, [])))) ≡ false
      → (known : Bool) (vo : Option Text) → long_next (at rows (Some (45 ∷ 45 ∷ name, [])) (option (45 ∷ 45 ∷ name)) position) word words (cond known (Some (built_option other)) None) vo ≡ None
  waits_option word other words rows name position bad false vo = refl
  waits_option word other words rows name position bad true (Some v) = still_faulty (settle_fault rules false (held rows (Some (45 ∷ 45 ∷ name, [])))) _ _ bad
  waits_option word other words rows name position bad true None = faulty (settle_fault rules false (held rows (Some (45 ∷ 45 ∷ name, [])))) _ bad

  waits_long : (x : ℕ) (xs : List ℕ) (words : List Text) → (rows : List Row) (name : Text) (position : ℕ) → is_known (45 ∷ 45 ∷ name) ≡ true
      → run_rows (at rows (Some (45 ∷ 45 ∷ name, [])) (option (45 ∷ 45 ∷ name)) position) ((45 ∷ 45 ∷ x ∷ xs) ∷ words) ≡ None
  waits_long x xs words rows name position known =
      let id : Text = 45 ∷ 45 ∷ name in
      let w = at rows (Some (id, [])) (option id) position in
      let bad : clean (settle_fault rules false (held rows (Some (id, [])))) ≡ false = ap (λ (o : Option Rule). clean (option_map_or (λ a. use_fault false a [] rows) o [])) (by_id name known) in
      waiting_next rows (Some (id, [])) id position (45 ∷ 45 ∷ x ∷ xs) words
      ∙ (ap₂ (long_next w (45 ∷ 45 ∷ x ∷ xs) words) (long_is (x ∷ xs)) (after_is (x ∷ xs))
      ∙ waits_option (45 ∷ 45 ∷ x ∷ xs) (before_equals (x ∷ xs)) words rows name position bad (is_known (45 ∷ 45 ∷ before_equals (x ∷ xs))) (after_equals (x ∷ xs)))

  -- a word of either kind
  idle_word : (word : Text) (words : List Text) → Idle words → Waits words → Idle (word ∷ words)
  idle_word word words idles waits rows p position place few =
      let parts = or_parts (is_stray word) (list_any is_stray words) few in
      go (begins_with_hyphen word) refl parts.0 parts.1
    where
      go : (b : Bool) → begins_with_hyphen word ≡ b → is_stray word ≡ false → list_any is_stray words ≡ false
          → run_rows (at rows p idle position) (word ∷ words) ≡ option_and_then (add_uses (uses_of options None (word ∷ words))) (settles (held rows p))
      go true e tidy rest =
          let as_long = hyphen_word word e tidy in
          subst (λ (z : Text). run_rows (at rows p idle position) (z ∷ words) ≡ option_and_then (add_uses (uses_of options None (z ∷ words))) (settles (held rows p))) (sym as_long.2)
          (idle_long as_long.0 as_long.1 words idles waits rows p position place rest as_long.3)
      go false e tidy rest =
          idle_plain word words idles rows p position place rest e
          ∙ sym (ap (λ (b : Bool). option_and_then (add_uses (cond b (cond (is_known (before_equals word)) (option_use (before_equals word) (after_equals word) (uses_of options None words) (uses_of options (Some (before_equals word)) words)) None)
          (with_use alone word (uses_of options None words)))) (settles (held rows p))) e)

  -- a value that begins with `-` is none
  no_use : (id v : Text) (o : Option (List Use)) → begins_with_hyphen v ≡ true → with_use id v o ≡ None
  no_use id v None e = refl
  no_use id v (Some us) e = ap (λ (b : Bool). cond b None (Some ((id, v) ∷ us))) e

  waits_word : (word : Text) (words : List Text) → Idle words → Waits (word ∷ words)
  waits_word word words idles rows name position known place few =
      let parts = or_parts (is_stray word) (list_any is_stray words) few in
      go (begins_with_hyphen word) refl parts.0 parts.1
    where
      go : (b : Bool) → begins_with_hyphen word ≡ b → is_stray word ≡ false → list_any is_stray words ≡ false
          → run_rows (at rows (Some (45 ∷ 45 ∷ name, [])) (option (45 ∷ 45 ∷ name)) position) (word ∷ words) ≡ add_uses (uses_of options (Some (45 ∷ 45 ∷ name)) (word ∷ words)) rows
      go true e tidy rest =
          let as_long = hyphen_word word e tidy in
          ap (λ (z : Text). run_rows (at rows (Some (45 ∷ 45 ∷ name, [])) (option (45 ∷ 45 ∷ name)) position) (z ∷ words)) as_long.2
          ∙ (waits_long as_long.0 as_long.1 words rows name position known
          ∙ sym (ap (λ (o : Option (List Use)). add_uses o rows) (no_use (45 ∷ 45 ∷ name) word (uses_of options None words) e)))
      go false e tidy rest = waits_plain word words idles rows name position known place rest e

  both : (words : List Text) → Idle words × Waits words
  both [] = (
    λ rows p position place few. go (settles (held rows p)),
    λ rows name position known place few. settles_waiting name rows known,
  )
    where
      go : (o : Option (List Row)) → o ≡ option_and_then (add_uses (Some [])) o
      go None = refl
      go (Some rows) = refl
  both (word ∷ words) = let ih = both words in (idle_word word words ih.0 ih.1, waits_word word words ih.0)

  -- the rows of a parse are the values under names
  pub rows_are : (words : List Text) → list_any is_stray words ≡ false → run_rows (walk_from nothing_held) words ≡ add_uses (uses_of options None words) []
  rows_are words few = (both words).0 [] None 1 (inl refl) few

  -- ---- what stands behind the walk

  options_finished : (ns : List Text) (rows : List Row) → fold with_default rows (map built_option ns) ≡ rows
  options_finished [] rows = refl
  options_finished (n ∷ ns) rows = ap (λ (z : List Row). fold with_default z (map built_option ns)) (no_default (has_row (45 ∷ 45 ∷ n) rows) rows) ∙ options_finished ns rows

  all_finished : (rows : List Row) → fold with_default rows rules ≡ rows
  all_finished rows = ap (λ (z : List Row). fold with_default z (map built_option names)) (no_default (has_row alone rows) rows) ∙ options_finished names rows

  options_faultless : (ns : List Text) (rows : List Row) → defaults_fault rows (map built_option ns) ≡ []
  unfolding defaults_fault
  options_faultless [] rows = refl
  options_faultless (n ∷ ns) rows =
      ap₂ or_else (or_true (has_row (45 ∷ 45 ∷ n) rows) [])
      (ap (λ (z : List Row). defaults_fault z (map built_option ns)) (no_default (has_row (45 ∷ 45 ∷ n) rows) rows) ∙ options_faultless ns rows)

  all_faultless : (rows : List Row) → defaults_fault rows rules ≡ []
  unfolding defaults_fault
  all_faultless rows =
      ap₂ or_else (or_true (has_row alone rows) [])
      (ap (λ (z : List Row). defaults_fault z (map built_option names)) (no_default (has_row alone rows) rows) ∙ options_faultless names rows)

  none_missing : (ns : List Text) (rows : List Row) → list_any (λ a. a.required && not (is_given a.id rows)) (map built_option ns) ≡ false
  none_missing [] rows = refl
  none_missing (n ∷ ns) rows = none_missing ns rows

  entered_none : (stop : Option (Text × List Text)) → entered built_app stop ≡ None
  entered_none None = refl
  entered_none (Some p) = refl

  entered_faultless : (stop : Option (Text × List Text)) → entered_fault built_app stop ≡ []
  entered_faultless None = refl
  entered_faultless (Some p) = refl

  -- where the walk ends
  abbrev end_of : List Text → Walk
  end_of words = fold (walked rules []) (walk_from nothing_held) words

  -- the command, and what building makes of it
  abbrev pub app : App
  app = command_app (record { word = command; options = options })

  options_filled : (i : ℕ) (ns : List Text) → filled_from i (map option_rule (map hyphened ns)) ≡ map built_option ns
  options_filled i [] = refl
  options_filled i (n ∷ ns) = ap (λ (z : List Rule). built_option n ∷ z) (options_filled i ns)

  pub is_built : built app ≡ built_app
  is_built = ap (λ (z : List Rule). record built_app { top = record shape { rules = built_script ∷ z } }) (options_filled 2 names)

  fault_is : (first : Text) (words : List Text)
      → fault_of app (first ∷ words) ≡ or_else (walk_fault shape [] (walk_from nothing_held) words) (settle_fault rules false (end_of words).held)
  fault_is first words =
      let rows : List Row = (settled rules (end_of words).held).rows in
      let faults = walk_fault shape [] (walk_from nothing_held) words in
      ap (λ (b : App). built_fault b nothing_held words) is_built
      ∙ (ap₂ (λ (e : Option (Text × List Row)) (f : Kinds). level_fault shape [] nothing_held words (is_some e) f) (entered_none (end_of words).stopped) (entered_faultless (end_of words).stopped)
      ∙ (ap₂ (λ (d : Kinds) (b : Bool). or_else faults (or_else (settle_fault rules false (end_of words).held) (or_else d (check_kinds false false b)))) (all_faultless rows) (none_missing names (fold with_default rows rules))
      ∙ ap (or_else faults) (or_else-nil (settle_fault rules false (end_of words).held))))

  matches_is : (first : Text) (words : List Text) → matches_of app (first ∷ words) ≡ (settled rules (end_of words).held).rows
  matches_is first words =
      ap (λ (b : App). rows_after b.top.rules (names_of b) words) is_built
      ∙ all_finished (settled rules (end_of words).held).rows

  -- a parse without a fault has the rows of the words
  rows_parsed : (first : Text) (words : List Text) → list_any is_stray words ≡ false → fault_of app (first ∷ words) ≡ [] → add_uses (uses_of options None words) [] ≡ Some (matches_of app (first ∷ words))
  rows_parsed first words few e =
      let parts = or_else-parts (walk_fault shape [] (walk_from nothing_held) words) (settle_fault rules false (end_of words).held) (sym (fault_is first words) ∙ e) in
      sym (rows_are words few) ∙ (run_rows-is (walk_from nothing_held) words
      ∙ (ap₂ (λ (x y : Kinds). cond (clean x) (cond (clean y) (Some (settled rules (end_of words).held).rows) None) None) parts.0 parts.1
      ∙ ap (λ (z : List Row). Some z) (sym (matches_is first words))))

  -- words that have rows are parsed without a fault
  parsed_rows : (first : Text) (words : List Text) (rows : List Row) → list_any is_stray words ≡ false → add_uses (uses_of options None words) [] ≡ Some rows → fault_of app (first ∷ words) ≡ []
  parsed_rows first words rows few e =
      let walk_ok = then_parts (clean (walk_fault shape [] (walk_from nothing_held) words)) (settles (end_of words).held) rows (sym (run_rows-is (walk_from nothing_held) words) ∙ (rows_are words few ∙ e)) in
      let end_ok = some_parts (clean (settle_fault rules false (end_of words).held)) (settled rules (end_of words).held).rows rows walk_ok.1 in
      fault_is first words ∙ ap₂ or_else (clean-nil (walk_fault shape [] (walk_from nothing_held) words) walk_ok.0) (clean-nil (settle_fault rules false (end_of words).held) end_ok.0)

  -- a parse without a fault: each name stands at most once, and the matches have its value
  pub parse_ok : (first : Text) (words : List Text) → list_any is_stray words ≡ false → fault_of app (first ∷ words) ≡ []
      → (us : List Use) × (uses_of options None words ≡ Some us) × (names_differ us ≡ true) × ((id : Text) → first_of id (matches_of app (first ∷ words)) ≡ value_under id us)
  parse_ok first words few e =
      let rows = matches_of app (first ∷ words) in
      let parts = uses_parts (uses_of options None words) rows (rows_parsed first words few e) in
      let differ = some_parts (names_differ parts.0) (map row_of_use parts.0) rows (sym (add_all-rows parts.0) ∙ parts.2) in
      (parts.0, parts.1, differ.0, λ id. ap (first_of id) (sym differ.1) ∙ first_under id parts.0)

  -- words each name of which stands at most once are parsed without a fault
  pub parse_uses : (first : Text) (words : List Text) (us : List Use) → list_any is_stray words ≡ false → uses_of options None words ≡ Some us → names_differ us ≡ true → fault_of app (first ∷ words) ≡ []
  parse_uses first words us few e differ =
      parsed_rows first words (map row_of_use us) few
      (ap (λ (o : Option (List Use)). add_uses o []) e ∙ (add_all-rows us ∙ ap (λ (b : Bool). cond b (Some (map row_of_use us)) None) differ))
