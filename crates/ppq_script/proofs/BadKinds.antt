-- Lemmas on the first bad kind and the commands before it, where each line is what it is where it stands, and the first is numbered m.
use Rattle.std.proofs.Common.{◌≡◌, ◌⊎◌, ℕ, Bool, true, false, cond, ◌+◌, ◌-◌, ◌<◌, ◌≤◌, zero, suc, inl, inr, List, [], ◌∷◌, ◌++◌, length, get_or, Option, Some, None, MatchOption, refl, sym, ap, ◌∙◌, subst, arith}
use Rattle.std.specs.Prelude.{⊤}
use Rattle.std.specs.List.{AllByRecursion as Each}
use Rattle.std.proofs.lemmas.Bool.{cases_eq}
use Rattle.ppq_script.specs.declared.command.Command.{Command}
use Rattle.ppq_script.specs.declared.command.Command.TheVariants.{Bulk}
use Rattle.ppq_script.specs.declared.numbered.Numbered.{Numbered}
use Rattle.ppq_script.specs.Lines.{LineKind, Skipped, Plain, OfFile, Bad, numbered_from, names_of, first_bad, first_bad_by, bad_or}
use Rattle.ppq_script.specs.Files.{name_at}
use Rattle.ppq_script.specs.Meaning.{HasLine, Rises}
use Rattle.ppq_script.proofs.NamesOf.{names_more, file_more, name_here, name_there}

-- a number below the first bad one, if there is one
abbrev NotYet : Option ℕ → ℕ → Type 0
NotYet bad n = MatchOption bad ⊤ (λ b. n < b)

module _ {R : Type 0} where
  -- a line that is not bad, and whose file can be used
  abbrev pub is_good : (List ℕ → Bool) → LineKind R → Bool
  is_good usable Skipped = true
  is_good usable (Plain command) = true
  is_good usable (OfFile name) = usable name
  is_good usable Bad = false

  bad_or-good : (usable : List ℕ → Bool) (m : ℕ) (k : LineKind R) (rest : Option ℕ) → bad_or usable m k rest ≡ cond (is_good usable k) rest (Some m)
  bad_or-good usable m Skipped rest = refl
  bad_or-good usable m (Plain command) rest = refl
  bad_or-good usable m (OfFile name) rest = refl
  bad_or-good usable m Bad rest = refl

  -- n is the number of the first bad line
  pub record FirstBadFrom (usable : List ℕ → Bool) (m : ℕ) (kinds : List (LineKind R)) (n : ℕ) : Type 0 where
    pub from : m ≤ n
    pub there : n < m + length kinds
    pub bad : is_good usable (get_or kinds (n - m) Bad) ≡ false
    pub before : (k : ℕ) → m ≤ k → k < n → is_good usable (get_or kinds (k - m) Bad) ≡ true

  -- the lines behind the first
  shifted : (m n : ℕ) (k : LineKind R) (ks : List (LineKind R)) → m + 1 ≤ n → get_or (k ∷ ks) (n - m) Bad ≡ get_or ks (n - (m + 1)) Bad
  shifted m n k ks h = let e : n - m ≡ suc (n - (m + 1)) = omega arith in ap (λ (i : ℕ). get_or (k ∷ ks) i Bad) e

  at_first : (m n : ℕ) (k : LineKind R) (ks : List (LineKind R)) → m ≡ n → get_or (k ∷ ks) (n - m) Bad ≡ k
  at_first m n k ks e = let z : n - m ≡ 0 = omega arith in ap (λ (i : ℕ). get_or (k ∷ ks) i Bad) z

  abbrev Is : (List ℕ → Bool) → Bool → LineKind R → Type 0
  Is usable t k = is_good usable k ≡ t

  bad_first : (usable : List ℕ → Bool) (m n : ℕ) (k : LineKind R) (ks : List (LineKind R)) → Is usable false k → m ≡ n → FirstBadFrom usable m (k ∷ ks) n
  bad_first usable m n k ks bad same = record {
    from = omega arith;
    there = omega arith;
    bad = subst (Is usable false) (sym (at_first m n k ks same)) bad;
    before = λ i low high. absurd (omega (arith, same, low, high));
  }

  bad_later : (usable : List ℕ → Bool) (m n : ℕ) (k : LineKind R) (ks : List (LineKind R)) → Is usable true k → FirstBadFrom usable (m + 1) ks n → FirstBadFrom usable m (k ∷ ks) n
  bad_later usable m n k ks good h = record {
    from = omega (arith, h.from);
    there = omega (arith, h.there);
    bad = subst (Is usable false) (sym (shifted m n k ks h.from)) h.bad;
    before = λ i low high. elim (cases_eq m i) as (λ _. Is usable true (get_or (k ∷ ks) (i - m) Bad)) [
      | inl e ↦ subst (Is usable true) (sym (at_first m i k ks e)) good
      | inr e ↦ (let above : m + 1 ≤ i = omega (arith, e, low) in subst (Is usable true) (sym (shifted m i k ks above)) (h.before i above high))
    ];
  }

  pub is_first_bad : (usable : List ℕ → Bool) (m : ℕ) (kinds : List (LineKind R)) (n : ℕ) → first_bad_by usable m kinds ≡ Some n → FirstBadFrom usable m kinds n
  is_first_bad usable m [] n e = cc
  is_first_bad usable m (k ∷ ks) n e =
      by_test (is_good usable k) refl (sym (bad_or-good usable m k (first_bad_by usable (m + 1) ks)) ∙ e) (λ (h : first_bad_by usable (m + 1) ks ≡ Some n). is_first_bad usable (m + 1) ks n h)
    where
      by_test : (t : Bool) → is_good usable k ≡ t → cond t (first_bad_by usable (m + 1) ks) (Some m) ≡ Some n → (first_bad_by usable (m + 1) ks ≡ Some n → FirstBadFrom usable (m + 1) ks n) → FirstBadFrom usable m (k ∷ ks) n
      by_test true is e rest = bad_later usable m n k ks is (rest e)
      by_test false is e rest = let same : m ≡ n = cc in bad_first usable m n k ks is same

  -- a good line is not the first bad one
  not_first : (usable : List ℕ → Bool) (m n : ℕ) (k : LineKind R) (ks : List (LineKind R)) → FirstBadFrom usable m (k ∷ ks) n → Is usable true k → FirstBadFrom usable (m + 1) ks n
  not_first usable m n k ks h good = elim (cases_eq m n) as (λ _. FirstBadFrom usable (m + 1) ks n) [
    | inl e ↦ (let bad : Is usable false k = subst (Is usable false) (at_first m n k ks e) h.bad in absurd (both good bad))
    | inr e ↦ (let above : m + 1 ≤ n = omega (arith, e, h.from) in record {
      from = above;
      there = omega (arith, h.there);
      bad = subst (Is usable false) (shifted m n k ks above) h.bad;
      before = λ i low high. subst (Is usable true) (shifted m i k ks low) (h.before i (omega (arith, low)) high);
    })
  ]
    where
      both : is_good usable k ≡ true → is_good usable k ≡ false → ⊥
      both good bad = cc

  -- a bad line is
  is_first : (usable : List ℕ → Bool) (m n : ℕ) (k : LineKind R) (ks : List (LineKind R)) → FirstBadFrom usable m (k ∷ ks) n → Is usable false k → Some m ≡ Some n
  is_first usable m n k ks h bad = elim (cases_eq m n) as (λ _. Some m ≡ Some n) [
    | inl e ↦ ap (λ (v : ℕ). Some v) e
    | inr e ↦ (let good : Is usable true k = subst (Is usable true) (at_first m m k ks refl) (h.before m (omega arith) (omega (arith, e, h.from))) in cc)
  ]

  pub first_bad_is : (usable : List ℕ → Bool) (m : ℕ) (kinds : List (LineKind R)) (n : ℕ) → FirstBadFrom usable m kinds n → first_bad_by usable m kinds ≡ Some n
  first_bad_is usable m [] n h = absurd (omega (arith, h.from, h.there))
  first_bad_is usable m (k ∷ ks) n h =
      bad_or-good usable m k (first_bad_by usable (m + 1) ks) ∙ by_test (is_good usable k) refl (λ (h : FirstBadFrom usable (m + 1) ks n). first_bad_is usable (m + 1) ks n h)
    where
      by_test : (t : Bool) → is_good usable k ≡ t → (FirstBadFrom usable (m + 1) ks n → first_bad_by usable (m + 1) ks ≡ Some n) → cond t (first_bad_by usable (m + 1) ks) (Some m) ≡ Some n
      by_test true is rest = rest (not_first usable m n k ks h is)
      by_test false is rest = is_first usable m n k ks h is

  -- no bad line
  pub all_good : (usable : List ℕ → Bool) (m : ℕ) (kinds : List (LineKind R)) → first_bad_by usable m kinds ≡ None → Each (Is usable true) kinds
  all_good usable m [] e = tt
  all_good usable m (k ∷ ks) e =
      by_test (is_good usable k) refl (sym (bad_or-good usable m k (first_bad_by usable (m + 1) ks)) ∙ e) (λ (h : first_bad_by usable (m + 1) ks ≡ None). all_good usable (m + 1) ks h)
    where
      by_test : (t : Bool) → is_good usable k ≡ t → cond t (first_bad_by usable (m + 1) ks) (Some m) ≡ None → (first_bad_by usable (m + 1) ks ≡ None → Each (Is usable true) ks) → Is usable true k × Each (Is usable true) ks
      by_test true is e rest = (is, rest e)
      by_test false is e rest = cc

  pub first_bad-all_good : (usable : List ℕ → Bool) (m : ℕ) (kinds : List (LineKind R)) → Each (Is usable true) kinds → first_bad_by usable m kinds ≡ None
  first_bad-all_good usable m [] h = refl
  first_bad-all_good usable m (k ∷ ks) h =
      bad_or-good usable m k (first_bad_by usable (m + 1) ks) ∙ ap (λ (t : Bool). cond t (first_bad_by usable (m + 1) ks) (Some m)) h.0 ∙ first_bad-all_good usable (m + 1) ks h.1

  pub each_good : (usable : List ℕ → Bool) (kinds : List (LineKind R)) → Each (Is usable true) kinds → (i : ℕ) → i < length kinds → is_good usable (get_or kinds i Bad) ≡ true
  each_good usable [] h i below = absurd (omega (arith, below))
  each_good usable (k ∷ ks) h zero below = h.0
  each_good usable (k ∷ ks) h (suc i) below = each_good usable ks h.1 i (omega (arith, below))

  pub good_each : (usable : List ℕ → Bool) (kinds : List (LineKind R)) → ((i : ℕ) → i < length kinds → is_good usable (get_or kinds i Bad) ≡ true) → Each (Is usable true) kinds
  good_each usable [] h = tt
  good_each usable (k ∷ ks) h = (h 0 (omega arith), good_each usable ks (λ i below. h (suc i) (omega (arith, below))))

  -- line n is before the first bad one
  pub record BeforeFrom (m : ℕ) (kinds : List (LineKind R)) (n : ℕ) : Type 0 where
    pub from : m ≤ n
    pub there : n < m + length kinds
    pub before : MatchOption (first_bad m kinds) ⊤ (λ bad. n < bad)

  before_later : (m n : ℕ) (k : LineKind R) (ks : List (LineKind R)) → first_bad m (k ∷ ks) ≡ first_bad (m + 1) ks → BeforeFrom (m + 1) ks n → BeforeFrom m (k ∷ ks) n
  before_later m n k ks e h = record {
    from = omega (arith, h.from);
    there = omega (arith, h.there);
    before = subst (λ (o : Option ℕ). NotYet o n) (sym e) h.before;
  }

  before_sooner : (m n : ℕ) (k : LineKind R) (ks : List (LineKind R)) → first_bad m (k ∷ ks) ≡ first_bad (m + 1) ks → m + 1 ≤ n → BeforeFrom m (k ∷ ks) n → BeforeFrom (m + 1) ks n
  before_sooner m n k ks e above h = record {
    from = above;
    there = omega (arith, h.there);
    before = subst (λ (o : Option ℕ). NotYet o n) e h.before;
  }

  -- the first line is before what is bad behind it
  above_first : (m : ℕ) (ks : List (LineKind R)) (o : Option ℕ) → first_bad (m + 1) ks ≡ o → NotYet o m
  above_first m ks None e = tt
  above_first m ks (Some n) e = let h = is_first_bad (λ name. true) (m + 1) ks n e in omega (arith, h.from)

  first_before : (m : ℕ) (k : LineKind R) (ks : List (LineKind R)) → first_bad m (k ∷ ks) ≡ first_bad (m + 1) ks → BeforeFrom m (k ∷ ks) m
  first_before m k ks same = record {
    from = omega arith;
    there = omega arith;
    before = subst (λ (o : Option ℕ). NotYet o m) (sym same) (above_first m ks (first_bad (m + 1) ks) refl);
  }

  -- a line asks for this command; a file has this number among the names
  abbrev pub AsksOf : List (List ℕ) → LineKind R → Command R → Type 0
  AsksOf names Skipped c = ⊥
  AsksOf names (Plain command) c = command ≡ c
  AsksOf names (OfFile name) c = (file : ℕ) × ((Bulk file 0 ≡ c) × ((file < length names) × (name_at names file ≡ name)))
  AsksOf names Bad c = ⊥

  -- a command stands on the line with its number
  abbrev pub IsAt : List (List ℕ) → ℕ → List (LineKind R) → Numbered R → Type 0
  IsAt names m kinds item = BeforeFrom m kinds item.line × AsksOf names (get_or kinds (item.line - m) Bad) item.command

  at_later : (names : List (List ℕ)) (m : ℕ) (k : LineKind R) (ks : List (LineKind R)) (items : List (Numbered R)) → first_bad m (k ∷ ks) ≡ first_bad (m + 1) ks → Each (IsAt names (m + 1) ks) items → Each (IsAt names m (k ∷ ks)) items
  at_later names m k ks [] e h = tt
  at_later names m k ks (item ∷ items) e h =
      ((before_later m item.line k ks e h.0.0, subst (λ (kind : LineKind R). AsksOf names kind item.command) (sym (shifted m item.line k ks h.0.0.from)) h.0.1), at_later names m k ks items e h.1)

  at_here : (names : List (List ℕ)) (m : ℕ) (k : LineKind R) (ks : List (LineKind R)) (c : Command R) → first_bad m (k ∷ ks) ≡ first_bad (m + 1) ks → AsksOf names k c → IsAt names m (k ∷ ks) (record { line = m; command = c })
  at_here names m k ks c same asks = (first_before m k ks same, subst (λ (kind : LineKind R). AsksOf names kind c) (sym (at_first m m k ks refl)) asks)

  pub each_at : (names pre : List (List ℕ)) (file m : ℕ) (kinds : List (LineKind R)) → file ≡ length pre → names ≡ pre ++ names_of kinds → Each (IsAt names m kinds) (numbered_from m file kinds)
  each_at names pre file m [] f e = tt
  each_at names pre file m (Skipped ∷ ks) f e = at_later names m Skipped ks (numbered_from (m + 1) file ks) refl (each_at names pre file (m + 1) ks f e)
  each_at names pre file m (Plain c ∷ ks) f e = (at_here names m (Plain c) ks c refl refl, at_later names m (Plain c) ks (numbered_from (m + 1) file ks) refl (each_at names pre file (m + 1) ks f e))
  each_at names pre file m (OfFile name ∷ ks) f e = (
    at_here names m (OfFile name) ks (Bulk file 0) refl (file, (refl, (name_there names pre name (names_of ks) file f e, name_here names pre name (names_of ks) file f e))),
    at_later names m (OfFile name) ks (numbered_from (m + 1) (file + 1) ks) refl (each_at names (pre ++ name ∷ []) (file + 1) (m + 1) ks (file_more pre name file f) (names_more names pre name (names_of ks) e)),
  )
  each_at names pre file m (Bad ∷ ks) f e = tt

  -- and each line before the first bad one is skipped or has its command
  abbrev pub IsFoundAt : ℕ → List (LineKind R) → List (Numbered R) → ℕ → Type 0
  IsFoundAt m kinds items n = (get_or kinds (n - m) Bad ≡ Skipped) ⊎ HasLine n items

  found_later : (m n : ℕ) (k : LineKind R) (ks : List (LineKind R)) (items more : List (Numbered R)) → m + 1 ≤ n → (HasLine n items → HasLine n more) → IsFoundAt (m + 1) ks items n → IsFoundAt m (k ∷ ks) more n
  found_later m n k ks items more above has (inl blank) = inl (shifted m n k ks above ∙ blank)
  found_later m n k ks items more above has (inr there) = inr (has there)

  command_here : (m n : ℕ) (k : LineKind R) (ks : List (LineKind R)) (c : Command R) (items : List (Numbered R)) → BeforeFrom m (k ∷ ks) n → first_bad m (k ∷ ks) ≡ first_bad (m + 1) ks → (BeforeFrom (m + 1) ks n → IsFoundAt (m + 1) ks items n)
      → IsFoundAt m (k ∷ ks) (record { line = m; command = c } ∷ items) n
  command_here m n k ks c items h same rest = elim (cases_eq m n) as (λ _. IsFoundAt m (k ∷ ks) (record { line = m; command = c } ∷ items) n) [
    | inl e ↦ inr (inl e)
    | inr e ↦ (let above : m + 1 ≤ n = omega (arith, e, h.from) in found_later m n k ks items (record { line = m; command = c } ∷ items) above (λ has. inr has) (rest (before_sooner m n k ks same above h)))
  ]

  pub each_found : (m file : ℕ) (kinds : List (LineKind R)) (n : ℕ) → BeforeFrom m kinds n → IsFoundAt m kinds (numbered_from m file kinds) n
  each_found m file [] n h = absurd (omega (arith, h.from, h.there))
  each_found m file (Skipped ∷ ks) n h = elim (cases_eq m n) as (λ _. IsFoundAt m (Skipped ∷ ks) (numbered_from (m + 1) file ks) n) [
    | inl e ↦ inl (at_first m n Skipped ks e)
    | inr e ↦ (let above : m + 1 ≤ n = omega (arith, e, h.from) in
        found_later m n Skipped ks (numbered_from (m + 1) file ks) (numbered_from (m + 1) file ks) above (λ has. has) (each_found (m + 1) file ks n (before_sooner m n Skipped ks refl above h)))
  ]
  each_found m file (Plain c ∷ ks) n h = command_here m n (Plain c) ks c (numbered_from (m + 1) file ks) h refl (λ (b : BeforeFrom (m + 1) ks n). each_found (m + 1) file ks n b)
  each_found m file (OfFile name ∷ ks) n h = command_here m n (OfFile name) ks (Bulk file 0) (numbered_from (m + 1) (file + 1) ks) h refl (λ (b : BeforeFrom (m + 1) ks n). each_found (m + 1) (file + 1) ks n b)
  each_found m file (Bad ∷ ks) n h = let below : n < m = h.before in absurd (omega (arith, h.from, below))

  -- in order
  pub rises : (n m file : ℕ) (kinds : List (LineKind R)) → n < m → Rises n (numbered_from m file kinds)
  rises n m file [] below = tt
  rises n m file (Skipped ∷ ks) below = rises n (m + 1) file ks (omega (arith, below))
  rises n m file (Plain c ∷ ks) below = (below, rises m (m + 1) file ks (omega arith))
  rises n m file (OfFile name ∷ ks) below = (below, rises m (m + 1) (file + 1) ks (omega arith))
  rises n m file (Bad ∷ ks) below = tt
