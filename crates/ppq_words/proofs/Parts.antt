-- The parts of a reading, each from the values and as the arguments have it: for any command.
use Rattle.std.proofs.Common.{◌≡◌, ◌∙◌, ◌↔◌, ◌≤◌, ℕ, Bool, true, false, cond, refl, sym, ap, ap₂, subst, arith, List, [], ◌∷◌, length, nat_le, Option, Some, None, codes, bytes_eq, inl, inr, option_map}
use Rattle.std.specs.List.{AllByRecursion as Each}
use Rattle.std.specs.Option.{option_and_then}
use Rattle.std.proofs.lemmas.Bool.{ne_eqb, le-leb, leb-true}
use Rattle.std.proofs.lemmas.Bool.Decides.{nat_tests}
use Rattle.std.proofs.lemmas.Slice.Eq.{bytes_eq-Decides}
use Rattle.ppq_script.specs.Number.{number_of}
use Rattle.ppq_script.specs.Meaning.{Spells}
use Rattle.ppq_script.specs.declared.form.Form.{Form}
use Rattle.ppq_script.specs.declared.form.Form.TheVariants as form
use Rattle.ppq_words.specs.declared.budget_unit.BudgetUnit.{BudgetUnit}
use Rattle.ppq_words.specs.declared.budget_unit.BudgetUnit.TheVariants as unit
use Rattle.ppq_words.specs.Uses.{Text, alone}
use Rattle.ppq_words.specs.Given.{Given, given_as, AreGivenInRange}
use Rattle.ppq_words.specs.Reading.{not_empty, number_in, as_count, count_in, are_in_range, in_range, given_of, budget_of, given_by, form_of}
use Rattle.ppq_words.specs.Meaning.{Argument, IsPlain, values_of, HasNumber, HasBudget, HasSizes, HasForm}
use Rattle.ppq_words.proofs.Rows.{some_parts}
use Rattle.ppq_words.proofs.Told.{Stands, Tells, value_told, none_told}

abbrev pub NumberLaw : Type 0
NumberLaw = (digits : Text) (n : ℕ) → (number_of digits ≡ Some n) ↔ Spells digits n

-- digits do not begin with `-`
pub Spells-IsPlain : (digits : Text) (n : ℕ) → Spells digits n → IsPlain digits
Spells-IsPlain [] n h = refl
Spells-IsPlain (d ∷ ds) n h = ne_eqb d 45 (λ e. absurd (omega (arith, e, h.all_digits.0.0)))

-- ---- how often a part stands

pub one_stands : (values : List Text) (v : Text) → values ≡ v ∷ [] → length values ≤ 1
one_stands values v e = let one = ap length e in omega (arith, one)

none_stands : (values : List Text) → values ≡ [] → length values ≤ 1
none_stands values e = let none = ap length e in omega (arith, none)

pub number_once : (args : List Argument) (name : Text) (n : ℕ) → HasNumber args name n → length (values_of name args) ≤ 1
number_once args name n h = one_stands (values_of name args) h.digits h.once

-- each of both options of a budget stands once at the most
budget_once : (args : List Argument) (n : ℕ) (u : BudgetUnit) → HasBudget args n u → (length (values_of (codes "--memory") args) ≤ 1) × (length (values_of (codes "--memory-bytes") args) ≤ 1)
budget_once args n unit.Records h = (number_once args (codes "--memory") n h.given, none_stands (values_of (codes "--memory-bytes") args) h.alone)
budget_once args n unit.Bytes h = (none_stands (values_of (codes "--memory") args) h.alone, number_once args (codes "--memory-bytes") n h.given)

pub form_once : (args : List Argument) (f : Form) → HasForm args f → length (values_of (codes "--form") args) ≤ 1
form_once args form.Text (inl none) = none_stands (values_of (codes "--form") args) none
form_once args form.Text (inr once) = one_stands (values_of (codes "--form") args) (codes "text") once
form_once args form.Bytes once = one_stands (values_of (codes "--form") args) (codes "bytes") once

-- ---- a name

-- a name that is not empty stands once
abbrev pub HasName : List Text → Text → Type 0
HasName values name = (values ≡ name ∷ []) × (1 ≤ length name)

pub name_told : (o : Option Text) (values : List Text) (name : Text) → Stands o values → (option_and_then not_empty o ≡ Some name) ↔ HasName values name
name_told o values name told = (there o told, back o told)
  where
    there : (o : Option Text) → Stands o values → option_and_then not_empty o ≡ Some name → HasName values name
    there None h e = cc
    there (Some []) h e = cc
    there (Some (b ∷ bs)) h e = let same : b ∷ bs ≡ name = cc in (h ∙ ap (λ (z : Text). z ∷ []) same, subst (λ (z : Text). 1 ≤ length z) same (omega arith))

    whole : (s : Text) → 1 ≤ length s → not_empty s ≡ Some s
    whole [] h = absurd (omega arith)
    whole (b ∷ bs) h = refl

    back : (o : Option Text) → Stands o values → HasName values name → option_and_then not_empty o ≡ Some name
    back o h has = ap (option_and_then not_empty) (value_told o values name h has.0) ∙ whole name has.1

-- ---- a number of at most 2^32

-- the option stands once, and its value spells this number of at most 2^32
abbrev pub HasCount : List Argument → Text → ℕ → Type 0
HasCount args name n = HasNumber args name n × (n ≤ 4294967296)

count_parts : (o : Option ℕ) (n : ℕ) → option_and_then as_count o ≡ Some n → (o ≡ Some n) × (n ≤ 4294967296)
count_parts None n e = cc
count_parts (Some m) n e =
    let parts = some_parts (nat_le m 4294967296) m n e in
    (ap (λ (z : ℕ). Some z) parts.1, subst (λ (z : ℕ). z ≤ 4294967296) parts.1 (leb-true m 4294967296 parts.0))

-- ---- the sizes of a queue

range_is : (g : Given) → are_in_range g ≡ true → AreGivenInRange g
range_is g e = record {
  others = record {
    some_worker = grind (arith, nat_tests);
    workers = grind (arith, nat_tests);
    two_records = grind (arith, nat_tests);
    block = grind (arith, nat_tests);
    some_heap = grind (arith, nat_tests);
    heap = grind (arith, nat_tests);
    memory = omega arith;
    blocks = grind (arith, nat_tests);
  };
  budget = grind (arith, nat_tests);
}

range_from : (g : Given) → AreGivenInRange g → are_in_range g ≡ true
range_from g r = grind (arith, nat_tests)

range_parts : (m n : Given) → in_range m ≡ Some n → (m ≡ n) × (are_in_range n ≡ true)
range_parts m n e = go (are_in_range m) refl e
  where
    go : (b : Bool) → are_in_range m ≡ b → cond b (Some m) None ≡ Some n → (m ≡ n) × (are_in_range n ≡ true)
    go true is e = let same : m ≡ n = cc in (same, sym (ap are_in_range same) ∙ is)
    go false is e = cc

given_parts : (a b c d : Option ℕ) (e : Option (ℕ × BudgetUnit)) (n : Given) → given_of a b c d e ≡ Some n
    → (a ≡ Some n.numbers.blocks) × (b ≡ Some n.numbers.workers) × (c ≡ Some n.numbers.block) × (d ≡ Some n.numbers.heap) × (e ≡ Some (n.numbers.memory, n.unit)) × (are_in_range n ≡ true)
given_parts None b c d e n h = cc
given_parts (Some a) None c d e n h = cc
given_parts (Some a) (Some b) None d e n h = cc
given_parts (Some a) (Some b) (Some c) None e n h = cc
given_parts (Some a) (Some b) (Some c) (Some d) None n h = cc
given_parts (Some a) (Some b) (Some c) (Some d) (Some e) n h =
    let parts = range_parts (given_as b c d e a) n h in (
      ap (λ (z : Given). Some z.numbers.blocks) parts.0,
      ap (λ (z : Given). Some z.numbers.workers) parts.0,
      ap (λ (z : Given). Some z.numbers.block) parts.0,
      ap (λ (z : Given). Some z.numbers.heap) parts.0,
      ap (λ (z : Given). Some (z.numbers.memory, z.unit)) parts.0,
      parts.1,
    )

budget_parts : (o : Option ℕ) (u v : BudgetUnit) (n : ℕ) → option_map {U = ℕ × BudgetUnit} (λ (m : ℕ). (m, u)) o ≡ Some (n, v) → (o ≡ Some n) × (u ≡ v)
budget_parts None u v n e = cc
budget_parts (Some m) u v n e = let same : (m, u) ≡ (n, v) = cc in (ap (λ (z : ℕ × BudgetUnit). Some z.0) same, ap (λ (z : ℕ × BudgetUnit). z.1) same)

-- the options of the sizes
abbrev pub size_options : List Text → List Text
size_options more = codes "--blocks" ∷ codes "--workers" ∷ codes "--block" ∷ codes "--heap" ∷ codes "--memory" ∷ codes "--memory-bytes" ∷ more

-- each of them stands once at the most, as do these others
pub sizes_once : (args : List Argument) (g : Given) (more : List Text) → HasSizes args g → Each (λ o. length (values_of o args) ≤ 1) more → Each (λ o. length (values_of o args) ≤ 1) (size_options more)
sizes_once args g more h others =
    let n = g.numbers in
    let budget = budget_once args n.memory g.unit h.budget in (
      number_once args (codes "--blocks") n.blocks h.blocks,
      (number_once args (codes "--workers") n.workers h.workers, (number_once args (codes "--block") n.block h.block, (number_once args (codes "--heap") n.heap h.heap, (budget.0, (budget.1, others))))),
    )

-- ---- of values that arguments have

module _ (law : NumberLaw) (value : Text → Option Text) (args : List Argument) (told : Tells value args) where
  pub number_told : (name : Text) (n : ℕ) → bytes_eq alone name ≡ false → (number_in (value name) ≡ Some n) ↔ HasNumber args name n
  number_told name n other = (
    there (value name) (told.option name other),
    λ h. ap number_in (value_told (value name) (values_of name args) h.digits (told.option name other) h.once) ∙ (law h.digits n).1 h.spelled,
  )
    where
      there : (o : Option Text) → Stands o (values_of name args) → number_in o ≡ Some n → HasNumber args name n
      there None h e = cc
      there (Some digits) h e = record { digits = digits; once = h; spelled = (law digits n).0 e }

  pub count_told : (name : Text) (n : ℕ) → bytes_eq alone name ≡ false → (count_in (value name) ≡ Some n) ↔ HasCount args name n
  count_told name n other = (
    λ e. let parts = count_parts (number_in (value name)) n e in ((number_told name n other).0 parts.0, parts.1),
    λ h. ap (option_and_then as_count) ((number_told name n other).1 h.0) ∙ ap (λ (b : Bool). cond b (Some n) None) (le-leb n 4294967296 h.1),
  )

  -- the budget stands in just one unit
  budget_there : (n : ℕ) (u : BudgetUnit) (x y : Option Text) → Stands x (values_of (codes "--memory") args) → Stands y (values_of (codes "--memory-bytes") args) → budget_of x y ≡ Some (n, u) → HasBudget args n u
  budget_there n u None None p q e = cc
  budget_there n u (Some records) (Some bytes) p q e = cc
  budget_there n u (Some records) None p q e =
      let is = budget_parts (number_of records) unit.Records u n e in
      subst (HasBudget args n) is.1 (record { given = record { digits = records; once = p; spelled = (law records n).0 is.0 }; alone = q })
  budget_there n u None (Some bytes) p q e =
      let is = budget_parts (number_of bytes) unit.Bytes u n e in
      subst (HasBudget args n) is.1 (record { given = record { digits = bytes; once = q; spelled = (law bytes n).0 is.0 }; alone = p })

  budget_back : (n : ℕ) (u : BudgetUnit) → HasBudget args n u → budget_of (value (codes "--memory")) (value (codes "--memory-bytes")) ≡ Some (n, u)
  budget_back n unit.Records h =
      ap₂ budget_of (value_told (value (codes "--memory")) _ h.given.digits (told.option (codes "--memory") refl) h.given.once) (none_told (value (codes "--memory-bytes")) _ (told.option (codes "--memory-bytes") refl) h.alone)
      ∙ ap (option_map (λ (m : ℕ). (m, unit.Records))) ((law h.given.digits n).1 h.given.spelled)
  budget_back n unit.Bytes h =
      ap₂ budget_of (none_told (value (codes "--memory")) _ (told.option (codes "--memory") refl) h.alone) (value_told (value (codes "--memory-bytes")) _ h.given.digits (told.option (codes "--memory-bytes") refl) h.given.once)
      ∙ ap (option_map (λ (m : ℕ). (m, unit.Bytes))) ((law h.given.digits n).1 h.given.spelled)

  -- the form stands once by its name, or does not stand
  pub form_told : (f : Form) → (form_of (value (codes "--form")) ≡ Some f) ↔ HasForm args f
  form_told f = (there (value (codes "--form")) stands, back f)
    where
      stands : Stands (value (codes "--form")) (values_of (codes "--form") args)
      stands = told.option (codes "--form") refl

      named : (name : Text) (is_text is_bytes : Bool) → values_of (codes "--form") args ≡ name ∷ [] → bytes_eq name (codes "text") ≡ is_text → bytes_eq name (codes "bytes") ≡ is_bytes
          → cond is_text (Some form.Text) (cond is_bytes (Some form.Bytes) None) ≡ Some f → HasForm args f
      named name true is_bytes once t b e = let same : form.Text ≡ f = cc in subst (HasForm args) same (inr (once ∙ ap (λ (z : Text). z ∷ []) ((bytes_eq-Decides name (codes "text")).0 t)))
      named name false true once t b e = let same : form.Bytes ≡ f = cc in subst (HasForm args) same (once ∙ ap (λ (z : Text). z ∷ []) ((bytes_eq-Decides name (codes "bytes")).0 b))
      named name false false once t b e = cc

      there : (o : Option Text) → Stands o (values_of (codes "--form") args) → form_of o ≡ Some f → HasForm args f
      there None h e = let same : form.Text ≡ f = cc in subst (HasForm args) same (inl h)
      there (Some name) h e = named name (bytes_eq name (codes "text")) (bytes_eq name (codes "bytes")) h refl refl e

      back : (f : Form) → HasForm args f → form_of (value (codes "--form")) ≡ Some f
      back form.Text (inl none) = ap form_of (none_told (value (codes "--form")) _ stands none)
      back form.Text (inr once) = ap form_of (value_told (value (codes "--form")) _ (codes "text") stands once)
      back form.Bytes once = ap form_of (value_told (value (codes "--form")) _ (codes "bytes") stands once)

  -- the sizes, as each command has them
  pub sizes_told : (g : Given) → (given_by value ≡ Some g) ↔ HasSizes args g
  sizes_told g = (
    λ e. let n = given_parts (number_in (value (codes "--blocks"))) (number_in (value (codes "--workers"))) (number_in (value (codes "--block"))) (number_in (value (codes "--heap"))) _ g e in record {
      blocks = (number_told (codes "--blocks") g.numbers.blocks refl).0 n.0;
      workers = (number_told (codes "--workers") g.numbers.workers refl).0 n.1;
      block = (number_told (codes "--block") g.numbers.block refl).0 n.2;
      heap = (number_told (codes "--heap") g.numbers.heap refl).0 n.3;
      budget = budget_there g.numbers.memory g.unit (value (codes "--memory")) (value (codes "--memory-bytes")) (told.option (codes "--memory") refl) (told.option (codes "--memory-bytes") refl) n.4;
      in_range = range_is g n.5;
    },
    λ h.
        let ranged : in_range g ≡ Some g = ap (λ (b : Bool). cond b (Some g) None) (range_from g h.in_range) in
        rw (
          (number_told (codes "--blocks") g.numbers.blocks refl).1 h.blocks,
          (number_told (codes "--workers") g.numbers.workers refl).1 h.workers,
          (number_told (codes "--block") g.numbers.block refl).1 h.block,
          (number_told (codes "--heap") g.numbers.heap refl).1 h.heap,
          budget_back g.numbers.memory g.unit h.budget,
        ) ranged,
  )
