-- The line that explains a command's usage, as arguments: what it says of the queue, and what stands behind that.
use Rattle.std.proofs.Common.{◌≡◌, ◌∙◌, true, false, refl, ap, arith, List, [], ◌∷◌, ◌++◌, flat_map, codes}
use Rattle.std.specs.List.{list_all, AllByRecursion as Each}
use Rattle.std.proofs.lemmas.Bool.Decides.{nat_tests}
use Rattle.ppq_words.specs.declared.budget_unit.BudgetUnit.{BudgetUnit}
use Rattle.ppq_words.specs.declared.budget_unit.BudgetUnit.TheVariants as unit
use Rattle.ppq_words.specs.Uses.{Text, is_option}
use Rattle.ppq_words.specs.Given.{Given}
use Rattle.ppq_words.specs.Meaning.{Argument, apart, spelled_as, IsNamed, IsPlain, value_in, scripts_in, values_of, HasSizes, budget_option, other_option, IsQueueUsage}
use Rattle.ppq_words.proofs.Names.{among}
use Rattle.ppq_words.proofs.Told.{is_named, all_named}
use Rattle.ppq_words.proofs.Parts.{size_options, Spells-IsPlain}

-- the options that each command has
abbrev pub queue_options : List Text
queue_options = codes "--device" ∷ size_options []

-- arguments among which no word stands alone, and none of these options
pub record IsBehind (more : List Argument) : Type 0 where
  pub script : scripts_in more ≡ []
  pub options : flat_map (λ o. values_of o more) queue_options ≡ []

-- each of some options has no value
each_none : (options : List Text) (more : List Argument) → flat_map (λ o. values_of o more) options ≡ [] → Each (λ o. values_of o more ≡ []) options
each_none [] more e = tt
each_none (o ∷ os) more e = go (values_of o more) e (each_none os more)
  where
    go : (values : List Text) → values ++ flat_map (λ o. values_of o more) os ≡ [] → (flat_map (λ o. values_of o more) os ≡ [] → Each (λ o. values_of o more ≡ []) os) → (values ≡ []) × Each (λ o. values_of o more ≡ []) os
    go [] e rest = (refl, rest e)
    go (v ∷ vs) e rest = cc

module _ (device blocks workers block heap budget : Text) (more : List Argument) where
  -- the arguments of the line
  abbrev line : BudgetUnit → List Argument
  line u =
      apart (codes "--device") device ∷ apart (codes "--blocks") blocks ∷ apart (codes "--workers") workers ∷ apart (codes "--block") block ∷ apart (codes "--heap") heap ∷ apart (budget_option u) budget ∷ more

  -- an option's values are this one, and those that stand behind
  abbrev Adds : BudgetUnit → Text → Text → Type 0
  Adds u option value = values_of option (line u) ≡ value ∷ values_of option more

  abbrev IsLine : BudgetUnit → Type 0
  IsLine u =
      Adds u (codes "--device") device × Adds u (codes "--blocks") blocks × Adds u (codes "--workers") workers × Adds u (codes "--block") block × Adds u (codes "--heap") heap × Adds u (budget_option u) budget
      × (values_of (other_option u) (line u) ≡ values_of (other_option u) more)

  line_is : (u : BudgetUnit) → IsLine u
  line_is unit.Records = (refl, refl, refl, refl, refl, refl, refl)
  line_is unit.Bytes = (refl, refl, refl, refl, refl, refl, refl)

  -- the values of another option stand behind
  line_others : (u : BudgetUnit) (option : Text) → is_option queue_options option ≡ false → values_of option (line u) ≡ values_of option more
  line_others unit.Records option other = grind (arith, nat_tests)
  line_others unit.Bytes option other = grind (arith, nat_tests)

  -- the options are those of a command that has these
  line_named : (u : BudgetUnit) (options : List Text) → list_all (is_option options) queue_options ≡ true → list_all (is_named options) more ≡ true → list_all (is_named options) (line u) ≡ true
  line_named unit.Records options all rest = grind (arith, nat_tests)
  line_named unit.Bytes options all rest = grind (arith, nat_tests)

  -- no value begins with `-`
  line_plain : (u : BudgetUnit) → IsPlain device → IsPlain blocks → IsPlain workers → IsPlain block → IsPlain heap → IsPlain budget → Each (λ a. IsPlain (value_in a)) more → Each (λ a. IsPlain (value_in a)) (line u)
  line_plain u d k w b h m rest = (d, (k, (w, (b, (h, (m, rest))))))

-- each of these options stands once where it stands before the others
module _ (args more : List Argument) (behind : IsBehind more) where
  none : (option : Text) → is_option queue_options option ≡ true → values_of option more ≡ []
  none option known = among queue_options option (λ z. values_of z more ≡ []) known (each_none queue_options more behind.options)

  once : (option value : Text) → is_option queue_options option ≡ true → values_of option args ≡ value ∷ values_of option more → values_of option args ≡ value ∷ []
  once option value known is = is ∙ ap (λ (z : List Text). value ∷ z) (none option known)

-- both options of a budget are among these
budget_known : (u : BudgetUnit) → (is_option queue_options (budget_option u) ≡ true) × (is_option queue_options (other_option u) ≡ true)
budget_known unit.Records = (refl, refl)
budget_known unit.Bytes = (refl, refl)

-- a line: the words of a queue, and of what stands behind, as arguments
pub record IsLineOf (queue : List Text) (device : Text) (g : Given) (more : List Argument) : Type 0 where
  pub arguments : List Argument
  pub spelled : queue ++ flat_map spelled_as more ≡ flat_map spelled_as arguments
  pub named : (options : List Text) → list_all (is_option options) queue_options ≡ true → list_all (is_named options) more ≡ true → Each (IsNamed options) arguments
  pub plain : Each (λ a. IsPlain (value_in a)) more → Each (λ a. IsPlain (value_in a)) arguments
  pub script : scripts_in arguments ≡ []
  pub device_is : values_of (codes "--device") arguments ≡ device ∷ []
  pub sizes : HasSizes arguments g
  pub others : (option : Text) → is_option queue_options option ≡ false → values_of option arguments ≡ values_of option more

pub line_of : (queue : List Text) (device : Text) (g : Given) (more : List Argument) → IsQueueUsage queue device g → IsBehind more → IsLineOf queue device g more
line_of queue device g more h behind =
    let n = g.numbers in
    let u = g.unit in
    let digits = h.budget_is.0 in
    let args = line device h.blocks h.workers h.block h.heap digits more u in
    let is = line_is device h.blocks h.workers h.block h.heap digits more u in
    record {
      arguments = args;
      spelled =
          ap (λ (z : List Text). z ++ flat_map spelled_as more) h.spelled
          ∙ ap (λ (z : List Text). codes "--device" ∷ device ∷ codes "--blocks" ∷ h.blocks ∷ codes "--workers" ∷ h.workers ∷ codes "--block" ∷ h.block ∷ codes "--heap" ∷ h.heap ∷ z ++ flat_map spelled_as more) h.budget_is.1.0;
      named = λ options all rest. all_named options args (line_named device h.blocks h.workers h.block h.heap digits more u options all rest);
      plain =
          line_plain device h.blocks h.workers h.block h.heap digits more u h.device_is.1 (Spells-IsPlain h.blocks n.blocks h.spelled_blocks) (Spells-IsPlain h.workers n.workers h.spelled_workers)
          (Spells-IsPlain h.block n.block h.spelled_block) (Spells-IsPlain h.heap n.heap h.spelled_heap) (Spells-IsPlain digits n.memory h.budget_is.1.1);
      script = behind.script;
      device_is = once args more behind (codes "--device") device refl is.0;
      sizes = record {
        blocks = record { digits = h.blocks; once = once args more behind (codes "--blocks") h.blocks refl is.1; spelled = h.spelled_blocks };
        workers = record { digits = h.workers; once = once args more behind (codes "--workers") h.workers refl is.2; spelled = h.spelled_workers };
        block = record { digits = h.block; once = once args more behind (codes "--block") h.block refl is.3; spelled = h.spelled_block };
        heap = record { digits = h.heap; once = once args more behind (codes "--heap") h.heap refl is.4; spelled = h.spelled_heap };
        budget = record {
          given = record { digits = digits; once = once args more behind (budget_option u) digits (budget_known u).0 is.5; spelled = h.budget_is.1.1 };
          alone = is.6 ∙ none args more behind (other_option u) (budget_known u).1;
        };
        in_range = h.in_range;
      };
      others = line_others device h.blocks h.workers h.block h.heap digits more u;
    }
