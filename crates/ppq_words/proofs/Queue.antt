-- What each command says of a queue: a name that stands alone, the device and the sizes.
use Rattle.std.proofs.Common.{ℕ, ◌≡◌, ◌∙◌, ◌↔◌, ◌≤◌, true, false, refl, sym, ap, subst, List, ◌∷◌, ◌++◌, flat_map, length, Option, Some, codes}
use Rattle.std.specs.List.{list_all, AllByRecursion as Each}
use Rattle.std.specs.Option.{option_and_then}
use Rattle.ppq_words.specs.Uses.{Text, alone, is_option}
use Rattle.ppq_words.specs.Usage.{Usage}
use Rattle.ppq_words.specs.Given.{Given}
use Rattle.ppq_words.specs.Reading.{not_empty, given_by}
use Rattle.ppq_words.specs.Meaning.{Argument, bare, spelled_as, IsPlain, value_in, scripts_in, values_of, HasNumber, HasSizes, budget_option, IsName, IsQueueUsage}
use Rattle.ppq_words.proofs.Told.{Tells, StandOnce, Spell, is_named}
use Rattle.ppq_words.proofs.Parts.{NumberLaw, HasName, name_told, size_options, sizes_told, sizes_once, one_stands}
use Rattle.ppq_words.proofs.Lines.{queue_options, IsBehind, line_of}

-- arguments have this name, this device and these sizes
pub record HasQueue (args : List Argument) (name device : Text) (g : Given) : Type 0 where
  pub name_is : HasName (scripts_in args) name
  pub device_is : HasName (values_of (codes "--device") args) device
  pub sizes : HasSizes args g

-- values say them
pub record SayQueue (value : Text → Option Text) (name device : Text) (g : Given) : Type 0 where
  pub name_is : option_and_then not_empty (value alone) ≡ Some name
  pub device_is : option_and_then not_empty (value (codes "--device")) ≡ Some device
  pub sizes : given_by value ≡ Some g

pub queue_told : NumberLaw → (value : Text → Option Text) (args : List Argument) → Tells value args → (name device : Text) (g : Given) → SayQueue value name device g ↔ HasQueue args name device g
queue_told law value args told name device g =
    let script = name_told (value alone) (scripts_in args) name told.script in
    let on = name_told (value (codes "--device")) (values_of (codes "--device") args) device (told.option (codes "--device") refl) in
    let sizes = sizes_told law value args told g in (
      λ says. record { name_is = script.0 says.name_is; device_is = on.0 says.device_is; sizes = sizes.0 says.sizes },
      λ has. record { name_is = script.1 has.name_is; device_is = on.1 has.device_is; sizes = sizes.1 has.sizes },
    )

-- no option stands twice, where that holds of the command's own
pub queue_once : (usage : Usage) (args : List Argument) (name device : Text) (g : Given) (more : List Text) → usage.options ≡ codes "--device" ∷ size_options more → HasQueue args name device g
    → Each (λ o. length (values_of o args) ≤ 1) more → StandOnce usage args
queue_once usage args name device g more is h others = record {
  script = one_stands (scripts_in args) name h.name_is.0;
  options = subst (Each (λ o. length (values_of o args) ≤ 1)) (sym is) (one_stands (values_of (codes "--device") args) device h.device_is.0, sizes_once args g more h.sizes others);
}

-- a word that stands alone changes no value of an option
number_beside : (name : Text) (args : List Argument) (option : Text) (n : ℕ) → HasNumber args option n → HasNumber (bare name ∷ args) option n
number_beside name args option n h = record { digits = h.digits; once = h.once; spelled = h.spelled }

sizes_beside : (name : Text) (args : List Argument) (g : Given) → HasSizes args g → HasSizes (bare name ∷ args) g
sizes_beside name args g h =
    let n = g.numbers in
    let beside = number_beside name args in
    record {
      blocks = beside (codes "--blocks") n.blocks h.blocks;
      workers = beside (codes "--workers") n.workers h.workers;
      block = beside (codes "--block") n.block h.block;
      heap = beside (codes "--heap") n.heap h.heap;
      budget = record { given = beside (budget_option g.unit) n.memory h.budget.given; alone = h.budget.alone };
      in_range = h.in_range;
    }

-- the words of the usage line: `more` stands behind those of the queue
pub line_spells : (usage : Usage) (words queue : List Text) (name device : Text) (g : Given) (more : List Argument) (HasMore : List Argument → Type 0) → words ≡ usage.word ∷ name ∷ queue ++ flat_map spelled_as more
    → IsName name → IsQueueUsage queue device g → IsBehind more → list_all (is_option usage.options) queue_options ≡ true → list_all (is_named usage.options) more ≡ true → Each (λ a. IsPlain (value_in a)) more
    → ((args : List Argument) → ((option : Text) → is_option queue_options option ≡ false → values_of option args ≡ values_of option more) → HasMore args)
    → Spell usage words (λ args. HasQueue args name device g × HasMore args)
line_spells usage words queue name device g more HasMore spelled name_is queue_is behind some named plain has =
    let line = line_of queue device g more queue_is behind in
    let args = bare name ∷ line.arguments in
    record {
      arguments = args;
      spelled = record { spelled = spelled ∙ ap (λ (z : List Text). usage.word ∷ name ∷ z) line.spelled; named = (tt, line.named usage.options some named); plain = (name_is.1, line.plain plain) };
      has = (
        record {
          name_is = (ap (λ (z : List Text). name ∷ z) line.script, name_is.0);
          device_is = (line.device_is, queue_is.device_is.0);
          sizes = sizes_beside name line.arguments g line.sizes;
        },
        has args line.others,
      );
    }
