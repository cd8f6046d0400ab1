-- The reading of words as the command `run`, against what they mean to a reader.
use Rattle.std.proofs.Common.{◌≡◌, ◌∙◌, ◌↔◌, true, refl, ap, List, [], ◌∷◌, ◌++◌, flat_map, Option, Some, None, codes, inl, inr}
use Rattle.std.specs.List.{list_all, AllByRecursion as Each}
use Rattle.ppq_script.specs.declared.form.Form.{Form}
use Rattle.ppq_script.specs.declared.form.Form.TheVariants as form
use Rattle.ppq_words.specs.Uses.{Text}
use Rattle.ppq_words.specs.Given.{Given}
use Rattle.ppq_words.specs.Reading.{Reading, run_usage, reading_from, reading_by, reading_of}
use Rattle.ppq_words.specs.Meaning.{Argument, apart, spelled_as, IsPlain, value_in, HasForm, Reads, values_of, IsFormUsage, IsUsageOf}
use Rattle.ppq_words.proofs.Names.{AreNames, names_from}
use Rattle.ppq_words.proofs.Told.{Tells, StandOnce, Spell, is_named, command_means}
use Rattle.ppq_words.proofs.Parts.{NumberLaw, form_told, form_once}
use Rattle.ppq_words.proofs.Lines.{IsBehind}
use Rattle.ppq_words.proofs.Queue.{HasQueue, queue_told, queue_once, line_spells}

run_names : AreNames run_usage.options
run_names = names_from run_usage.options refl

-- the arguments have what a reading says
abbrev HasRun : List Argument → Reading → Type 0
HasRun args r = HasQueue args r.script r.device r.given × HasForm args r.form

reading_parts : (a b : Option Text) (c : Option Given) (f : Option Form) (r : Reading) → reading_from a b c f ≡ Some r → (a ≡ Some r.script) × (b ≡ Some r.device) × (c ≡ Some r.given) × (f ≡ Some r.form)
reading_parts None b c f r e = cc
reading_parts (Some s) None c f r e = cc
reading_parts (Some s) (Some d) None f r e = cc
reading_parts (Some s) (Some d) (Some n) None r e = cc
reading_parts (Some s) (Some d) (Some n) (Some g) r e =
    let made : Reading = record { script = s; device = d; given = n; form = g } in
    let same : made ≡ r = cc in
    (ap (λ (z : Reading). Some z.script) same, ap (λ (z : Reading). Some z.device) same, ap (λ (z : Reading). Some z.given) same, ap (λ (z : Reading). Some z.form) same)

run_told : NumberLaw → (value : Text → Option Text) (args : List Argument) → Tells value args → (r : Reading) → (reading_by value ≡ Some r) ↔ HasRun args r
run_told law value args told r =
    let queue = queue_told law value args told r.script r.device r.given in
    let named = form_told law value args told r.form in (
      λ e. let parts = reading_parts _ _ _ _ r e in (queue.0 (record { name_is = parts.0; device_is = parts.1; sizes = parts.2 }), named.0 parts.3),
      λ h. let says = queue.1 h.0 in rw (says.name_is, says.device_is, says.sizes, named.1 h.1) refl,
    )

run_once : (args : List Argument) (r : Reading) → HasRun args r → StandOnce run_usage args
run_once args r h = queue_once run_usage args r.script r.device r.given (codes "--form" ∷ []) refl h.0 (form_once args r.form h.1, tt)

-- `Reads` by its parts
spelled_read : (words : List Text) (r : Reading) → Spell run_usage words (λ args. HasRun args r) → Reads words r
spelled_read words r h = let queue = h.has.0 in record {
  arguments = h.arguments;
  spelled = h.spelled.spelled;
  named = h.spelled.named;
  plain = h.spelled.plain;
  script = queue.name_is.0;
  some_script = queue.name_is.1;
  device = queue.device_is.0;
  some_device = queue.device_is.1;
  blocks = queue.sizes.blocks;
  workers = queue.sizes.workers;
  block = queue.sizes.block;
  heap = queue.sizes.heap;
  budget = queue.sizes.budget;
  form = h.has.1;
  in_range = queue.sizes.in_range;
}

read_spelled : (words : List Text) (r : Reading) → Reads words r → Spell run_usage words (λ args. HasRun args r)
read_spelled words r h = record {
  arguments = h.arguments;
  spelled = record { spelled = h.spelled; named = h.named; plain = h.plain };
  has = (
    record {
      name_is = (h.script, h.some_script);
      device_is = (h.device, h.some_device);
      sizes = record { blocks = h.blocks; workers = h.workers; block = h.block; heap = h.heap; budget = h.budget; in_range = h.in_range };
    },
    h.form,
  );
}

pub reading_means : NumberLaw → (words : List Text) (r : Reading) → (reading_of words ≡ Some r) ↔ Reads words r
reading_means law words r =
    let means = command_means run_usage run_names reading_by HasRun (run_told law) run_once words r in
    (λ e. spelled_read words r (means.0 e), λ h. means.1 (read_spelled words r h))

-- ---- the words of the usage line

-- how the form stands in the line
form_part : (words : List Text) (f : Form) → IsFormUsage words f
    → (more : List Argument) × (words ≡ flat_map spelled_as more) × IsBehind more × HasForm more f × (list_all (is_named run_usage.options) more ≡ true) × Each (λ a. IsPlain (value_in a)) more
form_part words form.Text (inl none) = ([], none, record { script = refl; options = refl }, inl refl, refl, tt)
form_part words form.Text (inr is) = (apart (codes "--form") (codes "text") ∷ [], is, record { script = refl; options = refl }, inr refl, refl, (refl, tt))
form_part words form.Bytes is = (apart (codes "--form") (codes "bytes") ∷ [], is, record { script = refl; options = refl }, refl, refl, (refl, tt))

form_behind : (args more : List Argument) (f : Form) → values_of (codes "--form") args ≡ values_of (codes "--form") more → HasForm more f → HasForm args f
form_behind args more form.Text same (inl none) = inl (same ∙ none)
form_behind args more form.Text same (inr is) = inr (same ∙ is)
form_behind args more form.Bytes same is = same ∙ is

pub usage_read : (words : List Text) (r : Reading) → IsUsageOf words r → Reads words r
usage_read words r h =
    let part = form_part h.form r.form h.form_is in
    let spelled = h.spelled ∙ ap (λ (z : List Text). codes "run" ∷ r.script ∷ h.queue ++ z) part.1 in
    spelled_read words r (line_spells run_usage words h.queue r.script r.device r.given part.0 (λ args. HasForm args r.form) spelled h.script h.queue_is part.2 refl part.4 part.5
    (λ args others. form_behind args part.0 r.form (others (codes "--form") refl) part.3))
