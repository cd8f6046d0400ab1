-- The reading of words as the command `sweep`, against what they mean to a reader.
use Rattle.std.proofs.Common.{◌≡◌, ◌↔◌, ℕ, refl, ap, List, [], ◌∷◌, Option, Some, None, codes}
use Rattle.ppq_words.specs.Uses.{Text}
use Rattle.ppq_words.specs.Given.{Given}
use Rattle.ppq_words.specs.SweepReading.{SweepReading, sweep_usage, sweep_reading_from, sweep_reading_by, sweep_reading_of}
use Rattle.ppq_words.specs.Meaning.{Argument, apart}
use Rattle.ppq_words.specs.SweepMeaning.{SweepReads, IsSweepUsageOf}
use Rattle.ppq_words.proofs.Names.{AreNames, names_from}
use Rattle.ppq_words.proofs.Told.{Tells, StandOnce, Spell, command_means}
use Rattle.ppq_words.proofs.Parts.{NumberLaw, HasCount, count_told, number_once, Spells-IsPlain}
use Rattle.ppq_words.proofs.Queue.{HasQueue, queue_told, queue_once, line_spells}

sweep_names : AreNames sweep_usage.options
sweep_names = names_from sweep_usage.options refl

-- the arguments have what a reading says
abbrev HasSweep : List Argument → SweepReading → Type 0
HasSweep args r = HasQueue args r.edges r.device r.given × HasCount args (codes "--nodes") r.nodes

sweep_parts : (a b : Option Text) (c : Option Given) (n : Option ℕ) (r : SweepReading) → sweep_reading_from a b c n ≡ Some r → (a ≡ Some r.edges) × (b ≡ Some r.device) × (c ≡ Some r.given) × (n ≡ Some r.nodes)
sweep_parts None b c n r e = cc
sweep_parts (Some a) None c n r e = cc
sweep_parts (Some a) (Some d) None n r e = cc
sweep_parts (Some a) (Some d) (Some g) None r e = cc
sweep_parts (Some a) (Some d) (Some g) (Some n) r e =
    let made : SweepReading = record { edges = a; device = d; given = g; nodes = n } in
    let same : made ≡ r = cc in
    (ap (λ (z : SweepReading). Some z.edges) same, ap (λ (z : SweepReading). Some z.device) same, ap (λ (z : SweepReading). Some z.given) same, ap (λ (z : SweepReading). Some z.nodes) same)

sweep_told : NumberLaw → (value : Text → Option Text) (args : List Argument) → Tells value args → (r : SweepReading) → (sweep_reading_by value ≡ Some r) ↔ HasSweep args r
sweep_told law value args told r =
    let queue = queue_told law value args told r.edges r.device r.given in
    let nodes = count_told law value args told (codes "--nodes") r.nodes refl in (
      λ e. let parts = sweep_parts _ _ _ _ r e in (queue.0 (record { name_is = parts.0; device_is = parts.1; sizes = parts.2 }), nodes.0 parts.3),
      λ h. let says = queue.1 h.0 in rw (says.name_is, says.device_is, says.sizes, nodes.1 h.1) refl,
    )

sweep_once : (args : List Argument) (r : SweepReading) → HasSweep args r → StandOnce sweep_usage args
sweep_once args r h = queue_once sweep_usage args r.edges r.device r.given (codes "--nodes" ∷ []) refl h.0 (number_once args (codes "--nodes") r.nodes h.1.0, tt)

-- `SweepReads` by its parts
spelled_read : (words : List Text) (r : SweepReading) → Spell sweep_usage words (λ args. HasSweep args r) → SweepReads words r
spelled_read words r h = record {
  arguments = h.arguments;
  spelled = h.spelled.spelled;
  named = h.spelled.named;
  plain = h.spelled.plain;
  edges = h.has.0.name_is.0;
  some_edges = h.has.0.name_is.1;
  device = h.has.0.device_is.0;
  some_device = h.has.0.device_is.1;
  sizes = h.has.0.sizes;
  nodes = h.has.1.0;
  few_nodes = h.has.1.1;
}

read_spelled : (words : List Text) (r : SweepReading) → SweepReads words r → Spell sweep_usage words (λ args. HasSweep args r)
read_spelled words r h = record {
  arguments = h.arguments;
  spelled = record { spelled = h.spelled; named = h.named; plain = h.plain };
  has = (record { name_is = (h.edges, h.some_edges); device_is = (h.device, h.some_device); sizes = h.sizes }, (h.nodes, h.few_nodes));
}

pub sweep_reading_means : NumberLaw → (words : List Text) (r : SweepReading) → (sweep_reading_of words ≡ Some r) ↔ SweepReads words r
sweep_reading_means law words r =
    let means = command_means sweep_usage sweep_names sweep_reading_by HasSweep (sweep_told law) sweep_once words r in
    (λ e. spelled_read words r (means.0 e), λ h. means.1 (read_spelled words r h))

-- the words of the usage line
pub sweep_usage_read : (words : List Text) (r : SweepReading) → IsSweepUsageOf words r → SweepReads words r
sweep_usage_read words r h =
    let more : List Argument = apart (codes "--nodes") h.nodes ∷ [] in
    spelled_read words r (line_spells sweep_usage words h.queue r.edges r.device r.given more (λ args. HasCount args (codes "--nodes") r.nodes) h.spelled h.edges h.queue_is (record { script = refl; options = refl }) refl refl
    (Spells-IsPlain h.nodes r.nodes h.spelled_nodes, tt)
    (λ args others. (record { digits = h.nodes; once = others (codes "--nodes") refl; spelled = h.spelled_nodes }, h.few_nodes)))
