-- The reading of words as the command `sim`, against what they mean to a reader.
use Rattle.std.proofs.Common.{◌≡◌, ◌↔◌, ℕ, refl, ap, List, [], ◌∷◌, Option, Some, None, codes}
use Rattle.ppq_words.specs.Uses.{Text}
use Rattle.ppq_words.specs.Given.{Given}
use Rattle.ppq_words.specs.SimReading.{SimReading, sim_usage, sim_reading_from, sim_reading_by, sim_reading_of}
use Rattle.ppq_words.specs.Meaning.{Argument, apart, HasNumber}
use Rattle.ppq_words.specs.SimMeaning.{SimReads, IsSimUsageOf}
use Rattle.ppq_words.proofs.Names.{AreNames, names_from}
use Rattle.ppq_words.proofs.Told.{Tells, StandOnce, Spell, command_means}
use Rattle.ppq_words.proofs.Parts.{NumberLaw, HasCount, number_told, count_told, number_once, Spells-IsPlain}
use Rattle.ppq_words.proofs.Queue.{HasQueue, queue_told, queue_once, line_spells}

sim_names : AreNames sim_usage.options
sim_names = names_from sim_usage.options refl

-- the arguments have the numbers of `--until` and `--events`
abbrev HasEnds : List Argument → SimReading → Type 0
HasEnds args r = HasNumber args (codes "--until") r.until × HasCount args (codes "--events") r.events

-- the arguments have what a reading says
abbrev HasSim : List Argument → SimReading → Type 0
HasSim args r = HasQueue args r.agenda r.device r.given × HasEnds args r

sim_parts : (a b : Option Text) (c : Option Given) (t e : Option ℕ) (r : SimReading) → sim_reading_from a b c t e ≡ Some r
    → (a ≡ Some r.agenda) × (b ≡ Some r.device) × (c ≡ Some r.given) × (t ≡ Some r.until) × (e ≡ Some r.events)
sim_parts None b c t e r is = cc
sim_parts (Some a) None c t e r is = cc
sim_parts (Some a) (Some d) None t e r is = cc
sim_parts (Some a) (Some d) (Some g) None e r is = cc
sim_parts (Some a) (Some d) (Some g) (Some t) None r is = cc
sim_parts (Some a) (Some d) (Some g) (Some t) (Some e) r is =
    let made : SimReading = record { agenda = a; device = d; given = g; until = t; events = e } in
    let same : made ≡ r = cc in (
      ap (λ (z : SimReading). Some z.agenda) same,
      ap (λ (z : SimReading). Some z.device) same,
      ap (λ (z : SimReading). Some z.given) same,
      ap (λ (z : SimReading). Some z.until) same,
      ap (λ (z : SimReading). Some z.events) same,
    )

sim_told : NumberLaw → (value : Text → Option Text) (args : List Argument) → Tells value args → (r : SimReading) → (sim_reading_by value ≡ Some r) ↔ HasSim args r
sim_told law value args told r =
    let queue = queue_told law value args told r.agenda r.device r.given in
    let until = number_told law value args told (codes "--until") r.until refl in
    let events = count_told law value args told (codes "--events") r.events refl in (
      λ e. let parts = sim_parts _ _ _ _ _ r e in (queue.0 (record { name_is = parts.0; device_is = parts.1; sizes = parts.2 }), (until.0 parts.3, events.0 parts.4)),
      λ h. let says = queue.1 h.0 in rw (says.name_is, says.device_is, says.sizes, until.1 h.1.0, events.1 h.1.1) refl,
    )

sim_once : (args : List Argument) (r : SimReading) → HasSim args r → StandOnce sim_usage args
sim_once args r h =
    queue_once sim_usage args r.agenda r.device r.given (codes "--until" ∷ codes "--events" ∷ []) refl h.0
    (number_once args (codes "--until") r.until h.1.0, (number_once args (codes "--events") r.events h.1.1.0, tt))

-- `SimReads` by its parts
spelled_read : (words : List Text) (r : SimReading) → Spell sim_usage words (λ args. HasSim args r) → SimReads words r
spelled_read words r h = record {
  arguments = h.arguments;
  spelled = h.spelled.spelled;
  named = h.spelled.named;
  plain = h.spelled.plain;
  agenda = h.has.0.name_is.0;
  some_agenda = h.has.0.name_is.1;
  device = h.has.0.device_is.0;
  some_device = h.has.0.device_is.1;
  sizes = h.has.0.sizes;
  until = h.has.1.0;
  events = h.has.1.1.0;
  few_events = h.has.1.1.1;
}

read_spelled : (words : List Text) (r : SimReading) → SimReads words r → Spell sim_usage words (λ args. HasSim args r)
read_spelled words r h = record {
  arguments = h.arguments;
  spelled = record { spelled = h.spelled; named = h.named; plain = h.plain };
  has = (record { name_is = (h.agenda, h.some_agenda); device_is = (h.device, h.some_device); sizes = h.sizes }, (h.until, (h.events, h.few_events)));
}

pub sim_reading_means : NumberLaw → (words : List Text) (r : SimReading) → (sim_reading_of words ≡ Some r) ↔ SimReads words r
sim_reading_means law words r =
    let means = command_means sim_usage sim_names sim_reading_by HasSim (sim_told law) sim_once words r in
    (λ e. spelled_read words r (means.0 e), λ h. means.1 (read_spelled words r h))

-- the words of the usage line
pub sim_usage_read : (words : List Text) (r : SimReading) → IsSimUsageOf words r → SimReads words r
sim_usage_read words r h =
    let more : List Argument = apart (codes "--until") h.until ∷ apart (codes "--events") h.events ∷ [] in
    spelled_read words r (line_spells sim_usage words h.queue r.agenda r.device r.given more (λ args. HasEnds args r) h.spelled h.agenda h.queue_is (record { script = refl; options = refl }) refl refl
    (Spells-IsPlain h.until r.until h.spelled_until, (Spells-IsPlain h.events r.events h.spelled_events, tt))
    (λ args others. (
      record { digits = h.until; once = others (codes "--until") refl; spelled = h.spelled_until },
      (record { digits = h.events; once = others (codes "--events") refl; spelled = h.spelled_events }, h.few_events),
    )))
