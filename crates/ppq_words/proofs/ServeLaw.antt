-- The reading of words as the command `serve`, against what they mean to a reader.
use Rattle.std.proofs.Common.{◌≡◌, ◌∙◌, ◌↔◌, refl, sym, ap, subst, arith, List, [], ◌∷◌, length, Option, Some, None, codes, append-nil}
use Rattle.ppq_words.specs.Uses.{Text, alone}
use Rattle.ppq_words.specs.Given.{Given}
use Rattle.ppq_words.specs.ServeReading.{ServeReading, serve_usage, serve_reading_from, serve_reading_by, serve_reading_of}
use Rattle.ppq_words.specs.Meaning.{Argument, scripts_in, values_of, HasSizes}
use Rattle.ppq_words.specs.ServeMeaning.{ServeReads, IsServeUsageOf}
use Rattle.ppq_words.proofs.Names.{AreNames, names_from}
use Rattle.ppq_words.proofs.Told.{Stands, Tells, StandOnce, Spell, none_told, command_means}
use Rattle.ppq_words.proofs.Parts.{NumberLaw, HasName, name_told, sizes_told, sizes_once, one_stands}
use Rattle.ppq_words.proofs.Lines.{line_of}

serve_names : AreNames serve_usage.options
serve_names = names_from serve_usage.options refl

-- the arguments have what a reading says
pub record HasServe (args : List Argument) (r : ServeReading) : Type 0 where
  pub none_alone : scripts_in args ≡ []
  pub device_is : HasName (values_of (codes "--device") args) r.device
  pub sizes : HasSizes args r.given

serve_parts : (a b : Option Text) (c : Option Given) (r : ServeReading) → serve_reading_from a b c ≡ Some r → (a ≡ None) × (b ≡ Some r.device) × (c ≡ Some r.given)
serve_parts (Some a) b c r e = cc
serve_parts None None c r e = cc
serve_parts None (Some d) None r e = cc
serve_parts None (Some d) (Some g) r e =
    let made : ServeReading = record { device = d; given = g } in
    let same : made ≡ r = cc in
    (refl, ap (λ (z : ServeReading). Some z.device) same, ap (λ (z : ServeReading). Some z.given) same)

serve_told : NumberLaw → (value : Text → Option Text) (args : List Argument) → Tells value args → (r : ServeReading) → (serve_reading_by value ≡ Some r) ↔ HasServe args r
serve_told law value args told r =
    let on = name_told (value (codes "--device")) (values_of (codes "--device") args) r.device (told.option (codes "--device") refl) in
    let sizes = sizes_told law value args told r.given in (
      λ e. let parts = serve_parts _ _ _ _ e in
          record { none_alone = subst (λ (o : Option Text). Stands o (scripts_in args)) parts.0 told.script; device_is = on.0 parts.1; sizes = sizes.0 parts.2 },
      λ has. rw (none_told (value alone) (scripts_in args) told.script has.none_alone, on.1 has.device_is, sizes.1 has.sizes) refl,
    )

serve_once : (args : List Argument) (r : ServeReading) → HasServe args r → StandOnce serve_usage args
serve_once args r h = record {
  script = let none = ap length h.none_alone in omega (arith, none);
  options = (one_stands (values_of (codes "--device") args) r.device h.device_is.0, sizes_once args r.given [] h.sizes tt);
}

-- `ServeReads` by its parts
spelled_read : (words : List Text) (r : ServeReading) → Spell serve_usage words (λ args. HasServe args r) → ServeReads words r
spelled_read words r h = record {
  arguments = h.arguments;
  spelled = h.spelled.spelled;
  named = h.spelled.named;
  plain = h.spelled.plain;
  none_alone = h.has.none_alone;
  device = h.has.device_is.0;
  some_device = h.has.device_is.1;
  sizes = h.has.sizes;
}

read_spelled : (words : List Text) (r : ServeReading) → ServeReads words r → Spell serve_usage words (λ args. HasServe args r)
read_spelled words r h = record {
  arguments = h.arguments;
  spelled = record { spelled = h.spelled; named = h.named; plain = h.plain };
  has = record { none_alone = h.none_alone; device_is = (h.device, h.some_device); sizes = h.sizes };
}

pub serve_reading_means : NumberLaw → (words : List Text) (r : ServeReading) → (serve_reading_of words ≡ Some r) ↔ ServeReads words r
serve_reading_means law words r =
    let means = command_means serve_usage serve_names serve_reading_by HasServe (serve_told law) serve_once words r in
    (λ e. spelled_read words r (means.0 e), λ h. means.1 (read_spelled words r h))

-- the words of the usage line
pub serve_usage_read : (words : List Text) (r : ServeReading) → IsServeUsageOf words r → ServeReads words r
serve_usage_read words r h =
    let line = line_of h.queue r.device r.given [] h.queue_is (record { script = refl; options = refl }) in
    record {
      arguments = line.arguments;
      spelled = h.spelled ∙ ap (λ (z : List Text). codes "serve" ∷ z) (sym (append-nil h.queue) ∙ line.spelled);
      named = line.named serve_usage.options refl refl;
      plain = line.plain tt;
      none_alone = line.script;
      device = line.device_is;
      some_device = h.queue_is.device_is.0;
      sizes = line.sizes;
    }
