use Rattle.std.proofs.Common.{◌≡◌, ◌∙◌, ◌+◌, ◌-◌, min, take, drop, ap}
use Rattle.ppq_load.specs.Given.{seed_after, generated_from_by}
use Rattle.ppq_load.proofs.Generated.{generated-part}
use Rattle.ppq_load.proofs.generator.GeneratorMaker.part.Goals as goal

pub returns : goal.returns
returns g c =
    let count = g.R.Fields.COUNT in
    let of = g.R.Fields.of_fields in
    let s = c.self.inside in
    let from = c.args.from in
    let skipped = c.min-skipped.ensures in
    let key : c.key_behind.result ≡ seed_after s.key (min from s.left) = c.key_behind.ensures ∙ ap (seed_after s.key) skipped in
    let number : s.number + c.min-skipped.result ≡ s.number + min from s.left = ap (λ n. s.number + n) skipped in
    let left : c.min.result ≡ min c.args.count (s.left - min from s.left) = c.min.ensures ∙ ap (λ n. min c.args.count (s.left - n)) skipped in
    generated-part count of s.seed s.key s.number s.left from c.args.count c.key_behind.result (s.number + c.min-skipped.result) c.min.result key number left
    ∙ ap (λ m. take c.args.count (drop from (generated_from_by count of m.seed m.key m.number m.left))) c.self.view_is
