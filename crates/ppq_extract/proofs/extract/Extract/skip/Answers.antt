use Rattle.std.proofs.Common.{◌-◌, drop, length, ap, ◌∙◌, arith}
use Rattle.std.proofs.lemmas.List.{length-take}
use Rattle.ppq_extract.specs.Extracted.{held}
use Rattle.ppq_extract.proofs.Leaving.{skipped}
use Rattle.ppq_extract.proofs.extract.Extract.skip.Goals as goal

pub returns : goal.returns
returns g c =
    let i = c.self.inside in
    let n = c.args.n in
    let left = length-take (i.to - i.from) (drop i.from i.records.items) in
    let long = ap (λ h. length h.items) c.self.view_is in
    ap (λ l. held l (length i.records.items)) (skipped n i.from i.to i.records.items (omega (arith, c.requires, left, long, c.self.invariant.0))) ∙ ap (λ h. held (drop n h.items) h.room) c.self.view_is
