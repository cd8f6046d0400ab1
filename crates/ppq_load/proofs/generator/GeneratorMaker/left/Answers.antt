use Rattle.std.proofs.Common.{◌∙◌, sym, ap}
use Rattle.ppq_load.proofs.Generated.{length-generated}
use Rattle.ppq_load.proofs.generator.GeneratorMaker.left.Goals as goal

pub returns : goal.returns
returns g c =
    let s = c.args.self.now in
    ap (λ m. m.left) c.self.view_is ∙ sym (length-generated g.R.Fields.COUNT g.R.Fields.of_fields s.seed s.key s.number s.left)
