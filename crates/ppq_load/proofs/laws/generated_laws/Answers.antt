use Rattle.std.proofs.Common.{arith}
use Rattle.ppq_load.specs.Given.{made_fields}
use Rattle.ppq_load.specs.Sequence.{key_of}
use Rattle.ppq_load.proofs.Sequence.{are-generated, length-made}
use Rattle.ppq_load.proofs.laws.generated_laws.Goals as goal

pub returns-clause-sequence : goal.returns-clause-sequence
returns-clause-sequence g c = are-generated g.R.Fields.COUNT g.R.Fields.of_fields

pub returns-clause-fields : goal.returns-clause-fields
returns-clause-fields g c = λ seed i.
    c.fields_laws.ensures.own (made_fields g.R.Fields.COUNT (key_of seed i) i seed) (length-made g.R.Fields.COUNT (key_of seed i) i seed (omega (arith, c.fields_laws.ensures.width, c.record_laws.ensures.width.1)))
