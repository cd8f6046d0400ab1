use Rattle.std.proofs.Common.{rules, ◌≡◌, ◌<◌, ◌++◌, ◌∙◌, ℕ, List, length, take, take_all, ap, arith}
use Rattle.ppq_engine.specs.Output.{fields_text}
use Rattle.ppq_engine.proofs.Texts.{numbers-next}
use Rattle.ppq_engine.proofs.print.gather_fields.Goals as goal

pub loop-i-preserved : goal.loop-i-preserved
loop-i-preserved g c =
    let fields = g.R.Fields.fields_of c.args.item in
    let i = c.loop-i.i in
    let within : i < length fields = omega (arith, c.fields_laws.ensures.count c.args.item) in
    let room : i < length c.loop-i.numbers = omega (arith, within, c.loop-i.invariant.long, c.fields_laws.ensures.count c.args.item, c.fields_laws.ensures.width, c.record_laws.ensures.width.1) in
    record {
      first = numbers-next c.loop-i.numbers fields i c.field.result room within c.loop-i.invariant.first c.field.ensures;
      long = search rules;
    }

pub returns-clause-text : goal.returns-clause-text
returns-clause-text g c =
    let fields = g.R.Fields.fields_of c.args.item in
    let i = c.loop-i.i in
    let end : c.COUNT.result ≡ i = omega (arith, c.COUNT.ensures, c.COUNT-i-end.ensures) in
    let all : take c.COUNT.result c.loop-i.numbers ≡ fields =
    ap (λ n. take n c.loop-i.numbers) end ∙ c.loop-i.invariant.first ∙ take_all i fields (omega (arith, end, c.COUNT.ensures, c.fields_laws.ensures.count c.args.item)) in
    c.numbers.ensures.text ∙ ap (λ (t : List ℕ). c.args.gathered.now ++ fields_text t) all
