use Rattle.std.proofs.Common.{◌<◌, ◌++◌, ◌∙◌, ℕ, List, length, take, take_all, sym, ap, arith, append_assoc, append-nil}
use Rattle.std.specs.Prelude.{flat_map}
use Rattle.std.specs.Int.{w64, to_be_bytes}
use Rattle.ppq_engine.proofs.Texts.{bytes-next}
use Rattle.ppq_engine.proofs.print.gather_record_bytes.Goals as goal

pub loop-i-init : goal.loop-i-init
loop-i-init g c = record { text = sym (append-nil c.args.gathered.now); long = omega arith }

pub loop-i-preserved : goal.loop-i-preserved
loop-i-preserved g c =
    let fields = g.R.Fields.fields_of c.args.item in
    let i = c.loop-i.i in
    let had = c.args.gathered.now in
    let before = flat_map (to_be_bytes w64) (take i fields) in
    let field = c.field.result in
    let within : i < length fields = omega (arith, c.fields_laws.ensures.count c.args.item) in
    record {
      text =
          c.gather_word.ensures.text ∙ ap (λ (t : List ℕ). t ++ to_be_bytes w64 field) c.loop-i.invariant.text ∙ append_assoc had before (to_be_bytes w64 field)
          ∙ ap (λ (t : List ℕ). had ++ t) (sym (bytes-next fields i field within c.field.ensures));
      long = omega arith;
    }

pub returns-clause-text : goal.returns-clause-text
returns-clause-text g c =
    let fields = g.R.Fields.fields_of c.args.item in
    c.loop-i.invariant.text
    ∙ ap (λ (t : List ℕ). c.args.gathered.now ++ t) (ap (flat_map (to_be_bytes w64)) (take_all c.loop-i.i fields (omega (arith, c.fields_laws.ensures.count c.args.item))) ∙ sym (c.fields_laws.ensures.encoded c.args.item))
