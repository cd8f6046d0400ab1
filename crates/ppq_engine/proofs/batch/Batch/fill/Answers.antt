use Rattle.std.proofs.Common.{◌++◌, List, sym, ap, ◌∙◌, arith}
use Rattle.std.specs.Prelude.{get_or}
use Rattle.ppq_load.specs.ppq_session.declared.ask.Ask.{Ask}
use Rattle.ppq_engine.specs.Limits.{ask_by}
use Rattle.ppq_engine.proofs.Pushes.{by-more}
use Rattle.ppq_engine.proofs.batch.Batch.fill.Goals as goal

pub loop-i-preserved : goal.loop-i-preserved
loop-i-preserved g c =
    let d = c.index-lines-i.result in
    let one = ask_by (get_or c.args.lines.now c.loop-i.i d).command in
    record {
      asks = c.take.ensures.asks ∙ ap (λ (xs : List Ask). xs ++ one) c.loop-i.invariant.asks ∙ sym (by-more ask_by c.args.lines.now c.loop-i.i d (omega arith));
      few = omega (arith, c.take.ensures.few, c.loop-i.invariant.few);
      lines = c.take.ensures.lines ∙ c.loop-i.invariant.lines;
    }
