use Rattle.std.proofs.Common.{◌++◌, List, sym, ap, ◌∙◌, arith}
use Rattle.std.specs.Prelude.{get_or}
use Rattle.ppq_load.specs.ppq_session.declared.line.Line.{Line}
use Rattle.ppq_engine.specs.Pushes.{line_by}
use Rattle.ppq_engine.proofs.Pushes.{by-more}
use Rattle.ppq_engine.proofs.collected.Collected.fill.Goals as goal

pub loop-i-preserved : goal.loop-i-preserved
loop-i-preserved g c =
    let d = c.index-lines-i.result in
    let one = line_by (get_or c.args.lines.now c.loop-i.i d).command in
    record {
      lines = c.take.ensures.lines ∙ ap (λ (ls : List (Line g.row.R.Denot)). ls ++ one) c.loop-i.invariant.lines ∙ sym (by-more line_by c.args.lines.now c.loop-i.i d (omega arith));
      few = omega (arith, c.take.ensures.few, c.loop-i.invariant.few);
      most = c.take.ensures.most ∙ c.loop-i.invariant.most;
    }
