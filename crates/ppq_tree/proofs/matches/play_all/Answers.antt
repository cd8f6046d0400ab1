use Rattle.std.proofs.Common.{◌-◌, refl, sym, subst, arith}
use Rattle.ppq_tree.proofs.Tree.{IsPlayedFrom, played_none, played_more}
use Rattle.ppq_tree.proofs.matches.play_all.Goals as goal

pub loop-node-init : goal.loop-node-init
loop-node-init g c = record { place = omega arith; steps = refl; tree = played_none g.R.Ord.cmp c.args.items.now c.args.winners.now c.requires.size c.requires.leaves }

pub loop-node-preserved : goal.loop-node-preserved
loop-node-preserved g c =
    let i = c.loop-node.invariant in
    let place = i.place in
    let steps = i.steps in
    let one = c.play.ensures.cost in
    record {
      place = omega arith;
      steps = omega arith;
      tree = subst (λ w. IsPlayedFrom g.R.Ord.cmp c.args.items.now w (c.loop-node.node - 1)) (sym c.play.ensures.winner)
          (played_more g.R.Ord.cmp c.args.items.now c.loop-node.winners c.loop-node.node (c.loop-node.node - 1) _ (omega arith) (omega arith) place i.tree refl);
    }
