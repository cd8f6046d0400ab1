use Rattle.std.proofs.Common.{All, get_or, subst}
use Rattle.std.proofs.lemmas.List.{take_all}
use Rattle.std.proofs.lemmas.List.Elements.{All-more}
use Rattle.ppq_spill.specs.Making.{HasNothing}
use Rattle.ppq_spill.proofs.level.see_emptied.Goals as goal

pub loop-array-preserved : goal.loop-array-preserved
loop-array-preserved g c =
    let here : HasNothing (get_or c.args.arrays.now c.loop-array.array-index c.array-item.result) = subst HasNothing c.array-item.is c.see_one_emptied.ensures in
    All-more HasNothing c.args.arrays.now c.loop-array.array-index c.array-item.result c.loop-array-test.true c.loop-array.invariant here

pub returns : goal.returns
returns g c = subst (All HasNothing) (take_all c.loop-array.array-index c.args.arrays.now c.loop-array-test.false) c.loop-array.invariant
