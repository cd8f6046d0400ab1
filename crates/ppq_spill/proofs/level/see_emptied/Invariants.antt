use Rattle.std.proofs.Common.{All, take}
use Rattle.ppq_spill.specs.Making.{HasNothing}
use Rattle.ppq_spill.proofs.level.see_emptied.Given as goal

abbrev pub invariant-loop-array : goal.invariant-loop-array
invariant-loop-array g l = All HasNothing (take l.array-index l.arrays)
