use Rattle.std.specs.Prelude.{vec_capacity}
use Rattle.std.proofs.Common.{◌≡◌, ◌-◌, ◌≤◌, All, length, drop, IsPermutation}
use Rattle.ppq_spill.specs.Leveling.{HasLevel}
use Rattle.ppq_spill.proofs.gathering.gather_level.Given as goal

abbrev pub invariant-loop-found : goal.invariant-loop-found
invariant-loop-found g l =
    record {
      moved : IsPermutation l.fn.arrays.items l.arrays.items;
      few : l.found ≤ l.count;
      long : l.all ≡ length l.arrays.items;
      within : l.found ≤ length l.arrays.items;
      levels : All (HasLevel l.level) (drop (length l.arrays.items - l.found) l.arrays.items);
      room : vec_capacity l.arrays ≡ vec_capacity l.fn.arrays;
    }

abbrev pub decreases-loop-found : goal.decreases-loop-found
decreases-loop-found g l = l.count - l.found
