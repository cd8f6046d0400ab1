use Rattle.std.proofs.Common.{◌≡◌, ◌≤◌, ◌+◌, ◌*◌, ◌++◌, length, take}
use Rattle.std.specs.Prelude.{codes, decimal, flat_map}
use Rattle.ppq_text.proofs.gathered.Gathered.numbers.Given as goal

abbrev pub invariant-loop-i : goal.invariant-loop-i
invariant-loop-i g l = record {
  text : l.self ≡ l.initial.self ++ flat_map (λ next. codes " " ++ decimal next) (take l.i l.others);
  few : length l.self ≤ length l.initial.self + 21 * l.i;
}
