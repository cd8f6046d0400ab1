use Rattle.std.proofs.Common.{◌<◌, ◌^◌, take}
use Rattle.std.specs.List.{AllByRecursion as Each}
use Rattle.ppq_event.proofs.take.known_times.Given as goal

-- so it is of the events so far
abbrev pub invariant-knowing : goal.invariant-knowing
invariant-knowing l = Each (λ e. e.time < 2 ^ 64) (take l.i l.events)
