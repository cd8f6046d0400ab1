use Rattle.std.proofs.Common.{take}
use Rattle.std.specs.Prelude.{flat_map}
use Rattle.ppq_handler.specs.Agenda.{follow_ups}
use Rattle.ppq_event.specs.Waiting.{HasGrown}
use Rattle.ppq_event.proofs.push.push_all.Given as goal

-- what follows from the answers so far was added
abbrev pub invariant-pushing : goal.invariant-pushing
invariant-pushing g l = HasGrown l.fn.queue l.queue (flat_map follow_ups (take l.i l.answers))
