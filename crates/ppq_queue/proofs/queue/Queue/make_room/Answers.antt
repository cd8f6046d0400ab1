use Rattle.std.proofs.Common.{arith}
use Rattle.std.proofs.lemmas.Grind.{common_steps}
use Rattle.ppq_queue.proofs.Counted.{room-stored}
use Rattle.ppq_queue.proofs.queue.Queue.make_room.Goals as goal

pub flush-requires-clause-sound : goal.flush-requires-clause-sound
flush-requires-clause-sound g c = assumption

pub flush-requires-clause-above : goal.flush-requires-clause-above
flush-requires-clause-above g c = grind (arith, common_steps)

pub returns : goal.returns
returns g c = record {
  leaves = assumption;
  counted = room-stored c.args.self.now c.flush.new.self c.flush.result c.flush.ensures.leaves.stays.keeps.sizes (grind (arith, common_steps)) (grind (arith, common_steps)) c.flush.ensures.counted;
  room = grind arith;
  easy = grind arith;
}
