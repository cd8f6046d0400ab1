use Rattle.std.proofs.Common.{refl}
use Rattle.ppq_session.proofs.gather.adopt.Goals as goal

pub returns : goal.returns
returns g c =
    record {
      internal = c.move_all.ensures.items;
      external = c.move_all-2.ensures.items;
      idle = c.move_buffers.ensures;
      jobs = refl;
      batch = refl;
      tree = refl;
      internal_room = c.move_all.ensures.capacity;
      external_room = c.move_all-2.ensures.capacity;
    }
