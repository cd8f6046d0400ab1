use Rattle.std.proofs.Common.{refl, arith}
use Rattle.ppq_queue.proofs.Flushed.{queue-counts, sound-counts}
use Rattle.ppq_queue.proofs.queue.Queue.raise_peak.Goals as goal

pub invariant_of-self : goal.invariant_of-self
invariant_of-self g c =
    let stands = c.self.invariant.0 in
    let i = stands.queue in
    let up = c.max-self-inside.ensures in (
      record {
        queue = queue-counts i refl refl i.in_heap refl i.in_extract (omega (arith, up, i.counted)) (omega (arith, up, i.most, i.most_count)) i.most_count;
        sound = λ none. (let sound = stands.sound none in sound-counts sound sound.counted sound.ascends sound.order (λ more full. omega (arith, up, sound.above more full)));
        counted = stands.counted;
        slots_room = stands.slots_room;
      },
      c.self.invariant.1,
    )

pub overflow_add-self-inside : goal.overflow_add-self-inside
overflow_add-self-inside g c = grind arith

pub returns : goal.returns
returns g c = grind arith
