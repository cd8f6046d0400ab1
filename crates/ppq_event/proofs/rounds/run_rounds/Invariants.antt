use Rattle.std.proofs.Common.{◌≡◌, ◌<◌, ◌≤◌, ◌+◌, ◌^◌, length, max}
use Rattle.ppq_handler.specs.Roster.{places_of}
use Rattle.ppq_queue.specs.Shown.{AllTell}
use Rattle.ppq_queue.specs.Holding.{Keeps}
use Rattle.ppq_event.specs.Going.{text_of, run_at, HasMade}
use Rattle.ppq_event.proofs.Rounded.{MayStart}
use Rattle.ppq_event.proofs.rounds.run_rounds.Given as goal

-- the rounds so far are the first turns of the run
abbrev pub invariant-rounds : goal.invariant-rounds
invariant-rounds g l =
    let told = g.O.Sink.told in
    let seen = places_of g.B.Handler.stands in
    record {
      sum : l.clock.count + l.clock.left < 2 ^ 64;
      same : length l.roster ≡ length l.fn.roster;
      room : length l.answers ≡ l.taken.room;
      place : l.taken.room ≡ l.fn.taken.room;
      keeps : Keeps l.fn.queue l.queue;
      size : l.queue.size + l.clock.left ≤ l.fn.queue.size + l.fn.start.left;
      peak : l.queue.peak ≤ max l.fn.queue.peak (l.fn.queue.size + l.fn.start.left);
      sound : MayStart l.fn.queue l.queue;
      faults : g.O.Sink.faults l.out ≡ g.O.Sink.faults l.fn.out;
      made : AllTell l.fn.queue.slots → HasMade (run_at l.fn.start l.fn.queue.bag (seen l.fn.roster)) (run_at l.clock l.queue.bag (seen l.roster)) l.fn.queue.peak l.queue.peak (text_of (told l.fn.out) l.fn.lines) (text_of (told l.out) l.lines);
    }

abbrev pub decreases-rounds : goal.decreases-rounds
decreases-rounds g l = l.clock.left
