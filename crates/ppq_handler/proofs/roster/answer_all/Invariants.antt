use Rattle.std.proofs.Common.{◌≡◌, ◌++◌, length, take, drop}
use Rattle.ppq_handler.specs.Roster.{places_of}
use Rattle.ppq_handler.specs.Agenda.{answers_to, places_after_all}
use Rattle.ppq_handler.proofs.roster.answer_all.Given as goal

-- the answers so far, and those to the events that are left
abbrev pub invariant-answering : goal.invariant-answering
invariant-answering g l =
    let seen = places_of g.B.Handler.stands in
    record {
      count : length l.answers ≡ length l.events;
      same : length l.places ≡ length l.fn.places;
      told : take l.i l.answers ++ answers_to l.base l.peers (drop l.i l.events) (seen l.places) ≡ answers_to l.base l.peers l.events (seen l.fn.places);
      rest : places_after_all l.base l.peers (drop l.i l.events) (seen l.places) ≡ places_after_all l.base l.peers l.events (seen l.fn.places);
    }
