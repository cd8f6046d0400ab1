-- Rounds, one after the other, and the ending.
use Rattle.std.proofs.Common.{◌∙◌, refl, sym, ap, subst, arith, Err}
use Rattle.ppq_handler.specs.Roster.{places_of}
use Rattle.ppq_queue.specs.Sizes.{batch_of}
use Rattle.ppq_queue.proofs.Flushed.{keeps-more}
use Rattle.ppq_handler.specs.declared.ending.Ending.{Ending}
use Rattle.ppq_handler.specs.Agenda.{ended}
use Rattle.ppq_queue.specs.Shown.{AllTell}
use Rattle.ppq_event.specs.Waiting.{QueueAfter}
use Rattle.ppq_event.specs.Going.{IsFew, run_at, later, left_after, text_of, SinkAfter, StopsRun, HasMade}
use Rattle.ppq_event.proofs.Results.{if_err, at_err}
use Rattle.ppq_event.proofs.Rounded.{queue_since, sink_since}
use Rattle.ppq_event.proofs.Waited.{keeps_same}
use Rattle.ppq_event.proofs.Made.{made_none, made_more, stops_more}
use Rattle.ppq_event.proofs.rounds.run_rounds.Goals as goal

pub rounds-init : goal.rounds-init
rounds-init g c = record {
  sum = c.requires.turns;
  same = refl;
  room = c.requires.answers;
  place = refl;
  keeps = keeps_same c.args.queue.now;
  size = omega arith;
  peak = omega arith;
  sound = refl;
  faults = refl;
  made = λ tell. made_none _ _ _;
}

pub rounds-preserved : goal.rounds-preserved
rounds-preserved g c =
    let inv = c.rounds.invariant in
    let told = g.O.Sink.told in
    let seen = places_of g.B.Handler.stands in
    let few = subst (IsFew c.rounds.clock.left c.rounds.queue.size c.turn.new.queue.size) c.in-Took.is c.in_ok-ending.ensures.few in
    let start = run_at c.args.start c.args.queue.now.bag (seen c.args.roster.now) in
    let mid = run_at c.rounds.clock c.rounds.queue.bag (seen c.rounds.roster) in
    let was = text_of (told c.args.out.now) c.args.lines.now in
    let between = text_of (told c.rounds.out) c.rounds.lines in
    let now = text_of (told c.turn.new.out) c.turn.new.lines in
    record {
      sum = omega (arith, inv.sum, few);
      same = omega (arith, c.turn.auto.roster, inv.same);
      room = omega (arith, c.turn.auto.answers, inv.room, c.turn.ensures.room);
      place = c.turn.ensures.room ∙ inv.place;
      keeps = keeps-more c.args.queue.now c.rounds.queue c.turn.new.queue inv.keeps c.turn.ensures.keeps;
      size = omega (arith, inv.size, few);
      peak = omega (arith, inv.size, inv.peak, c.turn.ensures.peak);
      sound = c.in_ok-ending.ensures.queue.quiet ∙ inv.sound;
      faults = c.in_ok-ending.ensures.sink ∙ inv.faults;
      made = λ tell. made_more start mid (run_at (later c.rounds.clock c.in-Took.turns) c.turn.new.queue.bag (seen c.turn.new.roster)) c.args.queue.now.peak c.rounds.queue.peak c.turn.new.queue.peak was between now (inv.made tell)
          (subst (λ step. HasMade mid (left_after c.rounds.clock c.turn.new.queue.bag (seen c.turn.new.roster) step) c.rounds.queue.peak c.turn.new.queue.peak between now) c.in-Took.is (c.in_ok-ending.ensures.made (inv.keeps.tells tell)));
    }

pub turn-requires-clause-room : goal.turn-requires-clause-room
turn-requires-clause-room g c κs within =
    let inv = c.rounds.invariant in
    inv.place ∙ (c.requires.room ∙ sym (ap batch_of inv.keeps.sizes))

pub turn-requires-clause-turns : goal.turn-requires-clause-turns
turn-requires-clause-turns g c κs within = c.rounds.invariant.sum

pub turn-requires-clause-answers : goal.turn-requires-clause-answers
turn-requires-clause-answers g c κs within = c.rounds.invariant.room

pub returns-in_err-ending-clause-keeps : goal.returns-in_err-ending-clause-keeps
returns-in_err-ending-clause-keeps g c = keeps-more c.args.queue.now c.rounds.queue c.turn.new.queue c.rounds.invariant.keeps c.turn.ensures.keeps

pub returns-in_err-ending-clause-queue : goal.returns-in_err-ending-clause-queue
returns-in_err-ending-clause-queue g c =
    let q = c.args.queue.now in
    let new = c.turn.new.queue in
    at_err c.from_residual.result c.in_err-ending.field-0.0 (QueueAfter q new) c.from_residual.ensures.1 (queue_since {T = Ending} q c.rounds.queue new (Err c.in_err-ending.field-0.0) c.rounds.invariant.sound c.in_err-ending.ensures.queue)

pub returns-in_err-ending-clause-sink : goal.returns-in_err-ending-clause-sink
returns-in_err-ending-clause-sink g c =
    at_err c.from_residual.result c.in_err-ending.field-0.0 (SinkAfter (g.O.Sink.faults c.args.out.now) (g.O.Sink.faults c.turn.new.out)) c.from_residual.ensures.1
    (sink_since {T = Ending} (g.O.Sink.faults c.args.out.now) (g.O.Sink.faults c.rounds.out) (g.O.Sink.faults c.turn.new.out) (Err c.in_err-ending.field-0.0) c.rounds.invariant.faults c.in_err-ending.ensures.sink)

pub returns-in_err-ending-clause-room : goal.returns-in_err-ending-clause-room
returns-in_err-ending-clause-room g c = c.turn.ensures.room ∙ c.rounds.invariant.place

pub returns-in_err-ending-clause-stops : goal.returns-in_err-ending-clause-stops
returns-in_err-ending-clause-stops g c =
    let told = g.O.Sink.told in
    let seen = places_of g.B.Handler.stands in
    let q = c.args.queue.now in
    let new = c.turn.new.queue in
    let fault = c.in_err-ending.field-0.0 in
    let start = run_at c.args.start q.bag (seen c.args.roster.now) in
    let mid = run_at c.rounds.clock c.rounds.queue.bag (seen c.rounds.roster) in
    let was = text_of (told c.args.out.now) c.args.lines.now in
    let now = text_of (told c.turn.new.out) c.turn.new.lines in
    if_err c.from_residual.result fault (λ e. AllTell q.slots → StopsRun start q.peak new.peak was now e) c.from_residual.ensures.1
    (λ tell. stops_more start mid q.peak c.rounds.queue.peak new.peak was (text_of (told c.rounds.out) c.rounds.lines) now fault (c.rounds.invariant.made tell) (c.in_err-ending.ensures.stops (c.rounds.invariant.keeps.tells tell)))

pub returns-in-Ended-clause-keeps : goal.returns-in-Ended-clause-keeps
returns-in-Ended-clause-keeps g c = keeps-more c.args.queue.now c.rounds.queue c.turn.new.queue c.rounds.invariant.keeps c.turn.ensures.keeps

pub returns-in-Ended-clause-queue : goal.returns-in-Ended-clause-queue
returns-in-Ended-clause-queue g c = record { sound = c.in_ok-ending.ensures.queue.sound; quiet = c.in_ok-ending.ensures.queue.quiet ∙ c.rounds.invariant.sound }

pub returns-in-Ended-clause-sink : goal.returns-in-Ended-clause-sink
returns-in-Ended-clause-sink g c = c.in_ok-ending.ensures.sink ∙ c.rounds.invariant.faults

pub returns-in-Ended-clause-room : goal.returns-in-Ended-clause-room
returns-in-Ended-clause-room g c = c.turn.ensures.room ∙ c.rounds.invariant.place

pub returns-in-Ended-clause-made : goal.returns-in-Ended-clause-made
returns-in-Ended-clause-made g c tell =
    let told = g.O.Sink.told in
    let seen = places_of g.B.Handler.stands in
    let q = c.args.queue.now in
    let new = c.turn.new.queue in
    let start = run_at c.args.start q.bag (seen c.args.roster.now) in
    let mid = run_at c.rounds.clock c.rounds.queue.bag (seen c.rounds.roster) in
    let was = text_of (told c.args.out.now) c.args.lines.now in
    let between = text_of (told c.rounds.out) c.rounds.lines in
    let now = text_of (told c.turn.new.out) c.turn.new.lines in
    let last = subst (λ step. HasMade mid (left_after c.rounds.clock new.bag (seen c.turn.new.roster) step) c.rounds.queue.peak new.peak between now) c.in-Ended.is (c.in_ok-ending.ensures.made (c.rounds.invariant.keeps.tells tell)) in
    made_more start mid (ended c.in-Ended.ending (seen c.turn.new.roster)) q.peak c.rounds.queue.peak new.peak was between now (c.rounds.invariant.made tell) last

pub overflow_add-clock : goal.overflow_add-clock
overflow_add-clock g c = let few = subst (IsFew c.rounds.clock.left c.rounds.queue.size c.turn.new.queue.size) c.in-Took.is c.in_ok-ending.ensures.few in omega (arith, c.rounds.invariant.sum, few)
