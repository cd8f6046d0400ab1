-- What a round leaves, by where it ended.
use Rattle.std.proofs.Common.{◌≡◌, ◌≤◌, ◌<◌, ◌∙◌, length, min, refl, sym, subst, arith, Option}
use Rattle.std.proofs.lemmas.List.{length-map, length-take}
use Rattle.ppq_handler.specs.declared.outcome.Outcome.{Outcome}
use Rattle.ppq_handler.specs.Roster.{place_at, places_of}
use Rattle.ppq_handler.specs.Agenda.{ended}
use Rattle.ppq_handler.specs.Parts.{AnswersAll}
use Rattle.ppq_queue.specs.Sizes.{batch_of}
use Rattle.ppq_queue.proofs.Flushed.{keeps-more}
use Rattle.ppq_event.specs.Waiting.{IsSound}
use Rattle.ppq_event.specs.Going.{ending_before, text_of, run_at, later, HasMade}
use Rattle.ppq_event.proofs.Waited.{sound_more, refuses_more, follow_few}
use Rattle.ppq_event.proofs.Turned.{is_due, is_left, had_ended, nothing_made, some_of_time, some_batch, round_made, round_stopped, round_unwritten}
use Rattle.ppq_event.proofs.turn.turn.Goals as goal

pub returns-in-Err-clause-stops : goal.returns-in-Err-clause-stops
returns-in-Err-clause-stops g c tell =
    let whole = run_at c.args.clock c.args.queue.now.bag (places_of g.B.Handler.stands c.args.roster.now) in
    let peak : c.top.new.self.peak ≤ c.args.queue.now.peak = omega (arith, c.top.ensures.stays.peak) in
    (whole, nothing_made whole whole c.args.queue.now.peak c.top.new.self.peak (g.O.Sink.told c.args.out.now) c.args.lines.now refl peak)

pub returns-in-Some-clause-made : goal.returns-in-Some-clause-made
returns-in-Some-clause-made g c tell =
    let places = places_of g.B.Handler.stands c.args.roster.now in
    let bag = c.args.queue.now.bag in
    let peak : c.top.new.self.peak ≤ c.args.queue.now.peak = omega (arith, c.top.ensures.stays.peak) in
    nothing_made (run_at c.args.clock bag places) (ended c.in-Some.ending places) c.args.queue.now.peak c.top.new.self.peak (g.O.Sink.told c.args.out.now) c.args.lines.now
    (had_ended c.args.clock bag places c.in-Ok.next c.ending_before.result c.in-Some.ending (c.in-Ok.ensures.answer tell) c.ending_before.ensures c.in-Some.is) peak

pub take_round-requires-clause-some : goal.take_round-requires-clause-some
take_round-requires-clause-some g c κs within =
    let clock = c.args.clock in
    let r = c.ending_before.result in
    let is = subst (λ o. r ≡ ending_before o clock.until clock.left clock.count) c.in-Some-next.is c.ending_before.ensures in
    is_left c.in-Some-next.event clock.until clock.left clock.count r is c.in_default.not-Some

pub take_round-requires-clause-place : goal.take_round-requires-clause-place
take_round-requires-clause-place g c κs within =
    let some = subst (λ n. 0 < batch_of n) c.top.ensures.stays.keeps.sizes (some_batch c.top.new.self.sizes c.known.ensures.range) in
    omega (arith, some, c.requires.room)

pub returns-in-Err-take_round-clause-keeps : goal.returns-in-Err-take_round-clause-keeps
returns-in-Err-take_round-clause-keeps g c = keeps-more c.args.queue.now c.top.new.self c.take_round.new.queue c.top.ensures.stays.keeps c.in-Err-take_round.ensures.refused.keeps

pub returns-in-Err-take_round-clause-queue : goal.returns-in-Err-take_round-clause-queue
returns-in-Err-take_round-clause-queue g c =
    let same = c.in-Ok.ensures.same in
    let sound : IsSound c.args.queue.now c.top.new.self = record { sound = same.sound; quiet = same.quiet } in
    refuses_more c.args.queue.now c.top.new.self c.take_round.new.queue c.in-Err-take_round.fault sound c.in-Err-take_round.ensures.refused.refuses

pub returns-in-Err-take_round-clause-stops : goal.returns-in-Err-take_round-clause-stops
returns-in-Err-take_round-clause-stops g c tell =
    let whole = run_at c.args.clock c.args.queue.now.bag (places_of g.B.Handler.stands c.args.roster.now) in
    let peak : c.take_round.new.queue.peak ≤ c.args.queue.now.peak = omega (arith, c.top.ensures.stays.peak, c.in-Err-take_round.ensures.refused.peak, c.known.ensures.peak) in
    (whole, nothing_made whole whole c.args.queue.now.peak c.take_round.new.queue.peak (g.O.Sink.told c.args.out.now) c.args.lines.now refl peak)

pub returns-then-turns-eq0-clause-keeps : goal.returns-then-turns-eq0-clause-keeps
returns-then-turns-eq0-clause-keeps g c = keeps-more c.args.queue.now c.top.new.self c.take_round.new.queue c.top.ensures.stays.keeps c.in_default-take_round.ensures.took.keeps

pub returns-then-turns-eq0-clause-made : goal.returns-then-turns-eq0-clause-made
returns-then-turns-eq0-clause-made g c tell =
    let first = sym c.in-Some-next.is ∙ c.in-Ok.ensures.answer tell in
    let some = some_of_time c.args.queue.now c.top.new.self c.take_round.new.queue c.in-Some-next.event (min c.args.clock.left c.args.taken.now.room) c.take_round.new.taken.items tell c.in-Ok.ensures.same c.top.ensures.stays.keeps first c.in_default-take_round.ensures.took in
    absurd (omega (arith, some, c.if-turns-eq0.true, c.len-turns.ensures.value))

pub returns-in-Err-put_lines-clause-keeps : goal.returns-in-Err-put_lines-clause-keeps
returns-in-Err-put_lines-clause-keeps g c = keeps-more c.args.queue.now c.top.new.self c.take_round.new.queue c.top.ensures.stays.keeps c.in_default-take_round.ensures.took.keeps

pub returns-in-Err-put_lines-clause-sink : goal.returns-in-Err-put_lines-clause-sink
returns-in-Err-put_lines-clause-sink g c = c.in-Err-put_lines.ensures.cause.failed

pub returns-in-Err-put_lines-clause-stops : goal.returns-in-Err-put_lines-clause-stops
returns-in-Err-put_lines-clause-stops g c tell =
    let took = c.in_default-take_round.ensures.took in
    let clock = c.args.clock in
    let event = c.in-Some-next.event in
    let r = c.ending_before.result in
    let is = subst (λ o. r ≡ ending_before o clock.until clock.left clock.count) c.in-Some-next.is c.ending_before.ensures in
    let seen = places_of g.B.Handler.stands in
    let taken = c.take_round.new.taken.items in
    let answers = c.answer_round.new.answers in
    let long : length answers ≡ length taken = omega (arith, c.answer_round.auto.answers, c.len.ensures.value, length-take {A = Option Outcome}, took.few, c.requires.answers) in
    let answered : AnswersAll 0 (length (seen c.args.roster.now)) taken (seen c.args.roster.now) (seen c.answer_round.new.roster) answers = subst (λ m. AnswersAll 0 m taken (seen c.args.roster.now) (seen c.answer_round.new.roster) answers) (sym (length-map c.args.roster.now (place_at g.B.Handler.stands))) (rw (sym c.as_slice.ensures) c.answer_round.ensures) in
    round_unwritten c.round_law.ensures clock c.args.queue.now c.top.new.self c.take_round.new.queue (seen c.args.roster.now) (seen c.answer_round.new.roster) event c.args.taken.now.room taken answers tell c.in-Ok.ensures.same c.top.ensures.stays.keeps c.top.ensures.stays.peak
    (c.known.ensures.counted c.in-Ok.ensures.same.sound (c.top.ensures.stays.keeps.tells tell)) c.known.ensures.peak (sym c.in-Some-next.is ∙ c.in-Ok.ensures.answer tell) (is_due event clock.until clock.left clock.count r is c.in_default.not-Some) took answered long
    (g.O.Sink.told c.args.out.now) (g.O.Sink.told c.put_lines.new.out) c.args.lines.now c.put_lines.new.lines (rw (sym c.as_slice-2.ensures) c.in-Err-put_lines.ensures.part)

pub returns-in-Ok-push_all-clause-keeps : goal.returns-in-Ok-push_all-clause-keeps
returns-in-Ok-push_all-clause-keeps g c =
    keeps-more c.args.queue.now c.take_round.new.queue c.push_all.new.queue (keeps-more c.args.queue.now c.top.new.self c.take_round.new.queue c.top.ensures.stays.keeps c.in_default-take_round.ensures.took.keeps) c.in-Ok-push_all.ensures.added.keeps

pub returns-in-Ok-push_all-clause-few : goal.returns-in-Ok-push_all-clause-few
returns-in-Ok-push_all-clause-few g c =
    let took = c.in_default-take_round.ensures.took in
    let answers = c.answer_round.new.answers in
    let long : length answers ≡ length c.take_round.new.taken.items = omega (arith, c.answer_round.auto.answers, c.len.ensures.value, length-take {A = Option Outcome}, took.few, c.requires.answers) in
    (omega (arith, c.if-turns-eq0.false), omega (arith, c.len-turns.ensures.value, took.few), omega (arith, c.top.ensures.stays.size, took.size, took.within, c.in-Ok-push_all.ensures.added.size, follow_few answers, long, c.len-turns.ensures.value))

pub returns-in-Ok-push_all-clause-peak : goal.returns-in-Ok-push_all-clause-peak
returns-in-Ok-push_all-clause-peak g c =
    let took = c.in_default-take_round.ensures.took in
    let answers = c.answer_round.new.answers in
    let long : length answers ≡ length c.take_round.new.taken.items = omega (arith, c.answer_round.auto.answers, c.len.ensures.value, length-take {A = Option Outcome}, took.few, c.requires.answers) in
    omega (arith, c.top.ensures.stays.size, c.top.ensures.stays.peak, took.size, took.within, took.peak, took.few, c.in-Ok-push_all.ensures.added.size, c.in-Ok-push_all.ensures.added.peak, follow_few answers, long)

pub returns-in-Ok-push_all-clause-sink : goal.returns-in-Ok-push_all-clause-sink
returns-in-Ok-push_all-clause-sink g c = c.in_default-put_lines.ensures.cause.ok

pub returns-in-Ok-push_all-clause-made : goal.returns-in-Ok-push_all-clause-made
returns-in-Ok-push_all-clause-made g c tell =
    let took = c.in_default-take_round.ensures.took in
    let clock = c.args.clock in
    let event = c.in-Some-next.event in
    let r = c.ending_before.result in
    let is = subst (λ o. r ≡ ending_before o clock.until clock.left clock.count) c.in-Some-next.is c.ending_before.ensures in
    let seen = places_of g.B.Handler.stands in
    let told = g.O.Sink.told in
    let q = c.args.queue.now in
    let new = c.push_all.new.queue in
    let taken = c.take_round.new.taken.items in
    let answers = c.answer_round.new.answers in
    let n : c.len-turns.result ≡ length taken = omega (arith, c.len-turns.ensures.value) in
    let long : length answers ≡ length taken = omega (arith, c.answer_round.auto.answers, c.len.ensures.value, length-take {A = Option Outcome}, took.few, c.requires.answers) in
    let answered : AnswersAll 0 (length (seen c.args.roster.now)) taken (seen c.args.roster.now) (seen c.answer_round.new.roster) answers = subst (λ m. AnswersAll 0 m taken (seen c.args.roster.now) (seen c.answer_round.new.roster) answers) (sym (length-map c.args.roster.now (place_at g.B.Handler.stands))) (rw (sym c.as_slice.ensures) c.answer_round.ensures) in
    subst (λ k. HasMade (run_at clock q.bag (seen c.args.roster.now)) (run_at (later clock k) new.bag (seen c.answer_round.new.roster)) q.peak new.peak (text_of (told c.args.out.now) c.args.lines.now) (text_of (told c.put_lines.new.out) c.put_lines.new.lines)) (sym n)
    (round_made c.round_law.ensures clock q c.top.new.self c.take_round.new.queue (seen c.args.roster.now) (seen c.answer_round.new.roster) event c.args.taken.now.room taken answers tell c.in-Ok.ensures.same c.top.ensures.stays.keeps c.top.ensures.stays.peak
    (c.known.ensures.counted c.in-Ok.ensures.same.sound (c.top.ensures.stays.keeps.tells tell)) c.known.ensures.peak (sym c.in-Some-next.is ∙ c.in-Ok.ensures.answer tell) (is_due event clock.until clock.left clock.count r is c.in_default.not-Some) took answered long
    (told c.args.out.now) (told c.put_lines.new.out) c.args.lines.now c.put_lines.new.lines new (rw (sym c.as_slice-2.ensures) c.in_default-put_lines.ensures.text) c.in-Ok-push_all.ensures.added)

pub returns-in-Err-push_all-clause-keeps : goal.returns-in-Err-push_all-clause-keeps
returns-in-Err-push_all-clause-keeps g c =
    keeps-more c.args.queue.now c.take_round.new.queue c.push_all.new.queue (keeps-more c.args.queue.now c.top.new.self c.take_round.new.queue c.top.ensures.stays.keeps c.in_default-take_round.ensures.took.keeps) c.in-Err-push_all.ensures.refused.keeps

pub returns-in-Err-push_all-clause-queue : goal.returns-in-Err-push_all-clause-queue
returns-in-Err-push_all-clause-queue g c =
    let same = c.in-Ok.ensures.same in
    let sound : IsSound c.args.queue.now c.top.new.self = record { sound = same.sound; quiet = same.quiet } in
    refuses_more c.args.queue.now c.take_round.new.queue c.push_all.new.queue c.in-Err-push_all.fault (sound_more c.args.queue.now c.top.new.self c.take_round.new.queue sound c.in_default-take_round.ensures.took.sound) c.in-Err-push_all.ensures.refused.refuses

pub returns-in-Err-push_all-clause-peak : goal.returns-in-Err-push_all-clause-peak
returns-in-Err-push_all-clause-peak g c =
    let took = c.in_default-take_round.ensures.took in
    let answers = c.answer_round.new.answers in
    let long : length answers ≡ length c.take_round.new.taken.items = omega (arith, c.answer_round.auto.answers, c.len.ensures.value, length-take {A = Option Outcome}, took.few, c.requires.answers) in
    omega (arith, c.top.ensures.stays.size, c.top.ensures.stays.peak, took.size, took.within, took.peak, took.few, c.in-Err-push_all.ensures.refused.peak, follow_few answers, long)

pub returns-in-Err-push_all-clause-sink : goal.returns-in-Err-push_all-clause-sink
returns-in-Err-push_all-clause-sink g c = c.in_default-put_lines.ensures.cause.ok

pub returns-in-Err-push_all-clause-stops : goal.returns-in-Err-push_all-clause-stops
returns-in-Err-push_all-clause-stops g c tell =
    let took = c.in_default-take_round.ensures.took in
    let clock = c.args.clock in
    let event = c.in-Some-next.event in
    let r = c.ending_before.result in
    let is = subst (λ o. r ≡ ending_before o clock.until clock.left clock.count) c.in-Some-next.is c.ending_before.ensures in
    let seen = places_of g.B.Handler.stands in
    let told = g.O.Sink.told in
    let taken = c.take_round.new.taken.items in
    let answers = c.answer_round.new.answers in
    let long : length answers ≡ length taken = omega (arith, c.answer_round.auto.answers, c.len.ensures.value, length-take {A = Option Outcome}, took.few, c.requires.answers) in
    let answered : AnswersAll 0 (length (seen c.args.roster.now)) taken (seen c.args.roster.now) (seen c.answer_round.new.roster) answers = subst (λ m. AnswersAll 0 m taken (seen c.args.roster.now) (seen c.answer_round.new.roster) answers) (sym (length-map c.args.roster.now (place_at g.B.Handler.stands))) (rw (sym c.as_slice.ensures) c.answer_round.ensures) in
    round_stopped c.round_law.ensures clock c.args.queue.now c.top.new.self c.take_round.new.queue (seen c.args.roster.now) (seen c.answer_round.new.roster) event c.args.taken.now.room taken answers tell c.in-Ok.ensures.same c.top.ensures.stays.keeps c.top.ensures.stays.peak
    (c.known.ensures.counted c.in-Ok.ensures.same.sound (c.top.ensures.stays.keeps.tells tell)) c.known.ensures.peak (sym c.in-Some-next.is ∙ c.in-Ok.ensures.answer tell) (is_due event clock.until clock.left clock.count r is c.in_default.not-Some) took answered long
    (told c.args.out.now) (told c.put_lines.new.out) c.args.lines.now c.put_lines.new.lines c.push_all.new.queue (rw (sym c.as_slice-2.ensures) c.in_default-put_lines.ensures.text) c.in-Err-push_all.ensures.refused.peak
