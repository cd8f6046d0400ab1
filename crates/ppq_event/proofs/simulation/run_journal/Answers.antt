use Rattle.std.proofs.Common.{subst}
use Rattle.std.specs.Prelude.{IfOk, IfErr}
use Rattle.ppq_handler.specs.Roster.{places_of}
use Rattle.ppq_handler.specs.Agenda.{run, ended}
use Rattle.ppq_queue.specs.Shown.{AllTell}
use Rattle.ppq_event.specs.Going.{text_of, HasMade, StopsRun}
use Rattle.ppq_event.proofs.Finished.{finished}
use Rattle.ppq_event.proofs.simulation.run_journal.Goals as goal

pub returns-clause-leaves : goal.returns-clause-leaves
returns-clause-leaves g c =
    let told = g.O.Sink.told in
    let faults = g.O.Sink.faults in
    let seen = places_of g.B.Handler.stands in
    let q = c.args.queue.now in
    let new = c.run_rounds-ended.new.queue in
    let whole = run c.args.until c.args.events q.bag (seen c.args.roster.now) in
    let given = c.run_rounds-ended.result in
    let mid = told c.run_rounds-ended.new.out in
    let has = c.run_rounds-ended.new.lines in
    finished (AllTell q.slots) whole (seen c.run_rounds-ended.new.roster) q new (told c.args.out.now) mid (told c.finish.new.out) has (faults c.args.out.now) (faults c.run_rounds-ended.new.out) (faults c.finish.new.out) given c.finish.result c.run_rounds-ended.ensures.queue c.run_rounds-ended.ensures.sink
    (subst (λ ls. IfOk given (λ ending. AllTell q.slots → HasMade whole (ended ending (seen c.run_rounds-ended.new.roster)) q.peak new.peak (text_of (told c.args.out.now) ls) (text_of mid has))) c.forget.ensures c.run_rounds-ended.ensures.made)
    (subst (λ ls. IfErr given (λ fault. AllTell q.slots → StopsRun whole q.peak new.peak (text_of (told c.args.out.now) ls) (text_of mid has) fault)) c.forget.ensures c.run_rounds-ended.ensures.stops)
    c.finish.ensures
