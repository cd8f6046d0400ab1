-- The run of an agenda on an open queue, by where it ended.
use Rattle.std.proofs.Common.{◌≡◌, arith}
use Rattle.ppq_event.proofs.ppq_queue.Flushed.{keeps-more}
use Rattle.ppq_jobs.specs.Asked.{asked_of}
use Rattle.ppq_jobs.proofs.Loaded.{HasLoaded, where_loaded, loaded_from}
use Rattle.ppq_jobs.proofs.Says.{unloaded_ends, done_ends, stopped_ends, sink_later}
use Rattle.ppq_jobs.proofs.run.run_opened.Goals as goal

pub returns-in-Err-clause-ends : goal.returns-in-Err-clause-ends
returns-in-Err-clause-ends g c =
    let e = c.load_file-queue.ensures in
    unloaded_ends (g.L.Library.told c.args.library.now) (g.L.Library.replied c.load_file-queue.new.library) (asked_of c.args.agenda.now) _ c.args.queue c.requires.opened (omega (arith, c.known.ensures.range.two_records)) c.load_file-queue.result.0 (g.O.Sink.told c.args.out.now) (g.O.Sink.faults c.args.out.now)
    (g.L.Library.faults c.args.library.now) (g.L.Library.faults c.load_file-queue.new.library) c.load_file-queue.result.1 c.in-Err.fault c.unloaded.result c.in-Err.is c.unloaded.ensures e.refused e.ended e.left e.cause

pub returns-in-Ok-clause-ends : goal.returns-in-Ok-clause-ends
returns-in-Ok-clause-ends g c =
    let told = g.L.Library.told c.args.library.now in
    let asked = asked_of c.args.agenda.now in
    let e = c.load_file-queue.ensures in
    let s = c.simulate-ended.ensures in
    let stays = where_loaded (g.L.Library.faults c.load_file-queue.new.library ≡ g.L.Library.faults c.args.library.now) c.load_file-queue.result.1 c.in_default.not-Err e.stays in
    let loaded : HasLoaded told asked c.args.queue c.load_file-queue.result.0 = loaded_from told asked c.args.queue c.load_file-queue.result.0 c.load_file-queue.result.1 c.in_default.not-Err e.bag e.size e.quiet e.peak e.kept in
    done_ends told (g.L.Library.replied c.load_file-queue.new.library) asked _ c.args.queue c.requires.opened (omega (arith, c.known.ensures.range.two_records)) c.load_file-queue.result.0 c.simulate-ended.new.queue _ (g.O.Sink.told c.args.out.now) (g.O.Sink.told c.simulate-ended.new.out)
    (g.O.Sink.faults c.args.out.now) (g.O.Sink.faults c.simulate-ended.new.out) (g.L.Library.faults c.args.library.now) (g.L.Library.faults c.load_file-queue.new.library) loaded s.keeps s.few stays c.simulate-ended.result c.in-Ok._ending c.in-Ok.is
    (record { ran = s.ran; part = s.part; lines = s.lines; sink = s.sink; queue = s.queue })

pub returns-in-Ok-clause-slots : goal.returns-in-Ok-clause-slots
returns-in-Ok-clause-slots g c = (keeps-more c.args.queue c.load_file-queue.result.0 c.simulate-ended.new.queue c.load_file-queue.ensures.kept c.simulate-ended.ensures.keeps).slots

pub returns-in-Err-ended-clause-ends : goal.returns-in-Err-ended-clause-ends
returns-in-Err-ended-clause-ends g c =
    let told = g.L.Library.told c.args.library.now in
    let asked = asked_of c.args.agenda.now in
    let e = c.load_file-queue.ensures in
    let s = c.simulate-ended.ensures in
    let stays = where_loaded (g.L.Library.faults c.load_file-queue.new.library ≡ g.L.Library.faults c.args.library.now) c.load_file-queue.result.1 c.in_default.not-Err e.stays in
    let loaded : HasLoaded told asked c.args.queue c.load_file-queue.result.0 = loaded_from told asked c.args.queue c.load_file-queue.result.0 c.load_file-queue.result.1 c.in_default.not-Err e.bag e.size e.quiet e.peak e.kept in
    stopped_ends told (g.L.Library.replied c.load_file-queue.new.library) asked _ c.args.queue c.requires.opened (omega (arith, c.known.ensures.range.two_records)) c.load_file-queue.result.0 c.simulate-ended.new.queue _ (g.O.Sink.told c.args.out.now) (g.O.Sink.told c.simulate-ended.new.out)
    (g.O.Sink.faults c.args.out.now) (g.O.Sink.faults c.simulate-ended.new.out) (g.L.Library.faults c.args.library.now) (g.L.Library.faults c.load_file-queue.new.library) loaded s.keeps s.few stays c.simulate-ended.result c.in-Err-ended.fault c.stopped.result c.in-Err-ended.is c.stopped.ensures
    (record { ran = s.ran; part = s.part; lines = s.lines; sink = s.sink; queue = s.queue })

pub returns-in-Err-ended-clause-slots : goal.returns-in-Err-ended-clause-slots
returns-in-Err-ended-clause-slots g c = (keeps-more c.args.queue c.load_file-queue.result.0 c.simulate-ended.new.queue c.load_file-queue.ensures.kept c.simulate-ended.ensures.keeps).slots

pub returns-in-Ok-clause-later : goal.returns-in-Ok-clause-later
returns-in-Ok-clause-later g c = sink_later (g.O.Sink.faults c.args.out.now) (g.O.Sink.faults c.simulate-ended.new.out) c.simulate-ended.result (omega (arith, c.faults-faults.ensures, c.faults-faults.type_inv)) c.simulate-ended.ensures.sink

pub returns-in-Err-ended-clause-later : goal.returns-in-Err-ended-clause-later
returns-in-Err-ended-clause-later g c = sink_later (g.O.Sink.faults c.args.out.now) (g.O.Sink.faults c.simulate-ended.new.out) c.simulate-ended.result (omega (arith, c.faults-faults.ensures, c.faults-faults.type_inv)) c.simulate-ended.ensures.sink
