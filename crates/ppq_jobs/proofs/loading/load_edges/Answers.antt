use Rattle.std.proofs.Common.{◌+◌, ◌/◌, max, refl, sym, subst, arith}
use Rattle.ppq_engine.specs.ppq_files.Reading.{CountsBy}
use Rattle.ppq_engine.specs.ppq_load.Loading.{LoadCountsFrom}
use Rattle.ppq_engine.proofs.ppq_load.Loadings.{unbegun}
use Rattle.ppq_engine.proofs.ppq_load.Refusals.{stop-later}
use Rattle.ppq_engine.proofs.ppq_load.Results.{unread-ends, unread-counts, unbegun-left}
use Rattle.ppq_jobs.specs.Edges.{wanted_of}
use Rattle.ppq_jobs.specs.Loading.{LoadsEdges}
use Rattle.ppq_jobs.proofs.EdgesLoaded.{loads-says, loads-counts}
use Rattle.ppq_jobs.proofs.LibraryKept.{reads-none}
use Rattle.ppq_jobs.proofs.loading.load_edges.Goals as goal

pub returns-in-Ok-clause-loads : goal.returns-in-Ok-clause-loads
returns-in-Ok-clause-loads g c =
    let read = c.deal_edges-dealt in
    let end = c.end-queue in
    let told = g.L.Library.told c.args.library.now in
    let replied = g.L.Library.replied read.new.library in
    let wanted = wanted_of c.args.graph.now in
    subst (LoadsEdges told replied wanted c.args.queue end.result.0) (sym c.first_answer.ensures)
    (loads-says g.S.Slot.shown told replied wanted c.in-Ok.session read.new.session c.args.queue end.result.0 read.result end.result.1 read.ensures.deals c.in-Ok.ensures.session c.requires.length (end.ensures.loaded c.args.queue) end.ensures.left end.ensures.all)

pub returns-in-Ok-clause-kept : goal.returns-in-Ok-clause-kept
returns-in-Ok-clause-kept g c =
    let some = c.deal_edges-dealt.ensures.deals.some c.args.queue c.in-Ok.ensures.session in
    (c.end-queue.ensures.loaded c.args.queue some.given.records some.given.session).kept

pub returns-in-Ok-clause-counts : goal.returns-in-Ok-clause-counts
returns-in-Ok-clause-counts g c =
    let read = c.deal_edges-dealt in
    let before = g.L.Library.faults c.args.library.now in
    let now = g.L.Library.faults read.new.library in
    subst (CountsBy LoadCountsFrom before now) (sym c.first_answer.ensures) (loads-counts before now read.result c.end-queue.result.1 read.ensures.counts)

pub returns-in-Err-clause-loads : goal.returns-in-Err-clause-loads
returns-in-Err-clause-loads g c =
    let back = unbegun c.args.queue c.args.queue c.in-Err.queue c.in-Err.fault c.from.result refl c.from.ensures c.in-Err.ensures.refused in
    let q = c.args.queue in
    let bytes = c.args.graph.now.bytes in
    record {
      stops = stop-later q.sizes q.limited q.limited q.peak (max q.peak (q.size + bytes / 16)) (omega (arith, c.known.ensures.range.two_records)) (λ same. same) (omega arith) c.in-Err.queue.slots c.from.result back.refused;
      ended = unread-ends (g.L.Library.told c.args.library.now) (g.L.Library.replied c.args.library.now) c.args.graph.now.name.now bytes c.from.result back.by_load;
      left = unbegun-left q c.in-Err.queue (bytes / 16) c.from.result back.peak c.known.ensures.peak back.intact;
    }

pub returns-in-Err-clause-reads : goal.returns-in-Err-clause-reads
returns-in-Err-clause-reads g c = reads-none g.L.Library.told g.L.Library.replied c.args.graph.now.name.now c.args.graph.now.bytes c.args.library.now

pub returns-in-Err-clause-counts : goal.returns-in-Err-clause-counts
returns-in-Err-clause-counts g c =
    let back = unbegun c.args.queue c.args.queue c.in-Err.queue c.in-Err.fault c.from.result refl c.from.ensures c.in-Err.ensures.refused in
    record { later = omega arith; stays = tt; cause = unread-counts (g.L.Library.faults c.args.library.now) c.from.result back.by_load }
