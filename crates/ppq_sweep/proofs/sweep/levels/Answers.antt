use Rattle.std.proofs.Common.{refl, arith}
use Rattle.ppq_queue.specs.Shown.{AllTell}
use Rattle.ppq_queue.proofs.Flushed.{keeps-more}
use Rattle.ppq_sweep.specs.Queues.{HoldsEdges}
use Rattle.ppq_sweep.proofs.Served.{queues_since}
use Rattle.ppq_sweep.proofs.Finished.{finished}
use Rattle.ppq_sweep.proofs.sweep.levels.Goals as goal

-- the notes were looked at, all nodes came up, and what was gathered was written
pub returns : goal.returns
returns g c =
    let told = g.O.Sink.told in
    let faults = g.O.Sink.faults in
    let edges = c.args.edges.now in
    let edges_now = c.visit_all-swept.new.edges in
    let notes = c.args.notes.now in
    let mid = c.top.new.self in
    let notes_now = c.visit_all-swept.new.notes in
    let top = c.in_default.ensures in
    let all = c.visit_all-swept.ensures in
    let given = c.visit_all-swept.result in
    let it =
    finished (HoldsEdges c.args.nodes edges) (AllTell notes.slots) (AllTell mid.slots) top.stays.keeps.tells c.args.nodes edges.bag edges edges_now notes notes_now (told c.args.out.now) (told c.visit_all-swept.new.out) (told c.finish.new.out) c.visit_all-swept.new.lines
    (faults c.args.out.now) (faults c.visit_all-swept.new.out) (faults c.finish.new.out) given c.finish.result (λ holds. holds.edges) (queues_since edges edges edges_now notes mid notes_now given refl top.same.quiet all.queues) all.sink all.swept all.stops c.finish.ensures in
    record {
      done = it.done;
      emptied = it.emptied;
      part = it.part;
      lines = it.lines;
      sink = it.sink;
      queues = it.queues;
      edges = all.moves.edges_keep;
      notes = keeps-more notes mid notes_now top.stays.keeps all.moves.notes_keep;
      sizes = omega (arith, all.moves.sizes, top.stays.size, c.requires.none);
      edges_peak = all.moves.edges_peak;
      notes_peak = omega (arith, all.moves.notes_peak, top.stays.peak, top.stays.size, c.requires.none);
    }
