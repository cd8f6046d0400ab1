-- The sweep on open queues, by where it ended.
use Rattle.std.proofs.Common.{◌≡◌, ℕ, Option, Some, None, refl, ◌∙◌, ap, subst, arith}
use Rattle.std.specs.Prelude.{Result, Ok}
use Rattle.ppq_event.proofs.ppq_queue.Flushed.{keeps-more}
use Rattle.ppq_engine.specs.ppq_files.Reading.{CountsBy}
use Rattle.ppq_engine.specs.ppq_load.Loading.{LoadCountsFrom}
use Rattle.ppq_engine.specs.ppq_load.declared.fault.LoadFault.{LoadFault}
use Rattle.ppq_jobs.specs.Edges.{wanted_of}
use Rattle.ppq_jobs.specs.Loading.{LoadsEdges}
use Rattle.ppq_jobs.proofs.GraphSays.{bad_ends, unloaded_ends, done_ends, swept_ends, sink_later}
use Rattle.ppq_jobs.proofs.sweep.sweep_opened.Goals as goal

-- a load that names no record
names_none : (loaded : Result (Option ℕ) LoadFault) (bad : Option ℕ) → loaded ≡ Ok bad → ((at : ℕ) → bad ≡ Some at → ⊥) → loaded ≡ Ok None
names_none loaded None is not = is
names_none loaded (Some at) is not = absurd (not at refl)

pub returns-in-Some-clause-ends : goal.returns-in-Some-clause-ends
returns-in-Some-clause-ends g c =
    let told = g.L.Library.told c.args.library.now in
    let replied = g.L.Library.replied c.load_edges-edges.new.library in
    let wanted = wanted_of c.args.graph.now in
    let e = c.load_edges-edges.ensures in
    let new = c.load_edges-edges.result.0 in
    let before = g.L.Library.faults c.args.library.now in
    let after = g.L.Library.faults c.load_edges-edges.new.library in
    let is : c.load_edges-edges.result.1 ≡ Ok (Some c.in-Some.at) = c.in-Ok.is ∙ ap (λ (b : Option ℕ). Ok b) c.in-Some.is in
    bad_ends told replied wanted c.args.edges c.args.notes c.requires.edges new (g.O.Sink.told c.args.out.now) (g.O.Sink.faults c.args.out.now) before after c.in-Some.at
    (subst (LoadsEdges told replied wanted c.args.edges new) is e.loads) (subst (CountsBy LoadCountsFrom before after) is e.counts).stays

pub returns-in-Err-clause-ends : goal.returns-in-Err-clause-ends
returns-in-Err-clause-ends g c =
    let told = g.L.Library.told c.args.library.now in
    let replied = g.L.Library.replied c.load_edges-edges.new.library in
    let wanted = wanted_of c.args.graph.now in
    let e = c.load_edges-edges.ensures in
    let new = c.load_edges-edges.result.0 in
    let before = g.L.Library.faults c.args.library.now in
    let after = g.L.Library.faults c.load_edges-edges.new.library in
    unloaded_ends told replied wanted c.args.edges c.args.notes c.requires.edges new (g.O.Sink.told c.args.out.now) (g.O.Sink.faults c.args.out.now) before after c.in-Err.fault c.unloaded.result c.unloaded.ensures
    (subst (LoadsEdges told replied wanted c.args.edges new) c.in-Err.is e.loads) (subst (CountsBy LoadCountsFrom before after) c.in-Err.is e.counts).cause

pub returns-in-Ok-levels-clause-ends : goal.returns-in-Ok-levels-clause-ends
returns-in-Ok-levels-clause-ends g c =
    let told = g.L.Library.told c.args.library.now in
    let replied = g.L.Library.replied c.load_edges-edges.new.library in
    let wanted = wanted_of c.args.graph.now in
    let e = c.load_edges-edges.ensures in
    let mid = c.load_edges-edges.result.0 in
    let before = g.L.Library.faults c.args.library.now in
    let after = g.L.Library.faults c.load_edges-edges.new.library in
    let s = c.levels.ensures in
    let is = names_none c.load_edges-edges.result.1 c.in-Ok.bad c.in-Ok.is c.in_default.not-Some in
    done_ends told replied wanted c.args.edges c.args.notes c.requires.edges mid (subst (LoadsEdges told replied wanted c.args.edges mid) is e.loads) e.kept (omega (arith, c.known.ensures.range.two_records)) c.requires.notes c.requires.sizes c.levels.new.edges
    c.levels.new.notes s.edges s.notes s.edges_peak s.notes_peak (g.O.Sink.told c.args.out.now) (g.O.Sink.told c.levels.new.out) (g.O.Sink.faults c.args.out.now) (g.O.Sink.faults c.levels.new.out) before after (subst (CountsBy LoadCountsFrom before after) is e.counts).stays
    c.levels.result tt c.in-Ok-levels.is s.done s.queues s.sink

pub returns-in-Ok-levels-clause-edges_slots : goal.returns-in-Ok-levels-clause-edges_slots
returns-in-Ok-levels-clause-edges_slots g c = (keeps-more c.args.edges c.load_edges-edges.result.0 c.levels.new.edges c.load_edges-edges.ensures.kept c.levels.ensures.edges).slots

pub returns-in-Err-levels-clause-ends : goal.returns-in-Err-levels-clause-ends
returns-in-Err-levels-clause-ends g c =
    let told = g.L.Library.told c.args.library.now in
    let replied = g.L.Library.replied c.load_edges-edges.new.library in
    let wanted = wanted_of c.args.graph.now in
    let e = c.load_edges-edges.ensures in
    let mid = c.load_edges-edges.result.0 in
    let before = g.L.Library.faults c.args.library.now in
    let after = g.L.Library.faults c.load_edges-edges.new.library in
    let s = c.levels.ensures in
    let is = names_none c.load_edges-edges.result.1 c.in-Ok.bad c.in-Ok.is c.in_default.not-Some in
    swept_ends told replied wanted c.args.edges c.args.notes c.requires.edges mid (subst (LoadsEdges told replied wanted c.args.edges mid) is e.loads) e.kept (omega (arith, c.known.ensures.range.two_records)) c.requires.notes c.requires.sizes c.levels.new.edges
    c.levels.new.notes s.edges s.notes s.edges_peak s.notes_peak (g.O.Sink.told c.args.out.now) (g.O.Sink.told c.levels.new.out) (g.O.Sink.faults c.args.out.now) (g.O.Sink.faults c.levels.new.out) before after (subst (CountsBy LoadCountsFrom before after) is e.counts).stays
    c.levels.result c.in-Err-levels.fault c.swept.result c.in-Err-levels.is c.swept.ensures s.part s.queues s.sink

pub returns-in-Err-levels-clause-edges_slots : goal.returns-in-Err-levels-clause-edges_slots
returns-in-Err-levels-clause-edges_slots g c = (keeps-more c.args.edges c.load_edges-edges.result.0 c.levels.new.edges c.load_edges-edges.ensures.kept c.levels.ensures.edges).slots

pub returns-in-Ok-levels-clause-later : goal.returns-in-Ok-levels-clause-later
returns-in-Ok-levels-clause-later g c = sink_later (g.O.Sink.faults c.args.out.now) (g.O.Sink.faults c.levels.new.out) c.levels.result (omega (arith, c.faults-faults.ensures, c.faults-faults.type_inv)) c.levels.ensures.sink

pub returns-in-Err-levels-clause-later : goal.returns-in-Err-levels-clause-later
returns-in-Err-levels-clause-later g c = sink_later (g.O.Sink.faults c.args.out.now) (g.O.Sink.faults c.levels.new.out) c.levels.result (omega (arith, c.faults-faults.ensures, c.faults-faults.type_inv)) c.levels.ensures.sink
