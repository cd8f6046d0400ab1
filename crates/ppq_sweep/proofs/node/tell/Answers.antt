use Rattle.std.proofs.Common.{◌∙◌, ◌+◌, ◌≤◌, ◌<◌, refl, subst, arith}
use Rattle.std.specs.Prelude.{IsSome}
use Rattle.ppq_sweep.specs.Notes.{TookUpTo}
use Rattle.ppq_sweep.proofs.Served.{moves_none, moves_more, moves_edges, moves_one, refusal_size}
use Rattle.ppq_sweep.proofs.Turning.{tells-begin, tells-next, tells-end}
use Rattle.ppq_sweep.proofs.node.tell.Goals as goal

pub telling-init : goal.telling-init
telling-init g c = record {
  moves = moves_none c.args.edges.now c.args.notes.now;
  sound = c.requires.sound;
  edges_quiet = refl;
  notes_quiet = refl;
  told = λ tell also. tells-begin c.args.node c.args.level c.args.edges.now.bag c.args.notes.now.bag;
}

pub telling-preserved : goal.telling-preserved
telling-preserved g c =
    let it = c.telling.invariant in
    let one = c.in_ok-edge.ensures in
    let added = c.in_default-push.ensures.added in
    let edges = c.args.edges.now in
    let edges_mid = c.telling.edges in
    let edges_now = c.take_up_to.new.queue in
    let notes = c.args.notes.now in
    let notes_mid = c.telling.notes in
    let notes_now = c.push.new.self in
    let fewer : edges_now.size < edges_mid.size = subst (λ o. IsSome o → edges_now.size < edges_mid.size) c.in-Some.is one.fewer refl in
    let size : notes_now.size ≤ notes_mid.size + 1 = omega (arith, added.size) in
    record {
      moves = moves_more edges edges_mid edges_now notes notes_mid notes_now it.moves (moves_one edges_mid edges_now notes_mid notes_now one.takes fewer c.push.ensures.keeps size (c.push.ensures.peak it.sound));
      sound = added.sound;
      edges_quiet = one.sound.quiet ∙ it.edges_quiet;
      notes_quiet = added.quiet ∙ it.notes_quiet;
      told = λ tell also.
          tells-next c.args.node c.args.level edges.bag edges_mid.bag edges_now.bag notes.bag notes_mid.bag notes_now.bag c.in-Some.edge (it.told tell also)
          (subst (TookUpTo c.args.node edges_mid.bag edges_now.bag) c.in-Some.is (one.taken (it.moves.edges_keep.tells tell))) (added.bag (it.moves.notes_keep.tells also));
    }

pub returns-in_err-edge-clause-moves : goal.returns-in_err-edge-clause-moves
returns-in_err-edge-clause-moves g c =
    let mid = c.telling.edges in
    let new = c.take_up_to.new.queue in
    let notes = c.telling.notes in
    moves_more c.args.edges.now mid new c.args.notes.now notes notes c.telling.invariant.moves (moves_edges mid new notes c.in_err-edge.ensures.takes)

pub returns-in_default-clause-moves : goal.returns-in_default-clause-moves
returns-in_default-clause-moves g c =
    let mid = c.telling.edges in
    let new = c.take_up_to.new.queue in
    let notes = c.telling.notes in
    moves_more c.args.edges.now mid new c.args.notes.now notes notes c.telling.invariant.moves (moves_edges mid new notes c.in_ok-edge.ensures.takes)

pub returns-in_default-clause-told : goal.returns-in_default-clause-told
returns-in_default-clause-told g c tell also =
    let it = c.telling.invariant in
    let mid = c.telling.edges.bag in
    let new = c.take_up_to.new.queue.bag in
    tells-end c.args.node c.args.level c.args.edges.now.bag mid new c.args.notes.now.bag c.telling.notes.bag (it.told tell also)
    (subst (TookUpTo c.args.node mid new) c.in_default.is (c.in_ok-edge.ensures.taken (it.moves.edges_keep.tells tell)))

pub returns-in-Err-clause-moves : goal.returns-in-Err-clause-moves
returns-in-Err-clause-moves g c =
    let it = c.telling.invariant in
    let one = c.in_ok-edge.ensures in
    let mid = c.telling.edges in
    let new = c.take_up_to.new.queue in
    let notes = c.telling.notes in
    let full = c.push.new.self in
    let fewer : new.size < mid.size = subst (λ o. IsSome o → new.size < mid.size) c.in-Some.is one.fewer refl in
    let size : full.size ≤ notes.size + 1 = omega (arith, refusal_size notes full c.in-Err.fault c.in-Err.ensures.refused) in
    moves_more c.args.edges.now mid new c.args.notes.now notes full it.moves (moves_one mid new notes full one.takes fewer c.push.ensures.keeps size (c.push.ensures.peak it.sound))
