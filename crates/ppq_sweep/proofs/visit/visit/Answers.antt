use Rattle.ppq_sweep.proofs.Served.{moves_more, moves_notes}
use Rattle.ppq_sweep.proofs.visit.visit.Goals as goal

pub returns-in-Ok-tell-clause-moves : goal.returns-in-Ok-tell-clause-moves
returns-in-Ok-tell-clause-moves g c =
    let edges = c.args.edges.now in
    let notes = c.args.notes.now in
    let mid = c.hear.new.notes in
    moves_more edges edges c.tell.new.edges notes mid c.tell.new.notes (moves_notes edges notes mid c.hear.ensures.takes) c.tell.ensures.moves

pub returns-in-Err-tell-clause-moves : goal.returns-in-Err-tell-clause-moves
returns-in-Err-tell-clause-moves g c =
    let edges = c.args.edges.now in
    let notes = c.args.notes.now in
    let mid = c.hear.new.notes in
    moves_more edges edges c.tell.new.edges notes mid c.tell.new.notes (moves_notes edges notes mid c.hear.ensures.takes) c.tell.ensures.moves
