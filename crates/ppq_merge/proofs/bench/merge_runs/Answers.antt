use Rattle.std.proofs.Common.{sym, subst, arith, rules}
use Rattle.std.proofs.lemmas.Grind.{common_steps}
use Rattle.std.specs.Prelude.{All}
use Rattle.ppq_merge.specs.Seat.{IsSized}
use Rattle.ppq_merge.proofs.Seats.{first_seats, sized_front, sized_set}
use Rattle.ppq_merge.proofs.bench.merge_runs.Goals.{then-active-gt1+else-merge_cut, else-active-gt1}
use Rattle.ppq_merge.proofs.bench.merge_runs.Goals as goal

pub slice_bounds-crew-end : goal.slice_bounds-crew-end
slice_bounds-crew-end g c = omega arith

pub merge_cut-requires-clause-workers : goal.merge_cut-requires-clause-workers
merge_cut-requires-clause-workers g c κs within = grind (arith, common_steps)

pub merge_cut-requires-clause-seats : goal.merge_cut-requires-clause-seats
merge_cut-requires-clause-seats g c κs within = first_seats c.args.leaves c.active_workers-active.result (g.Q.Listing.lists c.args.team.now.runs.now) c.args.seats.now (omega arith) (omega arith) c.requires.seats

pub merge_cut-requires-clause-records : goal.merge_cut-requires-clause-records
merge_cut-requires-clause-records g c = assumption

pub merge_cut-requires-clause-zeros : goal.merge_cut-requires-clause-zeros
merge_cut-requires-clause-zeros g c = assumption

pub returns-then-merge_cut-clause-sized : goal.returns-then-merge_cut-clause-sized
returns-then-merge_cut-clause-sized g c = sized_front c.args.leaves c.active_workers-active.result c.merge_cut.new.seats c.args.seats.now c.merge_cut.ensures.sized c.requires.seats.sized

pub returns-then-merge_cut-clause-merged : goal.returns-then-merge_cut-clause-merged
returns-then-merge_cut-clause-merged g c = grind arith

pub merge_alone-requires-clause-places : goal.merge_alone-requires-clause-places
merge_alone-requires-clause-places g c κs within = grind (arith, common_steps)

pub merge_alone-requires-clause-room : goal.merge_alone-requires-clause-room
merge_alone-requires-clause-room g c κs within = grind (arith, common_steps)

pub merge_alone-requires-clause-count : goal.merge_alone-requires-clause-count
merge_alone-requires-clause-count g c κs within = omega arith

pub returns-clause-merged : goal.returns-clause-merged
returns-clause-merged g c = grind arith

pub returns-clause-sized : goal.returns-clause-sized
returns-clause-sized g c =
    let n = c.args.leaves in
    let all : All (IsSized n) c.if-active-gt1.seats =
    elim c.if-active-gt1.branch as (λ _. All (IsSized n) c.if-active-gt1.seats) [
      | then-active-gt1+else-merge_cut w ↦ subst (All (IsSized n)) (sym w.seats-is) (sized_front n c.active_workers-active.result w.merge_cut.new.seats c.args.seats.now w.merge_cut.ensures.sized c.requires.seats.sized)
      | else-active-gt1 w ↦ subst (All (IsSized n)) (sym w.seats-is) c.requires.seats.sized
    ] in
    sized_set n c.if-active-gt1.seats 0 c.index-seats-0.result c.merge_alone.new.seat (search rules) c.merge_alone.ensures.kept all
