use Rattle.std.proofs.Common.{◌≡◌, ◌+◌, length, sym, subst, rules}
use Rattle.std.specs.Prelude.{All}
use Rattle.std.proofs.lemmas.List.Elements.{All-push}
use Rattle.ppq_merge.specs.Seat.{IsSized}
use Rattle.ppq_merge.proofs.bench.seats_for.Goals as goal

pub loop-worker-preserved : goal.loop-worker-preserved
loop-worker-preserved g c =
    let i = c.loop-worker.invariant in
    let long : length c.push.new.self.items ≡ c.loop-worker._worker + 1 = search rules in
    (long, subst (All (IsSized c.args.runs)) (sym c.in_ok-push.ensures.items) (All-push (IsSized c.args.runs) c.loop-worker.seats.items c.in_ok-seat.seat i.1 c.in_ok-seat.ensures))
