use Rattle.std.proofs.Common.{◌≡◌, ◌≤◌, ◌+◌, ◌*◌, ◌/◌, ◌<◌, length, get_or, ap, subst, ◌∙◌, rules}
use Rattle.std.proofs.Math.Nat.{mul-div_cancel}
use Rattle.ppq_merge.specs.Plan.{GetsPiece, StandsAt}
use Rattle.ppq_merge.proofs.Planned.{planned_none, planned_more, planned_all, rank_rises}
use Rattle.ppq_merge.proofs.Seats.{has_room, sized_set}
use Rattle.ppq_merge.proofs.plan.plan_cuts.Goals as goal

pub loop-worker-init : goal.loop-worker-init
loop-worker-init g c =
    let none : 0 ≡ c.args.count * 0 / length c.args.seats.now = search rules in
    record {
      sized = c.requires.seats.sized;
      planned = planned_none g.R.Ord.cmp (g.Q.Listing.lists c.args.runs.now) c.args.carry.now _ c.requires.zeros none;
    }

pub loop-worker-preserved : goal.loop-worker-preserved
loop-worker-preserved g c =
    let qs = g.Q.Listing.lists c.args.runs.now in
    let i = c.loop-worker.invariant in
    let e = c.plan_seat-rises.ensures in
    let n = c.args.leaves in
    let ss = c.loop-worker.seats in
    let k = c.loop-worker.worker in
    let d = c.index-seats-worker.result in
    let s = c.plan_seat-rises.new.seat in
    let m = c.loop-worker.carry in
    let ts = c.plan_seat-rises.new.carry in
    let t = c.args.count * (k + 1) / length c.args.seats.now in
    let here : k < length ss = search rules in
    let room = has_room n qs (get_or ss k d) c.requires.seats.enough (i.sized k d here) in
    let got : GetsPiece qs m ts t (get_or ss k d) s = subst (λ x. GetsPiece qs m ts x (get_or ss k d) s) c.rank_of-rank.ensures.rank e.piece in
    let at : StandsAt g.R.Ord.cmp qs t ts = subst (λ x. StandsAt g.R.Ord.cmp qs x ts) c.rank_of-rank.ensures.rank e.cut in
    record {
      sized = sized_set n ss k d s here e.piece.kept i.sized;
      planned = planned_more g.R.Ord.cmp qs c.args.carry.now ss k d s m ts _ t c.loop-worker.ok c.plan_seat-rises.result here
          (rank_rises c.args.count k (length c.args.seats.now) c.requires.seats.some) room i.planned got at e.rises e.stays;
    }

pub returns : goal.returns
returns g c =
    let i = c.loop-worker.invariant in
    let at : c.loop-worker.worker ≡ length c.args.seats.now = search rules in
    let all : length c.loop-worker.seats ≤ c.loop-worker.worker = search rules in
    let whole : c.args.count * c.loop-worker.worker / length c.args.seats.now ≡ c.args.count =
    ap (λ x. c.args.count * x / length c.args.seats.now) at ∙ mul-div_cancel c.args.count c.requires.seats.some in
    record {
      sized = i.sized;
      planned = planned_all g.R.Ord.cmp (g.Q.Listing.lists c.args.runs.now) c.args.carry.now c.loop-worker.seats c.loop-worker.worker _ c.args.count c.loop-worker.carry c.loop-worker.ok all whole i.planned;
    }
