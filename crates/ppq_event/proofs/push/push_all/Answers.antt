use Rattle.std.proofs.Common.{◌+◌, ◌≤◌, length, take, get_or, None, sym, subst, arith}
use Rattle.std.specs.Prelude.{flat_map}
use Rattle.ppq_handler.specs.Agenda.{follow_ups}
use Rattle.ppq_event.specs.Waiting.{HasGrown, HasRefused}
use Rattle.ppq_event.proofs.Results.{if_err}
use Rattle.ppq_event.proofs.Listed.{first_more, within_all}
use Rattle.ppq_event.proofs.Waited.{grown_more, refused_more}
use Rattle.ppq_event.proofs.push.push_all.Goals as goal

pub returns-in_err-push_follow_ups-clause-refused : goal.returns-in_err-push_follow_ups-clause-refused
returns-in_err-push_follow_ups-clause-refused g c =
    let q = c.args.queue.now in
    let mid = c.pushing.queue in
    let new = c.push_follow_ups.new.queue in
    let xs = c.args.answers.now in
    let i = c.pushing.i in
    let fault = c.in_err-push_follow_ups.field-0.0 in
    let within = within_all follow_ups xs i None c.pushing-test.true in
    let most = mid.size + length (follow_ups (get_or xs i None)) in
    let top = q.size + length (flat_map follow_ups xs) in
    let low : mid.size ≤ top = omega (arith, c.pushing.invariant.size, within) in
    let high : most ≤ top = omega (arith, c.pushing.invariant.size, within) in
    if_err c.from_residual.result fault (HasRefused q new top) c.from_residual.ensures.1
    (refused_more q mid new (flat_map follow_ups (take i xs)) most top fault c.pushing.invariant c.in_err-push_follow_ups.ensures.refused low high)

pub pushing-preserved : goal.pushing-preserved
pushing-preserved g c =
    let q = c.args.queue.now in
    let mid = c.pushing.queue in
    let new = c.push_follow_ups.new.queue in
    let xs = c.args.answers.now in
    let i = c.pushing.i in
    subst (HasGrown q new) (sym (first_more follow_ups xs i None c.pushing-test.true))
    (grown_more q mid new (flat_map follow_ups (take i xs)) (follow_ups (get_or xs i None)) c.pushing.invariant c.in_ok-push_follow_ups.ensures.added)
