use Rattle.std.proofs.Common.{◌≡◌, ◌+◌, ◌≤◌, length, sym, ap, subst, ◌∙◌, arith, length-append}
use Rattle.ppq_handler.specs.Agenda.{some_of, follow_ups}
use Rattle.ppq_event.specs.Waiting.{HasGrown, HasRefused}
use Rattle.ppq_event.proofs.Results.{ok_map, err_map}
use Rattle.ppq_event.proofs.Waited.{grown_more, refused_more}
use Rattle.ppq_event.proofs.push.push_follow_ups.Goals as goal

pub returns-clause-added : goal.returns-clause-added
returns-clause-added g c =
    let q = c.args.queue.now in
    let mid = c.push_some.new.queue in
    let new = c.push_some-2.new.queue in
    let o = c.in-Some.outcome in
    ok_map c.push_some-2.result (HasGrown mid new (some_of o.second)) (HasGrown q new (follow_ups c.args.answer))
    (λ k. subst (λ a. HasGrown q new (follow_ups a)) (sym c.in-Some.is) (grown_more q mid new (some_of o.first) (some_of o.second) c.in_ok-push_some.ensures.added k))
    c.push_some-2.ensures.added

pub returns-clause-refused : goal.returns-clause-refused
returns-clause-refused g c =
    let q = c.args.queue.now in
    let mid = c.push_some.new.queue in
    let new = c.push_some-2.new.queue in
    let o = c.in-Some.outcome in
    let h = c.in_ok-push_some.ensures.added in
    let all : length (follow_ups c.args.answer) ≡ length (some_of o.first) + length (some_of o.second) = ap (λ a. length (follow_ups a)) c.in-Some.is ∙ length-append (some_of o.first) (some_of o.second) in
    let most = mid.size + length (some_of o.second) in
    let top = q.size + length (follow_ups c.args.answer) in
    let low : mid.size ≤ top = omega (arith, h.size, all) in
    let high : most ≤ top = omega (arith, h.size, all) in
    err_map c.push_some-2.result (HasRefused mid new most) (HasRefused q new top) (λ fault k. refused_more q mid new (some_of o.first) most top fault h k low high) c.push_some-2.ensures.refused
