-- The passes that were lent to the threads are back in their places, so the session can be ended with them.
use Rattle.std.proofs.Common.{◌≡◌, ◌++◌, length, take, drop, sym, ap, ◌∙◌, subst, arith}
use Rattle.std.proofs.lemmas.List.{take-append-le, take_all}
use Rattle.ppq_session.specs.BulkSession.{AreOf, keys_of}
use Rattle.ppq_bench.proofs.sessions.push_by_threads.Goals as goal

pub bulk_end-queue-requires-clause-of : goal.bulk_end-queue-requires-clause-of
bulk_end-queue-requires-clause-of g c κs within =
    let items = c.in-Ok.begun.2.items in
    let news = c.fill_all.new.passes in
    let count = c.in-Ok.begun.2.len in
    let same : count ≡ length news = sym c.as_mut_slice.ensures.len ∙ sym c.fill_all.auto.passes in
    let back : take count (news ++ drop (length news) items) ≡ news =
    ap (λ n. take n (news ++ drop (length news) items)) same ∙ (take-append-le (length news) news (drop (length news) items) (omega arith) ∙ take_all (length news) news (omega arith)) in
    let keys : keys_of news ≡ keys_of items = c.fill_all.ensures ∙ ap keys_of c.as_mut_slice.ensures.value in
    subst (AreOf c.in-Ok.begun.0) (sym (ap keys_of back ∙ keys)) c.in-Ok.ensures.begun.of
