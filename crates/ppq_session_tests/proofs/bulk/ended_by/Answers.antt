use Rattle.std.proofs.Common.{◌≡◌, ◌++◌, length, take, drop, sym, ap, ◌∙◌, subst, arith}
use Rattle.std.proofs.lemmas.List.{take-append-le, take_all}
use Rattle.ppq_session.specs.BulkSession.{AreOf, keys_of}
use Rattle.ppq_session_tests.proofs.bulk.ended_by.Goals as goal

-- the passes that were lent are back in their places
pub bulk_end-queue-requires-clause-of : goal.bulk_end-queue-requires-clause-of
bulk_end-queue-requires-clause-of g c κs within =
    let items = c.in-Ok.begun.2.items in
    let news = c.add-done.new.passes in
    let count = c.in-Ok.begun.2.len in
    let same : count ≡ length news = sym c.as_mut_slice.ensures.len ∙ sym c.add-done.auto.passes in
    let back : take count (news ++ drop (length news) items) ≡ news =
    ap (λ n. take n (news ++ drop (length news) items)) same ∙ (take-append-le (length news) news (drop (length news) items) (omega arith) ∙ take_all (length news) news (omega arith)) in
    let keys : keys_of news ≡ keys_of items = c.add-done.ensures ∙ ap keys_of c.as_mut_slice.ensures.value in
    subst (AreOf c.in-Ok.begun.0) (sym (ap keys_of back ∙ keys)) c.in-Ok.ensures.begun.of
