use Rattle.std.proofs.Common.{◌≡◌, ◌++◌, All, length, take, drop, sym, ap, ◌∙◌, subst, arith}
use Rattle.std.proofs.lemmas.List.{take-append-le, take_all}
use Rattle.ppq_session.specs.ppq_pass.Passed.{IsOf}
use Rattle.ppq_session.specs.LimitSession.{front_key, shared_of}
use Rattle.ppq_session_tests.proofs.limited.in_session.Goals as goal

pub act-added-requires-clause-of : goal.act-added-requires-clause-of
act-added-requires-clause-of g c = λ κs bounds. subst (All (λ p. IsOf c.in-Ok.begun.1 p.pass)) (sym c.as_mut_slice.ensures.value) c.in-Ok.ensures.begun.passes_of

-- the passes that were lent are back in their places
pub limit_end-queue-requires-clause-of : goal.limit_end-queue-requires-clause-of
limit_end-queue-requires-clause-of g c κs within =
    let items = c.in-Ok.begun.2.items in
    let news = c.act-added.new.passes in
    let count = c.in-Ok.begun.2.len in
    let of = c.in-Ok.ensures.begun.of in
    let same : count ≡ length news = sym c.as_mut_slice.ensures.len ∙ sym c.act-added.auto.passes in
    let back : take count (news ++ drop (length news) items) ≡ news =
    ap (λ n. take n (news ++ drop (length news) items)) same ∙ (take-append-le (length news) news (drop (length news) items) (omega arith) ∙ take_all (length news) news (omega arith)) in
    let key = front_key c.in-Ok.begun.0 in
    let limit = c.in-Ok.begun.0.limit in
    let keys = c.act-added.ensures.keys key (subst (All (λ p. p.pass.key ≡ key)) (sym c.as_mut_slice.ensures.value) of.keys) in
    let limits = c.act-added.ensures.limits limit (subst (All (λ p. p.limit ≡ limit)) (sym c.as_mut_slice.ensures.value) of.limits) in
    record {
      count = ap length back ∙ c.act-added.auto.passes ∙ ap length c.as_mut_slice.ensures.value ∙ of.count ∙ sym (ap (λ f. f.sizes.workers) c.act-added.ensures.front);
      keys = subst (All (λ p. p.pass.key ≡ front_key c.act-added.new.front)) (sym back) (subst (λ k. All (λ p. p.pass.key ≡ k) news) (sym (ap (λ f. front_key f) c.act-added.ensures.front)) keys);
      limits = subst (All (λ p. p.limit ≡ c.act-added.new.front.limit)) (sym back) (subst (λ l. All (λ p. p.limit ≡ l) news) (sym (ap (λ f. f.limit) c.act-added.ensures.front)) limits);
    }

pub limit_end-queue-requires-clause-shared : goal.limit_end-queue-requires-clause-shared
limit_end-queue-requires-clause-shared g c κs within = c.in-Ok.ensures.begun.shared_is ∙ sym (ap (λ f. shared_of f) c.act-added.ensures.front)
