-- Passes that are filled on threads of their own: each may go to another thread, and keeps its key.
use denote.Param.Send.{sendable}
use Rattle.std.proofs.Common.{◌≡◌, ◌∙◌, ℕ, suc, ◌<◌, List, [], ◌∷◌, length, map, get_or, refl, sym, ap, ap₂, arith}
use Rattle.ppq_session.proofs.ppq_record.pair.Pair.TheSendSync as pair
use Rattle.ppq_session.proofs.ppq_pass.Sends.{pass_sends}
use Rattle.ppq_bench.proofs.sessions.fill_all.Goals as goal

-- lists that have the same at each place have the same images
same_images :
    {X Y : Type 0} (f : X → Y) (olds news : List X) → length news ≡ length olds → ((i : ℕ) (d : X) → i < length olds → f (get_or news i d) ≡ f (get_or olds i d)) → map f news ≡ map f olds
same_images f [] [] e h = refl
same_images f [] (n ∷ news) e h = absurd (omega arith)
same_images f (o ∷ olds) [] e h = absurd (omega arith)
same_images f (o ∷ olds) (n ∷ news) e h = ap₂ (λ y ys. y ∷ ys) (h 0 o (omega arith)) (same_images f olds news (omega arith) (λ i d l. h (suc i) d (omega arith)))

pub for_each_mut-requires-send-T : goal.for_each_mut-requires-send-T
for_each_mut-requires-send-T g c κs h = let b = c.type_bounds in search (sendable, pass_sends, pair.the_send, pair.the_sync) depth 20

pub returns : goal.returns
returns g c =
    same_images (λ p. p.key) c.args.passes.now c.for_each_mut.new.s c.for_each_mut.auto.s
    (λ i d l.
    let at = (c.for_each_mut.ensures i d l).1 in
    sym (ap (λ p. p.key) at.left) ∙ at.call ∙ ap (λ p. p.key) at.argument_is)
