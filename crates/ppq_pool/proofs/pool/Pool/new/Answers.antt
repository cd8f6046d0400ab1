use Rattle.std.proofs.Common.{◌≡◌, ℕ, List, All, length, get_or, replicate, ◌+◌, sym, ap, ◌∙◌, arith, subst}
use lib.ListN.{length-replicate}
use Rattle.atomic_table.specs.Table.{opening}
use Rattle.ppq_table.specs.Places.{IsLaid}
use Rattle.ppq_pool.specs.Hands.{first_hand, common_shape}
use Rattle.ppq_pool.specs.Rule.{PoolRule}
use Rattle.ppq_pool.proofs.Ends.{starts, zero_at, all_common}
use Rattle.ppq_pool.proofs.pool.Pool.new.Goals as goal

pub new-requires : goal.new-requires
new-requires g c = let X : Type 0 = g.row.T.Denot in let xs : List X = c.args.items.items in let n : ℕ = c.len.result + 1 in let f = g.T.Shaped.shape_of in let ws : List ℕ = c.as_slice.result.now in
    let zero : ws ≡ replicate n 0 = c.as_slice.ensures.value ∙ c.in-Ok.ensures.items_if_clones_equal (λ y e. e) in
    subst (λ (l : List X). PoolRule f (common_shape f l) (opening ws c.in-Ok-lay.places.items (first_hand (common_shape f l) l))) (ap (λ v. v.items) (sym c.of-known.ensures))
    (starts f c.requires.one_shape.0 xs ws c.in-Ok-lay.places.items (omega (arith, c.requires.few, c.args.items.ok)) c.requires.one_shape.1
    (ap length zero ∙ length-replicate n 0 ∙ (let e : n ≡ length xs + 1 = omega (arith, c.len.ensures, c.args.items.ok) in e)) (λ k. ap (λ (l : List ℕ). get_or l k 0) zero ∙ zero_at n k) c.in-Ok-lay.ensures.laid)

pub returns-in-Ok-new-clause-shape : goal.returns-in-Ok-new-clause-shape
returns-in-Ok-new-clause-shape g c = let xs : List g.row.T.Denot = c.args.items.items in let f = g.T.Shaped.shape_of in
    subst (λ (k : ℕ). All (λ x. f x ≡ k) xs) (ap (λ v. common_shape f v.items) (sym c.of-known.ensures) ∙ sym (ap (λ m. m.0.shape) c.in-Ok-new.ensures.ok.4)) (all_common f c.requires.one_shape.0 xs c.requires.one_shape.1)

pub unlay-requires : goal.unlay-requires
unlay-requires g c = (c.args.items.items, subst (IsLaid c.args.items.items) (sym c.in-Err-new.ensures.err) c.in-Ok-lay.ensures.laid)

pub returns-clause-unchanged : goal.returns-clause-unchanged
returns-clause-unchanged g c = c.unlay.ensures c.args.items.items (subst (IsLaid c.args.items.items) (sym c.in-Err-new.ensures.err) c.in-Ok-lay.ensures.laid)
