use Rattle.std.proofs.Common.{replicate, sym, ap, ◌∙◌, subst, arith}
use Rattle.ppq_heap.specs.Heaps.{empty_heap, items_in, AreShares, HasLeasts}
use Rattle.ppq_heap.proofs.Shares.{shares_of, shares-new, leasts-new, items-replicate}
use Rattle.ppq_heap.proofs.heaps.Heaps.new.Goals as goal

pub invariant_of-result : goal.invariant_of-result
invariant_of-result g c =
    let made = c.in_ok-heaps.ensures in
    let n = c.args.workers in
    let cap = c.args.cap in
    let leasts = leasts-new g.R.Ord.cmp n cap in (
      subst (λ hs. AreShares (shares_of hs)) (sym made) (shares-new n cap c.requires c.ranges.workers.fits c.ranges.cap.fits),
      subst (λ hs. HasLeasts g.R.Ord.cmp hs c.in_ok-tree.tree.items) (sym made) (subst (HasLeasts g.R.Ord.cmp (replicate n (empty_heap cap))) (sym c.in_ok-tree.ensures.items) leasts),
    )

pub returns-clause-empty : goal.returns-clause-empty
returns-clause-empty g c = ap items_in c.in_ok-heaps.ensures ∙ items-replicate c.args.workers c.args.cap

pub returns-in_err-heaps : goal.returns-in_err-heaps
returns-in_err-heaps g c = grind arith

pub returns-in_err-tree : goal.returns-in_err-tree
returns-in_err-tree g c = grind arith

pub returns-clause-heaps : goal.returns-clause-heaps
returns-clause-heaps g c = grind arith

pub returns-clause-cap : goal.returns-clause-cap
returns-clause-cap g c = grind arith
