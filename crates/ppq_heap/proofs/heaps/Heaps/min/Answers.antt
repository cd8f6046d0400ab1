use Rattle.std.proofs.Common.{◌≡◌, Some, None, refl, sym, ap, ◌∙◌}
use Rattle.ppq_tree.specs.ppq_record.Order.{is_before}
use Rattle.ppq_tree.specs.ppq_record.Bag.{least}
use Rattle.ppq_tree.proofs.ppq_record.Fronts.{ranks, no_tie}
use Rattle.ppq_heap.specs.Heaps.{items_of}
use Rattle.ppq_heap.proofs.Heap.{least_of_none}
use Rattle.ppq_heap.proofs.Shares.{no_winner, winner_least}
use Rattle.ppq_heap.proofs.heaps.Heaps.min.Goals as goal

pub returns-in-None-clause-value : goal.returns-in-None-clause-value
returns-in-None-clause-value g c =
    let laws = c.record_laws.ensures in
    let empty = no_winner g.R.Ord.cmp (ranks laws.order) (no_tie laws.order laws.same) c.self.inside.heaps.items c.self.inside.tree.items c.self.invariant.1 (c.in-None.ensures.none.0 refl) in
    least_of_none (is_before g.R.Ord.cmp) (items_of c.args.self.now) (ap items_of (sym c.self.view_is) ∙ empty)

pub returns-in-None-clause-none : goal.returns-in-None-clause-none
returns-in-None-clause-none g c =
    let laws = c.record_laws.ensures in
    let empty = no_winner g.R.Ord.cmp (ranks laws.order) (no_tie laws.order laws.same) c.self.inside.heaps.items c.self.inside.tree.items c.self.invariant.1 (c.in-None.ensures.none.0 refl) in
    (λ _. ap items_of (sym c.self.view_is) ∙ empty, λ _. refl)

pub returns-in-Some-clause-value : goal.returns-in-Some-clause-value
returns-in-Some-clause-value g c =
    let laws = c.record_laws.ensures in
    let won = c.in-Some.won in
    winner_least g.R.Ord.cmp (ranks laws.order) (no_tie laws.order laws.same) c.self.inside.heaps.items c.self.inside.tree.items won.0 won.1 c.self.invariant.1 c.in-Some.ensures.leaf c.in-Some.ensures.some
    ∙ ap (λ s. least g.R.Ord.cmp (items_of s)) c.self.view_is

pub returns-in-Some-clause-none : goal.returns-in-Some-clause-none
returns-in-Some-clause-none g c =
    let laws = c.record_laws.ensures in
    let won = c.in-Some.won in
    let value : Some won.1 ≡ least g.R.Ord.cmp (items_of c.args.self.now) =
    winner_least g.R.Ord.cmp (ranks laws.order) (no_tie laws.order laws.same) c.self.inside.heaps.items c.self.inside.tree.items won.0 won.1 c.self.invariant.1 c.in-Some.ensures.leaf c.in-Some.ensures.some
    ∙ ap (λ s. least g.R.Ord.cmp (items_of s)) c.self.view_is in
    (λ e. absurd (cc), λ e. let none : None ≡ least g.R.Ord.cmp (items_of c.args.self.now) = least_of_none (is_before g.R.Ord.cmp) (items_of c.args.self.now) e in absurd (cc))
