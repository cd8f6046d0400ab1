use Rattle.std.proofs.Common.{◌≡◌, None, sym, ap, subst, ◌∙◌}
use Rattle.std.proofs.lemmas.List.{get_or_read}
use Rattle.std.specs.Prelude.{if◌then◌else◌}
use Rattle.std.specs.Ordering.{is_lt}
use Rattle.ppq_tree.specs.Tree.{ahead, HasItem}
use Rattle.ppq_tree.proofs.Carried.{duel_item}
use Rattle.ppq_tree.proofs.climb.duel.Goals as goal

pub returns-clause-item : goal.returns-clause-item
returns-clause-item g c =
    let items = c.args.items.now in
    let cmp = g.R.Ord.cmp in
    let y = c.in-Some.other in
    let x = c.args.item in
    let rival = c.args.rival in
    let best = c.args.best in
    let there : HasItem items rival y = sym (get_or_read items rival c.index-items-rival.result c.requires.rival c.index-items-rival.is None) ∙ c.in-Some.is in
    let leaf : c.either.result ≡ (if ahead cmp (y, rival) (x, best) then rival else best) = c.either.ensures ∙ ap (λ v. if v then rival else best) c.is_ahead-wins.ensures in
    let item : c.either-2.result ≡ (if is_lt (cmp y x) then y else x) = c.either-2.ensures ∙ ap (λ v. if v then y else x) c.is_less-is_less.ensures in
    subst (λ n. HasItem items n c.either-2.result) (sym leaf) (subst (HasItem items (if ahead cmp (y, rival) (x, best) then rival else best)) (sym item)
    (duel_item cmp c.record_laws.ensures.order c.record_laws.ensures.same items best rival x y c.requires.item there))
