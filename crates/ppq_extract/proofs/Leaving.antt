-- The records that are left after the first of them.
use Rattle.std.proofs.Common.{◌≡◌, ℕ, ◌+◌, ◌-◌, ◌<◌, ◌≤◌, List, take, drop, sym, ap, ◌∙◌, arith}
use Rattle.std.proofs.lemmas.List.{drop-drop, drop-take}

pub skipped : {X : Type 0} (n from to : ℕ) (xs : List X) → from + n ≤ to → take (to - (from + n)) (drop (from + n) xs) ≡ drop n (take (to - from) (drop from xs))
skipped n from to xs h =
    let m = to - (from + n) in
    let width : n + m ≡ to - from = omega arith in
    ap (take m) (sym (drop-drop n from xs)) ∙ (sym (drop-take n m (drop from xs)) ∙ ap (λ k. drop n (take k (drop from xs))) width)

pub popped : {X : Type 0} (from to : ℕ) (xs : List X) → from < to → take (to - (from + 1)) (drop (from + 1) xs) ≡ drop 1 (take (to - from) (drop from xs))
popped from to xs h = skipped 1 from to xs (omega arith)
