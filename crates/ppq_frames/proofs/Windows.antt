-- The bytes between two places of a list.
use Rattle.std.proofs.Common.{◌≡◌, ◌≤◌, ◌+◌, ◌-◌, ◌++◌, ℕ, List, length, take, drop, sym, ap, ap₂, ◌∙◌, arith, length-drop, length-take-le, take-add, Result, Ok, Err, OnErr}
use Rattle.std.proofs.lemmas.List.{drop-drop, drop-take, length-take, length-append, take_at, drop_at, take-append-le, drop-append-le}

window-as : (from to : ℕ) (xs : List ℕ) → from ≤ to → drop from (take to xs) ≡ take (to - from) (drop from xs)
window-as from to xs order = ap (λ (k : ℕ). drop from (take k xs)) (omega (arith, order)) ∙ drop-take from (to - from) xs

-- the first bytes are left out
pub window-behind : (from to n : ℕ) (xs : List ℕ) → n ≤ to - from → take (to - (from + n)) (drop (from + n) xs) ≡ drop n (take (to - from) (drop from xs))
window-behind from to n xs h =
    let m = to - (from + n) in
    let whole : to - from ≡ n + m = omega (arith, h) in
    sym (ap (λ (k : ℕ). drop n (take k (drop from xs))) whole ∙ drop-take n m (drop from xs) ∙ ap (take m) (drop-drop n from xs))

pub window-length : (from to : ℕ) (xs : List ℕ) → to ≤ length xs → length (take (to - from) (drop from xs)) ≡ to - from
window-length from to xs within = omega (arith, length-take (to - from) (drop from xs), length-drop from xs, within)

-- what stands behind them does not count
pub window-kept : (from to : ℕ) (xs rest : List ℕ) → from ≤ to → to ≤ length xs → take (to - from) (drop from (take to xs ++ rest)) ≡ take (to - from) (drop from xs)
window-kept from to xs rest order within =
    sym (window-as from to (take to xs ++ rest) order) ∙ ap (drop from) (take_at (take to xs) rest to (length-take-le to xs within)) ∙ window-as from to xs order

-- a piece is written behind them
pub window-grown :
    (from to count : ℕ) (xs piece rest : List ℕ) → from ≤ to → to ≤ length xs → count ≤ length piece
    → take (to + count - from) (drop from (take to xs ++ (piece ++ rest))) ≡ take (to - from) (drop from xs) ++ take count piece
window-grown from to count xs piece rest order within few =
    let head = take to xs in
    let all = head ++ (piece ++ rest) in
    let long : length head ≡ to = length-take-le to xs within in
    let part : take (to + count) all ≡ head ++ take count piece =
    take-add to count all ∙ ap₂ (λ (x y : List ℕ). x ++ y) (take_at head (piece ++ rest) to long) (ap (take count) (drop_at head (piece ++ rest) to long) ∙ take-append-le count piece rest few) in
    sym (window-as from (to + count) all (omega (arith, order))) ∙ ap (drop from) part ∙ drop-append-le from head (take count piece) (omega (arith, order, long))
    ∙ ap (λ (x : List ℕ). x ++ take count piece) (window-as from to xs order)

-- the part from a place on
pub part-length : (to : ℕ) (xs : List ℕ) → length (take (length xs - to) (drop to xs)) ≡ length xs - to
part-length to xs = omega (arith, length-take (length xs - to) (drop to xs), length-drop to xs)

-- a part that is written anew keeps the length
pub written-length :
    (to : ℕ) (xs ys : List ℕ) → to ≤ length xs → length ys ≡ length (take (length xs - to) (drop to xs))
    → length (take to xs ++ (ys ++ drop (length xs - to) (drop to xs))) ≡ length xs
written-length to xs ys within same =
    let rest = drop (length xs - to) (drop to xs) in
    omega (
      arith,
      length-append (take to xs) (ys ++ rest),
      length-append ys rest,
      length-take-le to xs within,
      same,
      part-length to xs,
      length-drop (length xs - to) (drop to xs),
      length-drop to xs,
    )

-- what holds anyway holds of an error
pub on_err : {T E P : Type 0} (r : Result T E) → P → OnErr r P
on_err (Ok x) p = tt
on_err (Err e) p = p
