-- The smallest record of a queue of pairs is looked at, and taken if its key is at most v.
use Rattle.std.proofs.Common.{◌≡◌, ℕ, ◌+◌, ◌<◌, ◌≤◌, Bool, true, false, List, [], ◌∷◌, refl, sym, ap, subst, inl, inr, ◌∙◌, arith, Option, Some, None}
use Rattle.std.specs.Prelude.{count_by, take, nat_lt, IfSome, Result, Ok, Err, OnOk, IfOk}
use Rattle.std.specs.List.{AllByRecursion as Each}
use Rattle.std.specs.declared.cmp.Ordering.TheVariants.{Less}
use Rattle.std.specs.Ordering.{nat_cmp}
use Rattle.std.specs.Cmp.{IsTotalOrder, nat_cmp_is}
use Rattle.std.proofs.lemmas.Bool.{cases_Bool, ltb-true, ltb-false, le-ltb}
use Rattle.std.proofs.lemmas.Cmp.{nat_cmp_total, on_total, then_total}
use Rattle.ppq_queue.specs.ppq_heap.ppq_record.declared.pair.Pair.{Pair}
use Rattle.ppq_queue.specs.ppq_heap.ppq_record.Order.{is_before, Le, Rising}
use Rattle.ppq_queue.specs.ppq_heap.ppq_record.Pair.{pair_cmp, pair_same}
use Rattle.ppq_queue.specs.ppq_heap.ppq_record.Bag.{IsSameBag, first_of, least, ascending, front, without_front}
use Rattle.ppq_queue.proofs.ppq_heap.ppq_record.Order.{count_by-cons, count_by-append, in_order-same_bag, Rising-in_order, Each-weaker, Each-same_bag}
use Rattle.ppq_queue.proofs.ppq_heap.ppq_record.Fronts.{ranks, ascending-same_bag, front-parts}
use Rattle.ppq_queue.specs.Shown.{AllTell}
use Rattle.ppq_queue.specs.Holding.{Holding, Keeps, SameRecords, HasTaken}
use Rattle.ppq_queue.specs.ppq_array.declared.store_fault.StoreFault.{StoreFault as QueueFault}
use Rattle.ppq_sweep.specs.Notes.{TookUpTo}

pairs_total : IsTotalOrder pair_cmp
pairs_total = then_total (on_total (λ (p : Pair). p.key) nat_cmp_total) (on_total (λ (p : Pair). p.value) nat_cmp_total)

-- a pair that is not before another one has no smaller key
key_not_below : (r x : Pair) → Le (is_before pair_cmp) r x → r.key ≤ x.key
key_not_below r x le =
    elim (cases_Bool (nat_lt x.key r.key)) as (λ _. r.key ≤ x.key) [
      | inl t ↦ (let less : Less ≡ nat_cmp x.key r.key = nat_cmp_is x.key r.key Less (ltb-true x.key r.key t) in
          let before : is_before pair_cmp x r ≡ true = rw (sym less) refl in cc)
      | inr f ↦ ltb-false x.key r.key f
    ]

above_all : (v : ℕ) (xs : List Pair) → Rising (is_before pair_cmp) xs → IfSome (first_of (take 1 xs)) (λ r. v < r.key) → Each (λ x. v < x.key) xs
above_all v [] rising above = tt
above_all v (r ∷ xs) rising above = (above, Each-weaker (Le (is_before pair_cmp) r) (λ x. v < x.key) (λ x le. omega (arith, above, key_not_below r x le)) xs rising.0)

-- the smallest record is above v, or there is none: nothing is taken
pub left_alone :
    (v : ℕ) (old new : List Pair) (answer : Option Pair) → answer ≡ least pair_cmp old → IfSome answer (λ r. v < r.key) → IsSameBag new old → TookUpTo v old new None
left_alone v old new answer is given same =
    let up : List Pair = ascending pair_cmp old in
    let above : IfSome (least pair_cmp old) (λ r. v < r.key) = subst (λ a. IfSome a (λ r. v < r.key)) is given in
    let all : Each (λ x. v < x.key) up = above_all v up (Rising-in_order (is_before pair_cmp) (ranks pairs_total) old) above in
    let low : Pair → Bool = λ x. nat_lt x.key (v + 1) in
    let none : Each (λ x. low x ≡ false) up = Each-weaker (λ x. v < x.key) (λ x. low x ≡ false) (λ x h. le-ltb x.key (v + 1) (omega (arith, h))) up all in
    (same, Each-weaker (λ x. low x ≡ false) (λ x. v < x.key) (λ x h. omega (arith, ltb-false x.key (v + 1) h)) old (Each-same_bag low up old (in_order-same_bag (is_before pair_cmp) (ranks pairs_total) old) none))

begins : (xs : List Pair) (r : Pair) → first_of (take 1 xs) ≡ Some r → take 1 xs ≡ r ∷ []
begins [] r e = cc
begins (x ∷ xs) r e = let same : x ≡ r = cc in ap (λ (y : Pair). y ∷ []) same

-- the smallest record, which is at most v, was taken after a look at it
pub took_first :
    (v : ℕ) (old mid new : List Pair) (first : Pair) (answer : Option Pair) → Some first ≡ least pair_cmp old → first.key ≤ v → IsSameBag mid old → answer ≡ least pair_cmp mid
    → IsSameBag new (without_front pair_cmp mid 1) → TookUpTo v old new answer
took_first v old mid new first answer is below same next rest =
    let one : ascending pair_cmp mid ≡ ascending pair_cmp old = ascending-same_bag pairs_total pair_same mid old same in
    let here : answer ≡ Some first = next ∙ (ap (λ (xs : List Pair). first_of (take 1 xs)) one ∙ sym is) in
    let head : front pair_cmp mid 1 ≡ first ∷ [] = begins (ascending pair_cmp mid) first (sym next ∙ here) in
    let parts : IsSameBag (first ∷ new) old = λ p.
    (let taken : count_by p (front pair_cmp mid 1) ≡ count_by p (first ∷ []) = ap (λ xs. count_by p xs) head in
    omega (arith, taken, count_by-cons p first new, count_by-cons p first [], rest p, same p, front-parts pairs_total mid 1 p, count_by-append p (front pair_cmp mid 1) (without_front pair_cmp mid 1))) in
    subst (TookUpTo v old new) (sym here) (below, parts)

-- the same of a call that took it, or was refused
pub took_by :
    (v : ℕ) (old mid new : Holding Pair) (first : Pair) (result : Result (Option Pair) QueueFault) → (AllTell old.slots → Some first ≡ least pair_cmp old.bag) → first.key ≤ v → SameRecords old mid → Keeps old mid
    → IfOk result (λ answer. AllTell mid.slots → answer ≡ least pair_cmp mid.bag) → OnOk result (HasTaken pair_cmp mid new)
    → IfOk result (λ answer. AllTell old.slots → TookUpTo v old.bag new.bag answer)
took_by v old mid new first (Ok answer) is below same keeps next taken = λ tell.
    took_first v old.bag mid.bag new.bag first answer (is tell) below (same.bag tell) (next (keeps.tells tell)) (taken.bag (keeps.tells tell))
took_by v old mid new first (Err fault) is below same keeps next taken = tt
