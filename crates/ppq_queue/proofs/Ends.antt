-- What is left after a bulk pop, and how a bulk pop with a limit ended.
use Rattle.std.proofs.Common.{◌≡◌, ℕ, ◌<◌, min, Bool, true, cond, List, [], ◌∷◌, ◌++◌, length, Option, Some, None, sym, ap, ◌∙◌, inl, inr, arith, Ordering}
use Rattle.std.specs.Prelude.{count_by, ◌⊎◌}
use Rattle.std.specs.declared.cmp.Ordering.TheVariants.{Equal}
use Rattle.std.specs.Cmp.{IsTotalOrder}
use Rattle.ppq_heap.specs.ppq_record.Order.{is_before, Le}
use Rattle.ppq_heap.specs.ppq_record.Bag.{IsSameBag, first_of, least, front, without_front, size_below}
use Rattle.ppq_heap.proofs.ppq_record.Order.{count_by-cons, count_by-append, Each-weaker, Le-trans, none_pass}
use Rattle.ppq_heap.proofs.ppq_record.Fronts.{ranks, front-parts}
use Rattle.ppq_extract.specs.ppq_fetch.Taking.{IsTaken, NoneBelow}
use Rattle.ppq_queue.specs.Bulk.{IsEnd, EndsBy, kept_below}
use Rattle.ppq_queue.specs.declared.limit_end.LimitEnd.{LimitEnd}
use Rattle.ppq_queue.specs.declared.limit_end.LimitEnd.TheVariants.{All, More, Round}
use Rattle.ppq_queue.proofs.Least.{least-le, least-none}
use Rattle.ppq_queue.proofs.Merging.{kept_is, kept_none}

module _ {R : Type 0} {cmp : R → R → Ordering} (o : IsTotalOrder cmp) (same : (x y : R) → cmp x y ≡ Equal → x ≡ y) where
  -- what is left where a front was taken
  pub left_is : (bag out left : List R) (n : ℕ) → IsTaken cmp bag out left → out ≡ front cmp bag n → IsSameBag left (without_front cmp bag n)
  left_is bag out left n taken e p =
      omega (arith, taken.moved p, count_by-append p out left, front-parts o bag n p, count_by-append p (front cmp bag n) (without_front cmp bag n), ap (count_by p) e)

  counts_one : (l y : R) (f rest bag : List R) → first_of f ≡ Some y → IsSameBag (f ++ rest) bag → is_before cmp y l ≡ true → 0 < size_below cmp bag l
  counts_one l y [] rest bag e parts t = cc
  counts_one l y (z ∷ zs) rest bag e parts t =
      let is : z ≡ y = cc in
      let p : R → Bool = λ x. is_before cmp x l in
      let one : ◌≡◌ {A = ℕ} (cond (p z) 1 0) 1 = ap (λ (w : R). cond (is_before cmp w l) 1 0) is ∙ ap (λ b. cond b 1 0) t in
      omega (arith, parts p, count_by-cons p z (zs ++ rest), one)

  -- the smallest record is below the limit
  pub some_below : (l x : R) (bag : List R) (answer : Option R) → answer ≡ least cmp bag → kept_below cmp answer (Some l) ≡ Some x → 0 < size_below cmp bag l
  some_below l x bag None e kept = cc
  some_below l x bag (Some y) e kept = counts_one l y (front cmp bag 1) (without_front cmp bag 1) bag (sym e) (front-parts o bag 1) (kept_is cmp (Some l) y x kept).1.0

  -- the smallest record is not below the limit, or there is none
  pub none_below : (l : R) (bag : List R) (answer : Option R) → answer ≡ least cmp bag → kept_below cmp answer (Some l) ≡ None → size_below cmp bag l ≡ 0
  none_below l bag None e kept = ap (λ (xs : List R). size_below cmp xs l) (least-none o same bag (sym e))
  none_below l bag (Some y) e kept =
      none_pass (λ x. is_before cmp x l) bag (Each-weaker (Le (is_before cmp) y) (Le (is_before cmp) l) (λ z k. Le-trans (is_before cmp) (ranks o) l y z (kept_none cmp l y kept) k) bag (least-le o same y bag (sym e)))

  -- what is counted below the limit tells that the list is full
  full_list : (l : R) (given left : List R) (most : ℕ) → (length given ≡ most) ⊎ NoneBelow cmp (Some l) left → 0 < size_below cmp left l → length given ≡ most
  full_list l given left most (inl full) some = full
  full_list l given left most (inr none) some = absurd (omega (arith, some, none_pass (λ x. is_before cmp x l) left none))

  -- so an end by what is left is the end of a list
  pub end_is :
      (l : R) (given left : List R) (wanted room most : ℕ)
      → most ≡ min wanted room → (end : LimitEnd) → (length given ≡ most) ⊎ NoneBelow cmp (Some l) left → EndsBy cmp room wanted l left end → IsEnd cmp room wanted l given left end
  end_is l given left wanted room most e All full none = none
  end_is l given left wanted room most e More full some = (omega (arith, full_list l given left most full some.1, some.0), some.1)
  end_is l given left wanted room most e Round full some = (omega (arith, full_list l given left most full some.1, some.0), some.0, some.1)
