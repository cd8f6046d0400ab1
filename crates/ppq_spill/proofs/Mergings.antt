-- Merging some records, and then one more.
use Rattle.std.proofs.Common.{◌≡◌, ℕ, ◌≤◌, List, [], ◌∷◌, ◌++◌, length, refl, sym, ap, ◌∙◌, arith, append_assoc, length-append}
use Rattle.std.specs.Prelude.{count_by}
use Rattle.std.specs.List.{AllByRecursion as Each}
use Rattle.std.specs.Cmp.{IsStrictWeakOrder}
use Rattle.std.specs.declared.cmp.Ordering.{Ordering}
use Rattle.ppq_fetch.specs.ppq_record.Order.{is_before, Le}
use Rattle.ppq_fetch.proofs.ppq_record.Order.{IsSameBag-length, IsSameBag-append, Each_le-same_bag, Each-append_left, Each-append_right, Each-weaker, Each-append, Rising-append}
use Rattle.ppq_fetch.specs.ppq_array.Run.{Run}
use Rattle.ppq_fetch.specs.Taking.{NoneAfter}
use Rattle.ppq_spill.specs.Writing.{MergedOut, left_in}

module _ {R : Type 0} (cmp : R → R → Ordering) where
  pub MergedOut-more :
      IsStrictWeakOrder (is_before cmp) → (n m : ℕ) (runs runs' runs'' : List (Run R)) (rest rest' rest'' out : List R) (r : R) → MergedOut cmp n runs runs' rest rest' out → MergedOut cmp 1 runs' runs'' rest' rest'' (r ∷ [])
      → m ≡ length (out ++ r ∷ []) → MergedOut cmp m runs runs'' rest rest'' (out ++ r ∷ [])
  MergedOut-more o n m runs runs' runs'' rest rest' rest'' out r some one e =
      let left = left_in runs rest in
      let left' = left_in runs' rest' in
      let left'' = left_in runs'' rest'' in
      record {
        count = omega (arith, e, IsSameBag-length left (out ++ left') some.bag, length-append out left', IsSameBag-length left' ((r ∷ []) ++ left'') one.bag, length-append (r ∷ []) left'', length-append out (r ∷ []));
        bag = λ p. some.bag p ∙ IsSameBag-append out out left' ((r ∷ []) ++ left'') (λ q. refl) one.bag p ∙ ap (count_by p) (sym (append_assoc out (r ∷ []) left''));
        buffers = one.buffers ∙ some.buffers;
        ascends = λ up.
            let before = some.ascends up in
            let here = one.ascends before.2 in
            let against : NoneAfter cmp out ((r ∷ []) ++ left'') = Each_le-same_bag (is_before cmp) o out left' out ((r ∷ []) ++ left'') (λ q. refl) one.bag before.1 in
            let first : NoneAfter cmp out (r ∷ []) = Each-weaker (λ x. Each (Le (is_before cmp) x) ((r ∷ []) ++ left'')) (λ x. Each (Le (is_before cmp) x) (r ∷ [])) (λ x h. Each-append_left (Le (is_before cmp) x) (r ∷ []) left'' h) out against in
            let second : NoneAfter cmp out left'' = Each-weaker (λ x. Each (Le (is_before cmp) x) ((r ∷ []) ++ left'')) (λ x. Each (Le (is_before cmp) x) left'') (λ x h. Each-append_right (Le (is_before cmp) x) (r ∷ []) left'' h) out against in (
              Rising-append (is_before cmp) o out (r ∷ []) before.0 here.0 first,
              Each-append (λ x. Each (Le (is_before cmp) x) left'') out (r ∷ []) second here.1,
              here.2,
            );
      }

  -- nothing is left
  pub MergedOut-all : (n block : ℕ) (runs runs' : List (Run R)) (rest rest' out : List R) → MergedOut cmp n runs runs' rest rest' out → left_in runs' rest' ≡ [] → length out ≤ block → MergedOut cmp block runs runs' rest rest' out
  MergedOut-all n block runs runs' rest rest' out some none few =
      record {
        count = omega (arith, IsSameBag-length (left_in runs rest) (out ++ left_in runs' rest') some.bag, length-append out (left_in runs' rest'), ap length none, few);
        bag = some.bag;
        buffers = some.buffers;
        ascends = some.ascends;
      }
