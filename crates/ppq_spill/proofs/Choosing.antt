-- Choosing the smallest of first records, and taking it.
use Rattle.std.proofs.Common.{◌≡◌, ℕ, zero, suc, ◌<◌, List, [], ◌∷◌, ◌++◌, length, drop, map, All, Option, Some, None, slice_index_or, slice_set, refl, sym, ap, ap₂, ◌∙◌, subst, arith, length-append}
use Rattle.std.specs.Prelude.{count_by}
use Rattle.std.specs.List.{AllByRecursion as Each}
use Rattle.std.specs.Cmp.{IsStrictWeakOrder}
use Rattle.std.specs.declared.cmp.Ordering.{Ordering}
use Rattle.std.proofs.lemmas.List.Concat.{flat_map-cons}
use Rattle.std.proofs.lemmas.List.Elements.{All-cons, All-head, All-tail}
use Rattle.ppq_fetch.specs.ppq_record.Order.{is_before, Ascends, Le}
use Rattle.ppq_fetch.specs.ppq_record.Bag.{IsSameBag, first_of}
use Rattle.ppq_fetch.proofs.ppq_record.Order.{count_by-cons, count_by-append, IsSameBag-length, IsSameBag-append, Each-append, Le-trans}
use Rattle.ppq_fetch.specs.ppq_array.Run.{Run, items_of, buffers_of}
use Rattle.ppq_fetch.specs.ppq_array.Holdings.{internal_items}
use Rattle.ppq_spill.specs.Choosing.{NotBefore, IsBest}
use Rattle.ppq_spill.specs.Writing.{MergedOut, left_in}

pub same_at : {X : Type 0} (xs : List X) (i : ℕ) (d e : X) → i < length xs → slice_index_or xs i d ≡ slice_index_or xs i e
same_at [] i d e h = absurd (omega arith)
same_at (x ∷ xs) zero d e h = refl
same_at (x ∷ xs) (suc i) d e h = same_at xs i d e (omega arith)

module _ {R : Type 0} (cmp : R → R → Ordering) (o : IsStrictWeakOrder (is_before cmp)) where
  -- what is not before the first of an ascending list is not before the others
  le_all : (r : R) (xs : List R) → Ascends cmp xs → NotBefore cmp (first_of xs) (Some r) → Each (Le (is_before cmp) r) xs
  le_all r [] up k = tt
  le_all r (x ∷ xs) up k = (k, later xs up.0)
    where
      later : (ys : List R) → Each (Le (is_before cmp) x) ys → Each (Le (is_before cmp) r) ys
      later [] e = tt
      later (y ∷ ys) e = (Le-trans (is_before cmp) o r x y k e.0, later ys e.1)

  tail_le : (r : R) (xs : List R) → Each (Le (is_before cmp) r) xs → Each (Le (is_before cmp) r) (drop 1 xs)
  tail_le r [] e = tt
  tail_le r (x ∷ xs) e = e.1

  tail_up : (xs : List R) → Ascends cmp xs → Ascends cmp (drop 1 xs)
  tail_up [] up = tt
  tail_up (x ∷ xs) up = up.1

  pub split_first : (xs : List R) (r : R) → first_of xs ≡ Some r → xs ≡ r ∷ drop 1 xs
  split_first [] r e = absurd (cc)
  split_first (x ∷ xs) r e = let h : x ≡ r = cc in ap (λ z. z ∷ xs) h

  -- one run has its first record less
  pub record SetsRun (runs : List (Run R)) (r : R) (runs' : List (Run R)) : Type 0 where
    pub bag : IsSameBag (internal_items runs) (r ∷ internal_items runs')
    pub buffers : map buffers_of runs' ≡ map buffers_of runs
    pub up : All (λ (run : Run R). Ascends cmp (items_of run)) runs → All (λ (run : Run R). Ascends cmp (items_of run)) runs'
    pub after : All (λ (run : Run R). Ascends cmp (items_of run)) runs → All (λ (run : Run R). NotBefore cmp (first_of (items_of run)) (Some r)) runs → Each (Le (is_before cmp) r) (internal_items runs')

  all_after : (r : R) (runs : List (Run R)) → All (λ (run : Run R). Ascends cmp (items_of run)) runs → All (λ (run : Run R). NotBefore cmp (first_of (items_of run)) (Some r)) runs → Each (Le (is_before cmp) r) (internal_items runs)
  all_after r [] up k = tt
  all_after r (x ∷ xs) up k =
      subst (Each (Le (is_before cmp) r)) (sym (flat_map-cons items_of x xs))
      (Each-append (Le (is_before cmp) r) (items_of x) (internal_items xs) (le_all r (items_of x) (All-head (λ (run : Run R). Ascends cmp (items_of run)) x xs up) (All-head (λ (run : Run R). NotBefore cmp (first_of (items_of run)) (Some r)) x xs k))
      (all_after r xs (All-tail (λ (run : Run R). Ascends cmp (items_of run)) x xs up) (All-tail (λ (run : Run R). NotBefore cmp (first_of (items_of run)) (Some r)) x xs k)))

  pub sets_run :
      (runs : List (Run R)) (from : ℕ) (d run' : Run R) (r : R) → from < length runs → first_of (items_of (slice_index_or runs from d)) ≡ Some r → items_of run' ≡ drop 1 (items_of (slice_index_or runs from d)) → buffers_of run' ≡ buffers_of (slice_index_or runs from d)
      → SetsRun runs r (slice_set runs from run')
  sets_run [] from d run' r h first items buffers = absurd (omega arith)
  sets_run (x ∷ xs) zero d run' r h first items buffers =
      let whole : internal_items (x ∷ xs) ≡ r ∷ internal_items (run' ∷ xs) =
      flat_map-cons items_of x xs ∙ ap (λ ys. ys ++ internal_items xs) (split_first (items_of x) r first) ∙ ap (λ ys. r ∷ (ys ++ internal_items xs)) (sym items) ∙ ap (λ ys. r ∷ ys) (sym (flat_map-cons items_of run' xs)) in
      record {
        bag = λ p. ap (count_by p) whole;
        buffers = ap (λ b. b ∷ map buffers_of xs) buffers;
        up = λ u. All-cons (λ (run : Run R). Ascends cmp (items_of run)) run' xs (subst (Ascends cmp) (sym items) (tail_up (items_of x) (All-head (λ (run : Run R). Ascends cmp (items_of run)) x xs u))) (All-tail (λ (run : Run R). Ascends cmp (items_of run)) x xs u);
        after = λ u k.
            subst (Each (Le (is_before cmp) r)) (sym (flat_map-cons items_of run' xs))
            (Each-append (Le (is_before cmp) r) (items_of run') (internal_items xs)
            (subst (Each (Le (is_before cmp) r)) (sym items) (tail_le r (items_of x) (le_all r (items_of x) (All-head (λ (run : Run R). Ascends cmp (items_of run)) x xs u) (All-head (λ (run : Run R). NotBefore cmp (first_of (items_of run)) (Some r)) x xs k))))
            (all_after r xs (All-tail (λ (run : Run R). Ascends cmp (items_of run)) x xs u) (All-tail (λ (run : Run R). NotBefore cmp (first_of (items_of run)) (Some r)) x xs k)));
      }
  sets_run (x ∷ xs) (suc from) d run' r h first items buffers =
      let rest = sets_run xs from d run' r (omega arith) first items buffers in
      let xs' = slice_set xs from run' in
      record {
        bag = λ p.
            ap (count_by p) (flat_map-cons items_of x xs)
            ∙ IsSameBag-append (items_of x) (items_of x) (internal_items xs) (r ∷ internal_items xs') (λ q. refl) rest.bag p
            ∙ moved (items_of x) (internal_items xs') r p
            ∙ ap (λ ys. count_by p (r ∷ ys)) (sym (flat_map-cons items_of x xs'));
        buffers = ap (λ bs. buffers_of x ∷ bs) rest.buffers;
        up = λ u. All-cons (λ (run : Run R). Ascends cmp (items_of run)) x xs' (All-head (λ (run : Run R). Ascends cmp (items_of run)) x xs u) (rest.up (All-tail (λ (run : Run R). Ascends cmp (items_of run)) x xs u));
        after = λ u k.
            subst (Each (Le (is_before cmp) r)) (sym (flat_map-cons items_of x xs'))
            (Each-append (Le (is_before cmp) r) (items_of x) (internal_items xs') (le_all r (items_of x) (All-head (λ (run : Run R). Ascends cmp (items_of run)) x xs u) (All-head (λ (run : Run R). NotBefore cmp (first_of (items_of run)) (Some r)) x xs k))
            (rest.after (All-tail (λ (run : Run R). Ascends cmp (items_of run)) x xs u) (All-tail (λ (run : Run R). NotBefore cmp (first_of (items_of run)) (Some r)) x xs k)));
      }
    where
      moved : (a b : List R) (r : R) → IsSameBag (a ++ r ∷ b) (r ∷ (a ++ b))
      moved a b r p = omega (arith, count_by-append p a (r ∷ b), count_by-cons p r b, count_by-cons p r (a ++ b), count_by-append p a b)

  -- the smallest record is taken out of a run
  pub took_run :
      (runs : List (Run R)) (rest : List R) (from : ℕ) (best : Option R) (r : R) (runs' : List (Run R)) → IsBest cmp runs (first_of rest) from best → best ≡ Some r → SetsRun runs r runs' → MergedOut cmp 1 runs runs' rest rest (r ∷ [])
  took_run runs rest from best r runs' is e sets =
      let bag : IsSameBag (left_in runs rest) ((r ∷ []) ++ left_in runs' rest) = λ p. IsSameBag-append (internal_items runs) (r ∷ internal_items runs') rest rest sets.bag (λ q. refl) p in
      record {
        count = omega (arith, IsSameBag-length (left_in runs rest) ((r ∷ []) ++ left_in runs' rest) bag, length-append (r ∷ []) (left_in runs' rest));
        bag = bag;
        buffers = sets.buffers;
        ascends = λ up. (
          (tt, tt),
          (
            Each-append (Le (is_before cmp) r) (internal_items runs') rest (sets.after up.0 (subst (λ b. All (λ (run : Run R). NotBefore cmp (first_of (items_of run)) b) runs) e is.runs_after)) (le_all r rest up.1 (subst (NotBefore cmp (first_of rest)) e is.head_after)),
            tt,
          ),
          (sets.up up.0, up.1),
        );
      }

  -- the smallest record is taken out of the list
  pub took_rest :
      (runs : List (Run R)) (rest rest' : List R) (from : ℕ) (best : Option R) (r : R) → IsBest cmp runs (first_of rest) from best → best ≡ Some r → rest ≡ r ∷ rest' → MergedOut cmp 1 runs runs rest rest' (r ∷ [])
  took_rest runs rest rest' from best r is e split =
      let bag : IsSameBag (left_in runs rest) ((r ∷ []) ++ left_in runs rest') = λ p.
      ap (λ ys. count_by p (internal_items runs ++ ys)) split ∙ (let s : count_by p (internal_items runs ++ r ∷ rest') ≡ count_by p (r ∷ (internal_items runs ++ rest')) = omega (arith, count_by-append p (internal_items runs) (r ∷ rest'), count_by-cons p r rest', count_by-cons p r (internal_items runs ++ rest'), count_by-append p (internal_items runs) rest') in s) in
      record {
        count = omega (arith, IsSameBag-length (left_in runs rest) ((r ∷ []) ++ left_in runs rest') bag, length-append (r ∷ []) (left_in runs rest'));
        bag = bag;
        buffers = refl;
        ascends = λ up.
            let tail : Ascends cmp (r ∷ rest') = subst (Ascends cmp) split up.1 in (
              (tt, tt),
              (Each-append (Le (is_before cmp) r) (internal_items runs) rest' (all_after r runs up.0 (subst (λ b. All (λ (run : Run R). NotBefore cmp (first_of (items_of run)) b) runs) e is.runs_after)) tail.0, tt),
              (up.0, tail.1),
            );
      }

  -- where there is no best, nothing is left
  pub none_best : (runs : List (Run R)) (rest : List R) (from : ℕ) (best : Option R) → IsBest cmp runs (first_of rest) from best → best ≡ None → left_in runs rest ≡ []
  none_best runs rest from best is e =
      ap₂ (λ (a b : List R). a ++ b) (none_runs runs (subst (λ b. All (λ (run : Run R). NotBefore cmp (first_of (items_of run)) b) runs) e is.runs_after)) (none_list rest (subst (NotBefore cmp (first_of rest)) e is.head_after))
    where
      none_list : (xs : List R) → NotBefore cmp (first_of xs) None → xs ≡ []
      none_list [] k = refl
      none_list (x ∷ xs) k = absurd k

      none_runs : (runs : List (Run R)) → All (λ (run : Run R). NotBefore cmp (first_of (items_of run)) None) runs → internal_items runs ≡ []
      none_runs [] a = refl
      none_runs (x ∷ xs) a =
          flat_map-cons items_of x xs ∙ ap₂ (λ (a b : List R). a ++ b) (none_list (items_of x) (All-head (λ (run : Run R). NotBefore cmp (first_of (items_of run)) None) x xs a)) (none_runs xs (All-tail (λ (run : Run R). NotBefore cmp (first_of (items_of run)) None) x xs a))
