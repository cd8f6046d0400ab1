-- A heap beside an extract buffer that is ready: which of both has the smallest record, and what is left without it.
use Rattle.std.proofs.Common.{◌≡◌, ℕ, inl, inr, ◌+◌, ◌-◌, ◌<◌, ◌≤◌, Bool, true, false, cond, not, List, [], ◌∷◌, ◌++◌, length, drop, Option, Some, None, refl, sym, ap, ◌∙◌, subst, arith, append_assoc, length-drop, Ordering}
use Rattle.std.specs.Prelude.{count_by, ◌↔◌, IfSome, IsNone, Result, Ok, Err, IsErr, OnOk}
use Rattle.std.specs.declared.cmp.Ordering.TheVariants.{Equal}
use Rattle.std.specs.Cmp.{IsTotalOrder}
use Rattle.ppq_heap.specs.ppq_record.Order.{is_before, Le, Ascends}
use Rattle.ppq_heap.specs.ppq_record.Bag.{IsSameBag, first_of, least, ascending}
use Rattle.ppq_heap.proofs.ppq_record.Order.{Each-append, count_by-cons, count_by-append, IsSameBag-length, in_order-same_bag}
use Rattle.ppq_heap.proofs.ppq_record.Fronts.{ranks}
use Rattle.ppq_extract.specs.ppq_fetch.Taking.{NoneAfter}
use Rattle.ppq_spill.proofs.Readies.{zero_or}
use Rattle.ppq_queue.specs.Choice.{goes_first, first_of_two, TookFirst}
use Rattle.ppq_queue.proofs.Least.{least_is, least-none, least_of_empty, least_of_two, without_answer}

module _ {R : Type 0} where
  -- no more records are left in a heap
  pub popped_fewer : (heap left : List R) (answer : Option R) → (IsNone answer → left ≡ heap) → IfSome answer (λ x. IsSameBag heap (x ∷ left)) → length left ≤ length heap
  popped_fewer heap left None none taken = omega (arith, ap length (none refl))
  popped_fewer heap left (Some x) none taken = omega (arith, IsSameBag-length heap (x ∷ left) taken)

  taken_heap : (heap left extract runs : List R) (answer : Option R) → IfSome answer (λ x. IsSameBag heap (x ∷ left)) → IfSome answer (λ x. IsSameBag (heap ++ extract ++ runs) (x ∷ (left ++ extract ++ runs)))
  taken_heap heap left extract runs None taken = tt
  taken_heap heap left extract runs (Some x) taken = λ p.
      omega (
        arith,
        count_by-append p (heap ++ extract) runs,
        count_by-append p heap extract,
        count_by-cons p x (left ++ extract ++ runs),
        count_by-append p (left ++ extract) runs,
        count_by-append p left extract,
        count_by-cons p x left,
        taken p,
      )

  taken_extract : (heap extract runs : List R) → IfSome (first_of extract) (λ x. IsSameBag (heap ++ extract ++ runs) (x ∷ (heap ++ drop 1 extract ++ runs)))
  taken_extract heap [] runs = tt
  taken_extract heap (x ∷ xs) runs = λ p.
      omega (
        arith,
        count_by-append p (heap ++ x ∷ xs) runs,
        count_by-append p heap (x ∷ xs),
        count_by-cons p x xs,
        count_by-cons p x (heap ++ xs ++ runs),
        count_by-append p (heap ++ xs) runs,
        count_by-append p heap xs,
      )

  unfirst : (extract : List R) → first_of extract ≡ None → extract ≡ []
  unfirst [] e = refl
  unfirst (x ∷ xs) e = cc

module _ {R : Type 0} (cmp : R → R → Ordering) where
  pub each_rest : (x : List R) (ys : List R) → NoneAfter cmp x ys → NoneAfter cmp (drop 1 x) ys
  each_rest [] ys h = h
  each_rest (x ∷ xs) ys h = h.1

  pub ascends_rest : (x : List R) → Ascends cmp x → Ascends cmp (drop 1 x)
  ascends_rest [] h = h
  ascends_rest (x ∷ xs) h = h.1

module _ {R : Type 0} {cmp : R → R → Ordering} (o : IsTotalOrder cmp) (same : (x y : R) → cmp x y ≡ Equal → x ≡ y) where
  -- the heap goes first only where it has a record
  first_some : (heap : List R) (other : Option R) → goes_first cmp (least cmp heap) other ≡ true → 0 < length heap
  first_some [] other t = by_one (least cmp []) (least_of_empty o same [] refl) t
    where
      by_one : (one : Option R) → one ≡ None → goes_first cmp one other ≡ true → 0 < 0
      by_one None e t = cc
      by_one (Some x) e t = cc
  first_some (x ∷ xs) other t = omega arith

  -- and where it does not, a buffer without a record is beside a heap without one
  second_empty : (heap extract : List R) → goes_first cmp (least cmp heap) (first_of extract) ≡ false → length extract ≡ 0 → length heap ≡ 0
  second_empty heap [] f z = by_one (least cmp heap) refl f
    where
      by_one : (one : Option R) → one ≡ least cmp heap → goes_first cmp one None ≡ false → length heap ≡ 0
      by_one None e f = ap length (least-none o same heap (sym e))
      by_one (Some x) e f = cc
  second_empty heap (x ∷ xs) f z = absurd (omega arith)

  -- the first record of a buffer that is ready is the smallest of it and the runs
  stored_least : (extract runs : List R) → Ascends cmp extract → NoneAfter cmp extract runs → (length extract ≡ 0 → length runs ≡ 0) → first_of extract ≡ least cmp (extract ++ runs)
  stored_least [] runs up order ready = sym (least_of_empty o same runs (ready refl))
  stored_least (x ∷ xs) runs up order ready = sym (least_is o same x (xs ++ runs) (x ∷ (xs ++ runs)) (λ p. refl) (Each-append (Le (is_before cmp) x) xs runs up.0 order.0))

  -- the one that goes first is the smallest record of all
  pub first_least :
      (heap extract runs : List R) → Ascends cmp extract → NoneAfter cmp extract runs → (length extract ≡ 0 → length runs ≡ 0) → first_of_two cmp (least cmp heap) (first_of extract) ≡ least cmp (heap ++ extract ++ runs)
  first_least heap extract runs up order ready =
      sym (ap (least cmp) (append_assoc heap extract runs) ∙ least_of_two o same heap (extract ++ runs) (least cmp heap) (first_of extract) (goes_first cmp (least cmp heap) (first_of extract)) refl (stored_least extract runs up order ready) refl)

  first_none : (one other : Option R) → IsNone (first_of_two cmp one other) → (one ≡ None) × (other ≡ None)
  first_none None None n = (refl, refl)
  first_none None (Some y) n = absurd (cc)
  first_none (Some x) None n = absurd (cc)
  first_none (Some x) (Some y) n = absurd (neither (not (is_before cmp y x)) n)
    where
      neither : (b : Bool) → IsNone (cond b (Some x) (Some y)) → ⊥
      neither true n = cc
      neither false n = cc

  none_both : (heap extract : List R) → length heap + length extract ≡ 0 → IsNone (first_of_two cmp (least cmp heap) (first_of extract))
  none_both heap [] z = subst (λ (r : Option R). IsNone (first_of_two cmp r None)) (sym (least_of_empty o same heap (omega arith))) refl
  none_both heap (x ∷ xs) z = absurd (omega arith)

  -- there is none only if heap and buffer are empty
  pub none_first : (heap extract : List R) (answer : Option R) → answer ≡ first_of_two cmp (least cmp heap) (first_of extract) → IsNone answer ↔ (length heap + length extract ≡ 0)
  none_first heap extract answer e = (
    (λ n. (let both = first_none (least cmp heap) (first_of extract) (subst (λ (r : Option R). IsNone r) e n) in omega (arith, ap length (least-none o same heap both.0), ap length (unfirst extract both.1)))),
    (λ z. subst (λ (r : Option R). IsNone r) (sym e) (none_both heap extract z)),
  )

  -- one record fewer is left in a heap that had some
  popped_one : (heap left : List R) (answer : Option R) → 0 < length heap → answer ≡ least cmp heap → IfSome answer (λ x. IsSameBag heap (x ∷ left)) → length left + 1 ≡ length heap
  popped_one heap left None some is taken = absurd (omega (arith, some, ap length (least-none o same heap (sym is))))
  popped_one heap left (Some x) some is taken = omega (arith, IsSameBag-length heap (x ∷ left) taken)

  -- the heap's smallest record left, which goes first
  pub took_heap : (heap left extract : List R) (answer : Option R) → answer ≡ least cmp heap → IfSome answer (λ x. IsSameBag heap (x ∷ left)) → goes_first cmp (least cmp heap) (first_of extract) ≡ true → TookFirst cmp heap left extract extract answer
  took_heap heap left extract answer is taken first =
      let some = first_some heap (first_of extract) first in
      let one = popped_one heap left answer some is taken in
      record {
        value = is ∙ sym (ap (λ b. cond b (least cmp heap) (first_of extract)) first);
        count = omega (arith, one);
        near = omega (arith, one);
        fewer = omega arith;
        ascends = λ up. up;
        order = λ runs n. n;
        rest = λ runs e.
            without_answer o same answer (left ++ extract ++ runs) (heap ++ extract ++ runs) e (taken_heap heap left extract runs answer taken) (λ n. absurd (omega (arith, some, ap length (least-none o same heap (sym is ∙ n)))));
      }

  -- the buffer's first record left, where it goes first
  pub took_extract : (heap extract : List R) (answer : Option R) → answer ≡ first_of extract → goes_first cmp (least cmp heap) (first_of extract) ≡ false → TookFirst cmp heap heap extract (drop 1 extract) answer
  took_extract heap extract answer is first = record {
    value = is ∙ sym (ap (λ b. cond b (least cmp heap) (first_of extract)) first);
    count = one_less extract (second_empty heap extract first);
    near = omega arith;
    fewer = omega (arith, length-drop 1 extract);
    ascends = ascends_rest cmp extract;
    order = λ runs. each_rest cmp extract runs;
    rest = λ runs e.
        without_answer o same answer (heap ++ drop 1 extract ++ runs) (heap ++ extract ++ runs) e (subst (λ (a : Option R). IfSome a (λ x. IsSameBag (heap ++ extract ++ runs) (x ∷ (heap ++ drop 1 extract ++ runs)))) (sym is) (taken_extract heap extract runs))
        (λ n. ap (λ (l : List R). heap ++ l ++ runs) (none_left extract (unfirst extract (sym is ∙ n))));
  }
    where
      one_less : (e : List R) → (length e ≡ 0 → length heap ≡ 0) → length heap + length (drop 1 e) ≡ length heap + length e - 1
      one_less [] none = omega (arith, none refl)
      one_less (x ∷ xs) none = omega arith

      none_left : (e : List R) → e ≡ [] → drop 1 e ≡ e
      none_left e z = ap (λ (l : List R). drop 1 l) z ∙ sym z

-- a heap with room takes a record in
pub has_room : {T E P : Type 0} (answer : Result T E) (len most : ℕ) → len < most → (IsErr answer → len ≡ most) → OnOk answer P → P
has_room (Ok v) len most room full added = added
has_room (Err e) len most room full added = absurd (omega (arith, full refl))

-- how many records are left where one left heap or buffer, or none was there
pub left_over : (count heap extract heap' extract' runs less : ℕ) → count ≡ heap + extract + runs → heap' + extract' ≡ heap + extract - 1 → less ≡ count - 1 → (extract ≡ 0 → count ≡ heap) → less ≡ heap' + extract' + runs
left_over count heap extract heap' extract' runs less all few l ready =
    elim (zero_or extract) as (λ _. less ≡ heap' + extract' + runs) [ inl z ↦ omega (arith, ready z) | inr s ↦ omega arith ]

-- a heap that was sorted
pub sorted-same : {R : Type 0} {cmp : R → R → Ordering} (o : IsTotalOrder cmp) (xs ys : List R) → ys ≡ ascending cmp xs → IsSameBag ys xs
sorted-same {cmp = cmp} o xs ys e p = ap (count_by p) e ∙ in_order-same_bag (is_before cmp) (ranks o) xs p
