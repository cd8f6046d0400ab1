-- The order of a binary heap: how a hole moves through it, and that its root is the smallest.
use Rattle.std.proofs.Common.{◌≡◌, ◌≢◌, ℕ, zero, suc, ◌+◌, ◌-◌, ◌/◌, ◌<◌, ◌≤◌, Bool, true, cond, List, [], ◌∷◌, ◌++◌, length, get_or, set, take, drop, Option, Some, None, false, ◌↔◌, refl, sym, ap, ap₂, subst, inl, inr, ◌∙◌, arith}
use Rattle.std.specs.Prelude.{count_by, slice_get, IsNone}
use Rattle.std.specs.List.{AllByRecursion as Each}
use Rattle.std.specs.Cmp.{IsStrictWeakOrder, IsTotalOrder}
use Rattle.std.specs.declared.cmp.Ordering.{Ordering}
use Rattle.std.specs.declared.cmp.Ordering.TheVariants.{Equal}
use Rattle.std.proofs.lemmas.Bool.{cases_lt, cases_eq}
use Rattle.std.proofs.lemmas.List.{get_or_read, get_or-set_same, get_or-set_other, length-set, length-append, get_or_append_left, get_or-take, length-take, length-take-le, take_at, take-append-drop}
use Rattle.std.proofs.lemmas.List.Sums.{sum_by-set}
use Rattle.ppq_tree.specs.ppq_record.Order.{Le, Rising, in_order, put_in_order}
use Rattle.ppq_tree.specs.ppq_record.Bag.{IsSameBag, first_of, least}
use Rattle.ppq_tree.proofs.ppq_record.Order.{Le-trans, Le-refl, front_is, IsSameBag-length, IsSameBag-append}
use Rattle.ppq_tree.proofs.ppq_record.Fronts.{ascending-same_bag}
use Rattle.ppq_heap.specs.Heap.{IsMinHeap, IsHeapRound}

-- of what stays in a multiset
module _ {X : Type 0} where
  count_by-set : (p : X → Bool) (xs : List X) (i : ℕ) (y d : X) → i < length xs → count_by p (set xs i y) + cond (p (get_or xs i d)) 1 0 ≡ count_by p xs + cond (p y) 1 0
  count_by-set p xs i y d l = sum_by-set (λ x. cond (p x) 1 0) xs i y d l

  -- a record that moved into the hole and left one behind
  pub hole_moves :
      (xs : List X) (a b : ℕ) (v : X) → a < length xs → b < length xs → a ≢ b → v ≡ get_or xs b v
      → (r : X) → IsSameBag (set (set xs a v) b r) (set xs a r)
  hole_moves xs a b v la lb n e r p =
      let long = length-set xs a v in
      let there : get_or (set xs a v) b r ≡ v = get_or-set_other xs a b v r (λ h. n (sym h)) ∙ sym (get_or_read xs b v lb e r) in
      let one = count_by-set p (set xs a v) b r r (omega arith) in
      let same : ◌≡◌ {A = ℕ} (cond (p (get_or (set xs a v) b r)) 1 0) (cond (p v) 1 0) = ap (λ x. cond (p x) 1 0) there in
      omega (arith, one, same, count_by-set p xs a v r la, count_by-set p xs a r r la)

-- r is not after what is right below the hole
abbrev pub NotAfterBelow : {X : Type 0} → (X → X → Bool) → List X → ℕ → X → Type 0
NotAfterBelow {X} lt xs hole r = (k : ℕ) (d : X) → 0 < k → k < length xs → (k - 1) / 2 ≡ hole → Le lt r (get_or xs k d)

-- reads of a list in which one place was written
module _ {X : Type 0} (xs : List X) (a : ℕ) (v : X) (l : a < length xs) where
  at_hole : (k : ℕ) (d : X) → k ≡ a → get_or (set xs a v) k d ≡ v
  at_hole k d e = ap (λ i. get_or (set xs a v) i d) e ∙ get_or-set_same xs a v d l

  elsewhere : (k : ℕ) (d : X) → k ≢ a → get_or (set xs a v) k d ≡ get_or xs k d
  elsewhere k d n = get_or-set_other xs a k v d n

module _ {X : Type 0} (lt : X → X → Bool) where
  le_of : (a b c d : X) → a ≡ c → b ≡ d → Le lt c d → Le lt a b
  le_of a b c d e f h = ap₂ lt f e ∙ h

  pub heap_of_few : (xs : List X) → length xs ≤ 1 → IsMinHeap lt xs
  unfolding IsMinHeap
  heap_of_few xs l k d z m = absurd (omega arith)

  -- the last record stands behind a heap
  pub heap_but_last : (xs : List X) (place : ℕ) → length xs ≡ place + 1 → IsMinHeap lt (take place xs) → IsHeapRound lt xs place
  unfolding IsMinHeap
  heap_but_last xs place whole h =
      let long = length-take place xs in
      record {
        others = λ k d z l n _.
            let m : k < place = omega arith in
            le_of _ _ _ _ (sym (get_or-take place xs ((k - 1) / 2) d (omega arith))) (sym (get_or-take place xs k d m)) (h k d z (omega arith));
        across = λ k d z l e _. absurd (omega arith);
      }

  pub heap_without_last : (xs ys : List X) → IsMinHeap lt (xs ++ ys) → IsMinHeap lt xs
  unfolding IsMinHeap
  heap_without_last xs ys h k d z l =
      let long = length-append xs ys in
      le_of _ _ _ _ (sym (get_or_append_left xs ys d ((k - 1) / 2) (omega arith))) (sym (get_or_append_left xs ys d k l)) (h k d z (omega arith))

  pub heap_taken : (n : ℕ) (xs : List X) → IsMinHeap lt xs → IsMinHeap lt (take n xs)
  heap_taken n xs h = heap_without_last (take n xs) (drop n xs) (subst (IsMinHeap lt) (sym (take-append-drop n xs)) h)

  pub heap_round_root : (xs : List X) → IsMinHeap lt xs → IsHeapRound lt xs 0
  unfolding IsMinHeap
  heap_round_root xs h = record {
    others = λ k d z l _ _. h k d z l;
    across = λ k d z l e n. absurd (omega arith);
  }

  each_at : (P : X → Type 0) (xs : List X) (k : ℕ) (d : X) → Each P xs → k < length xs → P (get_or xs k d)
  each_at P [] k d e l = absurd (omega arith)
  each_at P (x ∷ xs) zero d e l = e.0
  each_at P (x ∷ xs) (suc k) d e l = each_at P xs k d e.1 (omega arith)

  each_from : (P : X → Type 0) (xs : List X) → ((k : ℕ) (d : X) → k < length xs → P (get_or xs k d)) → Each P xs
  each_from P [] f = tt
  each_from P (x ∷ xs) f = (f 0 x (omega arith), each_from P xs (λ k d l. f (suc k) d (omega arith)))

  rising_far : (xs : List X) (i j : ℕ) (d : X) → Rising lt xs → i < j → j < length xs → Le lt (get_or xs i d) (get_or xs j d)
  rising_far [] i j d r h l = absurd (omega arith)
  rising_far (x ∷ xs) i zero d r h l = absurd (omega arith)
  rising_far (x ∷ xs) zero (suc j) d r h l = each_at (Le lt x) xs j d r.0 (omega arith)
  rising_far (x ∷ xs) (suc i) (suc j) d r h l = rising_far xs i j d r.1 (omega arith) (omega arith)

  -- an ascending list is a heap
  pub heap_rising : (xs : List X) → Rising lt xs → IsMinHeap lt xs
  unfolding IsMinHeap
  heap_rising xs r k d z l = rising_far xs ((k - 1) / 2) k d r (omega arith) l

  pub Rising-drop : (n : ℕ) (xs : List X) → Rising lt xs → Rising lt (drop n xs)
  Rising-drop zero xs r = r
  Rising-drop (suc n) [] r = tt
  Rising-drop (suc n) (x ∷ xs) r = Rising-drop n xs r.1

  -- so is what follows its first records
  pub heap_dropped : (n : ℕ) (xs : List X) → Rising lt xs → IsMinHeap lt (drop n xs)
  heap_dropped n xs r = heap_rising (drop n xs) (Rising-drop n xs r)

-- the first n records were put into another order: the others are behind them as they were
module _ {X : Type 0} (xs ys : List X) (n : ℕ) (long : n ≤ length xs) (same : IsSameBag ys (take n xs)) where
  front-length : length ys ≡ n
  front-length = IsSameBag-length ys (take n xs) same ∙ length-take-le n xs long

  pub take-front : take n (ys ++ drop n xs) ≡ ys
  take-front = take_at ys (drop n xs) n front-length

  pub bag-front : IsSameBag (ys ++ drop n xs) xs
  bag-front p = IsSameBag-append ys (take n xs) (drop n xs) (drop n xs) same (λ q. refl) p ∙ ap (count_by p) (take-append-drop n xs)

module _ {X : Type 0} (lt : X → X → Bool) (o : IsStrictWeakOrder lt) where
  -- the hole rises: its parent p, with the record v, comes down into it
  pub rises :
      (xs : List X) (hole p : ℕ) (v r : X) → 0 < hole → hole < length xs → p ≡ (hole - 1) / 2 → v ≡ get_or xs p v
      → IsHeapRound lt xs hole → NotAfterBelow lt xs hole r → lt r v ≡ true
      → IsHeapRound lt (set xs hole v) p × NotAfterBelow lt (set xs hole v) p r
  rises xs hole p v r z l e is h u less =
      let long = length-set xs hole v in
      let read : (d : X) → get_or xs p d ≡ v = λ d. sym (get_or_read xs p v (omega arith) is d) in
      let down : Le lt r v = o.one_way r v less in
      let brother : (k : ℕ) (d : X) → 0 < k → k < length xs → (k - 1) / 2 ≡ p → k ≢ hole → Le lt v (get_or xs k d) = λ k d kz kl kp n.
      le_of lt _ _ _ _ (sym (ap (λ i. get_or xs i d) kp ∙ read d)) refl (h.others k d kz kl n (λ q. omega arith)) in (
        record {
          others = λ k d kz kl kp jp.
              elim (cases_eq k hole) as (λ _. Le lt (get_or (set xs hole v) ((k - 1) / 2) d) (get_or (set xs hole v) k d)) [
                | inl same ↦ absurd (jp (omega arith))
                | inr n ↦
                    elim (cases_eq ((k - 1) / 2) hole) as (λ _. Le lt (get_or (set xs hole v) ((k - 1) / 2) d) (get_or (set xs hole v) k d)) [
                      | inl below ↦
                          le_of lt _ _ _ _ (at_hole xs hole v l ((k - 1) / 2) d below ∙ sym (read d)) (elsewhere xs hole v l k d n)
                          (le_of lt _ _ _ _ (ap (λ i. get_or xs i d) e) refl (h.across k d kz (omega arith) below z))
                      | inr m ↦ le_of lt _ _ _ _ (elsewhere xs hole v l ((k - 1) / 2) d m) (elsewhere xs hole v l k d n) (h.others k d kz (omega arith) n m)
                    ]
              ];
          across = λ k d kz kl kp pz.
              let top : Le lt (get_or xs ((p - 1) / 2) d) v = le_of lt _ _ _ _ refl (sym (read d)) (h.others p d pz (omega arith) (λ q. omega arith) (λ q. omega arith)) in
              le_of lt _ _ _ _ (elsewhere xs hole v l ((p - 1) / 2) d (λ q. omega arith)) refl
              (elim (cases_eq k hole) as (λ _. Le lt (get_or xs ((p - 1) / 2) d) (get_or (set xs hole v) k d)) [
                | inl same ↦ le_of lt _ _ _ _ refl (at_hole xs hole v l k d same) top
                | inr n ↦ le_of lt _ _ _ _ refl (elsewhere xs hole v l k d n) (Le-trans lt o _ v _ top (brother k d kz (omega arith) kp n))
              ]);
        },
        λ k d kz kl kp.
            elim (cases_eq k hole) as (λ _. Le lt r (get_or (set xs hole v) k d)) [
              | inl same ↦ le_of lt _ _ _ _ refl (at_hole xs hole v l k d same) down
              | inr n ↦ le_of lt _ _ _ _ refl (elsewhere xs hole v l k d n) (Le-trans lt o r v _ down (brother k d kz (omega arith) kp n))
            ],
      )

  -- the hole is filled with a record that is not before its parent
  pub filled :
      (xs : List X) (hole : ℕ) (r : X) → hole < length xs → IsHeapRound lt xs hole → NotAfterBelow lt xs hole r
      → (0 < hole → (d : X) → Le lt (get_or xs ((hole - 1) / 2) d) r) → IsMinHeap lt (set xs hole r)
  unfolding IsMinHeap
  filled xs hole r l h u f k d z kl =
      let long = length-set xs hole r in
      elim (cases_eq k hole) as (λ _. Le lt (get_or (set xs hole r) ((k - 1) / 2) d) (get_or (set xs hole r) k d)) [
        | inl same ↦
            le_of lt _ _ _ _ (elsewhere xs hole r l ((k - 1) / 2) d (λ q. omega arith) ∙ ap (λ i. get_or xs ((i - 1) / 2) d) same) (at_hole xs hole r l k d same) (f (omega arith) d)
        | inr n ↦
            elim (cases_eq ((k - 1) / 2) hole) as (λ _. Le lt (get_or (set xs hole r) ((k - 1) / 2) d) (get_or (set xs hole r) k d)) [
              | inl below ↦ le_of lt _ _ _ _ (at_hole xs hole r l ((k - 1) / 2) d below) (elsewhere xs hole r l k d n) (u k d z (omega arith) below)
              | inr m ↦ le_of lt _ _ _ _ (elsewhere xs hole r l ((k - 1) / 2) d m) (elsewhere xs hole r l k d n) (h.others k d z (omega arith) n m)
            ]
      ]

  -- the hole sinks: its lesser child c, with the record v, comes up into it
  pub sinks :
      (xs : List X) (hole c : ℕ) (v : X) → 0 < c → c < length xs → (c - 1) / 2 ≡ hole → v ≡ get_or xs c v
      → IsHeapRound lt xs hole → ((k : ℕ) (d : X) → 0 < k → k < length xs → (k - 1) / 2 ≡ hole → Le lt v (get_or xs k d))
      → IsHeapRound lt (set xs hole v) c
  sinks xs hole c v z l e is h low =
      let long = length-set xs hole v in
      let read : (d : X) → get_or xs c d ≡ v = λ d. sym (get_or_read xs c v l is d) in
      let there : hole < length xs = omega arith in
      record {
        others = λ k d kz kl kc jc.
            elim (cases_eq k hole) as (λ _. Le lt (get_or (set xs hole v) ((k - 1) / 2) d) (get_or (set xs hole v) k d)) [
              | inl same ↦
                  le_of lt _ _ _ _ (elsewhere xs hole v there ((k - 1) / 2) d (λ q. omega arith) ∙ ap (λ i. get_or xs ((i - 1) / 2) d) same) (at_hole xs hole v there k d same ∙ sym (read d)) (h.across c d z l e (omega arith))
              | inr n ↦
                  elim (cases_eq ((k - 1) / 2) hole) as (λ _. Le lt (get_or (set xs hole v) ((k - 1) / 2) d) (get_or (set xs hole v) k d)) [
                    | inl below ↦ le_of lt _ _ _ _ (at_hole xs hole v there ((k - 1) / 2) d below) (elsewhere xs hole v there k d n) (low k d kz (omega arith) below)
                    | inr m ↦ le_of lt _ _ _ _ (elsewhere xs hole v there ((k - 1) / 2) d m) (elsewhere xs hole v there k d n) (h.others k d kz (omega arith) n m)
                  ]
            ];
        across = λ k d kz kl kc cz.
            le_of lt _ _ _ _ (at_hole xs hole v there ((c - 1) / 2) d e ∙ sym (read d)) (elsewhere xs hole v there k d (λ q. omega arith))
            (le_of lt _ _ _ _ (ap (λ i. get_or xs i d) (sym kc)) refl (h.others k d kz (omega arith) (λ q. omega arith) (λ q. omega arith)));
      }

  up_to : (xs : List X) → IsMinHeap lt xs → (fuel k : ℕ) (d : X) → k ≤ fuel → k < length xs → Le lt (get_or xs 0 d) (get_or xs k d)
  unfolding IsMinHeap
  up_to xs h zero k d f l = subst (λ j. Le lt (get_or xs 0 d) (get_or xs j d)) (omega arith) (Le-refl lt o (get_or xs 0 d))
  up_to xs h (suc fuel) k d f l =
      elim (cases_lt 0 k) as (λ _. Le lt (get_or xs 0 d) (get_or xs k d)) [
        | inr e ↦ (let z : 0 ≡ k = omega arith in subst (λ j. Le lt (get_or xs 0 d) (get_or xs j d)) z (Le-refl lt o (get_or xs 0 d)))
        | inl e ↦ Le-trans lt o _ _ _ (up_to xs h fuel ((k - 1) / 2) d (omega arith) (omega arith)) (h k d e l)
      ]

  -- no record is before the root
  root_least : (x : X) (xs : List X) → IsMinHeap lt (x ∷ xs) → Each (Le lt x) xs
  root_least x xs h = each_from lt (Le lt x) xs (λ k d l. up_to (x ∷ xs) h (suc k) (suc k) d (omega arith) (omega arith))

  -- so the first record of a heap is the smallest, and is that too where the last ones are cut off
  pub first_is_least :
      ((a b : X) → Le lt a b → Le lt b a → a ≡ b) → (xs ys : List X) (x : X) → IsMinHeap lt (xs ++ ys) → slice_get xs 0 ≡ Some x → Some x ≡ first_of (take 1 (in_order lt (xs ++ ys)))
  first_is_least anti [] ys x h e = cc
  first_is_least anti (z ∷ xs) ys x h e =
      sym e ∙ ap first_of (front_is lt o anti (z ∷ xs ++ ys) (z ∷ []) (xs ++ ys) (tt, tt) (λ p. refl) (root_least z (xs ++ ys) h, tt))

  pub first_of_heap : ((a b : X) → Le lt a b → Le lt b a → a ≡ b) → (xs : List X) → IsMinHeap lt xs → slice_get xs 0 ≡ first_of (take 1 (in_order lt xs))
  unfolding in_order
  first_of_heap anti [] h = refl
  first_of_heap anti (x ∷ xs) h = ap first_of (front_is lt o anti (x ∷ xs) (x ∷ []) xs (tt, tt) (λ p. refl) (root_least x xs h, tt))

-- the smallest of a multiset of one record, and of none
module _ {X : Type 0} (lt : X → X → Bool) where
  pub least_of_one : (x : X) (xs : List X) → xs ≡ x ∷ [] → Some x ≡ first_of (take 1 (in_order lt xs))
  unfolding in_order put_in_order
  least_of_one x xs e = sym (ap (λ l. first_of (take 1 (in_order lt l))) e)

  pub least_of_none : (xs : List X) → xs ≡ [] → None ≡ first_of (take 1 (in_order lt xs))
  unfolding in_order
  least_of_none xs e = sym (ap (λ l. first_of (take 1 (in_order lt l))) e)

-- there is none only of no records
module _ {X : Type 0} (lt : X → X → Bool) where
  has_least : (x : X) (xs : List X) → None ≡ first_of (take 1 (put_in_order lt x xs)) → ⊥
  unfolding put_in_order
  has_least x [] e = absurd (cc)
  has_least x (y ∷ xs) e = chosen (lt y x) e
    where
      chosen : (b : Bool) → None ≡ first_of (take 1 (cond b (y ∷ put_in_order lt x xs) (x ∷ y ∷ xs))) → ⊥
      chosen true h = absurd (cc)
      chosen false h = absurd (cc)

  pub none_is_least : (xs : List X) (r : Option X) → r ≡ first_of (take 1 (in_order lt xs)) → IsNone r ↔ (xs ≡ [])
  unfolding in_order
  none_is_least [] None e = (λ _. refl, λ _. refl)
  none_is_least [] (Some r) e = absurd (cc)
  none_is_least (x ∷ xs) None e = absurd (has_least x (in_order lt xs) e)
  none_is_least (x ∷ xs) (Some r) e = (λ h. absurd (cc), λ h. absurd (cc))

-- one multiset in two orders
module _ {X : Type 0} (xs ys : List X) (bag : IsSameBag xs ys) where
  pub none-same_bag : xs ≡ [] → ys ≡ []
  none-same_bag e = nothing ys (sym (IsSameBag-length xs ys bag) ∙ ap length e)
    where
      nothing : (l : List X) → length l ≡ 0 → l ≡ []
      nothing [] h = refl
      nothing (x ∷ l) h = absurd (omega arith)

  pub some-same_bag : 0 < length xs → ys ≢ []
  some-same_bag l e = let long = IsSameBag-length xs ys bag in let none : length ys ≡ 0 = ap length e in omega arith

  pub least-same_bag : {cmp : X → X → Ordering} → IsTotalOrder cmp → ((x y : X) → cmp x y ≡ Equal → x ≡ y) → least cmp xs ≡ least cmp ys
  least-same_bag o same = ap (λ l. first_of (take 1 l)) (ascending-same_bag o same xs ys bag)
