-- Taking the smallest records of a multiset in rounds; and of the safe parts of runs, by a merge.
use Rattle.std.proofs.Common.{◌≡◌, ◌⊎◌, inl, inr, ℕ, ◌+◌, ◌≤◌, Bool, true, cond, List, [], ◌∷◌, ◌++◌, length, take, drop, min, Option, Some, None, refl, sym, ap, ◌∙◌, subst, arith, append_assoc, length-append, take-append-drop, zero, suc, false, length-take, true≢false}
use Rattle.std.specs.Prelude.{count_by}
use Rattle.std.specs.List.{AllByRecursion as Each}
use Rattle.std.specs.Cmp.{IsStrictWeakOrder}
use Rattle.std.specs.declared.cmp.Ordering.{Ordering}
use Rattle.std.proofs.lemmas.List.{take_all}
use Rattle.ppq_array.specs.ppq_record.Order.{is_before, Le, Rising, Ascends}
use Rattle.ppq_array.specs.ppq_record.Bag.{IsSameBag, ascending, front, without_front, size_below}
use Rattle.ppq_array.proofs.ppq_record.Order.{count_by-cons, count_by-append, IsSameBag-length, IsSameBag-append, Each_le-same_bag, Each-append_left, Each-append_right, Each-weaker, Each-append, Rising-append, Rising-take, Rising-in_order, in_order-same_bag, front_is, none_pass}
use Rattle.ppq_fetch.specs.Taking.{NoneAfter, IsTaken, wanted, AllBelow, NoneBelow, IsDownward, IsSafe}
use Rattle.std.proofs.lemmas.Bool.{cases_Bool, false_from_ne_true}
use Rattle.std.proofs.lemmas.List.Sums.{count_by-le-length}
use Rattle.ppq_array.specs.ppq_record.Runs.{all_of}
use Rattle.ppq_merge.specs.ppq_split.Cut.{AreWithin}
use Rattle.ppq_merge.specs.Parts.{before, after}
use Rattle.ppq_merge.proofs.Between.{count_by-before_after}
use Rattle.ppq_fetch.specs.Parts.{firsts, rests, passed}

-- in an ascending list no record is after a later one
pub parted : {X : Type 0} (lt : X → X → Bool) (xs ys : List X) → Rising lt (xs ++ ys) → Each (λ a. Each (Le lt a) ys) xs
parted lt [] ys r = tt
parted lt (x ∷ xs) ys r = (Each-append_right (Le lt x) xs ys r.0, parted lt xs ys r.1)

pub Rising-right : {X : Type 0} (lt : X → X → Bool) (xs ys : List X) → Rising lt (xs ++ ys) → Rising lt ys
Rising-right lt [] ys r = r
Rising-right lt (x ∷ xs) ys r = Rising-right lt xs ys r.1

pub all_pass : {X : Type 0} (p : X → Bool) (xs : List X) → Each (λ x. p x ≡ true) xs → count_by p xs ≡ length xs
all_pass p [] h = refl
all_pass p (x ∷ xs) h = let k : count_by p (x ∷ xs) ≡ 1 + count_by p xs = count_by-cons p x xs ∙ ap (λ b. cond b 1 0 + count_by p xs) h.0 in omega (arith, all_pass p xs h.1)

module _ {R : Type 0} (cmp : R → R → Ordering) (o : IsStrictWeakOrder (is_before cmp)) where
  -- nothing was taken
  pub taken_none : (bag : List R) → IsTaken cmp bag [] bag
  taken_none bag = record { moved = λ p. refl; ascends = tt; least = tt }

  -- more was taken of what was left
  pub taken_more : (bag out left more rest : List R) → IsTaken cmp bag out left → IsTaken cmp left more rest → IsTaken cmp bag (out ++ more) rest
  taken_more bag out left more rest s t =
      let lt : R → R → Bool = is_before cmp in
      let against : NoneAfter cmp out (more ++ rest) = Each_le-same_bag (is_before cmp) o out left out (more ++ rest) (λ q. refl) t.moved s.least in
      let first : NoneAfter cmp out more = Each-weaker (λ x. Each (Le (is_before cmp) x) (more ++ rest)) (λ x. Each (Le (is_before cmp) x) more) (λ x h. Each-append_left (Le (is_before cmp) x) more rest h) out against in
      let second : NoneAfter cmp out rest = Each-weaker (λ x. Each (Le (is_before cmp) x) (more ++ rest)) (λ x. Each (Le (is_before cmp) x) rest) (λ x h. Each-append_right (Le (is_before cmp) x) more rest h) out against in
      record {
        moved = λ p. s.moved p ∙ IsSameBag-append out out left (more ++ rest) (λ q. refl) t.moved p ∙ ap (count_by p) (sym (append_assoc out more rest));
        ascends = Rising-append (is_before cmp) o out more s.ascends t.ascends first;
        least = Each-append (λ x. Each (Le (is_before cmp) x) rest) out more second t.least;
      }

  -- what is left lies in another order
  pub taken_same : (bag out left left' : List R) → IsTaken cmp bag out left → IsSameBag left left' → IsTaken cmp bag out left'
  taken_same bag out left left' s e = record {
    moved = λ p. s.moved p ∙ IsSameBag-append out out left left' (λ q. refl) e p;
    ascends = s.ascends;
    least = Each_le-same_bag (is_before cmp) o out left out left' (λ q. refl) e s.least;
  }

  pub taken_of : (bag bag' out left : List R) → IsTaken cmp bag out left → IsSameBag bag' bag → IsTaken cmp bag' out left
  taken_of bag bag' out left s e = record { moved = λ p. e p ∙ s.moved p; ascends = s.ascends; least = s.least }

  -- a front was taken
  pub front_taken : (bag : List R) (n : ℕ) → IsTaken cmp bag (front cmp bag n) (without_front cmp bag n)
  front_taken bag n =
      let all : List R = ascending cmp bag in
      let whole : take n all ++ drop n all ≡ all = take-append-drop n all in
      record {
        moved = λ p. sym (in_order-same_bag (is_before cmp) o bag p) ∙ sym (ap (count_by p) whole);
        ascends = Rising-take (is_before cmp) o n all (Rising-in_order (is_before cmp) o bag);
        least = parted (is_before cmp) (take n all) (drop n all) (subst (λ xs. Rising (is_before cmp) xs) (sym whole) (Rising-in_order (is_before cmp) o bag));
      }

  both_after : (xs ys zs : List R) → NoneAfter cmp xs ys → NoneAfter cmp xs zs → NoneAfter cmp xs (ys ++ zs)
  both_after [] ys zs h k = tt
  both_after (x ∷ xs) ys zs h k = (Each-append (Le (is_before cmp) x) ys zs h.0 k.0, both_after xs ys zs h.1 k.1)

  -- A front of safe records is one of all: out is it, kept is what is left of the safe ones, and no safe record is after one of the rest
  pub taken_safe :
      (safe rest out kept : List R) (n : ℕ) → out ≡ front cmp safe n → IsSameBag safe (out ++ kept) → NoneAfter cmp safe rest
      → IsTaken cmp (safe ++ rest) out (kept ++ rest)
  taken_safe safe rest out kept n e bag none =
      let f : IsTaken cmp safe out (without_front cmp safe n) = subst (λ xs. IsTaken cmp safe xs (without_front cmp safe n)) (sym e) (front_taken safe n) in
      let same : IsSameBag (without_front cmp safe n) kept = λ p. omega (arith, count_by-append p out (without_front cmp safe n), count_by-append p out kept, f.moved p, bag p) in
      let k : IsTaken cmp safe out kept = taken_same safe out (without_front cmp safe n) kept f same in
      let both : NoneAfter cmp (out ++ kept) rest = Each_le-same_bag (is_before cmp) o safe rest (out ++ kept) rest bag (λ q. refl) none in
      let here : NoneAfter cmp out rest = Each-append_left (λ x. Each (Le (is_before cmp) x) rest) out kept both in
      record {
        moved = λ p. omega (arith, count_by-append p safe rest, count_by-append p out kept, count_by-append p kept rest, count_by-append p out (kept ++ rest), bag p);
        ascends = k.ascends;
        least = both_after out kept rest k.least here;
      }

  -- what was taken is the front of its size
  pub taken_front : ((a b : R) → Le (is_before cmp) a b → Le (is_before cmp) b a → a ≡ b) → (bag out left : List R) → IsTaken cmp bag out left → out ≡ front cmp bag (length out)
  taken_front anti bag out left s = front_is (is_before cmp) o anti bag out left s.ascends (λ p. sym (s.moved p)) s.least

  count_below : (l : R) (bag out left : List R) → IsTaken cmp bag out left → Each (λ x. is_before cmp x l ≡ true) out → size_below cmp bag l ≡ length out + size_below cmp left l
  count_below l bag out left s h = let t : R → Bool = λ x. is_before cmp x l in omega (arith, s.moved t, count_by-append t out left, all_pass t out h)

  -- what was taken is the front that was wanted, where it is as long as can be or nothing that is wanted is left
  pub taken_wanted :
      ((a b : R) → Le (is_before cmp) a b → Le (is_before cmp) b a → a ≡ b)
      → (most : ℕ) (below : Option R) (bag out left : List R) → IsTaken cmp bag out left → length out ≤ most → AllBelow cmp below out
      → (length out ≡ most) ⊎ NoneBelow cmp below left → out ≡ front cmp bag (wanted cmp most below bag)
  taken_wanted anti most None bag out left s few low end =
      elim end as (λ _. out ≡ front cmp bag most) [
        | inl e ↦ taken_front anti bag out left s ∙ ap (λ n. front cmp bag n) e
        | inr e ↦
            let all : List R = ascending cmp bag in
            let n : length all ≡ length out = omega (arith, IsSameBag-length all bag (in_order-same_bag (is_before cmp) o bag), IsSameBag-length bag (out ++ left) s.moved, length-append out left, ap length e) in
            taken_front anti bag out left s ∙ (take_all (length out) all (omega (arith, n)) ∙ sym (take_all most all (omega (arith, n, few))))
      ]
  taken_wanted anti most (Some l) bag out left s few low end =
      let c : size_below cmp bag l ≡ length out + size_below cmp left l = count_below l bag out left s low in
      elim end as (λ _. out ≡ front cmp bag (min most (size_below cmp bag l))) [
        | inl e ↦ taken_front anti bag out left s ∙ ap (λ n. front cmp bag n) (omega (arith, e, c))
        | inr e ↦ let z : size_below cmp left l ≡ 0 = none_pass (λ x. is_before cmp x l) left e in taken_front anti bag out left s ∙ ap (λ n. front cmp bag n) (omega (arith, z, c, few))
      ]

module _ {X : Type 0} where
  -- the records of the runs up to their places
  pub all_of-firsts : (cs : List ℕ) (qs : List (List X)) → all_of (firsts cs qs) ≡ before cs qs
  all_of-firsts [] qs = refl
  all_of-firsts (c ∷ cs) [] = refl
  all_of-firsts (c ∷ cs) (q ∷ qs) = ap (λ xs. take c q ++ xs) (all_of-firsts cs qs)

  pub all_of-rests : (cs : List ℕ) (qs : List (List X)) → all_of (rests cs qs) ≡ after cs qs
  all_of-rests [] qs = refl
  all_of-rests (c ∷ cs) [] = refl
  all_of-rests (c ∷ cs) (q ∷ qs) = ap (λ xs. drop c q ++ xs) (all_of-rests cs qs)

  -- the places of a front of the first parts are places of the runs
  pub within_whole : (cs bs : List ℕ) (qs : List (List X)) → AreWithin cs (firsts bs qs) → AreWithin bs qs → AreWithin cs qs
  within_whole [] [] [] w v = tt
  within_whole [] [] (q ∷ qs) w v = absurd v
  within_whole [] (b ∷ bs) [] w v = absurd v
  within_whole [] (b ∷ bs) (q ∷ qs) w v = absurd w
  within_whole (c ∷ cs) [] qs w v = absurd w
  within_whole (c ∷ cs) (b ∷ bs) [] w v = absurd v
  within_whole (c ∷ cs) (b ∷ bs) (q ∷ qs) w v = (omega (arith, w.0, length-take b q, v.0), within_whole cs bs qs w.1 v.1)

  drop_part : (c b : ℕ) (q : List X) → c ≤ length (take b q) → drop c (take b q) ++ drop b q ≡ drop c q
  drop_part zero b q h = take-append-drop b q
  drop_part (suc c) zero q h = absurd (omega arith)
  drop_part (suc c) (suc b) [] h = absurd (omega arith)
  drop_part (suc c) (suc b) (x ∷ q) h = drop_part c b q (omega arith)

  -- what is behind these places is what is left of the first parts, and what is behind those
  pub after_firsts : (cs bs : List ℕ) (qs : List (List X)) → AreWithin cs (firsts bs qs) → AreWithin bs qs → IsSameBag (after cs (firsts bs qs) ++ after bs qs) (after cs qs)
  after_firsts [] [] [] w v p = refl
  after_firsts [] [] (q ∷ qs) w v p = absurd v
  after_firsts [] (b ∷ bs) [] w v p = absurd v
  after_firsts [] (b ∷ bs) (q ∷ qs) w v p = absurd w
  after_firsts (c ∷ cs) [] qs w v p = absurd w
  after_firsts (c ∷ cs) (b ∷ bs) [] w v p = absurd v
  after_firsts (c ∷ cs) (b ∷ bs) (q ∷ qs) w v p =
      let a = after cs (firsts bs qs) in
      omega (
        arith,
        after_firsts cs bs qs w.1 v.1 p,
        ap (count_by p) (drop_part c b q w.0),
        count_by-append p (drop c (take b q)) (drop b q),
        count_by-append p (drop c (take b q)) a,
        count_by-append p (drop b q) (after bs qs),
        count_by-append p (drop c (take b q) ++ a) (drop b q ++ after bs qs),
        count_by-append p a (after bs qs),
        count_by-append p (drop c q) (after cs qs),
      )

  pub passed_within : (p : X → Bool) (qs : List (List X)) → AreWithin (passed p qs) qs
  passed_within p [] = tt
  passed_within p (q ∷ qs) = (count_by-le-length p q, passed_within p qs)

module _ {R : Type 0} (cmp : R → R → Ordering) (o : IsStrictWeakOrder (is_before cmp)) where
  -- what fails keeps failing
  fails_on : (p : R → Bool) → IsDownward cmp p → (x : R) (xs : List R) → p x ≡ false → Each (Le (is_before cmp) x) xs → Each (λ y. p y ≡ false) xs
  fails_on p down x xs e up = Each-weaker (Le (is_before cmp) x) (λ y. p y ≡ false) (λ y h. false_from_ne_true (p y) (λ t. true≢false (sym (down x y h t) ∙ e))) xs up

  -- in an ascending list those that pass stand before the others
  pub passes_first : (p : R → Bool) → IsDownward cmp p → (q : List R) → Ascends cmp q → Each (λ x. p x ≡ true) (take (count_by p q) q) × Each (λ x. p x ≡ false) (drop (count_by p q) q)
  passes_first p down [] up = (tt, tt)
  passes_first p down (x ∷ xs) up =
      elim (cases_Bool (p x)) as (λ _. Each (λ x. p x ≡ true) (take (count_by p (x ∷ xs)) (x ∷ xs)) × Each (λ x. p x ≡ false) (drop (count_by p (x ∷ xs)) (x ∷ xs))) [
        | inl e ↦
            let k0 : count_by p (x ∷ xs) ≡ 1 + count_by p xs = count_by-cons p x xs ∙ ap (λ b. cond b 1 0 + count_by p xs) e in
            let k : count_by p (x ∷ xs) ≡ suc (count_by p xs) = omega (arith, k0) in
            let r = passes_first p down xs up.1 in
            subst (λ n. Each (λ x. p x ≡ true) (take n (x ∷ xs)) × Each (λ x. p x ≡ false) (drop n (x ∷ xs))) (sym k) ((e, r.0), r.1)
        | inr e ↦
            let f = fails_on p down x xs e up.0 in
            let k0 : count_by p (x ∷ xs) ≡ 0 + count_by p xs = count_by-cons p x xs ∙ ap (λ b. cond b 1 0 + count_by p xs) e in
            let k : count_by p (x ∷ xs) ≡ 0 = omega (arith, k0, none_pass p xs f) in
            subst (λ n. Each (λ x. p x ≡ true) (take n (x ∷ xs)) × Each (λ x. p x ≡ false) (drop n (x ∷ xs))) (sym k) (tt, (e, f))
      ]

  pub all_pass_first : (p : R → Bool) → IsDownward cmp p → (qs : List (List R)) → Each (Ascends cmp) qs → Each (λ x. p x ≡ true) (before (passed p qs) qs) × Each (λ x. p x ≡ false) (after (passed p qs) qs)
  all_pass_first p down [] up = (tt, tt)
  all_pass_first p down (q ∷ qs) up =
      let here = passes_first p down q up.0 in
      let r = all_pass_first p down qs up.1 in (
        Each-append (λ x. p x ≡ true) (take (count_by p q) q) (before (passed p qs) qs) here.0 r.0,
        Each-append (λ x. p x ≡ false) (drop (count_by p q) q) (after (passed p qs) qs) here.1 r.1,
      )

  -- one that passes is not after one that fails
  pass_le : (p : R → Bool) → IsDownward cmp p → (x y : R) → p x ≡ true → p y ≡ false → Le (is_before cmp) x y
  pass_le p down x y t f = false_from_ne_true (is_before cmp y x) (λ b. true≢false (sym (down y x (o.one_way y x b) t) ∙ f))

  safe_apart : (p : R → Bool) → IsDownward cmp p → (xs ys waiting : List R) → Each (λ x. p x ≡ true) xs → Each (λ y. p y ≡ false) ys → IsSafe cmp p waiting → NoneAfter cmp xs (ys ++ waiting)
  safe_apart p down [] ys waiting t f safe = tt
  safe_apart p down (x ∷ xs) ys waiting t f safe = (
    Each-append (Le (is_before cmp) x) ys waiting (Each-weaker (λ y. p y ≡ false) (Le (is_before cmp) x) (λ y e. pass_le p down x y t.0 e) ys f) (safe x t.0),
    safe_apart p down xs ys waiting t.1 f safe,
  )

  pub rests_rise : (cs : List ℕ) (qs : List (List R)) → Each (Ascends cmp) qs → Each (Ascends cmp) (rests cs qs)
  rests_rise [] qs up = tt
  rests_rise (c ∷ cs) [] up = tt
  rests_rise (c ∷ cs) (q ∷ qs) up = (Rising-right (is_before cmp) (take c q) (drop c q) (subst (λ xs. Rising (is_before cmp) xs) (sym (take-append-drop c q)) up.0), rests_rise cs qs up.1)

  -- A merge of the smallest n of the safe loaded records takes the smallest of all records, loaded or waiting; the cut's places cs are what each
  -- run loses
  pub merge_step :
      (p : R → Bool) (qs : List (List R)) (waiting out : List R) (n : ℕ) (cs : List ℕ)
      → IsDownward cmp p → Each (Ascends cmp) qs → IsSafe cmp p waiting
      → out ≡ front cmp (all_of (firsts (passed p qs) qs)) n → AreWithin cs (firsts (passed p qs) qs) → IsSameBag out (before cs (firsts (passed p qs) qs))
      → IsTaken cmp (all_of qs ++ waiting) out (all_of (rests cs qs) ++ waiting) × Each (Ascends cmp) (rests cs qs)
  merge_step p qs waiting out n cs down up safe is within bag =
      let bs = passed p qs in
      let ws = passed_within p qs in
      let parts = all_pass_first p down qs up in
      let rest = after bs qs ++ waiting in
      let kept = after cs (firsts bs qs) in
      let apart : NoneAfter cmp (before bs qs) rest = safe_apart p down (before bs qs) (after bs qs) waiting parts.0 parts.1 safe in
      let all = all_of-firsts bs qs in
      let whole : IsSameBag (before bs qs) (out ++ kept) = λ t. omega (arith, ap (count_by t) all, count_by-before_after t cs (firsts bs qs) within, count_by-append t (before cs (firsts bs qs)) kept, count_by-append t out kept, bag t) in
      let taken : IsTaken cmp (before bs qs ++ rest) out (kept ++ rest) = taken_safe cmp o (before bs qs) rest out kept n (is ∙ ap (λ xs. front cmp xs n) all) whole apart in
      let left : IsSameBag (kept ++ rest) (all_of (rests cs qs) ++ waiting) = λ t. omega (
        arith,
        ap (count_by t) (all_of-rests cs qs),
        after_firsts cs bs qs within ws t,
        count_by-append t kept (after bs qs),
        count_by-append t kept rest,
        count_by-append t (after bs qs) waiting,
        count_by-append t (all_of (rests cs qs)) waiting,
      ) in
      let begin : IsSameBag (all_of qs ++ waiting) (before bs qs ++ rest) = λ t. omega (
        arith,
        count_by-before_after t bs qs ws,
        count_by-append t (before bs qs) (after bs qs),
        count_by-append t (all_of qs) waiting,
        count_by-append t (before bs qs) rest,
        count_by-append t (after bs qs) waiting,
      ) in (
        taken_of cmp o (before bs qs ++ rest) (all_of qs ++ waiting) out (all_of (rests cs qs) ++ waiting) (taken_same cmp o (before bs qs ++ rest) out (kept ++ rest) (all_of (rests cs qs) ++ waiting) taken left) begin,
        rests_rise cs qs up,
      )

module _ {X : Type 0} where
  pub within_take : (cs : List ℕ) (qs rs : List (List X)) → AreWithin cs (qs ++ rs) → AreWithin (take (length qs) cs) qs × AreWithin (drop (length qs) cs) rs
  within_take cs [] rs w = (tt, w)
  within_take [] (q ∷ qs) rs w = absurd w
  within_take (c ∷ cs) (q ∷ qs) rs w = let r = within_take cs qs rs w.1 in ((w.0, r.0), r.1)

  pub rests_parts : (cs : List ℕ) (qs rs : List (List X)) → rests cs (qs ++ rs) ≡ rests (take (length qs) cs) qs ++ rests (drop (length qs) cs) rs
  rests_parts cs [] rs = refl
  rests_parts [] (q ∷ qs) rs = refl
  rests_parts (c ∷ cs) (q ∷ qs) rs = ap (λ ys. drop c q ∷ ys) (rests_parts cs qs rs)

  each_part : (P : X → Type 0) (n : ℕ) (xs : List X) → Each P xs → Each P (take n xs)
  each_part P zero xs h = tt
  each_part P (suc n) [] h = tt
  each_part P (suc n) (x ∷ xs) h = (h.0, each_part P n xs h.1)

  pub each_before : (P : X → Type 0) (cs bs : List ℕ) (qs : List (List X)) → Each P (before bs qs) → Each P (before cs (firsts bs qs))
  each_before P [] bs qs h = tt
  each_before P (c ∷ cs) [] qs h = tt
  each_before P (c ∷ cs) (b ∷ bs) [] h = tt
  each_before P (c ∷ cs) (b ∷ bs) (q ∷ qs) h = Each-append P (take c (take b q)) (before cs (firsts bs qs)) (each_part P c (take b q) (Each-append_left P (take b q) (before bs qs) h)) (each_before P cs bs qs (Each-append_right P (take b q) (before bs qs) h))

pub firsts_rise : {R : Type 0} (cmp : R → R → Ordering) → IsStrictWeakOrder (is_before cmp) → (bs : List ℕ) (qs : List (List R)) → Each (Ascends cmp) qs → Each (Ascends cmp) (firsts bs qs)
firsts_rise cmp o [] qs up = tt
firsts_rise cmp o (b ∷ bs) [] up = tt
firsts_rise cmp o (b ∷ bs) (q ∷ qs) up = (Rising-take (is_before cmp) o b q up.0, firsts_rise cmp o bs qs up.1)
