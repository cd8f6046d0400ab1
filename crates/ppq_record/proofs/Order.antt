-- The theory of ascending lists and multisets, over a strict weak order `lt` and with no trait in it.
use Rattle.std.proofs.Common.{◌≡◌, ℕ, zero, suc, ◌+◌, ◌-◌, ◌<◌, Bool, true, false, cond, List, [], ◌∷◌, ◌++◌, length, take, min, refl, sym, ap, ap₂, inl, inr, ◌∙◌, arith, IsPermutation, true≢false}
use Rattle.std.specs.Prelude.{count_by}
use Rattle.std.specs.List.{AllByRecursion as Each}
use Rattle.std.specs.Cmp.{IsStrictWeakOrder}
use Rattle.std.proofs.lemmas.Bool.{cases_Bool}
use Rattle.std.proofs.lemmas.List.{take_at}
use Rattle.std.proofs.lemmas.List.Sums.{sum_by-cons, sum_by-append}
use Rattle.std.proofs.lemmas.List.Sorted.{sum_by-IsPermutation}
use Rattle.ppq_record.specs.Order.{Le, Rising, put_in_order, in_order}
use Rattle.ppq_record.specs.Bag.{IsSameBag}

-- neither is before the other
abbrev pub same : {X : Type 0} → (X → X → Bool) → X → X → Bool
same lt r x = cond (lt x r) false (cond (lt r x) false true)

module _ {X : Type 0} where
  -- `count_by` is a fold from the left, so a cons does not compute
  pub count_by-cons : (p : X → Bool) (x : X) (xs : List X) → count_by p (x ∷ xs) ≡ cond (p x) 1 0 + count_by p xs
  count_by-cons p x xs = sum_by-cons (λ y. cond (p y) 1 0) x xs

  pub count_by-append : (p : X → Bool) (xs ys : List X) → count_by p (xs ++ ys) ≡ count_by p xs + count_by p ys
  count_by-append p xs ys = sum_by-append (λ y. cond (p y) 1 0) xs ys

  pub count_by-all : (xs : List X) → count_by (λ _. true) xs ≡ length xs
  count_by-all [] = refl
  count_by-all (x ∷ xs) = omega (arith, count_by-all xs, count_by-cons (λ _. true) x xs)

  -- tests that agree count the same
  pub count_by-same_test : (p q : X → Bool) (xs : List X) → ((x : X) → p x ≡ q x) → count_by p xs ≡ count_by q xs
  count_by-same_test p q [] e = refl
  count_by-same_test p q (x ∷ xs) e = count_by-cons p x xs ∙ ap₂ (λ b n. cond b 1 0 + n) (e x) (count_by-same_test p q xs e) ∙ sym (count_by-cons q x xs)

  pub IsSameBag-length : (xs ys : List X) → IsSameBag xs ys → length xs ≡ length ys
  IsSameBag-length xs ys h = sym (count_by-all xs) ∙ (h (λ _. true) ∙ count_by-all ys)

  pub IsSameBag-trans : (xs ys zs : List X) → IsSameBag xs ys → IsSameBag ys zs → IsSameBag xs zs
  IsSameBag-trans xs ys zs h k p = h p ∙ k p

  pub IsSameBag-cons : (x : X) (xs ys : List X) → IsSameBag xs ys → IsSameBag (x ∷ xs) (x ∷ ys)
  IsSameBag-cons x xs ys h p = omega (arith, count_by-cons p x xs, count_by-cons p x ys, h p)

  pub IsSameBag-append : (xs ys us vs : List X) → IsSameBag xs ys → IsSameBag us vs → IsSameBag (xs ++ us) (ys ++ vs)
  IsSameBag-append xs ys us vs h k p = omega (arith, count_by-append p xs us, count_by-append p ys vs, h p, k p)

  pub IsSameBag-append_comm : (xs ys : List X) → IsSameBag (xs ++ ys) (ys ++ xs)
  IsSameBag-append_comm xs ys p = omega (arith, count_by-append p xs ys, count_by-append p ys xs)

  -- what exchanges reach is the same multiset
  pub IsSameBag-permutation : (xs ys : List X) → IsPermutation xs ys → IsSameBag xs ys
  IsSameBag-permutation xs ys moved p = sym (sum_by-IsPermutation (λ z. cond (p z) 1 0) xs ys moved)

  -- between a test that no record passes and what holds of each
  pub none_pass : (p : X → Bool) (xs : List X) → Each (λ x. p x ≡ false) xs → count_by p xs ≡ 0
  none_pass p [] h = refl
  none_pass p (x ∷ xs) h = count_by-cons p x xs ∙ ap₂ (λ b n. cond b 1 0 + n) h.0 (none_pass p xs h.1)

  pub each_fails : (p : X → Bool) (xs : List X) → count_by p xs ≡ 0 → Each (λ x. p x ≡ false) xs
  each_fails p [] h = tt
  each_fails p (x ∷ xs) h =
      elim (cases_Bool (p x)) as (λ _. (p x ≡ false) × Each (λ x. p x ≡ false) xs) [
        | inl e ↦ let k : 1 + count_by p xs ≡ 0 = sym (count_by-cons p x xs ∙ ap (λ b. cond b 1 0 + count_by p xs) e) ∙ h in absurd (omega arith)
        | inr e ↦ (e, each_fails p xs (let k : 0 + count_by p xs ≡ 0 = sym (count_by-cons p x xs ∙ ap (λ b. cond b 1 0 + count_by p xs) e) ∙ h in omega arith))
      ]

  -- a multiset's records pass what an equal multiset's records pass
  pub Each-same_bag : (p : X → Bool) (xs ys : List X) → IsSameBag xs ys → Each (λ x. p x ≡ false) xs → Each (λ x. p x ≡ false) ys
  Each-same_bag p xs ys h e = each_fails p ys (sym (h p) ∙ none_pass p xs e)

  pub Each-weaker : (P Q : X → Type 0) → ((x : X) → P x → Q x) → (xs : List X) → Each P xs → Each Q xs
  Each-weaker P Q f [] e = tt
  Each-weaker P Q f (x ∷ xs) e = (f x e.0, Each-weaker P Q f xs e.1)

  pub Each-append : (P : X → Type 0) (xs ys : List X) → Each P xs → Each P ys → Each P (xs ++ ys)
  Each-append P [] ys e f = f
  Each-append P (x ∷ xs) ys e f = (e.0, Each-append P xs ys e.1 f)

  pub Each-append_left : (P : X → Type 0) (xs ys : List X) → Each P (xs ++ ys) → Each P xs
  Each-append_left P [] ys e = tt
  Each-append_left P (x ∷ xs) ys e = (e.0, Each-append_left P xs ys e.1)

  pub Each-append_right : (P : X → Type 0) (xs ys : List X) → Each P (xs ++ ys) → Each P ys
  Each-append_right P [] ys e = e
  Each-append_right P (x ∷ xs) ys e = Each-append_right P xs ys e.1

  -- each against each, the other way round
  pub Each-turned : (P : X → X → Type 0) (xs ys : List X) → Each (λ a. Each (P a) ys) xs → Each (λ b. Each (λ a. P a b) xs) ys
  Each-turned P xs [] e = tt
  Each-turned P xs (y ∷ ys) e =
      (Each-weaker (λ a. Each (P a) (y ∷ ys)) (λ a. P a y) (λ a f. f.0) xs e, Each-turned P xs ys (Each-weaker (λ a. Each (P a) (y ∷ ys)) (λ a. Each (P a) ys) (λ a f. f.1) xs e))

module _ {X : Type 0} (lt : X → X → Bool) (o : IsStrictWeakOrder lt) where
  pub Le-refl : (x : X) → Le lt x x
  Le-refl x = elim (cases_Bool (lt x x)) as (λ _. lt x x ≡ false) [ inl e ↦ o.one_way x x e | inr e ↦ e ]

  pub Le-trans : (a b c : X) → Le lt a b → Le lt b c → Le lt a c
  Le-trans a b c h k = o.chain c b a k h

  -- multisets whose records all are in order stay so when they are rearranged
  pub Each_le-same_bag : (xs ys us vs : List X) → IsSameBag xs us → IsSameBag ys vs → Each (λ a. Each (Le lt a) ys) xs → Each (λ a. Each (Le lt a) vs) us
  Each_le-same_bag xs ys us vs h k e =
      let e1 = Each-weaker (λ a. Each (Le lt a) ys) (λ a. Each (Le lt a) vs) (λ a f. Each-same_bag (λ b. lt b a) ys vs k f) xs e in
      let e2 = Each-turned (Le lt) xs vs e1 in
      let e3 = Each-weaker (λ b. Each (λ a. Le lt a b) xs) (λ b. Each (λ a. Le lt a b) us) (λ b f. Each-same_bag (λ a. lt b a) xs us h f) vs e2 in
      Each-turned (λ b a. Le lt a b) vs us e3

  pub Rising-append : (xs ys : List X) → Rising lt xs → Rising lt ys → Each (λ a. Each (Le lt a) ys) xs → Rising lt (xs ++ ys)
  Rising-append [] ys h k e = k
  Rising-append (x ∷ xs) ys h k e = (Each-append (Le lt x) xs ys h.0 e.0, Rising-append xs ys h.1 k e.1)

  same-refl : (x r : X) → lt x r ≡ false → lt r x ≡ false → same lt r x ≡ true
  same-refl x r h k = rw (h, k) refl

  -- an item that is counted is there
  counted_there : (P : X → Type 0) (y : X) (xs : List X) → Each P xs → 0 < count_by (same lt y) xs → (z : X) × (P z × (same lt y z ≡ true))
  counted_there P y [] e h = absurd (omega arith)
  counted_there P y (x ∷ xs) e h =
      elim (cases_Bool (same lt y x)) as (λ _. (z : X) × (P z × (same lt y z ≡ true))) [
        | inl t ↦ (x, (e.0, t))
        | inr f ↦ (let k : count_by (same lt y) (x ∷ xs) ≡ 0 + count_by (same lt y) xs = count_by-cons (same lt y) x xs ∙ ap (λ b. cond b 1 0 + count_by (same lt y) xs) f in counted_there P y xs e.1 (omega arith))
      ]

  -- neither of two items that count as the same is before the other
  same-le : (r x : X) → same lt r x ≡ true → Le lt x r
  same-le r x h = elim (cases_Bool (lt r x)) as (λ _. lt r x ≡ false) [
    | inl t ↦ (let f : lt x r ≡ false = o.one_way r x t in let z : same lt r x ≡ false = rw (f, t) refl in absurd (true≢false (sym h ∙ z)))
    | inr f ↦ f
  ]

  pub same-itself : (x : X) → same lt x x ≡ true
  same-itself x = same-refl x x (Le-refl x) (Le-refl x)

  -- of two ascending lists with the same counts neither begins above the other
  first_le : (x : X) (xs : List X) (y : X) (ys : List X) → Each (Le lt x) xs → count_by (same lt y) (x ∷ xs) ≡ count_by (same lt y) (y ∷ ys) → Le lt x y
  first_le x xs y ys h b =
      let k : count_by (same lt y) (y ∷ ys) ≡ 1 + count_by (same lt y) ys = count_by-cons (same lt y) y ys ∙ ap (λ b. cond b 1 0 + count_by (same lt y) ys) (same-itself y) in
      let w = counted_there (Le lt x) y (x ∷ xs) (Le-refl x, h) (omega arith) in
      Le-trans x w.0 y w.1.0 (same-le y w.0 w.1.1)

  -- ascending lists with the same counts are one list
  pub same_counts :
      ((a b : X) → Le lt a b → Le lt b a → a ≡ b)
      → (xs ys : List X) → Rising lt xs → Rising lt ys → ((r : X) → count_by (same lt r) xs ≡ count_by (same lt r) ys) → xs ≡ ys
  same_counts anti [] [] h k b = refl
  same_counts anti [] (y ∷ ys) h k b =
      let e : count_by (same lt y) (y ∷ ys) ≡ 1 + count_by (same lt y) ys = count_by-cons (same lt y) y ys ∙ ap (λ b. cond b 1 0 + count_by (same lt y) ys) (same-itself y) in
      absurd (omega (arith, b y))
  same_counts anti (x ∷ xs) [] h k b =
      let e : count_by (same lt x) (x ∷ xs) ≡ 1 + count_by (same lt x) xs = count_by-cons (same lt x) x xs ∙ ap (λ b. cond b 1 0 + count_by (same lt x) xs) (same-itself x) in
      absurd (omega (arith, b x))
  same_counts anti (x ∷ xs) (y ∷ ys) h k b =
      let e = anti x y (first_le x xs y ys h.0 (b y)) (first_le y ys x xs k.0 (sym (b x))) in
      let rest : (r : X) → count_by (same lt r) xs ≡ count_by (same lt r) ys = λ r. (let q : ◌≡◌ {A = ℕ} (cond (same lt r x) 1 0) (cond (same lt r y) 1 0) = ap (λ z. cond (same lt r z) 1 0) e in omega (arith, count_by-cons (same lt r) x xs, count_by-cons (same lt r) y ys, b r, q)) in
      ap₂ ◌∷◌ e (same_counts anti xs ys h.1 k.1 rest)

  -- two ascending lists of the same multiset are one list
  pub same_rising :
      ((a b : X) → Le lt a b → Le lt b a → a ≡ b)
      → (xs ys : List X) → Rising lt xs → Rising lt ys → IsSameBag xs ys → xs ≡ ys
  same_rising anti xs ys h k b = same_counts anti xs ys h k (λ r. b (same lt r))

  -- sorting by insertion
  pub count_by-put : (p : X → Bool) (y : X) (xs : List X) → count_by p (put_in_order lt y xs) ≡ cond (p y) 1 0 + count_by p xs
  unfolding put_in_order
  count_by-put p y [] = count_by-cons p y []
  count_by-put p y (x ∷ xs) =
      elim (lt x y) as (λ v. count_by p (cond v (x ∷ put_in_order lt y xs) (y ∷ x ∷ xs)) ≡ cond (p y) 1 0 + count_by p (x ∷ xs)) [
        | true ↦ omega (arith, count_by-cons p x (put_in_order lt y xs), count_by-put p y xs, count_by-cons p x xs)
        | false ↦ count_by-cons p y (x ∷ xs)
      ]

  Each-put : (P : X → Type 0) (y : X) (xs : List X) → P y → Each P xs → Each P (put_in_order lt y xs)
  unfolding put_in_order
  Each-put P y [] h e = (h, tt)
  Each-put P y (x ∷ xs) h e =
      elim (lt x y) as (λ v. Each P (cond v (x ∷ put_in_order lt y xs) (y ∷ x ∷ xs))) [ true ↦ (e.0, Each-put P y xs h e.1) | false ↦ (h, e) ]

  pub Rising-put : (y : X) (xs : List X) → Rising lt xs → Rising lt (put_in_order lt y xs)
  unfolding put_in_order
  Rising-put y [] r = (tt, tt)
  Rising-put y (x ∷ xs) r =
      elim (cases_Bool (lt x y)) as (λ _. Rising lt (cond (lt x y) (x ∷ put_in_order lt y xs) (y ∷ x ∷ xs))) [
        | inl e ↦ rw e (Each-put (Le lt x) y xs (o.one_way x y e) r.0, Rising-put y xs r.1)
        | inr e ↦ rw e ((e, Each-weaker (Le lt x) (Le lt y) (λ z h. Le-trans y x z e h) xs r.0), r)
      ]

  pub in_order-same_bag : (xs : List X) → IsSameBag (in_order lt xs) xs
  unfolding in_order
  in_order-same_bag [] p = refl
  in_order-same_bag (x ∷ xs) p = omega (arith, count_by-put p x (in_order lt xs), in_order-same_bag xs p, count_by-cons p x xs)

  pub Rising-in_order : (xs : List X) → Rising lt (in_order lt xs)
  unfolding in_order
  Rising-in_order [] = tt
  Rising-in_order (x ∷ xs) = Rising-put x (in_order lt xs) (Rising-in_order xs)

  -- k records that are ascending, and of which none is after one of the rest, are the front
  pub front_is :
      ((a b : X) → Le lt a b → Le lt b a → a ≡ b)
      → (s out rest : List X) → Rising lt out → IsSameBag (out ++ rest) s → Each (λ a. Each (Le lt a) rest) out
      → out ≡ take (length out) (in_order lt s)
  front_is anti s out rest r b e =
      let sr = in_order lt rest in
      let eb : Each (λ a. Each (Le lt a) sr) out = Each_le-same_bag out rest out sr (λ p. refl) (λ p. sym (in_order-same_bag rest p)) e in
      let up = Rising-append out sr r (Rising-in_order rest) eb in
      let bag : IsSameBag (out ++ sr) (in_order lt s) = λ p. omega (arith, count_by-append p out sr, count_by-append p out rest, b p, in_order-same_bag rest p, in_order-same_bag s p) in
      let one = same_rising anti (out ++ sr) (in_order lt s) up (Rising-in_order s) bag in
      sym (take_at out sr (length out) refl) ∙ ap (take (length out)) one

  -- how often a record stands in the front
  none_same_above : (r : X) (xs : List X) → Each (λ x. lt r x ≡ true) xs → count_by (same lt r) xs ≡ 0
  none_same_above r xs h =
      none_pass (same lt r) xs (Each-weaker (λ x. lt r x ≡ true) (λ x. same lt r x ≡ false) (λ x e. rw (o.one_way r x e, e) refl) xs h)

  above : (r x : X) (xs : List X) → lt r x ≡ true → Each (Le lt x) xs → Each (λ y. lt r y ≡ true) xs
  above r x xs h e = Each-weaker (Le lt x) (λ y. lt r y ≡ true) (λ y k.
      elim (cases_Bool (lt r y)) as (λ _. lt r y ≡ true) [ inl t ↦ t | inr f ↦ (let z : lt r x ≡ false = o.chain r y x f k in cc) ]) xs e

  Each-take : (P : X → Type 0) (k : ℕ) (xs : List X) → Each P xs → Each P (take k xs)
  Each-take P zero xs e = tt
  Each-take P (suc k) [] e = tt
  Each-take P (suc k) (x ∷ xs) e = (e.0, Each-take P k xs e.1)

  pub Rising-take : (k : ℕ) (xs : List X) → Rising lt xs → Rising lt (take k xs)
  Rising-take zero xs r = tt
  Rising-take (suc k) [] r = tt
  Rising-take (suc k) (x ∷ xs) r = (Each-take (Le lt x) k xs r.0, Rising-take k xs r.1)

  pub counts_of_take :
      (r : X) (k : ℕ) (xs : List X) → Rising lt xs
      → count_by (same lt r) (take k xs) ≡ min (count_by (same lt r) xs) (k - count_by (λ x. lt x r) xs)
  counts_of_take r zero xs h = omega arith
  counts_of_take r (suc k) [] h = omega arith
  counts_of_take r (suc k) (x ∷ xs) h =
      let a = count_by-cons (same lt r) x (take k xs) in
      let b = count_by-cons (same lt r) x xs in
      let d = count_by-cons (λ x. lt x r) x xs in
      let ih = counts_of_take r k xs h.1 in
      elim (cases_Bool (lt x r)) as (λ _. count_by (same lt r) (x ∷ take k xs) ≡ min (count_by (same lt r) (x ∷ xs)) (suc k - count_by (λ x. lt x r) (x ∷ xs))) [
        | inl e ↦
            let s : same lt r x ≡ false = rw e refl in
            let a' : count_by (same lt r) (x ∷ take k xs) ≡ 0 + count_by (same lt r) (take k xs) = a ∙ ap (λ v. cond v 1 0 + count_by (same lt r) (take k xs)) s in
            let b' : count_by (same lt r) (x ∷ xs) ≡ 0 + count_by (same lt r) xs = b ∙ ap (λ v. cond v 1 0 + count_by (same lt r) xs) s in
            let d' : count_by (λ x. lt x r) (x ∷ xs) ≡ 1 + count_by (λ x. lt x r) xs = d ∙ ap (λ v. cond v 1 0 + count_by (λ x. lt x r) xs) e in
            omega arith
        | inr e ↦
            let low : count_by (λ y. lt y r) xs ≡ 0 = none_pass (λ y. lt y r) xs (Each-weaker (Le lt x) (λ y. lt y r ≡ false) (λ y k. o.chain y x r k e) xs h.0) in
            let d' : count_by (λ x. lt x r) (x ∷ xs) ≡ 0 + count_by (λ x. lt x r) xs = d ∙ ap (λ v. cond v 1 0 + count_by (λ x. lt x r) xs) e in
            elim (cases_Bool (lt r x)) as (λ _. count_by (same lt r) (x ∷ take k xs) ≡ min (count_by (same lt r) (x ∷ xs)) (suc k - count_by (λ x. lt x r) (x ∷ xs))) [
              | inl g ↦
                  let s : same lt r x ≡ false = rw (e, g) refl in
                  let n = none_same_above r xs (above r x xs g h.0) in
                  let a' : count_by (same lt r) (x ∷ take k xs) ≡ 0 + count_by (same lt r) (take k xs) = a ∙ ap (λ v. cond v 1 0 + count_by (same lt r) (take k xs)) s in
                  let b' : count_by (same lt r) (x ∷ xs) ≡ 0 + count_by (same lt r) xs = b ∙ ap (λ v. cond v 1 0 + count_by (same lt r) xs) s in
                  omega arith
              | inr f ↦
                  let s = same-refl x r e f in
                  let a' : count_by (same lt r) (x ∷ take k xs) ≡ 1 + count_by (same lt r) (take k xs) = a ∙ ap (λ v. cond v 1 0 + count_by (same lt r) (take k xs)) s in
                  let b' : count_by (same lt r) (x ∷ xs) ≡ 1 + count_by (same lt r) xs = b ∙ ap (λ v. cond v 1 0 + count_by (same lt r) xs) s in
                  omega arith
            ]
      ]
