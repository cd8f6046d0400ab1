-- The heaps of several workers: one is replaced, what all of them have, and the smallest of all.
use Rattle.std.proofs.Common.{◌≡◌, ◌≢◌, inl, inr, ℕ, zero, suc, ◌+◌, ◌*◌, ◌<◌, ◌≤◌, ◌^◌, true, false, Bool, List, [], ◌∷◌, ◌++◌, All, length, take, get_or, set, map, if◌then◌else◌, replicate, Option, Some, None, refl, sym, ap, ap₂, ◌∙◌, subst, arith, length-append}
use Rattle.std.specs.Prelude.{count_by}
use Rattle.std.specs.declared.cmp.Ordering.{Ordering}
use Rattle.std.specs.Cmp.{IsStrictWeakOrder}
use Rattle.std.specs.List.{AllByRecursion as Each}
use Rattle.std.proofs.Math.Seq.{map-set_same}
use Rattle.std.proofs.lemmas.Bool.{cases_eq}
use Rattle.std.proofs.lemmas.List.{get_or-map, get_or_default, get_or-replicate, length-map, length-set, length-replicate, map-set, map_more, take_all, take_more_set, get_or-set_same, get_or-set_other}
use Rattle.std.proofs.lemmas.List.Elements.{All-set, All-head, All-tail}
use Rattle.ppq_tree.specs.ppq_record.Order.{is_before, Le, Rising, in_order}
use Rattle.ppq_tree.specs.ppq_record.Bag.{IsSameBag, first_of, least}
use Rattle.ppq_tree.proofs.ppq_record.Order.{count_by-cons, count_by-append, IsSameBag-length, Each-same_bag, Each-weaker, Each-append, Le-refl, Le-trans, in_order-same_bag, Rising-in_order, front_is}
use Rattle.ppq_tree.specs.Tree.{IsLeastLeaf, HasNoItems}
use Rattle.ppq_heap.specs.Heap.{Contents}
use Rattle.ppq_heap.specs.Heaps.{Shares, empty_heap, cap_of, items_in, share_at, AreShares, HasLeasts, ChangesOnly, Left}

-- the shares of these heaps
abbrev pub shares_of : {R : Type 0} → List (Contents R) → Shares R
shares_of heaps = record { heaps = heaps; cap = cap_of heaps }

module _ {R : Type 0} where
  -- one heap in place of another: what one of them has, the heaps with the other lack
  pub counts-set :
      (p : R → Bool) (heaps : List (Contents R)) (place : ℕ) (heap d : Contents R) → place < length heaps
      → count_by p heap.items + count_by p (items_in heaps) ≡ count_by p (get_or heaps place d).items + count_by p (items_in (set heaps place heap))
  counts-set p [] place heap d l = absurd (omega arith)
  counts-set p (x ∷ xs) zero heap d l = omega (arith, count_by-append p x.items (items_in xs), count_by-append p heap.items (items_in xs))
  counts-set p (x ∷ xs) (suc place) heap d l =
      omega (arith, counts-set p xs place heap d (omega arith), count_by-append p x.items (items_in xs), count_by-append p x.items (items_in (set xs place heap)))

  -- so many heaps of at most so many records each
  pub length_all : (heaps : List (Contents R)) (cap : ℕ) → All (λ (h : Contents R). length h.items ≤ cap) heaps → length (items_in heaps) ≤ length heaps * cap
  length_all [] cap h = omega arith
  length_all (x ∷ xs) cap h =
      let rest = length_all xs cap (All-tail (λ (h : Contents R). length h.items ≤ cap) x xs h) in
      let first = All-head (λ (h : Contents R). length h.items ≤ cap) x xs h in
      omega (arith, length-append x.items (items_in xs), rest, first)

  -- heaps without records
  pub items-replicate : (n cap : ℕ) → items_in (replicate n (empty_heap {R = R} cap)) ≡ []
  items-replicate zero cap = refl
  items-replicate (suc n) cap = items-replicate n cap

  pub cap-set : (heaps : List (Contents R)) (place : ℕ) (heap : Contents R) → heap.cap ≡ cap_of heaps → cap_of (set heaps place heap) ≡ cap_of heaps
  cap-set [] place heap e = refl
  cap-set (x ∷ xs) zero heap e = e
  cap-set (x ∷ xs) (suc place) heap e = refl

  -- a heap in place of another with the same room
  pub shares-set :
      (heaps : List (Contents R)) (place : ℕ) (heap : Contents R) → AreShares (shares_of heaps) → heap.cap ≡ cap_of heaps → length heap.items ≤ cap_of heaps → AreShares (shares_of (set heaps place heap))
  shares-set heaps place heap h c w =
      let long = length-set heaps place heap in
      let same = cap-set heaps place heap c in
      record {
        some = omega (arith, h.some, long);
        few = omega (arith, h.few, long);
        cap = omega (arith, h.cap, same);
        caps = subst (λ n. All (λ (x : Contents R). x.cap ≡ n) (set heaps place heap)) (sym same) (All-set (λ (x : Contents R). x.cap ≡ cap_of heaps) heaps place heap c h.caps);
        within = subst (λ n. All (λ (x : Contents R). length x.items ≤ n) (set heaps place heap)) (sym same) (All-set (λ (x : Contents R). length x.items ≤ cap_of heaps) heaps place heap w h.within);
      }

  -- a heap with one record more, where it had room
  pub shares-push :
      (heaps : List (Contents R)) (place : ℕ) (old new : Contents R) (x : R) → place < length heaps → AreShares (shares_of heaps) → old ≡ get_or heaps place old
      → IsSameBag new.items (x ∷ old.items) → new.cap ≡ old.cap → (length old.items ≡ old.cap → ⊥) → AreShares (shares_of (set heaps place new))
  shares-push heaps place old new x l h is bag c room =
      let caps : old.cap ≡ cap_of heaps = ap (λ (h : Contents R). h.cap) is ∙ h.caps place old l in
      let within : length old.items ≤ cap_of heaps = subst (λ (h : Contents R). length h.items ≤ cap_of heaps) (sym is) (h.within place old l) in
      let more : length new.items ≡ suc (length old.items) = IsSameBag-length new.items (x ∷ old.items) bag in
      let less : length old.items ≢ old.cap = room in
      shares-set heaps place new h (c ∙ caps) (omega arith)

  -- a heap with no more records than before
  pub shares-fewer :
      (heaps : List (Contents R)) (place : ℕ) (old new : Contents R) → place < length heaps → AreShares (shares_of heaps) → old ≡ get_or heaps place old
      → length new.items ≤ length old.items → new.cap ≡ old.cap → AreShares (shares_of (set heaps place new))
  shares-fewer heaps place old new l h is fewer c =
      let caps : old.cap ≡ cap_of heaps = ap (λ (h : Contents R). h.cap) is ∙ h.caps place old l in
      let within : length old.items ≤ cap_of heaps = subst (λ (h : Contents R). length h.items ≤ cap_of heaps) (sym is) (h.within place old l) in
      shares-set heaps place new h (c ∙ caps) (omega arith)

  -- only one heap is another
  pub changes-set : (heaps : List (Contents R)) (place : ℕ) (new : Contents R) → new.cap ≡ cap_of heaps → ChangesOnly place (shares_of heaps) (shares_of (set heaps place new))
  changes-set heaps place new c = record {
    count = length-set heaps place new;
    cap = cap-set heaps place new c;
    others = λ other n. ap (λ (h : Contents R). h.items) (get_or-set_other heaps place other new (empty_heap 0) n);
  }

  -- a record left one of the heaps
  pub left-set :
      (heaps : List (Contents R)) (place : ℕ) (old new : Contents R) (x : R) → place < length heaps → AreShares (shares_of heaps) → old ≡ get_or heaps place old
      → IsSameBag old.items (x ∷ new.items) → new.cap ≡ old.cap → Left place (shares_of heaps) x (shares_of (set heaps place new))
  left-set heaps place old new x l h is bag c = record {
    there = l;
    share = λ p.
        ap (λ (h : Contents R). count_by p h.items) (get_or_default heaps place (empty_heap 0) old l ∙ sym is)
        ∙ (bag p ∙ ap (λ (h : Contents R). count_by p (x ∷ h.items)) (sym (get_or-set_same heaps place new (empty_heap 0) l)));
    others = changes-set heaps place new (c ∙ (ap (λ (h : Contents R). h.cap) is ∙ h.caps place old l));
  }

  -- where a heap has no more records than before, that holds of each place
  pub shorter-set :
      (heaps : List (Contents R)) (place : ℕ) (old new : Contents R) → place < length heaps → old ≡ get_or heaps place old → length new.items ≤ length old.items
      → (other : ℕ) → length (share_at (shares_of (set heaps place new)) other) ≤ length (share_at (shares_of heaps) other)
  shorter-set heaps place old new l is fewer other =
      elim (cases_eq other place) as (λ _. length (share_at (shares_of (set heaps place new)) other) ≤ length (share_at (shares_of heaps) other)) [
        | inl e ↦ (
            let here : length (share_at (shares_of (set heaps place new)) other) ≡ length new.items = ap (λ i. length (share_at (shares_of (set heaps place new)) i)) e ∙ ap (λ (h : Contents R). length h.items) (get_or-set_same heaps place new (empty_heap 0) l) in
            let was : length (share_at (shares_of heaps) other) ≡ length old.items = ap (λ i. length (share_at (shares_of heaps) i)) e ∙ ap (λ (h : Contents R). length h.items) (get_or_default heaps place (empty_heap 0) old l ∙ sym is) in
            omega arith)
        | inr n ↦ (
            let same : length (share_at (shares_of (set heaps place new)) other) ≡ length (share_at (shares_of heaps) other) = ap (λ (h : Contents R). length h.items) (get_or-set_other heaps place other new (empty_heap 0) n) in
            omega arith)
      ]

  -- heaps as they are at first
  pub shares-new : (n cap : ℕ) → 0 < n → n < 2 ^ 32 → cap < 2 ^ 32 → AreShares (shares_of (replicate n (empty_heap {R = R} cap)))
  shares-new zero cap some few c = absurd (omega arith)
  shares-new (suc n) cap some few c =
      let heap : Contents R = empty_heap cap in
      let long : length (replicate (suc n) heap) ≡ suc n = length-replicate (suc n) heap in
      let at : (k : ℕ) (d : Contents R) → k < length (replicate (suc n) heap) → get_or (replicate (suc n) heap) k d ≡ heap = λ k d l. get_or-replicate (suc n) k heap d (omega arith) in
      record {
        some = omega arith;
        few = omega arith;
        cap = c;
        caps = λ k d l. ap (λ (h : Contents R). h.cap) (at k d l);
        within = λ k d l. (let none : length (get_or (replicate (suc n) heap) k d).items ≡ 0 = ap (λ (h : Contents R). length h.items) (at k d l) in omega arith);
      }

  -- heaps with the same room
  pub shares-all :
      (heaps : List (Contents R)) → 0 < length heaps → length heaps < 2 ^ 32 → All (λ (h : Contents R). h.cap ≡ cap_of heaps) heaps → All (λ (h : Contents R). (length h.items ≤ h.cap) × (h.cap < 2 ^ 32)) heaps
      → AreShares (shares_of heaps)
  shares-all heaps some few caps within = record {
    some = some;
    few = few;
    cap = subst (λ n. n < 2 ^ 32) (caps 0 (empty_heap 0) some) (within 0 (empty_heap 0) some).1;
    caps = caps;
    within = λ k d l. subst (λ n. length (get_or heaps k d).items ≤ n) (caps k d l) (within k d l).0;
  }

  -- and where one has a record less
  pub bag-take :
      (heaps : List (Contents R)) (place : ℕ) (old new : Contents R) (x : R) → place < length heaps → old ≡ get_or heaps place old
      → IsSameBag old.items (x ∷ new.items) → IsSameBag (items_in heaps) (x ∷ items_in (set heaps place new))
  bag-take heaps place old new x l is bag p =
      let read : count_by p old.items ≡ count_by p (get_or heaps place old).items = ap (λ (h : Contents R). count_by p h.items) is in
      omega (arith, counts-set p heaps place new old l, bag p, read, count_by-cons p x new.items, count_by-cons p x (items_in (set heaps place new)))

module _ {X : Type 0} (lt : X → X → Bool) (o : IsStrictWeakOrder lt) (anti : (a b : X) → Le lt a b → Le lt b a → a ≡ b) where
  -- a record of the multiset that is not after any of them
  pub record IsLeastOf (bag : List X) (x : X) : Type 0 where
    pub rest : List X
    pub same : IsSameBag (x ∷ rest) bag
    pub low : Each (Le lt x) bag

  pub least_is : (bag : List X) (x : X) (rest : List X) → IsSameBag (x ∷ rest) bag → Each (Le lt x) bag → Some x ≡ first_of (take 1 (in_order lt bag))
  least_is bag x rest same low =
      let all : Each (Le lt x) (x ∷ rest) = Each-same_bag (λ a. lt a x) bag (x ∷ rest) (λ p. sym (same p)) low in
      ap first_of (front_is lt o anti bag (x ∷ []) rest (tt, tt) same (all.1, tt))

  first_parts : (sorted bag : List X) (x : X) → Rising lt sorted → IsSameBag sorted bag → first_of (take 1 sorted) ≡ Some x → IsLeastOf bag x
  first_parts [] bag x r s e = absurd (cc)
  first_parts (y ∷ ys) bag x r s e =
      let h : y ≡ x = cc in
      record {
        rest = ys;
        same = λ p. ap (λ z. count_by p (z ∷ ys)) (sym h) ∙ s p;
        low = Each-same_bag (λ a. lt a x) (y ∷ ys) bag s (subst (λ z. Each (Le lt z) (y ∷ ys)) h (Le-refl lt o y, r.0));
      }

  pub least_parts : (bag : List X) (x : X) → first_of (take 1 (in_order lt bag)) ≡ Some x → IsLeastOf bag x
  least_parts bag x e = first_parts (in_order lt bag) bag x (Rising-in_order lt o bag) (in_order-same_bag lt o bag) e

  none_parts : (sorted bag : List X) → IsSameBag sorted bag → first_of (take 1 sorted) ≡ None → bag ≡ []
  none_parts [] [] s e = refl
  none_parts [] (x ∷ xs) s e = let l : 0 ≡ suc (length xs) = IsSameBag-length [] (x ∷ xs) s in absurd (omega arith)
  none_parts (y ∷ ys) bag s e = absurd (cc)

  pub least_none : (bag : List X) → first_of (take 1 (in_order lt bag)) ≡ None → bag ≡ []
  least_none bag e = none_parts (in_order lt bag) bag (in_order-same_bag lt o bag) e

  -- a record comes to a multiset: it is the smallest where it is before the smallest so far, or is alone
  pub least_with_less : (old new : List X) (y x : X) → first_of (take 1 (in_order lt old)) ≡ Some y → IsSameBag new (x ∷ old) → lt x y ≡ true → first_of (take 1 (in_order lt new)) ≡ Some x
  least_with_less old new y x e s less =
      let parts = least_parts old y e in
      let low : Each (Le lt x) old = Each-weaker (Le lt y) (Le lt x) (λ a h. Le-trans lt o x y a (o.one_way x y less) h) old parts.low in
      sym (least_is new x old (λ p. sym (s p)) (Each-same_bag (λ a. lt a x) (x ∷ old) new (λ p. sym (s p)) (Le-refl lt o x, low)))

  pub least_with_more : (old new : List X) (y x : X) → first_of (take 1 (in_order lt old)) ≡ Some y → IsSameBag new (x ∷ old) → lt x y ≡ false → first_of (take 1 (in_order lt new)) ≡ Some y
  least_with_more old new y x e s more =
      let parts = least_parts old y e in
      let same : IsSameBag (y ∷ x ∷ parts.rest) new = λ p.
      omega (arith, s p, parts.same p, count_by-cons p x old, count_by-cons p y (x ∷ parts.rest), count_by-cons p x parts.rest, count_by-cons p y parts.rest) in
      sym (least_is new y (x ∷ parts.rest) same (Each-same_bag (λ a. lt a y) (x ∷ old) new (λ p. sym (s p)) (more, parts.low)))

  pub least_alone : (new : List X) (x : X) → IsSameBag new (x ∷ []) → first_of (take 1 (in_order lt new)) ≡ Some x
  least_alone new x s = sym (least_is new x [] (λ p. sym (s p)) (Each-same_bag (λ a. lt a x) (x ∷ []) new (λ p. sym (s p)) (Le-refl lt o x, tt)))

module _ {R : Type 0} (cmp : R → R → Ordering) (o : IsStrictWeakOrder (is_before cmp)) (anti : (a b : R) → Le (is_before cmp) a b → Le (is_before cmp) b a → a ≡ b) where
  share_low : (x : R) (items : List R) (found : Option R) → least cmp items ≡ found → ((y : R) → found ≡ Some y → Le (is_before cmp) x y) → Each (Le (is_before cmp) x) items
  share_low x items None e h = subst (Each (Le (is_before cmp) x)) (sym (least_none (is_before cmp) o anti items e)) tt
  share_low x items (Some y) e h =
      Each-weaker (Le (is_before cmp) y) (Le (is_before cmp) x) (λ a k. Le-trans (is_before cmp) o x y a (h y refl) k) items (least_parts (is_before cmp) o anti items y e).low

  all_low : (x : R) (heaps : List (Contents R)) → ((i : ℕ) (y : R) → get_or (map (λ (h : Contents R). least cmp h.items) heaps) i None ≡ Some y → Le (is_before cmp) x y) → Each (Le (is_before cmp) x) (items_in heaps)
  all_low x [] h = tt
  all_low x (heap ∷ heaps) h =
      Each-append (Le (is_before cmp) x) heap.items (items_in heaps) (share_low x heap.items (least cmp heap.items) refl (h 0)) (all_low x heaps (λ i. h (suc i)))

  -- a record comes to the multiset, and it was asked whether it is before the smallest so far
  pub pushed_none : (old new : List R) (x : R) (b : Bool) → least cmp old ≡ None → IsSameBag new (x ∷ old) → b ≡ true → least cmp new ≡ (if b then Some x else least cmp old)
  pushed_none old new x b e s t =
      let alone : IsSameBag new (x ∷ []) = λ p. s p ∙ ap (λ xs. count_by p (x ∷ xs)) (least_none (is_before cmp) o anti old e) in
      least_alone (is_before cmp) o anti new x alone ∙ ap (λ c. if c then Some x else least cmp old) (sym t)

  pub pushed_some : (old new : List R) (x y : R) (b : Bool) → least cmp old ≡ Some y → IsSameBag new (x ∷ old) → b ≡ is_before cmp x y → least cmp new ≡ (if b then Some x else least cmp old)
  pushed_some old new x y true e s t = least_with_less (is_before cmp) o anti old new y x e s (sym t)
  pushed_some old new x y false e s t = least_with_more (is_before cmp) o anti old new y x e s (sym t) ∙ sym e

  -- the heap that won has the smallest of all records
  pub winner_share :
      (heaps : List (Contents R)) (leaves : List (Option R)) (leaf : ℕ) (x : R) (d : Contents R) → HasLeasts cmp heaps leaves → leaf < length leaves → IsLeastLeaf cmp leaves leaf x
      → least cmp (get_or heaps leaf d).items ≡ Some x
  unfolding HasLeasts
  winner_share heaps leaves leaf x d h l won =
      let long : leaf < length heaps = omega (arith, ap length h, length-map heaps (λ (h : Contents R). least cmp h.items)) in
      sym (get_or-map (λ (h : Contents R). least cmp h.items) heaps leaf d None long) ∙ (ap (λ ls. get_or ls leaf None) (sym h) ∙ won.there)

  pub winner_least :
      (heaps : List (Contents R)) (leaves : List (Option R)) (leaf : ℕ) (x : R) → HasLeasts cmp heaps leaves → leaf < length leaves → IsLeastLeaf cmp leaves leaf x → Some x ≡ least cmp (items_in heaps)
  unfolding HasLeasts
  winner_least heaps leaves leaf x h l won =
      let lt = is_before cmp in
      let d : Contents R = empty_heap 0 in
      let long : leaf < length heaps = omega (arith, ap length h, length-map heaps (λ (h : Contents R). least cmp h.items)) in
      let parts = least_parts lt o anti (get_or heaps leaf d).items x (winner_share heaps leaves leaf x d h l won) in
      let heap : Contents R = record { items = parts.rest; cap = 0 } in
      let same : IsSameBag (x ∷ items_in (set heaps leaf heap)) (items_in heaps) = λ p.
      omega (arith, counts-set p heaps leaf heap d long, parts.same p, count_by-cons p x parts.rest, count_by-cons p x (items_in (set heaps leaf heap))) in
      least_is lt o anti (items_in heaps) x (items_in (set heaps leaf heap)) same
      (all_low x heaps (λ i y e. won.least i y (ap (λ ls. get_or ls i None) h ∙ e)))

  no_items : (heaps : List (Contents R)) → HasNoItems (map (λ (h : Contents R). least cmp h.items) heaps) → items_in heaps ≡ []
  no_items [] h = refl
  no_items (heap ∷ heaps) h = ap₂ (λ (a b : List R). a ++ b) (least_none (is_before cmp) o anti heap.items (nothing (least cmp heap.items) (h 0))) (no_items heaps (λ i. h (suc i)))
    where
      nothing : (found : Option R) → ((y : R) → found ≡ Some y → ⊥) → found ≡ None
      nothing None h = refl
      nothing (Some y) h = absurd (h y refl)

  -- without a winner no heap has a record
  pub no_winner : (heaps : List (Contents R)) (leaves : List (Option R)) → HasLeasts cmp heaps leaves → HasNoItems leaves → items_in heaps ≡ []
  unfolding HasLeasts
  no_winner heaps leaves h none = no_items heaps (subst HasNoItems h none)

module _ {R : Type 0} (cmp : R → R → Ordering) where
  pub leasts-length : (heaps : List (Contents R)) (leaves : List (Option R)) → HasLeasts cmp heaps leaves → length leaves ≡ length heaps
  unfolding HasLeasts
  leasts-length heaps leaves h = ap length h ∙ length-map heaps (λ (h : Contents R). least cmp h.items)

  -- no heap has a record, and no leaf an item
  pub leasts-new : (n cap : ℕ) → HasLeasts cmp (replicate n (empty_heap {R = R} cap)) (replicate n None)
  unfolding HasLeasts in_order
  leasts-new zero cap = refl
  leasts-new (suc n) cap = ap (λ ls. None ∷ ls) (leasts-new n cap)

  -- one more leaf has the smallest record of its heap
  pub leasts_more :
      (heaps : List (Contents R)) (leaves : List (Option R)) (leaf : ℕ) (heap : Contents R) (first : Option R) → length leaves ≡ length heaps → leaf < length heaps → heap ≡ get_or heaps leaf heap → first ≡ least cmp heap.items
      → take leaf leaves ≡ map (λ (h : Contents R). least cmp h.items) (take leaf heaps)
      → take (leaf + 1) (set leaves leaf first) ≡ map (λ (h : Contents R). least cmp h.items) (take (leaf + 1) heaps)
  leasts_more heaps leaves leaf heap first long l is e so_far =
      take_more_set leaves leaf first (omega arith)
      ∙ (ap₂ (λ (ls : List (Option R)) (f : Option R). ls ++ f ∷ []) so_far (e ∙ ap (λ (h : Contents R). least cmp h.items) is)
      ∙ sym (map_more (λ (h : Contents R). least cmp h.items) heaps leaf heap l))

  pub leasts_all :
      (heaps : List (Contents R)) (leaves : List (Option R)) (leaf : ℕ) → length leaves ≡ length heaps → length heaps ≤ leaf
      → take leaf leaves ≡ map (λ (h : Contents R). least cmp h.items) (take leaf heaps) → HasLeasts cmp heaps leaves
  unfolding HasLeasts
  leasts_all heaps leaves leaf long l e =
      sym (take_all leaf leaves (omega arith)) ∙ (e ∙ ap (map (λ (h : Contents R). least cmp h.items)) (take_all leaf heaps l))

  -- a heap in place of another, and its smallest record in the leaf
  pub leasts-set : (heaps : List (Contents R)) (leaves : List (Option R)) (place : ℕ) (heap : Contents R) (first : Option R) → HasLeasts cmp heaps leaves → first ≡ least cmp heap.items → HasLeasts cmp (set heaps place heap) (set leaves place first)
  unfolding HasLeasts
  leasts-set heaps leaves place heap first h e = ap₂ (λ (ls : List (Option R)) (f : Option R). set ls place f) h e ∙ sym (map-set (λ (h : Contents R). least cmp h.items) heaps place heap)

  -- a heap in place of another with the same smallest record
  pub leasts-set_same : (heaps : List (Contents R)) (leaves : List (Option R)) (place : ℕ) (heap d : Contents R) → HasLeasts cmp heaps leaves → least cmp heap.items ≡ least cmp (get_or heaps place d).items → HasLeasts cmp (set heaps place heap) leaves
  unfolding HasLeasts
  leasts-set_same heaps leaves place heap d h e = h ∙ sym (map-set_same (λ (h : Contents R). least cmp h.items) heaps place heap d e)
