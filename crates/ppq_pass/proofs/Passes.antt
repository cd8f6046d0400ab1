-- What each call of a pass's supply keeps.
use Rattle.std.proofs.Common.{◌≡◌, ◌≢◌, ◌⊎◌, inl, inr, ℕ, zero, suc, ◌+◌, ◌-◌, ◌*◌, ◌<◌, ◌≤◌, ◌^◌, true, List, [], ◌∷◌, ◌++◌, length, All, refl, sym, ap, ap₂, ◌∙◌, subst, arith, length-append}
use mathlib.Core.Option.{Option, none, some}
use lib.ListN.{get_elem?}
use Rattle.std.proofs.lemmas.List.Elements.{All-head, All-tail, All-nil, All-push}
use Rattle.std.proofs.lemmas.List.{map-append}
use Rattle.std.proofs.Math.Nat.{mul-le-mul_right, suc-mul}
use Rattle.std.specs.Prelude.{Vec, vec_capacity}
use Rattle.std.specs.Global.{Global}
use Rattle.ppq_pool.specs.ppq_table.Sums.{times}
use Rattle.ppq_pool.proofs.ppq_table.Sums.{within_at}
use Rattle.ppq_pool.proofs.ppq_table.Numbers.{times-cons, times-append, times-same, times-other, upto, upto-times}
use Rattle.ppq_extract.specs.ppq_outside.Shown.{Shown}
use Rattle.ppq_extract.specs.ppq_array.Supply.{Stock, DrawsSlot}
use Rattle.ppq_extract.specs.ppq_array.Owner.{HasSlot, slots_shown}
use Rattle.ppq_extract.specs.ppq_array.declared.berth.DeviceBlock.{DeviceBlock}
use Rattle.ppq_row.specs.Known.{Known as RowKnown}
use Rattle.ppq_row.specs.Seats.{IsSeatOf as IsRowSeat, Drew, NoneLeft}
use Rattle.ppq_row.specs.declared.hand.Hand.{Hand as RowHand}
use Rattle.ppq_pool.specs.Known.{Known as PoolKnown}
use Rattle.ppq_pool.specs.Hands.{without, with_give, looks_below, last_moment}
use Rattle.ppq_pool.proofs.Lists.{without-here, without-past}
use Rattle.ppq_pool.specs.Seats.{IsSeatOf as IsPoolSeat, count_of, Takes, FoundHeld}
use Rattle.ppq_pool.specs.declared.hand.Move.{Move}
use Rattle.ppq_pool.specs.declared.hand.Move.TheVariants.{Took, Gave, Saw}
use Rattle.ppq_extract.proofs.ppq_array.Noted.{all_left}
use Rattle.ppq_pass.specs.declared.shared.Shared.{Shared}
use Rattle.ppq_pass.specs.declared.shared.PoolBuf.{PoolBuf}
use Rattle.ppq_pass.specs.Passing.{items_at, with_item, looks_in, pass_stock, IsPass}

module _ {T : Type 0} where
  -- what holds of all items holds of one at a place
  pub all_at : (P : T → Type 0) (xs : List T) (i : ℕ) (x : T) → get_elem? xs i ≡ some x → All P xs → P x
  all_at P [] i x e a = absurd (cc)
  all_at P (y ∷ ys) zero x e a = let h : y ≡ x = cc in subst P h (All-head P y ys a)
  all_at P (y ∷ ys) (suc i) x e a = all_at P ys i x e (All-tail P y ys a)

  -- one place more
  pub items_more : (items : List T) (places : List ℕ) (i : ℕ) (x : T) → get_elem? items i ≡ some x → items_at items (places ++ i ∷ []) ≡ items_at items places ++ x ∷ []
  items_more items [] i x e = ap (λ o. with_item o []) e
  items_more items (p ∷ ps) i x e = ap (λ xs. with_item (get_elem? items p) xs) (items_more items ps i x e) ∙ put (get_elem? items p) (items_at items ps) x
    where
      put : (o : Option T) (xs : List T) (x : T) → with_item o (xs ++ x ∷ []) ≡ with_item o xs ++ x ∷ []
      put none xs x = refl
      put (some y) xs x = refl

-- places that are each greater than those before are few
pub once_more : (places : List ℕ) (i : ℕ) → ((n : ℕ) → All (λ p. p < n) places → length places ≤ n) → All (λ p. p < i) places → (n : ℕ) → All (λ p. p < n) (places ++ i ∷ []) → length (places ++ i ∷ []) ≤ n
once_more places i once behind n all = omega (arith, once i behind, last places i n all, length-append places (i ∷ []))
  where
    last : (places : List ℕ) (i n : ℕ) → All (λ p. p < n) (places ++ i ∷ []) → i < n
    last [] i n all = all 0 0 (omega arith)
    last (p ∷ ps) i n all = last ps i n (All-tail (λ p. p < n) p (ps ++ i ∷ []) all)

-- numbers below n that are listed once at most are no more than n
at_most : (f : ℕ → ℕ) (n : ℕ) → ((x : ℕ) → f x ≤ 1) → upto f n ≤ n
at_most f zero h = omega arith
at_most f (suc n) h = omega (arith, at_most f n h, h n)

pub few_numbers : (xs : List ℕ) (n : ℕ) → All (λ i. i < n) xs → ((i : ℕ) → times i xs ≤ 1) → length xs ≤ n
few_numbers xs n below once = omega (arith, upto-times xs n below, at_most (λ x. times x xs) n once)

-- one number more, which was not listed
pub once_added : (xs : List ℕ) (m : ℕ) → times m xs ≡ 0 → ((i : ℕ) → times i xs ≤ 1) → (i : ℕ) → times i (xs ++ m ∷ []) ≤ 1
once_added xs m new once i =
    elim (eq_or_not m i) as (λ _. times i (xs ++ m ∷ []) ≤ 1) [
      | inl e ↦ (let here : times i xs ≡ 0 = ap (λ k. times k xs) (sym e) ∙ new in omega (arith, times-append i xs (m ∷ []), times-same m i e, here))
      | inr ne ↦ omega (arith, times-append i xs (m ∷ []), times-other m i ne, once i)
    ]
  where
    eq_or_not : (a b : ℕ) → (a ≡ b) ⊎ (a ≢ b)
    eq_or_not zero zero = inl refl
    eq_or_not zero (suc b) = inr (λ e. omega (arith, e))
    eq_or_not (suc a) zero = inr (λ e. omega (arith, e))
    eq_or_not (suc a) (suc b) = elim (eq_or_not a b) as (λ _. (suc a ≡ suc b) ⊎ (suc a ≢ suc b)) [ inl e ↦ inl (ap suc e) | inr n ↦ inr (λ e. n (let h : a ≡ b = omega (arith, e) in h)) ]

-- the last number, which stands there once, is taken out
pub without_last : (xs : List ℕ) (m : ℕ) → times m xs ≡ 0 → without m (xs ++ m ∷ []) ≡ xs
without_last [] m e = without-here m m [] refl
without_last (x ∷ xs) m e =
    let differs : x ≢ m = λ same. absurd (omega (arith, e, times-cons m x xs, times-same x m same)) in
    without-past m x (xs ++ m ∷ []) differs ∙ ap (λ ys. x ∷ ys) (without_last xs m (omega (arith, e, times-cons m x xs)))

-- a draw that found the end leaves items and places
pub none_left : {T : Type 0} (v w : RowHand T) → NoneLeft v w → (w.items ≡ v.items) × (w.places ≡ v.places) × (v.nones ≤ w.nones)
none_left v w (inl same) = (ap (λ h. h.items) same.1, ap (λ h. h.places) same.1, omega (arith, ap (λ h. h.nones) same.1))
none_left v w (inr end) = (ap (λ h. h.items) end.1, ap (λ h. h.places) end.1, omega (arith, ap (λ h. h.nones) end.1))

-- looks on two trails, and on the trail of one look at each item
looks_in-append : (xs ys : List Move) → looks_in (xs ++ ys) ≡ looks_in xs + looks_in ys
looks_in-append [] ys = omega arith
looks_in-append (Took i ∷ xs) ys = looks_in-append xs ys
looks_in-append (Gave i ∷ xs) ys = looks_in-append xs ys
looks_in-append (Saw i ∷ xs) ys = omega (arith, looks_in-append xs ys)

looks_in-below : (n : ℕ) → looks_in (looks_below n) ≡ n
looks_in-below zero = refl
looks_in-below (suc n) = omega (arith, looks_in-below n)

module _ {S R : Type 0} (shown : S → Shown) where
  pub draws_one :
      (row row' : RowKnown (DeviceBlock S R)) (stash stash' : List (DeviceBlock S R)) (numbers : List ℕ) (block dry scant room : ℕ) (i : ℕ) (x : DeviceBlock S R) → Drew row.hand i x row'.hand → stash ≡ [] → stash' ≡ []
      → DrawsSlot (pass_stock shown row stash numbers block dry scant room) (shown x.slot) (pass_stock shown row' stash' numbers block dry scant room)
  draws_one row row' stash stash' numbers block dry scant room i x drew gone gone' =
      let items : row'.hand.items ≡ row.hand.items = ap (λ h. h.items) drew.1 in
      let places : row'.hand.places ≡ row.hand.places ++ i ∷ [] = ap (λ h. h.places) drew.1 in
      let drawn : slots_shown shown (items_at row'.hand.items row'.hand.places) ≡ slots_shown shown (items_at row.hand.items row.hand.places) ++ shown x.slot ∷ [] =
      ap (slots_shown shown) (ap₂ (λ (xs : List (DeviceBlock S R)) (ps : List ℕ). items_at xs ps) items places ∙ items_more row.hand.items row.hand.places i x drew.0) ∙ map-append (λ (b : DeviceBlock S R). shown b.slot) (items_at row.hand.items row.hand.places) (x ∷ []) in
      let count : length row'.hand.places - length stash' ≡ length row.hand.places - 0 + 1 = omega (arith, ap length places, length-append row.hand.places (i ∷ []), ap length gone') in
      subst (λ (st : List (DeviceBlock S R)). DrawsSlot (pass_stock shown row st numbers block dry scant room) (shown x.slot) (pass_stock shown row' stash' numbers block dry scant room)) (sym gone)
      (ap₂ (λ (d : List Shown) (k : ℕ). with_slots (pass_stock shown row stash' numbers block dry scant room) d k) drawn count ∙ ap (λ (st : List (DeviceBlock S R)). with_slots (pass_stock shown row st numbers block dry scant room) (slots_shown shown (items_at row.hand.items row.hand.places) ++ shown x.slot ∷ []) (length row.hand.places - 0 + 1)) gone')
    where
      with_slots : Stock → List Shown → ℕ → Stock
      with_slots s d k = record s { drawn = d; slot_room = k }

-- what each call leaves of a pass's supply
module _ {S R : Type 0} {shown : S → Shown} {width : ℕ} {home : Shared S R} {row : RowKnown (DeviceBlock S R)} {pool : PoolKnown (PoolBuf R)} {stash : List (DeviceBlock S R)} {numbers : Vec ℕ Global} {block dry scant : ℕ}
    (is : IsPass shown width home row pool stash numbers block dry scant)
  where
    -- with another seat of the row, another stash, or another count of draws that answered None
    with_row :
        (row' : RowKnown (DeviceBlock S R)) (stash' : List (DeviceBlock S R)) (dry' : ℕ) → IsRowSeat home.row row' → row'.hand.items ≡ row.hand.items → All (λ p. p < length row.hand.items) row'.hand.places → ((n : ℕ) → All (λ p. p < n) row'.hand.places → length row'.hand.places ≤ n)
        → length stash' ≤ length row'.hand.places → All (HasSlot shown (block * width)) stash' → (0 < dry' → row'.hand.noted ≡ true) → IsPass shown width home row' pool stash' numbers block dry' scant
    with_row row' stash' dry' seat items drawn once fits sizes ended =
        record {
          row = seat;
          items = subst (All (HasSlot shown (block * width))) (sym items) is.items;
          few = subst (λ xs. length xs < 2 ^ 32) (sym items) is.few;
          drawn = subst (λ xs. All (λ p. p < length xs) row'.hand.places) (sym items) drawn;
          once = once;
          stash_fits = fits;
          stash_sizes = sizes;
          pool = is.pool;
          shape = is.shape;
          numbers_are = is.numbers_are;
          below = is.below;
          each_once = is.each_once;
          room = is.room;
          ended = ended;
          looked = is.looked;
        }

    pub IsPass-stash : (stash' : List (DeviceBlock S R)) → length stash' ≤ length row.hand.places → All (HasSlot shown (block * width)) stash' → IsPass shown width home row pool stash' numbers block dry scant
    IsPass-stash stash' fits sizes = with_row row stash' dry is.row refl is.drawn is.once fits sizes is.ended

    pub places_few : length row.hand.places < 2 ^ 32
    places_few = omega (arith, is.once (length row.hand.items) is.drawn, is.few)

    -- a draw from the row, which comes where the stash is empty
    module _ (row' : RowKnown (DeviceBlock S R)) (stash' : List (DeviceBlock S R)) (seat : IsRowSeat home.row row') (gone : stash' ≡ []) where
      no_sizes : All (HasSlot shown (block * width)) stash'
      no_sizes = subst (All (HasSlot shown (block * width))) (sym gone) (All-nil (HasSlot shown (block * width)))

      pub IsPass-drew : (i : ℕ) (x : DeviceBlock S R) → Drew row.hand i x row'.hand → IsPass shown width home row' pool stash' numbers block dry scant
      IsPass-drew i x drew =
          let places : row'.hand.places ≡ row.hand.places ++ i ∷ [] = ap (λ h. h.places) drew.1 in
          with_row row' stash' dry seat (ap (λ h. h.items) drew.1)
          (subst (All (λ p. p < length row.hand.items)) (sym places) (All-push (λ p. p < length row.hand.items) row.hand.places i is.drawn (within_at row.hand.items i x drew.0)))
          (subst (λ (ps : List ℕ). (n : ℕ) → All (λ p. p < n) ps → length ps ≤ n) (sym places) (once_more row.hand.places i is.once drew.2))
          (omega (arith, ap length gone)) no_sizes (λ some. ap (λ h. h.noted) drew.1 ∙ is.ended some)

      -- a draw that found the end
      pub IsPass-dry : NoneLeft row.hand row'.hand → row'.hand.noted ≡ true → (dry' : ℕ) → IsPass shown width home row' pool stash' numbers block dry' scant
      IsPass-dry found noted dry' =
          let left = none_left row.hand row'.hand found in
          with_row row' stash' dry' seat left.0 (subst (All (λ p. p < length row.hand.items)) (sym left.1) is.drawn) (subst (λ (ps : List ℕ). (n : ℕ) → All (λ p. p < n) ps → length ps ≤ n) (sym left.1) is.once)
          (omega (arith, ap length gone)) no_sizes (λ _. noted)

    pub drew_slot : (row' : RowKnown (DeviceBlock S R)) (i : ℕ) (x : DeviceBlock S R) → Drew row.hand i x row'.hand → HasSlot shown (block * width) x
    drew_slot row' i x drew = all_at (HasSlot shown (block * width)) row.hand.items i x drew.0 is.items

    -- with other numbers of buffers, or another count of takes that answered None
    with_pool :
        (pool' : PoolKnown (PoolBuf R)) (numbers' : Vec ℕ Global) (scant' : ℕ) → IsPoolSeat home.pool pool' → pool'.hand.shape ≡ pool.hand.shape → numbers'.items ≡ pool'.hand.numbers → All (λ i. i < count_of home.pool) numbers'.items → ((i : ℕ) → times i numbers'.items ≤ 1)
        → vec_capacity numbers' ≡ vec_capacity numbers → scant' * count_of home.pool ≤ looks_in pool'.hand.trail → IsPass shown width home row pool' stash numbers' block dry scant'
    with_pool pool' numbers' scant' seat shape are below once capacity looked =
        record {
          row = is.row;
          items = is.items;
          few = is.few;
          drawn = is.drawn;
          once = is.once;
          stash_fits = is.stash_fits;
          stash_sizes = is.stash_sizes;
          pool = seat;
          shape = λ some. shape ∙ is.shape some;
          numbers_are = are;
          below = below;
          each_once = once;
          room = omega (arith, is.room, capacity);
          ended = is.ended;
          looked = looked;
        }

    pub IsPass-took :
        (pool' : PoolKnown (PoolBuf R)) (numbers' : Vec ℕ Global) → IsPoolSeat home.pool pool' → (i : ℕ) → i < count_of home.pool → Takes pool.hand i pool'.hand → numbers'.items ≡ numbers.items ++ i ∷ [] → vec_capacity numbers' ≡ vec_capacity numbers
        → IsPass shown width home row pool' stash numbers' block dry scant
    IsPass-took pool' numbers' seat i within took more capacity =
        let free : times i numbers.items ≡ 0 = ap (times i) is.numbers_are ∙ took.was_free in
        with_pool pool' numbers' scant seat took.shape (more ∙ ap (λ xs. xs ++ i ∷ []) is.numbers_are ∙ sym took.numbers)
        (subst (All (λ i. i < count_of home.pool)) (sym more) (All-push (λ i. i < count_of home.pool) numbers.items i is.below within))
        (subst (λ (xs : List ℕ). (i : ℕ) → times i xs ≤ 1) (sym more) (once_added numbers.items i free is.each_once)) capacity
        (omega (arith, is.looked, ap looks_in took.trail.2, looks_in-append took.trail.0 pool.hand.trail))

    -- a take that found each buffer held
    pub IsPass-scant : (pool' : PoolKnown (PoolBuf R)) → IsPoolSeat home.pool pool' → FoundHeld (count_of home.pool) pool.hand pool'.hand → (scant' : ℕ) → scant' ≤ scant + 1 → IsPass shown width home row pool' stash numbers block dry scant'
    IsPass-scant pool' seat found scant' one =
        let most : scant' * count_of home.pool ≤ suc scant * count_of home.pool = mul-le-mul_right (count_of home.pool) (omega (arith, one)) in
        with_pool pool' numbers scant' seat (ap (λ h. h.shape) found.same) (is.numbers_are ∙ sym (ap (λ h. h.numbers) found.same)) is.below is.each_once refl
        (omega (arith, most, suc-mul scant (count_of home.pool), is.looked, ap looks_in found.looked, looks_in-append (looks_below (count_of home.pool)) pool.hand.trail, looks_in-below (count_of home.pool)))

    -- there is room for one number more
    pub room_for : (i : ℕ) → i < count_of home.pool → times i pool.hand.numbers ≡ 0 → length numbers.items < vec_capacity numbers
    room_for i h new =
        let free : times i numbers.items ≡ 0 = ap (times i) is.numbers_are ∙ new in
        let more = few_numbers (numbers.items ++ i ∷ []) (count_of home.pool) (All-push (λ i. i < count_of home.pool) numbers.items i is.below h) (once_added numbers.items i free is.each_once) in
        omega (arith, more, is.room, length-append numbers.items (i ∷ []))

    -- the last number
    module _ (i : ℕ) (rest : List ℕ) (last : numbers.items ≡ rest ++ i ∷ []) where
      last_count : times i numbers.items ≡ times i rest + 1
      last_count = ap (times i) last ∙ times-append i rest (i ∷ []) ∙ ap (λ n. times i rest + n) (times-same i i refl)

      pub holds_last : 0 < times i pool.hand.numbers
      holds_last = omega (arith, last_count, ap (times i) is.numbers_are)

      last_alone : times i rest ≡ 0
      last_alone = omega (arith, last_count, is.each_once i)

    pub IsPass-gave :
        (pool' : PoolKnown (PoolBuf R)) (numbers' : Vec ℕ Global) → IsPoolSeat home.pool pool' → (i : ℕ) (buf : PoolBuf R) → pool'.hand ≡ with_give (last_moment pool'.hand) i buf pool.hand → numbers.items ≡ numbers'.items ++ i ∷ [] → vec_capacity numbers' ≡ vec_capacity numbers
        → IsPass shown width home row pool' stash numbers' block dry scant
    IsPass-gave pool' numbers' seat i buf gave last capacity =
        with_pool pool' numbers' scant seat (ap (λ h. h.shape) gave)
        (sym (ap (λ h. h.numbers) gave ∙ ap (without i) (sym is.numbers_are ∙ last) ∙ without_last numbers'.items i (last_alone i numbers'.items last)))
        (all_left (λ i. i < count_of home.pool) numbers'.items (i ∷ []) (subst (All (λ i. i < count_of home.pool)) last is.below))
        (λ k. omega (arith, is.each_once k, ap (times k) last, times-append k numbers'.items (i ∷ []))) capacity
        (omega (arith, is.looked, ap (λ h. looks_in h.trail) gave))
