-- Rounds, one after the other: two keep slots and buffers as one does, and take as one does.
use Rattle.std.proofs.Common.{◌≡◌, ℕ, zero, suc, ◌+◌, ◌≤◌, List, [], ◌∷◌, ◌++◌, length, drop, get_or, slice_set, flat_map, sum_by, refl, sym, ap, ap₂, ◌∙◌, arith, length-drop, ◌⊎◌, inl, inr, ◌-◌, true, Option, Some, None, subst, length-append, append-nil, append_assoc}
use Rattle.std.specs.List.{AllByRecursion as Each, AllZip}
use Rattle.std.proofs.lemmas.List.{drop-drop}
use Rattle.std.proofs.lemmas.List.Sums.{sum_by-cons, sum_by-append}
use Rattle.std.proofs.lemmas.List.Concat.{flat_map-cons}
use Rattle.ppq_array.specs.External.{External}
use Rattle.ppq_fetch.specs.Fetching.{WentOn, blocks_in, State, Fetched, PartsKept, StockWentOn, held_in, source_items, SourcesTell, RunsRise, FetchFailed}
use Rattle.std.specs.Cmp.{IsStrictWeakOrder}
use Rattle.std.specs.declared.cmp.Ordering.{Ordering}
use Rattle.ppq_array.specs.ppq_record.Order.{is_before, Le}
use Rattle.ppq_array.specs.ppq_record.Bag.{front}
use Rattle.ppq_array.proofs.ppq_record.Order.{Each-append}
use Rattle.ppq_array.specs.ppq_outside.Shown.{Shown}
use Rattle.ppq_array.specs.Supply.{Stock}
use Rattle.ppq_array.specs.Kept.{Kept, SameSlots, Held, weight_at, overread}
use Rattle.ppq_fetch.specs.Taking.{AllBelow, NoneBelow, wanted}
use Rattle.ppq_fetch.proofs.Parted.{taken_none, taken_more, taken_wanted}

module _ {A : Type 0} where
  -- what holds of no items, and of one more pair that is related, holds of lists that are related place by place
  pub zip_rec : (P : A → A → Type 0) (M : List A → List A → Type 0) → M [] [] → ((a b : A) (xs ys : List A) → P a b → M xs ys → M (a ∷ xs) (b ∷ ys)) → (xs ys : List A) → AllZip P xs ys → M xs ys
  zip_rec P M none more [] [] z = none
  zip_rec P M none more [] (y ∷ ys) z = absurd z
  zip_rec P M none more (x ∷ xs) [] z = absurd z
  zip_rec P M none more (x ∷ xs) (y ∷ ys) z = more x y xs ys z.0 (zip_rec P M none more xs ys z.1)

  pub zip_each : (P : A → A → Type 0) (Q : A → Type 0) → ((a b : A) → P a b → Q a → Q b) → (xs ys : List A) → AllZip P xs ys → Each Q xs → Each Q ys
  zip_each P Q f = zip_rec P (λ xs ys. Each Q xs → Each Q ys) (λ h. tt) (λ a b xs ys p k h. (f a b p h.0, k h.1))

  pub zip_sum-le : (P : A → A → Type 0) (f : A → ℕ) → ((a b : A) → P a b → f b ≤ f a) → (xs ys : List A) → AllZip P xs ys → sum_by f ys ≤ sum_by f xs
  zip_sum-le P f e = zip_rec P (λ xs ys. sum_by f ys ≤ sum_by f xs) (omega arith) (λ a b xs ys p k. omega (arith, k, e a b p, sum_by-cons f a xs, sum_by-cons f b ys))

  pub zip_flat : {X : Type 0} (P : A → A → Type 0) (f : A → List X) → ((a b : A) → P a b → f b ≡ f a) → (xs ys : List A) → AllZip P xs ys → flat_map f ys ≡ flat_map f xs
  zip_flat P f e = zip_rec P (λ xs ys. flat_map f ys ≡ flat_map f xs) refl (λ a b xs ys p k. flat_map-cons f b ys ∙ (ap₂ (λ us vs. us ++ vs) (e a b p) k ∙ sym (flat_map-cons f a xs)))

  pub zip_trans : (P : A → A → Type 0) → ((a b c : A) → P a b → P b c → P a c) → (xs ys zs : List A) → AllZip P xs ys → AllZip P ys zs → AllZip P xs zs
  zip_trans P t [] [] [] z w = tt
  zip_trans P t [] [] (c ∷ cs) z w = absurd w
  zip_trans P t [] (y ∷ ys) zs z w = absurd z
  zip_trans P t (x ∷ xs) [] zs z w = absurd z
  zip_trans P t (x ∷ xs) (y ∷ ys) [] z w = absurd w
  zip_trans P t (x ∷ xs) (y ∷ ys) (c ∷ cs) z w = (t x y c z.0 w.0, zip_trans P t xs ys cs z.1 w.1)

  pub zip_same : (P : A → A → Type 0) → ((a : A) → P a a) → (xs : List A) → AllZip P xs xs
  zip_same P r [] = tt
  zip_same P r (x ∷ xs) = (r x, zip_same P r xs)

  pub zip_set : (P : A → A → Type 0) → ((a : A) → P a a) → (xs : List A) (i : ℕ) (d b : A) → P (get_or xs i d) b → AllZip P xs (slice_set xs i b)
  zip_set P r [] i d b p = tt
  zip_set P r (x ∷ xs) zero d b p = (p, zip_same P r xs)
  zip_set P r (x ∷ xs) (suc i) d b p = (r x, zip_set P r xs i d b p)

  pub each_set : (Q : A → Type 0) (xs : List A) (i : ℕ) (b : A) → Q b → Each Q xs → Each Q (slice_set xs i b)
  each_set Q [] i b q h = tt
  each_set Q (x ∷ xs) zero b q h = (q, h.1)
  each_set Q (x ∷ xs) (suc i) b q h = (h.0, each_set Q xs i b q h.1)

module _ {S R : Type 0} where
  pub on_same : (a : External S R) → WentOn a a
  on_same a = record { level = refl; loads = 0; within = omega arith; stored = refl; size = omega arith }

  pub on_trans : (a b c : External S R) → WentOn a b → WentOn b c → WentOn a c
  on_trans a b c x y = record {
    level = y.level ∙ x.level;
    loads = x.loads + y.loads;
    within = omega (arith, x.within, y.within, ap length x.stored, length-drop x.loads a.stored);
    stored = y.stored ∙ (ap (drop y.loads) x.stored ∙ drop-drop y.loads x.loads a.stored);
    size = omega (arith, x.size, y.size);
  }

  pub on_fewer : (xs ys : List (External S R)) → AllZip WentOn xs ys → blocks_in ys ≤ blocks_in xs
  on_fewer xs ys z = zip_sum-le WentOn (λ (a : External S R). length a.stored) (λ a b w. omega (arith, ap length w.stored, length-drop w.loads a.stored)) xs ys z

sum_three : (f : Shown → ℕ) (a b c : List Shown) → sum_by f (a ++ b ++ c) ≡ sum_by f a + sum_by f b + sum_by f c
sum_three f a b c = omega (arith, sum_by-append f (a ++ b) c, sum_by-append f a b)

pub long_three : {X : Type 0} (a b c : List X) → length (a ++ b ++ c) ≡ length a + length b + length c
long_three a b c = omega (arith, length-append (a ++ b) c, length-append a b)

pub same_slots : (xs : List Shown) → SameSlots xs xs
same_slots xs = record { length = refl; each_once = λ n. refl; faults = λ n. omega arith; writes = λ n. omega arith; reads = λ n. omega arith; sizes = λ n. refl; overreads = omega arith }

Kept-refl : (s : Stock) (h : Held) → Kept s s h h
Kept-refl s h = record { slots = same_slots (h.slots ++ s.kept ++ s.drawn); slot_room = refl; buffers = refl; block = refl }

pub Kept-trans : (a b c : Stock) (x y z : Held) → Kept a b x y → Kept b c y z → Kept a c x z
Kept-trans a b c x y z h k =
    let s = h.slots in
    let t = k.slots in
    record {
      slots = record {
        length = omega (arith, s.length, t.length, long_three x.slots a.kept b.drawn, long_three y.slots b.kept a.drawn, long_three y.slots b.kept c.drawn, long_three z.slots c.kept b.drawn, long_three x.slots a.kept c.drawn, long_three z.slots c.kept a.drawn);
        each_once = λ n. omega (arith, s.each_once n, t.each_once n, turned (weight_at (λ s. 1) n));
        faults = λ n. omega (arith, s.faults n, t.faults n, turned (weight_at (λ s. s.faults) n));
        writes = λ n. omega (arith, s.writes n, t.writes n, turned (weight_at (λ s. s.writes) n));
        reads = λ n. omega (arith, s.reads n, t.reads n, turned (weight_at (λ s. s.reads) n));
        sizes = λ n. omega (arith, s.sizes n, t.sizes n, turned (weight_at (λ s. s.size) n));
        overreads = omega (arith, s.overreads, t.overreads, turned overread);
      };
      slot_room = omega (arith, h.slot_room, k.slot_room);
      buffers = omega (arith, h.buffers, k.buffers);
      block = k.block ∙ h.block;
    }
  where
    -- what both calls had before and after, added up
    turned :
        (f : Shown → ℕ)
        → (sum_by f (x.slots ++ a.kept ++ b.drawn) + sum_by f (y.slots ++ b.kept ++ c.drawn)) + sum_by f (z.slots ++ c.kept ++ a.drawn) ≡ (sum_by f (y.slots ++ b.kept ++ a.drawn) + sum_by f (z.slots ++ c.kept ++ b.drawn)) + sum_by f (x.slots ++ a.kept ++ c.drawn)
    turned f = omega (
      arith,
      sum_three f x.slots a.kept b.drawn,
      sum_three f y.slots b.kept a.drawn,
      sum_three f y.slots b.kept c.drawn,
      sum_three f z.slots c.kept b.drawn,
      sum_three f x.slots a.kept c.drawn,
      sum_three f z.slots c.kept a.drawn,
    )

pub stock_same : (n : ℕ) (s : Stock) → StockWentOn (n - n) s s
stock_same n s = record { more = []; kept = sym (append-nil s.kept); counted = omega arith; drawn = refl; sure = omega arith; dry = refl; scant = refl; room_when_scant = refl }

stock_trans : (k m n : ℕ) (a b c : Stock) → n ≡ k + m → StockWentOn k a b → StockWentOn m b c → StockWentOn n a c
stock_trans k m n a b c e x y = record {
  more = x.more ++ y.more;
  kept = y.kept ∙ (ap (λ xs. xs ++ y.more) x.kept ∙ append_assoc a.kept x.more y.more);
  counted = omega (arith, e, x.counted, y.counted, length-append x.more y.more);
  drawn = y.drawn ∙ x.drawn;
  sure = omega (arith, x.sure, y.sure);
  dry = y.dry ∙ x.dry;
  scant = y.scant ∙ x.scant;
  room_when_scant = y.room_when_scant ∙ x.room_when_scant;
}

module _ {S R : Type 0} (shown : S → Shown) where
  pub parts_same : (a : State S R) → PartsKept shown a a
  parts_same a = record {
    kept = Kept-refl a.stock (held_in shown a);
    internal = refl;
    in_memory = omega arith;
    buffers = refl;
    went_on = zip_same WentOn on_same a.external;
    stock = stock_same (blocks_in a.external) a.stock;
    transfers = record { writes = refl; reads = omega arith };
    all_tell = (λ tell. tell, λ tell. tell);
  }

  pub parts_trans : (a b c : State S R) → PartsKept shown a b → PartsKept shown b c → PartsKept shown a c
  parts_trans a b c x y =
      let p = on_fewer a.external b.external x.went_on in
      let q = on_fewer b.external c.external y.went_on in
      record {
        kept = Kept-trans a.stock b.stock c.stock (held_in shown a) (held_in shown b) (held_in shown c) x.kept y.kept;
        internal = y.internal ∙ x.internal;
        in_memory = omega (arith, x.in_memory, y.in_memory);
        buffers = y.buffers ∙ x.buffers;
        went_on = zip_trans WentOn on_trans a.external b.external c.external x.went_on y.went_on;
        stock = stock_trans (blocks_in a.external - blocks_in b.external) (blocks_in b.external - blocks_in c.external) (blocks_in a.external - blocks_in c.external) a.stock b.stock c.stock (omega (arith, p, q)) x.stock y.stock;
        transfers = record { writes = y.transfers.writes ∙ x.transfers.writes; reads = omega (arith, p, q, x.transfers.reads, y.transfers.reads) };
        all_tell = (λ tell. y.all_tell.0 (x.all_tell.0 tell), λ tell. x.all_tell.1 (y.all_tell.1 tell));
      }

  -- slots and buffers were kept on after a read failed
  pub failed_then : (number : ℕ) (a b c : State S R) → FetchFailed shown number a b → PartsKept shown b c → FetchFailed shown number a c
  failed_then number a b c x y = record {
    parts = parts_trans a b c x.parts y;
    failed = omega (arith, x.failed, ap (sum_by (weight_at (λ s. s.faults) number)) y.stock.kept, sum_by-append (weight_at (λ s. s.faults) number) b.stock.kept y.stock.more);
  }

module _ {R : Type 0} (cmp : R → R → Ordering) where
  all_below : (limit : Option R) (xs ys : List R) → AllBelow cmp limit xs → AllBelow cmp limit ys → AllBelow cmp limit (xs ++ ys)
  all_below None xs ys h k = tt
  all_below (Some l) xs ys h k = Each-append (λ x. is_before cmp x l ≡ true) xs ys h k

  pub none_below : (limit : Option R) → AllBelow cmp limit []
  none_below None = tt
  none_below (Some l) = tt

module _ {S R : Type 0} (cmp : R → R → Ordering) (o : IsStrictWeakOrder (is_before cmp)) (record_of : List ℕ → R) (width : ℕ) (shown : S → Shown) (below : Option R) where
  pub Fetched-none : (a : State S R) → Fetched cmp record_of width shown below a a []
  Fetched-none a = record {
    parts = parts_same shown a;
    quiet = refl;
    counted = omega arith;
    tell = λ t. t;
    rise = λ t r. r;
    taken = λ t r. taken_none cmp o (source_items record_of width shown a);
    under = λ t r. none_below cmp below;
  }

  pub Fetched-more : (a b c : State S R) (out more : List R) → Fetched cmp record_of width shown below a b out → Fetched cmp record_of width shown below b c more → Fetched cmp record_of width shown below a c (out ++ more)
  Fetched-more a b c out more x y = record {
    parts = parts_trans shown a b c x.parts y.parts;
    quiet = y.quiet ∙ x.quiet;
    counted = omega (arith, x.counted, y.counted, length-append out more);
    tell = λ t. y.tell (x.tell t);
    rise = λ t r. y.rise (x.tell t) (x.rise t r);
    taken = λ t r. taken_more cmp o (source_items record_of width shown a) out (source_items record_of width shown b) more (source_items record_of width shown c) (x.taken t r) (y.taken (x.tell t) (x.rise t r));
    under = λ t r. all_below cmp below out more (x.under t r) (y.under (x.tell t) (x.rise t r));
  }

  -- a block was loaded in between
  pub Fetched-on : (a b c : State S R) (out : List R) → Fetched cmp record_of width shown below a b out → Fetched cmp record_of width shown below b c [] → Fetched cmp record_of width shown below a c out
  Fetched-on a b c out x y = subst (Fetched cmp record_of width shown below a c) (append-nil out) (Fetched-more a b c out [] x y)

  pub Failed-more : (number : ℕ) (a b c : State S R) (out : List R) → Fetched cmp record_of width shown below a b out → FetchFailed shown number b c → FetchFailed shown number a c
  Failed-more number a b c out x y = record { parts = parts_trans shown a b c x.parts y.parts; failed = y.failed }

  -- what was taken at the end is the front that was wanted
  pub Fetched-front :
      ((x y : R) → Le (is_before cmp) x y → Le (is_before cmp) y x → x ≡ y)
      → (a b : State S R) (out : List R) (most : ℕ) → Fetched cmp record_of width shown below a b out → length out ≤ most
      → (length out ≡ most) ⊎ (SourcesTell shown b → RunsRise record_of width shown cmp b → NoneBelow cmp below (source_items record_of width shown b))
      → SourcesTell shown a → RunsRise record_of width shown cmp a → out ≡ front cmp (source_items record_of width shown a) (wanted cmp most below (source_items record_of width shown a))
  Fetched-front anti a b out most x few end t r =
      taken_wanted cmp o anti most below (source_items record_of width shown a) out (source_items record_of width shown b) (x.taken t r) few (x.under t r)
      (elim end as (λ _. (length out ≡ most) ⊎ NoneBelow cmp below (source_items record_of width shown b)) [ inl e ↦ inl e | inr f ↦ inr (f (x.tell t) (x.rise t r)) ])
