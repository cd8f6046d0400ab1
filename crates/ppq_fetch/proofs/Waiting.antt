-- What waits in blocks is not before the first record of the block that is next, so what a turn plans is safe.
use Rattle.std.proofs.Common.{◌≡◌, inl, inr, ℕ, zero, suc, min, ◌<◌, ◌≤◌, Bool, true, false, cond, List, [], ◌∷◌, ◌++◌, length, Option, Some, None, refl, sym, subst, arith, ◌≢◌, not, map, sum_by, All, IsSome, ap, ap₂, ◌∙◌, true≢false}
use Rattle.std.specs.List.{slice_get, AllByRecursion as Each}
use Rattle.std.specs.Cmp.{IsStrictWeakOrder}
use Rattle.std.specs.declared.cmp.Ordering.{Ordering}
use Rattle.std.proofs.lemmas.Bool.{cases_Bool, not-true, true_from_ne_false}
use Rattle.std.proofs.lemmas.List.Sums.{sum_by-cons}
use mir.Val.{bool_byte}
use Rattle.ppq_array.specs.ppq_record.Order.{is_before, Ascends, Le, Rising}
use Rattle.ppq_array.proofs.ppq_record.Order.{Each-weaker, Each-append, Le-refl, Le-trans, Each-append_left, Each-append_right, each_fails}
use Rattle.ppq_array.specs.Run.{items_of, Run}
use Rattle.ppq_array.specs.External.{External, next_of, waiting, counts, block_items, blocks_items, records_in, IsLabelled}
use Rattle.ppq_array.specs.declared.berth.DeviceBlock.{DeviceBlock}
use Rattle.ppq_fetch.proofs.Sums.{one_le, loaded_of, loaded_long, some_loaded}
use Rattle.ppq_fetch.specs.Turns.{NotAfter, IsNext, IsLeastNext, IsOdd, IsTurn, minimum_of}
use Rattle.ppq_fetch.specs.Fetching.{fronts_in, one_if_some, loaded_lists, waiting_items, count_in}
use Rattle.ppq_fetch.specs.declared.turn.NextBlock.{NextBlock}
use Rattle.std.proofs.lemmas.List.Concat.{flat_map-cons}
use Rattle.std.proofs.lemmas.List.Elements.{All-head}
use Rattle.ppq_array.specs.ppq_record.Bag.{first_of}
use Rattle.ppq_array.specs.ppq_record.Runs.{all_of}
use Rattle.ppq_array.specs.ppq_outside.Shown.{Shown, Tells, AllTell}
use Rattle.ppq_array.specs.Owner.{slots_shown}
use Rattle.ppq_array.specs.Holdings.{external_slots}
use Rattle.ppq_array.proofs.Noted.{all_left, all_right}
use Rattle.ppq_merge.specs.ppq_split.Cut.{total}
use Rattle.ppq_fetch.specs.Edges.{is_within, edge_of, nearer, IsSafeEdge}
use Rattle.ppq_fetch.specs.Parts.{passed}
use Rattle.ppq_fetch.specs.Plan.{IsMarked, AllRise, TakesPart, IsPlan}
use Rattle.ppq_fetch.specs.Taking.{NoneBelow}
use Rattle.ppq_fetch.specs.declared.edge.Edge.{Edge}
use Rattle.ppq_fetch.specs.declared.edge.Edge.TheVariants.{Whole, AtMost, Below}
use Rattle.ppq_fetch.specs.declared.turn.Turn.{Turn}
use Rattle.ppq_fetch.specs.declared.turn.Turn.TheVariants.{End, Load, Take}
use Rattle.ppq_fetch.proofs.Marking.{each_get}
use Rattle.ppq_fetch.proofs.Parted.{Rising-right}

pub some_stored : {S R : Type 0} (bs : List (DeviceBlock S R)) (x : R) → Some x ≡ next_of bs → 0 < length bs
some_stored [] x e = absurd (cc)
some_stored (b ∷ bs) x e = omega arith

pub fronts-le : {S R : Type 0} (arrays : List (External S R)) → fronts_in arrays ≤ length arrays
fronts-le [] = omega arith
fronts-le {S} {R} (a ∷ arrays) = omega (arith, fronts-le arrays, one_le (items_of a.loaded), sum_by-cons (λ (a : External S R). one_if_some (items_of a.loaded)) a arrays)

pub byte_le : (b : Bool) → bool_byte b ≤ 1
byte_le true = omega arith
byte_le false = omega arith

Rising-left : {X : Type 0} (lt : X → X → Bool) (xs ys : List X) → Rising lt (xs ++ ys) → Rising lt xs
Rising-left lt [] ys r = tt
Rising-left lt (x ∷ xs) ys r = (Each-append_left (Le lt x) xs ys r.0, Rising-left lt xs ys r.1)

first_append : {X : Type 0} (xs ys : List X) (m : X) → first_of xs ≡ Some m → first_of (xs ++ ys) ≡ Some m
first_append [] ys m e = absurd (cc)
first_append (x ∷ xs) ys m e = e

all_fail : {X : Type 0} (p : X → Bool) (qs : List (List X)) → total (passed p qs) ≡ 0 → Each (λ x. p x ≡ false) (all_of qs)
all_fail p [] e = tt
all_fail p (q ∷ qs) e = Each-append (λ x. p x ≡ false) q (all_of qs) (each_fails p q (omega arith)) (all_fail p qs (omega arith))

no_true : {X : Type 0} (xs : List X) → Each (λ x. true ≡ false) xs → xs ≡ []
no_true [] e = refl
no_true (x ∷ xs) e = absurd (true≢false e.0)

part_of : {A X : Type 0} (P : X → Type 0) (f : A → List X) (xs : List A) (i : ℕ) (x : A) → slice_get xs i ≡ Some x → Each P (all_of (map f xs)) → Each P (f x)
part_of P f [] i x e h = absurd (cc)
part_of P f (y ∷ ys) zero x e h = let k : y ≡ x = cc in subst (λ z. Each P (f z)) k (Each-append_left P (f y) (all_of (map f ys)) h)
part_of P f (y ∷ ys) (suc i) x e h = part_of P f ys i x e (Each-append_right P (f y) (all_of (map f ys)) h)

later_part : {X : Type 0} (P : X → Type 0) (ps qs : List (List X)) → Each P (all_of (ps ++ qs)) → Each P (all_of qs)
later_part P [] qs h = h
later_part P (p ∷ ps) qs h = later_part P ps qs (Each-append_right P p (all_of (ps ++ qs)) h)

each_map : {A B : Type 0} (f : A → B) (P : B → Type 0) (xs : List A) → Each (λ x. P (f x)) xs → Each P (map f xs)
each_map f P [] h = tt
each_map f P (x ∷ xs) h = (h.0, each_map f P xs h.1)

module _ {R : Type 0} (cmp : R → R → Ordering) (o : IsStrictWeakOrder (is_before cmp)) where
  first_least : (m : R) (xs : List R) → first_of xs ≡ Some m → Ascends cmp xs → Each (Le (is_before cmp) m) xs
  first_least m [] e up = tt
  first_least m (x ∷ xs) e up = let h : x ≡ m = cc in subst (λ z. Each (Le (is_before cmp) z) (x ∷ xs)) h (Le-refl (is_before cmp) o x, up.0)

  after_first : (u : R) (first : Option R) (xs : List R) → IsSome first → first ≡ first_of xs → NotAfter cmp u first → Ascends cmp xs → Each (Le (is_before cmp) u) xs
  after_first u None xs there e le up = absurd (true≢false (sym there))
  after_first u (Some m) xs there e le up = Each-weaker (Le (is_before cmp) m) (Le (is_before cmp) u) (λ x h. Le-trans (is_before cmp) o u m x le h) xs (first_least m xs (sym e) up)

  some_first : (first : Option R) (xs ys : List R) → IsSome first → first ≡ first_of xs → first ≡ first_of (xs ++ ys)
  some_first None xs ys there e = absurd (true≢false (sym there))
  some_first (Some m) xs ys there e = sym (first_append xs ys m (sym e))

  -- nothing waits, or only what is not before the first record
  abbrev Wait : Option R → List R → Type 0
  Wait None waits = waits ≡ []
  Wait (Some m) waits = Each (Le (is_before cmp) m) waits

  not_before : (x m : R) (waits : List R) → Le (is_before cmp) x m → Each (Le (is_before cmp) m) waits → Each (Le (is_before cmp) x) waits
  not_before x m waits le = Each-weaker (Le (is_before cmp) m) (Le (is_before cmp) x) (λ y h. Le-trans (is_before cmp) o x m y le h) waits

  below_it : (x u l : R) → not (is_before cmp u x) ≡ true → is_before cmp u l ≡ true → is_before cmp x l ≡ true
  below_it x u l h k = true_from_ne_false (is_before cmp x l) (λ f. true≢false (sym k ∙ Le-trans (is_before cmp) o l x u f (not-true (is_before cmp u x) h)))

  -- the edge that a turn chooses is safe
  edge_is_safe : (first below : Option R) (waits : List R) → Wait first waits → IsSafeEdge cmp (edge_of cmp first below) below waits
  edge_is_safe None None waits e = (λ x t. subst (Each (Le (is_before cmp) x)) (sym e) tt, λ xs h. tt)
  edge_is_safe None (Some l) waits e = (λ x t. subst (Each (Le (is_before cmp) x)) (sym e) tt, λ xs h. h)
  edge_is_safe (Some m) None waits wait = (λ x t. not_before x m waits (not-true (is_before cmp m x) t) wait, λ xs h. tt)
  edge_is_safe (Some m) (Some l) waits wait =
      elim (cases_Bool (is_before cmp m l)) as (λ _. IsSafeEdge cmp (nearer cmp m l) (Some l) waits) [
        | inl t ↦ subst (λ v. IsSafeEdge cmp (cond v (AtMost m) (Below l)) (Some l) waits) (sym t) (
          (λ x h. not_before x m waits (not-true (is_before cmp m x) h) wait),
          (λ xs h. Each-weaker (λ x. not (is_before cmp m x) ≡ true) (λ x. is_before cmp x l ≡ true) (λ x k. below_it x m l k t) xs h),
        )
        | inr f ↦ subst (λ v. IsSafeEdge cmp (cond v (AtMost m) (Below l)) (Some l) waits) (sym f) ((λ x h. not_before x m waits (Le-trans (is_before cmp) o x l m (o.one_way x l h) f) wait), (λ xs h. h))
      ]

  -- where no record is within the edge, and the edge is no block's, nothing below the limit is left
  none_left :
      (first below : Option R) (loaded waits : List R) → Wait first waits → ((u : R) → edge_of cmp first below ≢ AtMost u) → Each (λ x. is_within cmp (edge_of cmp first below) x ≡ false) loaded → NoneBelow cmp below (loaded ++ waits)
  none_left None None loaded waits e not_at fail = ap₂ (λ xs ys. xs ++ ys) (no_true loaded fail) e
  none_left None (Some l) loaded waits e not_at fail = Each-append (λ x. is_before cmp x l ≡ false) loaded waits fail (subst (Each (λ x. is_before cmp x l ≡ false)) (sym e) tt)
  none_left (Some m) None loaded waits wait not_at fail = absurd (not_at m refl)
  none_left (Some m) (Some l) loaded waits wait not_at fail =
      elim (cases_Bool (is_before cmp m l)) as (λ _. Each (λ x. is_before cmp x l ≡ false) (loaded ++ waits)) [
        | inl t ↦ absurd (not_at m (ap (λ v. cond v (AtMost m) (Below l)) t))
        | inr f ↦ Each-append (λ x. is_before cmp x l ≡ false) loaded waits (subst (λ v. Each (λ x. is_within cmp (cond v (AtMost m) (Below l)) x ≡ false) loaded) f fail) (not_before l m waits f wait)
      ]

  one_fails : (u : R) (xs ys : List R) → 0 < length xs → first_of ys ≡ Some u → Ascends cmp (xs ++ ys) → Each (λ x. is_within cmp (AtMost u) x ≡ false) xs → ⊥
  one_fails u [] ys some e up fail = absurd (omega arith)
  one_fails u (x ∷ xs) [] some e up fail = absurd (cc)
  one_fails u (x ∷ xs) (y ∷ ys) some e up fail =
      let k : y ≡ u = cc in
      true≢false (sym (ap not (subst (Le (is_before cmp) x) k (Each-append_right (Le (is_before cmp) x) xs (y ∷ ys) up.0).0)) ∙ fail.0)

module _ {S R : Type 0} (cmp : R → R → Ordering) (o : IsStrictWeakOrder (is_before cmp)) (record_of : List ℕ → R) (width : ℕ) (shown : S → Shown) where
  abbrev Labelled : List (External S R) → Type 0
  Labelled arrays = Each (λ (a : External S R). All (IsLabelled record_of width shown) a.stored) arrays

  abbrev NoneLifted : List (External S R) → Type 0
  NoneLifted arrays = Each (λ (a : External S R). a.lifted ≡ []) arrays

  -- the first of all records in stored blocks is that of the first label
  first_is : (b : DeviceBlock S R) (bs : List (DeviceBlock S R)) → All (IsLabelled record_of width shown) (b ∷ bs) → AllTell (slots_shown shown (b ∷ bs)) → IsSome b.minimum × (b.minimum ≡ first_of (blocks_items record_of width shown (b ∷ bs)))
  first_is b bs labelled tell =
      let n = All-head (IsLabelled record_of width shown) b bs labelled in
      let t : Tells (shown b.slot) = All-head Tells (shown b.slot) (slots_shown shown bs) tell in
      (n.labelled, some_first cmp o b.minimum (block_items record_of width shown b) (blocks_items record_of width shown bs) n.labelled (n.first t) ∙ sym (ap first_of (flat_map-cons (block_items record_of width shown) b bs)))

  stored_waits : (u : R) (bs : List (DeviceBlock S R)) → NotAfter cmp u (next_of bs) → All (IsLabelled record_of width shown) bs → AllTell (slots_shown shown bs) → Ascends cmp (blocks_items record_of width shown bs) → Each (Le (is_before cmp) u) (blocks_items record_of width shown bs)
  stored_waits u [] le labelled tell up = tt
  stored_waits u (b ∷ bs) le labelled tell up = let f = first_is b bs labelled tell in after_first cmp o u b.minimum (blocks_items record_of width shown (b ∷ bs)) f.0 f.1 le up

  array_waits : (u : R) (a : External S R) → a.lifted ≡ [] → NotAfter cmp u (next_of a.stored) → All (IsLabelled record_of width shown) a.stored → AllTell (slots_shown shown a.stored) → Ascends cmp (records_in record_of width shown a) → Each (Le (is_before cmp) u) (blocks_items record_of width shown (waiting a))
  array_waits u a none le labelled tell up =
      let e : waiting a ≡ a.stored = ap (λ xs. xs ++ a.stored) none in
      let later = Rising-right (is_before cmp) (items_of a.loaded) (blocks_items record_of width shown (waiting a)) up in
      subst (λ bs. Each (Le (is_before cmp) u) (blocks_items record_of width shown bs)) (sym e) (stored_waits u a.stored le labelled tell (subst (λ bs. Ascends cmp (blocks_items record_of width shown bs)) e later))

  -- what waits is not before a record that is not after any array's next first record
  all_wait :
      (u : R) (arrays : List (External S R)) → Each (λ (a : External S R). NotAfter cmp u (next_of a.stored)) arrays → NoneLifted arrays → Labelled arrays
      → AllTell (external_slots shown arrays) → Each (λ (a : External S R). Ascends cmp (records_in record_of width shown a)) arrays → Each (Le (is_before cmp) u) (waiting_items record_of width shown arrays)
  all_wait u [] le none labelled tell up = tt
  all_wait u (a ∷ as') le none labelled tell up =
      let t : AllTell (slots_shown shown a.stored ++ external_slots shown as') = subst AllTell (flat_map-cons (λ (a : External S R). slots_shown shown a.stored) a as') tell in
      subst (Each (Le (is_before cmp) u)) (sym (flat_map-cons (λ (a : External S R). blocks_items record_of width shown (waiting a)) a as'))
      (Each-append (Le (is_before cmp) u) (blocks_items record_of width shown (waiting a)) (waiting_items record_of width shown as')
      (array_waits u a none.0 le.0 labelled.0 (all_left Tells (slots_shown shown a.stored) (external_slots shown as') t) up.0)
      (all_wait u as' le.1 none.1 labelled.1 (all_right Tells (slots_shown shown a.stored) (external_slots shown as') t) up.1))

  -- nothing waits where no block is stored, and no record is counted there
  none_waits : (arrays : List (External S R)) → Each (λ (a : External S R). a.stored ≡ []) arrays → NoneLifted arrays → (waiting_items record_of width shown arrays ≡ []) × (sum_by (λ (a : External S R). counts (waiting a)) arrays ≡ 0)
  none_waits [] e none = (refl, refl)
  none_waits (a ∷ as') e none =
      let w : waiting a ≡ [] = ap₂ (λ xs ys. xs ++ ys) none.0 e.0 in
      let r = none_waits as' e.1 none.1 in (
        flat_map-cons (λ (a : External S R). blocks_items record_of width shown (waiting a)) a as' ∙ ap₂ (λ xs ys. xs ++ ys) (ap (λ bs. blocks_items record_of width shown bs) w) r.0,
        omega (arith, ap counts w, r.1, sum_by-cons (λ (a : External S R). counts (waiting a)) a as'),
      )

  slots_get : (arrays : List (External S R)) (i : ℕ) (a : External S R) → slice_get arrays i ≡ Some a → AllTell (external_slots shown arrays) → AllTell (slots_shown shown a.stored)
  slots_get [] i a e t = absurd (cc)
  slots_get (b ∷ bs) zero a e t = let k : b ≡ a = cc in subst (λ (z : External S R). AllTell (slots_shown shown z.stored)) k (all_left Tells (slots_shown shown b.stored) (external_slots shown bs) (subst AllTell (flat_map-cons (λ (a : External S R). slots_shown shown a.stored) b bs) t))
  slots_get (b ∷ bs) (suc i) a e t = slots_get bs i a e (all_right Tells (slots_shown shown b.stored) (external_slots shown bs) (subst AllTell (flat_map-cons (λ (a : External S R). slots_shown shown a.stored) b bs) t))

  -- the loaded parts ascend where the runs do
  pub lists_rise : (internal : List (Run R)) (arrays : List (External S R)) → Each (λ (run : Run R). Ascends cmp (items_of run)) internal → Each (λ (a : External S R). Ascends cmp (records_in record_of width shown a)) arrays → Each (Ascends cmp) (loaded_lists internal arrays)
  lists_rise internal arrays here there =
      Each-append (Ascends cmp) (map items_of internal) (map loaded_of arrays) (each_map items_of (Ascends cmp) internal here)
      (each_map loaded_of (Ascends cmp) arrays (Each-weaker (λ (a : External S R). Ascends cmp (records_in record_of width shown a)) (λ (a : External S R). Ascends cmp (items_of a.loaded)) (λ a h. Rising-left (is_before cmp) (items_of a.loaded) (blocks_items record_of width shown (waiting a)) h) arrays there))

  module _ (internal : List (Run R)) (arrays : List (External S R)) (below : Option R) (none : NoneLifted arrays) (labelled : Labelled arrays) where
    next_waits : (next : Option (NextBlock R)) → IsNext cmp arrays next → AllRise cmp record_of width shown internal arrays → Wait cmp o (minimum_of next) (waiting_items record_of width shown arrays)
    next_waits None is r = (none_waits arrays is none).0
    next_waits (Some b) is r = all_wait b.minimum arrays is.least none labelled r.tell r.external

    -- without a limit nothing is left at the end
    all_taken :
        (next : Option (NextBlock R)) (limit : Option R) (edge : Edge R) → IsNext cmp arrays next → edge ≡ edge_of cmp (minimum_of next) limit → ((u : R) → edge ≢ AtMost u) → (edge ≡ Whole → length (all_of (loaded_lists internal arrays)) ≡ 0) → limit ≡ None
        → count_in internal arrays ≡ 0
    all_taken None None edge is e not_at zero_long b = omega (arith, loaded_long internal arrays, (none_waits arrays is none).1, zero_long e)
    all_taken (Some n) None edge is e not_at zero_long b = absurd (not_at n.minimum e)
    all_taken next (Some l) edge is e not_at zero_long b = absurd (cc)

    module _ (next : Option (NextBlock R)) (edge : Edge R) (bounds : List ℕ) (safe room ahead : ℕ) (is : IsNext cmp arrays next) (chosen : edge ≡ edge_of cmp (minimum_of next) below) (m : IsMarked cmp edge (loaded_lists internal arrays) bounds safe) where
      fail : safe ≡ 0 → AllRise cmp record_of width shown internal arrays → Each (λ x. is_within cmp edge x ≡ false) (all_of (loaded_lists internal arrays))
      fail e r = all_fail (is_within cmp edge) (loaded_lists internal arrays) (omega (arith, e, m.counted, ap total (m.safe (lists_rise internal arrays r.internal r.external))))

      pub planned : (turn : Turn) → IsTurn arrays next edge safe room ahead (Some turn) → 0 < room → IsPlan cmp record_of width shown below internal arrays bounds room ahead turn
      planned (Take n) t some = record {
        some = t.0;
        few = omega (arith, t.1);
        within = m.within;
        count = omega (arith, t.1, m.counted);
        edge = edge;
        marked = m.safe;
        safe = λ r. subst (λ e. IsSafeEdge cmp e below (waiting_items record_of width shown arrays)) (sym chosen) (edge_is_safe cmp o (minimum_of next) below (waiting_items record_of width shown arrays) (next_waits next is r));
      }
      planned (Load at) t some = t
      planned End t some = record {
        none = λ r. none_left cmp o (minimum_of next) below (all_of (loaded_lists internal arrays)) (waiting_items record_of width shown arrays) (next_waits next is r) (λ u h. t.1 u (chosen ∙ h)) (subst (λ e. Each (λ x. is_within cmp e x ≡ false) (all_of (loaded_lists internal arrays))) chosen (fail t.0 r));
        all = all_taken next below edge is chosen t.1 (λ e. sym (m.whole e) ∙ t.0);
      }

      -- over slots that tell, a block's array that has something loaded has a safe record
      never_odd : (d : IsOdd arrays next edge safe) → AllRise cmp record_of width shown internal arrays → ⊥
      never_odd d r =
          let first : IsLeastNext cmp arrays d.block = subst (IsNext cmp arrays) d.is is in
          let same : first.array ≡ d.array = cc in
          let wait : waiting d.array ≡ d.array.stored = ap (λ xs. xs ++ d.array.stored) (each_get (λ (a : External S R). a.lifted ≡ []) arrays d.block.place d.array d.here none) in
          let up = each_get (λ (a : External S R). Ascends cmp (records_in record_of width shown a)) arrays d.block.place d.array d.here r.external in
          let fails = subst (λ e. Each (λ x. is_within cmp e x ≡ false) (all_of (loaded_lists internal arrays))) d.near (fail d.none r) in
          let mine = part_of (λ x. is_within cmp (AtMost d.block.minimum) x ≡ false) loaded_of arrays d.block.place d.array d.here (later_part (λ x. is_within cmp (AtMost d.block.minimum) x ≡ false) (map items_of internal) (map loaded_of arrays) fails) in
          one_fails cmp o d.block.minimum (items_of d.array.loaded) (blocks_items record_of width shown d.array.stored) d.loaded
          (first_stored d.array.stored (subst (λ (z : External S R). next_of z.stored ≡ Some d.block.minimum) same first.minimum) (each_get (λ (a : External S R). All (IsLabelled record_of width shown) a.stored) arrays d.block.place d.array d.here labelled) (slots_get arrays d.block.place d.array d.here r.tell))
          (subst (λ bs. Ascends cmp (items_of d.array.loaded ++ blocks_items record_of width shown bs)) wait up) mine
        where
          first_stored : (bs : List (DeviceBlock S R)) → next_of bs ≡ Some d.block.minimum → All (IsLabelled record_of width shown) bs → AllTell (slots_shown shown bs) → first_of (blocks_items record_of width shown bs) ≡ Some d.block.minimum
          first_stored [] e labelled tell = absurd (cc)
          first_stored (b ∷ bs) e labelled tell = sym (first_is b bs labelled tell).1 ∙ e

      pub planned_odd : IsOdd arrays next edge safe → (bs : List ℕ) (all n : ℕ) → IsMarked cmp Whole (loaded_lists internal arrays) bs all → 0 < room → n ≡ min all room → TakesPart cmp record_of width shown below internal arrays bs room n
      planned_odd d bs all n w some e = record {
        some = omega (arith, w.whole refl, some_loaded internal arrays d.block.place d.array d.here d.loaded, some, e);
        few = omega (arith, e);
        within = w.within;
        count = omega (arith, w.counted, e);
        edge = Whole;
        marked = w.safe;
        safe = λ r. absurd (never_odd d r);
      }

-- all of what is taken is wanted
pub takes_all :
    {S R : Type 0} (cmp : R → R → Ordering) (record_of : List ℕ → R) (width : ℕ) (shown : S → Shown) (below : Option R) (internal : List (Run R)) (arrays : List (External S R)) (places : List ℕ) (room n m : ℕ)
    → m ≡ n → TakesPart cmp record_of width shown below internal arrays places room n → TakesPart cmp record_of width shown below internal arrays places m m
takes_all cmp record_of width shown below internal arrays places room n m e t = record {
  some = omega (arith, t.some, e);
  few = omega arith;
  within = t.within;
  count = omega (arith, t.count, e);
  edge = t.edge;
  marked = t.marked;
  safe = t.safe;
}
