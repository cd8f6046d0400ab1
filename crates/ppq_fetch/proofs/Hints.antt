-- Hints: what they say of the next blocks, and what a turn does to them.
use Rattle.std.proofs.Common.{◌≡◌, ◌≢◌, ℕ, zero, suc, ◌+◌, ◌<◌, ◌≤◌, List, [], ◌∷◌, ◌++◌, length, take, get_or, slice_set, Option, Some, None, IsSome, IfNone, refl, sym, ap, ap₂, ◌∙◌, subst, arith, All, true≢false, length-set}
use Rattle.std.specs.List.{slice_get, AllByRecursion as Each, AllZip}
use Rattle.std.specs.declared.cmp.Ordering.{Ordering}
use Rattle.std.proofs.lemmas.List.{map-append, map-set}
use Rattle.std.proofs.lemmas.List.Elements.{All-head, All-drop}
use Rattle.ppq_array.specs.ppq_record.Order.{is_before, Le}
use Rattle.ppq_array.specs.ppq_outside.Shown.{Shown}
use Rattle.ppq_array.specs.declared.berth.DeviceBlock.{DeviceBlock}
use Rattle.ppq_array.specs.External.{External, next_of, IsLabelled}
use Rattle.ppq_fetch.specs.Bench.{Marks}
use Rattle.ppq_merge.specs.ppq_tree.Tree.{IsLeastLeaf, HasNoItems}
use Rattle.ppq_array.specs.Holdings.{external_buffers}
use Rattle.ppq_fetch.specs.Beside.{HasStored, MayReadTwo}
use Rattle.ppq_fetch.specs.Fetching.{State, WentOn, fronts_in}
use Rattle.ppq_fetch.specs.Hints.{nexts_of, next_at, AreHints, NextsBut}
use Rattle.ppq_fetch.specs.Rounds.{TookTurn}
use Rattle.ppq_fetch.specs.Steps.{SameBlocks}
use Rattle.ppq_fetch.specs.Turns.{NotAfter, IsNext, IsLeastNext}
use Rattle.ppq_fetch.proofs.Beside.{set_four}
use Rattle.ppq_fetch.proofs.Rounds.{zip_rec, zip_each}
use Rattle.ppq_fetch.proofs.Waiting.{some_stored}

module _ {A : Type 0} where
  -- up to a place that was written
  pub take-set : (xs : List A) (i : ℕ) (v : A) → i < length xs → take (suc i) (slice_set xs i v) ≡ take i xs ++ v ∷ []
  take-set [] i v h = absurd (omega arith)
  take-set (x ∷ xs) zero v h = refl
  take-set (x ∷ xs) (suc i) v h = ap (λ ys. x ∷ ys) (take-set xs i v (omega arith))

  set_once : (xs : List A) (i : ℕ) (v d : A) → slice_set xs i (get_or (slice_set xs i v) i d) ≡ slice_set xs i v
  set_once [] i v d = refl
  set_once (x ∷ xs) zero v d = refl
  set_once (x ∷ xs) (suc i) v d = ap (λ ys. x ∷ ys) (set_once xs i v d)

  -- two places, written with what stands there once they are
  set_two : (xs : List A) (p q : ℕ) (u v d : A) → let ys = slice_set (slice_set xs p u) q v in slice_set (slice_set xs p (get_or ys p d)) q (get_or ys q d) ≡ ys
  set_two [] p q u v d = refl
  set_two (x ∷ xs) zero zero u v d = refl
  set_two (x ∷ xs) zero (suc q) u v d = ap (λ ys. u ∷ ys) (set_once xs q v d)
  set_two (x ∷ xs) (suc p) zero u v d = ap (λ ys. v ∷ ys) (set_once xs p u d)
  set_two (x ∷ xs) (suc p) (suc q) u v d = ap (λ ys. x ∷ ys) (set_two xs p q u v d)

  -- an item that was taken out and put back
  pub put_back : (hs : List (Option A)) (p : ℕ) (m : A) → get_or hs p None ≡ Some m → slice_set (slice_set hs p None) p (Some m) ≡ hs
  put_back [] p m e = refl
  put_back (h ∷ hs) zero m e = ap (λ y. y ∷ hs) (sym e)
  put_back (h ∷ hs) (suc p) m e = ap (λ ys. h ∷ ys) (put_back hs p m e)

  -- an item while another one is out
  pub other_item : (hs : List (Option A)) (p q : ℕ) (x : A) → get_or (slice_set hs p None) q None ≡ Some x → (q ≢ p) × (get_or hs q None ≡ Some x)
  other_item [] p q x e = absurd (cc)
  other_item (h ∷ hs) zero zero x e = absurd (cc)
  other_item (h ∷ hs) zero (suc q) x e = (λ k. absurd (omega (arith, k)), e)
  other_item (h ∷ hs) (suc p) zero x e = (λ k. absurd (omega (arith, k)), e)
  other_item (h ∷ hs) (suc p) (suc q) x e = let r = other_item hs p q x e in (λ k. r.0 (omega (arith, k)), r.1)

  some_of : (m : Option A) → IsSome m → (x : A) × (m ≡ Some x)
  some_of None there = absurd (true≢false (sym there))
  some_of (Some x) there = (x, refl)

-- a bench of which a hint was taken out and put back
pub restored :
    {R : Type 0} (b b1 b2 : Marks R) (p : ℕ) (m : R) → get_or b.hints p None ≡ Some m → b1 ≡ record b { hints = b1.hints } → b1.hints ≡ slice_set b.hints p None → b2 ≡ record b1 { hints = b2.hints } → b2.hints ≡ slice_set b1.hints p (Some m) → b2 ≡ b
restored {R} b b1 b2 p m here r1 h1 r2 h2 =
    let hints : b2.hints ≡ b.hints = h2 ∙ (ap (λ hs. slice_set hs p (Some m)) h1 ∙ put_back b.hints p m here) in
    r2 ∙ (ap (λ hs. record b1 { hints = hs }) hints ∙ ap (λ (x : Marks R). record x { hints = b.hints }) r1)

not_after : {R : Type 0} (cmp : R → R → Ordering) (u : R) (m : Option R) → ((y : R) → m ≡ Some y → Le (is_before cmp) u y) → NotAfter cmp u m
not_after cmp u None h = tt
not_after cmp u (Some m) h = h m refl

module _ {S R : Type 0} where
  -- where a run has a hint, it has a stored block
  pub hinted_stored : (arrays : List (External S R)) (i : ℕ) (x : R) → next_at arrays i ≡ Some x → HasStored arrays i
  hinted_stored [] i x e = absurd (cc)
  hinted_stored (a ∷ rest) zero x e = record { array = a; here = refl; stored = some_stored a.stored x (sym e) }
  hinted_stored (a ∷ rest) (suc i) x e = let h = hinted_stored rest i x e in record { array = h.array; here = h.here; stored = h.stored }

  -- two runs that were named one after the other, the first one taken out in between
  pub two_named :
      (arrays : List (External S R)) (hints out : List (Option R)) (p q : ℕ) (x y : R) (ahead : ℕ) → hints ≡ nexts_of arrays → out ≡ slice_set hints p None → get_or hints p None ≡ Some x → get_or out q None ≡ Some y → external_buffers arrays + 2 ≤ fronts_in arrays + ahead
      → MayReadTwo arrays ahead p q
  two_named arrays hints out p q x y ahead e taken one other room =
      let o = other_item hints p q y (ap (λ hs. get_or hs q None) (sym taken) ∙ other) in
      record {
        one = hinted_stored arrays p x (ap (λ hs. get_or hs p None) (sym e) ∙ one);
        other = hinted_stored arrays q y (ap (λ hs. get_or hs q None) (sym e) ∙ o.1);
        apart = o.0;
        room = room;
      }

  next_get : (arrays : List (External S R)) (i : ℕ) (a : External S R) → slice_get arrays i ≡ Some a → next_at arrays i ≡ next_of a.stored
  next_get [] i a e = absurd (cc)
  next_get (x ∷ rest) zero a e = let k : x ≡ a = cc in ap (λ (z : External S R). next_of z.stored) k
  next_get (x ∷ rest) (suc i) a e = next_get rest i a e

  -- what is next in a run that was looked at
  pub next_index : (arrays : List (External S R)) (i : ℕ) (a : External S R) → i < length arrays → a ≡ get_or arrays i a → next_of a.stored ≡ next_at arrays i
  next_index [] i a h e = absurd (omega arith)
  next_index (x ∷ rest) zero a h e = ap (λ (z : External S R). next_of z.stored) e
  next_index (x ∷ rest) (suc i) a h e = next_index rest i a (omega arith) e

  pub long_four : (xs : List (External S R)) (p q : ℕ) (a b c d : External S R) → length (slice_set (slice_set (slice_set (slice_set xs p a) q b) p c) q d) ≡ length xs
  long_four xs p q a b c d = omega (arith, length-set xs p a, length-set (slice_set xs p a) q b, length-set (slice_set (slice_set xs p a) q b) p c, length-set (slice_set (slice_set (slice_set xs p a) q b) p c) q d)

  -- one run more was told of
  pub tell_more : (xs : List (External S R)) (hints : List (Option R)) (i : ℕ) (a : External S R) (m : Option R) → i < length hints → take (i + 1) xs ≡ take i xs ++ a ∷ [] → m ≡ next_of a.stored → take i hints ≡ nexts_of (take i xs) → take (i + 1) (slice_set hints i m) ≡ nexts_of (take (i + 1) xs)
  tell_more xs hints i a m h cut is told =
      let one : i + 1 ≡ suc i = omega arith in
      ap (λ k. take k (slice_set hints i m)) one ∙ (take-set hints i m h ∙ (ap₂ (λ us u. us ++ u ∷ []) told is ∙ (sym (map-append (λ (b : External S R). next_of b.stored) (take i xs) (a ∷ [])) ∙ ap nexts_of (sym cut))))

  -- a run was taken on
  pub nexts-set : (arrays : List (External S R)) (hints : List (Option R)) (i : ℕ) (b : External S R) → hints ≡ nexts_of arrays → slice_set hints i (next_of b.stored) ≡ nexts_of (slice_set arrays i b)
  nexts-set arrays hints i b e = ap (λ hs. slice_set hs i (next_of b.stored)) e ∙ sym (map-set (λ (a : External S R). next_of a.stored) arrays i b)

  -- records were taken, and no block
  pub nexts-same : (xs ys : List (External S R)) → AllZip SameBlocks xs ys → nexts_of ys ≡ nexts_of xs
  nexts-same = zip_rec SameBlocks (λ xs ys. nexts_of ys ≡ nexts_of xs) refl (λ a b xs ys p k. ap₂ (λ m ms. m ∷ ms) (ap (λ (z : External S R). next_of z.stored) p) k)

  -- two runs were taken on, and then records were taken
  pub four_nexts : (arrays gone : List (External S R)) (p q : ℕ) (m1 m2 x y : External S R) → q ≢ p → AllZip SameBlocks (slice_set (slice_set (slice_set (slice_set arrays p m1) q m2) p x) q y) gone → NextsBut p q arrays gone
  four_nexts arrays gone p q m1 m2 x y apart zip =
      let f = λ (a : External S R). next_of a.stored in
      let both : nexts_of (slice_set (slice_set arrays p x) q y) ≡ slice_set (slice_set (nexts_of arrays) p (f x)) q (f y) = map-set f (slice_set arrays p x) q y ∙ ap (λ hs. slice_set hs q (f y)) (map-set f arrays p x) in
      record {
        one = f x;
        other = f y;
        same = nexts-same (slice_set (slice_set (slice_set (slice_set arrays p m1) q m2) p x) q y) gone zip ∙ (ap nexts_of (set_four arrays p q m1 m2 x y apart) ∙ both);
      }

  module _ (cmp : R → R → Ordering) where
    each_after : (u : R) (arrays : List (External S R)) → ((i : ℕ) (y : R) → next_at arrays i ≡ Some y → Le (is_before cmp) u y) → Each (λ (a : External S R). NotAfter cmp u (next_of a.stored)) arrays
    each_after u [] h = tt
    each_after u (a ∷ rest) h = (not_after cmp u (next_of a.stored) (λ y e. h zero y e), each_after u rest (λ i y e. h (suc i) y e))

    least_next : (arrays : List (External S R)) (i : ℕ) (x : R) → IsLeastLeaf cmp (nexts_of arrays) i x → IsLeastNext cmp arrays record { place = i; minimum = x }
    least_next arrays i x is =
        let h = hinted_stored arrays i x is.there in
        record {
          array = h.array;
          here = h.here;
          minimum = sym (next_get arrays i h.array h.here) ∙ is.there;
          stored = h.stored;
          least = each_after x arrays is.least;
        }

  module _ (record_of : List ℕ → R) (width : ℕ) (shown : S → Shown) where
    abbrev Labelled : List (External S R) → Type 0
    Labelled arrays = Each (λ (a : External S R). All (IsLabelled record_of width shown) a.stored) arrays

    none_stored : (bs : List (DeviceBlock S R)) → ((x : R) → next_of bs ≡ Some x → ⊥) → All (IsLabelled record_of width shown) bs → bs ≡ []
    none_stored [] none labelled = refl
    none_stored (b ∷ bs) none labelled = let s = some_of b.minimum (All-head (IsLabelled record_of width shown) b bs labelled).labelled in absurd (none s.0 s.1)

    none_next : (arrays : List (External S R)) → HasNoItems (nexts_of arrays) → Labelled arrays → Each (λ (a : External S R). a.stored ≡ []) arrays
    none_next [] none labelled = tt
    none_next (a ∷ rest) none labelled = (none_stored a.stored (λ x e. none zero x e) labelled.0, none_next rest (λ i x e. none (suc i) x e) labelled.1)

    -- where no run has a hint, no block is stored
    pub hints_none : (cmp : R → R → Ordering) (arrays : List (External S R)) (hints : List (Option R)) → AreHints record_of width shown arrays hints → HasNoItems hints → IsNext cmp arrays None
    hints_none cmp arrays hints h none = none_next arrays (subst HasNoItems h.nexts none) h.labelled

    -- the smallest of the hints is of the block that is next
    pub hints_least : (cmp : R → R → Ordering) (arrays : List (External S R)) (hints : List (Option R)) (i : ℕ) (x : R) → AreHints record_of width shown arrays hints → IsLeastLeaf cmp hints i x → IsNext cmp arrays (Some record { place = i; minimum = x })
    hints_least cmp arrays hints i x h is = least_next cmp arrays i x (subst (λ hs. IsLeastLeaf cmp hs i x) h.nexts is)

    labelled_on : (xs ys : List (External S R)) → AllZip WentOn xs ys → Labelled xs → Labelled ys
    labelled_on = zip_each WentOn (λ (a : External S R). All (IsLabelled record_of width shown) a.stored) (λ a b w h. subst (All (IsLabelled record_of width shown)) (sym w.stored) (All-drop (IsLabelled record_of width shown) w.loads a.stored h))

    -- blocks of runs were loaded, and the hints tell what is next
    pub hints_on : (xs ys : List (External S R)) (hints hints' : List (Option R)) → AreHints record_of width shown xs hints → AllZip WentOn xs ys → hints' ≡ nexts_of ys → AreHints record_of width shown ys hints'
    hints_on xs ys hints hints' h zip e = record { nexts = e; labelled = labelled_on xs ys zip h.labelled }

    -- what two runs tell now makes the hints right again
    pub two_told :
        (cmp : R → R → Ordering) (below : Option R) (ahead : ℕ) (r : Option ℕ) (old new : State S R) (out : List R) (p q : ℕ) (hints hints' : List (Option R)) → AreHints record_of width shown old.external hints
        → IfNone r (TookTurn cmp record_of width shown below ahead old new out) → IfNone r (NextsBut p q old.external new.external)
        → hints' ≡ slice_set (slice_set hints p (next_at new.external p)) q (next_at new.external q) → IfNone r (AreHints record_of width shown new.external hints')
    two_told cmp below ahead None old new out p q hints hints' h turn but e =
        let ys = slice_set (slice_set hints p but.one) q but.other in
        let is : nexts_of new.external ≡ ys = but.same ∙ ap (λ hs. slice_set (slice_set hs p but.one) q but.other) (sym h.nexts) in
        let here : hints' ≡ slice_set (slice_set hints p (get_or ys p None)) q (get_or ys q None) = e ∙ ap (λ hs. slice_set (slice_set hints p (get_or hs p None)) q (get_or hs q None)) is in
        hints_on old.external new.external hints hints' h turn.fetched.parts.went_on (here ∙ (set_two hints p q but.one but.other None ∙ sym is))
    two_told cmp below ahead (Some number) old new out p q hints hints' h turn but e = tt
