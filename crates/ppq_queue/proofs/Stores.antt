-- Calls of a store, one after the other: what stays, and what heaps and store hold together.
use Rattle.std.proofs.Common.{◌≡◌, ℕ, ◌+◌, ◌<◌, ◌≤◌, List, [], ◌∷◌, ◌++◌, length, Bool, true, false, cond, refl, sym, ap, ◌∙◌, subst, arith, inl, inr, length-append}
use Rattle.std.specs.Prelude.{◌⊎◌, ◌==◌, count_by, Result, Ok, Err, OnOk, IfErr, IsErrOf, IsErrAnd, ⊤}
use Rattle.std.specs.declared.cmp.Ordering.{Ordering}
use Rattle.std.proofs.lemmas.List.Sums.{sum_by-cons, sum_by-append}
use Rattle.ppq_heap.specs.ppq_record.Order.{Ascends}
use Rattle.ppq_heap.specs.ppq_record.Bag.{IsSameBag}
use Rattle.ppq_heap.proofs.ppq_record.Order.{count_by-append, IsSameBag-length}
use Rattle.ppq_heap.specs.Heaps.{Shares}
use Rattle.ppq_extract.specs.ppq_outside.Shown.{Shown, AllTell}
use Rattle.ppq_extract.specs.ppq_array.Supply.{Stock}
use Rattle.ppq_extract.specs.ppq_array.Kept.{HasFailed, weight_at}
use Rattle.ppq_extract.specs.ppq_array.External.{External}
use Rattle.ppq_extract.specs.ppq_array.declared.store_fault.StoreFault.{StoreFault}
use Rattle.ppq_extract.specs.ppq_array.declared.store_fault.StoreFault.TheVariants.{NoFreeBlock, Device}
use Rattle.ppq_extract.specs.ppq_fetch.Taking.{NoneAfter}
use Rattle.ppq_extract.specs.Extracted.{Held, SourcesRest}
use Rattle.ppq_extract.specs.declared.sources.Sources.{Sources}
use Rattle.ppq_spill.specs.Leveling.{count_level}
use Rattle.ppq_spill.specs.declared.body.PassBody.{PassBody}
use Rattle.ppq_queue.specs.Resting.{AtRest, BodyKept, Moved, Readied, IsShort, runs_bag, count_of}
use Rattle.ppq_queue.specs.Stores.{HeapsStay, stored, StoreKept, StoreStays, FailsAlone, RunLeaves, RunRefused, MayWork, Holds, Readies, Lacks, Refuses, StoreLeaves, LevelsLeave, slots_in}
use Rattle.ppq_queue.specs.declared.store.Store.{Store}
use Rattle.ppq_spill.proofs.ppq_counts.Accounts.{costs-same, costs-then}
use Rattle.ppq_queue.proofs.Moves.{kept-refl, kept-trans, none_after-same, short-more}
use Rattle.ppq_queue.proofs.Paying.{ok_pays, pays_ok, pays-then, pays-given}

-- what a loop says that had no refusal so far
abbrev pub done : Result ⊤ StoreFault
done = Ok tt

abbrev pub err_of : (T : Type 0) → StoreFault → Result T StoreFault
err_of T e = Err e

pub err_is : {T : Type 0} (e f : StoreFault) → err_of T e ≡ err_of T f → e ≡ f
err_is e f same = cc

-- heaps that did not change
pub heaps-same : {R : Type 0} {h : Shares R} → HeapsStay h h
heaps-same = record { count = refl; cap = refl; fewer = omega arith }

pub heaps-more : {R : Type 0} {h h' h'' : Shares R} → HeapsStay h h' → HeapsStay h' h'' → HeapsStay h h''
heaps-more a b = record { count = b.count ∙ a.count; cap = b.cap ∙ a.cap; fewer = omega (arith, a.fewer, b.fewer) }

pub same-sources : {R : Type 0} {src : Sources R} → SourcesRest src src
same-sources = record { workers = refl; bench = refl; places = refl }

module _ {S R : Type 0} where
  -- no more runs have a level than there are
  pub level_few : (level : ℕ) (arrays : List (External S R)) → count_level level arrays ≤ length arrays
  level_few level [] = omega arith
  level_few level (x ∷ xs) = omega (arith, level_few level xs, sum_by-cons (λ (a : External S R). cond (a.level == level) 1 0) x xs, one (x.level == level))
    where
      one : (b : Bool) → ◌≤◌ (cond b 1 0) 1
      one true = omega arith
      one false = omega arith

module _ {S R : Type 0} {shown : S → Shown} where
  pub kept-same : {x : Store S R} → StoreKept shown x x
  kept-same {x = x} = record { body = kept-refl shown x.body x.supply; no_row = λ none. none; sizes = refl; sources = same-sources; room = refl; within = λ within. within }

  pub kept-more : {x y z : Store S R} → StoreKept shown x y → StoreKept shown y z → StoreKept shown x z
  kept-more {x = x} {y = y} {z = z} h k =
      record {
        body = kept-trans shown x.body y.body z.body x.supply y.supply z.supply h.body k.body;
        no_row = λ none. k.no_row (h.no_row none);
        sizes = k.sizes ∙ h.sizes;
        sources = record { workers = k.sources.workers ∙ h.sources.workers; bench = k.sources.bench ∙ h.sources.bench; places = k.sources.places ∙ h.sources.places };
        room = k.room ∙ h.room;
        within = λ within. k.within (h.within within);
      }

  pub stays-same : {x : Store S R} → StoreStays shown x x
  stays-same = record { kept = kept-same; extract = omega arith }

  pub stays-more : {x y z : Store S R} → StoreStays shown x y → StoreStays shown y z → StoreStays shown x z
  stays-more h k = record { kept = kept-more h.kept k.kept; extract = omega (arith, h.extract, k.extract) }

  -- a step of the runs, maybe with another extract buffer and other sources
  pub kept-step :
      (x : Store S R) (b : PassBody S R) (t : Stock) (v : Held R) (src : Sources R)
      → BodyKept shown x.body b x.supply t → t.drawn ≡ [] → SourcesRest x.sources src → v.room ≡ x.extract.room → (length x.extract.items ≤ x.extract.room → length v.items ≤ v.room)
      → StoreKept shown x (record x { body = b; supply = t; extract = v; sources = src })
  kept-step x b t v src kept no_row rest room within = record { body = kept; no_row = λ none. no_row; sizes = refl; sources = rest; room = room; within = within }

  -- the same, where the extract buffer stays as it was
  pub stays-step : (x : Store S R) (b : PassBody S R) (t : Stock) (src : Sources R) → BodyKept shown x.body b x.supply t → t.drawn ≡ [] → SourcesRest x.sources src → StoreStays shown x (record x { body = b; supply = t; sources = src })
  stays-step x b t src kept no_row rest = record { kept = kept-step x b t x.extract src kept no_row rest refl (λ within. within); extract = omega arith }

module _ {S R : Type 0} {shown : S → Shown} {cmp : R → R → Ordering} {record_of : List ℕ → R} {width : ℕ} where
  pub holds-same : {h : List R} {x : Store S R} → MayWork shown cmp record_of width x → Holds shown cmp record_of width h h x x
  holds-same works = record { works = works; quiet = refl; bag = λ tell p. refl; count = refl }

  pub holds-more : {h h' h'' : List R} {x y z : Store S R} → StoreKept shown x y → Holds shown cmp record_of width h h' x y → Holds shown cmp record_of width h' h'' y z → Holds shown cmp record_of width h h'' x z
  holds-more kept one two = record { works = two.works; quiet = two.quiet ∙ one.quiet; bag = λ tell p. two.bag (kept.body.tells.0 tell) p ∙ one.bag tell p; count = two.count ∙ one.count }

  -- the same beside heaps that are not looked at
  pub holds-beside : (h : List R) {x y : Store S R} → Holds shown cmp record_of width [] [] x y → Holds shown cmp record_of width h h x y
  holds-beside h {x = x} {y = y} one =
      let runs = runs_bag shown record_of width x.body in
      let runs' = runs_bag shown record_of width y.body in
      record {
        works = one.works;
        quiet = one.quiet;
        bag = λ tell p.
            omega (
              arith,
              count_by-append p (h ++ y.extract.items) runs',
              count_by-append p h y.extract.items,
              count_by-append p (h ++ x.extract.items) runs,
              count_by-append p h x.extract.items,
              one.bag tell p,
              count_by-append p y.extract.items runs',
              count_by-append p x.extract.items runs,
            );
        count = omega (arith, one.count);
      }

  -- the order of heaps does not count
  holds-sorted : {h h' : List R} {x y : Store S R} → IsSameBag h' h → Holds shown cmp record_of width h h x y → Holds shown cmp record_of width h h' x y
  holds-sorted {h = h} {h' = h'} {x = x} {y = y} same one =
      let runs' = runs_bag shown record_of width y.body in
      record {
        works = one.works;
        quiet = one.quiet;
        bag = λ tell p.
            omega (
              arith,
              count_by-append p (h' ++ y.extract.items) runs',
              count_by-append p h' y.extract.items,
              count_by-append p (h ++ y.extract.items) runs',
              count_by-append p h y.extract.items,
              one.bag tell p,
              same p,
            );
        count = omega (arith, one.count, IsSameBag-length h' h same);
      }

module _ {S R : Type 0} (shown : S → Shown) (cmp : R → R → Ordering) (record_of : List ℕ → R) (width : ℕ) where
  -- a call that was refused, after one that was not
  pub refused-more :
      (h h' h'' : List R) (x y z : Store S R) (fault : StoreFault)
      → StoreKept shown x y → Holds shown cmp record_of width h h' x y → Refuses shown cmp record_of width h' h'' y z fault → Refuses shown cmp record_of width h h'' x z fault
  refused-more h h' h'' x y z NoFreeBlock kept one lacks =
      record { holds = holds-more kept one lacks.holds; some = omega (arith, lacks.some, one.count); short = subst (IsShort z.sizes (length z.supply.kept)) one.count lacks.short }
  refused-more h h' h'' x y z (Device number) kept one failed = failed

  -- one beside heaps that are not looked at
  pub refused-beside : (h : List R) (x y : Store S R) (fault : StoreFault) → Refuses shown cmp record_of width [] [] x y fault → Refuses shown cmp record_of width h h x y fault
  refused-beside h x y NoFreeBlock lacks =
      record { holds = holds-beside h lacks.holds; some = omega (arith, lacks.some); short = short-more y.sizes (length y.supply.kept) (length {A = R} [] + stored x) (length h + stored x) (omega arith) lacks.short }
  refused-beside h x y (Device number) failed = failed

  -- one where only a device refuses
  pub refused-alone : (h h' : List R) (x y : Store S R) (fault : StoreFault) → FailsAlone shown y fault → Refuses shown cmp record_of width h h' x y fault
  refused-alone h h' x y NoFreeBlock failed = absurd failed
  refused-alone h h' x y (Device number) failed = failed

  refused-sorted : (h h' : List R) (x y : Store S R) (fault : StoreFault) → IsSameBag h' h → Refuses shown cmp record_of width h h x y fault → Refuses shown cmp record_of width h h' x y fault
  refused-sorted h h' x y NoFreeBlock same lacks = record { holds = holds-sorted same lacks.holds; some = lacks.some; short = lacks.short }
  refused-sorted h h' x y (Device number) same failed = failed

module _ {S R : Type 0} {shown : S → Shown} {cmp : R → R → Ordering} {record_of : List ℕ → R} {width : ℕ} where
  pub leaves-sorted : {T : Type 0} {h h' : List R} {x y : Store S R} {r : Result T StoreFault} → IsSameBag h' h → StoreLeaves shown cmp record_of width h h x y r → StoreLeaves shown cmp record_of width h h' x y r
  leaves-sorted {r = Ok v} same one = record { stays = one.stays; holds = holds-sorted same one.holds; refused = tt }
  leaves-sorted {h = h} {h' = h'} {x = x} {y = y} {r = Err e} same one = record { stays = one.stays; holds = tt; refused = refused-sorted shown cmp record_of width h h' x y e same one.refused }

  -- nothing was done
  pub leaves-same : {T : Type 0} {v : T} {h : List R} {x : Store S R} → MayWork shown cmp record_of width x → StoreLeaves shown cmp record_of width h h x x (Ok v)
  leaves-same works = record { stays = stays-same; holds = holds-same works; refused = tt }

  -- a call after a step
  pub leaves-more :
      {T : Type 0} {h h' h'' : List R} {x y z : Store S R} {r : Result T StoreFault}
      → StoreStays shown x y → Holds shown cmp record_of width h h' x y → StoreLeaves shown cmp record_of width h' h'' y z r → StoreLeaves shown cmp record_of width h h'' x z r
  leaves-more {r = Ok v} stays one two = record { stays = stays-more stays two.stays; holds = holds-more stays.kept one two.holds; refused = tt }
  leaves-more {h = h} {h' = h'} {h'' = h''} {x = x} {y = y} {z = z} {r = Err e} stays one two =
      record { stays = stays-more stays two.stays; holds = tt; refused = refused-more shown cmp record_of width h h' h'' x y z e stays.kept one two.refused }

  -- a call after a call that was not refused
  pub leaves-after :
      {T U : Type 0} {v : U} {h h' h'' : List R} {x y z : Store S R} {r : Result T StoreFault}
      → StoreLeaves shown cmp record_of width h h' x y (Ok v) → StoreLeaves shown cmp record_of width h' h'' y z r → StoreLeaves shown cmp record_of width h h'' x z r
  leaves-after one two = leaves-more one.stays one.holds two

  -- two calls that were not refused, in a loop
  pub leaves-on : {T U : Type 0} {v : T} {u : U} {h h' h'' : List R} {x y z : Store S R} → StoreLeaves shown cmp record_of width h h' x y (Ok v) → StoreLeaves shown cmp record_of width h' h'' y z (Ok u) → StoreLeaves shown cmp record_of width h h'' x z (Ok v)
  leaves-on one two = record { stays = stays-more one.stays two.stays; holds = holds-more one.stays.kept one.holds two.holds; refused = tt }

  -- an error that is handed on
  pub leaves-given :
      {T U : Type 0} {h h' : List R} {x y : Store S R} {r : Result T StoreFault} {e : StoreFault}
      → IsErrAnd r (λ given. given ≡ e) → StoreLeaves shown cmp record_of width {T = U} h h' x y (Err e) → StoreLeaves shown cmp record_of width h h' x y r
  leaves-given {r = Ok v} is one = absurd is
  leaves-given {h = h} {h' = h'} {x = x} {y = y} {r = Err f} is one = record { stays = one.stays; holds = tt; refused = subst (Refuses shown cmp record_of width h h' x y) (sym is) one.refused }

  -- the same beside heaps that are not looked at
  pub leaves-beside : {T : Type 0} (h : List R) {x y : Store S R} {r : Result T StoreFault} → StoreLeaves shown cmp record_of width [] [] x y r → StoreLeaves shown cmp record_of width h h x y r
  leaves-beside h {r = Ok v} one = record { stays = one.stays; holds = holds-beside h one.holds; refused = tt }
  leaves-beside h {x = x} {y = y} {r = Err e} one = record { stays = one.stays; holds = tt; refused = refused-beside shown cmp record_of width h x y e one.refused }

  pub levels-same : {T : Type 0} {v : T} {x : Store S R} → MayWork shown cmp record_of width x → LevelsLeave shown cmp record_of width x x (Ok v)
  levels-same works = record { leaves = leaves-same works; internal = refl; crowded = λ err. absurd (cc); pays = ok_pays (costs-same _) }

  pub levels-after :
      {T U : Type 0} {v : U} {x y z : Store S R} {r : Result T StoreFault}
      → LevelsLeave shown cmp record_of width x y (Ok v) → LevelsLeave shown cmp record_of width y z r → LevelsLeave shown cmp record_of width x z r
  levels-after one two = record { leaves = leaves-after one.leaves two.leaves; internal = two.internal ∙ one.internal; crowded = two.crowded; pays = pays-then (pays_ok one.pays) two.pays }

  pub levels-on :
      {T U : Type 0} {v : T} {u : U} {x y z : Store S R}
      → LevelsLeave shown cmp record_of width x y (Ok v) → LevelsLeave shown cmp record_of width y z (Ok u) → LevelsLeave shown cmp record_of width x z (Ok v)
  levels-on one two = record { leaves = leaves-on one.leaves two.leaves; internal = two.internal ∙ one.internal; crowded = λ err. absurd (cc); pays = ok_pays (costs-then (pays_ok one.pays) (pays_ok two.pays)) }

  pub levels-given :
      {T U : Type 0} {x y : Store S R} {r : Result T StoreFault} {e : StoreFault}
      → IsErrAnd r (λ given. given ≡ e) → LevelsLeave shown cmp record_of width {T = U} x y (Err e) → LevelsLeave shown cmp record_of width x y r
  levels-given {r = Ok v} is one = absurd is
  levels-given {U = U} {r = Err f} is one = record { leaves = leaves-given is one.leaves; internal = one.internal; crowded = λ err. one.crowded (ap (err_of U) (sym is ∙ err_is f NoFreeBlock err)); pays = pays-given is one.pays }

  module _ (x : Store S R) (b : PassBody S R) (t : Stock) (works : MayWork shown cmp record_of width x) (kept : BodyKept shown x.body b x.supply t) (no_row : t.drawn ≡ []) where
    -- a store may work on after a step of its runs
    pub works-step :
        (v : Held R) (src : Sources R)
        → SourcesRest x.sources src → AtRest shown cmp record_of width x.sizes b t → v.room ≡ x.extract.room → length v.items ≤ v.room
        → (AllTell (slots_in shown x) → Ascends cmp v.items) → (AllTell (slots_in shown x) → NoneAfter cmp v.items (runs_bag shown record_of width b))
        → MayWork shown cmp record_of width (record x { body = b; supply = t; extract = v; sources = src })
    works-step v src rests rest room within up order =
        record {
          runs = record { range = works.runs.range; budget = works.runs.budget; rest = rest; no_row = no_row };
          workers = rests.workers ∙ works.workers;
          serves = record { bench = omega (arith, works.serves.bench, rests.bench); places = omega (arith, works.serves.places, rests.places) };
          room = room ∙ works.room;
          within = within;
          ascends = λ tell. up (kept.tells.1 tell);
          order = λ tell. order (kept.tells.1 tell);
        }

    -- the runs hold what they held
    pub holds-runs : (src : Sources R) → SourcesRest x.sources src → Moved shown cmp record_of width x.sizes [] x.body b x.supply t → Holds shown cmp record_of width [] [] x (record x { body = b; supply = t; sources = src })
    holds-runs src rests moved =
        let e = x.extract.items in
        let runs = runs_bag shown record_of width x.body in
        let runs' = runs_bag shown record_of width b in
        record {
          works = works-step x.extract src rests moved.rest refl works.within works.ascends (λ tell. none_after-same cmp e runs runs' (λ p. sym (moved.bag tell p)) (works.order tell));
          quiet = moved.quiet;
          bag = λ tell p. omega (arith, count_by-append p e runs', count_by-append p e runs, moved.bag tell p);
          count = omega (arith, moved.count);
        }

    -- a merge or a store found too few free slots, and the runs hold what they held
    pub lacks-runs :
        (src : Sources R)
        → SourcesRest x.sources src → Moved shown cmp record_of width x.sizes [] x.body b x.supply t → 0 < count_of x.body → IsShort x.sizes (length t.kept) (count_of x.body)
        → Lacks shown cmp record_of width [] [] x (record x { body = b; supply = t; sources = src })
    lacks-runs src rests moved some short = record { holds = holds-runs src rests moved; some = omega (arith, some); short = short-more x.sizes (length t.kept) (count_of x.body) (length {A = R} [] + stored x) (omega arith) short }

    -- the extract buffer was stored
    pub holds-rest : (v : Held R) → v.room ≡ x.extract.room → v.items ≡ [] → Moved shown cmp record_of width x.sizes x.extract.items x.body b x.supply t → Holds shown cmp record_of width [] [] x (record x { body = b; supply = t; extract = v })
    holds-rest v room none moved =
        let e = x.extract.items in
        let runs = runs_bag shown record_of width x.body in
        let runs' = runs_bag shown record_of width b in
        record {
          works = works-step v x.sources same-sources moved.rest room (omega (arith, ap length none)) (λ tell. subst (Ascends cmp) (sym none) tt) (λ tell. subst (λ l. NoneAfter cmp l runs') (sym none) tt);
          quiet = moved.quiet;
          bag = λ tell p. omega (arith, count_by-append p v.items runs', ap (count_by p) none, count_by-append p e runs, moved.bag tell p);
          count = omega (arith, moved.count, ap length none);
        }

    -- records of heaps were stored, beside an empty extract buffer
    pub holds-heap : (h sorted h' : List R) → x.extract.items ≡ [] → IsSameBag h (sorted ++ h') → Moved shown cmp record_of width x.sizes sorted x.body b x.supply t → Holds shown cmp record_of width h h' x (record x { body = b; supply = t })
    holds-heap h sorted h' none same moved =
        let e = x.extract.items in
        let runs = runs_bag shown record_of width x.body in
        let runs' = runs_bag shown record_of width b in
        record {
          works = works-step x.extract x.sources same-sources moved.rest refl works.within works.ascends (λ tell. subst (λ l. NoneAfter cmp l runs') (sym none) tt);
          quiet = moved.quiet;
          bag = λ tell p.
              omega (
                arith,
                count_by-append p (h' ++ e) runs',
                count_by-append p h' e,
                count_by-append p (h ++ e) runs,
                count_by-append p h e,
                moved.bag tell p,
                count_by-append p sorted runs,
                count_by-append p sorted h',
                same p,
              );
          count = omega (arith, moved.count, IsSameBag-length h (sorted ++ h') same, length-append sorted h');
        }

    -- the extract buffer was refilled
    pub readies-step :
        (v : Held R) (src : Sources R)
        → SourcesRest x.sources src → v.room ≡ x.extract.room → length v.items ≤ v.room → Readied shown cmp record_of width x.sizes x.extract.items v.items x.body b x.supply t
        → Readies shown cmp record_of width x (record x { body = b; supply = t; extract = v; sources = src })
    readies-step v src rests room within ready =
        record {
          holds = record { works = works-step v src rests ready.rest room within ready.ascends ready.order; quiet = ready.quiet; bag = ready.bag; count = omega (arith, ready.count) };
          some = ready.some;
        }

    -- a run of so many records of heaps or the extract buffer was refused
    run-refused :
        (h : List R) (n : ℕ) (fault : StoreFault)
        → 0 < n → n ≤ length h + length x.extract.items → RunRefused shown cmp record_of width x.sizes n x.body b x.supply t fault
        → Refuses shown cmp record_of width h h x (record x { body = b; supply = t }) fault
    run-refused h n NoFreeBlock some most refused =
        record { holds = holds-beside h (holds-runs x.sources same-sources refused.moved); some = omega (arith, some, most); short = inr (omega (arith, refused.short, most)) }
    run-refused h n (Device number) some most failed = failed

    pub leaves-refused :
        {T U : Type 0} (h : List R) {sorted : List R} {r : Result T StoreFault} {e : StoreFault}
        → 0 < length sorted → length sorted ≤ length h + length x.extract.items → IsErrAnd r (λ given. given ≡ e) → RunLeaves shown cmp record_of width {T = U} x.sizes sorted x.body b x.supply t (Err e)
        → StoreLeaves shown cmp record_of width h h x (record x { body = b; supply = t }) r
    leaves-refused {T = T} h {sorted = sorted} {e = e} some most is run =
        leaves-given {U = T} is (record { stays = stays-step x b t x.sources kept no_row same-sources; holds = tt; refused = run-refused h (length sorted) e some most run.refused })

-- a store that is to be refilled is not ready
pub not_ready : {P : Type 0} (first runs : ℕ) → first ≡ 0 → 0 < runs → (0 < first) ⊎ (runs ≡ 0) → P
not_ready first runs empty some (inl more) = absurd (omega (arith, empty, more))
not_ready first runs empty some (inr none) = absurd (omega (arith, some, none))

-- a slot that failed is one of more
pub failed-right : (number : ℕ) (xs ys : List Shown) → HasFailed number ys → HasFailed number (xs ++ ys)
failed-right number xs ys failed = omega (arith, failed, sum_by-append (weight_at (λ s. s.faults) number) xs ys)

module _ {T : Type 0} where
  -- an error that is handed on
  pub on_given : (P : StoreFault → Type 0) (r : Result T StoreFault) (e : StoreFault) → IsErrAnd r (λ given. given ≡ e) → P e → IfErr r P
  on_given P (Ok v) e is p = tt
  on_given P (Err f) e is p = subst P (sym is) p

  -- what holds where no block was free, of an error that is handed on
  pub none_given : {U P : Type 0} (r : Result T StoreFault) (e : StoreFault) → IsErrAnd r (λ given. given ≡ e) → (IsErrOf (err_of U e) NoFreeBlock → P) → IsErrOf r NoFreeBlock → P
  none_given (Ok v) e is why err = absurd is
  none_given {U = U} (Err f) e is why err = why (ap (err_of U) (sym is ∙ err_is f NoFreeBlock err))

  -- what holds on Ok, of an error that is handed on
  pub not_ok : (P : Type 0) (r : Result T StoreFault) (e : StoreFault) → IsErrAnd r (λ given. given ≡ e) → OnOk r P
  not_ok P (Ok v) e is = absurd is
  not_ok P (Err f) e is = tt

  -- what follows from a fault
  pub err-map : {P Q : StoreFault → Type 0} (r : Result T StoreFault) → ((e : StoreFault) → P e → Q e) → IfErr r P → IfErr r Q
  err-map (Ok v) f p = tt
  err-map (Err e) f p = f e p

  -- no refusal for want of a block comes
  pub alone : {P : Type 0} (Q : StoreFault → Type 0) (r : Result T StoreFault) → IfErr r Q → (Q NoFreeBlock → ⊥) → IsErrOf r NoFreeBlock → P
  alone Q (Ok v) q never err = cc
  alone Q (Err NoFreeBlock) q never err = absurd (never q)
  alone Q (Err (Device number)) q never err = cc

  -- what each fault means
  pub by_fault : (P : StoreFault → Type 0) (r : Result T StoreFault) → (IsErrOf r NoFreeBlock → P NoFreeBlock) → ((number : ℕ) → IsErrOf r (Device number) → P (Device number)) → IfErr r P
  by_fault P (Ok v) none device = tt
  by_fault P (Err NoFreeBlock) none device = none refl
  by_fault P (Err (Device number)) none device = device number refl
