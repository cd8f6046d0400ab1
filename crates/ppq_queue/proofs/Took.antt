-- What a bulk pop took of a heap, an extract buffer and runs, step by step.
use Rattle.std.proofs.Common.{◌≡◌, ℕ, ◌+◌, ◌<◌, ◌≤◌, Bool, true, false, List, [], ◌∷◌, ◌++◌, length, Option, Some, None, refl, sym, ap, ◌∙◌, subst, inl, inr, arith, length-append, Ordering}
use Rattle.std.specs.Prelude.{◌⊎◌, Result}
use Rattle.std.specs.Cmp.{IsTotalOrder}
use Rattle.ppq_heap.proofs.ppq_record.Fronts.{ranks}
use Rattle.ppq_heap.specs.Heaps.{Shares, items_of}
use Rattle.ppq_extract.specs.ppq_outside.Shown.{Shown, AllTell}
use Rattle.ppq_extract.specs.ppq_array.declared.store_fault.StoreFault.{StoreFault}
use Rattle.ppq_extract.specs.ppq_fetch.Taking.{AllBelow, NoneBelow}
use Rattle.ppq_extract.specs.Extracted.{Held}
use Rattle.ppq_extract.proofs.ppq_fetch.Parted.{taken_none, taken_same, taken_of}
use Rattle.ppq_spill.specs.ppq_counts.Account.{Costs}
use Rattle.ppq_queue.specs.Paying.{store_account}
use Rattle.ppq_queue.specs.Resting.{runs_bag, count_of}
use Rattle.ppq_queue.specs.Stores.{StoreKept, HeapsStay, MayWork, Holds, stored, slots_in, whole_bag}
use Rattle.ppq_queue.specs.declared.store.Store.{Store}
use Rattle.ppq_queue.specs.Out.{Listed}
use Rattle.ppq_queue.specs.Bulk.{Merged, MergesTo, HasEnded, TookOut, TookAll, TakesOut}
use Rattle.ppq_queue.proofs.Bounds.{bag_length}
use Rattle.ppq_queue.proofs.Merging.{exhausted-runs}
use Rattle.ppq_queue.proofs.Moves.{kept-refl, ok-map}
use Rattle.ppq_queue.proofs.Paying.{pays-then}
use Rattle.ppq_queue.proofs.Stores.{same-sources, heaps-more, kept-more, kept-step, works-step, holds-beside, refused-more, err-map}

pub empty_list : {X : Type 0} (l : List X) → length l ≡ 0 → l ≡ []
empty_list [] h = refl
empty_list (x ∷ xs) h = absurd (omega arith)

-- fewer are left where a list took some
pub smaller : {X : Type 0} (e : List X) (k m : ℕ) → length e + k ≡ m → 0 < m → (e ≡ [] → k ≡ 0) → k < m
smaller [] k m all some none = omega (arith, some, none refl)
smaller (x ∷ xs) k m all some none = omega (arith, all)

-- why a merge of many records ended
pub merge_ended : {P Q : Type 0} (n most : ℕ) → n ≤ most → (most ≤ n) ⊎ P → (n ≡ most) ⊎ P ⊎ Q
merge_ended n most few (inl full) = inl (omega (arith, few, full))
merge_ended n most few (inr dry) = inr (inl dry)

none_taken : {R : Type 0} (cmp : R → R → Ordering) (limit : Option R) → AllBelow cmp limit []
none_taken cmp None = tt
none_taken cmp (Some l) = tt

module _ {S R : Type 0} (shown : S → Shown) (cmp : R → R → Ordering) (record_of : List ℕ → R) (width : ℕ) (limit : Option R) (most : ℕ) where
  -- where a merge ended: the list is full, or the extract buffer is empty and there are runs, or nothing that is wanted is left
  pub data Stands (h : List R) (x : Store S R) (out : List R) : Type 0 where
    Full : length out ≡ most → Stands h x out
    Dry : x.extract.items ≡ [] → 0 < count_of x.body → Stands h x out
    Done : (limit ≡ None → length h + stored x ≡ 0) → (AllTell (slots_in shown x) → NoneBelow cmp limit (whole_bag shown cmp record_of width h x)) → Stands h x out

  -- what a bulk pop took so far, and where its merge ended
  pub record Gathers (before after : Shares R) (x y : Store S R) (was now : Listed R) : Type 0 where
    pub kept : StoreKept shown x y
    pub heaps : HeapsStay before after
    pub took : TookOut shown cmp record_of width limit most (items_of before) (items_of after) x y now.items
    pub stands : Stands (items_of after) y now.items
    pub few : length y.body.runs.external.items ≤ 64
    pub easy : count_of x.body ≡ 0 → y ≡ record x { extract = y.extract }
    pub pays : Costs 0 0 (store_account shown x) (store_account shown y)
    pub list_room : now.room ≡ was.room

module _ {S R : Type 0} (shown : S → Shown) {cmp : R → R → Ordering} (o : IsTotalOrder cmp) (record_of : List ℕ → R) (width : ℕ) (limit : Option R) (most : ℕ) where
  -- runs without records show none
  no_runs : (x : Store S R) → MayWork shown cmp record_of width x → AllTell (slots_in shown x) → count_of x.body ≡ 0 → runs_bag shown record_of width x.body ≡ []
  no_runs x works tell none = empty_list (runs_bag shown record_of width x.body) (bag_length shown cmp record_of width x.sizes x.body x.supply works.runs.rest tell ∙ none)

  -- nothing was taken
  pub took-none : (h : List R) (x : Store S R) {out : List R} → MayWork shown cmp record_of width x → out ≡ [] → TookOut shown cmp record_of width limit most h h x x out
  took-none h x works none =
      subst (TookOut shown cmp record_of width limit most h h x x) (sym none) (record {
        works = works;
        quiet = refl;
        few = omega arith;
        count = omega arith;
        fewer = omega arith;
        taken = λ tell. taken_none cmp (ranks o) (whole_bag shown cmp record_of width h x);
        under = λ tell. none_taken cmp limit;
      })

  -- then a merge took some
  pub took-merged :
      (h h1 h2 : List R) (x y : Store S R) (v : Held R) (out out' : List R) (more : Bool)
      → StoreKept shown x y → TookOut shown cmp record_of width limit most h h1 x y out → (more ≡ false → count_of y.body ≡ 0) → Merged cmp more limit h1 h2 y.extract.items v.items out out' → v.room ≡ y.extract.room → length out' ≤ most
      → TookOut shown cmp record_of width limit most h h2 x (record y { extract = v }) out'
  took-merged h h1 h2 x y v out out' more kept took none m room few =
      let runs = runs_bag shown record_of width y.body in
      let works = took.works in
      record {
        works = works-step y y.body y.supply works (kept-refl shown y.body y.supply) works.runs.no_row v y.sources same-sources works.runs.rest room (omega (arith, m.fewer, works.within, room)) (λ tell. m.ascends (works.ascends tell)) (λ tell. m.order runs (works.order tell));
        quiet = took.quiet;
        few = few;
        count = omega (arith, took.count, m.count);
        fewer = omega (arith, took.fewer, m.fewer);
        taken = λ tell. (let told = kept.body.tells.0 tell in m.taken (whole_bag shown cmp record_of width h x) runs (λ f. no_runs y works told (none f)) (works.ascends told) (works.order told) (took.taken tell));
        under = λ tell. m.under (took.under tell);
      }

  -- then the store took in what was in its runs
  pub took-held : (h h1 : List R) (x y z : Store S R) (out : List R) → StoreKept shown x y → TookOut shown cmp record_of width limit most h h1 x y out → Holds shown cmp record_of width [] [] y z → TookOut shown cmp record_of width limit most h h1 x z out
  took-held h h1 x y z out kept took holds =
      record {
        works = holds.works;
        quiet = holds.quiet ∙ took.quiet;
        few = took.few;
        count = omega (arith, took.count, holds.count);
        fewer = omega (arith, took.fewer, holds.count);
        taken = λ tell.
            taken_same cmp (ranks o) (whole_bag shown cmp record_of width h x) out (whole_bag shown cmp record_of width h1 y) (whole_bag shown cmp record_of width h1 z) (took.taken tell)
            (λ p. sym ((holds-beside h1 holds).bag (kept.body.tells.0 tell) p));
        under = took.under;
      }

  -- before that, levels were settled
  took-settled : (h h' : List R) (x y z : Store S R) (out : List R) → StoreKept shown x y → Holds shown cmp record_of width [] [] x y → TookOut shown cmp record_of width limit most h h' y z out → TookOut shown cmp record_of width limit most h h' x z out
  took-settled h h' x y z out kept holds took =
      record {
        works = took.works;
        quiet = took.quiet ∙ holds.quiet;
        few = took.few;
        count = omega (arith, took.count, holds.count);
        fewer = omega (arith, took.fewer, holds.count);
        taken = λ tell.
            taken_of cmp (ranks o) (whole_bag shown cmp record_of width h y) (whole_bag shown cmp record_of width h x) out (whole_bag shown cmp record_of width h' z) (took.taken (kept.body.tells.0 tell))
            (λ p. sym ((holds-beside h holds).bag tell p));
        under = λ tell. took.under (kept.body.tells.0 tell);
      }

  all-settled : (h h' : List R) (x y z : Store S R) (out : List R) → StoreKept shown x y → Holds shown cmp record_of width [] [] x y → TookAll shown cmp record_of width limit most h h' y z out → TookAll shown cmp record_of width limit most h h' x z out
  all-settled h h' x y z out kept holds all = record { took = took-settled h h' x y z out kept holds all.took; all = all.all; low = all.low; ready = all.ready }

  pub stands-ended :
      (h : List R) (x : Store S R) (out : List R) (more : Bool)
      → MayWork shown cmp record_of width x → (more ≡ true → 0 < count_of x.body) → (more ≡ false → count_of x.body ≡ 0) → HasEnded cmp most more limit h x.extract.items out → Stands shown cmp record_of width limit most h x out
  stands-ended h x out more works some none (inl full) = Full full
  stands-ended h x out more works some none (inr (inl dry)) = Dry dry.0 (some dry.1)
  stands-ended h x out more works some none (inr (inr done)) =
      let e = x.extract.items in
      Done
      (λ unset. (
      let all : h ++ e ≡ [] = done.all unset in
      let long : length h + length e ≡ 0 = sym (length-append h e) ∙ ap length all in
      let gone : e ≡ [] = empty_list e (omega (arith, long)) in
      omega (arith, long, none (done.whole gone))))
      (λ tell. exhausted-runs o more limit h e (runs_bag shown record_of width x.body) done (λ f. no_runs x works tell (none f)) (works.ascends tell) (works.order tell))

  -- a merge after what was taken so far
  pub gathers-merged :
      {before after after' : Shares R} {x z : Store S R} {v : Held R} {was mid now : Listed R} {more : Bool}
      → StoreKept shown x z → HeapsStay before after → TookOut shown cmp record_of width limit most (items_of before) (items_of after) x z mid.items → mid.room ≡ was.room → length z.body.runs.external.items ≤ 64 → Costs 0 0 (store_account shown x) (store_account shown z) → (count_of x.body ≡ 0 → z ≡ record x { extract = z.extract })
      → (more ≡ true → 0 < count_of z.body) → (more ≡ false → count_of z.body ≡ 0) → MergesTo cmp most more limit after after' z.extract v mid now
      → Gathers shown cmp record_of width limit most before after' x (record z { extract = v }) was now
  gathers-merged {before = before} {after = after} {after' = after'} {x = x} {z = z} {v = v} {mid = mid} {now = now} {more = more} kept heaps took room few pays easy some none m =
      let moves = m.moves in
      let all = took-merged (items_of before) (items_of after) (items_of after') x z v mid.items now.items more kept took none moves.merged moves.rooms.first m.few in
      record {
        kept = kept-more kept (kept-step z z.body z.supply v z.sources (kept-refl shown z.body z.supply) took.works.runs.no_row same-sources moves.rooms.first (λ within. omega (arith, within, moves.merged.fewer, moves.rooms.first)));
        heaps = heaps-more heaps moves.heaps;
        took = all;
        stands = stands-ended (items_of after') (record z { extract = v }) now.items more all.works some none m.ended;
        few = few;
        easy = λ empty. ap {A = Store S R} (λ s. record s { extract = v }) (easy empty);
        pays = pays;
        list_room = moves.rooms.list ∙ room;
      }

  -- all that was wanted was taken, where no refill is wanted
  pub took-all :
      (before h : List R) (w x : Store S R) (out : List R)
      → Stands shown cmp record_of width limit most h x out → TookOut shown cmp record_of width limit most before h w x out → (x.extract.items ≡ [] → (count_of x.body ≡ 0) ⊎ ((limit ≡ None) × (most ≤ length out)))
      → TookAll shown cmp record_of width limit most before h w x out
  took-all before h w x out stands took ready = record { took = took; all = all stands; low = low stands; ready = λ l is gone. look l is (ready gone) }
    where
      full : most ≤ length out → length out ≡ most
      full more = omega (arith, took.few, more)

      dry : {P : Type 0} → 0 < count_of x.body → (count_of x.body ≡ 0) ⊎ ((limit ≡ None) × (most ≤ length out)) → (length out ≡ most) ⊎ P
      dry some (inl none) = absurd (omega (arith, some, none))
      dry some (inr all) = inl (full all.1)

      all : Stands shown cmp record_of width limit most h x out → limit ≡ None → (length out ≡ most) ⊎ (length h + stored x ≡ 0)
      all (Full is) unset = inl is
      all (Dry gone some) unset = dry some (ready gone)
      all (Done none f) unset = inr (none unset)

      low : Stands shown cmp record_of width limit most h x out → AllTell (slots_in shown x) → (length out ≡ most) ⊎ NoneBelow cmp limit (whole_bag shown cmp record_of width h x)
      low (Full is) tell = inl is
      low (Dry gone some) tell = dry some (ready gone)
      low (Done none f) tell = inr (f tell)

      look : (l : R) → limit ≡ Some l → (count_of x.body ≡ 0) ⊎ ((limit ≡ None) × (most ≤ length out)) → count_of x.body ≡ 0
      look l is (inl none) = none
      look l is (inr all) = absurd (let odd : ◌≡◌ {A = Option R} None (Some l) = sym all.0 ∙ is in cc)

-- levels were settled before heaps and a store were asked
pub takes-settled :
    {S R T : Type 0} {shown : S → Shown} {cmp : R → R → Ordering} {record_of : List ℕ → R} {width : ℕ} {limit : Option R} {most : ℕ} {before after : Shares R} {x y z : Store S R} {was now : Listed R} {r : Result T StoreFault}
    → IsTotalOrder cmp → StoreKept shown x y → Holds shown cmp record_of width [] [] x y → Costs 0 0 (store_account shown x) (store_account shown y) → (count_of x.body ≡ 0 → y ≡ x) → TakesOut shown cmp record_of width limit most before after y z was now r → TakesOut shown cmp record_of width limit most before after x z was now r
takes-settled {S = S} {R = R} {shown = shown} {cmp = cmp} {record_of = record_of} {width = width} {limit = limit} {most = most} {before = before} {after = after} {x = x} {y = y} {z = z} {now = now} {r = r} o kept holds pays still takes =
    record {
      kept = kept-more kept takes.kept;
      heaps = takes.heaps;
      list_room = takes.list_room;
      took = ok-map r (all-settled shown o record_of width limit most (items_of before) (items_of after) x y z now.items kept holds) takes.took;
      same_heaps = takes.same_heaps;
      easy = λ none.
          let same = still none in
          let two = takes.easy (ap (λ s. count_of s.body) same ∙ none) in
          (two.0, two.1 ∙ ap {A = Store S R} (λ s. record s { extract = z.extract }) same);
      crowded = takes.crowded;
      refused = err-map r (λ fault. refused-more shown cmp record_of width [] [] [] x y z fault kept holds) takes.refused;
      pays = pays-then pays takes.pays;
    }
