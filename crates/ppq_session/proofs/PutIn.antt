-- Passes that are put in: one as a whole, whose runs are adopted, or, after a fault, taken apart; and one after the other.
use Rattle.std.proofs.Common.{◌≡◌, ℕ, ◌+◌, List, [], ◌∷◌, ◌++◌, length, sum_by, All, Bool, Option, Some, None, refl, sym, ap, ◌∙◌, subst, arith, inl, inr, append-nil, append_assoc}
use Rattle.std.specs.Prelude.{◌⊎◌, flat_map, count_by, vec_capacity, None}
use Rattle.std.specs.Option.{option_or}
use Rattle.std.specs.declared.cmp.Ordering.{Ordering}
use Rattle.std.proofs.lemmas.List.Elements.{All-head, All-nil, All-cons}
use Rattle.std.proofs.lemmas.List.Sums.{sum_by-cons, sum_by-append}
use Rattle.ppq_pass.specs.ppq_record.Bag.{IsSameBag}
use Rattle.ppq_pass.proofs.ppq_record.Order.{count_by-append}
use Rattle.ppq_pass.specs.ppq_heap.Heap.{Contents}
use Rattle.ppq_pass.specs.ppq_heap.Heaps.{items_in}
use Rattle.ppq_pass.specs.ppq_array.Run.{items_of}
use Rattle.ppq_pass.specs.ppq_array.External.{records_in}
use Rattle.ppq_pass.specs.ppq_outside.Shown.{Shown}
use Rattle.ppq_pass.specs.ppq_array.Owner.{slots_shown}
use Rattle.ppq_pass.specs.ppq_array.Holdings.{external_slots, internal_items, internal_buffers, external_buffers}
use Rattle.ppq_pass.proofs.ppq_array.Noted.{all_left, all_right}
use Rattle.ppq_pass.specs.ppq_spill.Body.{body_slots, job_slots}
use Rattle.ppq_pass.specs.Passed.{slots_of as pass_slots}
use Rattle.ppq_queue.specs.Slots.{with_slots}
use Rattle.ppq_queue.specs.Resting.{slots_of, runs_bag}
use Rattle.ppq_session.specs.Passes.{IsBrought, pass_of}
use Rattle.ppq_session.specs.Gathering.{IsGathered, IsGathering, IsSoundSoFar, gathered_bag, Adopted, MayGather, Gathers}
use Rattle.ppq_session.specs.declared.brought.Brought.{Brought}
use Rattle.ppq_session.specs.declared.closed.Closed.{Closed}
use Rattle.ppq_pass.specs.ppq_counts.Tally.{tally, joined}
use Rattle.ppq_session.proofs.Counted.{gathered-counted}
use Rattle.ppq_session.proofs.Gathered.{adopted-slots, adopted-buffers, gathering-more, sound-more', count-flat, count-joined}

-- what a queue's parts are after a pass was put in, besides its runs
pub record PutIn {S R : Type 0} (c new : Closed S R) (one : Brought S R) : Type 0 where
  pub heaps : new.heaps.items ≡ c.heaps.items ++ one.heap ∷ []
  pub heaps_room : vec_capacity new.heaps ≡ vec_capacity c.heaps
  pub counts : new.counts ≡ joined c.counts (tally one.accepted one.stores 0)
  pub stock : new.supply ≡ with_slots c.supply new.supply.kept new.supply.slot_room
  pub room : length new.supply.kept + new.supply.slot_room ≡ length c.supply.kept + c.supply.slot_room
  pub same : new ≡ record c { heaps = new.heaps; body = new.body; supply = new.supply; count = new.count; counts = new.counts; failed = new.failed }

module _ {S R : Type 0} (shown : S → Shown) (cmp : R → R → Ordering) (record_of : List ℕ → R) (width : ℕ) (slots items : List Shown) (c : Closed S R) (one : Brought S R) (rest : List (Brought S R)) (is : IsGathered shown cmp record_of width slots items c (rest ++ one ∷ [])) where
  pub each_left : All (IsBrought shown record_of width c.sizes cmp) rest
  each_left = all_left (IsBrought shown record_of width c.sizes cmp) rest (one ∷ []) is.each

  pub this : IsBrought shown record_of width c.sizes cmp one
  this = All-head (IsBrought shown record_of width c.sizes cmp) one [] (all_right (IsBrought shown record_of width c.sizes cmp) rest (one ∷ []) is.each)

  pub its_items : slots_shown shown one.kept.value.row_seat.hand.items ≡ items
  its_items =
      let P : Brought S R → Type 0 = λ x. slots_shown shown x.kept.value.row_seat.hand.items ≡ items in
      All-head P one [] (all_right P rest (one ∷ []) is.items_are)

module _ {S R : Type 0} (shown : S → Shown) (cmp : R → R → Ordering) (record_of : List ℕ → R) (width : ℕ) (slots items : List Shown) (c new : Closed S R) (one : Brought S R) (rest : List (Brought S R)) (is : IsGathered shown cmp record_of width slots items c (rest ++ one ∷ [])) (put : PutIn c new one) where
  together :
      IsGathering shown width slots items new rest → (new.failed ≡ None → IsSoundSoFar shown cmp record_of width new rest)
      → ((f : Shown → ℕ) → sum_by f (slots_of shown new.body new.supply) ≡ sum_by f (slots_of shown c.body c.supply) + sum_by f (pass_slots shown one.body one.kept.value))
      → (new.failed ≡ None → c.failed ≡ None) → (new.failed ≡ None → one.failed ≡ None) → (new.failed ≡ None → Adopted c.body one.body new.body) → IsGathered shown cmp record_of width slots items new rest
  together always sound sums parts_sound pass_sound adopted =
      record {
        always = always;
        each = subst (λ n. All (IsBrought shown record_of width n cmp) rest) (sym (ap (λ q. q.sizes) put.same)) (each_left shown cmp record_of width slots items c one rest is);
        items_are = all_left (λ (x : Brought S R). slots_shown shown x.kept.value.row_seat.hand.items ≡ items) rest (one ∷ []) is.items_are;
        sound = sound;
        counted = gathered-counted shown c new one rest (ap (λ q. q.sizes) put.same) put.heaps put.counts sums parts_sound pass_sound adopted is.counted (this shown cmp record_of width slots items c one rest is).counted;
      }

  no_fault : {P : Type 0} → c.failed ≡ None → (number : ℕ) → new.failed ≡ Some number → new.failed ≡ None → P
  no_fault none number e f = absurd (let odd : ◌≡◌ {A = Option ℕ} None (Some number) = sym f ∙ e in cc)

  -- its runs were adopted
  pub gathered-adopted :
      Adopted c.body one.body new.body → new.supply.kept ≡ c.supply.kept ++ slots_shown shown one.kept.value.stash → new.count ≡ c.count + one.accepted → c.failed ≡ None → one.failed ≡ None → new.failed ≡ None
      → IsGathered shown cmp record_of width slots items new rest
  gathered-adopted adopted stash count none whole still =
      let mine = this shown cmp record_of width slots items c one rest is in
      let passed = mine.always in
      let sums : (f : Shown → ℕ) → sum_by f (slots_of shown new.body new.supply) ≡ sum_by f (slots_of shown c.body c.supply) + sum_by f (pass_slots shown one.body one.kept.value) = λ f. adopted-slots shown c.body one.body new.body adopted passed.no_job f c.supply new.supply one.kept.value.stash stash in
      let always =
      gathering-more shown width slots items c one rest is.always new passed put.heaps put.heaps_room sums
      (adopted-buffers shown c.body one.body new.body adopted passed.no_job)
      (ap (λ j. j.items) adopted.jobs ∙ is.always.no_job)
      put.stock
      put.room
      (λ number e. no_fault none number e still)
      put.same
      in
      let sound = sound-more' shown cmp record_of width slots items c one rest is.always (is.sound none) passed (mine.sound whole) (its_items shown cmp record_of width slots items c one rest is) new whole adopted put.heaps stash count put.same in
      together always (λ _. subst (λ q. IsSoundSoFar shown cmp record_of width q rest) (ap (λ m. record new { sizes = m }) (sym (ap (λ q. q.sizes) put.same))) sound) sums (λ _. none) (λ _. whole) (λ _. adopted)

  -- its runs were taken apart: slots and buffers are all there
  pub gathered-dissolved :
      ((f : Shown → ℕ) → sum_by f new.supply.kept ≡ sum_by f c.supply.kept + sum_by f (slots_shown shown one.kept.value.stash) + sum_by f (external_slots shown one.body.runs.external.items))
      → new.body ≡ record c.body { lanes = record c.body.lanes { idle = new.body.lanes.idle } }
      → length new.body.lanes.idle ≡ length c.body.lanes.idle + internal_buffers one.body.runs.internal.items + external_buffers one.body.runs.external.items + length one.body.lanes.idle
      → ((number : ℕ) → new.failed ≡ Some number → (c.failed ≡ Some number) ⊎ (one.failed ≡ Some number)) → (new.failed ≡ None → ⊥)
      → IsGathered shown cmp record_of width slots items new rest
  gathered-dissolved sums body idle failed some =
      let mine = this shown cmp record_of width slots items c one rest is in
      let passed = mine.always in
      together
      (gathering-more shown width slots items c one rest is.always new passed put.heaps put.heaps_room all
      (omega (arith, idle, ap (λ b. internal_buffers b.runs.internal.items) body, ap (λ b. external_buffers b.runs.external.items) body, ap (λ b. length b.lanes.jobs.items) body, ap length passed.no_job))
      (ap (λ b. b.lanes.jobs.items) body ∙ is.always.no_job)
      put.stock
      put.room
      failed
      put.same)
      (λ none. absurd (some none)) all (λ none. absurd (some none)) (λ none. absurd (some none)) (λ none. absurd (some none))
    where
      all : (f : Shown → ℕ) → sum_by f (slots_of shown new.body new.supply) ≡ sum_by f (slots_of shown c.body c.supply) + sum_by f (pass_slots shown one.body one.kept.value)
      all f =
          omega (
            arith,
            sums f,
            sum_by-append f (external_slots shown new.body.runs.external.items ++ job_slots shown new.body.lanes.jobs.items) new.supply.kept,
            sum_by-append f (external_slots shown new.body.runs.external.items) (job_slots shown new.body.lanes.jobs.items),
            ap (λ b. sum_by f (external_slots shown b.runs.external.items)) body,
            ap (λ b. sum_by f (job_slots shown b.lanes.jobs.items)) body,
            sum_by-append f (external_slots shown c.body.runs.external.items ++ job_slots shown c.body.lanes.jobs.items) c.supply.kept,
            sum_by-append f (external_slots shown c.body.runs.external.items) (job_slots shown c.body.lanes.jobs.items),
            sum_by-append f (body_slots shown one.body) (slots_shown shown one.kept.value.stash),
            sum_by-append f (external_slots shown one.body.runs.external.items) (job_slots shown one.body.lanes.jobs.items),
            ap (λ l. sum_by f (job_slots shown l)) (this shown cmp record_of width slots items c one rest is).always.no_job,
          )

-- of two faults the first
pub or_none : (a b : Option ℕ) → option_or a b ≡ None → (a ≡ None) × (b ≡ None)
or_none None b e = (refl, e)
or_none (Some x) b e = absurd (cc)

pub or_some : (a b : Option ℕ) (number : ℕ) → option_or a b ≡ Some number → (a ≡ Some number) ⊎ (b ≡ Some number)
or_some None b number e = inr e
or_some (Some x) b number e = inl e

module _ {X R : Type 0} (f : X → List R) (p : R → Bool) where
  count-push : (xs : List X) (y : X) → count_by p (flat_map f (xs ++ y ∷ [])) ≡ count_by p (flat_map f xs) + count_by p (f y)
  count-push xs y = omega (arith, count-flat f p (xs ++ y ∷ []), count-flat f p xs, sum_by-append (λ z. count_by p (f z)) xs (y ∷ []), sum_by-cons (λ z. count_by p (f z)) y [])

module _ {S R : Type 0} (shown : S → Shown) (cmp : R → R → Ordering) (record_of : List ℕ → R) (width : ℕ) (c new : Closed S R) (one : Brought S R) (rest : List (Brought S R)) (put : PutIn c new one) (adopted : Adopted c.body one.body new.body) where
  -- the records are the same
  pub bag-adopted : IsSameBag (gathered_bag shown cmp record_of width new rest) (gathered_bag shown cmp record_of width c (rest ++ one ∷ []))
  bag-adopted p =
      let h : Contents R → List R = λ x. x.items in
      let r = records_in record_of width shown in
      let b : Brought S R → List R = λ x. (pass_of shown record_of width c.sizes x).bag in
      let runs' = runs_bag shown record_of width new.body in
      let runs = runs_bag shown record_of width c.body in
      omega (
        arith,
        count_by-append p (items_in new.heaps.items ++ new.extract.items ++ runs') (flat_map (λ (x : Brought S R). (pass_of shown record_of width new.sizes x).bag) rest),
        ap (λ n. count_by p (flat_map (λ (x : Brought S R). (pass_of shown record_of width n x).bag) rest)) (ap (λ q. q.sizes) put.same),
        count_by-append p (items_in new.heaps.items ++ new.extract.items) runs',
        count_by-append p (items_in new.heaps.items) new.extract.items,
        ap (λ q. count_by p q.extract.items) put.same,
        ap (λ l. count_by p (items_in l)) put.heaps,
        count-push h p c.heaps.items one.heap,
        count_by-append p (internal_items new.body.runs.internal.items) (flat_map r new.body.runs.external.items),
        ap (λ l. count_by p (internal_items l)) adopted.internal,
        count-joined items_of p c.body.runs.internal.items one.body.runs.internal.items,
        ap (λ l. count_by p (flat_map r l)) adopted.external,
        count-joined r p c.body.runs.external.items one.body.runs.external.items,
        count_by-append p (items_in c.heaps.items ++ c.extract.items ++ runs) (flat_map b (rest ++ one ∷ [])),
        count_by-append p (items_in c.heaps.items ++ c.extract.items) runs,
        count_by-append p (items_in c.heaps.items) c.extract.items,
        count_by-append p (internal_items c.body.runs.internal.items) (flat_map r c.body.runs.external.items),
        count-push b p rest one,
        count_by-append p one.heap.items (internal_items one.body.runs.internal.items ++ flat_map r one.body.runs.external.items),
        count_by-append p (internal_items one.body.runs.internal.items) (flat_map r one.body.runs.external.items),
      )

module _ {S R : Type 0} (shown : S → Shown) (cmp : R → R → Ordering) (record_of : List ℕ → R) (width : ℕ) where
  abbrev Whole : Brought S R → Type 0
  Whole one = one.failed ≡ None

  -- none was put in yet
  gathers-none : (c : Closed S R) → Gathers shown cmp record_of width [] c c
  gathers-none c =
      record {
        gathered = λ slots items rest is. subst (IsGathered shown cmp record_of width slots items c) (append-nil rest) is;
        bag = λ none rest p. ap (λ l. count_by p (gathered_bag shown cmp record_of width c l)) (sym (append-nil rest));
        failed = λ none. (none, All-nil Whole);
        size = λ none. omega arith;
        counts = λ most few. omega arith;
        sizes = refl;
        peak = refl;
        limited = refl;
        tally = refl;
        heaps = omega arith;
      }

  -- one more
  gathers-more :
      (one : Brought S R) (came : List (Brought S R)) (old mid new : Closed S R) → Gathers shown cmp record_of width came old mid → Gathers shown cmp record_of width (one ∷ []) mid new
      → Gathers shown cmp record_of width (one ∷ came) old new
  gathers-more one came old mid new i j =
      record {
        gathered = λ slots items rest is. j.gathered slots items rest (i.gathered slots items (rest ++ one ∷ []) (subst (IsGathered shown cmp record_of width slots items old) (sym (append_assoc rest (one ∷ []) came)) is));
        bag = λ none rest p. j.bag none rest p ∙ i.bag (j.failed none).0 (rest ++ one ∷ []) p ∙ ap (λ l. count_by p (gathered_bag shown cmp record_of width old l)) (append_assoc rest (one ∷ []) came);
        failed = λ none. let before = i.failed (j.failed none).0 in (before.0, All-cons Whole one came (let all = (j.failed none).1 in all 0 one (omega arith)) before.1);
        size = λ none. omega (arith, j.size none, i.size (j.failed none).0, sum_by-cons (λ (x : Brought S R). x.accepted) one came, sum_by-cons (λ (x : Brought S R). x.accepted) one []);
        counts = λ most few. omega (arith, j.counts most few, i.counts most few, sum_by-cons (λ (x : Brought S R). x.accepted) one came, sum_by-cons (λ (x : Brought S R). x.accepted) one []);
        sizes = j.sizes ∙ i.sizes;
        peak = j.peak ∙ i.peak;
        limited = j.limited ∙ i.limited;
        tally = j.tally ∙ ap (λ t. joined t (tally one.accepted one.stores 0)) i.tally;
        heaps = omega (arith, j.heaps, i.heaps, sum_by-cons (λ (x : Brought S R). length x.heap.items) one came, sum_by-cons (λ (x : Brought S R). length x.heap.items) one []);
      }

  -- of all passes these are to come, and the others were put in
  pub record PutSome (all left : List (Brought S R)) (old new : Closed S R) : Type 0 where
    pub came : List (Brought S R)
    pub parts : all ≡ left ++ came
    pub is : Gathers shown cmp record_of width came old new

  pub put-none : (all : List (Brought S R)) (c : Closed S R) → PutSome all all c c
  put-none all c = record { came = []; parts = sym (append-nil all); is = gathers-none c }

  module _ (all rest : List (Brought S R)) (one : Brought S R) (old mid : Closed S R) (some : PutSome all (rest ++ one ∷ []) old mid) where
    -- the next can be put in
    pub may-put : MayGather shown cmp record_of width all old → MayGather shown cmp record_of width (one ∷ []) mid
    may-put m =
        let all_is : m.rest ++ all ≡ ((m.rest ++ rest) ++ one ∷ []) ++ some.came =
        ap (λ l. m.rest ++ l) some.parts ∙ sym (append_assoc m.rest (rest ++ one ∷ []) some.came) ∙ ap (λ l. l ++ some.came) (sym (append_assoc m.rest rest (one ∷ [])))
        in
        record {
          slots = m.slots;
          items = m.items;
          rest = m.rest ++ rest;
          is = some.is.gathered m.slots m.items ((m.rest ++ rest) ++ one ∷ []) (subst (IsGathered shown cmp record_of width m.slots m.items old) all_is m.is);
        }

    pub put-more : (new : Closed S R) → Gathers shown cmp record_of width (one ∷ []) mid new → PutSome all rest old new
    put-more new more = record { came = one ∷ some.came; parts = some.parts ∙ append_assoc rest (one ∷ []) some.came; is = gathers-more one some.came old mid new some.is more }

  -- once none is to come, all were put in
  pub put-all : (all left : List (Brought S R)) (old new : Closed S R) → PutSome all left old new → left ≡ [] → Gathers shown cmp record_of width all old new
  put-all all left old new some none = subst (λ l. Gathers shown cmp record_of width l old new) (sym (some.parts ∙ ap (λ l. l ++ some.came) none)) some.is
