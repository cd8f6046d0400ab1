-- A queue after a call of its store, whatever was answered.
use Rattle.std.proofs.Common.{◌≡◌, ℕ, ◌+◌, ◌-◌, ◌<◌, ◌≤◌, List, [], ◌++◌, length, min, Bool, true, false, Option, None, Some, refl, sym, ap, ◌∙◌, subst, arith, inl, inr}
use Rattle.std.specs.Prelude.{◌⊎◌, Result, Ok, Err, OnOk, OnErr, IfErr, IsOk, IsErrOf, IsErrAnd}
use Rattle.std.specs.declared.cmp.Ordering.{Ordering}
use Rattle.std.specs.declared.cmp.Ordering.TheVariants.{Equal}
use Rattle.std.specs.Cmp.{IsTotalOrder}
use Rattle.ppq_heap.proofs.ppq_record.Fronts.{ranks, no_tie}
use Rattle.ppq_heap.specs.Heaps.{Shares, items_of, share_at}
use Rattle.ppq_extract.specs.ppq_fetch.Taking.{wanted}
use Rattle.ppq_extract.proofs.ppq_fetch.Parted.{taken_wanted}
use Rattle.ppq_extract.specs.ppq_outside.Shown.{Shown, AllTell}
use Rattle.ppq_extract.specs.ppq_budget.Sizes.{batch_of}
use Rattle.ppq_extract.specs.ppq_array.Kept.{HasFailed}
use Rattle.ppq_extract.specs.ppq_array.declared.store_fault.StoreFault.{StoreFault}
use Rattle.ppq_extract.specs.ppq_array.declared.store_fault.StoreFault.TheVariants.{NoFreeBlock, Device}
use Rattle.ppq_spill.specs.ppq_counts.Account.{IsCounted}
use Rattle.ppq_spill.specs.ppq_counts.Tally.{Tally, beginning}
use Rattle.ppq_queue.specs.Paying.{heaps_account}
use Rattle.ppq_queue.specs.Resting.{IsShort, runs_bag}
use Rattle.ppq_queue.specs.State.{IsQueue, IsSound}
use Rattle.ppq_queue.specs.Stores.{HeapsStay, StoreKept, StoreLeaves, HeapsLeave, MayWork, Holds, Lacks, Refuses, stored, slots_in, whole_bag}
use Rattle.ppq_queue.specs.Bulk.{TookAll, TakesOut, TookFront, BulkLeaves, left_after}
use Rattle.ppq_queue.specs.Out.{Listed, listed}
use Rattle.ppq_queue.specs.Handed.{viewed, QueueStands}
use Rattle.ppq_queue.specs.Holding.{Holding, IsAbove, IsRefusal, FoundNoBlock, Keeps, SameRecords, QueueLeaves}
use Rattle.ppq_spill.specs.Latched.{latched}
use Rattle.ppq_queue.specs.declared.store.Store.{Store}
use Rattle.ppq_queue.proofs.Accounted.{counted-free, counted-later, pays-fewer}
use Rattle.ppq_queue.proofs.Moves.{ok-map, ok-map2}
use Rattle.ppq_queue.proofs.Stores.{heaps-same, holds-beside, refused-beside, err-map, err_of, err_is, none_given}
use Rattle.ppq_queue.proofs.Took.{empty_list}
use Rattle.ppq_queue.proofs.Ends.{left_is}
use Rattle.ppq_queue.proofs.Flushed.{fault-kept, queue-moved, short-bounds, sound-counts, device-fault, not_sound, leaves-stopped}

module _ {S R : Type 0} (shown : S → Shown) (cmp : R → R → Ordering) (record_of : List ℕ → R) (width : ℕ) (x y : Store S R) (h h' : Shares R) (kept : StoreKept shown x y) (heaps : HeapsStay h h') (count peak : ℕ) (limited : Bool) (t u : Tally) where
  abbrev Was : Option ℕ → Type 0
  Was failed = IsQueue shown x.sizes h x.extract x.body x.supply count peak failed

  abbrev Sound : Type 0
  Sound = IsSound shown cmp record_of width x.sizes h x.extract x.body x.supply x.sources count peak limited

  abbrev Above : Type 0
  Above = IsAbove x.sizes peak limited

  abbrev Held : Type 0
  Held = Holds shown cmp record_of width (items_of h) (items_of h') x y

  abbrev Refused : StoreFault → Type 0
  Refused = Refuses shown cmp record_of width (items_of h) (items_of h') x y

  -- what the queue showed, and what it shows
  abbrev from : Holding R
  from = viewed shown record_of width x h count peak None limited t

  abbrev to : ℕ → Option ℕ → Holding R
  to less failed = viewed shown record_of width y h' less peak failed limited u

  queue-called :
      {T : Type 0} (less : ℕ) (failed : Option ℕ) (r : Result T StoreFault) (hs hs' : List R)
      → less ≤ count → Was failed → IfErr r (Refuses shown cmp record_of width hs hs' x y) → IsQueue shown y.sizes h' y.extract y.body y.supply less peak (latched r failed)
  queue-called less failed r hs hs' few is refused =
      let within : length y.extract.items ≤ batch_of x.sizes = omega (arith, kept.within (omega (arith, is.in_extract, is.room)), kept.room, is.room) in
      subst (λ n. IsQueue shown n h' y.extract y.body y.supply less peak (latched r failed)) (sym kept.sizes)
      (queue-moved is kept.body (kept.no_row is.no_row) heaps.cap heaps.count (omega (arith, heaps.fewer, is.in_heap)) kept.room within (omega (arith, few, is.counted)) is.most (omega (arith, few, is.most_count)) (fault r refused))
    where
      fault : {U : Type 0} (r : Result U StoreFault) → IfErr r (Refuses shown cmp record_of width hs hs' x y) → (number : ℕ) → latched r failed ≡ Some number → HasFailed number (slots_in shown y)
      fault (Ok v) p number e = fault-kept shown x.sizes x.body y.body x.supply y.supply failed kept.body is.fault number e
      fault (Err NoFreeBlock) p number e = fault-kept shown x.sizes x.body y.body x.supply y.supply failed kept.body is.fault number e
      fault (Err (Device k)) p number e = device-fault (slots_in shown y) k number p e

  -- a sound queue, of a store that may work
  is_sound : (less : ℕ) → MayWork shown cmp record_of width y → less ≡ length (items_of h') + stored y → (length (items_of h') < less → Above) → IsSound shown cmp record_of width y.sizes h' y.extract y.body y.supply y.sources less peak limited
  is_sound less works counted above =
      record {
        rest = works.runs.rest;
        counted = omega (arith, counted);
        ascends = works.ascends;
        order = works.order;
        above = λ more. subst (λ n. IsAbove n peak limited) (sym kept.sizes) (above more);
        workers = works.workers;
        serves = works.serves;
      }

  sound-called :
      {T : Type 0} (failed : Option ℕ) (r : Result T StoreFault)
      → Sound → (length (items_of h') < count → Above) → OnOk r Held → IfErr r Refused → latched r failed ≡ None → IsSound shown cmp record_of width y.sizes h' y.extract y.body y.supply y.sources count peak limited
  sound-called failed (Ok v) sound above holds refused none = is_sound count holds.works (omega (arith, sound.counted, holds.count)) above
  sound-called failed (Err NoFreeBlock) sound above holds refused none = is_sound count refused.holds.works (omega (arith, sound.counted, refused.holds.count)) above
  sound-called failed (Err (Device number)) sound above holds refused none = not_sound number none

  -- slots stay, and so does what the queue was made with
  keeps-called : (less : ℕ) (failed : Option ℕ) → Keeps from (to less failed)
  keeps-called less failed = record { sizes = kept.sizes; limited = refl; slots = kept.body.slots; tells = kept.body.tells.0; writes = kept.body.writes }

  found : Was None → Sound → Above → Lacks shown cmp record_of width (items_of h) (items_of h') x y → FoundNoBlock from (to count None)
  found is sound above lacks =
      let total : length (items_of h) + stored x ≡ count = omega (arith, sound.counted) in
      let all : length (slots_in shown y) ≡ y.sizes.blocks = kept.body.slots.length ∙ is.slots ∙ sym (ap (λ n. n.blocks) kept.sizes) in
      let runs = lacks.holds.works.runs in
      let bounds = short-bounds shown y.sizes cmp record_of width y.body y.supply count peak runs.rest runs.range all (omega (arith, sound.counted, lacks.holds.count)) is.counted (subst (IsShort y.sizes (length y.supply.kept)) total lacks.short) in
      record {
        bag = lacks.holds.bag;
        size = refl;
        sound = refl;
        quiet = lacks.holds.quiet;
        free = bounds.0;
        room = bounds.1;
        above = subst (λ n. IsAbove n peak limited) (sym kept.sizes) above;
      }

  refused-called : {T : Type 0} (r : Result T StoreFault) → Was None → Sound → (IsErrOf r NoFreeBlock → Above) → IfErr r Refused → IfErr r (IsRefusal from (to count (latched r None)))
  refused-called (Ok v) is sound above p = tt
  refused-called (Err NoFreeBlock) is sound above p = found is sound (above refl) p
  refused-called (Err (Device number)) is sound above p = record { fault = p; kept = refl; size = refl }

  same-called : {T : Type 0} (r : Result T StoreFault) → OnOk r Held → OnOk r (SameRecords from (to count (latched r None)))
  same-called (Ok v) holds = record { quiet = holds.quiet; bag = holds.bag; size = refl; sound = refl }
  same-called (Err e) holds = tt

  -- what was not in heaps came there by a peak or by a limit session
  above-some : {T : Type 0} (r : Result T StoreFault) → Sound → IfErr r (Refuses shown cmp record_of width [] [] x y) → IsErrOf r NoFreeBlock → Above
  above-some (Ok v) sound refused err = cc
  above-some (Err NoFreeBlock) sound refused err = sound.above (omega (arith, sound.counted, refused.some))
  above-some (Err (Device number)) sound refused err = cc

  -- heaps that are the same where no block was free
  refused-heaps : {T : Type 0} (r : Result T StoreFault) → IfErr r (Refuses shown cmp record_of width [] [] x y) → (IsErrOf r NoFreeBlock → h' ≡ h) → IfErr r Refused
  refused-heaps (Ok v) p same = tt
  refused-heaps (Err NoFreeBlock) p same = subst (λ k. Lacks shown cmp record_of width (items_of h) (items_of k) x y) (sym (same refl)) (refused-beside shown cmp record_of width (items_of h) x y NoFreeBlock p)
  refused-heaps (Err (Device number)) p same = p

  module _ (limit : Option R) (most less : ℕ) (out : List R) (fewer : less ≡ count - length out) where
    abbrev Took : Type 0
    Took = TookAll shown cmp record_of width limit most (items_of h) (items_of h') x y out

    bulk-sound :
        {T : Type 0} (failed : Option ℕ) (r : Result T StoreFault)
        → Sound → OnOk r Took → IfErr r (Refuses shown cmp record_of width [] [] x y) → IfErr r Refused → OnErr r (out ≡ []) → latched r failed ≡ None → IsSound shown cmp record_of width y.sizes h' y.extract y.body y.supply y.sources less peak limited
    bulk-sound failed (Ok v) sound all apart refused gone none =
        let took = all.took in
        is_sound less took.works (omega (arith, sound.counted, took.count, fewer)) (λ more. sound.above (omega (arith, more, took.fewer, took.count, sound.counted, fewer)))
    bulk-sound failed (Err NoFreeBlock) sound all apart refused gone none =
        is_sound less refused.holds.works (omega (arith, sound.counted, refused.holds.count, fewer, ap length gone)) (λ more. sound.above (omega (arith, sound.counted, apart.some)))
    bulk-sound failed (Err (Device number)) sound all apart refused gone none = not_sound number none

    -- what was taken is the front of the queue
    took-front : IsTotalOrder cmp → ((a b : R) → cmp a b ≡ Equal → a ≡ b) → Sound → Took → TookFront cmp limit most from (to less None) out
    took-front o same sound all =
        let took = all.took in
        let bag = whole_bag shown cmp record_of width (items_of h) x in
        let left = whole_bag shown cmp record_of width (items_of h') y in
        let is = λ (tell : AllTell (slots_in shown x)). taken_wanted cmp (ranks o) (no_tie o same) most limit bag out left (took.taken tell) took.few (took.under tell) (all.low (kept.body.tells.0 tell)) in
        record {
          front = is;
          rest = λ tell. left_is o same bag out left (wanted cmp most limit bag) (took.taken tell) (is tell);
          left = λ tell. all.low (kept.body.tells.0 tell);
          ready = λ l has none. omega (arith, all.ready l has (empty_list y.extract.items none), none, sound.counted, took.count, fewer);
          few = took.few;
          within = omega (arith, took.count, sound.counted);
          count = λ unset. counted (all.all unset);
          sound = refl;
          quiet = took.quiet;
        }
      where
        counted : (length out ≡ most) ⊎ (length (items_of h') + stored y ≡ 0) → length out ≡ min most count
        counted (inl full) = omega (arith, full, all.took.count, sound.counted)
        counted (inr none) = omega (arith, none, all.took.count, all.took.few, sound.counted)

    front-called : {T : Type 0} (r : Result T StoreFault) → IsTotalOrder cmp → ((a b : R) → cmp a b ≡ Equal → a ≡ b) → Sound → OnOk r Took → OnOk r (TookFront cmp limit most from (to less (latched r None)) out)
    front-called (Ok v) o same sound all = took-front o same sound all
    front-called (Err e) o same sound all = tt

    refused-fewer : {T : Type 0} (r : Result T StoreFault) (failed : Option ℕ) → IfErr r (IsRefusal from (to count failed)) → OnErr r (out ≡ []) → IfErr r (IsRefusal from (to less failed))
    refused-fewer (Ok v) failed refused gone = tt
    refused-fewer (Err e) failed refused gone = (let all : count ≡ less = omega (arith, fewer, ap length gone) in subst (λ k. IsRefusal from (to k failed) e) all refused)

-- a call that was not refused names no slot
latched_ok : {T : Type 0} (r : Result T StoreFault) (failed : Option ℕ) → IsOk r → latched r failed ≡ failed
latched_ok (Ok v) failed is = refl
latched_ok (Err e) failed is = absurd (cc)

-- what a queue shows after records were taken out of its heaps and its extract buffer alone
taken_easy :
    {S R T : Type 0} (shown : S → Shown) (record_of : List ℕ → R) (width : ℕ) (x y : Store S R) (h h' : Shares R) (count peak less : ℕ) (limited : Bool) (t : Tally) (r : Result T StoreFault)
    → IsOk r × (y ≡ record x { extract = y.extract })
    → IsOk r × (viewed shown record_of width y h' less peak (latched r None) limited t ≡ record (viewed shown record_of width x h count peak None limited t) {
      bag = items_of h' ++ y.extract.items ++ runs_bag shown record_of width y.body;
      size = less;
      in_heap = length (items_of h');
      in_first = length (share_at h' 0);
      in_extract = length y.extract.items;
    })
taken_easy {S = S} {R = R} shown record_of width x y h h' count peak less limited t r did =
    let bag = items_of h' ++ y.extract.items ++ runs_bag shown record_of width y.body in
    let shows : Store S R → Option ℕ → Holding R = λ s f. record (viewed shown record_of width s h' less peak f limited t) { bag = bag; in_extract = length y.extract.items } in
    (did.0, ap (λ s. shows s (latched r None)) did.1 ∙ ap (λ f. shows (record x { extract = y.extract }) f) (latched_ok r None did.0))

-- where all records of a queue are in heaps, no run has one
pub ready_store : (heap first runs count : ℕ) → count ≡ heap + first + runs → (0 < first) ⊎ (count ≡ heap) → (0 < first) ⊎ (runs ≡ 0)
ready_store heap first runs count all (inl more) = inl more
ready_store heap first runs count all (inr none) = inr (omega (arith, all, none))

-- a list that is emptied after an error
module _ {T R : Type 0} (was now : Listed R) where
  left-ok : (r : Result T StoreFault) → now ≡ left_after r was → OnOk r (now ≡ was)
  left-ok (Ok v) e = e
  left-ok (Err f) e = tt

  left-err : (r : Result T StoreFault) → now ≡ left_after r was → OnErr r (now.items ≡ [])
  left-err (Ok v) e = tt
  left-err (Err f) e = ap (λ l. l.items) e

  left-room : (r : Result T StoreFault) → now ≡ left_after r was → now.room ≡ was.room
  left-room (Ok v) e = ap (λ l. l.room) e
  left-room (Err f) e = ap (λ l. l.room) e

module _ {S R : Type 0} {shown : S → Shown} {cmp : R → R → Ordering} {record_of : List ℕ → R} {width : ℕ} {x : Store S R} {h : Shares R} {count peak room : ℕ} {failed : Option ℕ} {limited : Bool} {t : Tally} (stands : QueueStands shown cmp record_of width x h count peak failed limited t room) {old : Holding R} (view : viewed shown record_of width x h count peak failed limited t ≡ old) {T : Type 0} {number : ℕ} (is : failed ≡ Some number) where
  -- a call of a queue that a failed block stopped
  pub stopped : QueueLeaves {T = T} old old (Err (Device number))
  stopped =
      let r : Result T StoreFault = Err (Device number) in
      subst (λ q. QueueLeaves q q r) view (leaves-stopped (viewed shown record_of width x h count peak failed limited t) number is (stands.queue.fault number is))

  -- the same of a bulk pop
  pub bulk-stopped : {limit : Option R} {most : ℕ} (given : Listed R) {now : Listed R} → now ≡ listed [] given.room → BulkLeaves cmp {T = T} limit most old old given now (Err (Device number))
  bulk-stopped given cleared =
      record {
        took = tt;
        emptied = ap (λ l. l.items) cleared;
        easy = λ none. not_sound number (sym is ∙ ap (λ q. q.failed) view ∙ none);
        crowded = λ err. cc;
        scant = λ err. cc;
        refused = stopped.refused;
        latched = stopped.latched;
        size = omega (arith, ap (λ l. length l.items) cleared);
        list_room = ap (λ l. l.room) cleared;
        peak = refl;
        counted = record { counts = refl; heaps = omega arith };
        keeps = stopped.stays.keeps;
      }

-- a queue that a failed block stopped stands where a session that is begun counts
pub stands-stopped :
    {S R : Type 0} {shown : S → Shown} {cmp : R → R → Ordering} {record_of : List ℕ → R} {width : ℕ} {x : Store S R} {h : Shares R} {count peak room : ℕ} {failed : Option ℕ} {limited limited' : Bool} {t u : Tally} {number : ℕ}
    → QueueStands shown cmp record_of width x h count peak failed limited t room → failed ≡ Some number → u ≡ beginning t → QueueStands shown cmp record_of width x h count peak failed limited' u room
stands-stopped {number = number} stands is e = record { queue = stands.queue; sound = λ none. not_sound number (sym is ∙ none); counted = counted-later e stands.counted; slots_room = stands.slots_room }

-- what is to hold where no limit session was noted
pub limit_known : {P : Type 0} → true ≡ false → P
limit_known e = absurd (cc)

-- a queue of which a limit session was noted
pub stands-limited :
    {S R : Type 0} {shown : S → Shown} {cmp : R → R → Ordering} {record_of : List ℕ → R} {width : ℕ} {x : Store S R} {h : Shares R} {count peak room : ℕ} {failed : Option ℕ} {limited : Bool} {t : Tally}
    → QueueStands shown cmp record_of width x h count peak failed limited t room → QueueStands shown cmp record_of width x h count peak failed true t room
stands-limited stands =
    record {
      queue = stands.queue;
      sound = λ none. (let sound = stands.sound none in sound-counts sound sound.counted sound.ascends sound.order (λ more is. limit_known is));
      counted = stands.counted;
      slots_room = stands.slots_room;
    }

module _ {S R : Type 0} {shown : S → Shown} {cmp : R → R → Ordering} {record_of : List ℕ → R} {width : ℕ} {x : Store S R} {h : Shares R} {count peak room : ℕ} {failed : Option ℕ} {limited : Bool} {t : Tally} (stands : QueueStands shown cmp record_of width x h count peak failed limited t room) (none : failed ≡ None) where
  -- the store of a sound queue may work
  pub may_work : MayWork shown cmp record_of width x
  may_work =
      let is = stands.queue in
      let sound = stands.sound none in
      record {
        runs = record { range = is.range; budget = is.budget; rest = sound.rest; no_row = is.no_row };
        workers = sound.workers;
        serves = sound.serves;
        room = is.room;
        within = omega (arith, is.in_extract, is.room);
        ascends = sound.ascends;
        order = sound.order;
      }

  was_none : IsQueue shown x.sizes h x.extract x.body x.supply count peak None
  was_none = subst (λ f. IsQueue shown x.sizes h x.extract x.body x.supply count peak f) none stands.queue

  module _ {T : Type 0} (r : Result T StoreFault) {old : Holding R} (view : viewed shown record_of width x h count peak failed limited t ≡ old) {failed' : Option ℕ} (late : failed' ≡ latched r failed) where
    -- a statement of a queue that was sound, of this queue
    told :
        (y : Store S R) (h' : Shares R) (less : ℕ) (u : Tally) (P : Holding R → Holding R → Type 0)
        → P (viewed shown record_of width x h count peak None limited t) (viewed shown record_of width y h' less peak (latched r None) limited u) → P old (viewed shown record_of width y h' less peak failed' limited u)
    told y h' less u P p =
        subst (λ q. P q (viewed shown record_of width y h' less peak failed' limited u)) (sym (ap (λ f. viewed shown record_of width x h count peak f limited t) none) ∙ view)
        (subst (λ f. P (viewed shown record_of width x h count peak None limited t) (viewed shown record_of width y h' less peak f limited u)) (sym (late ∙ ap (latched r) none)) p)

    -- a call that did nothing
    pub untouched : {y : Store S R} → IsOk r × (y ≡ x) → IsOk r × (viewed shown record_of width y h count peak failed' limited t ≡ old)
    untouched did = (
      did.0,
      ap (λ z. viewed shown record_of width z h count peak failed' limited t) did.1 ∙ ap (λ f. viewed shown record_of width x h count peak f limited t) (late ∙ latched_ok r failed did.0) ∙ view,
    )

    -- a call that moved no record out of the queue
    pub called :
        {y : Store S R} {h' : Shares R} {u : Tally}
        → IsCounted x.sizes.workers x.sizes.block (failed' ≡ None) u (heaps_account shown h' y) → StoreKept shown x y → HeapsStay h h' → (length (items_of h') < count → IsAbove x.sizes peak limited) → (IsErrOf r NoFreeBlock → IsAbove x.sizes peak limited)
        → OnOk r (Holds shown cmp record_of width (items_of h) (items_of h') x y) → IfErr r (Refuses shown cmp record_of width (items_of h) (items_of h') x y)
        → QueueStands shown cmp record_of width y h' count peak failed' limited u room × QueueLeaves old (viewed shown record_of width y h' count peak failed' limited u) r
    called {y = y} {h' = h'} {u = u} paid kept heaps above why holds refused =
        let sound = stands.sound none in (
          record {
            queue = subst (λ f. IsQueue shown y.sizes h' y.extract y.body y.supply count peak f) (sym late) (queue-called shown cmp record_of width x y h h' kept heaps count peak limited t u count failed r (items_of h) (items_of h') (omega arith) stands.queue refused);
            sound = λ n. sound-called shown cmp record_of width x y h h' kept heaps count peak limited t u failed r sound above holds refused (sym late ∙ n);
            counted = subst (λ n. IsCounted n.workers n.block (failed' ≡ None) u (heaps_account shown h' y)) (sym kept.sizes) paid;
            slots_room = omega (arith, stands.slots_room, ap (λ n. n.blocks) kept.sizes);
          },
          told y h' count u (λ a b. QueueLeaves a b r) (record {
            same = same-called shown cmp record_of width x y h h' kept heaps count peak limited t u r holds;
            refused = refused-called shown cmp record_of width x y h h' kept heaps count peak limited t u r was_none sound why refused;
            latched = λ number e. not_sound number (sym e);
            stays = record { keeps = keeps-called shown cmp record_of width x y h h' kept heaps count peak limited t u count (latched r None); size = refl; peak = refl };
          }),
        )

    -- a call beside the heaps
    pub called-beside :
        {y : Store S R} {u : Tally}
        → IsCounted x.sizes.workers x.sizes.block (failed' ≡ None) u (heaps_account shown h y) → StoreKept shown x y → OnOk r (Holds shown cmp record_of width [] [] x y) → IfErr r (Refuses shown cmp record_of width [] [] x y)
        → QueueStands shown cmp record_of width y h count peak failed' limited u room × QueueLeaves old (viewed shown record_of width y h count peak failed' limited u) r
    called-beside {y = y} {u = u} paid kept holds refused =
        let sound = stands.sound none in
        called {h' = h} {u = u} paid kept heaps-same sound.above (above-some shown cmp record_of width x y h h kept heaps-same count peak limited t u r sound refused) (ok-map r (λ one. holds-beside (items_of h) one) holds) (err-map r (refused-beside shown cmp record_of width (items_of h) x y) refused)

    pub called-leaves :
        {y : Store S R} {u : Tally} → IsCounted x.sizes.workers x.sizes.block (failed' ≡ None) u (heaps_account shown h y) → StoreLeaves shown cmp record_of width [] [] x y r → QueueStands shown cmp record_of width y h count peak failed' limited u room × QueueLeaves old (viewed shown record_of width y h count peak failed' limited u) r
    called-leaves paid one = called-beside paid one.stays.kept one.holds one.refused

    -- a store of heaps
    pub called-heaps :
        {y : Store S R} {h' : Shares R} {u : Tally} {runs : ℕ} → IsCounted x.sizes.workers x.sizes.block (failed' ≡ None) u (heaps_account shown h' y) → IsAbove x.sizes peak limited → HeapsLeave shown cmp record_of width runs h h' x y r
        → QueueStands shown cmp record_of width y h' count peak failed' limited u room × QueueLeaves old (viewed shown record_of width y h' count peak failed' limited u) r
    called-heaps paid above one = called paid one.leaves.stays.kept one.heaps (λ more. above) (λ err. above) one.leaves.holds one.leaves.refused

    -- a bulk pop into a list that was emptied first, and is after an error
    pub bulk-called :
        {y : Store S R} {h' : Shares R} {limit : Option R} {most less : ℕ} (given first was now : Listed R)
        → IsTotalOrder cmp → ((a b : R) → cmp a b ≡ Equal → a ≡ b) → first ≡ listed [] given.room → TakesOut shown cmp record_of width limit most h h' x y first was r → now ≡ left_after r was → less ≡ count - length now.items
        → QueueStands shown cmp record_of width y h' less peak failed' limited t room × BulkLeaves cmp limit most old (viewed shown record_of width y h' less peak failed' limited t) given now r
    bulk-called {y = y} {h' = h'} {limit = limit} {most = most} {less = less} given first was now o same cleared takes left fewer =
        let sound = stands.sound none in
        let as_was = left-ok was now r left in
        let gone = left-err was now r left in
        let kept = takes.kept in
        let heaps = takes.heaps in
        let paid = counted-free none r late stands.counted (pays-fewer (length (items_of h)) (length (items_of h')) heaps.fewer takes.pays) in
        let out = now.items in
        let took = ok-map2 r (λ e all. subst (λ l. TookAll shown cmp record_of width limit most (items_of h) (items_of h') x y l) (sym (ap (λ l. l.items) e)) all) as_was takes.took in
        let refused = refused-heaps shown cmp record_of width x y h h' kept heaps count peak limited t t r takes.refused takes.same_heaps in
        let why = above-some shown cmp record_of width x y h h' kept heaps count peak limited t t r sound takes.refused in (
          record {
            queue = subst (λ f. IsQueue shown y.sizes h' y.extract y.body y.supply less peak f) (sym late) (queue-called shown cmp record_of width x y h h' kept heaps count peak limited t t less failed r [] [] (omega (arith, fewer)) stands.queue takes.refused);
            sound = λ n. bulk-sound shown cmp record_of width x y h h' kept heaps count peak limited t t limit most less out fewer failed r sound took takes.refused refused gone (sym late ∙ n);
            counted = subst (λ n. IsCounted n.workers n.block (failed' ≡ None) t (heaps_account shown h' y)) (sym kept.sizes) paid;
            slots_room = omega (arith, stands.slots_room, ap (λ n. n.blocks) kept.sizes);
          },
          told y h' less t (λ a b. BulkLeaves cmp limit most a b given now r) (record {
            took = front-called shown cmp record_of width x y h h' kept heaps count peak limited t t limit most less out fewer r o same sound took;
            emptied = gone;
            easy = λ unfailed all. taken_easy shown record_of width x y h h' count peak less limited t r (takes.easy (omega (arith, all, sound.counted)));
            crowded = λ err. (takes.crowded err).level;
            scant = λ err. (takes.crowded err).free;
            refused = refused-fewer shown cmp record_of width x y h h' kept heaps count peak limited t t limit most less out fewer r (latched r None) (refused-called shown cmp record_of width x y h h' kept heaps count peak limited t t r was_none sound why refused) gone;
            latched = λ number e. not_sound number (sym e);
            size = fewer;
            list_room = left-room was now r left ∙ takes.list_room ∙ ap (λ l. l.room) cleared;
            peak = refl;
            counted = record { counts = refl; heaps = heaps.fewer };
            keeps = keeps-called shown cmp record_of width x y h h' kept heaps count peak limited t t less (latched r None);
          }),
        )

-- of as many records wanted, in other words
pub bulk-at :
    {R T : Type 0} {cmp : R → R → Ordering} {limit : Option R} {most more : ℕ} {old new : Holding R} {was now : Listed R} {r : Result T StoreFault} → most ≡ more → BulkLeaves cmp limit most old new was now r → BulkLeaves cmp limit more old new was now r
bulk-at {cmp = cmp} {limit = limit} {old = old} {new = new} {was = was} {now = now} {r = r} e = subst (λ k. BulkLeaves cmp limit k old new was now r) e

module _ {R T U : Type 0} {cmp : R → R → Ordering} {limit : Option R} {most : ℕ} {old new : Holding R} {was now : Listed R} where
  -- a bulk pop that returns more
  pub bulk-answered : {v : T} {w : U} → BulkLeaves cmp limit most old new was now (Ok v) → BulkLeaves cmp limit most old new was now (Ok w)
  bulk-answered one = record { took = one.took; emptied = tt; easy = λ none all. (refl, (one.easy none all).1); crowded = λ err. cc; scant = λ err. cc; refused = tt; latched = λ number e. absurd (let odd = (one.latched number e).0 in cc); size = one.size; list_room = one.list_room; peak = one.peak; counted = one.counted; keeps = one.keeps }

  -- an error of a bulk pop that is handed on
  pub bulk-given : {r : Result T StoreFault} {e : StoreFault} → IsErrAnd r (λ given. given ≡ e) → BulkLeaves cmp {T = U} limit most old new was now (Err e) → BulkLeaves cmp limit most old new was now r
  bulk-given {r = Ok v} is one = absurd is
  bulk-given {r = Err f} {e = e} is one =
      record {
        took = tt;
        emptied = one.emptied;
        easy = λ none all. absurd (let odd = (one.easy none all).0 in cc);
        crowded = none_given (err_of T f) e is one.crowded;
        scant = none_given (err_of T f) e is one.scant;
        refused = subst (IsRefusal old new) (sym is) one.refused;
        latched = λ number failed. (let same = one.latched number failed in (ap (err_of T) is ∙ err_on e number same.0, same.1));
        size = one.size;
        list_room = one.list_room;
        peak = one.peak;
        counted = one.counted;
        keeps = one.keeps;
      }
    where
      err_on : (e : StoreFault) (number : ℕ) → err_of U e ≡ err_of U (Device number) → err_of T e ≡ err_of T (Device number)
      err_on e number is = ap (err_of T) (err_is e (Device number) is)
