-- What is out, beside what a front has: buffers of passes, slots of the row, buffers of the pool; and what a front has and shows after its
-- extract buffer was refilled.
use Rattle.std.proofs.Common.{◌≡◌, ℕ, ◌+◌, ◌*◌, ◌≤◌, List, [], ◌++◌, length, All, Option, Some, refl, sym, ◌∙◌, arith, length-append, ap, subst, ◌∷◌, drop, None, length-drop}
use Rattle.std.specs.Prelude.{Result, Ok, Err, IfErr, IsErrOf, count_by}
use Rattle.ppq_pass.specs.ppq_array.declared.store_fault.StoreFault.{StoreFault as QueueFault}
use Rattle.ppq_pass.specs.ppq_array.declared.store_fault.StoreFault.TheVariants.{NoFreeBlock, Device}
use Rattle.std.proofs.lemmas.List.{length-replicate, nil_from_length}
use Rattle.std.proofs.lemmas.List.Sums.{sum_by-append}
use Rattle.std.proofs.lemmas.List.Elements.{All-append, All-replicate}
use Rattle.ppq_pass.specs.ppq_outside.Shown.{Shown, Tells, AllTell}
use Rattle.ppq_pass.specs.ppq_budget.Sizes.{Numbers}
use Rattle.ppq_pass.specs.ppq_block.Block.{Block, holding}
use Rattle.ppq_pass.specs.ppq_array.Supply.{Stock}
use Rattle.ppq_pass.specs.ppq_array.Owner.{slots_shown, HasBlock}
use Rattle.ppq_pass.specs.ppq_array.Kept.{SameSlots, HasFailed, all_writes, weight_at, overread}
use Rattle.ppq_pass.specs.ppq_array.declared.berth.DeviceBlock.{DeviceBlock}
use Rattle.ppq_pass.proofs.ppq_array.Noted.{all_left, all_right}
use Rattle.ppq_pass.proofs.ppq_spill.SameSlots.{SameSlots-refl}
use Rattle.ppq_pass.specs.ppq_extract.Extracted.{Held, SourcesRest, held}
use Rattle.ppq_pass.specs.ppq_extract.declared.sources.Sources.{Sources}
use Rattle.ppq_pass.specs.ppq_spill.Body.{body_slots, held_by}
use Rattle.ppq_pass.specs.ppq_spill.declared.body.PassBody.{PassBody}
use Rattle.ppq_queue.specs.Resting.{BodyKept, slots_of, runs_bag, count_of}
use Rattle.ppq_session.specs.declared.parts.BulkParts.{BulkParts}
use Rattle.ppq_session.specs.Apart.{apart_slots, IsOut, IsCountedApart}
use Rattle.ppq_session.specs.FrontState.{IsRefillRefusal, lent, with_lent, with_shared, IsTallied, front_bag, front_holding, IsSoundFront}
use Rattle.std.specs.declared.cmp.Ordering.{Ordering}
use Rattle.ppq_pass.specs.ppq_fetch.Taking.{NoneBelow, NoneAfter, AllBelow}
use Rattle.ppq_pass.specs.ppq_array.Holdings.{internal_buffers}
use Rattle.ppq_session.specs.Fronts.{FrontHolding, RefillKeeps, IsReady, TakesLeast, number_in, without_least_below}
use Rattle.std.specs.declared.cmp.Ordering.TheVariants.{Equal}
use Rattle.std.specs.Cmp.{IsTotalOrder}
use Rattle.ppq_pass.specs.ppq_record.Order.{Ascends}
use Rattle.ppq_pass.specs.ppq_record.Bag.{IsSameBag, first_of}
use Rattle.ppq_queue.proofs.Ready.{each_rest, ascends_rest}
use Rattle.ppq_session.proofs.Belows.{ready_first, ready_rest}
use Rattle.ppq_session.proofs.Emptying.{SameSlots-append}

module _ {R : Type 0} where
  pub lent-length : (n : Numbers) (idle : List (Block R)) → length (lent n ++ idle) ≡ 2 * n.workers + length idle
  lent-length n idle = omega (arith, length-append (lent n) idle, length-replicate (2 * n.workers) (holding {R = R} n.block []))

  pub lent-blocks : (n : Numbers) (block : ℕ) (idle : List (Block R)) → block ≡ n.block → All (HasBlock block) idle → All (HasBlock block) (lent n ++ idle)
  lent-blocks n block idle e all = All-append (HasBlock block) (lent n) idle (All-replicate (HasBlock block) (2 * n.workers) (holding n.block []) (sym e)) all

-- a slot that failed among those that a supply keeps
pub failed-kept : {S R : Type 0} (shown : S → Shown) (q : BulkParts S R) (b : PassBody S R) (t : Stock) (number : ℕ) → HasFailed number t.kept → HasFailed number (slots_of shown b t ++ slots_shown shown q.row_seat.hand.items)
failed-kept shown q b t number h =
    let f = weight_at (λ s. s.faults) number in
    omega (arith, h, sum_by-append f (slots_of shown b t) (slots_shown shown q.row_seat.hand.items), sum_by-append f (body_slots shown b) t.kept)

-- a refill that was refused
pub refused-refilled : {T : Type 0} (slots : List Shown) (r : Result T QueueFault) → (IsErrOf r NoFreeBlock → ⊥) → ((number : ℕ) → IsErrOf r (Device number) → HasFailed number slots) → IfErr r (IsRefillRefusal slots)
refused-refilled slots (Ok value) alone device = tt
refused-refilled slots (Err NoFreeBlock) alone device = alone refl
refused-refilled slots (Err (Device number)) alone device = device number refl

module _ {S R : Type 0} (shown : S → Shown) where
  -- that all slots of a front tell, in its own order and in that of a queue
  pub told-whole : (n : Numbers) (items : List (DeviceBlock S R)) (buffers : ℕ) (a : PassBody S R) (s : Stock) → AllTell (slots_of shown a s ++ slots_shown shown items) → AllTell (slots_of shown (with_lent n a) (with_shared shown items buffers s))
  told-whole n items buffers a s tell =
      let own = slots_shown shown items in
      let all = all_left Tells (slots_of shown a s) own tell in
      All-append Tells (body_slots shown a) (own ++ s.kept)
      (all_left Tells (body_slots shown a) s.kept all)
      (All-append Tells own s.kept (all_right Tells (slots_of shown a s) own tell) (all_right Tells (body_slots shown a) s.kept all))

  pub told-parts : (n : Numbers) (items : List (DeviceBlock S R)) (buffers : ℕ) (a : PassBody S R) (s : Stock) → AllTell (slots_of shown (with_lent n a) (with_shared shown items buffers s)) → AllTell (slots_of shown a s ++ slots_shown shown items)
  told-parts n items buffers a s tell =
      let own = slots_shown shown items in
      let rest = all_right Tells (body_slots shown a) (own ++ s.kept) tell in
      All-append Tells (slots_of shown a s) own
      (All-append Tells (body_slots shown a) s.kept (all_left Tells (body_slots shown a) (own ++ s.kept) tell) (all_right Tells own s.kept rest))
      (all_left Tells own s.kept rest)

  module _ (width : ℕ) (q : BulkParts S R) (x : Held R) (b : PassBody S R) (t : Stock) (src : Sources R) where
    -- the parts of a front after its extract buffer was refilled
    abbrev pub refilled : BulkParts S R
    refilled = record q { extract = x; body = b; supply = t; sources = src }

    abbrev own : List Shown
    own = slots_shown shown q.row_seat.hand.items

    pub front-refilled : IsOut shown width q → BodyKept shown q.body b q.supply t → t.drawn ≡ [] → b.lanes.jobs.items ≡ [] → x.room ≡ q.extract.room → length x.items ≤ q.extract.room → SourcesRest q.sources src → IsOut shown width refilled
    front-refilled is kept no_row none room within rest =
        record {
          home = is.home;
          room = room ∙ is.room;
          in_extract = omega (arith, within, is.room);
          no_job = none;
          held = omega (arith, is.held, kept.held);
          pool = kept.all_buffers ∙ is.pool;
          slots = omega (arith, is.slots, kept.slots.length, length-append (slots_of shown q.body q.supply) own, length-append (slots_of shown b t) own);
          overreads = omega (arith, is.overreads, kept.slots.overreads, sum_by-append overread (slots_of shown q.body q.supply) own, sum_by-append overread (slots_of shown b t) own);
          slot_room = kept.all_slots ∙ is.slot_room;
          block = kept.block ∙ is.block;
          no_row = no_row;
          workers = rest.workers ∙ is.workers;
          serves = record { bench = omega (arith, is.serves.bench, rest.bench); places = omega (arith, is.serves.places, rest.places) };
        }

    module _ (kept : BodyKept shown q.body b q.supply t) where
      pub slots-refilled : SameSlots (apart_slots shown q) (apart_slots shown refilled)
      slots-refilled = SameSlots-append (slots_of shown q.body q.supply) (slots_of shown b t) own own kept.slots (SameSlots-refl own)

      pub tells-refilled : AllTell (apart_slots shown q) → AllTell (apart_slots shown refilled)
      tells-refilled tell = All-append Tells (slots_of shown b t) own (kept.tells.0 (all_left Tells (slots_of shown q.body q.supply) own tell)) (all_right Tells (slots_of shown q.body q.supply) own tell)

      pub told-refilled : AllTell (apart_slots shown refilled) → AllTell (apart_slots shown q)
      told-refilled tell = All-append Tells (slots_of shown q.body q.supply) own (kept.tells.1 (all_left Tells (slots_of shown b t) own tell)) (all_right Tells (slots_of shown b t) own tell)

      pub writes-refilled : all_writes (apart_slots shown q) ≤ all_writes (apart_slots shown refilled)
      writes-refilled =
          let f : Shown → ℕ = λ s. s.writes in
          omega (arith, kept.writes, sum_by-append f (slots_of shown q.body q.supply) own, sum_by-append f (slots_of shown b t) own)

    -- the counts are as they were
    pub tallied-refilled :
        (popped : ℕ) (failed failed' : Option ℕ) → IsTallied shown q popped failed → ((number : ℕ) → failed' ≡ Some number → HasFailed number (apart_slots shown refilled)) → IsCountedApart shown refilled 0 failed'
        → IsTallied shown refilled popped failed'
    tallied-refilled popped failed failed' is fault paid = record { limited = is.limited; counted = is.counted; most = is.most; packed = is.packed; fits = is.fits; fault = fault; paid = paid }

module _ {S R : Type 0} (shown : S → Shown) (record_of : List ℕ → R) (width : ℕ) (q q' : BulkParts S R) (rest : q' ≡ record q { extract = q'.extract; body = q'.body; supply = q'.supply; sources = q'.sources }) (kept : BodyKept shown q.body q'.body q.supply q'.supply) where
  slots-ready : SameSlots (apart_slots shown q) (apart_slots shown q')
  slots-ready = subst (λ p. SameSlots (apart_slots shown q) (apart_slots shown p)) (sym rest) (slots-refilled shown width q q'.extract q'.body q'.supply q'.sources kept)

  writes-ready : all_writes (apart_slots shown q) ≤ all_writes (apart_slots shown q')
  writes-ready = subst (λ p. all_writes (apart_slots shown q) ≤ all_writes (apart_slots shown p)) (sym rest) (writes-refilled shown width q q'.extract q'.body q'.supply q'.sources kept)

  tells-ready : AllTell (apart_slots shown q) → AllTell (apart_slots shown q')
  tells-ready tell = subst (λ p. AllTell (apart_slots shown p)) (sym rest) (tells-refilled shown width q q'.extract q'.body q'.supply q'.sources kept tell)

  pub told-ready : AllTell (apart_slots shown q') → AllTell (apart_slots shown q)
  told-ready tell = told-refilled shown width q q'.extract q'.body q'.supply q'.sources kept (subst (λ p. AllTell (apart_slots shown p)) rest tell)

  pub tallied-ready : (popped : ℕ) (failed failed' : Option ℕ) → IsTallied shown q popped failed → ((number : ℕ) → failed' ≡ Some number → HasFailed number (apart_slots shown q')) → IsCountedApart shown q' 0 failed' → IsTallied shown q' popped failed'
  tallied-ready popped failed failed' is fault paid =
      subst (λ p. IsTallied shown p popped failed') (sym rest)
      (tallied-refilled shown width q q'.extract q'.body q'.supply q'.sources popped failed failed' is (λ number e. subst (λ p. HasFailed number (apart_slots shown p)) rest (fault number e)) (subst (λ p. IsCountedApart shown p 0 failed') rest paid))

  -- what stayed empty has nothing below the limit, and neither have the runs
  pub is-ready :
      (cmp : R → R → Ordering) (limit : R) → (q'.extract.items ≡ [] → AllTell (apart_slots shown q) → NoneBelow cmp (Some limit) (runs_bag shown record_of width q'.body))
      → length q'.extract.items ≡ 0 → AllTell (apart_slots shown q') → NoneBelow cmp (Some limit) (front_bag shown record_of width q')
  is-ready cmp limit none empty tell =
      let gone = nil_from_length q'.extract.items empty in
      subst (λ l. NoneBelow cmp (Some limit) (l ++ runs_bag shown record_of width q'.body)) (sym gone) (none gone (told-ready tell))

  -- only the records' order, the slots, the buffers of runs and the extract buffer changed
  shows-ready :
      (limit : R) (popped : ℕ) (failed failed' : Option ℕ) (old : FrontHolding S R) → front_holding shown record_of width q limit popped failed ≡ old
      → front_holding shown record_of width q' limit popped failed' ≡ record old { bag = front_bag shown record_of width q'; slots = apart_slots shown q'; run_buffers = internal_buffers q'.body.runs.internal.items; in_extract = length q'.extract.items; failed = failed' }
  shows-ready limit popped failed failed' old view =
      let before = (held_by shown q.body).buffers + q.supply.sure_buffers in
      let now = (held_by shown q'.body).buffers + q'.supply.sure_buffers in
      let same : now ≡ before = omega (arith, kept.held, kept.all_buffers) in
      let shows : BulkParts S R → ℕ → FrontHolding S R = λ p buffers.
      record {
        bag = front_bag shown record_of width q';
        limit = limit;
        size = p.count;
        popped = popped;
        sizes = p.sizes;
        peak = p.peak;
        slots = apart_slots shown q';
        buffers = buffers;
        run_buffers = internal_buffers q'.body.runs.internal.items;
        in_extract = length q'.extract.items;
        row = p.row_seat.row;
        items = p.row_seat.hand.items;
        pool = p.pool_seat.pool;
        failed = failed';
        counts = p.counts;
      }
      in
      ap (λ p. shows p now) rest ∙ ap (shows q) same ∙ ap (λ (h : FrontHolding S R). record h { bag = front_bag shown record_of width q'; slots = apart_slots shown q'; run_buffers = internal_buffers q'.body.runs.internal.items; in_extract = length q'.extract.items; failed = failed' }) view

  -- what a front keeps whose parts these are
  pub refill-keeps :
      (limit : R) (popped : ℕ) (failed failed' : Option ℕ) (old : FrontHolding S R) → front_holding shown record_of width q limit popped failed ≡ old → RefillKeeps old (front_holding shown record_of width q' limit popped failed')
  refill-keeps limit popped failed failed' old view =
      subst (λ (f : FrontHolding S R). RefillKeeps f (front_holding shown record_of width q' limit popped failed')) view
      (record {
        slots = slots-ready;
        tells = tells-ready;
        writes = writes-ready;
        rest = shows-ready limit popped failed failed' (front_holding shown record_of width q limit popped failed) refl;
      })

module _ {R : Type 0} where
  pub first_none : (items : List R) → first_of items ≡ None → items ≡ []
  first_none [] e = refl
  first_none (x ∷ xs) e = cc

  under_rest : (cmp : R → R → Ordering) (limit : R) (items : List R) → AllBelow cmp (Some limit) items → AllBelow cmp (Some limit) (drop 1 items)
  under_rest cmp limit [] h = h
  under_rest cmp limit (x ∷ xs) h = h.1

module _ {S R : Type 0} (shown : S → Shown) (width : ℕ) (q : BulkParts S R) (x : Held R) (k : ℕ) where
  -- the parts of a front whose extract buffer gave its first record
  abbrev pub taken : BulkParts S R
  taken = record q { extract = x; count = k }

  tallied-taken : (popped popped' : ℕ) (failed : Option ℕ) → k + popped' ≡ q.count + popped → IsTallied shown q popped failed → IsTallied shown taken popped' failed
  tallied-taken popped popped' failed same is = record { limited = is.limited; counted = omega (arith, same, is.counted); most = omega (arith, same, is.most); packed = omega (arith, same, is.packed); fits = omega (arith, same, is.fits); fault = is.fault; paid = is.paid }

  module _ (gone : x ≡ held (drop 1 q.extract.items) q.extract.room) where
    front-taken : IsOut shown width q → IsOut shown width taken
    front-taken is =
        record {
          home = is.home;
          room = ap (λ e. e.room) gone ∙ is.room;
          in_extract = omega (arith, is.in_extract, ap (λ e. length e.items) gone, length-drop 1 q.extract.items);
          no_job = is.no_job;
          held = is.held;
          pool = is.pool;
          slots = is.slots;
          overreads = is.overreads;
          slot_room = is.slot_room;
          block = is.block;
          no_row = is.no_row;
          workers = is.workers;
          serves = is.serves;
        }

    module _ (cmp : R → R → Ordering) (record_of : List ℕ → R) (limit : R) (sound : IsSoundFront shown cmp record_of width q limit) where
      sound-taken : k ≡ length (drop 1 q.extract.items) + count_of q.body → IsSoundFront shown cmp record_of width taken limit
      sound-taken counted =
          let items = sym (ap (λ e. e.items) gone) in
          record {
            rest = sound.rest;
            few = sound.few;
            counted = omega (arith, counted, ap length items);
            ascends = λ tell. subst (λ l. Ascends cmp l) items (ascends_rest cmp q.extract.items (sound.ascends tell));
            order = λ tell. subst (λ l. NoneAfter cmp l (runs_bag shown record_of width q.body)) items (each_rest cmp q.extract.items (runs_bag shown record_of width q.body) (sound.order tell));
            under = λ tell. subst (λ l. AllBelow cmp (Some limit) l) items (under_rest cmp limit q.extract.items (sound.under tell));
          }

      -- what is left of its records
      bag-taken :
          IsTotalOrder cmp → ((a b : R) → cmp a b ≡ Equal → a ≡ b) → (popped : ℕ) (failed : Option ℕ) → IsReady cmp (front_holding shown record_of width q limit popped failed) → AllTell (apart_slots shown q)
          → IsSameBag (front_bag shown record_of width taken) (without_least_below cmp limit (front_bag shown record_of width q))
      bag-taken o same popped failed ready tell p =
          ap (λ (e : Held R). count_by p (e.items ++ runs_bag shown record_of width q.body)) gone
          ∙ ready_rest o same limit q.extract.items (runs_bag shown record_of width q.body) (sound.ascends tell) (sound.order tell) (sound.under tell) (λ z. ready z tell) p

      -- all that the front says of the record that it gave
      pub takes-first :
          IsTotalOrder cmp → ((a b : R) → cmp a b ≡ Equal → a ≡ b) → (popped popped' : ℕ) (failed : Option ℕ) → IsReady cmp (front_holding shown record_of width q limit popped failed) → (answer : Option R) (old : FrontHolding S R)
          → front_holding shown record_of width q limit popped failed ≡ old → answer ≡ first_of q.extract.items → popped' ≡ popped + number_in answer → k + popped' ≡ q.count + popped
          → TakesLeast cmp answer old (front_holding shown record_of width taken limit popped' failed)
      takes-first o same popped popped' failed ready answer old view first more total =
          subst (λ (f : FrontHolding S R). TakesLeast cmp answer f (front_holding shown record_of width taken limit popped' failed)) view
          (record {
            answer_is = λ tell. first ∙ ready_first o same limit q.extract.items (runs_bag shown record_of width q.body) (sound.ascends tell) (sound.order tell) (sound.under tell) (λ z. ready z tell);
            left = bag-taken o same popped failed ready;
            popped = more;
            total = total;
            rest = refl;
          })

    -- what holds of the front still
    pub held-taken :
        (cmp : R → R → Ordering) (record_of : List ℕ → R) (limit : R) (popped popped' : ℕ) (failed : Option ℕ)
        → IsOut shown width q × IsTallied shown q popped failed × (failed ≡ None → IsSoundFront shown cmp record_of width q limit)
        → k + popped' ≡ q.count + popped → (failed ≡ None → k ≡ length (drop 1 q.extract.items) + count_of q.body)
        → IsOut shown width taken × IsTallied shown taken popped' failed × (failed ≡ None → IsSoundFront shown cmp record_of width taken limit)
    held-taken cmp record_of limit popped popped' failed i same counted = (front-taken i.0, tallied-taken popped popped' failed same i.1, (λ sound. sound-taken cmp record_of limit (i.2 sound) (counted sound)))
