-- A front: how it begins; and a front and a bulk as parts that are apart.
use Rattle.std.proofs.Common.{◌≡◌, inl, inr, ℕ, ◌+◌, ◌-◌, ◌*◌, ◌<◌, ◌≤◌, true, false, List, [], ◌∷◌, length, sum_by, All, Option, Some, refl, sym, ap, ◌∙◌, subst, arith, ◌++◌, None, length-append, ap₂}
use Rattle.std.specs.Prelude.{◌⊎◌}
use Rattle.std.specs.declared.cmp.Ordering.{Ordering}
use Rattle.std.specs.Cmp.{IsTotalOrder}
use Rattle.std.proofs.lemmas.List.{length-map}
use Rattle.std.proofs.lemmas.List.Sums.{sum_by-cons}
use Rattle.std.proofs.lemmas.List.Elements.{All-head, All-tail, All-map}
use Rattle.ppq_pass.specs.ppq_record.Order.{is_before, Le, Ascends}
use Rattle.ppq_pass.proofs.ppq_record.Order.{Each-weaker}
use Rattle.ppq_pass.proofs.ppq_record.Fronts.{ranks}
use Rattle.ppq_pass.specs.ppq_outside.Shown.{Shown, Tells, AllTell}
use Rattle.ppq_pass.specs.ppq_budget.Sizes.{pool_of}
use Rattle.ppq_pass.specs.ppq_array.Owner.{HasBlock, slots_shown}
use Rattle.ppq_pass.proofs.ppq_array.Noted.{all_right}
use Rattle.ppq_pass.specs.ppq_fetch.Taking.{NoneAfter, AllBelow, NoneBelow}
use Rattle.ppq_pass.specs.ppq_pool.Seats.{count_of as pool_count}
use Rattle.ppq_pass.specs.Passed.{PassKey, PassHolding}
use Rattle.ppq_pass.specs.ppq_block.Block.{Block}
use Rattle.ppq_session.specs.Emptied.{emptied}
use Rattle.ppq_session.specs.Ends.{Staying}
use Rattle.ppq_queue.specs.Resting.{IsRestingRun, IsRestingArray, slots_of, odd_in, AtRest, count_of, runs_bag}
use Rattle.ppq_session.specs.declared.parts.BulkParts.{BulkParts}
use Rattle.ppq_session.specs.FrontState.{IsTallied, IsSoundFront, IsTakenApart, CanMakeRoom, HasMadeRoom, front_holding, with_lent, with_shared}
use Rattle.ppq_session.specs.Limited.{LimitHolding, IsLimited, passes_of}
use Rattle.ppq_session.specs.Fronts.{FrontHolding}
use Rattle.ppq_session.specs.LimitSession.{AreLimited, front_key, shared_of, of_front, front_begun}
use Rattle.ppq_session.proofs.Moved.{lent-length, told-whole, lent-blocks, told-parts}
use Rattle.ppq_pass.specs.declared.shared.Shared.{Shared}
use Rattle.ppq_session.proofs.Mapped.{sum-mapped, all_mapped}
use Rattle.ppq_session.specs.Apart.{IsOut, IsApart, IsSoundApart, GoesBefore, CanBring, CanEnd, IsCountedApart, apart_key, staying}
use Rattle.ppq_pass.specs.ppq_array.declared.berth.DeviceBlock.{DeviceBlock}
use Rattle.ppq_pass.specs.ppq_array.Holdings.{external_slots}
use Rattle.ppq_pass.proofs.ppq_spill.Keeping.{slots_long}
use Rattle.ppq_session.specs.State.{IsBulk, bulk_holding}
use Rattle.ppq_session.specs.BulkSession.{BulkHolding, AreOf, keys_of, pass_key, shared_by, of_bulk}
use Rattle.ppq_session.proofs.Opening.{bare_slots, none_first}
use Rattle.ppq_pass.specs.ppq_spill.Body.{held_by}

module _ {S R : Type 0} (shown : S → Shown) (cmp : R → R → Ordering) (record_of : List ℕ → R) (width : ℕ) (q : BulkParts S R) (is : IsBulk shown cmp record_of width q) where
  abbrev items : List (DeviceBlock S R)
  items = q.row_seat.hand.items

  abbrev pooled : ℕ
  pooled = pool_count q.pool_seat.pool

  abbrev arrays : List Shown
  arrays = external_slots shown q.body.runs.external.items

  items_long : length arrays + length items ≡ q.sizes.blocks
  items_long = omega (arith, ap length (bare_slots shown q is.supply.kept is.apart.out.no_job), is.apart.out.slots, length-append arrays (slots_shown shown items), slots_long shown items)

  pub tallied_first : q.limited ≡ true → count_of q.body ≡ q.count → IsTallied shown q 0 None
  tallied_first limited all =
      record {
        limited = limited;
        counted = omega (arith, is.least);
        most = omega (arith, is.apart.most_count);
        packed = omega (arith, all, ap length is.no_extract, is.sound.packed);
        fits = omega (arith, all, ap length is.no_extract, is.sound.fit);
        fault = λ number e. absurd (cc);
        paid = subst (λ k. IsCountedApart shown q k None) (omega (arith, all)) is.paid;
      }

  rest_first : AtRest shown cmp record_of width q.sizes (with_lent q.sizes q.body) (with_shared shown items pooled q.supply)
  rest_first =
      let left = is.sound in
      let same = sym is.supply.block in
      let long = lent-length q.sizes q.body.lanes.idle in
      record {
        block = is.supply.block;
        idle = lent-blocks q.sizes q.supply.block q.body.lanes.idle is.supply.block (subst (λ k. All (HasBlock k) q.body.lanes.idle) same left.idle);
        internal = subst (λ k. All (IsRestingRun k) q.body.runs.internal.items) same left.internal;
        external = subst (λ k. All (IsRestingArray shown width k) q.body.runs.external.items) same left.external;
        takes_back = record { slots = omega (arith, items_long, is.supply.slot_room); buffers = omega (arith, is.apart.fits) };
        no_job = is.apart.out.no_job;
        batch = left.batch ∙ ap (λ k. q.sizes.workers * k) same;
        buffers = omega (arith, left.buffers, long);
        held = omega (arith, is.apart.out.held, is.apart.fits, ap length is.apart.out.no_job, long);
        bounded = left.bounded;
        fronts = left.fronts;
        few = subst (λ k. odd_in k q.body.runs.external.items ≤ 65) same left.few;
        pool = omega (arith, is.apart.out.pool, is.apart.fits);
        slots = omega (arith, length-append (slots_shown shown items) q.supply.kept, slots_long shown items, ap length is.supply.kept, is.supply.slot_room, items_long);
        internal_room = left.internal_room;
        external_room = left.external_room;
        leaves = left.leaves;
        rise = λ tell. (let rise = left.rise (told-parts shown q.sizes items pooled q.body q.supply tell) in record { internal = rise.internal; external = rise.external });
      }

  module _ (limit : R) (all : count_of q.body ≡ q.count) (few : length q.body.runs.external.items ≤ 64) where
    pub sound_first : IsSoundFront shown cmp record_of width q limit
    sound_first =
        record {
          rest = rest_first;
          few = few;
          counted = omega (arith, all, ap length is.no_extract);
          ascends = λ tell. subst (λ l. Ascends cmp l) (sym is.no_extract) tt;
          order = λ tell. subst (λ l. NoneAfter cmp l (runs_bag shown record_of width q.body)) (sym is.no_extract) tt;
          under = λ tell. subst (λ l. AllBelow cmp (Some limit) l) (sym is.no_extract) tt;
        }

  -- the front shows what the bulk did
  pub front_is : (limit : R) (bulk : BulkHolding S R) (front : FrontHolding S R) → bulk_holding shown record_of width q ≡ bulk → front ≡ front_holding shown record_of width q limit 0 None → front ≡ front_begun bulk limit
  front_is limit bulk front shows made =
      let held = bulk_holding shown record_of width q in
      let all : List R → List Shown → ℕ → ℕ → FrontHolding S R = λ bag slots buffers next. record (front_begun held limit) { bag = bag; slots = slots; buffers = buffers; in_extract = next } in
      let buffers : (held_by shown q.body).buffers + q.supply.sure_buffers ≡ held.buffers = omega (arith, is.supply.sure, ap length is.apart.out.no_job) in
      made
      ∙ ap₂ (λ bag slots. all bag slots ((held_by shown q.body).buffers + q.supply.sure_buffers) (length q.extract.items)) (ap (λ l. l ++ runs_bag shown record_of width q.body) is.no_extract) (bare_slots shown q is.supply.kept is.apart.out.no_job)
      ∙ ap₂ (all held.bag held.slots) buffers (ap length is.no_extract)
      ∙ ap (λ b. front_begun b limit) shows

module _ {S R : Type 0} (shown : S → Shown) (width : ℕ) (q : BulkParts S R) where
  -- with room for the buffers of the pool it is apart
  pub front_apart : (popped : ℕ) (failed : Option ℕ) → IsOut shown width q → IsTallied shown q popped failed → pool_count q.pool_seat.pool ≤ q.supply.buffer_room → IsApart shown width q failed
  front_apart popped failed is tally fits = record { out = is; fits = fits; most_count = omega (arith, tally.most); fault = tally.fault }

  pub emptied_apart :
      (popped : ℕ) (failed : Option ℕ) (idle : List (Block R)) → length idle ≡ length q.body.lanes.idle + q.supply.sure_buffers → IsOut shown width q → IsTallied shown q popped failed → IsApart shown width (emptied idle q) failed
  emptied_apart popped failed idle more is tally =
      record {
        out = record {
          home = is.home;
          room = is.room;
          in_extract = is.in_extract;
          no_job = is.no_job;
          held = omega (arith, is.held, more);
          pool = omega (arith, is.pool);
          slots = is.slots;
          overreads = is.overreads;
          slot_room = is.slot_room;
          block = is.block;
          no_row = is.no_row;
          workers = is.workers;
          serves = is.serves;
        };
        fits = omega (arith, is.pool, is.home.pooled);
        most_count = omega (arith, tally.most);
        fault = tally.fault;
      }

  -- all buffers are few
  pub few_buffers : IsOut shown width q → length q.body.lanes.idle + q.supply.sure_buffers < 4294967295
  few_buffers is =
      let small : pool_of q.sizes ≤ 65536 = omega arith in
      omega (arith, is.held, is.pool, is.home.range.workers, small)

module _ {S R : Type 0} (shown : S → Shown) (cmp : R → R → Ordering) (record_of : List ℕ → R) (width : ℕ) (q : BulkParts S R) (popped : ℕ) (failed : Option ℕ) (limit : R) (is : IsOut shown width q) (tally : IsTallied shown q popped failed) (so : IsSoundFront shown cmp record_of width q limit) where
  -- while no fault was met there is room for the buffers of the pool
  front_room : pool_count q.pool_seat.pool ≤ q.supply.buffer_room
  front_room = omega (arith, so.rest.pool, is.pool)

  front_sound : (begun : ℕ) → begun ≡ 0 → IsSoundApart shown cmp record_of width q begun popped
  front_sound begun none =
      let r = so.rest in
      let n = q.sizes in
      record {
        idle = all_right (HasBlock n.block) _ q.body.lanes.idle (subst (λ b. All (HasBlock b) (with_lent n q.body).lanes.idle) is.block r.idle);
        internal = subst (λ b. All (IsRestingRun b) q.body.runs.internal.items) is.block r.internal;
        external = subst (λ b. All (IsRestingArray shown width b) q.body.runs.external.items) is.block r.external;
        batch = r.batch ∙ ap (λ b. n.workers * b) is.block;
        buffers = omega (arith, r.buffers, lent-length n q.body.lanes.idle);
        bounded = r.bounded;
        fronts = r.fronts;
        few = subst (λ b. odd_in b q.body.runs.external.items ≤ 65) is.block r.few;
        internal_room = r.internal_room;
        external_room = r.external_room;
        leaves = r.leaves;
        rise = λ tell. (let rise = r.rise (told-whole shown n q.row_seat.hand.items (pool_count q.pool_seat.pool) q.body q.supply tell) in record { internal = rise.internal; external = rise.external });
        counted = omega (arith, so.counted, none);
        above = λ some free. absurd (let odd : true ≡ false = sym tally.limited ∙ free in cc);
        ascends = so.ascends;
        order = so.order;
        packed = omega (arith, tally.packed, so.counted);
        fit = omega (arith, tally.fits, so.counted);
      }

  -- no record of the extract buffer is after one that is not below the limit
  none_after : IsTotalOrder cmp → (xs ys : List R) → AllBelow cmp (Some limit) xs → NoneBelow cmp (Some limit) ys → NoneAfter cmp xs ys
  none_after o [] ys under above = tt
  none_after o (x ∷ xs) ys under above =
      let r = ranks o in
      let lt = is_before cmp in
      (Each-weaker (λ y. lt y limit ≡ false) (λ y. Le lt x y) (λ y free. r.chain y limit x free (r.one_way x limit under.0)) ys above, none_after o xs ys under.1 above)

  -- so each pass goes behind it
  front_before : IsTotalOrder cmp → (p : LimitHolding S R) → p.limit ≡ limit → p.pass.key.items ≡ q.row_seat.hand.items → IsLimited shown cmp p.limit p.pass → GoesBefore shown cmp q p.pass
  front_before o p same items limited tell fine =
      let row = slots_shown shown q.row_seat.hand.items in
      let told : AllTell (slots_shown shown p.pass.key.items) = subst (λ l. AllTell (slots_shown shown l)) (sym items) (all_right Tells (slots_of shown q.body q.supply) row tell) in
      none_after o q.extract.items p.pass.bag (so.under tell) (subst (λ l. NoneBelow cmp (Some l) p.pass.bag) same (limited.above told fine))

module _ {S R : Type 0} where
  -- the pass alone
  abbrev pub pass_in : LimitHolding S R → PassHolding S R
  pass_in p = p.pass

  -- no pass had a record in the beginning
  pub none_begun : (front : FrontHolding S R) (ps : List (LimitHolding S R)) → All (λ (p : LimitHolding S R). p.pass.key ≡ front_key front) ps → sum_by (λ (p : LimitHolding S R). p.pass.key.begun) ps ≡ 0
  none_begun front [] all = refl
  none_begun front (p ∷ ps) all =
      let P : LimitHolding S R → Type 0 = λ x. x.pass.key ≡ front_key front in
      let here : p.pass.key.begun ≡ 0 = ap (λ (k : PassKey S R). k.begun) (All-head P p ps all) in
      omega (arith, here, none_begun front ps (All-tail P p ps all), sum_by-cons (λ (x : LimitHolding S R). x.pass.key.begun) p ps)

module _ {S R : Type 0} (shown : S → Shown) (cmp : R → R → Ordering) (record_of : List ℕ → R) (width : ℕ) (q : BulkParts S R) (popped : ℕ) (failed : Option ℕ) (front : FrontHolding S R) (t : IsTakenApart shown cmp record_of width q popped failed front) where
  pub can_room : CanMakeRoom shown width q popped failed
  can_room = record { out = t.out; tallied = t.tallied; room = λ none. front_room shown cmp record_of width q popped failed front.limit t.out t.tallied (t.sound none) }

  module _ (q2 : BulkParts S R) (r : HasMadeRoom shown width q failed q2) where
    -- what it shows stays, with whatever idle buffers
    by_idle : {X : Type 0} (f : BulkParts S R → X) → f (emptied r.idle q) ≡ f q → (q2 ≡ q) ⊎ (q2 ≡ emptied r.idle q) → f q2 ≡ f q
    by_idle f same (inl e) = ap f e
    by_idle f same (inr e) = ap f e ∙ same

    keeps_idle : (P : BulkParts S R → Type 0) → (P q → P (emptied r.idle q)) → P q → (q2 ≡ q) ⊎ (q2 ≡ emptied r.idle q) → P q2
    keeps_idle P same is (inl e) = subst P (sym e) is
    keeps_idle P same is (inr e) = subst P (sym e) (same is)

    pub front_stays : staying shown record_of width q2 popped failed ≡ of_front front
    front_stays =
        let limited = ap (λ l. let s : Staying R = record (staying shown record_of width q popped failed) { limited = l } in s) t.tallied.limited in
        by_idle (λ p. staying shown record_of width p popped failed) refl r.is ∙ limited ∙ ap of_front t.shows

    module _ (passes : List (LimitHolding S R)) (are : AreLimited front passes) (shared : Shared S R) (is_shared : shared ≡ shared_of front) where
      of : AreLimited (front_holding shown record_of width q front.limit popped failed) passes
      of = subst (λ (f : FrontHolding S R). AreLimited f passes) (sym t.shows) are

      keys : All (λ (p : PassHolding S R). p.key ≡ apart_key q p.key.begun) (passes_of passes)
      keys = All-map (λ (p : PassHolding S R). p.key ≡ apart_key q p.key.begun) pass_in passes (λ k d h. (let e = of.keys k d h in e ∙ ap (λ b. apart_key q b) (sym (ap (λ (x : PassKey S R). x.begun) e))))

      pub front_back : CanBring shown width shared q2 failed (passes_of passes)
      front_back =
          record {
            apart = r.apart;
            count = length-map passes pass_in ∙ of.count ∙ sym (by_idle (λ p. p.sizes.workers) refl r.is);
            of = subst (λ (key : ℕ → PassKey S R). All (λ (p : PassHolding S R). p.key ≡ key p.key.begun) (passes_of passes)) (sym (by_idle (λ p. apart_key p) refl r.is)) keys;
            row = by_idle (λ p. p.row_seat.row) refl r.is ∙ ap (λ (f : FrontHolding S R). f.row) t.shows ∙ sym (ap (λ (s : Shared S R). s.row) is_shared);
            pool = by_idle (λ p. p.pool_seat.pool) refl r.is ∙ ap (λ (f : FrontHolding S R). f.pool) t.shows ∙ sym (ap (λ (s : Shared S R). s.pool) is_shared);
          }

      -- all passes can come back
      pub front_can : IsTotalOrder cmp → All (λ (p : LimitHolding S R). IsLimited shown cmp p.limit p.pass) passes → CanEnd shown cmp record_of width shared q2 popped failed (passes_of passes)
      front_can o limited =
          let begun = sum_by (λ (p : PassHolding S R). p.key.begun) (passes_of passes) in
          let none_had : begun ≡ 0 = sum-mapped pass_in (λ p. p.key.begun) passes ∙ none_begun (front_holding shown record_of width q front.limit popped failed) passes of.keys in
          record {
            back = front_back;
            sound = λ none.
                subst (λ (x : BulkParts S R). IsSoundApart shown cmp record_of width x begun popped) (sym (r.same none))
                (front_sound shown cmp record_of width q popped failed front.limit t.out t.tallied (t.sound none) begun none_had);
            before = λ none.
                subst (λ (x : BulkParts S R). All (GoesBefore shown cmp x) (passes_of passes)) (sym (r.same none))
                (All-map (GoesBefore shown cmp q) pass_in passes (λ k d h.
                front_before shown cmp record_of width q popped failed front.limit t.out t.tallied (t.sound none) o _ (of.limits k d h) (ap (λ (x : PassKey S R). x.items) (of.keys k d h)) (limited k d h)));
            paid = keeps_idle (λ p. IsCountedApart shown p begun failed) (λ is. is) (subst (λ k. IsCountedApart shown q k failed) (sym none_had) t.tallied.paid) r.is;
          }

module _ {S R : Type 0} (shown : S → Shown) (cmp : R → R → Ordering) (record_of : List ℕ → R) (width : ℕ) (q : BulkParts S R) (is : IsBulk shown cmp record_of width q) where
  abbrev held : BulkHolding S R
  held = bulk_holding shown record_of width q

  -- no record is in the extract buffer, no slot is free, and no job is there
  stays : staying shown record_of width q 0 None ≡ of_bulk held
  stays =
      let stay : List R → List Shown → Staying R = λ bag slots. record { bag = bag; size = q.count; popped = 0; sizes = q.sizes; peak = q.peak; limited = q.limited; slots = slots; failed = None; counts = q.counts } in
      ap₂ stay (ap (λ l. l ++ runs_bag shown record_of width q.body) is.no_extract) (bare_slots shown q is.supply.kept is.apart.out.no_job)

  module _ (b : BulkHolding S R) (shows : held ≡ b) where
    pub bulk_stays : staying shown record_of width q 0 None ≡ of_bulk b
    bulk_stays = stays ∙ ap of_bulk shows

    -- all passes can come back
    pub bulk_can : (ps : List (PassHolding S R)) → AreOf b (keys_of ps) → (shared : Shared S R) → shared ≡ shared_by b → CanEnd shown cmp record_of width shared q 0 None ps
    bulk_can ps are shared is_shared =
        let of = subst (λ x. AreOf x (keys_of ps)) (sym shows) are in
        let key : PassHolding S R → PassKey S R = λ p. p.key in
        let begun : sum_by (λ (p : PassHolding S R). p.key.begun) ps + count_of q.body ≡ q.count = omega (arith, sum-mapped key (λ (k : PassKey S R). k.begun) ps, of.begun, is.counted) in
        let all : q.count - count_of q.body ≡ sum_by (λ (p : PassHolding S R). p.key.begun) ps = omega (arith, begun) in
        record {
          back = record {
            apart = is.apart;
            count = sym (length-map ps key) ∙ of.count;
            of = all_mapped key (λ (k : PassKey S R). k ≡ pass_key held k.begun) ps of.each;
            row = ap (λ (x : BulkHolding S R). x.row) shows ∙ sym (ap (λ (s : Shared S R). s.row) is_shared);
            pool = ap (λ (x : BulkHolding S R). x.pool) shows ∙ sym (ap (λ (s : Shared S R). s.pool) is_shared);
          };
          sound = λ none. subst (λ n. IsSoundApart shown cmp record_of width q n 0) all is.sound;
          before = λ none k d h tell fine. none_first cmp q.extract.items _ is.no_extract;
          paid = subst (λ n. IsCountedApart shown q n None) all is.paid;
        }
