-- A queue whose extract buffer is empty is handed out: what a session has when it begins.
use Rattle.std.proofs.Common.{◌≡◌, ℕ, ◌*◌, ◌<◌, ◌≤◌, List, [], ◌∷◌, ◌++◌, length, All, refl, sym, ap, ap₂, ◌∙◌, subst, arith, append-nil, ◌+◌, ◌-◌, length-append, Option, None}
use Rattle.std.proofs.Math.Nat.{add-mul, mul-le-mul_right}
use Rattle.std.specs.Prelude.{Vec, vec_capacity, count_by}
use Rattle.std.specs.Global.{Global}
use Rattle.std.specs.declared.cmp.Ordering.{Ordering}
use Rattle.std.proofs.lemmas.List.{length-map, nil_from_length}
use Rattle.std.proofs.lemmas.List.Elements.{All-map, All-tail}
use Rattle.atomic_table.specs.Seated.{TableId}
use Rattle.ppq_pass.proofs.ppq_record.Order.{IsSameBag-trans, IsSameBag-append, IsSameBag-append_comm}
use Rattle.ppq_pass.specs.ppq_outside.Shown.{Shown, AllTell, Tells}
use Rattle.ppq_pass.specs.ppq_budget.Sizes.{pool_of, lane_buffers}
use Rattle.ppq_pass.specs.ppq_block.Block.{Block}
use Rattle.ppq_pass.specs.ppq_tree.Tree.{Leaves}
use Rattle.ppq_pass.specs.ppq_heap.Heap.{Contents}
use Rattle.ppq_pass.specs.ppq_heap.Heaps.{items_of}
use Rattle.ppq_pass.specs.ppq_array.declared.berth.DeviceBlock.{DeviceBlock}
use Rattle.ppq_pass.specs.ppq_array.Owner.{slots_shown, HasSlot, HasBlock}
use Rattle.ppq_pass.specs.ppq_array.Holdings.{internal_buffers, external_slots, external_buffers}
use Rattle.ppq_pass.specs.ppq_fetch.Fetching.{blocks_in}
use Rattle.ppq_pass.specs.ppq_fetch.Taking.{NoneAfter}
use Rattle.ppq_pass.specs.ppq_record.Order.{Ascends}
use Rattle.ppq_pass.proofs.ppq_spill.Keeping.{slots_long}
use Rattle.ppq_queue.proofs.Amounts.{stored_slots, internal_count, runs_fit, arrays_fit}
use Rattle.ppq_queue.proofs.Odd.{arrays_full}
use Rattle.ppq_pass.specs.ppq_spill.Body.{job_slots}
use Rattle.ppq_pass.specs.ppq_row.declared.hand.Hand.{Hand as RowHand}
use Rattle.ppq_pass.specs.ppq_pool.declared.hand.Hand.{Hand as PoolHand}
use Rattle.ppq_pass.specs.ppq_pool.Seats.{count_of as pool_count}
use Rattle.ppq_pass.specs.Passed.{PassKey, PassHolding}
use Rattle.ppq_pass.specs.declared.shared.PoolBuf.{PoolBuf}
use Rattle.ppq_pass.specs.declared.shared.Shared.{Shared}
use Rattle.ppq_queue.specs.Resting.{AtRest, IsRestingRun, IsRestingArray, slots_of, runs_bag, count_of, odd_in}
use Rattle.ppq_queue.specs.State.{IsSound}
use Rattle.ppq_queue.specs.declared.queue_parts.QueueParts.{QueueParts}
use Rattle.ppq_session.specs.BulkSession.{BulkHolding, AreOf, keys_of, bag_of, pass_key}
use Rattle.ppq_pass.specs.ppq_counts.Account.{IsCountedBeside}
use Rattle.ppq_pass.proofs.ppq_counts.Counted.{beside-counted, beside-sound}
use Rattle.ppq_pass.specs.ppq_spill.Costing.{body_account}
use Rattle.ppq_queue.specs.Paying.{runs_account}
use Rattle.ppq_session.specs.Apart.{apart_slots, in_runs, IsCountedApart}
use Rattle.ppq_session.specs.State.{IsBulk, IsBare, bulk_holding, bulk_slots}
use Rattle.ppq_session.specs.Opened.{IsOpened, HandedOut}
use Rattle.ppq_session.specs.Equipped.{Equipped, MayEquip, ArePasses, session_key}
use Rattle.ppq_session.specs.declared.share.FirstSeats.{FirstSeats}
use Rattle.ppq_session.specs.declared.parts.BulkParts.{BulkParts}
use Rattle.ppq_session.specs.declared.brought.Brought.{Brought}
use Rattle.ppq_session.proofs.Mapped.{sum-mapped}
use Rattle.ppq_session.proofs.Equipping.{bag_same, begun_same, first_same}
use Rattle.ppq_pass.specs.ppq_record.Bag.{IsSameBag}
use Rattle.ppq_pass.specs.ppq_array.Supply.{Stock}
use Rattle.ppq_pass.specs.ppq_array.Kept.{all_overreads}
use Rattle.ppq_queue.specs.Holding.{Holding}
use Rattle.ppq_queue.specs.Handed.{IsWhole, holding_of}
use Rattle.ppq_session.specs.Shares.{bare, IsFirst}

-- the parts of a bulk: those of the queue, with what is left of lanes and seats
abbrev pub opened_parts : {S R : Type 0} → QueueParts S R → FirstSeats S R → Vec (Contents R) Global → Leaves R → List (Block R) → Vec (Brought S R) Global → BulkParts S R
opened_parts p s heaps tree idle brought =
    record {
      sizes = p.sizes;
      heaps = heaps;
      tree = tree;
      body = record p.body { lanes = record p.body.lanes { idle = idle } };
      supply = p.supply;
      extract = p.extract;
      sources = p.sources;
      count = p.count;
      peak = p.peak;
      limited = p.limited;
      counts = p.counts;
      slots = p.slots;
      row_seat = s.row_seat;
      pool_seat = s.pool_seat;
      brought = brought;
    }

-- of two lists of slots the second tells
tell_right : (xs ys : List Shown) → AllTell (xs ++ ys) → AllTell ys
tell_right [] ys a = a
tell_right (x ∷ xs) ys a = tell_right xs ys (All-tail Tells x (xs ++ ys) a)

-- no record of an empty list is after another
pub none_first : {R : Type 0} (cmp : R → R → Ordering) (xs ys : List R) → xs ≡ [] → NoneAfter cmp xs ys
none_first cmp [] ys e = tt
none_first cmp (x ∷ xs) ys e = absurd (cc)

-- where no slot is free and no job is there, all slots are those of the runs and those in the row
pub bare_slots : {S R : Type 0} (shown : S → Shown) (q : BulkParts S R) → q.supply.kept ≡ [] → q.body.lanes.jobs.items ≡ [] → apart_slots shown q ≡ bulk_slots shown q
bare_slots shown q kept no_job =
    let ext = external_slots shown q.body.runs.external.items in
    let row = slots_shown shown q.row_seat.hand.items in
    ap (λ k. (ext ++ job_slots shown q.body.lanes.jobs.items) ++ k ++ row) kept
    ∙ ap (λ l. l ++ row) (append-nil (ext ++ job_slots shown q.body.lanes.jobs.items) ∙ ap (λ j. ext ++ job_slots shown j) no_job ∙ append-nil ext)

module _ {S R : Type 0} (shown : S → Shown) (width : ℕ) (q : BulkParts S R) (external : All (IsRestingArray shown width q.sizes.block) q.body.runs.external.items) (slots : length (bulk_slots shown q) ≡ q.sizes.blocks) (none : q.extract.items ≡ []) where
  -- the blocks that are not in the row are those of the runs
  stored_are : blocks_in q.body.runs.external.items + length q.row_seat.hand.items ≡ q.sizes.blocks
  stored_are =
      let arrays = q.body.runs.external.items in
      omega (arith, slots, length-append (external_slots shown arrays) (slots_shown shown q.row_seat.hand.items), stored_slots shown arrays, slots_long shown q.row_seat.hand.items)

  -- so they are packed with the records of the runs
  pub packed_runs : odd_in q.sizes.block q.body.runs.external.items ≤ 65 → (q.sizes.blocks - length q.row_seat.hand.items) * q.sizes.block ≤ in_runs q + 0 + 65 * q.sizes.block
  packed_runs few =
      let block = q.sizes.block in
      let arrays = q.body.runs.external.items in
      let out : q.sizes.blocks - length q.row_seat.hand.items ≡ blocks_in arrays = omega (arith, stored_are) in
      let odd : odd_in block arrays * block ≤ 65 * block = mul-le-mul_right block few in
      omega (arith, ap (λ m. m * block) out, arrays_full block shown width arrays external, odd, ap length none)

  -- and all records fit into them and the buffers that are not out
  pub fit_runs :
      All (IsRestingRun q.sizes.block) q.body.runs.internal.items
      → internal_buffers q.body.runs.internal.items + external_buffers q.body.runs.external.items + length q.body.lanes.idle + 2 * q.sizes.workers + pool_count q.pool_seat.pool ≡ lane_buffers q.sizes + pool_of q.sizes
      → in_runs q + 0 + (length q.row_seat.hand.items + pool_count q.pool_seat.pool + 2 * q.sizes.workers) * q.sizes.block ≤ (q.sizes.blocks + lane_buffers q.sizes + pool_of q.sizes) * q.sizes.block
  fit_runs internal held =
      let block = q.sizes.block in
      let runs = q.body.runs.internal.items in
      let arrays = q.body.runs.external.items in
      let out = length q.row_seat.hand.items + pool_count q.pool_seat.pool + 2 * q.sizes.workers in
      let i = internal_buffers runs in
      let e = external_buffers arrays in
      let k = blocks_in arrays in
      let few : i + e + k + out ≤ q.sizes.blocks + lane_buffers q.sizes + pool_of q.sizes = omega (arith, stored_are, held) in
      let most : (i + e + k + out) * block ≤ (q.sizes.blocks + lane_buffers q.sizes + pool_of q.sizes) * block = mul-le-mul_right block few in
      omega (arith, ap length none, most, add-mul (i + e + k) out block, add-mul (i + e) k block, add-mul i e block, runs_fit block runs internal, internal_count runs, arrays_fit shown width block arrays external)

module _ {S R : Type 0} (shown : S → Shown) (cmp : R → R → Ordering) (record_of : List ℕ → R) (width : ℕ) where
  -- there is enough for a pass for each worker
  pub may_equip : (queue : Holding R) (p : QueueParts S R) (s : FirstSeats S R) → IsOpened shown cmp record_of width queue p s → MayEquip shown width p.sizes p.sizes.workers p.body.lanes.idle s
  may_equip queue p s o =
      let r = (o.whole.sound o.sound).rest in
      let range = o.whole.queue.range in
      let count : pool_count s.pool_seat.pool ≡ o.before.sure_buffers = ap pool_count o.first.pool.pool_is ∙ o.first.pool.count_is in
      record {
        buffers = omega (arith, r.buffers, r.bounded, r.fronts);
        blocks = subst (λ b. All (HasBlock b) p.body.lanes.idle) r.block r.idle;
        row = o.first.row.row_is;
        row_shares = omega (arith, range.workers, o.first.row.shares);
        undrawn = o.first.row.undrawn;
        few_slots = omega (arith, r.slots, ap length o.first.row.items, length-map s.row_seat.hand.items (λ (b : DeviceBlock S R). shown b.slot));
        bytes = subst (λ b. All (HasSlot shown (b * width)) s.row_seat.hand.items) r.block o.first.row.bytes;
        pool = o.first.pool.pool_is;
        pool_shares = omega (arith, range.workers, o.first.pool.shares);
        untaken = o.first.pool.untaken;
        shape = λ some. o.first.pool.shape (subst (λ t. 0 < pool_count t) o.first.pool.pool_is some) ∙ r.block;
        few_buffers = omega (arith, count, r.pool);
      }

  module _ (queue : Holding R) (p : QueueParts S R) (s s' : FirstSeats S R) (idle : List (Block R)) (heaps : Vec (Contents R) Global) (tree : Leaves R) (brought : Vec (Brought S R) Global) (o : IsOpened shown cmp record_of width queue p s)
      (e : Equipped p.sizes p.sizes.workers p.body.lanes.idle idle s s') where
    rest : AtRest shown cmp record_of width p.sizes p.body o.before
    rest = (o.whole.sound o.sound).rest

    items_same : s'.row_seat.hand.items ≡ s.row_seat.hand.items
    items_same = ap (λ (h : RowHand (DeviceBlock S R)). h.items) e.row_hand

    slots_same : bulk_slots shown (opened_parts p s' heaps tree idle brought) ≡ slots_of shown p.body o.before
    slots_same =
        let x = external_slots shown p.body.runs.external.items in
        ap₂ (λ (a b : List Shown). a ++ b) (sym (append-nil x) ∙ ap (λ j. x ++ job_slots shown j) (sym rest.no_job)) (ap (slots_shown shown) items_same ∙ o.first.row.items)

    pool_same : s'.pool_seat.pool ≡ s.shared.pool
    pool_same = e.pool ∙ o.first.pool.pool_is

    count_same : pool_count s'.pool_seat.pool ≡ o.before.sure_buffers
    count_same = ap pool_count pool_same ∙ o.first.pool.count_is

    -- the buffers that stay, those of the passes and those of the pool are all
    held_all : internal_buffers p.body.runs.internal.items + external_buffers p.body.runs.external.items + length idle + 2 * p.sizes.workers + pool_count s'.pool_seat.pool ≡ lane_buffers p.sizes + pool_of p.sizes
    held_all = omega (arith, rest.held, rest.pool, e.buffers, count_same)

    internal_rest : All (IsRestingRun p.sizes.block) p.body.runs.internal.items
    internal_rest = subst (λ b. All (IsRestingRun b) p.body.runs.internal.items) rest.block rest.internal

    external_rest : All (IsRestingArray shown width p.sizes.block) p.body.runs.external.items
    external_rest = subst (λ b. All (IsRestingArray shown width b) p.body.runs.external.items) rest.block rest.external

    few_odd : odd_in p.sizes.block p.body.runs.external.items ≤ 65
    few_odd = subst (λ b. odd_in b p.body.runs.external.items ≤ 65) rest.block rest.few

    all_slots : length (bulk_slots shown (opened_parts p s' heaps tree idle brought)) ≡ p.sizes.blocks
    all_slots = ap length slots_same ∙ o.whole.queue.slots

    supply_bare : IsBare p.sizes.block p.sizes.blocks (pool_of p.sizes) p.supply
    supply_bare =
        let r = rest in
        record {
          block = ap (λ t. t.block) o.out ∙ r.block;
          kept = ap (λ t. t.kept) o.out;
          drawn = ap (λ t. t.drawn) o.out ∙ o.whole.queue.no_row;
          slot_room = omega (arith, ap (λ t. t.slot_room) o.out, r.slots);
          sure = ap (λ t. t.sure_buffers) o.out;
          buffer_room = omega (arith, ap (λ t. t.buffer_room) o.out, r.pool);
        }

    -- the numbers of the queue pay for the parts, and for the records of its heaps
    paid_apart : (begun : ℕ) → length (items_of p.heaps) ≡ begun → apart_slots shown (opened_parts p s' heaps tree idle brought) ≡ slots_of shown p.body o.before → IsCountedApart shown (opened_parts p s' heaps tree idle brought) begun None
    paid_apart begun e slots =
        let beside_heaps = subst (λ k. IsCountedBeside p.sizes.workers p.sizes.block k (p.failed ≡ None) p.counts (runs_account shown p.sizes p.body o.before)) e (beside-counted o.sound o.whole.counted) in
        subst (λ l. IsCountedBeside p.sizes.workers p.sizes.block begun (◌≡◌ {A = Option ℕ} None None) p.counts (body_account p.sizes.block l p.body)) (sym slots) (beside-sound (λ _. o.sound) beside_heaps)

    pub is_bulk : heaps.items ≡ [] → p.sizes.workers ≤ vec_capacity heaps → length tree.items ≡ p.sizes.workers → brought.items ≡ [] → p.sizes.workers ≤ vec_capacity brought → IsBulk shown cmp record_of width (opened_parts p s' heaps tree idle brought)
    is_bulk none room leaves empty many =
        let w = o.whole.queue in
        let so : IsSound shown cmp record_of width p.sizes p.heaps p.extract p.body o.before p.sources p.count p.peak p.limited = o.whole.sound o.sound in
        let q = opened_parts p s' heaps tree idle brought in
        let bare = supply_bare in
        let same = bare_slots shown q bare.kept rest.no_job in
        record {
          apart = record {
            out = record {
              home = record {
                range = w.range;
                budget = w.budget;
                no_heap = none;
                heaps_room = room;
                heaps_leaves = leaves;
                row_shares = e.row_shares ∙ o.first.row.shares;
                undrawn = ap (λ (h : RowHand (DeviceBlock S R)). h.places) e.row_hand ∙ o.first.row.undrawn;
                bytes = subst (λ b. All (HasSlot shown (b * width)) s'.row_seat.hand.items) rest.block (subst (All (HasSlot shown (o.before.block * width))) (sym items_same) o.first.row.bytes);
                pool_shares = e.pool_shares ∙ o.first.pool.shares;
                untaken = ap (λ (h : PoolHand (PoolBuf R)). h.numbers) e.pool_hand ∙ o.first.pool.untaken;
                shape = λ some. ap (λ (h : PoolHand (PoolBuf R)). h.shape) e.pool_hand ∙ o.first.pool.shape (subst (λ t. 0 < pool_count t) pool_same some) ∙ rest.block;
                pooled = omega (arith, count_same, rest.pool);
                no_slot = o.whole.no_slot;
                slots_room = o.whole.slots_room;
                none_brought = empty;
                brought_room = many;
                most = w.most;
              };
              room = w.room;
              in_extract = omega (arith, ap length o.extract);
              no_job = rest.no_job;
              held = omega (arith, held_all, bare.buffer_room, ap length rest.no_job);
              pool = omega (arith, bare.sure, bare.buffer_room);
              slots = ap length same ∙ all_slots;
              overreads = ap all_overreads (same ∙ slots_same) ∙ w.overreads;
              slot_room = omega (arith, ap length bare.kept, bare.slot_room);
              block = bare.block;
              no_row = bare.drawn;
              workers = so.workers;
              serves = so.serves;
            };
            fits = omega (arith, held_all, rest.buffers, e.buffers, bare.buffer_room);
            most_count = w.most_count;
            fault = λ number e. absurd (cc);
          };
          sound = record {
            idle = e.blocks;
            internal = internal_rest;
            external = external_rest;
            batch = rest.batch ∙ ap (λ b. p.sizes.workers * b) rest.block;
            buffers = omega (arith, rest.buffers, e.buffers);
            bounded = rest.bounded;
            fronts = rest.fronts;
            few = few_odd;
            internal_room = rest.internal_room;
            external_room = rest.external_room;
            leaves = rest.leaves;
            rise = λ t. let up = rest.rise (subst AllTell (same ∙ slots_same) t) in record { internal = up.internal; external = up.external };
            counted = omega (arith, so.counted, ap length o.extract);
            above = λ some. so.above (omega (arith, so.counted, some, ap length o.extract));
            ascends = λ tell. subst (Ascends cmp) (sym o.extract) tt;
            order = λ tell. none_first cmp p.extract.items (runs_bag shown record_of width p.body) o.extract;
            packed = packed_runs shown width q external_rest all_slots o.extract few_odd;
            fit = fit_runs shown width q external_rest all_slots o.extract internal_rest held_all;
          };
          no_extract = o.extract;
          supply = bare;
          counted = omega (arith, so.counted);
          least = w.counted;
          paid = paid_apart (q.count - count_of p.body) (omega (arith, so.counted, ap length o.extract)) (same ∙ slots_same);
        }

    abbrev held : BulkHolding S R
    held = bulk_holding shown record_of width (opened_parts p s' heaps tree idle brought)

    same_key : (begun : ℕ) → session_key p.sizes s begun ≡ pass_key held begun
    same_key begun =
        let key : TableId → TableId → List (DeviceBlock S R) → PassKey S R = λ row pool items.
        record { row = row; pool = pool; items = items; row_shares = 1; pool_shares = 1; sizes = p.sizes; begun = begun }
        in
        ap (λ row. key row s.pool_seat.pool s.row_seat.hand.items) (sym e.row) ∙ ap (λ pool. key s'.row_seat.row pool s.row_seat.hand.items) (sym e.pool) ∙ ap (λ items. key s'.row_seat.row s'.pool_seat.pool items) (sym items_same)

    are_of : (passes : List (PassHolding S R)) → ArePasses p.sizes p.heaps.heaps s passes → AreOf held (keys_of passes)
    are_of passes a =
        let so = o.whole.sound o.sound in
        record {
          count = length-map passes (λ (x : PassHolding S R). x.key) ∙ a.count ∙ o.whole.queue.shares;
          each = All-map (λ (k : PassKey S R). k ≡ pass_key held k.begun) (λ (x : PassHolding S R). x.key) passes (λ k d h. a.keys k d h ∙ same_key _);
          begun = omega (arith, sum-mapped (λ (x : PassHolding S R). x.key) (λ (k : PassKey S R). k.begun) passes, begun_same passes a.whole, ap length (bag_same passes p.heaps.heaps a.bags), so.counted, ap length o.extract);
        }

    pub handed_out : (passes : List (PassHolding S R)) (bulk : BulkHolding S R) → bulk ≡ held → ArePasses p.sizes p.heaps.heaps s passes → HandedOut shown queue bulk s'.shared passes
    handed_out passes bulk is a =
        let runs = runs_bag shown record_of width p.body in
        let heaps = items_of p.heaps in
        let share : TableId → TableId → Shared S R = λ row pool. record { row = row; pool = pool } in
        let slots = slots_same ∙ ap (λ h. h.slots) o.shows in
        let all : heaps ++ runs ≡ queue.bag = ap (λ l. l ++ runs) (sym (append-nil heaps) ∙ ap (λ l. heaps ++ l) (sym o.extract)) ∙ ap (λ h. h.bag) o.shows in
        let begun : held.begun ≡ length heaps = (let so = o.whole.sound o.sound in omega (arith, so.counted, ap length o.extract)) in
        subst (λ b. HandedOut shown queue b s'.shared passes) (sym is) (record {
          of = are_of passes a;
          shared_is = e.shared ∙ ap₂ share (sym o.first.row.row_is ∙ sym e.row) (sym o.first.pool.pool_is ∙ sym e.pool);
          fresh = a.fresh;
          no_slots = a.slots;
          whole = a.whole;
          begun = begun ∙ ap (λ h. h.in_heap) o.shows;
          first = first_same passes p.heaps.heaps a.whole a.bags ∙ ap (λ h. h.in_first) o.shows;
          runs = ap (λ h. h.runs) o.shows;
          buffers = held_all;
          pool = omega (arith, rest.held, rest.buffers, rest.pool, count_same);
          idle = count_same ∙ ap (λ h. h.idle) o.shows;
          bag = subst (IsSameBag (runs ++ bag_of passes)) all
              (IsSameBag-trans (runs ++ bag_of passes) (bag_of passes ++ runs) (heaps ++ runs) (IsSameBag-append_comm runs (bag_of passes)) (IsSameBag-append (bag_of passes) heaps runs runs (λ t. ap (count_by t) (bag_same passes p.heaps.heaps a.bags)) (λ t. refl)));
          slots = slots;
          items = λ tell. tell_right (external_slots shown p.body.runs.external.items) (slots_shown shown s'.row_seat.hand.items) (subst AllTell (sym slots) tell);
          size = ap (λ h. h.size) o.shows;
          peak = ap (λ h. h.peak) o.shows;
          limited = ap (λ h. h.limited) o.shows;
          sizes = ap (λ h. h.sizes) o.shows;
          counts = ap (λ h. h.counts) o.shows;
        })

module _ {S R : Type 0} (shown : S → Shown) (cmp : R → R → Ordering) (record_of : List ℕ → R) (width : ℕ) (p : QueueParts S R) (q : Holding R) (shows : holding_of shown record_of width p ≡ q) where
  no_extract : q.in_extract ≡ 0 → p.extract.items ≡ []
  no_extract e = nil_from_length p.extract.items (ap (λ h. h.in_extract) shows ∙ e)

  -- the free slots and the idle buffers are out
  pub opens : IsWhole shown cmp record_of width p → q.failed ≡ None → q.in_extract ≡ 0 → (supply : Stock) (s : FirstSeats S R) → supply ≡ bare p.supply → IsFirst shown width p.supply s → IsOpened shown cmp record_of width q (record p { supply = supply }) s
  opens whole sound empty supply s out first =
      record {
        before = p.supply;
        out = out;
        first = first;
        whole = whole;
        shows = shows;
        sound = ap (λ h. h.failed) shows ∙ sound;
        extract = no_extract empty;
      }

  -- with a supply as it was they make the queue again
  pub whole_again : IsWhole shown cmp record_of width p → (supply : Stock) → supply ≡ p.supply → IsWhole shown cmp record_of width (record p { supply = supply })
  whole_again whole supply back = subst (λ (s : Stock). IsWhole shown cmp record_of width (record p { supply = s })) (sym back) whole

  pub shows_again : (supply : Stock) → supply ≡ p.supply → holding_of shown record_of width (record p { supply = supply }) ≡ q
  shows_again supply back = ap (λ (s : Stock). holding_of shown record_of width (record p { supply = s })) back ∙ shows
