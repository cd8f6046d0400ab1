-- All passes of a session came: its row and pool can be closed, the passes can be put in, and what the queue has then.
use Rattle.std.proofs.Common.{◌≡◌, ℕ, ◌*◌, ◌+◌, ◌<◌, ◌≤◌, true, List, [], ◌++◌, length, map, max, min, reverse, sum_by, All, None, refl, sym, ap, ap₂, ◌∙◌, subst, arith, append-nil, Option, length-append}
use Rattle.std.specs.Prelude.{flat_map, count_by, Option, Some, Result, Ok, Err}
use Rattle.std.specs.List.{Any}
use Rattle.std.specs.declared.cmp.Ordering.{Ordering}
use Rattle.std.specs.Option.{option_or}
use Rattle.std.proofs.lemmas.Nat.{mul-le}
use Rattle.std.proofs.lemmas.List.{length-map, length-reverse, reverse-reverse}
use Rattle.std.proofs.lemmas.List.Sums.{sum_by-append}
use Rattle.std.proofs.lemmas.List.Elements.{All-map}
use Rattle.std.proofs.lemmas.List.Folds.{flat_map-map}
use Rattle.std.proofs.lemmas.List.Sorted.{All-permutation, IsPermutation-reverse, IsPermutation-sym, sum_by-IsPermutation}
use Rattle.ppq_pass.specs.ppq_record.Bag.{IsSameBag}
use Rattle.ppq_pass.proofs.ppq_record.Order.{count_by-append}
use Rattle.ppq_pass.specs.ppq_outside.Shown.{Shown, AllTell}
use Rattle.ppq_pass.specs.ppq_heap.Heaps.{items_in}
use Rattle.ppq_pass.specs.ppq_array.declared.berth.DeviceBlock.{DeviceBlock}
use Rattle.ppq_pass.specs.ppq_array.Owner.{slots_shown, HasSlot}
use Rattle.ppq_pass.specs.ppq_array.Kept.{SameSlots, AreQuiet, HasFailed, weight_at, all_faults, all_writes}
use Rattle.ppq_pass.proofs.ppq_spill.SameSlots.{SameSlots-trans}
use Rattle.ppq_pass.specs.Passed.{PassKey, PassHolding, PassTells, slots_of as pass_slots}
use Rattle.ppq_pass.specs.ppq_budget.Sizes.{heap_of, room_of}
use Rattle.ppq_pass.specs.ppq_counts.Tally.{tally, joined}
use Rattle.ppq_queue.specs.Holding.{Holding, IsRefusal, SameRecords, Stays, CountsAs}
use Rattle.ppq_pass.specs.ppq_array.declared.store_fault.StoreFault.{StoreFault as QueueFault}
use Rattle.ppq_pass.specs.ppq_array.declared.store_fault.StoreFault.TheVariants.{NoFreeBlock, Device}
use Rattle.ppq_session.specs.declared.fault.SessionEnd.{SessionEnd}
use Rattle.ppq_session.specs.declared.fault.SessionEnd.TheVariants.{Whole, Stopped}
use Rattle.ppq_queue.specs.Slots.{SameSums}
use Rattle.ppq_queue.specs.Resting.{slots_of, runs_bag}
use Rattle.ppq_pass.proofs.ppq_spill.Telling.{tell_moved}
use Rattle.ppq_queue.proofs.Slots.{slots-sums}
use Rattle.ppq_session.specs.Ends.{Staying, HasAll, EndsWith, SessionEnded, bag_of, accepted_of, first_some, first_fault}
use Rattle.ppq_session.specs.Counting.{stores_of, tally_with}
use Rattle.ppq_session.proofs.Counted.{counts-some}
use Rattle.ppq_session.specs.Apart.{IsSoundApart, IsCountedApart, GoesBefore, CanBring, CanEnd, apart_slots, staying, IsApart}
use Rattle.ppq_pass.specs.declared.shared.Shared.{Shared}
use Rattle.ppq_session.specs.declared.parts.BulkParts.{BulkParts}
use Rattle.ppq_session.specs.Passes.{pass_of}
use Rattle.ppq_session.specs.Gathering.{IsGathered, MayGather, Gathers, IsMade, gathered_bag, slots_in, accepted_in, heaps_in, counts_with}
use Rattle.ppq_session.specs.declared.brought.Brought.{Brought}
use Rattle.ppq_session.specs.declared.closed.Closed.{Closed}
use Rattle.ppq_session.specs.Bringing.{MayBring, BroughtAll}
use Rattle.ppq_session.specs.Closing.{MayClose, IsClosed}
use Rattle.ppq_session.proofs.Gathered.{count-flat}
use Rattle.ppq_session.proofs.Mapped.{sum-mapped}
use Rattle.ppq_session.proofs.Equipping.{all_turned}
use Rattle.ppq_session.proofs.Faults.{first-says, map-turned, part-within}
use Rattle.ppq_session.proofs.PutIn.{or_none}
use Rattle.ppq_session.proofs.FirstGathered.{gathered-first, closed, closed_is, same_now, writes_now, quiet_now, told_now}
use Rattle.ppq_session.proofs.ShortOfBlocks.{short, load_within}
use Rattle.ppq_pass.proofs.ppq_spill.Keeping.{slots_long}
use Rattle.ppq_pass.specs.ppq_pool.Seats.{count_of}
use Rattle.ppq_pass.specs.ppq_spill.Body.{body_slots}

module _ {S R : Type 0} (shown : S → Shown) (cmp : R → R → Ordering) (record_of : List ℕ → R) (width : ℕ) (q : BulkParts S R) (failed : Option ℕ) (is : IsApart shown width q failed) (q1 : BulkParts S R) (passes : List (PassHolding S R)) (br : BroughtAll shown record_of width q.sizes cmp passes q q1) where
  same_supply : q1.supply ≡ q.supply
  same_supply = ap (λ p. p.supply) br.rest

  same_count : count_of q1.pool_seat.pool ≡ count_of q.pool_seat.pool
  same_count = ap count_of br.pool

  one_block : q1.supply.block ≡ q.sizes.block
  one_block = ap (λ s. s.block) same_supply ∙ is.out.block

  slots_few : length q1.row_seat.hand.items ≤ q1.supply.slot_room
  slots_few =
      let items = slots_shown shown q.row_seat.hand.items in
      omega (
        arith,
        ap length br.row_items,
        ap (λ s. s.slot_room) same_supply,
        is.out.slots,
        is.out.slot_room,
        length-append (slots_of shown q.body q.supply) items,
        length-append (body_slots shown q.body) q.supply.kept,
        slots_long shown q.row_seat.hand.items,
      )

  all_bytes : All (HasSlot shown (q1.supply.block * width)) q1.row_seat.hand.items
  all_bytes =
      subst (λ b. All (HasSlot shown (b * width)) q1.row_seat.hand.items) (sym one_block)
      (subst (All (HasSlot shown (q.sizes.block * width))) (sym br.row_items) is.out.home.bytes)

  -- with the shares of all passes the seats have all
  pub may_close : (shared : Shared S R) → q.row_seat.row ≡ shared.row → q.pool_seat.pool ≡ shared.pool → length br.brought ≡ q.sizes.workers → MayClose shown width q1 shared
  may_close shared row pool came =
      record {
        row = br.row ∙ row;
        row_shares = br.row_shares ∙ ap (λ k. q.row_seat.hand.shares + k) came ∙ is.out.home.row_shares;
        few_slots = slots_few;
        bytes = all_bytes;
        pool = br.pool ∙ pool;
        pool_shares = br.pool_shares ∙ ap (λ k. q.pool_seat.hand.shares + k) came ∙ is.out.home.pool_shares;
        few_buffers = omega (arith, same_count, ap (λ s. s.buffer_room) same_supply, is.fits);
        shape = λ some. br.pool_shape ∙ is.out.home.shape (omega (arith, some, same_count)) ∙ sym one_block;
      }

module _ {X : Type 0} where
  any_all : {C : Type 0} (Q : X → Type 0) (xs : List X) → Any Q xs → All (λ x. Q x → C) xs → C
  any_all Q xs any all = all any.0 any.1 any.2 (subst Q (sym any.3) any.4)

  turned_back : (P : X → Type 0) (xs : List X) → All P (reverse xs) → All P xs
  turned_back P xs = All-permutation P (reverse xs) xs (IsPermutation-sym xs (reverse xs) (IsPermutation-reverse xs))

  sum-turned : (f : X → ℕ) (xs : List X) → sum_by f (reverse xs) ≡ sum_by f xs
  sum-turned f xs = sum_by-IsPermutation f xs (reverse xs) (IsPermutation-reverse xs)

module _ {X R : Type 0} (f : X → List R) where
  flat-turned : (xs : List X) → IsSameBag (flat_map f (reverse xs)) (flat_map f xs)
  flat-turned xs p = count-flat f p (reverse xs) ∙ sum-turned (λ x. count_by p (f x)) xs ∙ sym (count-flat f p xs)

-- A settling tells a fault that was met before, if there is one. So where it answers Ok, or another fault, there is none
unlatched : {A : Type 0} (failed : Option ℕ) (r : Result A QueueFault) → ((number : ℕ) → failed ≡ Some number → r ≡ Err (Device number)) → ((number : ℕ) → r ≡ Err (Device number) → ⊥) → failed ≡ None
unlatched None r told other = refl
unlatched (Some number) r told other = absurd (other number (told number refl))

module _ {A : Type 0} (failed : Option ℕ) (r : Result A QueueFault) (latched : (number : ℕ) → failed ≡ Some number → r ≡ Err (Device number)) where
  pub unlatched_ok : (x : A) → r ≡ Ok x → failed ≡ None
  unlatched_ok x is = unlatched failed r latched (λ number e. (let odd : ◌≡◌ {A = Result A QueueFault} (Ok x) (Err (Device number)) = sym is ∙ e in cc))

  pub unlatched_err : (fault : QueueFault) → r ≡ Err fault → fault ≡ NoFreeBlock → failed ≡ None
  unlatched_err fault is e = unlatched failed r latched (λ number h. (let odd : ◌≡◌ {A = Result A QueueFault} (Err NoFreeBlock) (Err (Device number)) = ap (λ x. Err x) (sym e) ∙ sym is ∙ h in cc))

  pub latched_err : (fault : QueueFault) → r ≡ Err fault → (number : ℕ) → failed ≡ Some number → fault ≡ Device number
  latched_err fault is number h = (let same : ◌≡◌ {A = Result A QueueFault} (Err fault) (Err (Device number)) = sym is ∙ latched number h in cc)

-- the first fault, by the list that the row and pool were closed with
pub fault_in :
    {S R : Type 0} (fault : Option ℕ) (slice items brought : List (Brought S R)) (failed : Option ℕ) → fault ≡ first_some (map (λ (x : Brought S R). x.failed) (reverse slice)) failed → slice ≡ items → brought ≡ items
    → fault ≡ first_some (map (λ (x : Brought S R). x.failed) (reverse brought)) failed
fault_in {S} {R} fault slice items brought failed is as_slice as_brought = is ∙ ap (λ l. first_some (map (λ (x : Brought S R). x.failed) (reverse l)) failed) (as_slice ∙ sym as_brought)

-- all passes of a session can be brought
pub may_bring :
    {S R : Type 0} (shown : S → Shown) (width : ℕ) (shared : Shared S R) (q : BulkParts S R) (failed : Option ℕ) (ps : List (PassHolding S R)) → CanBring shown width shared q failed ps → MayBring shared q ps
may_bring {S} {R} shown width shared q failed ps can =
    let home = can.apart.out.home in
    record {
      row = can.row;
      pool = can.pool;
      of = λ k d h.
          let key = can.of k d h in
          record {
            row = ap (λ (x : PassKey S R). x.row) key ∙ can.row;
            pool = ap (λ (x : PassKey S R). x.pool) key ∙ can.pool;
            row_share = ap (λ (x : PassKey S R). x.row_shares) key;
            pool_share = ap (λ (x : PassKey S R). x.pool_shares) key;
            sizes = ap (λ (x : PassKey S R). x.sizes) key;
          };
      room = omega (arith, ap length home.none_brought, can.count, home.brought_room);
    }

module _ {S R : Type 0} (shown : S → Shown) (cmp : R → R → Ordering) (record_of : List ℕ → R) (width : ℕ) (shared : Shared S R) (q : BulkParts S R) (popped : ℕ) (failed : Option ℕ) (ps : List (PassHolding S R)) (can : CanEnd shown cmp record_of width shared q popped failed ps) where
  module _ (q1 : BulkParts S R) (br : BroughtAll shown record_of width q.sizes cmp (reverse ps) q q1) where
    -- as many came as there are, so row and pool can be closed
    came : length br.brought ≡ q.sizes.workers
    came = sym (length-map br.brought (pass_of shown record_of width q.sizes)) ∙ ap length br.passes_are ∙ length-reverse ps ∙ can.back.count

    pub can_close : MayClose shown width q1 shared
    can_close = may_close shown cmp record_of width q failed can.back.apart q1 (reverse ps) br shared can.back.row can.back.pool came

    module _ (c : Closed S R) (cl : IsClosed shown q1 failed c) (brought : List (Brought S R)) (list_is : brought ≡ q1.brought.items) where
      abbrev items : List (DeviceBlock S R)
      items = q.row_seat.hand.items

      abbrev now : List Shown
      now = slots_of shown q.body c.supply ++ slots_in shown br.brought

      count : length (reverse ps) ≡ q.sizes.workers
      count = length-reverse ps ∙ can.back.count

      keys : All (λ (p : PassHolding S R). p.key.items ≡ items) (reverse ps)
      keys = all_turned (λ (p : PassHolding S R). p.key.items ≡ items) ps (λ k d h. ap (λ (x : PassKey S R). x.items) (can.back.of k d h))

      sound_turned : failed ≡ None → IsSoundApart shown cmp record_of width q (sum_by (λ (p : PassHolding S R). p.key.begun) (reverse ps)) popped
      sound_turned none = subst (λ k. IsSoundApart shown cmp record_of width q k popped) (sym (sum-turned (λ (p : PassHolding S R). p.key.begun) ps)) (can.sound none)

      paid_turned : IsCountedApart shown q (sum_by (λ (p : PassHolding S R). p.key.begun) (reverse ps)) failed
      paid_turned = subst (λ k. IsCountedApart shown q k failed) (sym (sum-turned (λ (p : PassHolding S R). p.key.begun) ps)) can.paid

      brought_is : brought ≡ br.brought
      brought_is = list_is ∙ br.items ∙ ap (λ l. l ++ br.brought) can.back.apart.out.home.none_brought

      first_is : c ≡ closed shown cmp record_of width q failed can.back.apart q1 (reverse ps) br c cl count keys
      first_is = closed_is shown cmp record_of width q failed can.back.apart q1 (reverse ps) br c cl count keys

      same : SameSlots (apart_slots shown q) now
      same = same_now shown cmp record_of width q failed can.back.apart q1 (reverse ps) br c cl count keys

      -- the condition of putting all passes in
      first : IsGathered shown cmp record_of width now (slots_shown shown items) c brought
      first =
          subst (IsGathered shown cmp record_of width now (slots_shown shown items) c) (sym brought_is)
          (gathered-first shown cmp record_of width q failed can.back.apart q1 (reverse ps) br c cl count keys popped sound_turned (λ none. all_turned (GoesBefore shown cmp q) ps (can.before none)) paid_turned)

      pub may_gather : MayGather shown cmp record_of width brought c
      may_gather = record { slots = now; items = slots_shown shown items; rest = []; is = first }

      -- the records of the parts and of the passes
      bag_first : IsSameBag (gathered_bag shown cmp record_of width c brought) (q.extract.items ++ runs_bag shown record_of width q.body ++ bag_of ps)
      bag_first p =
          let pass = pass_of shown record_of width q.sizes in
          let kept = q.extract.items ++ runs_bag shown record_of width q.body in
          let bag : PassHolding S R → List R = λ x. x.bag in
          let there : gathered_bag shown cmp record_of width c brought ≡ kept ++ bag_of (reverse ps) =
          ap (gathered_bag shown cmp record_of width c) brought_is
          ∙ ap (λ k. gathered_bag shown cmp record_of width k br.brought) first_is
          ∙ ap (λ h. items_in h ++ q.extract.items ++ runs_bag shown record_of width q.body ++ flat_map (λ (one : Brought S R). (pass one).bag) br.brought) can.back.apart.out.home.no_heap
          ∙ ap (λ l. kept ++ l) (sym (flat_map-map bag pass br.brought) ∙ ap (flat_map bag) br.passes_are)
          in
          omega (arith, ap (count_by p) there, count_by-append p kept (bag_of (reverse ps)), count_by-append p kept (bag_of ps), flat-turned bag ps p)

      accepted_here : accepted_in shown br.brought ≡ accepted_of ps
      accepted_here =
          let pass = pass_of shown record_of width q.sizes in
          let accepted : PassHolding S R → ℕ = λ p. p.accepted in
          sym (sum-mapped pass accepted br.brought) ∙ ap (sum_by accepted) br.passes_are ∙ sum-turned accepted ps

      stores_here : sum_by (λ (x : Brought S R). x.stores) br.brought ≡ stores_of ps
      stores_here =
          let pass = pass_of shown record_of width q.sizes in
          let stores : PassHolding S R → ℕ = λ p. p.stores in
          sym (sum-mapped pass stores br.brought) ∙ ap (sum_by stores) br.passes_are ∙ sum-turned stores ps

      heaps_here : heaps_in br.brought ≡ sum_by (λ (p : PassHolding S R). p.in_heap) ps
      heaps_here =
          let pass = pass_of shown record_of width q.sizes in
          let heap : PassHolding S R → ℕ = λ p. p.in_heap in
          sym (sum-mapped pass heap br.brought) ∙ ap (sum_by heap) br.passes_are ∙ sum-turned heap ps

      -- a call of a slot with the number that is named failed
      named : (fault : Option ℕ) → fault ≡ first_some (map (λ (x : Brought S R). x.failed) (reverse brought)) failed → (number : ℕ) → fault ≡ Some number → HasFailed number now
      named fault fault_is number e =
          let w = weight_at (λ s. s.faults) number in
          let part = λ (x : Brought S R). pass_slots shown x.body x.kept.value in
          let P : Brought S R → Type 0 = λ x. x.failed ≡ Some number → HasFailed number now in
          let each : All P br.brought = λ k d h met. omega (arith, ((br.each k d h).always.fault number met).0, part-within w part br.brought k d h, sum_by-append w (slots_of shown q.body c.supply) (slots_in shown br.brought)) in
          let at : first_some (map (λ (x : Brought S R). x.failed) (reverse br.brought)) failed ≡ Some number = ap (λ l. first_some (map (λ (x : Brought S R). x.failed) (reverse l)) failed) (sym brought_is) ∙ sym fault_is ∙ e in
          first-says (λ (x : Brought S R). x.failed) number (reverse br.brought) failed (all_turned P br.brought each) (λ met. first.always.fault number (ap (λ k. k.failed) first_is ∙ met)) at

      -- what putting all passes in did
      module _ (d : Closed S R) (g : Gathers shown cmp record_of width brought c d) where
        all : IsGathered shown cmp record_of width now (slots_shown shown items) d []
        all = g.gathered now (slots_shown shown items) [] first

        pub may_rejoin :
            (fault : Option ℕ) → fault ≡ first_some (map (λ (x : Brought S R). x.failed) (reverse brought)) failed
            → (slots : List Shown) × (items : List Shown) × IsGathered shown cmp record_of width slots items d [] × ((number : ℕ) → fault ≡ Some number → HasFailed number slots)
        may_rejoin fault fault_is = (now, slots_shown shown items, all, named fault fault_is)

        last_sums : SameSums now (slots_of shown d.body d.supply)
        last_sums f = sym (all.always.sums f) ∙ ap (sum_by f) (append-nil (slots_of shown d.body d.supply))

        -- the slots are those of the parts
        last_slots : SameSlots (apart_slots shown q) (slots_of shown d.body d.supply)
        last_slots = SameSlots-trans (apart_slots shown q) now (slots_of shown d.body d.supply) same (slots-sums now (slots_of shown d.body d.supply) last_sums)

        last_writes : all_writes (apart_slots shown q) ≤ all_writes (slots_of shown d.body d.supply)
        last_writes = omega (arith, writes_now shown cmp record_of width q failed can.back.apart q1 (reverse ps) br c cl count keys, last_sums (λ s. s.writes))

        last_quiet : All (λ (x : Brought S R). x.failed ≡ None) br.brought → AreQuiet (apart_slots shown q) (slots_of shown d.body d.supply)
        last_quiet fine = omega (arith, quiet_now shown cmp record_of width q failed can.back.apart q1 (reverse ps) br c cl count keys fine, last_sums (λ s. s.faults))

        last_tells : AllTell (apart_slots shown q) → All (PassTells shown) ps → AllTell (slots_of shown d.body d.supply)
        last_tells tell each =
            tell_moved now (slots_of shown d.body d.supply) last_sums (told_now shown cmp record_of width q failed can.back.apart q1 (reverse ps) br c cl count keys tell (all_turned (PassTells shown) ps each))

        module _ (fault : Option ℕ) (fault_is : fault ≡ first_some (map (λ (x : Brought S R). x.failed) (reverse brought)) failed) (queue end : Holding R) (made : IsMade shown cmp record_of width popped fault d queue) (still : Stays queue end) (same_counts : CountsAs queue.counts queue end) where
          abbrev stay : Staying R
          stay = staying shown record_of width q popped failed

          limited_is : end.limited ≡ q.limited
          limited_is = still.keeps.limited ∙ made.limited ∙ g.limited ∙ ap (λ k. k.limited) first_is

          -- the numbers of the passes came on top
          counts_are : end.counts ≡ tally_with q.counts ps
          counts_are =
              same_counts.counts
              ∙ made.tally
              ∙ g.tally
              ∙ ap₂ (λ t l. counts_with t l) (ap (λ k. k.counts) first_is) brought_is
              ∙ counts-some q.counts br.brought (omega (arith, came, can.back.apart.out.home.range.some_worker))
              ∙ ap₂ (λ a s. joined q.counts (tally a s 0)) accepted_here stores_here

          heaps_are : end.in_heap ≤ sum_by (λ (p : PassHolding S R). p.in_heap) ps
          heaps_are =
              omega (
                arith,
                same_counts.heaps,
                made.heaps,
                g.heaps,
                ap (λ k. length (items_in k.heaps.items)) first_is,
                ap (λ l. length (items_in l)) can.back.apart.out.home.no_heap,
                ap heaps_in brought_is,
                heaps_here,
              )

          -- the queue counts what stayed and what the passes accepted, as far as there can be so many
          total_is : end.size ≡ queue.size → end.size ≡ min (q.count + accepted_of ps) (q.sizes.memory + q.sizes.block * q.sizes.blocks)
          total_is same =
              let sizes : d.sizes ≡ q.sizes = g.sizes ∙ ap (λ k. k.sizes) first_is in
              let range = can.back.apart.out.home.range in
              let product : q.sizes.block * q.sizes.blocks ≤ 65536 * 65536 = mul-le q.sizes.block q.sizes.blocks 65536 65536 range.block range.blocks in
              let limit : d.sizes.memory + d.sizes.block * d.sizes.blocks ≡ q.sizes.memory + q.sizes.block * q.sizes.blocks = ap (λ n. n.memory + n.block * n.blocks) sizes in
              omega (arith, same, made.counts, limit, g.counts (q.sizes.memory + q.sizes.block * q.sizes.blocks) (omega (arith, product, range.memory)), ap (λ k. k.count) first_is, ap (accepted_in shown) brought_is, accepted_here)

          -- where no fault was met the queue has all, also after a settling that lost nothing
          together : queue.failed ≡ None → SameRecords queue end → HasAll shown stay ps end
          together fine moved =
              let pass = pass_of shown record_of width q.sizes in
              let Whole : PassHolding S R → Type 0 = λ p. p.failed ≡ None in
              let none : d.failed ≡ None = (or_none fault d.failed (sym made.failed ∙ fine)).1 in
              let begun_whole : failed ≡ None = sym (ap (λ k. k.failed) first_is) ∙ (g.failed none).0 in
              let here = subst (All (λ (x : Brought S R). x.failed ≡ None)) brought_is (g.failed none).1 in
              let apart = sound_turned begun_whole in
              let counted : d.count ≡ q.count + accepted_in shown br.brought = omega (arith, g.size none, ap (λ k. k.count) first_is, ap (accepted_in shown) brought_is) in
              let total : end.size ≡ q.count + accepted_in shown br.brought = omega (arith, still.size, made.size none, counted) in
              let within = load_within shown cmp record_of width q failed can.back.apart q1 (reverse ps) br c cl popped apart same.length here came in
              let sizes : d.sizes ≡ q.sizes = g.sizes ∙ ap (λ k. k.sizes) first_is in
              let limit : d.sizes.memory + d.sizes.block * d.sizes.blocks ≡ q.sizes.memory + q.sizes.block * q.sizes.blocks = ap (λ n. n.memory + n.block * n.blocks) sizes in
              let high : end.peak ≡ max q.peak (q.count + popped + accepted_of ps) = omega (arith, still.peak, made.peak, g.peak, ap (λ k. k.peak) first_is, counted, within, limit, accepted_here) in
              record {
                bag = λ tell each p. omega (arith, moved.bag (subst AllTell (sym made.slots) (last_tells tell each)) p, ap (count_by p) made.bag, g.bag none [] p, bag_first p);
                size = omega (arith, total, accepted_here);
                peak = high;
                sound = moved.sound;
                quiet = moved.quiet ∙ ap all_faults made.slots ∙ last_quiet here;
                limited = limited_is;
                no_fault = (begun_whole, turned_back Whole ps (subst (All Whole) br.passes_are (All-map Whole pass br.brought here)));
                short = λ any.
                    let Refused : PassHolding S R → Type 0 = λ p. p.refused ≡ true in
                    let Says : PassHolding S R → Type 0 = λ p. p.refused ≡ true → (q.sizes.blocks < room_of q.sizes end.peak) × (heap_of q.sizes ≤ q.count + accepted_in shown br.brought) in
                    let all_say = short shown cmp record_of width q failed can.back.apart q1 (reverse ps) br c cl popped apart same.length here end.peak (omega (arith, high, accepted_here)) in
                    let says = any_all Refused ps any (turned_back Says ps all_say) in
                    (says.0, omega (arith, says.1, total));
              }

          -- what stands where the settling was refused
          stopped : (fault : QueueFault) → IsRefusal queue end fault → (fault ≡ NoFreeBlock → 8 < end.crowd) → (fault ≡ NoFreeBlock → queue.failed ≡ None) → EndsWith shown stay ps end (Stopped fault)
          stopped NoFreeBlock refused crowded fine =
              let same : SameRecords queue end = record { quiet = refused.quiet; bag = refused.bag; size = refused.size; sound = refused.sound } in
              (together (fine refl) same, record { crowded = crowded refl; free = refused.free; room = refused.room; above = refused.above })
          stopped (Device number) refused crowded fine = record { stopped = record { fault = refused.fault; kept = refused.kept }; size = total_is refused.size }

          -- the number that the queue keeps was met by the first pass in order that met a fault, and else in what stayed
          first_kept : (number : ℕ) → first_fault ps failed ≡ Some number → queue.failed ≡ Some number
          first_kept number e =
              let pass = pass_of shown record_of width q.sizes in
              let says : PassHolding S R → Option ℕ = λ p. p.failed in
              let turned = ap (map says) (sym (reverse-reverse ps) ∙ ap reverse (sym br.passes_are)) ∙ map-turned says pass br.brought in
              let same : first_some (map says ps) failed ≡ fault = ap (λ l. first_some l failed) turned ∙ ap (λ l. first_some (map (λ (x : Brought S R). x.failed) (reverse l)) failed) (sym brought_is) ∙ sym fault_is in
              made.failed ∙ ap (λ f. option_or f d.failed) (sym same ∙ e)

          ended : (how : SessionEnd) → EndsWith shown stay ps end how → (how ≡ Whole → end.runs ≤ 64) → ((number : ℕ) → queue.failed ≡ Some number → how ≡ Stopped (Device number)) → SessionEnded shown stay ps end how
          ended how ends settled names =
              record {
                end_is = ends;
                first = λ number e. names number (first_kept number e);
                settled = settled;
                slots = SameSlots-trans (apart_slots shown q) (slots_of shown d.body d.supply) end.slots last_slots (subst (λ s. SameSlots s end.slots) made.slots still.keeps.slots);
                tells = λ tell each. still.keeps.tells (subst AllTell (sym made.slots) (last_tells tell each));
                writes = omega (arith, last_writes, still.keeps.writes, ap all_writes made.slots);
                sizes = still.keeps.sizes ∙ made.sizes ∙ g.sizes ∙ ap (λ k. k.sizes) first_is;
                limited = limited_is;
                counts = counts_are;
                heaps = heaps_are;
              }

          -- the settling went well, or was refused
          pub ended_whole : queue.failed ≡ None → SameRecords queue end → end.runs ≤ 64 → SessionEnded shown stay ps end Whole
          ended_whole fine moved settled = ended Whole (together fine moved) (λ whole. settled) (λ number e. absurd (let odd : ◌≡◌ {A = Option ℕ} None (Some number) = sym fine ∙ e in cc))

          pub ended_stopped :
              (why : QueueFault) → IsRefusal queue end why → (why ≡ NoFreeBlock → 8 < end.crowd) → (why ≡ NoFreeBlock → queue.failed ≡ None) → ((number : ℕ) → queue.failed ≡ Some number → why ≡ Device number)
              → SessionEnded shown stay ps end (Stopped why)
          ended_stopped why refused crowded fine names = ended (Stopped why) (stopped why refused crowded fine) (λ whole. cc) (λ number e. ap (λ f. Stopped f) (names number e))
