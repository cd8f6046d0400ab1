-- A front whose extract buffer is refilled: its runs rest, with all that is out, and nothing below the limit is passed over.
use Rattle.std.proofs.Common.{◌≡◌, ℕ, ◌+◌, ◌*◌, ◌<◌, ◌≤◌, Bool, true, false, cond, List, [], ◌∷◌, ◌++◌, length, min, sum_by, Some, sym, ap, ◌∙◌, arith, length-append, length-take}
use Rattle.std.specs.Prelude.{count_by}
use Rattle.std.specs.declared.cmp.Ordering.{Ordering}
use Rattle.std.specs.Cmp.{IsTotalOrder}
use Rattle.std.proofs.lemmas.Nat.{mul-le}
use Rattle.std.proofs.lemmas.List.Sums.{sum_by-append}
use Rattle.std.proofs.lemmas.List.Elements.{recursion_from_All}
use Rattle.ppq_pass.specs.ppq_record.Order.{is_before}
use Rattle.ppq_pass.specs.ppq_record.Bag.{IsSameBag, front, size_below, ascending}
use Rattle.ppq_pass.proofs.ppq_record.Order.{count_by-append, count_by-cons, each_fails, Each-same_bag, IsSameBag-length, in_order-same_bag}
use Rattle.ppq_pass.proofs.ppq_record.Fronts.{ranks}
use Rattle.ppq_pass.specs.ppq_outside.Shown.{Shown, Tells, AllTell}
use Rattle.ppq_pass.specs.ppq_budget.Sizes.{Numbers, pool_of}
use Rattle.ppq_pass.specs.ppq_pool.Seats.{count_of as pool_count}
use Rattle.ppq_pass.specs.ppq_array.declared.berth.DeviceBlock.{DeviceBlock}
use Rattle.ppq_pass.specs.ppq_array.Run.{Run}
use Rattle.ppq_pass.specs.ppq_array.External.{External}
use Rattle.ppq_pass.specs.ppq_array.Owner.{slots_shown, HasBlock}
use Rattle.ppq_pass.specs.ppq_array.Holdings.{external_slots, internal_buffers}
use Rattle.ppq_pass.specs.ppq_array.Supply.{Stock}
use Rattle.ppq_pass.specs.ppq_array.Kept.{AreQuiet}
use Rattle.ppq_pass.proofs.ppq_array.Noted.{all_left, all_right}
use Rattle.ppq_pass.specs.ppq_fetch.Fetching.{MayFetch, SourcesTell, RunsRise, source_items}
use Rattle.ppq_pass.specs.ppq_fetch.Taking.{wanted, NoneBelow}
use Rattle.ppq_pass.specs.ppq_extract.Extracted.{Held, sources_of, Refilled}
use Rattle.ppq_pass.specs.ppq_extract.declared.sources.Sources.{Sources}
use Rattle.ppq_pass.specs.ppq_spill.Body.{body_slots, job_slots}
use Rattle.ppq_pass.proofs.ppq_spill.Keeping.{slots_long}
use Rattle.ppq_pass.specs.ppq_spill.declared.body.PassBody.{PassBody}
use Rattle.ppq_queue.specs.Resting.{BodyKept, AtRest, runs_bag, slots_of}
use Rattle.ppq_queue.proofs.Bounds.{blocks_hold, pool_small, runs_few, idle_most, records_most}
use Rattle.ppq_queue.proofs.Amounts.{fronts_few}
use Rattle.ppq_queue.proofs.Odd.{odd_most}
use Rattle.ppq_queue.proofs.Moves.{none_after-same}
use Rattle.ppq_queue.proofs.Refilled.{sources-bag, rises-in, rises-out, runs-refilled, arrays-refilled}
use Rattle.ppq_session.specs.declared.parts.BulkParts.{BulkParts}
use Rattle.ppq_session.specs.Apart.{apart_slots, IsOut}
use Rattle.ppq_session.specs.FrontState.{lent, with_lent, with_shared, front_bag, IsSoundFront}
use Rattle.ppq_session.proofs.Moved.{lent-length, lent-blocks, told-whole, told-parts, refilled, told-refilled}

one_at_most : (b : Bool) → cond b 1 0 ≤ 1
one_at_most true = omega arith
one_at_most false = omega arith

-- no more records are below a limit than there are
below-most : {R : Type 0} (cmp : R → R → Ordering) (limit : R) (bag : List R) → size_below cmp bag limit ≤ length bag
below-most cmp limit [] = omega arith
below-most cmp limit (x ∷ xs) = omega (arith, count_by-cons (λ y. is_before cmp y limit) x xs, below-most cmp limit xs, one_at_most (is_before cmp x limit))

module _ {S R : Type 0} (shown : S → Shown) (cmp : R → R → Ordering) (record_of : List ℕ → R) (width : ℕ) (q : BulkParts S R) where
  abbrev n : Numbers
  n = q.sizes

  abbrev a : PassBody S R
  a = q.body

  abbrev s : Stock
  s = q.supply

  abbrev items : List (DeviceBlock S R)
  items = q.row_seat.hand.items

  abbrev pooled : ℕ
  pooled = pool_count q.pool_seat.pool

  module _ (limit : R) (is : IsOut shown width q) (sound : IsSoundFront shown cmp record_of width q limit) where
    -- what is out fits into what is away
    items_fit : length items ≤ s.slot_room
    items_fit =
        omega (
          arith,
          is.slots,
          is.slot_room,
          length-append (slots_of shown a s) (slots_shown shown items),
          length-append (body_slots shown a) s.kept,
          slots_long shown items,
        )

    pooled_fits : pooled ≤ s.buffer_room
    pooled_fits = omega (arith, is.held, sound.rest.buffers, lent-length n a.lanes.idle)

    -- the front can be refilled from its runs
    pub may_fetch : MayFetch shown width n.workers (sources_of a.runs a.lanes.idle s)
    may_fetch =
        let rest = sound.rest in
        let range = is.home.range in
        let whole = with_lent n a in
        let stock = with_shared shown items pooled s in
        let idle = idle_most shown cmp record_of width n whole stock rest in
        let long = lent-length n a.lanes.idle in
        record {
          sources = record {
            idle = all_right (HasBlock s.block) (lent n) a.lanes.idle rest.idle;
            internal = λ k d h. (rest.internal k d h).blocks;
            external = λ k d h. (rest.external k d h).size;
            loaded = λ k d h. (rest.external k d h).loaded;
            internal_fitting = λ k d h. (rest.internal k d h).fitting;
            fitting = λ k d h. (rest.external k d h).fitting;
            internal_spent = recursion_from_All (λ (run : Run R). run.spent ≡ []) a.runs.internal.items (λ k d h. (rest.internal k d h).spent);
            external_spent = recursion_from_All (λ (x : External S R). x.loaded.spent ≡ []) a.runs.external.items (λ k d h. (rest.external k d h).spent);
            takes_back = record { slots = omega (arith, rest.takes_back.slots, items_fit); buffers = omega (arith, rest.takes_back.buffers, pooled_fits) };
            fronts = omega (arith, sound.few, rest.buffers, range.some_worker, long);
            bounded = rest.bounded;
            few_buffers = omega (arith, idle, pool_small n, range.workers, long);
            few_runs = omega (arith, runs_few shown cmp record_of width n whole stock rest, pool_small n, sound.few);
            few_records = omega (arith, records_most shown cmp record_of width n whole stock rest range is.home.budget 0 0 (omega arith) (omega arith), range.memory, blocks_hold n range);
          };
          none_lifted = recursion_from_All (λ (x : External S R). x.lifted ≡ []) a.runs.external.items (λ k d h. (rest.external k d h).lifted);
        }

    -- the extract buffer has room for a record
    pub room_some : 0 < q.extract.room
    room_some =
        let one : 1 * 1 ≤ n.workers * n.block = mul-le 1 1 n.workers n.block is.home.range.some_worker (omega (arith, is.home.range.two_records)) in
        omega (arith, is.room, one)

    -- bench and places serve for them
    pub runs_served : length a.runs.internal.items + length a.runs.external.items ≤ pool_of n + 65
    runs_served = omega (arith, runs_few shown cmp record_of width n (with_lent n a) (with_shared shown items pooled s) sound.rest, sound.few)

    module _ (x : Held R) (b : PassBody S R) (t : Stock) (src : Sources R) (kept : BodyKept shown a b s t) (r : Refilled cmp record_of width shown (Some limit) (sources_of a.runs a.lanes.idle s) (sources_of b.runs b.lanes.idle t) x.items) (may : MayFetch shown width n.workers (sources_of b.runs b.lanes.idle t)) (none' : b.lanes.jobs.items ≡ []) (batch : b.lanes.batch ≡ a.lanes.batch) where
      told_sources : AllTell (apart_slots shown q) → SourcesTell shown (sources_of a.runs a.lanes.idle s)
      told_sources tell = all_left Tells (external_slots shown a.runs.external.items) (job_slots shown a.lanes.jobs.items) (all_left Tells (body_slots shown a) s.kept (all_left Tells (slots_of shown a s) (slots_shown shown items) tell))

      rises : AllTell (apart_slots shown q) → RunsRise record_of width shown cmp (sources_of a.runs a.lanes.idle s)
      rises tell =
          let rise = sound.rest.rise (told-whole shown n items pooled a s tell) in
          rises-in shown cmp record_of width n a s record { internal = rise.internal; external = rise.external }

      -- no call of a slot failed
      pub quiet-refilled : AreQuiet (apart_slots shown q) (apart_slots shown (refilled shown width q x b t src))
      quiet-refilled =
          let f : Shown → ℕ = λ y. y.faults in
          let own = slots_shown shown items in
          let before = external_slots shown a.runs.external.items in
          let now = external_slots shown b.runs.external.items in
          omega (
            arith,
            r.quiet,
            sum_by-append f (slots_of shown a s) own,
            sum_by-append f (slots_of shown b t) own,
            sum_by-append f (body_slots shown a) s.kept,
            sum_by-append f (body_slots shown b) t.kept,
            sum_by-append f before (job_slots shown a.lanes.jobs.items),
            sum_by-append f now (job_slots shown b.lanes.jobs.items),
            sum_by-append f before s.kept,
            sum_by-append f now t.kept,
            ap (λ l. sum_by f (job_slots shown l)) is.no_job,
            ap (λ l. sum_by f (job_slots shown l)) none',
          )

      slots_back : length (external_slots shown b.runs.external.items) + length items ≤ t.slot_room
      slots_back = omega (arith, r.kept.slot_room, sound.rest.takes_back.slots, items_fit)

      buffers_back : internal_buffers b.runs.internal.items + pooled ≤ t.buffer_room
      buffers_back = omega (arith, r.kept.buffers, r.buffers, sound.rest.takes_back.buffers, pooled_fits)

      rest_now : AtRest shown cmp record_of width n (with_lent n b) (with_shared shown items pooled t)
      rest_now =
          let rest = sound.rest in
          let long = lent-length n a.lanes.idle in
          let long' = lent-length n b.lanes.idle in
          record {
            block = kept.block ∙ rest.block;
            idle = lent-blocks n t.block b.lanes.idle (kept.block ∙ rest.block) may.sources.idle;
            internal = runs-refilled shown cmp record_of width n a b s t r may;
            external = arrays-refilled shown cmp record_of width n a b s t r may kept.block sound.rest.external;
            takes_back = record { slots = omega (arith, slots_back); buffers = omega (arith, buffers_back) };
            no_job = none';
            batch = ap (λ v. length v.items) batch ∙ rest.batch ∙ ap (λ k. n.workers * k) (sym kept.block);
            buffers = omega (arith, rest.buffers, r.buffers, long, long');
            held = omega (arith, r.kept.buffers, rest.held, long, long', pooled_fits, buffers_back);
            bounded = may.sources.bounded;
            fronts = omega (arith, fronts_few b.runs.external.items, r.external, sound.few);
            few = omega (arith, odd_most t.block b.runs.external.items, r.external, sound.few);
            pool = omega (arith, kept.all_buffers, is.pool, buffers_back);
            slots = omega (arith, kept.all_slots, is.slot_room, slots_back, slots_long shown items, length-append (slots_shown shown items) t.kept);
            internal_room = omega (arith, rest.internal_room, kept.internal_room);
            external_room = omega (arith, rest.external_room, kept.external_room);
            leaves = omega (arith, rest.leaves, kept.leaves);
            rise = λ tell.
                let was = told-refilled shown width q x b t src kept (told-parts shown n items pooled b t tell) in
                let rise = rises-out shown cmp record_of width n b t (r.rise (told_sources was) (rises was)) in
                record { internal = rise.internal; external = rise.external };
          }

      abbrev sources_now : List R
      sources_now = source_items record_of width shown (sources_of b.runs b.lanes.idle t)

      module _ (empty : q.extract.items ≡ []) where
        pub sound-refilled : IsSoundFront shown cmp record_of width (refilled shown width q x b t src) limit
        sound-refilled =
            record {
              rest = rest_now;
              few = omega (arith, r.external, sound.few);
              counted = omega (arith, sound.counted, r.counted, ap length empty);
              ascends = λ tell. (let was = told-refilled shown width q x b t src kept tell in (r.taken (told_sources was) (rises was)).ascends);
              order = λ tell.
                  let was = told-refilled shown width q x b t src kept tell in
                  none_after-same cmp x.items sources_now (runs_bag shown record_of width b) (sources-bag shown cmp record_of width n b t) (r.taken (told_sources was) (rises was)).least;
              under = λ tell. (let was = told-refilled shown width q x b t src kept tell in r.under (told_sources was) (rises was));
            }

        pub bag-refilled : AllTell (apart_slots shown q) → IsSameBag (x.items ++ runs_bag shown record_of width b) (front_bag shown record_of width q)
        bag-refilled tell p =
            let taken = r.taken (told_sources tell) (rises tell) in
            omega (
              arith,
              taken.moved p,
              count_by-append p x.items sources_now,
              count_by-append p x.items (runs_bag shown record_of width b),
              count_by-append p q.extract.items (runs_bag shown record_of width a),
              ap (count_by p) empty,
              sources-bag shown cmp record_of width n a s p,
              sources-bag shown cmp record_of width n b t p,
            )

        -- what stayed empty passed nothing over
        pub ready-refilled :
            IsTotalOrder cmp → (room : ℕ) → 0 < room
            → (SourcesTell shown (sources_of a.runs a.lanes.idle s) → RunsRise record_of width shown cmp (sources_of a.runs a.lanes.idle s) → x.items ≡ front cmp (source_items record_of width shown (sources_of a.runs a.lanes.idle s)) (wanted cmp room (Some limit) (source_items record_of width shown (sources_of a.runs a.lanes.idle s))))
            → x.items ≡ [] → AllTell (apart_slots shown q) → NoneBelow cmp (Some limit) (runs_bag shown record_of width b)
        ready-refilled o room some first none tell =
            let taken = r.taken (told_sources tell) (rises tell) in
            let old = source_items record_of width shown (sources_of a.runs a.lanes.idle s) in
            let sizes = IsSameBag-length (ascending cmp old) old (in_order-same_bag (is_before cmp) (ranks o) old) in
            let zero : size_below cmp old limit ≡ 0 =
            omega (
              arith,
              some,
              ap length (sym (first (told_sources tell) (rises tell)) ∙ none),
              length-take (min room (size_below cmp old limit)) (ascending cmp old),
              sizes,
              below-most cmp limit old,
            )
            in
            let here : NoneBelow cmp (Some limit) old = each_fails (λ y. is_before cmp y limit) old zero in
            let left : IsSameBag old (runs_bag shown record_of width b) = λ p.
            omega (arith, taken.moved p, count_by-append p x.items sources_now, ap (count_by p) none, sources-bag shown cmp record_of width n b t p)
            in
            Each-same_bag (λ y. is_before cmp y limit) old (runs_bag shown record_of width b) left here
