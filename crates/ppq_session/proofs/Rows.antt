-- The row of a session has each block that is free.
use Rattle.std.proofs.Common.{◌≡◌, ℕ, ◌+◌, ◌-◌, ◌*◌, ◌≤◌, List, length, Option, refl, sym, ap, ◌∙◌, subst, arith, length-append}
use Rattle.std.specs.Prelude.{min}
use Rattle.std.proofs.Math.Nat.{add-mul, mul-le-mul_right}
use Rattle.std.specs.declared.cmp.Ordering.{Ordering}
use Rattle.atomic_table.specs.Seated.{TableId}
use Rattle.ppq_pass.specs.ppq_outside.Shown.{Shown}
use Rattle.ppq_pass.specs.ppq_budget.Sizes.{Numbers, AreInRange, heaps_of, batch_of, fixed_of, pool_of, lane_buffers}
use Rattle.ppq_pass.specs.ppq_array.Owner.{slots_shown}
use Rattle.ppq_pass.specs.ppq_array.Holdings.{internal_buffers, external_buffers, external_slots}
use Rattle.ppq_pass.specs.ppq_fetch.Fetching.{blocks_in}
use Rattle.ppq_pass.proofs.ppq_spill.Keeping.{slots_long}
use Rattle.ppq_pass.specs.ppq_pool.Seats.{count_of as pool_count}
use Rattle.ppq_pass.specs.ppq_spill.Body.{held_by}
use Rattle.ppq_queue.specs.Resting.{odd_in, slots_of}
use Rattle.ppq_queue.proofs.Bounds.{resident_within}
use Rattle.ppq_queue.proofs.Amounts.{runs_fit, arrays_fit, internal_count, stored_slots, count_some}
use Rattle.ppq_queue.proofs.Odd.{arrays_full, odd_most}
use Rattle.ppq_session.specs.Apart.{IsOut}
use Rattle.ppq_session.specs.BulkSession.{HasBuffers, HasPool, RowHasFree, resident_in}
use Rattle.ppq_session.specs.Fronts.{RowHadFree}
use Rattle.ppq_session.specs.FrontState.{IsTallied, front_holding}
use Rattle.ppq_session.specs.State.{IsBulk, bulk_holding}
use Rattle.ppq_session.specs.declared.parts.BulkParts.{BulkParts}
use Rattle.ppq_session.proofs.Opening.{bare_slots}

-- with all buffers of the budget, all that counts is within it
pub resident_fits : (n : Numbers) → AreInRange n → fixed_of n ≤ n.memory → (owned : ℕ) (pool : TableId) → HasBuffers n owned pool → resident_in n owned pool ≤ n.memory
resident_fits n range budget owned pool all =
    subst (λ k. heaps_of n + batch_of n + n.blocks + 2 * batch_of n + k * n.block ≤ n.memory) (sym all) (resident_within n range budget (heaps_of n) (batch_of n) n.blocks (omega arith) (omega arith) (omega arith))

module _ {S R : Type 0} (shown : S → Shown) (cmp : R → R → Ordering) (record_of : List ℕ → R) (width : ℕ) (q : BulkParts S R) (is : IsBulk shown cmp record_of width q) where
  pub bulk-row : RowHasFree shown (bulk_holding shown record_of width q)
  bulk-row =
      let so = is.sound in
      let n = q.sizes in
      let runs = q.body.runs.internal.items in
      let arrays = q.body.runs.external.items in
      let i = internal_buffers runs in
      let e = external_buffers arrays in
      let k = blocks_in arrays in
      let w = odd_in n.block arrays in
      let m = min (length arrays) 65 in
      let few : w ≤ m = omega (arith, so.few, odd_most n.block arrays) in
      let odd : w * n.block ≤ m * n.block = mul-le-mul_right n.block few in
      let stored : length (external_slots shown arrays) * n.block ≡ k * n.block = ap (λ x. x * n.block) (stored_slots shown arrays) in
      let buffers = i + e + length q.body.lanes.idle in
      let busy : i + e ≤ buffers = omega arith in
      let room : (i + e) * n.block ≤ buffers * n.block = mul-le-mul_right n.block busy in
      record {
        in_runs = external_slots shown arrays;
        all = refl;
        count = sym (ap length (bare_slots shown q is.supply.kept is.apart.out.no_job)) ∙ is.apart.out.slots;
        used = record {
          some = omega (arith, count_some shown width n.block runs arrays so.internal so.external, is.counted);
          filled = omega (arith, arrays_full n.block shown width arrays so.external, odd, stored, is.counted);
          enough = omega (
            arith,
            is.counted,
            runs_fit n.block runs so.internal,
            arrays_fit shown width n.block arrays so.external,
            room,
            stored,
            add-mul i e n.block,
            add-mul (length (external_slots shown arrays)) buffers n.block,
            internal_count runs,
          );
        };
      }

  pub bulk-buffers : HasBuffers q.sizes (internal_buffers q.body.runs.internal.items + external_buffers q.body.runs.external.items + length q.body.lanes.idle) q.pool_seat.pool
  bulk-buffers = let out = is.apart.out in omega (arith, out.held, ap length out.no_job, is.supply.sure, out.pool)

  pub bulk-memory : resident_in q.sizes (internal_buffers q.body.runs.internal.items + external_buffers q.body.runs.external.items + length q.body.lanes.idle) q.pool_seat.pool ≤ q.sizes.memory
  bulk-memory = let home = is.apart.out.home in resident_fits q.sizes home.range home.budget _ q.pool_seat.pool bulk-buffers

  pub bulk-pool : HasPool q.sizes (internal_buffers q.body.runs.internal.items) q.pool_seat.pool
  bulk-pool = omega (arith, bulk-buffers, is.sound.buffers)

module _ {S R : Type 0} (shown : S → Shown) (record_of : List ℕ → R) (width : ℕ) (q : BulkParts S R) (limit : R) (popped : ℕ) (failed : Option ℕ) (out : IsOut shown width q) (t : IsTallied shown q popped failed) where
  pub front-row : RowHadFree shown (front_holding shown record_of width q limit popped failed)
  front-row =
      let n = q.sizes in
      let others = length (slots_of shown q.body q.supply) in
      let items = length q.row_seat.hand.items in
      let buffers = (held_by shown q.body).buffers + q.supply.sure_buffers in
      let away = items + pool_count q.pool_seat.pool + 2 * n.workers in
      let all : others + items ≡ n.blocks = omega (arith, out.slots, length-append (slots_of shown q.body q.supply) (slots_shown shown q.row_seat.hand.items), slots_long shown q.row_seat.hand.items) in
      let rest : others ≡ n.blocks - items = omega (arith, all) in
      let blocks : others * n.block ≡ (n.blocks - items) * n.block = ap (λ x. x * n.block) rest in
      let sum : n.blocks + lane_buffers n + pool_of n ≡ others + buffers + away = omega (arith, all, out.held, out.pool) in
      let room : (n.blocks + lane_buffers n + pool_of n) * n.block ≡ (others + buffers) * n.block + away * n.block = ap (λ x. x * n.block) sum ∙ add-mul (others + buffers) away n.block in
      record {
        others = slots_of shown q.body q.supply;
        all = refl;
        filled = omega (arith, blocks, t.packed);
        enough = omega (arith, room, t.fits);
      }
