-- More idle buffers than taking records needs: what is said with few is said with more.
use Rattle.std.proofs.Common.{◌≡◌, ℕ, ◌+◌, ◌-◌, ◌*◌, ◌<◌, ◌≤◌, ◌^◌, List, [], length, All, Option, sym, subst, arith}
use Rattle.std.specs.declared.cmp.Ordering.{Ordering}
use Rattle.ppq_fetch.specs.ppq_block.Block.{Block}
use Rattle.ppq_fetch.specs.ppq_outside.Shown.{Shown}
use Rattle.ppq_fetch.specs.ppq_array.External.{External}
use Rattle.ppq_fetch.specs.ppq_array.Supply.{Stock}
use Rattle.ppq_fetch.specs.ppq_array.Owner.{HasBlock}
use Rattle.ppq_fetch.specs.ppq_array.Holdings.{external_buffers, RunHasBlock, HasSlots}
use Rattle.ppq_fetch.specs.Fetching.{state, AreSources, MayFetch, PartsKept, Fetched}

module _ {S R : Type 0} (shown : S → Shown) (width ahead : ℕ) where
  -- other buffers, as long as they are enough, and a supply that can take back no less
  pub sources_with :
      (ext : List (External S R)) (idle idle' : List (Block R)) (stock stock' : Stock) → AreSources shown width ahead (state [] ext idle stock) → stock'.block ≡ stock.block → stock.slot_room ≤ stock'.slot_room → stock'.buffer_room ≡ stock.buffer_room
      → All (HasBlock stock.block) idle' → length ext + ahead ≤ length idle' + external_buffers ext → external_buffers ext + length idle' < 2 ^ 32 - 1 → AreSources shown width ahead (state [] ext idle' stock')
  sources_with ext idle idle' stock stock' is block slots buffers blocks enough few =
      record {
        idle = subst (λ k. All (HasBlock k) idle') (sym block) blocks;
        internal = subst (λ k. All (RunHasBlock {R = R} k) []) (sym block) is.internal;
        external = subst (λ k. All (HasSlots shown (k * width)) ext) (sym block) is.external;
        loaded = subst (λ k. All (λ (a : External S R). RunHasBlock k a.loaded) ext) (sym block) is.loaded;
        internal_fitting = is.internal_fitting;
        fitting = is.fitting;
        internal_spent = is.internal_spent;
        external_spent = is.external_spent;
        takes_back = record { slots = omega (arith, is.takes_back.slots, slots); buffers = omega (arith, is.takes_back.buffers, buffers) };
        fronts = enough;
        bounded = is.bounded;
        few_buffers = few;
        few_runs = is.few_runs;
        few_records = is.few_records;
      }

  pub fetch_with :
      (ext : List (External S R)) (idle idle' : List (Block R)) (stock stock' : Stock) → MayFetch shown width ahead (state [] ext idle stock) → stock'.block ≡ stock.block → stock.slot_room ≤ stock'.slot_room → stock'.buffer_room ≡ stock.buffer_room
      → All (HasBlock stock.block) idle' → length ext + ahead ≤ length idle' + external_buffers ext → external_buffers ext + length idle' < 2 ^ 32 - 1 → MayFetch shown width ahead (state [] ext idle' stock')
  fetch_with ext idle idle' stock stock' is block slots buffers blocks enough few =
      record { sources = sources_with ext idle idle' stock stock' is.sources block slots buffers blocks enough few; none_lifted = is.none_lifted }

  -- so many buffers more, before and after
  pub parts_with :
      (a b : List (External S R)) (i j i' j' : List (Block R)) (stock stock' : Stock) (n : ℕ) → PartsKept shown (state [] a i stock) (state [] b j stock') → length i' ≡ length i + n → length j' ≡ length j + n
      → PartsKept shown (state [] a i' stock) (state [] b j' stock')
  parts_with a b i j i' j' stock stock' n is before now =
      record {
        kept = record { slots = is.kept.slots; slot_room = is.kept.slot_room; buffers = omega (arith, is.kept.buffers, before, now); block = is.kept.block };
        all_tell = is.all_tell;
        internal = is.internal;
        in_memory = is.in_memory;
        buffers = omega (arith, is.buffers, before, now);
        went_on = is.went_on;
        stock = is.stock;
        transfers = is.transfers;
      }

  pub fetched_with :
      (cmp : R → R → Ordering) (record_of : List ℕ → R) (below : Option R) (a b : List (External S R)) (i j i' j' : List (Block R)) (stock stock' : Stock) (n : ℕ) (out : List R)
      → Fetched cmp record_of width shown below (state [] a i stock) (state [] b j stock') out → length i' ≡ length i + n → length j' ≡ length j + n → Fetched cmp record_of width shown below (state [] a i' stock) (state [] b j' stock') out
  fetched_with cmp record_of below a b i j i' j' stock stock' n out is before now =
      record { parts = parts_with a b i j i' j' stock stock' n is.parts before now; quiet = is.quiet; counted = is.counted; tell = is.tell; rise = λ t r. (let n = is.rise t (record { internal = r.internal; external = r.external }) in record { internal = n.internal; external = n.external }); taken = λ t r. is.taken t (record { internal = r.internal; external = r.external }); under = λ t r. is.under t (record { internal = r.internal; external = r.external }) }
