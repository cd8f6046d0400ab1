-- A merge among other slots that the supply keeps and other idle buffers: what it says stands.
use Rattle.std.proofs.Common.{◌≡◌, ℕ, ◌+◌, ◌-◌, ◌*◌, ◌<◌, ◌≤◌, ◌^◌, List, [], ◌++◌, length, sum_by, All, sym, ap, ◌∙◌, subst, arith, length-append}
use Rattle.std.specs.declared.cmp.Ordering.{Ordering}
use Rattle.std.proofs.lemmas.Nat.{mul-le}
use Rattle.std.proofs.lemmas.List.Sums.{sum_by-append}
use Rattle.ppq_fetch.specs.ppq_block.Block.{Block}
use Rattle.ppq_fetch.specs.ppq_outside.Shown.{Shown, AllTell}
use Rattle.ppq_fetch.specs.ppq_array.External.{External, size_of, IsPacked}
use Rattle.ppq_fetch.specs.ppq_array.Supply.{Stock}
use Rattle.ppq_fetch.specs.ppq_array.Owner.{HasBlock, HasSlot}
use Rattle.ppq_fetch.specs.ppq_array.Holdings.{external_slots, RunHasBlock, HasSlots}
use Rattle.ppq_fetch.specs.Fetching.{blocks_in, count_in}
use Rattle.ppq_spill.specs.Making.{Table, table, table_slots, total, held_slots, loaded_count, AllFull, AllFit, BetweenBatches, Merging, MergedOn, IsRising, HasNothing}
use Rattle.ppq_spill.specs.Untold.{untold}
use Rattle.ppq_spill.proofs.Going.{Went-placed, quiet_placed, each_placed}
use Rattle.ppq_spill.proofs.Telling.{tell_part}
use Rattle.ppq_spill.proofs.Merges.{table_sum}
use Rattle.ppq_spill.proofs.Leveled.{emptied_none}

-- from one table to another, with these slots kept besides, and so many buffers idle besides
module _ {S R : Type 0} (shown : S → Shown) (width : ℕ) (others : List Shown) (more : ℕ) (o n : Table S R) (idle_o idle_n : List (Block R)) (so sn : Stock) (block_o : so.block ≡ o.hand.stock.block) (block_n : sn.block ≡ so.block)
    (drawn : sn.drawn ≡ so.drawn) (buffers : sn.buffer_room ≡ so.buffer_room) (kept_o : so.kept ≡ others ++ o.hand.stock.kept) (kept_n : sn.kept ≡ others ++ n.hand.stock.kept)
    (room : sn.slot_room + o.hand.stock.slot_room ≡ so.slot_room + n.hand.stock.slot_room) (long_o : length idle_o ≡ length o.idle + more) (long_n : length idle_n ≡ length n.idle + more) where
  abbrev framed_o : Table S R
  framed_o = table o.inputs idle_o o.hand.made o.hand.berths so

  abbrev framed_n : Table S R
  framed_n = table n.inputs idle_n n.hand.made n.hand.berths sn

  sum_o : (f : Shown → ℕ) → sum_by f (table_slots shown framed_o) ≡ sum_by f others + sum_by f (table_slots shown o)
  sum_o f = omega (arith, table_sum shown f framed_o, table_sum shown f o, ap (sum_by f) kept_o, sum_by-append f others o.hand.stock.kept)

  sum_n : (f : Shown → ℕ) → sum_by f (table_slots shown framed_n) ≡ sum_by f others + sum_by f (table_slots shown n)
  sum_n f = omega (arith, table_sum shown f framed_n, table_sum shown f n, ap (sum_by f) kept_n, sum_by-append f others n.hand.stock.kept)

  told : AllTell (table_slots shown framed_o) → AllTell (table_slots shown o)
  told = tell_part (table_slots shown framed_o) (table_slots shown o) (omega (arith, sum_o untold))

  pub merging_framed : (later : ℕ) → All (HasBlock o.hand.stock.block) idle_n → Merging shown width later o n → Merging shown width later framed_o framed_n
  merging_framed later has m =
      record {
        blocks = m.blocks;
        made = m.made;
        few = subst (λ b. (length n.hand.made.stored + later) * b < total o + b) (sym block_o) m.few;
        fewer = m.fewer;
        eight = m.eight;
        went = Went-placed (length m.blocks + later) (blocks_in o.inputs - blocks_in n.inputs) others (table_slots shown o) (table_slots shown n) (table_slots shown framed_o) (table_slots shown framed_n) sum_o sum_n m.went;
        rest = record { block = block_n; drawn = drawn; buffers = buffers };
        room = omega (arith, m.room, room);
        buffers = omega (arith, m.buffers, long_o, long_n);
        sizes = subst (λ b. All (HasSlot shown (b * width)) (n.hand.made.stored ++ n.hand.berths)) (sym block_o) m.sizes;
        written = m.written;
        same_idle = subst (λ b. All (HasBlock b) idle_n) (sym block_o) has;
        same_external = subst (λ b. All (HasSlots shown (b * width)) n.inputs) (sym block_o) m.same_external;
        same_loaded = subst (λ b. All (λ (a : External S R). RunHasBlock b a.loaded) n.inputs) (sym block_o) m.same_loaded;
      }

  -- between batches, once nothing is left of the arrays
  pub ready_framed :
      (w workers : ℕ) → All (HasBlock o.hand.stock.block) idle_n → n.hand.stock.block ≡ o.hand.stock.block → length n.inputs ≡ 8 → 2 * workers + 8 ≤ length idle_n → length idle_n < 2 ^ 32 - 1 → held_slots shown n ≤ sn.slot_room → All HasNothing n.inputs
      → BetweenBatches shown width w n → BetweenBatches shown width workers framed_n
  ready_framed w workers has block eight enough few fits emptied r =
      let none = emptied_none shown n.inputs emptied in
      let same : sn.block ≡ n.hand.stock.block = block_n ∙ block_o ∙ sym block in
      let stored = n.hand.made.stored in
      let s = r.may.sources in
      let slots : (length stored + length n.hand.berths + length n.hand.stock.kept) * n.hand.stock.block ≤ (length stored + length n.hand.berths + length sn.kept) * n.hand.stock.block =
      mul-le (length stored + length n.hand.berths + length n.hand.stock.kept) n.hand.stock.block (length stored + length n.hand.berths + length sn.kept) n.hand.stock.block (omega (arith, ap length kept_n, length-append others n.hand.stock.kept)) (omega arith) in
      record {
        may = record {
          sources = record {
            idle = subst (λ b. All (HasBlock b) idle_n) (sym (block_n ∙ block_o)) has;
            internal = λ k d h. absurd (omega arith);
            external = subst (λ b. All (HasSlots shown (b * width)) n.inputs) (sym same) s.external;
            loaded = subst (λ b. All (λ (a : External S R). RunHasBlock b a.loaded) n.inputs) (sym same) s.loaded;
            internal_fitting = λ k d h. absurd (omega arith);
            fitting = s.fitting;
            internal_spent = tt;
            external_spent = s.external_spent;
            takes_back = record { slots = omega (arith, ap length none.0); buffers = omega arith };
            fronts = omega (arith, eight, none.1, enough);
            bounded = omega (arith, none.1);
            few_buffers = omega (arith, none.1, few);
            few_runs = omega (arith, eight);
            few_records = s.few_records;
          };
          none_lifted = r.may.none_lifted;
        };
        some = subst (λ b. 1 ≤ b) (sym same) r.some;
        small = subst (λ b. b ≤ 65536) (sym same) r.small;
        shape = r.shape;
        packed = subst (λ b. IsPacked b stored) (sym same) r.packed;
        tight = subst (λ b. length stored * b < size_of n.hand.made + b) (sym same) r.tight;
        full = λ h. subst (λ b. AllFull b stored) (sym same) (r.full h);
        fit = subst (λ b. All (λ (a : External S R). AllFit b a.stored) n.inputs) (sym same) r.fit;
        enough = subst (λ b. size_of n.hand.made + loaded_count n.inputs ≤ (length stored + length n.hand.berths + length sn.kept) * b) (sym same) (omega (arith, r.enough, slots));
        few = subst (λ b. total n ≤ (2 ^ 32 - 2) * b) (sym same) r.few;
        sizes = subst (λ b. All (HasSlot shown (b * width)) (stored ++ n.hand.berths)) (sym same) r.sizes;
        room = fits;
        buffers = omega (arith, enough);
      }

  module _ (cmp : R → R → Ordering) (record_of : List ℕ → R) where
    rises_o : IsRising cmp record_of width shown framed_o → IsRising cmp record_of width shown o
    rises_o r = record { inputs = record { internal = r.inputs.internal; external = r.inputs.external }; made = r.made; after = r.after }

    rises_n : IsRising cmp record_of width shown n → IsRising cmp record_of width shown framed_n
    rises_n r = record { inputs = record { internal = r.inputs.internal; external = r.inputs.external }; made = r.made; after = r.after }

    pub on_framed : (w workers : ℕ) → All (HasBlock o.hand.stock.block) idle_n → BetweenBatches shown width workers framed_n → MergedOn cmp record_of width w shown o n → MergedOn cmp record_of width workers shown framed_o framed_n
    on_framed w workers has ready on =
        record {
          merging = merging_framed 0 has on.merging;
          quiet = quiet_placed others (table_slots shown o) (table_slots shown n) (table_slots shown framed_o) (table_slots shown framed_n) sum_o sum_n on.quiet;
          each = each_placed (length n.hand.made.stored - length o.hand.made.stored) others (table_slots shown o) (table_slots shown n) (table_slots shown framed_o) (table_slots shown framed_n) sum_o sum_n on.each;
          ready = ready;
          same = on.same;
          rise = λ tell r. rises_n (on.rise (told tell) (rises_o r));
          records = λ tell r. on.records (told tell) (rises_o r);
        }
