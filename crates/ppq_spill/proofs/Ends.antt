-- How the merge of a level ends, case by case.
use Rattle.std.proofs.Common.{◌≡◌, ℕ, ◌+◌, ◌-◌, ◌*◌, ◌≤◌, ◌++◌, List, [], min, length, All, refl, sym, ap, ◌∙◌, subst, take-append-drop, IsPermutation}
use Rattle.std.specs.Prelude.{Result, Ok, Err, ⊤}
use Rattle.std.specs.declared.cmp.Ordering.{Ordering}
use Rattle.ppq_fetch.specs.ppq_outside.Shown.{Shown}
use Rattle.ppq_fetch.specs.ppq_lane.declared.lanes.Lanes.{Lanes}
use Rattle.ppq_fetch.specs.ppq_array.declared.berth.DeviceBlock.{DeviceBlock}
use Rattle.ppq_fetch.specs.ppq_array.declared.store_fault.StoreFault.{StoreFault}
use Rattle.ppq_fetch.specs.ppq_array.declared.store_fault.StoreFault.TheVariants.{NoFreeBlock}
use Rattle.ppq_fetch.specs.ppq_array.Run.{run_of}
use Rattle.ppq_fetch.specs.ppq_array.External.{External, external}
use Rattle.ppq_fetch.specs.ppq_array.Supply.{Stock}
use Rattle.ppq_fetch.specs.ppq_array.Kept.{Kept}
use Rattle.ppq_fetch.specs.ppq_array.Holdings.{external_buffers}
use Rattle.ppq_spill.specs.Leveling.{HasLevel, EightOf, MayLevel, AreOneSize, LevelCalls, LevelMerged, NoneForLevel, LevelTells, ArraysAscend, held_in}
use Rattle.ppq_spill.specs.Moves.{DrewSlots, FoundFewSlots}
use Rattle.ppq_spill.specs.Making.{Table, table, last_eight, all_but_eight, BetweenBatches, MayMerge, LastMerged, LastFailed}
use Rattle.ppq_spill.specs.Costing.{LevelPays}
use Rattle.ppq_spill.proofs.Costing.{level_counted, stop_counted, none_counted}
use Rattle.ppq_spill.proofs.Starts.{eight_last, ready_first}
use Rattle.ppq_spill.proofs.Leveled.{placed_merged, placed_failed, failed_size, level_kept, level_tells, level_calls, level_again, level_idle, level_merged, size_made, none_for_level, none_writes, none_kept, none_tells, none_calls, none_size, none_again}

-- what stands after each answer
pub record Leaves {S R : Type 0} (shown : S → Shown) (width level : ℕ) (answer : Result ⊤ StoreFault) (old new : List (External S R)) (lanes lanes' : Lanes (DeviceBlock S R) R) (before now : Stock) : Type 0 where
  pub kept : Kept before now (held_in shown old lanes) (held_in shown new lanes')
  pub tells : LevelTells shown old new before now
  pub calls : LevelCalls shown level old new before now
  pub counted : LevelPays shown answer old new before now
  pub size : AreOneSize shown width new lanes' now

-- the 8 arrays at the end are merged, or there are too few slots for it
module _ {S R : Type 0} (shown : S → Shown) (width workers level : ℕ) (old mid : List (External S R)) (lanes : Lanes (DeviceBlock S R) R) (stock : Stock)
    (at_most : level ≤ 7) (moved : IsPermutation old mid) (eight : 8 ≤ length mid) (levels : All (HasLevel level) (last_eight mid)) (may : MayLevel shown width workers old lanes stock) where
  abbrev of : EightOf level old (last_eight mid) (all_but_eight mid)
  of = eight_last level old mid moved eight levels

  pub no_slots : (now : Stock) → FoundFewSlots (external_buffers (last_eight mid)) stock now → Leaves shown width level (Err NoFreeBlock) old mid lanes lanes stock now × NoneForLevel shown level workers old mid lanes lanes stock now × MayLevel shown width workers mid lanes now
  no_slots now found =
      let is : mid ≡ all_but_eight mid ++ last_eight mid = sym (take-append-drop (length mid - 8) mid) in
      let i = last_eight mid in
      let o = all_but_eight mid in (
        record {
          kept = none_kept shown width workers level old mid i o lanes stock now of may found is;
          tells = none_tells shown width workers level old mid i o lanes stock now of may found is;
          calls = none_calls shown width workers level old mid i o lanes stock now of may found is;
          counted = none_counted shown old mid stock now moved (none_writes shown width workers level old mid i o lanes stock now of may found is);
          size = none_size shown width workers level old mid i o lanes stock now of may found is;
        },
        none_for_level shown width workers level old mid i o lanes stock now of may found is,
        none_again shown width workers level old mid i o lanes stock now of may found is,
      )

  module _ (stock1 : Stock) (berths : List (DeviceBlock S R)) (drew : DrewSlots shown width stock stock1 berths) (long : length berths ≡ external_buffers (last_eight mid)) (made : External S R) (empty : made ≡ external (min (level + 1) 7) (run_of [] 0 []) [] []) where
    abbrev next : ℕ
    next = min (level + 1) 7

    abbrev start : External S R → Table S R
    start made = table (last_eight mid) lanes.idle made berths stock1

    ready : BetweenBatches shown width workers (start (external next (run_of [] 0 []) [] []))
    ready = ready_first shown width workers level next old (last_eight mid) (all_but_eight mid) lanes stock stock1 berths may of drew long

    -- they may be merged
    pub may_merge : (places : ℕ) → 1 ≤ workers → 8 ≤ places → MayMerge shown width workers places (length lanes.batch.items) (start made)
    may_merge places worker bench =
        record {
          eight = of.eight;
          ready = subst (λ m. BetweenBatches shown width workers (start m)) (sym empty) ready;
          worker = worker;
          bench = bench;
          batch = may.batch ∙ ap (λ k. workers * k) (sym (ap (λ s. s.block) drew.stock));
        }

    module _ (cmp : R → R → Ordering) (record_of : List ℕ → R) (new : List (External S R)) (lanes' : Lanes (DeviceBlock S R) R) (now : Stock) (jobs : lanes'.jobs.items ≡ lanes.jobs.items) where
      -- they were merged
      pub level_ends :
          length lanes'.batch.items ≡ length lanes.batch.items → ArraysAscend cmp record_of width shown old stock → LastMerged cmp record_of width workers shown (all_but_eight mid) (start made) new lanes'.idle now
          → Leaves shown width level (Ok tt) old new lanes lanes' stock now × MayLevel shown width workers new lanes' now × (length lanes.idle ≤ length lanes'.idle) × LevelMerged cmp record_of width shown level old new stock now
      level_ends batch ascend last1 =
          let last = subst (λ m. LastMerged cmp record_of width workers shown (all_but_eight mid) (start m) new lanes'.idle now) empty last1 in
          let others = all_but_eight mid in
          let o = start (external next (run_of [] 0 []) [] []) in
          let is = placed_merged shown width workers level next old (last_eight mid) others lanes stock stock1 berths of drew ready cmp record_of new lanes'.idle now last in
          let again = level_again shown width level old new others o last.end stock now is lanes lanes' workers may last.merged.ready last.emptied last.merged.same refl last.idle_is jobs batch last.arrays_are in (
            record {
              kept = level_kept shown width level old new others o last.end stock now is lanes lanes' refl last.idle_is jobs;
              tells = level_tells shown width level old new others o last.end stock now is;
              calls = level_calls shown width level old new others o last.end stock now is;
              counted =
                  level_counted shown width level old new others o last.end stock now is at_most tt refl
                  (size_made shown width level old new others o last.end stock now is lanes lanes' workers may last.merged.ready last.emptied last.merged.same refl last.idle_is jobs batch last.arrays_are)
                  last.arrays_are last.merged.each;
              size = again.size;
            },
            again,
            level_idle shown width level old new others o last.end stock now is lanes lanes' workers may last.merged.ready last.emptied last.merged.same refl last.idle_is jobs batch last.arrays_are,
            level_merged cmp record_of width workers level next shown old new others o last.end lanes stock now is may last.merged last.emptied refl refl last.arrays_are ascend,
          )

    -- a read or write failed
    pub level_stops :
        (new : List (External S R)) (lanes' : Lanes (DeviceBlock S R) R) (now : Stock) (fault : StoreFault) → lanes'.jobs.items ≡ lanes.jobs.items → LastFailed shown width (all_but_eight mid) (start made) new lanes'.idle now fault
        → Leaves shown width level (Err fault) old new lanes lanes' stock now
    level_stops new lanes' now fault jobs last1 =
        let last = subst (λ m. LastFailed shown width (all_but_eight mid) (start m) new lanes'.idle now fault) empty last1 in
        let others = all_but_eight mid in
        let o = start (external next (run_of [] 0 []) [] []) in
        let is = placed_failed shown width workers level next old (last_eight mid) others lanes stock stock1 berths of drew ready new lanes'.idle now fault last in
        record {
          kept = level_kept shown width level old new others o last.end stock now is lanes lanes' refl last.idle_is jobs;
          tells = level_tells shown width level old new others o last.end stock now is;
          calls = level_calls shown width level old new others o last.end stock now is;
          counted = stop_counted shown width level old new others o last.end stock now is at_most fault last.end.hand.stock last.failed.failed;
          size = failed_size shown width workers level next old (last_eight mid) others lanes stock stock1 berths of drew ready new now lanes' fault may.size last;
        }
