use Rattle.std.proofs.Common.{◌≡◌, ℕ, ◌+◌, ◌-◌, ◌<◌, ◌≤◌, ◌^◌, List, ◌++◌, [], length, take, drop, All, refl, sym, ap, ◌∙◌, subst, arith}
use Rattle.std.specs.Prelude.{vec_len}
use Rattle.std.proofs.lemmas.List.{take-append-le}
use Rattle.std.proofs.lemmas.List.Sorted.{length_permutation}
use Rattle.ppq_fetch.proofs.ppq_array.Noted.{take_whole}
use Rattle.ppq_fetch.specs.ppq_array.Owner.{HasSlot, new_owner}
use Rattle.ppq_fetch.specs.ppq_array.Run.{run_of}
use Rattle.ppq_fetch.specs.ppq_array.External.{external}
use Rattle.ppq_spill.specs.Making.{table_of}
use Rattle.ppq_spill.specs.Pairing.{PairEnds, last_part, part_before, all_but_sixteen, placed_pair}
use Rattle.ppq_spill.proofs.Idle.{first_block}
use Rattle.ppq_spill.proofs.Sides.{may_high_as, may_low_as, ends_high, ends_low, rest_fits, rest_block, rest_sizes, idle_few, pair_ends}
use Rattle.ppq_spill.proofs.pair.merge_pair.Goals as goal

-- what is written back into a list of the same length
written_back : {X : Type 0} (n : ℕ) (xs zs : List X) → n ≡ length xs → take n (xs ++ zs) ≡ xs
written_back n xs zs e = ap (λ k. take k (xs ++ zs)) e ∙ take-append-le (length xs) xs zs (omega arith) ∙ take_whole xs

pub merge_sixteen-one-requires-clause-one : goal.merge_sixteen-one-requires-clause-one
merge_sixteen-one-requires-clause-one g c κs within =
    may_high_as g.S.Slot.shown g.R.Record.WIDTH c.args.bench.now.workers c.args.level c.requires.level c.args.arrays.now.items c.gather_level.new.arrays.items c.args.lanes.now (g.P.Supply.stock c.args.supply.now) c.lend-lent.result.idle c.lend-lent.new.lanes.idle
    c.gather_level.ensures.moved c.gather_level.ensures.enough c.gather_level.ensures.levels c.requires.may c.requires.pair c.lend-lent.ensures.idle c.lend-lent.ensures.ten (last_part c.deref_mut.result.now) c.lend-lent.new.lanes c.empty.result c.empty-2.result (ap last_part c.deref_mut.ensures.value) c.lend-lent.ensures.rest
    (c.empty.ensures ∙ ap (λ n. external n (run_of [] 0 []) [] []) c.min-next.ensures) c.empty-2.ensures (length c.args.bench.now.places) c.requires.worker c.requires.bench

pub merge_sixteen-one-requires-clause-two : goal.merge_sixteen-one-requires-clause-two
merge_sixteen-one-requires-clause-two g c κs within =
    let stock = g.P.Supply.stock c.args.supply.now in
    let block : c.block-block.result ≡ stock.block = c.block-block.ensures ∙ first_block stock.block c.args.lanes.now.idle c.at.result.now c.requires.may.size.idle c.at.ensures in
    may_low_as g.S.Slot.shown g.R.Record.WIDTH c.args.bench.now.workers c.args.level c.requires.level c.args.arrays.now.items c.gather_level.new.arrays.items c.args.lanes.now stock c.lend-lent.result.idle c.lend-lent.new.lanes.idle
    c.gather_level.ensures.moved c.gather_level.ensures.enough c.gather_level.ensures.levels c.requires.may c.requires.pair c.lend-lent.ensures.idle c.lend-lent.ensures.ten c.lend-lent.result refl c.lend-lent.ensures.jobs (ap (λ v. length v.items) c.lend-lent.ensures.batch ∙ c.requires.batch)
    (part_before c.deref_mut.result.now) c.empty-3.result c.empty-4.result c.new-aside.result c.args.other.now.workers (ap part_before c.deref_mut.ensures.value) (c.empty-3.ensures ∙ ap (λ n. external n (run_of [] 0 []) [] []) c.min-next.ensures) c.empty-4.ensures
    (c.new-aside.ensures ∙ ap (λ k. new_owner k (2 ^ 32 - 2) 0) block) c.requires.other.0 (length c.args.other.now.places) c.requires.other.1

pub take_back-requires : goal.take_back-requires
take_back-requires g c =
    idle_few g.S.Slot.shown g.R.Record.WIDTH c.args.bench.now.workers c.args.level c.requires.level c.args.arrays.now.items c.gather_level.new.arrays.items c.args.lanes.now (g.P.Supply.stock c.args.supply.now) c.lend-lent.result.idle c.lend-lent.new.lanes.idle
    c.gather_level.ensures.moved c.gather_level.ensures.enough c.gather_level.ensures.levels c.requires.may c.requires.pair c.lend-lent.ensures.idle c.lend-lent.ensures.ten g.R.Ord.cmp g.R.Record.record_of c.args.arrays.now.items c.merge_sixteen-one.new.arrays c.args.lanes.now (g.P.Supply.stock c.args.supply.now)
    (table_of (last_part c.merge_sixteen-one.new.arrays) c.merge_sixteen-one.new.lanes c.merge_sixteen-one.new.first (g.P.Supply.stock c.merge_sixteen-one.new.supply))
    (table_of (part_before c.merge_sixteen-one.new.arrays) c.merge_sixteen-one.new.lent c.merge_sixteen-one.new.second c.merge_sixteen-one.new.aside) c.requires.ascend
    (let e : length c.merge_sixteen-one.new.aside.kept + c.merge_sixteen-one.new.aside.slot_room ≡ 2 ^ 32 - 2 = omega (arith, ap (λ h. h.0) c.merge_sixteen-one.ensures.aside_home, ap (λ s. length s.kept + s.slot_room) c.new-aside.ensures) in e)
    c.merge_sixteen-one.result.0 c.merge_sixteen-one.result.1
    (ends_high g.S.Slot.shown g.R.Record.WIDTH c.args.bench.now.workers c.args.level c.requires.level c.args.arrays.now.items c.gather_level.new.arrays.items c.args.lanes.now (g.P.Supply.stock c.args.supply.now) c.lend-lent.result.idle c.lend-lent.new.lanes.idle
    c.gather_level.ensures.moved c.gather_level.ensures.enough c.gather_level.ensures.levels c.requires.may c.requires.pair c.lend-lent.ensures.idle c.lend-lent.ensures.ten g.R.Ord.cmp g.R.Record.record_of (table_of (last_part c.merge_sixteen-one.new.arrays) c.merge_sixteen-one.new.lanes c.merge_sixteen-one.new.first (g.P.Supply.stock c.merge_sixteen-one.new.supply)) c.merge_sixteen-one.result.0 (last_part c.deref_mut.result.now) c.lend-lent.new.lanes c.empty.result c.empty-2.result (ap last_part c.deref_mut.ensures.value) c.lend-lent.ensures.rest
    (c.empty.ensures ∙ ap (λ n. external n (run_of [] 0 []) [] []) c.min-next.ensures) c.empty-2.ensures c.merge_sixteen-one.ensures.one)
    (ends_low g.S.Slot.shown g.R.Record.WIDTH c.args.bench.now.workers c.args.level c.requires.level c.args.arrays.now.items c.gather_level.new.arrays.items c.args.lanes.now (g.P.Supply.stock c.args.supply.now) c.lend-lent.result.idle c.lend-lent.new.lanes.idle
    c.gather_level.ensures.moved c.gather_level.ensures.enough c.gather_level.ensures.levels c.requires.may c.requires.pair c.lend-lent.ensures.idle c.lend-lent.ensures.ten g.R.Ord.cmp g.R.Record.record_of (table_of (part_before c.merge_sixteen-one.new.arrays) c.merge_sixteen-one.new.lent c.merge_sixteen-one.new.second c.merge_sixteen-one.new.aside) c.merge_sixteen-one.result.1 (part_before c.deref_mut.result.now) c.empty-3.result c.empty-4.result c.new-aside.result c.args.other.now.workers (ap part_before c.deref_mut.ensures.value) (c.empty-3.ensures ∙ ap (λ n. external n (run_of [] 0 []) [] []) c.min-next.ensures)
    c.empty-4.ensures (c.new-aside.ensures ∙ ap (λ k. new_owner k (2 ^ 32 - 2) 0) (c.block-block.ensures ∙ first_block (g.P.Supply.stock c.args.supply.now).block c.args.lanes.now.idle c.at.result.now c.requires.may.size.idle c.at.ensures)) c.requires.other.0 c.merge_sixteen-one.ensures.two)

pub end_pair-requires-clause-room : goal.end_pair-requires-clause-room
end_pair-requires-clause-room g c =
    let whole = (written_back (vec_len c.gather_level.new.arrays) c.merge_sixteen-one.new.arrays (drop (length c.merge_sixteen-one.new.arrays) c.gather_level.new.arrays.items) (sym c.deref_mut.ensures.len ∙ sym c.merge_sixteen-one.auto.arrays)) in
    let long = length_permutation c.args.arrays.now.items c.gather_level.new.arrays.items c.gather_level.ensures.moved in
    omega (arith, ap length whole, c.merge_sixteen-one.ensures.long, ap length c.deref_mut.ensures.value, long, c.requires.room, c.gather_level.ensures.room)

pub end_pair-requires-clause-slots : goal.end_pair-requires-clause-slots
end_pair-requires-clause-slots g c =
    rest_fits g.S.Slot.shown g.R.Record.WIDTH c.args.bench.now.workers c.args.level c.requires.level c.args.arrays.now.items c.gather_level.new.arrays.items c.args.lanes.now (g.P.Supply.stock c.args.supply.now) c.lend-lent.result.idle c.lend-lent.new.lanes.idle
    c.gather_level.ensures.moved c.gather_level.ensures.enough c.gather_level.ensures.levels c.requires.may c.requires.pair c.lend-lent.ensures.idle c.lend-lent.ensures.ten g.R.Ord.cmp g.R.Record.record_of c.args.arrays.now.items c.merge_sixteen-one.new.arrays c.args.lanes.now (g.P.Supply.stock c.args.supply.now)
    (table_of (last_part c.merge_sixteen-one.new.arrays) c.merge_sixteen-one.new.lanes c.merge_sixteen-one.new.first (g.P.Supply.stock c.merge_sixteen-one.new.supply))
    (table_of (part_before c.merge_sixteen-one.new.arrays) c.merge_sixteen-one.new.lent c.merge_sixteen-one.new.second c.merge_sixteen-one.new.aside) c.requires.ascend
    (let e : length c.merge_sixteen-one.new.aside.kept + c.merge_sixteen-one.new.aside.slot_room ≡ 2 ^ 32 - 2 = omega (arith, ap (λ h. h.0) c.merge_sixteen-one.ensures.aside_home, ap (λ s. length s.kept + s.slot_room) c.new-aside.ensures) in e)
    c.merge_sixteen-one.result.0 c.merge_sixteen-one.result.1
    (ends_high g.S.Slot.shown g.R.Record.WIDTH c.args.bench.now.workers c.args.level c.requires.level c.args.arrays.now.items c.gather_level.new.arrays.items c.args.lanes.now (g.P.Supply.stock c.args.supply.now) c.lend-lent.result.idle c.lend-lent.new.lanes.idle
    c.gather_level.ensures.moved c.gather_level.ensures.enough c.gather_level.ensures.levels c.requires.may c.requires.pair c.lend-lent.ensures.idle c.lend-lent.ensures.ten g.R.Ord.cmp g.R.Record.record_of (table_of (last_part c.merge_sixteen-one.new.arrays) c.merge_sixteen-one.new.lanes c.merge_sixteen-one.new.first (g.P.Supply.stock c.merge_sixteen-one.new.supply)) c.merge_sixteen-one.result.0 (last_part c.deref_mut.result.now) c.lend-lent.new.lanes c.empty.result c.empty-2.result (ap last_part c.deref_mut.ensures.value) c.lend-lent.ensures.rest
    (c.empty.ensures ∙ ap (λ n. external n (run_of [] 0 []) [] []) c.min-next.ensures) c.empty-2.ensures c.merge_sixteen-one.ensures.one)
    (ends_low g.S.Slot.shown g.R.Record.WIDTH c.args.bench.now.workers c.args.level c.requires.level c.args.arrays.now.items c.gather_level.new.arrays.items c.args.lanes.now (g.P.Supply.stock c.args.supply.now) c.lend-lent.result.idle c.lend-lent.new.lanes.idle
    c.gather_level.ensures.moved c.gather_level.ensures.enough c.gather_level.ensures.levels c.requires.may c.requires.pair c.lend-lent.ensures.idle c.lend-lent.ensures.ten g.R.Ord.cmp g.R.Record.record_of (table_of (part_before c.merge_sixteen-one.new.arrays) c.merge_sixteen-one.new.lent c.merge_sixteen-one.new.second c.merge_sixteen-one.new.aside) c.merge_sixteen-one.result.1 (part_before c.deref_mut.result.now) c.empty-3.result c.empty-4.result c.new-aside.result c.args.other.now.workers (ap part_before c.deref_mut.ensures.value) (c.empty-3.ensures ∙ ap (λ n. external n (run_of [] 0 []) [] []) c.min-next.ensures)
    c.empty-4.ensures (c.new-aside.ensures ∙ ap (λ k. new_owner k (2 ^ 32 - 2) 0) (c.block-block.ensures ∙ first_block (g.P.Supply.stock c.args.supply.now).block c.args.lanes.now.idle c.at.result.now c.requires.may.size.idle c.at.ensures)) c.requires.other.0 c.merge_sixteen-one.ensures.two)

pub end_pair-requires-clause-block : goal.end_pair-requires-clause-block
end_pair-requires-clause-block g c =
    rest_block g.S.Slot.shown g.R.Record.WIDTH c.args.bench.now.workers c.args.level c.requires.level c.args.arrays.now.items c.gather_level.new.arrays.items c.args.lanes.now (g.P.Supply.stock c.args.supply.now) c.lend-lent.result.idle c.lend-lent.new.lanes.idle
    c.gather_level.ensures.moved c.gather_level.ensures.enough c.gather_level.ensures.levels c.requires.may c.requires.pair c.lend-lent.ensures.idle c.lend-lent.ensures.ten g.R.Ord.cmp g.R.Record.record_of c.args.arrays.now.items c.merge_sixteen-one.new.arrays c.args.lanes.now (g.P.Supply.stock c.args.supply.now)
    (table_of (last_part c.merge_sixteen-one.new.arrays) c.merge_sixteen-one.new.lanes c.merge_sixteen-one.new.first (g.P.Supply.stock c.merge_sixteen-one.new.supply))
    (table_of (part_before c.merge_sixteen-one.new.arrays) c.merge_sixteen-one.new.lent c.merge_sixteen-one.new.second c.merge_sixteen-one.new.aside) c.requires.ascend
    (let e : length c.merge_sixteen-one.new.aside.kept + c.merge_sixteen-one.new.aside.slot_room ≡ 2 ^ 32 - 2 = omega (arith, ap (λ h. h.0) c.merge_sixteen-one.ensures.aside_home, ap (λ s. length s.kept + s.slot_room) c.new-aside.ensures) in e)
    c.merge_sixteen-one.result.0 c.merge_sixteen-one.result.1
    (ends_high g.S.Slot.shown g.R.Record.WIDTH c.args.bench.now.workers c.args.level c.requires.level c.args.arrays.now.items c.gather_level.new.arrays.items c.args.lanes.now (g.P.Supply.stock c.args.supply.now) c.lend-lent.result.idle c.lend-lent.new.lanes.idle
    c.gather_level.ensures.moved c.gather_level.ensures.enough c.gather_level.ensures.levels c.requires.may c.requires.pair c.lend-lent.ensures.idle c.lend-lent.ensures.ten g.R.Ord.cmp g.R.Record.record_of (table_of (last_part c.merge_sixteen-one.new.arrays) c.merge_sixteen-one.new.lanes c.merge_sixteen-one.new.first (g.P.Supply.stock c.merge_sixteen-one.new.supply)) c.merge_sixteen-one.result.0 (last_part c.deref_mut.result.now) c.lend-lent.new.lanes c.empty.result c.empty-2.result (ap last_part c.deref_mut.ensures.value) c.lend-lent.ensures.rest
    (c.empty.ensures ∙ ap (λ n. external n (run_of [] 0 []) [] []) c.min-next.ensures) c.empty-2.ensures c.merge_sixteen-one.ensures.one)
    (ends_low g.S.Slot.shown g.R.Record.WIDTH c.args.bench.now.workers c.args.level c.requires.level c.args.arrays.now.items c.gather_level.new.arrays.items c.args.lanes.now (g.P.Supply.stock c.args.supply.now) c.lend-lent.result.idle c.lend-lent.new.lanes.idle
    c.gather_level.ensures.moved c.gather_level.ensures.enough c.gather_level.ensures.levels c.requires.may c.requires.pair c.lend-lent.ensures.idle c.lend-lent.ensures.ten g.R.Ord.cmp g.R.Record.record_of (table_of (part_before c.merge_sixteen-one.new.arrays) c.merge_sixteen-one.new.lent c.merge_sixteen-one.new.second c.merge_sixteen-one.new.aside) c.merge_sixteen-one.result.1 (part_before c.deref_mut.result.now) c.empty-3.result c.empty-4.result c.new-aside.result c.args.other.now.workers (ap part_before c.deref_mut.ensures.value) (c.empty-3.ensures ∙ ap (λ n. external n (run_of [] 0 []) [] []) c.min-next.ensures)
    c.empty-4.ensures (c.new-aside.ensures ∙ ap (λ k. new_owner k (2 ^ 32 - 2) 0) (c.block-block.ensures ∙ first_block (g.P.Supply.stock c.args.supply.now).block c.args.lanes.now.idle c.at.result.now c.requires.may.size.idle c.at.ensures)) c.requires.other.0 c.merge_sixteen-one.ensures.two)

pub end_pair-requires-clause-sizes : goal.end_pair-requires-clause-sizes
end_pair-requires-clause-sizes g c =
    rest_sizes g.S.Slot.shown g.R.Record.WIDTH c.args.bench.now.workers c.args.level c.requires.level c.args.arrays.now.items c.gather_level.new.arrays.items c.args.lanes.now (g.P.Supply.stock c.args.supply.now) c.lend-lent.result.idle c.lend-lent.new.lanes.idle
    c.gather_level.ensures.moved c.gather_level.ensures.enough c.gather_level.ensures.levels c.requires.may c.requires.pair c.lend-lent.ensures.idle c.lend-lent.ensures.ten g.R.Ord.cmp g.R.Record.record_of c.args.arrays.now.items c.merge_sixteen-one.new.arrays c.args.lanes.now (g.P.Supply.stock c.args.supply.now)
    (table_of (last_part c.merge_sixteen-one.new.arrays) c.merge_sixteen-one.new.lanes c.merge_sixteen-one.new.first (g.P.Supply.stock c.merge_sixteen-one.new.supply))
    (table_of (part_before c.merge_sixteen-one.new.arrays) c.merge_sixteen-one.new.lent c.merge_sixteen-one.new.second c.merge_sixteen-one.new.aside) c.requires.ascend
    (let e : length c.merge_sixteen-one.new.aside.kept + c.merge_sixteen-one.new.aside.slot_room ≡ 2 ^ 32 - 2 = omega (arith, ap (λ h. h.0) c.merge_sixteen-one.ensures.aside_home, ap (λ s. length s.kept + s.slot_room) c.new-aside.ensures) in e)
    c.merge_sixteen-one.result.0 c.merge_sixteen-one.result.1
    (ends_high g.S.Slot.shown g.R.Record.WIDTH c.args.bench.now.workers c.args.level c.requires.level c.args.arrays.now.items c.gather_level.new.arrays.items c.args.lanes.now (g.P.Supply.stock c.args.supply.now) c.lend-lent.result.idle c.lend-lent.new.lanes.idle
    c.gather_level.ensures.moved c.gather_level.ensures.enough c.gather_level.ensures.levels c.requires.may c.requires.pair c.lend-lent.ensures.idle c.lend-lent.ensures.ten g.R.Ord.cmp g.R.Record.record_of (table_of (last_part c.merge_sixteen-one.new.arrays) c.merge_sixteen-one.new.lanes c.merge_sixteen-one.new.first (g.P.Supply.stock c.merge_sixteen-one.new.supply)) c.merge_sixteen-one.result.0 (last_part c.deref_mut.result.now) c.lend-lent.new.lanes c.empty.result c.empty-2.result (ap last_part c.deref_mut.ensures.value) c.lend-lent.ensures.rest
    (c.empty.ensures ∙ ap (λ n. external n (run_of [] 0 []) [] []) c.min-next.ensures) c.empty-2.ensures c.merge_sixteen-one.ensures.one)
    (ends_low g.S.Slot.shown g.R.Record.WIDTH c.args.bench.now.workers c.args.level c.requires.level c.args.arrays.now.items c.gather_level.new.arrays.items c.args.lanes.now (g.P.Supply.stock c.args.supply.now) c.lend-lent.result.idle c.lend-lent.new.lanes.idle
    c.gather_level.ensures.moved c.gather_level.ensures.enough c.gather_level.ensures.levels c.requires.may c.requires.pair c.lend-lent.ensures.idle c.lend-lent.ensures.ten g.R.Ord.cmp g.R.Record.record_of (table_of (part_before c.merge_sixteen-one.new.arrays) c.merge_sixteen-one.new.lent c.merge_sixteen-one.new.second c.merge_sixteen-one.new.aside) c.merge_sixteen-one.result.1 (part_before c.deref_mut.result.now) c.empty-3.result c.empty-4.result c.new-aside.result c.args.other.now.workers (ap part_before c.deref_mut.ensures.value) (c.empty-3.ensures ∙ ap (λ n. external n (run_of [] 0 []) [] []) c.min-next.ensures)
    c.empty-4.ensures (c.new-aside.ensures ∙ ap (λ k. new_owner k (2 ^ 32 - 2) 0) (c.block-block.ensures ∙ first_block (g.P.Supply.stock c.args.supply.now).block c.args.lanes.now.idle c.at.result.now c.requires.may.size.idle c.at.ensures)) c.requires.other.0 c.merge_sixteen-one.ensures.two)

pub returns-clause-ends : goal.returns-clause-ends
returns-clause-ends g c =
    let m = c.merge_sixteen-one in
    let now = m.new.arrays in
    let whole = (written_back (vec_len c.gather_level.new.arrays) c.merge_sixteen-one.new.arrays (drop (length c.merge_sixteen-one.new.arrays) c.gather_level.new.arrays.items) (sym c.deref_mut.ensures.len ∙ sym c.merge_sixteen-one.auto.arrays)) in
    let lanes = record m.new.lanes { idle = c.take_back.new.idle } in
    let stock = g.P.Supply.stock c.args.supply.now in
    let stock' = g.P.Supply.stock c.end_pair.new.supply in
    let ended_is = c.end_pair.ensures.ended in
    let placed = c.end_pair.ensures.arrays ∙ ap (λ xs. placed_pair c.end_pair.result xs m.new.first.made m.new.second.made) whole ∙ ap (λ r. placed_pair r now m.new.first.made m.new.second.made) ended_is in
    subst (λ r. PairEnds g.R.Ord.cmp g.R.Record.record_of g.R.Record.WIDTH g.S.Slot.shown c.args.level c.args.bench.now.workers r c.args.arrays.now.items c.end_pair.new.arrays.items c.args.lanes.now lanes stock stock') (sym ended_is)
    (pair_ends g.S.Slot.shown g.R.Record.WIDTH c.args.bench.now.workers c.args.level c.requires.level c.args.arrays.now.items c.gather_level.new.arrays.items c.args.lanes.now (g.P.Supply.stock c.args.supply.now) c.lend-lent.result.idle c.lend-lent.new.lanes.idle
    c.gather_level.ensures.moved c.gather_level.ensures.enough c.gather_level.ensures.levels c.requires.may c.requires.pair c.lend-lent.ensures.idle c.lend-lent.ensures.ten g.R.Ord.cmp g.R.Record.record_of c.end_pair.new.arrays.items now lanes stock'
    (table_of (last_part c.merge_sixteen-one.new.arrays) c.merge_sixteen-one.new.lanes c.merge_sixteen-one.new.first (g.P.Supply.stock c.merge_sixteen-one.new.supply))
    (table_of (part_before c.merge_sixteen-one.new.arrays) c.merge_sixteen-one.new.lent c.merge_sixteen-one.new.second c.merge_sixteen-one.new.aside) c.requires.ascend
    (let e : length c.merge_sixteen-one.new.aside.kept + c.merge_sixteen-one.new.aside.slot_room ≡ 2 ^ 32 - 2 = omega (arith, ap (λ h. h.0) c.merge_sixteen-one.ensures.aside_home, ap (λ s. length s.kept + s.slot_room) c.new-aside.ensures) in e)
    c.end_pair.ensures.stock c.take_back.ensures.idle (m.ensures.tools.jobs ∙ ap (λ l. l.jobs.items) c.lend-lent.ensures.rest) (m.ensures.tools.batch ∙ ap (λ l. length l.batch.items) c.lend-lent.ensures.rest)
    (m.ensures.others ∙ ap all_but_sixteen c.deref_mut.ensures.value) (m.ensures.long ∙ ap length c.deref_mut.ensures.value) refl refl m.result.0 m.result.1
    (ends_high g.S.Slot.shown g.R.Record.WIDTH c.args.bench.now.workers c.args.level c.requires.level c.args.arrays.now.items c.gather_level.new.arrays.items c.args.lanes.now (g.P.Supply.stock c.args.supply.now) c.lend-lent.result.idle c.lend-lent.new.lanes.idle
    c.gather_level.ensures.moved c.gather_level.ensures.enough c.gather_level.ensures.levels c.requires.may c.requires.pair c.lend-lent.ensures.idle c.lend-lent.ensures.ten g.R.Ord.cmp g.R.Record.record_of (table_of (last_part c.merge_sixteen-one.new.arrays) c.merge_sixteen-one.new.lanes c.merge_sixteen-one.new.first (g.P.Supply.stock c.merge_sixteen-one.new.supply)) c.merge_sixteen-one.result.0 (last_part c.deref_mut.result.now) c.lend-lent.new.lanes c.empty.result c.empty-2.result (ap last_part c.deref_mut.ensures.value) c.lend-lent.ensures.rest
    (c.empty.ensures ∙ ap (λ n. external n (run_of [] 0 []) [] []) c.min-next.ensures) c.empty-2.ensures c.merge_sixteen-one.ensures.one)
    (ends_low g.S.Slot.shown g.R.Record.WIDTH c.args.bench.now.workers c.args.level c.requires.level c.args.arrays.now.items c.gather_level.new.arrays.items c.args.lanes.now (g.P.Supply.stock c.args.supply.now) c.lend-lent.result.idle c.lend-lent.new.lanes.idle
    c.gather_level.ensures.moved c.gather_level.ensures.enough c.gather_level.ensures.levels c.requires.may c.requires.pair c.lend-lent.ensures.idle c.lend-lent.ensures.ten g.R.Ord.cmp g.R.Record.record_of (table_of (part_before c.merge_sixteen-one.new.arrays) c.merge_sixteen-one.new.lent c.merge_sixteen-one.new.second c.merge_sixteen-one.new.aside) c.merge_sixteen-one.result.1 (part_before c.deref_mut.result.now) c.empty-3.result c.empty-4.result c.new-aside.result c.args.other.now.workers (ap part_before c.deref_mut.ensures.value) (c.empty-3.ensures ∙ ap (λ n. external n (run_of [] 0 []) [] []) c.min-next.ensures)
    c.empty-4.ensures (c.new-aside.ensures ∙ ap (λ k. new_owner k (2 ^ 32 - 2) 0) (c.block-block.ensures ∙ first_block (g.P.Supply.stock c.args.supply.now).block c.args.lanes.now.idle c.at.result.now c.requires.may.size.idle c.at.ensures)) c.requires.other.0 c.merge_sixteen-one.ensures.two)
    placed)
