use Rattle.std.proofs.Common.{◌≡◌, [], length, sym, ap, ◌∙◌, subst, arith}
use Rattle.std.proofs.lemmas.List.Sorted.{length_permutation, sum_by-IsPermutation}
use Rattle.ppq_fetch.specs.ppq_array.Run.{run_of, buffers_of}
use Rattle.ppq_fetch.specs.ppq_array.External.{External, external}
use Rattle.ppq_fetch.specs.ppq_array.declared.store_fault.StoreFault.TheVariants.{Device}
use Rattle.ppq_spill.specs.Leveling.{MayLevel}
use Rattle.ppq_spill.proofs.Ends.{no_slots, may_merge, level_ends, level_stops}
use Rattle.ppq_spill.proofs.Leveled.{level_failed}
use Rattle.ppq_spill.proofs.level.merge_level.Goals as goal

pub draw_for_last-requires-clause-few : goal.draw_for_last-requires-clause-few
draw_for_last-requires-clause-few g c =
    let mid = c.gather_level.new.arrays.items in
    let same = sum_by-IsPermutation (λ (a : External g.row.S.Denot g.row.R.Denot). length (buffers_of a.loaded)) c.args.arrays.now.items mid c.gather_level.ensures.moved in
    omega (arith, same, c.requires.may.few_buffers)

pub merge_last-requires-clause-may : goal.merge_last-requires-clause-may
merge_last-requires-clause-may g c κs within =
    may_merge g.S.Slot.shown g.R.Record.WIDTH c.args.bench.now.workers c.args.level c.args.arrays.now.items c.gather_level.new.arrays.items c.args.lanes.now (g.P.Supply.stock c.args.supply.now) c.requires.level c.gather_level.ensures.moved c.gather_level.ensures.enough c.gather_level.ensures.levels c.requires.may
    (g.P.Supply.stock c.draw_for_last.new.supply) c.in-Some.berths c.in-Some.ensures.drawn c.in-Some.ensures.all c.empty-made.result (c.empty-made.ensures ∙ ap (λ n. external n (run_of [] 0 []) [] []) c.min.ensures)
    (length c.args.bench.now.places) c.requires.worker c.requires.bench

pub merge_last-requires-clause-room : goal.merge_last-requires-clause-room
merge_last-requires-clause-room g c κs within =
    let long = length_permutation c.args.arrays.now.items c.gather_level.new.arrays.items c.gather_level.ensures.moved in
    omega (arith, long, c.requires.room, c.gather_level.ensures.room)

pub returns-in_default-clause-kept : goal.returns-in_default-clause-kept
returns-in_default-clause-kept g c = (no_slots g.S.Slot.shown g.R.Record.WIDTH c.args.bench.now.workers c.args.level c.args.arrays.now.items c.gather_level.new.arrays.items c.args.lanes.now (g.P.Supply.stock c.args.supply.now) c.requires.level c.gather_level.ensures.moved c.gather_level.ensures.enough c.gather_level.ensures.levels c.requires.may (g.P.Supply.stock c.draw_for_last.new.supply) c.in_default.ensures.few).0.kept

pub returns-in_default-clause-tells : goal.returns-in_default-clause-tells
returns-in_default-clause-tells g c = (no_slots g.S.Slot.shown g.R.Record.WIDTH c.args.bench.now.workers c.args.level c.args.arrays.now.items c.gather_level.new.arrays.items c.args.lanes.now (g.P.Supply.stock c.args.supply.now) c.requires.level c.gather_level.ensures.moved c.gather_level.ensures.enough c.gather_level.ensures.levels c.requires.may (g.P.Supply.stock c.draw_for_last.new.supply) c.in_default.ensures.few).0.tells

pub returns-in_default-clause-calls : goal.returns-in_default-clause-calls
returns-in_default-clause-calls g c = (no_slots g.S.Slot.shown g.R.Record.WIDTH c.args.bench.now.workers c.args.level c.args.arrays.now.items c.gather_level.new.arrays.items c.args.lanes.now (g.P.Supply.stock c.args.supply.now) c.requires.level c.gather_level.ensures.moved c.gather_level.ensures.enough c.gather_level.ensures.levels c.requires.may (g.P.Supply.stock c.draw_for_last.new.supply) c.in_default.ensures.few).0.calls

pub returns-in_default-clause-counted : goal.returns-in_default-clause-counted
returns-in_default-clause-counted g c = (no_slots g.S.Slot.shown g.R.Record.WIDTH c.args.bench.now.workers c.args.level c.args.arrays.now.items c.gather_level.new.arrays.items c.args.lanes.now (g.P.Supply.stock c.args.supply.now) c.requires.level c.gather_level.ensures.moved c.gather_level.ensures.enough c.gather_level.ensures.levels c.requires.may (g.P.Supply.stock c.draw_for_last.new.supply) c.in_default.ensures.few).0.counted

pub returns-in_default-clause-size : goal.returns-in_default-clause-size
returns-in_default-clause-size g c = (no_slots g.S.Slot.shown g.R.Record.WIDTH c.args.bench.now.workers c.args.level c.args.arrays.now.items c.gather_level.new.arrays.items c.args.lanes.now (g.P.Supply.stock c.args.supply.now) c.requires.level c.gather_level.ensures.moved c.gather_level.ensures.enough c.gather_level.ensures.levels c.requires.may (g.P.Supply.stock c.draw_for_last.new.supply) c.in_default.ensures.few).0.size

pub returns-in_default-clause-none_free : goal.returns-in_default-clause-none_free
returns-in_default-clause-none_free g c = λ _. (no_slots g.S.Slot.shown g.R.Record.WIDTH c.args.bench.now.workers c.args.level c.args.arrays.now.items c.gather_level.new.arrays.items c.args.lanes.now (g.P.Supply.stock c.args.supply.now) c.requires.level c.gather_level.ensures.moved c.gather_level.ensures.enough c.gather_level.ensures.levels c.requires.may (g.P.Supply.stock c.draw_for_last.new.supply) c.in_default.ensures.few).1

pub returns-in_default-clause-may_still : goal.returns-in_default-clause-may_still
returns-in_default-clause-may_still g c = λ _. (no_slots g.S.Slot.shown g.R.Record.WIDTH c.args.bench.now.workers c.args.level c.args.arrays.now.items c.gather_level.new.arrays.items c.args.lanes.now (g.P.Supply.stock c.args.supply.now) c.requires.level c.gather_level.ensures.moved c.gather_level.ensures.enough c.gather_level.ensures.levels c.requires.may (g.P.Supply.stock c.draw_for_last.new.supply) c.in_default.ensures.few).2

pub returns-in-Ok-clause-kept : goal.returns-in-Ok-clause-kept
returns-in-Ok-clause-kept g c =
    (level_ends g.S.Slot.shown g.R.Record.WIDTH c.args.bench.now.workers c.args.level c.args.arrays.now.items c.gather_level.new.arrays.items c.args.lanes.now (g.P.Supply.stock c.args.supply.now) c.requires.level c.gather_level.ensures.moved c.gather_level.ensures.enough c.gather_level.ensures.levels c.requires.may
    (g.P.Supply.stock c.draw_for_last.new.supply) c.in-Some.berths c.in-Some.ensures.drawn c.in-Some.ensures.all c.empty-made.result (c.empty-made.ensures ∙ ap (λ n. external n (run_of [] 0 []) [] []) c.min.ensures)
    g.R.Ord.cmp g.R.Record.record_of c.merge_last.new.arrays.items c.merge_last.new.lanes (g.P.Supply.stock c.merge_last.new.supply) c.merge_last.ensures.tools.jobs c.merge_last.ensures.tools.batch c.requires.ascend c.in-Ok.ensures.outcome).0.kept

pub returns-in-Ok-clause-tells : goal.returns-in-Ok-clause-tells
returns-in-Ok-clause-tells g c =
    (level_ends g.S.Slot.shown g.R.Record.WIDTH c.args.bench.now.workers c.args.level c.args.arrays.now.items c.gather_level.new.arrays.items c.args.lanes.now (g.P.Supply.stock c.args.supply.now) c.requires.level c.gather_level.ensures.moved c.gather_level.ensures.enough c.gather_level.ensures.levels c.requires.may
    (g.P.Supply.stock c.draw_for_last.new.supply) c.in-Some.berths c.in-Some.ensures.drawn c.in-Some.ensures.all c.empty-made.result (c.empty-made.ensures ∙ ap (λ n. external n (run_of [] 0 []) [] []) c.min.ensures)
    g.R.Ord.cmp g.R.Record.record_of c.merge_last.new.arrays.items c.merge_last.new.lanes (g.P.Supply.stock c.merge_last.new.supply) c.merge_last.ensures.tools.jobs c.merge_last.ensures.tools.batch c.requires.ascend c.in-Ok.ensures.outcome).0.tells

pub returns-in-Ok-clause-calls : goal.returns-in-Ok-clause-calls
returns-in-Ok-clause-calls g c =
    (level_ends g.S.Slot.shown g.R.Record.WIDTH c.args.bench.now.workers c.args.level c.args.arrays.now.items c.gather_level.new.arrays.items c.args.lanes.now (g.P.Supply.stock c.args.supply.now) c.requires.level c.gather_level.ensures.moved c.gather_level.ensures.enough c.gather_level.ensures.levels c.requires.may
    (g.P.Supply.stock c.draw_for_last.new.supply) c.in-Some.berths c.in-Some.ensures.drawn c.in-Some.ensures.all c.empty-made.result (c.empty-made.ensures ∙ ap (λ n. external n (run_of [] 0 []) [] []) c.min.ensures)
    g.R.Ord.cmp g.R.Record.record_of c.merge_last.new.arrays.items c.merge_last.new.lanes (g.P.Supply.stock c.merge_last.new.supply) c.merge_last.ensures.tools.jobs c.merge_last.ensures.tools.batch c.requires.ascend c.in-Ok.ensures.outcome).0.calls

pub returns-in-Ok-clause-counted : goal.returns-in-Ok-clause-counted
returns-in-Ok-clause-counted g c =
    (level_ends g.S.Slot.shown g.R.Record.WIDTH c.args.bench.now.workers c.args.level c.args.arrays.now.items c.gather_level.new.arrays.items c.args.lanes.now (g.P.Supply.stock c.args.supply.now) c.requires.level c.gather_level.ensures.moved c.gather_level.ensures.enough c.gather_level.ensures.levels c.requires.may
    (g.P.Supply.stock c.draw_for_last.new.supply) c.in-Some.berths c.in-Some.ensures.drawn c.in-Some.ensures.all c.empty-made.result (c.empty-made.ensures ∙ ap (λ n. external n (run_of [] 0 []) [] []) c.min.ensures)
    g.R.Ord.cmp g.R.Record.record_of c.merge_last.new.arrays.items c.merge_last.new.lanes (g.P.Supply.stock c.merge_last.new.supply) c.merge_last.ensures.tools.jobs c.merge_last.ensures.tools.batch c.requires.ascend c.in-Ok.ensures.outcome).0.counted

pub returns-in-Ok-clause-size : goal.returns-in-Ok-clause-size
returns-in-Ok-clause-size g c =
    (level_ends g.S.Slot.shown g.R.Record.WIDTH c.args.bench.now.workers c.args.level c.args.arrays.now.items c.gather_level.new.arrays.items c.args.lanes.now (g.P.Supply.stock c.args.supply.now) c.requires.level c.gather_level.ensures.moved c.gather_level.ensures.enough c.gather_level.ensures.levels c.requires.may
    (g.P.Supply.stock c.draw_for_last.new.supply) c.in-Some.berths c.in-Some.ensures.drawn c.in-Some.ensures.all c.empty-made.result (c.empty-made.ensures ∙ ap (λ n. external n (run_of [] 0 []) [] []) c.min.ensures)
    g.R.Ord.cmp g.R.Record.record_of c.merge_last.new.arrays.items c.merge_last.new.lanes (g.P.Supply.stock c.merge_last.new.supply) c.merge_last.ensures.tools.jobs c.merge_last.ensures.tools.batch c.requires.ascend c.in-Ok.ensures.outcome).0.size

pub returns-in-Ok-clause-again : goal.returns-in-Ok-clause-again
returns-in-Ok-clause-again g c =
    subst (λ k. MayLevel g.S.Slot.shown g.R.Record.WIDTH k c.merge_last.new.arrays.items c.merge_last.new.lanes (g.P.Supply.stock c.merge_last.new.supply)) (sym c.merge_last.ensures.tools.workers)
    (level_ends g.S.Slot.shown g.R.Record.WIDTH c.args.bench.now.workers c.args.level c.args.arrays.now.items c.gather_level.new.arrays.items c.args.lanes.now (g.P.Supply.stock c.args.supply.now) c.requires.level c.gather_level.ensures.moved c.gather_level.ensures.enough c.gather_level.ensures.levels c.requires.may
    (g.P.Supply.stock c.draw_for_last.new.supply) c.in-Some.berths c.in-Some.ensures.drawn c.in-Some.ensures.all c.empty-made.result (c.empty-made.ensures ∙ ap (λ n. external n (run_of [] 0 []) [] []) c.min.ensures)
    g.R.Ord.cmp g.R.Record.record_of c.merge_last.new.arrays.items c.merge_last.new.lanes (g.P.Supply.stock c.merge_last.new.supply) c.merge_last.ensures.tools.jobs c.merge_last.ensures.tools.batch c.requires.ascend c.in-Ok.ensures.outcome).1

pub returns-in-Ok-clause-idle : goal.returns-in-Ok-clause-idle
returns-in-Ok-clause-idle g c =
    (level_ends g.S.Slot.shown g.R.Record.WIDTH c.args.bench.now.workers c.args.level c.args.arrays.now.items c.gather_level.new.arrays.items c.args.lanes.now (g.P.Supply.stock c.args.supply.now) c.requires.level c.gather_level.ensures.moved c.gather_level.ensures.enough c.gather_level.ensures.levels c.requires.may
    (g.P.Supply.stock c.draw_for_last.new.supply) c.in-Some.berths c.in-Some.ensures.drawn c.in-Some.ensures.all c.empty-made.result (c.empty-made.ensures ∙ ap (λ n. external n (run_of [] 0 []) [] []) c.min.ensures)
    g.R.Ord.cmp g.R.Record.record_of c.merge_last.new.arrays.items c.merge_last.new.lanes (g.P.Supply.stock c.merge_last.new.supply) c.merge_last.ensures.tools.jobs c.merge_last.ensures.tools.batch c.requires.ascend c.in-Ok.ensures.outcome).2

pub returns-in-Ok-clause-merged : goal.returns-in-Ok-clause-merged
returns-in-Ok-clause-merged g c =
    (level_ends g.S.Slot.shown g.R.Record.WIDTH c.args.bench.now.workers c.args.level c.args.arrays.now.items c.gather_level.new.arrays.items c.args.lanes.now (g.P.Supply.stock c.args.supply.now) c.requires.level c.gather_level.ensures.moved c.gather_level.ensures.enough c.gather_level.ensures.levels c.requires.may
    (g.P.Supply.stock c.draw_for_last.new.supply) c.in-Some.berths c.in-Some.ensures.drawn c.in-Some.ensures.all c.empty-made.result (c.empty-made.ensures ∙ ap (λ n. external n (run_of [] 0 []) [] []) c.min.ensures)
    g.R.Ord.cmp g.R.Record.record_of c.merge_last.new.arrays.items c.merge_last.new.lanes (g.P.Supply.stock c.merge_last.new.supply) c.merge_last.ensures.tools.jobs c.merge_last.ensures.tools.batch c.requires.ascend c.in-Ok.ensures.outcome).3

pub returns-in-Err-clause-kept : goal.returns-in-Err-clause-kept
returns-in-Err-clause-kept g c =
    (level_stops g.S.Slot.shown g.R.Record.WIDTH c.args.bench.now.workers c.args.level c.args.arrays.now.items c.gather_level.new.arrays.items c.args.lanes.now (g.P.Supply.stock c.args.supply.now) c.requires.level c.gather_level.ensures.moved c.gather_level.ensures.enough c.gather_level.ensures.levels c.requires.may
    (g.P.Supply.stock c.draw_for_last.new.supply) c.in-Some.berths c.in-Some.ensures.drawn c.in-Some.ensures.all c.empty-made.result (c.empty-made.ensures ∙ ap (λ n. external n (run_of [] 0 []) [] []) c.min.ensures)
    c.merge_last.new.arrays.items c.merge_last.new.lanes (g.P.Supply.stock c.merge_last.new.supply) c.in-Err.fault c.merge_last.ensures.tools.jobs c.in-Err.ensures.outcome).kept

pub returns-in-Err-clause-tells : goal.returns-in-Err-clause-tells
returns-in-Err-clause-tells g c =
    (level_stops g.S.Slot.shown g.R.Record.WIDTH c.args.bench.now.workers c.args.level c.args.arrays.now.items c.gather_level.new.arrays.items c.args.lanes.now (g.P.Supply.stock c.args.supply.now) c.requires.level c.gather_level.ensures.moved c.gather_level.ensures.enough c.gather_level.ensures.levels c.requires.may
    (g.P.Supply.stock c.draw_for_last.new.supply) c.in-Some.berths c.in-Some.ensures.drawn c.in-Some.ensures.all c.empty-made.result (c.empty-made.ensures ∙ ap (λ n. external n (run_of [] 0 []) [] []) c.min.ensures)
    c.merge_last.new.arrays.items c.merge_last.new.lanes (g.P.Supply.stock c.merge_last.new.supply) c.in-Err.fault c.merge_last.ensures.tools.jobs c.in-Err.ensures.outcome).tells

pub returns-in-Err-clause-calls : goal.returns-in-Err-clause-calls
returns-in-Err-clause-calls g c =
    (level_stops g.S.Slot.shown g.R.Record.WIDTH c.args.bench.now.workers c.args.level c.args.arrays.now.items c.gather_level.new.arrays.items c.args.lanes.now (g.P.Supply.stock c.args.supply.now) c.requires.level c.gather_level.ensures.moved c.gather_level.ensures.enough c.gather_level.ensures.levels c.requires.may
    (g.P.Supply.stock c.draw_for_last.new.supply) c.in-Some.berths c.in-Some.ensures.drawn c.in-Some.ensures.all c.empty-made.result (c.empty-made.ensures ∙ ap (λ n. external n (run_of [] 0 []) [] []) c.min.ensures)
    c.merge_last.new.arrays.items c.merge_last.new.lanes (g.P.Supply.stock c.merge_last.new.supply) c.in-Err.fault c.merge_last.ensures.tools.jobs c.in-Err.ensures.outcome).calls

pub returns-in-Err-clause-counted : goal.returns-in-Err-clause-counted
returns-in-Err-clause-counted g c =
    (level_stops g.S.Slot.shown g.R.Record.WIDTH c.args.bench.now.workers c.args.level c.args.arrays.now.items c.gather_level.new.arrays.items c.args.lanes.now (g.P.Supply.stock c.args.supply.now) c.requires.level c.gather_level.ensures.moved c.gather_level.ensures.enough c.gather_level.ensures.levels c.requires.may
    (g.P.Supply.stock c.draw_for_last.new.supply) c.in-Some.berths c.in-Some.ensures.drawn c.in-Some.ensures.all c.empty-made.result (c.empty-made.ensures ∙ ap (λ n. external n (run_of [] 0 []) [] []) c.min.ensures)
    c.merge_last.new.arrays.items c.merge_last.new.lanes (g.P.Supply.stock c.merge_last.new.supply) c.in-Err.fault c.merge_last.ensures.tools.jobs c.in-Err.ensures.outcome).counted

pub returns-in-Err-clause-size : goal.returns-in-Err-clause-size
returns-in-Err-clause-size g c =
    (level_stops g.S.Slot.shown g.R.Record.WIDTH c.args.bench.now.workers c.args.level c.args.arrays.now.items c.gather_level.new.arrays.items c.args.lanes.now (g.P.Supply.stock c.args.supply.now) c.requires.level c.gather_level.ensures.moved c.gather_level.ensures.enough c.gather_level.ensures.levels c.requires.may
    (g.P.Supply.stock c.draw_for_last.new.supply) c.in-Some.berths c.in-Some.ensures.drawn c.in-Some.ensures.all c.empty-made.result (c.empty-made.ensures ∙ ap (λ n. external n (run_of [] 0 []) [] []) c.min.ensures)
    c.merge_last.new.arrays.items c.merge_last.new.lanes (g.P.Supply.stock c.merge_last.new.supply) c.in-Err.fault c.merge_last.ensures.tools.jobs c.in-Err.ensures.outcome).size

pub returns-in-Err-clause-device : goal.returns-in-Err-clause-device
returns-in-Err-clause-device g c =
    let last = c.in-Err.ensures.outcome in
    λ number e. level_failed g.S.Slot.shown c.merge_last.new.arrays.items last.end.hand (g.P.Supply.stock c.merge_last.new.supply) c.in-Err.fault number last.stock_is last.failed.failed (let same : c.in-Err.fault ≡ Device number = cc in same)
