use Rattle.std.proofs.Common.{◌≡◌, ◌*◌, length, All, refl, sym, ap, subst, arith}
use Rattle.std.proofs.lemmas.List.Elements.{All-push}
use Rattle.ppq_fetch.specs.ppq_array.Holdings.{RunHasBlock}
use Rattle.ppq_spill.proofs.Storings.{sizes_after, stopped_after}
use Rattle.std.proofs.lemmas.Result.{on_ok_weaker}
use Rattle.ppq_spill.specs.Storing.{BlocksStored}
use Rattle.ppq_spill.specs.Body.{body_slots}
use Rattle.ppq_spill.proofs.Going.{went_untouched, more_writes}
use Rattle.ppq_spill.proofs.InBlocks.{stored_after, ascend_still, leaves_still, ends_stored, none_after, short_after}
use Rattle.ppq_spill.proofs.Costing.{store_counted, buffers_counted}
use Rattle.ppq_spill.proofs.store.store_sorted.Goals as goal

pub store_in_blocks-requires-clause-ascend : goal.store_in_blocks-requires-clause-ascend
store_in_blocks-requires-clause-ascend g c κs within =
    ascend_still g.R.Ord.cmp g.S.Slot.shown c.args.sorted.now c.args.body.now (g.P.Supply.stock c.args.supply.now) (g.P.Supply.stock c.store_in_buffers.new.supply) c.in-None.ensures.scant c.requires.ascend

pub returns-in-None-clause-stored : goal.returns-in-None-clause-stored
returns-in-None-clause-stored g c =
    on_ok_weaker c.store_in_blocks.result
    (λ (b : BlocksStored g.R.Ord.cmp g.R.Record.record_of g.R.Record.WIDTH g.S.Slot.shown c.args.sorted.now c.args.body.now c.store_in_blocks.new.body (g.P.Supply.stock c.store_in_buffers.new.supply) (g.P.Supply.stock c.store_in_blocks.new.supply)).
    stored_after g.R.Ord.cmp g.R.Record.record_of g.R.Record.WIDTH c.block-block.result g.S.Slot.shown c.args.sorted.now c.args.body.now c.store_in_blocks.new.body (g.P.Supply.stock c.args.supply.now) (g.P.Supply.stock c.store_in_buffers.new.supply) (g.P.Supply.stock c.store_in_blocks.new.supply)
    c.in-None.ensures.scant c.store_in_blocks.ensures.scant b)
    (ends_stored g.R.Ord.cmp g.R.Record.record_of g.R.Record.WIDTH g.S.Slot.shown c.args.sorted.now c.args.body.now c.store_in_blocks.new.body (g.P.Supply.stock c.store_in_buffers.new.supply) (g.P.Supply.stock c.store_in_blocks.new.supply) c.store_in_blocks.result c.store_in_blocks.ensures.outcome)

pub returns-in-Some-clause-size : goal.returns-in-Some-clause-size
returns-in-Some-clause-size g c =
    let is = c.requires.room.size in
    let old = g.P.Supply.stock c.args.supply.now in
    sizes_after g.S.Slot.shown g.R.Record.WIDTH c.args.body.now _ old (g.P.Supply.stock c.store_in_buffers.new.supply) is (ap (λ s. s.block) c.in-Some.ensures.stored.stock) is.idle
    (subst (All (RunHasBlock old.block)) (sym c.push_reserved.ensures.items) (All-push (RunHasBlock old.block) c.args.body.now.runs.internal.items c.in-Some.run' is.internal c.in-Some.ensures.stored.blocks)) is.external

pub returns-in-Some-clause-writes : goal.returns-in-Some-clause-writes
returns-in-Some-clause-writes g c =
    let o = g.P.Supply.stock c.args.supply.now in
    let n = g.P.Supply.stock c.store_in_buffers.new.supply in
    let is = c.in-Some.ensures.stored.stock in
    let went = (went_untouched (body_slots g.S.Slot.shown c.args.body.now) o n (ap (λ s. s.kept) is) (ap (λ s. s.drawn) is)).went in
    record {
      blocks = 0;
      few = omega (arith, c.requires.some, (let z : 0 * o.block ≡ 0 = omega arith in z));
      transfers = more_writes 0 _ _ went;
      stay = went.calls.stay;
    }

pub returns-in-Some-clause-tells : goal.returns-in-Some-clause-tells
returns-in-Some-clause-tells g c =
    let o = g.P.Supply.stock c.args.supply.now in
    let n = g.P.Supply.stock c.store_in_buffers.new.supply in
    let is = c.in-Some.ensures.stored.stock in
    (went_untouched (body_slots g.S.Slot.shown c.args.body.now) o n (ap (λ s. s.kept) is) (ap (λ s. s.drawn) is)).went.tells

pub returns-in-Some-clause-untold : goal.returns-in-Some-clause-untold
returns-in-Some-clause-untold g c =
    let o = g.P.Supply.stock c.args.supply.now in
    let n = g.P.Supply.stock c.store_in_buffers.new.supply in
    let is = c.in-Some.ensures.stored.stock in
    (went_untouched (body_slots g.S.Slot.shown c.args.body.now) o n (ap (λ s. s.kept) is) (ap (λ s. s.drawn) is)).untold

pub returns-in-None-clause-kept : goal.returns-in-None-clause-kept
returns-in-None-clause-kept g c = (leaves_still g.S.Slot.shown g.R.Record.WIDTH (length c.args.sorted.now) (length c.args.sorted.now) c.args.body.now c.store_in_blocks.new.body (g.P.Supply.stock c.args.supply.now) (g.P.Supply.stock c.store_in_buffers.new.supply) (g.P.Supply.stock c.store_in_blocks.new.supply) c.in-None.ensures.scant c.store_in_blocks.ensures.leaves).kept

pub returns-in-None-clause-takes_back : goal.returns-in-None-clause-takes_back
returns-in-None-clause-takes_back g c = (leaves_still g.S.Slot.shown g.R.Record.WIDTH (length c.args.sorted.now) (length c.args.sorted.now) c.args.body.now c.store_in_blocks.new.body (g.P.Supply.stock c.args.supply.now) (g.P.Supply.stock c.store_in_buffers.new.supply) (g.P.Supply.stock c.store_in_blocks.new.supply) c.in-None.ensures.scant c.store_in_blocks.ensures.leaves).takes_back

pub returns-in-None-clause-tells : goal.returns-in-None-clause-tells
returns-in-None-clause-tells g c = (leaves_still g.S.Slot.shown g.R.Record.WIDTH (length c.args.sorted.now) (length c.args.sorted.now) c.args.body.now c.store_in_blocks.new.body (g.P.Supply.stock c.args.supply.now) (g.P.Supply.stock c.store_in_buffers.new.supply) (g.P.Supply.stock c.store_in_blocks.new.supply) c.in-None.ensures.scant c.store_in_blocks.ensures.leaves).tells

pub returns-in-None-clause-untold : goal.returns-in-None-clause-untold
returns-in-None-clause-untold g c = (leaves_still g.S.Slot.shown g.R.Record.WIDTH (length c.args.sorted.now) (length c.args.sorted.now) c.args.body.now c.store_in_blocks.new.body (g.P.Supply.stock c.args.supply.now) (g.P.Supply.stock c.store_in_buffers.new.supply) (g.P.Supply.stock c.store_in_blocks.new.supply) c.in-None.ensures.scant c.store_in_blocks.ensures.leaves).untold

pub returns-in-None-clause-writes : goal.returns-in-None-clause-writes
returns-in-None-clause-writes g c = (leaves_still g.S.Slot.shown g.R.Record.WIDTH (length c.args.sorted.now) (length c.args.sorted.now) c.args.body.now c.store_in_blocks.new.body (g.P.Supply.stock c.args.supply.now) (g.P.Supply.stock c.store_in_buffers.new.supply) (g.P.Supply.stock c.store_in_blocks.new.supply) c.in-None.ensures.scant c.store_in_blocks.ensures.leaves).writes

pub returns-in-None-clause-lanes : goal.returns-in-None-clause-lanes
returns-in-None-clause-lanes g c = (leaves_still g.S.Slot.shown g.R.Record.WIDTH (length c.args.sorted.now) (length c.args.sorted.now) c.args.body.now c.store_in_blocks.new.body (g.P.Supply.stock c.args.supply.now) (g.P.Supply.stock c.store_in_buffers.new.supply) (g.P.Supply.stock c.store_in_blocks.new.supply) c.in-None.ensures.scant c.store_in_blocks.ensures.leaves).lanes

pub returns-in-None-clause-size : goal.returns-in-None-clause-size
returns-in-None-clause-size g c = (leaves_still g.S.Slot.shown g.R.Record.WIDTH (length c.args.sorted.now) (length c.args.sorted.now) c.args.body.now c.store_in_blocks.new.body (g.P.Supply.stock c.args.supply.now) (g.P.Supply.stock c.store_in_buffers.new.supply) (g.P.Supply.stock c.store_in_blocks.new.supply) c.in-None.ensures.scant c.store_in_blocks.ensures.leaves).size

pub returns-in-None-clause-rooms : goal.returns-in-None-clause-rooms
returns-in-None-clause-rooms g c = (leaves_still g.S.Slot.shown g.R.Record.WIDTH (length c.args.sorted.now) (length c.args.sorted.now) c.args.body.now c.store_in_blocks.new.body (g.P.Supply.stock c.args.supply.now) (g.P.Supply.stock c.store_in_buffers.new.supply) (g.P.Supply.stock c.store_in_blocks.new.supply) c.in-None.ensures.scant c.store_in_blocks.ensures.leaves).rooms

pub returns-in-None-clause-none_free : goal.returns-in-None-clause-none_free
returns-in-None-clause-none_free g c =
    λ e. none_after (length c.args.sorted.now) c.args.body.now c.store_in_blocks.new.body (g.P.Supply.stock c.args.supply.now) (g.P.Supply.stock c.store_in_buffers.new.supply) (g.P.Supply.stock c.store_in_blocks.new.supply) c.in-None.ensures.scant c.store_in_blocks.ensures.scant (rw e at c.store_in_blocks.ensures.outcome)

pub returns-in-None-clause-device : goal.returns-in-None-clause-device
returns-in-None-clause-device g c = λ number e.
    record {
      short = short_after (length c.args.sorted.now) (g.P.Supply.stock c.args.supply.now) (g.P.Supply.stock c.store_in_buffers.new.supply) (g.P.Supply.stock c.store_in_blocks.new.supply) c.in-None.ensures.scant c.store_in_blocks.ensures.scant;
      stopped = stopped_after g.S.Slot.shown number (length c.args.sorted.now) c.args.body.now c.store_in_blocks.new.body (g.P.Supply.stock c.args.supply.now) (g.P.Supply.stock c.store_in_buffers.new.supply) (g.P.Supply.stock c.store_in_blocks.new.supply) c.in-None.ensures.scant (rw e at c.store_in_blocks.ensures.outcome);
    }

pub returns-in-None-clause-counted : goal.returns-in-None-clause-counted
returns-in-None-clause-counted g c =
    let e = c.store_in_blocks.ensures in
    store_counted g.S.Slot.shown g.R.Ord.cmp g.R.Record.record_of g.R.Record.WIDTH c.args.sorted.now c.args.body.now c.store_in_blocks.new.body (g.P.Supply.stock c.args.supply.now) (g.P.Supply.stock c.store_in_buffers.new.supply) (g.P.Supply.stock c.store_in_blocks.new.supply) c.in-None.ensures.scant c.requires.room.no_job e.leaves
    c.store_in_blocks.result e.outcome

pub returns-in-Some-clause-counted : goal.returns-in-Some-clause-counted
returns-in-Some-clause-counted g c =
    let o = g.P.Supply.stock c.args.supply.now in
    let n = g.P.Supply.stock c.store_in_buffers.new.supply in
    let is = c.in-Some.ensures.stored in
    let went = (went_untouched (body_slots g.S.Slot.shown c.args.body.now) o n (ap (λ s. s.kept) is.stock) (ap (λ s. s.drawn) is.stock)).went in
    let body = c.args.body.now in
    let b = record body { runs = record body.runs { internal = c.push_reserved.new.self } } in
    buffers_counted g.S.Slot.shown tt c.args.sorted.now c.in-Some.run' body b o n went.calls is.items c.push_reserved.ensures.items refl
