use Rattle.std.proofs.Common.{◌≡◌, ◌∷◌, [], ◌++◌, All, length, get_or, slice_set, Some, IfNone, IfSome, sym, ap, ◌∙◌, subst, arith, length-set}
use Rattle.std.specs.List.{AllZip}
use Rattle.std.proofs.lemmas.List.Elements.{All-nil, All-cons, All-head, All-tail, length_all_zip}
use Rattle.ppq_array.specs.declared.berth.DeviceBlock.{DeviceBlock}
use Rattle.ppq_array.specs.Owner.{HasBlock}
use Rattle.ppq_array.proofs.ppq_record.Fronts.{ranks}
use Rattle.ppq_merge.specs.ppq_split.Cut.{AreWithin}
use Rattle.ppq_lane.specs.Jobs.{MayRun, IsDone}
use Rattle.ppq_fetch.specs.Steps.{MergesSafe, SameBlocks}
use Rattle.ppq_fetch.specs.Beside.{MayLand, BlockLanded, BlockFailed}
use Rattle.ppq_fetch.specs.Fetching.{state}
use Rattle.ppq_fetch.proofs.Hints.{four_nexts, long_four}
use Rattle.ppq_fetch.proofs.Takes.{merged_within, taken_later}
use Rattle.ppq_fetch.proofs.Beside.{two_idle, second_stored, lift_as, none_there, stored_within, lifted_lists, lifted_count, may_read_at, may_land_at, first_at, second_at, taken_first, may_land_second, few_idle_second, lost_first, lost_second, both_fetched, both_may, both_before}
use Rattle.ppq_fetch.proofs.prefetch.take_ahead.Goals as goal

pub lift_block-one-requires-clause-idle : goal.lift_block-one-requires-clause-idle
lift_block-one-requires-clause-idle g c κs within =
    let a = c.args in
    omega (arith, two_idle g.S.Slot.shown g.R.Record.WIDTH a.ahead a.two.first a.two.second (state a.internal.now a.external.now a.idle.now (g.P.Supply.stock a.supply.now)) c.requires.may.sources c.requires.two)

pub bounds-external-two-2 : goal.bounds-external-two-2
bounds-external-two-2 g c = omega (arith, stored_within c.args.external.now c.args.two.second c.requires.two.other, length-set c.args.external.now c.args.two.first c.lift_block-one.new.array)

pub offset_bounds-external-two-2 : goal.offset_bounds-external-two-2
offset_bounds-external-two-2 g c = omega (arith, stored_within c.args.external.now c.args.two.second c.requires.two.other, c.requires.may.sources.few_runs)

pub lift_block-other-requires-clause-stored : goal.lift_block-other-requires-clause-stored
lift_block-other-requires-clause-stored g c κs within =
    let a = c.args in
    second_stored a.external.now a.two.first a.two.second c.lift_block-one.new.array c.index-external-two-2.result c.requires.two.apart c.requires.two.other

pub lift_block-other-requires-clause-idle : goal.lift_block-other-requires-clause-idle
lift_block-other-requires-clause-idle g c κs within =
    let a = c.args in
    omega (arith, ap length c.lift_block-one.ensures.lifted.taken, two_idle g.S.Slot.shown g.R.Record.WIDTH a.ahead a.two.first a.two.second (state a.internal.now a.external.now a.idle.now (g.P.Supply.stock a.supply.now)) c.requires.may.sources c.requires.two)

pub merge_beside-requires-clause-jobs : goal.merge_beside-requires-clause-jobs
merge_beside-requires-clause-jobs g c κs within =
    let a = c.args in
    let l = c.lift_block-one in
    let o = c.lift_block-other in
    let w = g.R.Record.WIDTH in
    let s = state a.internal.now a.external.now a.idle.now (g.P.Supply.stock a.supply.now) in
    let n = (g.P.Supply.stock a.supply.now).block in
    let bufs = subst (All (HasBlock n)) l.ensures.lifted.taken c.requires.may.sources.idle in
    let rest = subst (All (HasBlock n)) o.ensures.lifted.taken (All-tail (HasBlock n) l.result.buf l.new.idle bufs) in
    let P = MayRun w (λ (b : DeviceBlock g.row.S.Denot g.row.R.Denot). g.S.Slot.shown b.slot) in
    let first = may_read_at g.R.Record.bytes_of g.R.Record.record_of g.R.Record.WIDTH g.S.Slot.shown a.ahead s c.requires.may.sources a.two.first c.index-external-two.result l.new.array a.idle.now l.new.idle l.result (stored_within a.external.now a.two.first c.requires.two.one) l.ensures.lifted c.record_laws.ensures.width.0 (All-head (HasBlock n) l.result.buf l.new.idle bufs) in
    let second = may_read_at g.R.Record.bytes_of g.R.Record.record_of g.R.Record.WIDTH g.S.Slot.shown a.ahead s c.requires.may.sources a.two.second c.index-external-two-2.result o.new.array l.new.idle o.new.idle o.result (stored_within a.external.now a.two.second c.requires.two.other)
    (lift_as g.R.Record.record_of w g.S.Slot.shown a.external.now a.two.first a.two.second l.new.array c.index-external-two-2.result o.new.array l.new.idle o.new.idle o.result c.requires.two.apart o.ensures.lifted) c.record_laws.ensures.width.0 (All-head (HasBlock n) o.result.buf o.new.idle rest) in
    All-cons P l.result (o.result ∷ []) first (All-cons P o.result [] second (All-nil P))

pub merge_beside-requires-clause-may : goal.merge_beside-requires-clause-may
merge_beside-requires-clause-may g c κs within =
    let a = c.args in
    let l = c.lift_block-one in
    let o = c.lift_block-other in
    let w = g.R.Record.WIDTH in
    let s = c.requires.may.sources in
    let plan = c.requires.plan in
    let one = lifted_lists g.R.Record.record_of w g.S.Slot.shown a.internal.now a.external.now a.two.first c.index-external-two.result l.new.array a.idle.now l.new.idle l.result l.ensures.lifted in
    let other = lifted_lists g.R.Record.record_of w g.S.Slot.shown a.internal.now (slice_set a.external.now a.two.first l.new.array) a.two.second c.index-external-two-2.result o.new.array l.new.idle o.new.idle o.result o.ensures.lifted in
    let long = length-set a.external.now a.two.first l.new.array in
    let long' = length-set (slice_set a.external.now a.two.first l.new.array) a.two.second o.new.array in
    record {
      few_runs = omega (arith, s.few_runs, long, long');
      few_records = omega (
        arith,
        s.few_records,
        lifted_count g.R.Record.record_of w g.S.Slot.shown a.internal.now a.external.now a.two.first c.index-external-two.result l.new.array a.idle.now l.new.idle l.result (stored_within a.external.now a.two.first c.requires.two.one) l.ensures.lifted,
        lifted_count g.R.Record.record_of w g.S.Slot.shown a.internal.now (slice_set a.external.now a.two.first l.new.array) a.two.second c.index-external-two-2.result o.new.array l.new.idle o.new.idle o.result (omega (arith, stored_within a.external.now a.two.second c.requires.two.other, long)) o.ensures.lifted,
      );
      within = subst (AreWithin a.places.now) (sym (other ∙ one)) plan.within;
      count = plan.count;
      bench_room = omega (arith, c.requires.places, c.requires.bench, long, long');
    }

pub bounds-external-two-3 : goal.bounds-external-two-3
bounds-external-two-3 g c =
    let a = c.args in
    let l = c.lift_block-one in
    let o = c.lift_block-other in
    omega (arith, stored_within a.external.now a.two.first c.requires.two.one, length-set a.external.now a.two.first l.new.array, length-set (slice_set a.external.now a.two.first l.new.array) a.two.second o.new.array)

pub offset_bounds-external-two-3 : goal.offset_bounds-external-two-3
offset_bounds-external-two-3 g c = omega (arith, stored_within c.args.external.now c.args.two.first c.requires.two.one, c.requires.may.sources.few_runs)

pub land_block-failed-requires-clause-may : goal.land_block-failed-requires-clause-may
land_block-failed-requires-clause-may g c =
    let a = c.args in
    let l = c.lift_block-one in
    let o = c.lift_block-other in
    let k1 = c.apart-one.result.0 in
    let k2 = c.apart-one.result.1 in
    let zip = subst (λ js. AllZip (IsDone g.R.Record.bytes_of g.R.Record.record_of g.R.Record.WIDTH (λ (b : DeviceBlock g.row.S.Denot g.row.R.Denot). g.S.Slot.shown b.slot)) (l.result ∷ o.result ∷ []) js) c.apart-one.ensures c.merge_beside.ensures.jobs in
    subst (λ m. MayLand g.R.Record.record_of g.R.Record.WIDTH g.S.Slot.shown k1 m (g.P.Supply.stock a.supply.now)) (sym (first_at g.R.Record.bytes_of g.R.Record.record_of g.R.Record.WIDTH g.S.Slot.shown c.record_laws.ensures.width.0 a.internal.now a.external.now a.idle.now (g.P.Supply.stock a.supply.now) a.ahead a.two.first a.two.second c.requires.may c.requires.two c.index-external-two.result c.index-external-two-2.result l.new.array o.new.array l.new.idle o.new.idle l.result o.result k1 k2 l.ensures.lifted o.ensures.lifted zip.0 zip.1.0 c.index-external-two-3.result))
    (may_land_at g.R.Record.bytes_of g.R.Record.record_of g.R.Record.WIDTH g.S.Slot.shown a.ahead (state a.internal.now a.external.now a.idle.now (g.P.Supply.stock a.supply.now)) c.requires.may.sources a.two.first c.index-external-two.result l.new.array a.idle.now l.new.idle l.result (stored_within a.external.now a.two.first c.requires.two.one) l.ensures.lifted
    (none_there a.external.now c.requires.may.none_lifted a.two.first c.index-external-two.result (stored_within a.external.now a.two.first c.requires.two.one)) k1 zip.0)

pub bounds-external-two-4 : goal.bounds-external-two-4
bounds-external-two-4 g c =
    let a = c.args in
    let l = c.lift_block-one in
    let o = c.lift_block-other in
    omega (
      arith,
      stored_within a.external.now a.two.second c.requires.two.other,
      length-set a.external.now a.two.first l.new.array,
      length-set (slice_set a.external.now a.two.first l.new.array) a.two.second o.new.array,
      length-set (slice_set (slice_set a.external.now a.two.first l.new.array) a.two.second o.new.array) a.two.first c.land_block-failed.new.array,
    )

pub offset_bounds-external-two-4 : goal.offset_bounds-external-two-4
offset_bounds-external-two-4 g c = omega (arith, stored_within c.args.external.now c.args.two.second c.requires.two.other, c.requires.may.sources.few_runs)

pub land_block-failed_too-requires-clause-may : goal.land_block-failed_too-requires-clause-may
land_block-failed_too-requires-clause-may g c =
    let a = c.args in
    let l = c.lift_block-one in
    let o = c.lift_block-other in
    let k1 = c.apart-one.result.0 in
    let k2 = c.apart-one.result.1 in
    let zip = subst (λ js. AllZip (IsDone g.R.Record.bytes_of g.R.Record.record_of g.R.Record.WIDTH (λ (b : DeviceBlock g.row.S.Denot g.row.R.Denot). g.S.Slot.shown b.slot)) (l.result ∷ o.result ∷ []) js) c.apart-one.ensures c.merge_beside.ensures.jobs in
    let f = c.land_block-failed in
    let is1 = first_at g.R.Record.bytes_of g.R.Record.record_of g.R.Record.WIDTH g.S.Slot.shown c.record_laws.ensures.width.0 a.internal.now a.external.now a.idle.now (g.P.Supply.stock a.supply.now) a.ahead a.two.first a.two.second c.requires.may c.requires.two c.index-external-two.result c.index-external-two-2.result l.new.array o.new.array l.new.idle o.new.idle l.result o.result k1 k2 l.ensures.lifted o.ensures.lifted zip.0 zip.1.0 c.index-external-two-3.result in
    let x = f.new.array in
    let t = g.P.Supply.stock f.new.supply in
    let first = taken_first g.R.Record.bytes_of g.R.Record.record_of g.R.Record.WIDTH g.S.Slot.shown c.record_laws.ensures.width.0 a.internal.now a.external.now a.idle.now (g.P.Supply.stock a.supply.now) a.ahead a.two.first a.two.second c.requires.may c.requires.two c.index-external-two.result c.index-external-two-2.result l.new.array o.new.array l.new.idle o.new.idle l.result o.result k1 k2 l.ensures.lifted o.ensures.lifted zip.0 zip.1.0 _ x is1 f.new.idle t f.result f.ensures.landed f.ensures.failed in
    subst (λ m. MayLand g.R.Record.record_of g.R.Record.WIDTH g.S.Slot.shown k2 m t) (sym (second_at g.R.Record.bytes_of g.R.Record.record_of g.R.Record.WIDTH g.S.Slot.shown c.record_laws.ensures.width.0 a.internal.now a.external.now a.idle.now (g.P.Supply.stock a.supply.now) a.ahead a.two.first a.two.second c.requires.may c.requires.two c.index-external-two.result c.index-external-two-2.result l.new.array o.new.array l.new.idle o.new.idle l.result o.result k1 k2 l.ensures.lifted o.ensures.lifted zip.0 zip.1.0 x c.index-external-two-4.result)) (may_land_second g.R.Record.bytes_of g.R.Record.record_of g.R.Record.WIDTH g.S.Slot.shown c.record_laws.ensures.width.0 a.internal.now a.external.now a.idle.now (g.P.Supply.stock a.supply.now) a.ahead a.two.first a.two.second c.requires.may c.requires.two c.index-external-two.result c.index-external-two-2.result l.new.array o.new.array l.new.idle o.new.idle l.result o.result k1 k2 l.ensures.lifted o.ensures.lifted zip.0 zip.1.0 _ x is1 f.new.idle t f.result first)

pub land_block-failed_too-requires-clause-few_idle : goal.land_block-failed_too-requires-clause-few_idle
land_block-failed_too-requires-clause-few_idle g c =
    let a = c.args in
    let l = c.lift_block-one in
    let o = c.lift_block-other in
    let k1 = c.apart-one.result.0 in
    let k2 = c.apart-one.result.1 in
    let zip = subst (λ js. AllZip (IsDone g.R.Record.bytes_of g.R.Record.record_of g.R.Record.WIDTH (λ (b : DeviceBlock g.row.S.Denot g.row.R.Denot). g.S.Slot.shown b.slot)) (l.result ∷ o.result ∷ []) js) c.apart-one.ensures c.merge_beside.ensures.jobs in
    let f = c.land_block-failed in
    let is1 = first_at g.R.Record.bytes_of g.R.Record.record_of g.R.Record.WIDTH g.S.Slot.shown c.record_laws.ensures.width.0 a.internal.now a.external.now a.idle.now (g.P.Supply.stock a.supply.now) a.ahead a.two.first a.two.second c.requires.may c.requires.two c.index-external-two.result c.index-external-two-2.result l.new.array o.new.array l.new.idle o.new.idle l.result o.result k1 k2 l.ensures.lifted o.ensures.lifted zip.0 zip.1.0 c.index-external-two-3.result in
    let x = f.new.array in
    let t = g.P.Supply.stock f.new.supply in
    let first = taken_first g.R.Record.bytes_of g.R.Record.record_of g.R.Record.WIDTH g.S.Slot.shown c.record_laws.ensures.width.0 a.internal.now a.external.now a.idle.now (g.P.Supply.stock a.supply.now) a.ahead a.two.first a.two.second c.requires.may c.requires.two c.index-external-two.result c.index-external-two-2.result l.new.array o.new.array l.new.idle o.new.idle l.result o.result k1 k2 l.ensures.lifted o.ensures.lifted zip.0 zip.1.0 _ x is1 f.new.idle t f.result f.ensures.landed f.ensures.failed in
    few_idle_second g.R.Record.bytes_of g.R.Record.record_of g.R.Record.WIDTH g.S.Slot.shown c.record_laws.ensures.width.0 a.internal.now a.external.now a.idle.now (g.P.Supply.stock a.supply.now) a.ahead a.two.first a.two.second c.requires.may c.requires.two c.index-external-two.result c.index-external-two-2.result l.new.array o.new.array l.new.idle o.new.idle l.result o.result k1 k2 l.ensures.lifted o.ensures.lifted zip.0 zip.1.0 _ x is1 f.new.idle t f.result first

pub consume_taken-requires-clause-within : goal.consume_taken-requires-clause-within
consume_taken-requires-clause-within g c =
    let a = c.args in
    let l = c.lift_block-one in
    let o = c.lift_block-other in
    let k1 = c.apart-one.result.0 in
    let k2 = c.apart-one.result.1 in
    let zip = subst (λ js. AllZip (IsDone g.R.Record.bytes_of g.R.Record.record_of g.R.Record.WIDTH (λ (b : DeviceBlock g.row.S.Denot g.row.R.Denot). g.S.Slot.shown b.slot)) (l.result ∷ o.result ∷ []) js) c.apart-one.ensures c.merge_beside.ensures.jobs in
    let f = c.land_block-failed in
    let v = c.land_block-failed_too in
    let x = f.new.array in
    let y = v.new.array in
    let t = g.P.Supply.stock f.new.supply in
    let u = g.P.Supply.stock v.new.supply in
    let arrays2 = slice_set (slice_set a.external.now a.two.first l.new.array) a.two.second o.new.array in
    let old1 = get_or arrays2 a.two.first c.index-external-two-3.result in
    let old2 = get_or (slice_set arrays2 a.two.first x) a.two.second c.index-external-two-4.result in
    let is1 = first_at g.R.Record.bytes_of g.R.Record.record_of g.R.Record.WIDTH g.S.Slot.shown c.record_laws.ensures.width.0 a.internal.now a.external.now a.idle.now (g.P.Supply.stock a.supply.now) a.ahead a.two.first a.two.second c.requires.may c.requires.two c.index-external-two.result c.index-external-two-2.result l.new.array o.new.array l.new.idle o.new.idle l.result o.result k1 k2 l.ensures.lifted o.ensures.lifted zip.0 zip.1.0 c.index-external-two-3.result in
    let is2 = second_at g.R.Record.bytes_of g.R.Record.record_of g.R.Record.WIDTH g.S.Slot.shown c.record_laws.ensures.width.0 a.internal.now a.external.now a.idle.now (g.P.Supply.stock a.supply.now) a.ahead a.two.first a.two.second c.requires.may c.requires.two c.index-external-two.result c.index-external-two-2.result l.new.array o.new.array l.new.idle o.new.idle l.result o.result k1 k2 l.ensures.lifted o.ensures.lifted zip.0 zip.1.0 x c.index-external-two-4.result in
    let o' = ranks c.record_laws.ensures.order in
    let here1 = subst (λ r. IfNone r (BlockLanded g.R.Record.record_of g.R.Record.WIDTH g.S.Slot.shown k1 old1 x (g.P.Supply.stock a.supply.now) t × (f.new.idle ≡ o.new.idle))) c.in-None-None.is-0 f.ensures.landed in
    let here2 = subst (λ r. IfNone r (BlockLanded g.R.Record.record_of g.R.Record.WIDTH g.S.Slot.shown k2 old2 y t u × (v.new.idle ≡ f.new.idle))) c.in-None-None.is-1 v.ensures.landed in
    let lists = lifted_lists g.R.Record.record_of g.R.Record.WIDTH g.S.Slot.shown a.internal.now (slice_set a.external.now a.two.first l.new.array) a.two.second c.index-external-two-2.result o.new.array l.new.idle o.new.idle o.result o.ensures.lifted
    ∙ lifted_lists g.R.Record.record_of g.R.Record.WIDTH g.S.Slot.shown a.internal.now a.external.now a.two.first c.index-external-two.result l.new.array a.idle.now l.new.idle l.result l.ensures.lifted in
    let merged = subst (λ qs. MergesSafe g.R.Ord.cmp a.places.now qs c.merge_beside.new.places c.merge_beside.new.out) lists c.merge_beside.ensures.merged in
    let whole = merged_within g.R.Ord.cmp o' g.R.Record.record_of g.R.Record.WIDTH g.S.Slot.shown a.below.now a.internal.now a.external.now a.places.now c.merge_beside.new.places (length a.out.now) (length a.out.now) c.merge_beside.new.out c.requires.plan merged in
    (both_before g.R.Record.bytes_of g.R.Record.record_of g.R.Record.WIDTH g.S.Slot.shown c.record_laws.ensures.width.0 a.internal.now a.external.now a.idle.now (g.P.Supply.stock a.supply.now) a.ahead a.two.first a.two.second c.requires.may c.requires.two c.index-external-two.result c.index-external-two-2.result l.new.array o.new.array l.new.idle o.new.idle l.result o.result k1 k2 l.ensures.lifted o.ensures.lifted zip.0 zip.1.0 old1 x is1 f.new.idle t old2 y is2 v.new.idle u g.R.Ord.cmp o' a.below.now here1 here2 c.merge_beside.new.places whole).0

pub consume_taken-requires-clause-blocks : goal.consume_taken-requires-clause-blocks
consume_taken-requires-clause-blocks g c =
    let a = c.args in
    let l = c.lift_block-one in
    let o = c.lift_block-other in
    let k1 = c.apart-one.result.0 in
    let k2 = c.apart-one.result.1 in
    let zip = subst (λ js. AllZip (IsDone g.R.Record.bytes_of g.R.Record.record_of g.R.Record.WIDTH (λ (b : DeviceBlock g.row.S.Denot g.row.R.Denot). g.S.Slot.shown b.slot)) (l.result ∷ o.result ∷ []) js) c.apart-one.ensures c.merge_beside.ensures.jobs in
    let f = c.land_block-failed in
    let v = c.land_block-failed_too in
    let x = f.new.array in
    let y = v.new.array in
    let t = g.P.Supply.stock f.new.supply in
    let u = g.P.Supply.stock v.new.supply in
    let arrays2 = slice_set (slice_set a.external.now a.two.first l.new.array) a.two.second o.new.array in
    let old1 = get_or arrays2 a.two.first c.index-external-two-3.result in
    let old2 = get_or (slice_set arrays2 a.two.first x) a.two.second c.index-external-two-4.result in
    let is1 = first_at g.R.Record.bytes_of g.R.Record.record_of g.R.Record.WIDTH g.S.Slot.shown c.record_laws.ensures.width.0 a.internal.now a.external.now a.idle.now (g.P.Supply.stock a.supply.now) a.ahead a.two.first a.two.second c.requires.may c.requires.two c.index-external-two.result c.index-external-two-2.result l.new.array o.new.array l.new.idle o.new.idle l.result o.result k1 k2 l.ensures.lifted o.ensures.lifted zip.0 zip.1.0 c.index-external-two-3.result in
    let is2 = second_at g.R.Record.bytes_of g.R.Record.record_of g.R.Record.WIDTH g.S.Slot.shown c.record_laws.ensures.width.0 a.internal.now a.external.now a.idle.now (g.P.Supply.stock a.supply.now) a.ahead a.two.first a.two.second c.requires.may c.requires.two c.index-external-two.result c.index-external-two-2.result l.new.array o.new.array l.new.idle o.new.idle l.result o.result k1 k2 l.ensures.lifted o.ensures.lifted zip.0 zip.1.0 x c.index-external-two-4.result in
    let o' = ranks c.record_laws.ensures.order in
    let here1 = subst (λ r. IfNone r (BlockLanded g.R.Record.record_of g.R.Record.WIDTH g.S.Slot.shown k1 old1 x (g.P.Supply.stock a.supply.now) t × (f.new.idle ≡ o.new.idle))) c.in-None-None.is-0 f.ensures.landed in
    let here2 = subst (λ r. IfNone r (BlockLanded g.R.Record.record_of g.R.Record.WIDTH g.S.Slot.shown k2 old2 y t u × (v.new.idle ≡ f.new.idle))) c.in-None-None.is-1 v.ensures.landed in
    (both_may g.R.Record.bytes_of g.R.Record.record_of g.R.Record.WIDTH g.S.Slot.shown c.record_laws.ensures.width.0 a.internal.now a.external.now a.idle.now (g.P.Supply.stock a.supply.now) a.ahead a.two.first a.two.second c.requires.may c.requires.two c.index-external-two.result c.index-external-two-2.result l.new.array o.new.array l.new.idle o.new.idle l.result o.result k1 k2 l.ensures.lifted o.ensures.lifted zip.0 zip.1.0 old1 x is1 f.new.idle t old2 y is2 v.new.idle u g.R.Ord.cmp o' a.below.now here1 here2).sources.internal

pub consume_taken-requires-clause-few : goal.consume_taken-requires-clause-few
consume_taken-requires-clause-few g c =
    let a = c.args in
    let l = c.lift_block-one in
    let o = c.lift_block-other in
    let k1 = c.apart-one.result.0 in
    let k2 = c.apart-one.result.1 in
    let zip = subst (λ js. AllZip (IsDone g.R.Record.bytes_of g.R.Record.record_of g.R.Record.WIDTH (λ (b : DeviceBlock g.row.S.Denot g.row.R.Denot). g.S.Slot.shown b.slot)) (l.result ∷ o.result ∷ []) js) c.apart-one.ensures c.merge_beside.ensures.jobs in
    let f = c.land_block-failed in
    let v = c.land_block-failed_too in
    let x = f.new.array in
    let y = v.new.array in
    let t = g.P.Supply.stock f.new.supply in
    let u = g.P.Supply.stock v.new.supply in
    let arrays2 = slice_set (slice_set a.external.now a.two.first l.new.array) a.two.second o.new.array in
    let old1 = get_or arrays2 a.two.first c.index-external-two-3.result in
    let old2 = get_or (slice_set arrays2 a.two.first x) a.two.second c.index-external-two-4.result in
    let is1 = first_at g.R.Record.bytes_of g.R.Record.record_of g.R.Record.WIDTH g.S.Slot.shown c.record_laws.ensures.width.0 a.internal.now a.external.now a.idle.now (g.P.Supply.stock a.supply.now) a.ahead a.two.first a.two.second c.requires.may c.requires.two c.index-external-two.result c.index-external-two-2.result l.new.array o.new.array l.new.idle o.new.idle l.result o.result k1 k2 l.ensures.lifted o.ensures.lifted zip.0 zip.1.0 c.index-external-two-3.result in
    let is2 = second_at g.R.Record.bytes_of g.R.Record.record_of g.R.Record.WIDTH g.S.Slot.shown c.record_laws.ensures.width.0 a.internal.now a.external.now a.idle.now (g.P.Supply.stock a.supply.now) a.ahead a.two.first a.two.second c.requires.may c.requires.two c.index-external-two.result c.index-external-two-2.result l.new.array o.new.array l.new.idle o.new.idle l.result o.result k1 k2 l.ensures.lifted o.ensures.lifted zip.0 zip.1.0 x c.index-external-two-4.result in
    let o' = ranks c.record_laws.ensures.order in
    let here1 = subst (λ r. IfNone r (BlockLanded g.R.Record.record_of g.R.Record.WIDTH g.S.Slot.shown k1 old1 x (g.P.Supply.stock a.supply.now) t × (f.new.idle ≡ o.new.idle))) c.in-None-None.is-0 f.ensures.landed in
    let here2 = subst (λ r. IfNone r (BlockLanded g.R.Record.record_of g.R.Record.WIDTH g.S.Slot.shown k2 old2 y t u × (v.new.idle ≡ f.new.idle))) c.in-None-None.is-1 v.ensures.landed in
    omega (arith, (both_may g.R.Record.bytes_of g.R.Record.record_of g.R.Record.WIDTH g.S.Slot.shown c.record_laws.ensures.width.0 a.internal.now a.external.now a.idle.now (g.P.Supply.stock a.supply.now) a.ahead a.two.first a.two.second c.requires.may c.requires.two c.index-external-two.result c.index-external-two-2.result l.new.array o.new.array l.new.idle o.new.idle l.result o.result k1 k2 l.ensures.lifted o.ensures.lifted zip.0 zip.1.0 old1 x is1 f.new.idle t old2 y is2 v.new.idle u g.R.Ord.cmp o' a.below.now here1 here2).sources.few_buffers)

pub returns-in-None-None-clause-took : goal.returns-in-None-None-clause-took
returns-in-None-None-clause-took g c =
    let a = c.args in
    let l = c.lift_block-one in
    let o = c.lift_block-other in
    let k1 = c.apart-one.result.0 in
    let k2 = c.apart-one.result.1 in
    let zip = subst (λ js. AllZip (IsDone g.R.Record.bytes_of g.R.Record.record_of g.R.Record.WIDTH (λ (b : DeviceBlock g.row.S.Denot g.row.R.Denot). g.S.Slot.shown b.slot)) (l.result ∷ o.result ∷ []) js) c.apart-one.ensures c.merge_beside.ensures.jobs in
    let f = c.land_block-failed in
    let v = c.land_block-failed_too in
    let x = f.new.array in
    let y = v.new.array in
    let t = g.P.Supply.stock f.new.supply in
    let u = g.P.Supply.stock v.new.supply in
    let arrays2 = slice_set (slice_set a.external.now a.two.first l.new.array) a.two.second o.new.array in
    let old1 = get_or arrays2 a.two.first c.index-external-two-3.result in
    let old2 = get_or (slice_set arrays2 a.two.first x) a.two.second c.index-external-two-4.result in
    let is1 = first_at g.R.Record.bytes_of g.R.Record.record_of g.R.Record.WIDTH g.S.Slot.shown c.record_laws.ensures.width.0 a.internal.now a.external.now a.idle.now (g.P.Supply.stock a.supply.now) a.ahead a.two.first a.two.second c.requires.may c.requires.two c.index-external-two.result c.index-external-two-2.result l.new.array o.new.array l.new.idle o.new.idle l.result o.result k1 k2 l.ensures.lifted o.ensures.lifted zip.0 zip.1.0 c.index-external-two-3.result in
    let is2 = second_at g.R.Record.bytes_of g.R.Record.record_of g.R.Record.WIDTH g.S.Slot.shown c.record_laws.ensures.width.0 a.internal.now a.external.now a.idle.now (g.P.Supply.stock a.supply.now) a.ahead a.two.first a.two.second c.requires.may c.requires.two c.index-external-two.result c.index-external-two-2.result l.new.array o.new.array l.new.idle o.new.idle l.result o.result k1 k2 l.ensures.lifted o.ensures.lifted zip.0 zip.1.0 x c.index-external-two-4.result in
    let o' = ranks c.record_laws.ensures.order in
    let here1 = subst (λ r. IfNone r (BlockLanded g.R.Record.record_of g.R.Record.WIDTH g.S.Slot.shown k1 old1 x (g.P.Supply.stock a.supply.now) t × (f.new.idle ≡ o.new.idle))) c.in-None-None.is-0 f.ensures.landed in
    let here2 = subst (λ r. IfNone r (BlockLanded g.R.Record.record_of g.R.Record.WIDTH g.S.Slot.shown k2 old2 y t u × (v.new.idle ≡ f.new.idle))) c.in-None-None.is-1 v.ensures.landed in
    let lists = lifted_lists g.R.Record.record_of g.R.Record.WIDTH g.S.Slot.shown a.internal.now (slice_set a.external.now a.two.first l.new.array) a.two.second c.index-external-two-2.result o.new.array l.new.idle o.new.idle o.result o.ensures.lifted
    ∙ lifted_lists g.R.Record.record_of g.R.Record.WIDTH g.S.Slot.shown a.internal.now a.external.now a.two.first c.index-external-two.result l.new.array a.idle.now l.new.idle l.result l.ensures.lifted in
    let merged = subst (λ qs. MergesSafe g.R.Ord.cmp a.places.now qs c.merge_beside.new.places c.merge_beside.new.out) lists c.merge_beside.ensures.merged in
    let whole = merged_within g.R.Ord.cmp o' g.R.Record.record_of g.R.Record.WIDTH g.S.Slot.shown a.below.now a.internal.now a.external.now a.places.now c.merge_beside.new.places (length a.out.now) (length a.out.now) c.merge_beside.new.out c.requires.plan merged in
    let before = both_before g.R.Record.bytes_of g.R.Record.record_of g.R.Record.WIDTH g.S.Slot.shown c.record_laws.ensures.width.0 a.internal.now a.external.now a.idle.now (g.P.Supply.stock a.supply.now) a.ahead a.two.first a.two.second c.requires.may c.requires.two c.index-external-two.result c.index-external-two-2.result l.new.array o.new.array l.new.idle o.new.idle l.result o.result k1 k2 l.ensures.lifted o.ensures.lifted zip.0 zip.1.0 old1 x is1 f.new.idle t old2 y is2 v.new.idle u g.R.Ord.cmp o' a.below.now here1 here2 c.merge_beside.new.places whole in
    let d = c.consume_taken.new in
    taken_later g.R.Ord.cmp o' g.R.Record.record_of g.R.Record.WIDTH g.S.Slot.shown a.below.now a.internal.now d.internal a.external.now d.external a.idle.now d.idle (g.P.Supply.stock a.supply.now) (g.P.Supply.stock d.supply) a.places.now c.merge_beside.new.places (length a.out.now) (length a.out.now) c.merge_beside.new.out c.requires.plan merged
    (slice_set (slice_set arrays2 a.two.first x) a.two.second y) v.new.idle u (both_fetched g.R.Record.bytes_of g.R.Record.record_of g.R.Record.WIDTH g.S.Slot.shown c.record_laws.ensures.width.0 a.internal.now a.external.now a.idle.now (g.P.Supply.stock a.supply.now) a.ahead a.two.first a.two.second c.requires.may c.requires.two c.index-external-two.result c.index-external-two-2.result l.new.array o.new.array l.new.idle o.new.idle l.result o.result k1 k2 l.ensures.lifted o.ensures.lifted zip.0 zip.1.0 old1 x is1 f.new.idle t old2 y is2 v.new.idle u g.R.Ord.cmp o' a.below.now here1 here2) a.ahead (both_may g.R.Record.bytes_of g.R.Record.record_of g.R.Record.WIDTH g.S.Slot.shown c.record_laws.ensures.width.0 a.internal.now a.external.now a.idle.now (g.P.Supply.stock a.supply.now) a.ahead a.two.first a.two.second c.requires.may c.requires.two c.index-external-two.result c.index-external-two-2.result l.new.array o.new.array l.new.idle o.new.idle l.result o.result k1 k2 l.ensures.lifted o.ensures.lifted zip.0 zip.1.0 old1 x is1 f.new.idle t old2 y is2 v.new.idle u g.R.Ord.cmp o' a.below.now here1 here2) before.1 before.0 c.consume_taken.ensures.consumed (sym c.merge_beside.ensures.room.out)

pub returns-in-None-Some-clause-lost : goal.returns-in-None-Some-clause-lost
returns-in-None-Some-clause-lost g c =
    let a = c.args in
    let l = c.lift_block-one in
    let o = c.lift_block-other in
    let k1 = c.apart-one.result.0 in
    let k2 = c.apart-one.result.1 in
    let zip = subst (λ js. AllZip (IsDone g.R.Record.bytes_of g.R.Record.record_of g.R.Record.WIDTH (λ (b : DeviceBlock g.row.S.Denot g.row.R.Denot). g.S.Slot.shown b.slot)) (l.result ∷ o.result ∷ []) js) c.apart-one.ensures c.merge_beside.ensures.jobs in
    let f = c.land_block-failed in
    let v = c.land_block-failed_too in
    let x = f.new.array in
    let y = v.new.array in
    let t = g.P.Supply.stock f.new.supply in
    let u = g.P.Supply.stock v.new.supply in
    let arrays2 = slice_set (slice_set a.external.now a.two.first l.new.array) a.two.second o.new.array in
    let old1 = get_or arrays2 a.two.first c.index-external-two-3.result in
    let old2 = get_or (slice_set arrays2 a.two.first x) a.two.second c.index-external-two-4.result in
    let is1 = first_at g.R.Record.bytes_of g.R.Record.record_of g.R.Record.WIDTH g.S.Slot.shown c.record_laws.ensures.width.0 a.internal.now a.external.now a.idle.now (g.P.Supply.stock a.supply.now) a.ahead a.two.first a.two.second c.requires.may c.requires.two c.index-external-two.result c.index-external-two-2.result l.new.array o.new.array l.new.idle o.new.idle l.result o.result k1 k2 l.ensures.lifted o.ensures.lifted zip.0 zip.1.0 c.index-external-two-3.result in
    let is2 = second_at g.R.Record.bytes_of g.R.Record.record_of g.R.Record.WIDTH g.S.Slot.shown c.record_laws.ensures.width.0 a.internal.now a.external.now a.idle.now (g.P.Supply.stock a.supply.now) a.ahead a.two.first a.two.second c.requires.may c.requires.two c.index-external-two.result c.index-external-two-2.result l.new.array o.new.array l.new.idle o.new.idle l.result o.result k1 k2 l.ensures.lifted o.ensures.lifted zip.0 zip.1.0 x c.index-external-two-4.result in
    let o' = ranks c.record_laws.ensures.order in
    let here1 = subst (λ r. IfNone r (BlockLanded g.R.Record.record_of g.R.Record.WIDTH g.S.Slot.shown k1 old1 x (g.P.Supply.stock a.supply.now) t × (f.new.idle ≡ o.new.idle))) c.in-None-Some.is-0 f.ensures.landed in
    let failed2 = subst (λ r. IfSome r (λ number. BlockFailed g.S.Slot.shown number k2 t u × ((y ≡ old2) × (v.new.idle ≡ f.new.idle ++ k2.buf ∷ [])))) c.in-None-Some.is-1 v.ensures.failed in
    lost_second g.R.Record.bytes_of g.R.Record.record_of g.R.Record.WIDTH g.S.Slot.shown c.record_laws.ensures.width.0 a.internal.now a.external.now a.idle.now (g.P.Supply.stock a.supply.now) a.ahead a.two.first a.two.second c.requires.may c.requires.two c.index-external-two.result c.index-external-two-2.result l.new.array o.new.array l.new.idle o.new.idle l.result o.result k1 k2 l.ensures.lifted o.ensures.lifted zip.0 zip.1.0 old1 x is1 f.new.idle t old2 y is2 v.new.idle u g.R.Ord.cmp o' a.below.now here1 c.in-None-Some.number failed2

pub returns-in-Some-default-clause-lost : goal.returns-in-Some-default-clause-lost
returns-in-Some-default-clause-lost g c =
    let a = c.args in
    let l = c.lift_block-one in
    let o = c.lift_block-other in
    let k1 = c.apart-one.result.0 in
    let k2 = c.apart-one.result.1 in
    let zip = subst (λ js. AllZip (IsDone g.R.Record.bytes_of g.R.Record.record_of g.R.Record.WIDTH (λ (b : DeviceBlock g.row.S.Denot g.row.R.Denot). g.S.Slot.shown b.slot)) (l.result ∷ o.result ∷ []) js) c.apart-one.ensures c.merge_beside.ensures.jobs in
    let f = c.land_block-failed in
    let v = c.land_block-failed_too in
    let x = f.new.array in
    let y = v.new.array in
    let t = g.P.Supply.stock f.new.supply in
    let u = g.P.Supply.stock v.new.supply in
    let arrays2 = slice_set (slice_set a.external.now a.two.first l.new.array) a.two.second o.new.array in
    let old1 = get_or arrays2 a.two.first c.index-external-two-3.result in
    let old2 = get_or (slice_set arrays2 a.two.first x) a.two.second c.index-external-two-4.result in
    let is1 = first_at g.R.Record.bytes_of g.R.Record.record_of g.R.Record.WIDTH g.S.Slot.shown c.record_laws.ensures.width.0 a.internal.now a.external.now a.idle.now (g.P.Supply.stock a.supply.now) a.ahead a.two.first a.two.second c.requires.may c.requires.two c.index-external-two.result c.index-external-two-2.result l.new.array o.new.array l.new.idle o.new.idle l.result o.result k1 k2 l.ensures.lifted o.ensures.lifted zip.0 zip.1.0 c.index-external-two-3.result in
    let is2 = second_at g.R.Record.bytes_of g.R.Record.record_of g.R.Record.WIDTH g.S.Slot.shown c.record_laws.ensures.width.0 a.internal.now a.external.now a.idle.now (g.P.Supply.stock a.supply.now) a.ahead a.two.first a.two.second c.requires.may c.requires.two c.index-external-two.result c.index-external-two-2.result l.new.array o.new.array l.new.idle o.new.idle l.result o.result k1 k2 l.ensures.lifted o.ensures.lifted zip.0 zip.1.0 x c.index-external-two-4.result in
    let o' = ranks c.record_laws.ensures.order in
    let n = c.in-Some-default.number in
    let landed1 = subst (λ r. IfNone r (BlockLanded g.R.Record.record_of g.R.Record.WIDTH g.S.Slot.shown k1 old1 x (g.P.Supply.stock a.supply.now) t × (f.new.idle ≡ o.new.idle))) c.in-Some-default.is-0 f.ensures.landed in
    let failed1 = subst (λ r. IfSome r (λ number. BlockFailed g.S.Slot.shown number k1 (g.P.Supply.stock a.supply.now) t × ((x ≡ old1) × (f.new.idle ≡ o.new.idle ++ k1.buf ∷ [])))) c.in-Some-default.is-0 f.ensures.failed in
    let first = taken_first g.R.Record.bytes_of g.R.Record.record_of g.R.Record.WIDTH g.S.Slot.shown c.record_laws.ensures.width.0 a.internal.now a.external.now a.idle.now (g.P.Supply.stock a.supply.now) a.ahead a.two.first a.two.second c.requires.may c.requires.two c.index-external-two.result c.index-external-two-2.result l.new.array o.new.array l.new.idle o.new.idle l.result o.result k1 k2 l.ensures.lifted o.ensures.lifted zip.0 zip.1.0 old1 x is1 f.new.idle t (Some n) landed1 failed1 in
    lost_first g.R.Record.bytes_of g.R.Record.record_of g.R.Record.WIDTH g.S.Slot.shown c.record_laws.ensures.width.0 a.internal.now a.external.now a.idle.now (g.P.Supply.stock a.supply.now) a.ahead a.two.first a.two.second c.requires.may c.requires.two c.index-external-two.result c.index-external-two-2.result l.new.array o.new.array l.new.idle o.new.idle l.result o.result k1 k2 l.ensures.lifted o.ensures.lifted zip.0 zip.1.0 old1 x is1 f.new.idle t old2 y is2 v.new.idle u n v.result first v.ensures.landed v.ensures.failed

pub returns-in-None-None-clause-nexts : goal.returns-in-None-None-clause-nexts
returns-in-None-None-clause-nexts g c =
    let a = c.args in
    four_nexts a.external.now c.consume_taken.new.external a.two.first a.two.second c.lift_block-one.new.array c.lift_block-other.new.array c.land_block-failed.new.array c.land_block-failed_too.new.array c.requires.two.apart c.consume_taken.ensures.consumed.arrays.rest

pub returns-in-None-None-clause-long : goal.returns-in-None-None-clause-long
returns-in-None-None-clause-long g c =
    let a = c.args in
    omega (
      arith,
      length_all_zip SameBlocks (slice_set (slice_set (slice_set (slice_set a.external.now a.two.first c.lift_block-one.new.array) a.two.second c.lift_block-other.new.array) a.two.first c.land_block-failed.new.array) a.two.second c.land_block-failed_too.new.array) c.consume_taken.new.external c.consume_taken.ensures.consumed.arrays.rest,
      long_four a.external.now a.two.first a.two.second c.lift_block-one.new.array c.lift_block-other.new.array c.land_block-failed.new.array c.land_block-failed_too.new.array,
    )

pub returns-in-None-Some-clause-long : goal.returns-in-None-Some-clause-long
returns-in-None-Some-clause-long g c = long_four c.args.external.now c.args.two.first c.args.two.second c.lift_block-one.new.array c.lift_block-other.new.array c.land_block-failed.new.array c.land_block-failed_too.new.array

pub returns-in-Some-default-clause-long : goal.returns-in-Some-default-clause-long
returns-in-Some-default-clause-long g c = long_four c.args.external.now c.args.two.first c.args.two.second c.lift_block-one.new.array c.lift_block-other.new.array c.land_block-failed.new.array c.land_block-failed_too.new.array
