use Rattle.std.proofs.Common.{◌≡◌, ◌+◌, ◌-◌, ◌≤◌, ℕ, List, [], ◌++◌, length, take, drop, slice_set, Err, IsErrOf, inl, inr, refl, sym, ap, ap₂, ◌∙◌, subst, arith, length-take, length-drop, length-append}
use Rattle.std.proofs.lemmas.List.{get_or-set_same}
use Rattle.std.proofs.lemmas.Option.{slice_get_within}
use Rattle.std.proofs.lemmas.Slice.{take-put_mid}
use Rattle.ppq_array.proofs.ppq_record.Fronts.{ranks, no_tie}
use Rattle.ppq_fetch.specs.Fetching.{state, MayFetch, Fetched, FetchFailed}
use Rattle.ppq_array.specs.declared.store_fault.StoreFault.{StoreFault}
use Rattle.ppq_array.specs.External.{External, next_of}
use Rattle.ppq_fetch.specs.Bench.{Marks}
use Rattle.ppq_fetch.proofs.Hints.{hints_on, nexts-set}
use Rattle.ppq_fetch.proofs.Loads.{loaded_turn, lost_turn}
use Rattle.ppq_fetch.proofs.Waiting.{takes_all}
use Rattle.ppq_fetch.proofs.Ready.{may_load, has_buffer, loads_more}
use Rattle.ppq_fetch.proofs.Beside.{none_there}
use Rattle.ppq_fetch.proofs.Rounds.{Fetched-none, Fetched-more, Fetched-on, Failed-more, Fetched-front}
use Rattle.ppq_fetch.proofs.fetch.take_least.Goals as goal

-- a list of which a part was written over is as long as before
long_written : {X : Type 0} (xs ys : List X) (a k : ℕ) → length ys ≡ k → a + k ≤ length xs → length (take a xs ++ (ys ++ drop k (drop a xs))) ≡ length xs
long_written xs ys a k e h = omega (arith, length-append (take a xs) (ys ++ drop k (drop a xs)), length-append ys (drop k (drop a xs)), length-take a xs, length-drop k (drop a xs), length-drop a xs)

same_device : {X : Type 0} (m n : ℕ) → IsErrOf {T = X} (Err (StoreFault.Device m)) (StoreFault.Device n) → m ≡ n
same_device m n e = cc

part_long : {X : Type 0} (xs : List X) (a n : ℕ) → n ≤ length xs - a → a ≤ length xs → length (take (a + n - a) (drop a xs)) ≡ n
part_long xs a n few within = omega (arith, length-take (a + n - a) (drop a xs), length-drop a xs, few, within)

pub loop-to-init : goal.loop-to-init
loop-to-init g c =
    let stock = g.P.Supply.stock c.args.supply.now in
    let old = state c.args.internal.now c.args.external.now c.args.idle.now stock in
    let now = state c.straighten.new.internal c.announce_all-by_itself.new.external c.args.idle.now stock in
    let e : old ≡ now = ap₂ (λ xs ys. state xs ys c.args.idle.now stock) (sym c.straighten.ensures) (sym c.announce_all-by_itself.ensures) in
    record {
      within = omega arith;
      out = refl;
      fetched = subst (λ s. Fetched g.R.Ord.cmp g.R.Record.record_of g.R.Record.WIDTH g.S.Slot.shown c.args.below old s []) e
          (Fetched-none g.R.Ord.cmp (ranks c.record_laws.ensures.order) g.R.Record.record_of g.R.Record.WIDTH g.S.Slot.shown c.args.below old);
      may = subst (MayFetch g.S.Slot.shown g.R.Record.WIDTH c.args.ahead) e c.requires.may;
      hints = c.tell_all.ensures.hints;
      places = refl;
      bench = ap (λ (b : Marks g.row.R.Denot). length b.places) c.tell_all.ensures.rest;
      workers = ap (λ (b : Marks g.row.R.Denot). b.workers) c.tell_all.ensures.rest;
      home = refl;
    }

pub bounds-external-place : goal.bounds-external-place
bounds-external-place g c = let load = c.in-Load.ensures.plan in slice_get_within c.loop-to.external c.in-Load.place load.array load.here

pub offset_bounds-external-place : goal.offset_bounds-external-place
offset_bounds-external-place g c = let load = c.in-Load.ensures.plan in omega (arith, slice_get_within c.loop-to.external c.in-Load.place load.array load.here, c.loop-to.invariant.may.sources.few_runs)

pub load_block-requires-clause-may : goal.load_block-requires-clause-may
load_block-requires-clause-may g c κs within =
    let l = c.loop-to in
    may_load g.R.Record.record_of g.S.Slot.shown g.R.Record.WIDTH c.args.ahead (state l.internal l.external l.idle (g.P.Supply.stock l.supply)) c.in-Load.place c.index-external-place.result l.invariant.may (loads_more l.external c.ahead_of_merge-most.result c.args.ahead c.in-Load.place c.ahead_of_merge-most.ensures c.in-Load.ensures.plan)

pub loop-to-preserved-in-None : goal.loop-to-preserved-in-None
loop-to-preserved-in-None g c =
    let l = c.loop-to in
    let i = l.invariant in
    let k = c.load_block.new in
    let p = c.in-Load.place in
    let load = loads_more l.external c.ahead_of_merge-most.result c.args.ahead p c.ahead_of_merge-most.ensures c.in-Load.ensures.plan in
    let o = ranks c.record_laws.ensures.order in
    let stock = g.P.Supply.stock l.supply in
    let old = state c.args.internal.now c.args.external.now c.args.idle.now (g.P.Supply.stock c.args.supply.now) in
    let turn = loaded_turn g.R.Record.record_of g.R.Record.WIDTH g.S.Slot.shown l.internal l.external p c.index-external-place.result k.array l.idle k.idle stock (g.P.Supply.stock k.supply) (slice_get_within l.external p load.array load.here) c.in-None.ensures.loaded
    g.R.Ord.cmp o c.args.below c.args.ahead c.record_laws.ensures.width.0 i.may (has_buffer l.external c.args.ahead p c.index-external-place.result load) in
    record {
      within = i.within;
      out = i.out;
      fetched = Fetched-on g.R.Ord.cmp o g.R.Record.record_of g.R.Record.WIDTH g.S.Slot.shown c.args.below old (state l.internal l.external l.idle stock) (state l.internal (slice_set l.external p k.array) k.idle (g.P.Supply.stock k.supply)) (take l.to l.out) i.fetched turn.fetched;
      may = turn.may;
      hints = hints_on g.R.Record.record_of g.R.Record.WIDTH g.S.Slot.shown l.external (slice_set l.external p k.array) l.bench.hints c.hint.new.self.hints i.hints turn.fetched.parts.went_on
          (c.hint.ensures.hints ∙ (ap (λ m. slice_set l.bench.hints p m) (c.next_to_lift.ensures.minimum ∙ ap (λ (a : External g.row.S.Denot g.row.R.Denot). next_of a.stored) (get_or-set_same l.external p k.array c.index-external-place-in-None.result (slice_get_within l.external p load.array load.here))) ∙ nexts-set l.external l.bench.hints p k.array i.hints.nexts));
      places = c.plan_turn-turn.ensures.places ∙ i.places;
      bench = ap (λ (b : Marks g.row.R.Denot). length b.places) c.hint.ensures.rest ∙ i.bench;
      workers = ap (λ (b : Marks g.row.R.Denot). b.workers) c.hint.ensures.rest ∙ i.workers;
      home = c.load_block.ensures.home ∙ i.home;
    }

pub loop-to-smaller-in-None : goal.loop-to-smaller-in-None
loop-to-smaller-in-None g c =
    let l = c.loop-to in
    let k = c.load_block.new in
    let p = c.in-Load.place in
    let load = loads_more l.external c.ahead_of_merge-most.result c.args.ahead p c.ahead_of_merge-most.ensures c.in-Load.ensures.plan in
    let turn = loaded_turn g.R.Record.record_of g.R.Record.WIDTH g.S.Slot.shown l.internal l.external p c.index-external-place.result k.array l.idle k.idle (g.P.Supply.stock l.supply) (g.P.Supply.stock k.supply) (slice_get_within l.external p load.array load.here) c.in-None.ensures.loaded
    g.R.Ord.cmp (ranks c.record_laws.ensures.order) c.args.below c.args.ahead c.record_laws.ensures.width.0 l.invariant.may (has_buffer l.external c.args.ahead p c.index-external-place.result load) in
    omega (arith, turn.less)

pub returns-in-Some-clause-sources : goal.returns-in-Some-clause-sources
returns-in-Some-clause-sources g c =
    let l = c.loop-to in
    let k = c.load_block.new in
    let load = c.in-Load.ensures.plan in
    (lost_turn g.R.Record.record_of g.R.Record.WIDTH g.S.Slot.shown l.internal l.external c.in-Load.place c.index-external-place.result k.array l.idle k.idle (g.P.Supply.stock l.supply) (g.P.Supply.stock k.supply) (slice_get_within l.external c.in-Load.place load.array load.here)
    c.in-Some.number c.in-Some.ensures.lost c.args.ahead l.invariant.may.sources (none_there l.external l.invariant.may.none_lifted c.in-Load.place c.index-external-place.result (slice_get_within l.external c.in-Load.place load.array load.here))).sources

pub returns-in-Some-clause-device : goal.returns-in-Some-clause-device
returns-in-Some-clause-device g c number is =
    let l = c.loop-to in
    let k = c.load_block.new in
    let load = c.in-Load.ensures.plan in
    let stock = g.P.Supply.stock l.supply in
    let old = state c.args.internal.now c.args.external.now c.args.idle.now (g.P.Supply.stock c.args.supply.now) in
    let now = state l.internal l.external l.idle stock in
    let next = state l.internal (slice_set l.external c.in-Load.place k.array) k.idle (g.P.Supply.stock k.supply) in
    let lost = lost_turn g.R.Record.record_of g.R.Record.WIDTH g.S.Slot.shown l.internal l.external c.in-Load.place c.index-external-place.result k.array l.idle k.idle stock (g.P.Supply.stock k.supply) (slice_get_within l.external c.in-Load.place load.array load.here)
    c.in-Some.number c.in-Some.ensures.lost c.args.ahead l.invariant.may.sources (none_there l.external l.invariant.may.none_lifted c.in-Load.place c.index-external-place.result (slice_get_within l.external c.in-Load.place load.array load.here)) in
    let e : c.in-Some.number ≡ number = cc in
    Failed-more g.R.Ord.cmp (ranks c.record_laws.ensures.order) g.R.Record.record_of g.R.Record.WIDTH g.S.Slot.shown c.args.below number old now next (take l.to l.out) l.invariant.fetched (subst (λ n. FetchFailed g.S.Slot.shown n now next) e lost.failed)

pub take_turn-requires-clause-plan : goal.take_turn-requires-clause-plan
take_turn-requires-clause-plan g c κs within =
    let l = c.loop-to in
    takes_all g.R.Ord.cmp g.R.Record.record_of g.R.Record.WIDTH g.S.Slot.shown c.args.below l.internal l.external c.plan_turn-turn.new.places (length l.out - l.to) c.in-Take.count _ (part_long l.out l.to c.in-Take.count c.in-Take.ensures.plan.few l.invariant.within) c.in-Take.ensures.plan

pub loop-to-preserved : goal.loop-to-preserved
loop-to-preserved g c =
    let l = c.loop-to in
    let i = l.invariant in
    let m = c.take_turn in
    let n = c.in-Take.count in
    let plan = c.in-Take.ensures.plan in
    let o = ranks c.record_laws.ensures.order in
    let old = state c.args.internal.now c.args.external.now c.args.idle.now (g.P.Supply.stock c.args.supply.now) in
    let next = state m.new.internal m.new.external m.new.idle (g.P.Supply.stock m.new.supply) in
    let few : l.to + n ≤ length l.out = omega (arith, plan.few, i.within) in
    let cut : l.to + n - l.to ≡ n = omega arith in
    let long : n ≡ length m.new.out = omega (arith, m.ensures.room.out, length-take (l.to + n - l.to) (drop l.to l.out), length-drop l.to l.out, few, cut) in
    let turn = c.in-None-take_turn.ensures.took in
    let sums : length (take l.to l.out ++ (m.new.out ++ drop (l.to + n - l.to) (drop l.to l.out))) ≡ length l.out = long_written l.out m.new.out l.to (l.to + n - l.to) (omega (arith, long, cut)) (omega (arith, few, cut)) in
    record {
      within = omega (arith, sums, few);
      out = sums ∙ i.out;
      fetched = subst (Fetched g.R.Ord.cmp g.R.Record.record_of g.R.Record.WIDTH g.S.Slot.shown c.args.below old next) (sym (take-put_mid l.to (l.to + n - l.to) l.out m.new.out (l.to + n) (omega (arith, long)) i.within))
          (Fetched-more g.R.Ord.cmp o g.R.Record.record_of g.R.Record.WIDTH g.S.Slot.shown c.args.below old (state l.internal l.external l.idle (g.P.Supply.stock l.supply)) next (take l.to l.out) m.new.out i.fetched turn.fetched);
      may = turn.may;
      hints = c.in-None-take_turn.ensures.hints;
      places = m.ensures.room.places ∙ (c.plan_turn-turn.ensures.places ∙ i.places);
      bench = m.ensures.room.bench ∙ i.bench;
      workers = m.ensures.room.workers ∙ i.workers;
      home = m.ensures.home ∙ i.home;
    }

pub loop-to-smaller : goal.loop-to-smaller
loop-to-smaller g c =
    let l = c.loop-to in
    let i = l.invariant in
    let m = c.take_turn in
    let n = c.in-Take.count in
    let plan = c.in-Take.ensures.plan in
    let few : l.to + n ≤ length l.out = omega (arith, plan.few, i.within) in
    let cut : l.to + n - l.to ≡ n = omega arith in
    let long : n ≡ length m.new.out = omega (arith, m.ensures.room.out, length-take (l.to + n - l.to) (drop l.to l.out), length-drop l.to l.out, few, cut) in
    let turn = c.in-None-take_turn.ensures.took in
    let sums : length (take l.to l.out ++ (m.new.out ++ drop (l.to + n - l.to) (drop l.to l.out))) ≡ length l.out = long_written l.out m.new.out l.to (l.to + n - l.to) (omega (arith, long, cut)) (omega (arith, few, cut)) in
    omega (arith, turn.less, sums, long, few)

pub returns-in-Some-take_turn-clause-device : goal.returns-in-Some-take_turn-clause-device
returns-in-Some-take_turn-clause-device g c number is =
    let l = c.loop-to in
    let m = c.take_turn in
    let old = state c.args.internal.now c.args.external.now c.args.idle.now (g.P.Supply.stock c.args.supply.now) in
    let now = state l.internal l.external l.idle (g.P.Supply.stock l.supply) in
    let next = state m.new.internal m.new.external m.new.idle (g.P.Supply.stock m.new.supply) in
    let e : c.in-Some-take_turn.lost ≡ number = same_device c.in-Some-take_turn.lost number is in
    Failed-more g.R.Ord.cmp (ranks c.record_laws.ensures.order) g.R.Record.record_of g.R.Record.WIDTH g.S.Slot.shown c.args.below number old now next (take l.to l.out) l.invariant.fetched (subst (λ n. FetchFailed g.S.Slot.shown n now next) e c.in-Some-take_turn.ensures.lost.failed)

pub returns-in-End-clause-front : goal.returns-in-End-clause-front
returns-in-End-clause-front g c =
    let l = c.loop-to in
    let i = l.invariant in
    let old = state c.args.internal.now c.args.external.now c.args.idle.now (g.P.Supply.stock c.args.supply.now) in
    let now = state l.internal l.external l.idle (g.P.Supply.stock l.supply) in
    let long = length-take l.to l.out in
    Fetched-front g.R.Ord.cmp (ranks c.record_laws.ensures.order) g.R.Record.record_of g.R.Record.WIDTH g.S.Slot.shown c.args.below (no_tie c.record_laws.ensures.order c.record_laws.ensures.same) old now (take l.to l.out) (length c.args.out.now) i.fetched (omega (arith, long, i.within, i.out))
    (inr (λ tell rise. c.in-End.ensures.plan.none record { tell = tell; internal = rise.internal; external = rise.external }))

pub returns-clause-front : goal.returns-clause-front
returns-clause-front g c =
    let l = c.loop-to in
    let i = l.invariant in
    let old = state c.args.internal.now c.args.external.now c.args.idle.now (g.P.Supply.stock c.args.supply.now) in
    let now = state l.internal l.external l.idle (g.P.Supply.stock l.supply) in
    let long = length-take l.to l.out in
    Fetched-front g.R.Ord.cmp (ranks c.record_laws.ensures.order) g.R.Record.record_of g.R.Record.WIDTH g.S.Slot.shown c.args.below (no_tie c.record_laws.ensures.order c.record_laws.ensures.same) old now (take l.to l.out) (length c.args.out.now) i.fetched
    (omega (arith, long, i.out, i.within)) (inl (omega (arith, long, i.out, i.within, c.loop-to-test.false)))
