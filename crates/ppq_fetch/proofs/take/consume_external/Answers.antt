use Rattle.std.proofs.Common.{length, map, take, get_or, refl, ◌∙◌, arith, length-set}
use Rattle.std.proofs.lemmas.List.{length-map}
use Rattle.ppq_array.specs.Run.{buffers_of}
use Rattle.ppq_array.specs.External.{External}
use Rattle.ppq_fetch.specs.Steps.{ArraysConsumed}
use Rattle.ppq_fetch.proofs.Sums.{loaded_of}
use Rattle.ppq_fetch.proofs.Listings.{within_length}
use Rattle.ppq_fetch.proofs.Consuming.{rest_more, place_at, part_at, arrays_none, arrays_more, loop_more, loop_all}
use Rattle.ppq_fetch.proofs.take.consume_external.Goals as goal

pub bounds-places-i : goal.bounds-places-i
bounds-places-i g c = omega (arith, c.loop-i-test.true, c.loop-i.invariant.each)

pub consume_array-requires-clause-within : goal.consume_array-requires-clause-within
consume_array-requires-clause-within g c = let l = c.loop-i in place_at c.args.external.now l.external l.i c.index-external-i.result l.invariant.long c.loop-i-test.true l.invariant.rest loaded_of c.args.places.now c.requires.within

pub consume_array-requires-clause-few : goal.consume_array-requires-clause-few
consume_array-requires-clause-few g c =
    let l = c.loop-i in
    omega (arith, part_at c.args.external.now l.external l.i c.index-external-i.result l.invariant.long c.loop-i-test.true l.invariant.rest (λ (a : External g.row.S.Denot g.row.R.Denot). length (buffers_of a.loaded)), l.invariant.done.buffers, c.requires.few)

pub loop-i-init : goal.loop-i-init
loop-i-init g c = record { done = arrays_none c.args.idle.now; rest = refl; long = refl; each = within_length c.args.places.now (map loaded_of c.args.external.now) c.requires.within ∙ length-map c.args.external.now loaded_of }

pub loop-i-preserved : goal.loop-i-preserved
loop-i-preserved g c =
    let l = c.loop-i in
    let d = c.index-external-i.result in
    let b = c.consume_array.new.array in
    let os = c.args.external.now in
    let ps = c.args.places.now in
    record {
      done = loop_more os l.external l.i d l.invariant.long c.loop-i-test.true l.invariant.rest (λ p o n. ArraysConsumed p o n c.args.idle.now c.consume_array.new.idle) ps b l.invariant.each
          (arrays_more (take l.i ps) (take l.i os) (take l.i l.external) c.args.idle.now l.idle c.consume_array.new.idle (get_or ps l.i 0) (get_or l.external l.i d) b l.invariant.done c.consume_array.ensures);
      rest = rest_more os l.external l.i d l.invariant.long c.loop-i-test.true l.invariant.rest b;
      long = length-set l.external l.i b ∙ l.invariant.long;
      each = l.invariant.each;
    }

pub returns : goal.returns
returns g c = let l = c.loop-i in record { consumed = loop_all (λ p o n. ArraysConsumed p o n c.args.idle.now l.idle) c.args.places.now c.args.external.now l.external l.i l.invariant.each l.invariant.long c.loop-i-test.false l.invariant.done }
