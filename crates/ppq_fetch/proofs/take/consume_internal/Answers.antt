use Rattle.std.proofs.Common.{length, map, take, get_or, refl, sym, ◌∙◌, subst, arith, length-set}
use Rattle.std.proofs.lemmas.List.{length-map}
use Rattle.ppq_array.specs.Run.{Run, items_of, buffers_of}
use Rattle.ppq_array.specs.Holdings.{RunHasBlock}
use Rattle.ppq_fetch.specs.Steps.{RunsConsumed}
use Rattle.ppq_fetch.proofs.Listings.{within_length}
use Rattle.ppq_fetch.proofs.Consuming.{rest_more, all_at, part_at, place_at, given_block, runs_none, runs_more, loop_more, loop_all}
use Rattle.ppq_fetch.proofs.take.consume_internal.Goals as goal

pub bounds-places-i : goal.bounds-places-i
bounds-places-i g c = omega (arith, c.loop-i-test.true, c.loop-i.invariant.each)

pub consume_run-requires-clause-within : goal.consume_run-requires-clause-within
consume_run-requires-clause-within g c = let l = c.loop-i in place_at c.args.internal.now l.internal l.i c.index-internal-i.result l.invariant.long c.loop-i-test.true l.invariant.rest items_of c.args.places.now c.requires.within

pub consume_run-requires-clause-room : goal.consume_run-requires-clause-room
consume_run-requires-clause-room g c =
    let l = c.loop-i in
    omega (arith, part_at c.args.internal.now l.internal l.i c.index-internal-i.result l.invariant.long c.loop-i-test.true l.invariant.rest (λ (run : Run g.row.R.Denot). length (buffers_of run)), l.invariant.done.buffers, c.requires.room)

pub consume_run-requires-clause-blocks : goal.consume_run-requires-clause-blocks
consume_run-requires-clause-blocks g c =
    let l = c.loop-i in
    let d = c.index-internal-i.result in
    let s = g.P.Supply.stock c.args.supply.now in
    subst (λ n. RunHasBlock n (get_or l.internal l.i d)) (sym (given_block s (g.P.Supply.stock l.supply) l.invariant.done.given)) (all_at c.args.internal.now l.internal l.i d l.invariant.long c.loop-i-test.true l.invariant.rest (RunHasBlock s.block) c.requires.blocks)

pub loop-i-init : goal.loop-i-init
loop-i-init g c = record {
  done = runs_none (g.P.Supply.stock c.args.supply.now);
  rest = refl;
  long = refl;
  each = within_length c.args.places.now (map items_of c.args.internal.now) c.requires.within ∙ length-map c.args.internal.now items_of;
  home = refl;
}

pub loop-i-preserved : goal.loop-i-preserved
loop-i-preserved g c =
    let l = c.loop-i in
    let d = c.index-internal-i.result in
    let b = c.consume_run.new.run in
    let os = c.args.internal.now in
    let ps = c.args.places.now in
    let s = g.P.Supply.stock c.args.supply.now in
    let u = g.P.Supply.stock c.consume_run.new.supply in
    record {
      done = loop_more os l.internal l.i d l.invariant.long c.loop-i-test.true l.invariant.rest (λ p o n. RunsConsumed p o n s u) ps b l.invariant.each
          (runs_more (take l.i ps) (take l.i os) (take l.i l.internal) s (g.P.Supply.stock l.supply) u (get_or ps l.i 0) (get_or l.internal l.i d) b l.invariant.done c.consume_run.ensures.consumed);
      rest = rest_more os l.internal l.i d l.invariant.long c.loop-i-test.true l.invariant.rest b;
      long = length-set l.internal l.i b ∙ l.invariant.long;
      each = l.invariant.each;
      home = c.consume_run.ensures.home ∙ l.invariant.home;
    }

pub returns-clause-consumed : goal.returns-clause-consumed
returns-clause-consumed g c =
    let l = c.loop-i in
    loop_all (λ p o n. RunsConsumed p o n (g.P.Supply.stock c.args.supply.now) (g.P.Supply.stock l.supply)) c.args.places.now c.args.internal.now l.internal l.i l.invariant.each l.invariant.long c.loop-i-test.false l.invariant.done
