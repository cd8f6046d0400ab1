use Rattle.std.proofs.Common.{length, slice_set, sym, ap, ◌∙◌, arith}
use Rattle.ppq_array.proofs.ppq_record.Fronts.{ranks}
use Rattle.ppq_fetch.specs.Bench.{Marks}
use Rattle.ppq_fetch.specs.Fetching.{state}
use Rattle.ppq_fetch.specs.Hints.{next_at}
use Rattle.ppq_fetch.proofs.Beside.{stored_within}
use Rattle.ppq_fetch.proofs.Hints.{hints_on, nexts-same, two_told}
use Rattle.ppq_fetch.proofs.Takes.{merged_within, taken_turn}
use Rattle.ppq_fetch.proofs.prefetch.take_turn.Goals as goal

pub consume_taken-requires-clause-within : goal.consume_taken-requires-clause-within
consume_taken-requires-clause-within g c =
    let a = c.args in
    merged_within g.R.Ord.cmp (ranks c.record_laws.ensures.order) g.R.Record.record_of g.R.Record.WIDTH g.S.Slot.shown a.below.now a.internal.now a.external.now a.places.now c.merge_parts.new.places (length a.out.now) (length a.out.now) c.merge_parts.new.out c.requires.plan c.merge_parts.ensures.merged

pub returns-in-None-clause-took : goal.returns-in-None-clause-took
returns-in-None-clause-took g c =
    let a = c.args in
    let d = c.consume_taken.new in
    taken_turn g.R.Ord.cmp (ranks c.record_laws.ensures.order) g.R.Record.record_of g.R.Record.WIDTH g.S.Slot.shown a.below.now a.internal.now d.internal a.external.now d.external a.idle.now d.idle (g.P.Supply.stock a.supply.now) (g.P.Supply.stock d.supply)
    a.places.now c.merge_parts.new.places (length a.out.now) (length a.out.now) c.merge_parts.new.out c.requires.plan c.merge_parts.ensures.merged c.consume_taken.ensures.consumed a.ahead c.requires.may (sym c.merge_parts.ensures.room.out)

pub returns-in-None-clause-hints : goal.returns-in-None-clause-hints
returns-in-None-clause-hints g c =
    let a = c.args in
    let d = c.consume_taken.new in
    let turn = taken_turn g.R.Ord.cmp (ranks c.record_laws.ensures.order) g.R.Record.record_of g.R.Record.WIDTH g.S.Slot.shown a.below.now a.internal.now d.internal a.external.now d.external a.idle.now d.idle (g.P.Supply.stock a.supply.now) (g.P.Supply.stock d.supply)
    a.places.now c.merge_parts.new.places (length a.out.now) (length a.out.now) c.merge_parts.new.out c.requires.plan c.merge_parts.ensures.merged c.consume_taken.ensures.consumed a.ahead c.requires.may (sym c.merge_parts.ensures.room.out) in
    hints_on g.R.Record.record_of g.R.Record.WIDTH g.S.Slot.shown a.external.now d.external a.bench.now.hints c.merge_parts.new.bench.hints c.requires.hints turn.fetched.parts.went_on
    (c.merge_parts.ensures.hints ∙ (ap (λ (b : Marks g.row.R.Denot). b.hints) c.next_two.ensures.bench ∙ (c.requires.hints.nexts ∙ sym (nexts-same a.external.now d.external c.consume_taken.ensures.consumed.arrays.rest))))

pub tell_two-requires-clause-first : goal.tell_two-requires-clause-first
tell_two-requires-clause-first g c = omega (arith, stored_within c.args.external.now c.in-Some.two.first c.in-Some.ensures.two.one, c.take_ahead-lost.ensures.long)

pub tell_two-requires-clause-second : goal.tell_two-requires-clause-second
tell_two-requires-clause-second g c = omega (arith, stored_within c.args.external.now c.in-Some.two.second c.in-Some.ensures.two.other, c.take_ahead-lost.ensures.long)

pub returns-in-Some-clause-hints : goal.returns-in-Some-clause-hints
returns-in-Some-clause-hints g c =
    let a = c.args in
    let t = c.take_ahead-lost in
    let old = state a.internal.now a.external.now a.idle.now (g.P.Supply.stock a.supply.now) in
    let new = state t.new.internal t.new.external t.new.idle (g.P.Supply.stock t.new.supply) in
    two_told g.R.Record.record_of g.R.Record.WIDTH g.S.Slot.shown g.R.Ord.cmp a.below.now a.ahead t.result old new t.new.out c.in-Some.two.first c.in-Some.two.second a.bench.now.hints c.tell_two.new.bench.hints c.requires.hints t.ensures.took t.ensures.nexts
    (ap (λ (b : Marks g.row.R.Denot). b.hints) c.tell_two.ensures ∙ ap (λ hs. slice_set (slice_set hs c.in-Some.two.first (next_at t.new.external c.in-Some.two.first)) c.in-Some.two.second (next_at t.new.external c.in-Some.two.second)) (t.ensures.hints ∙ ap (λ (b : Marks g.row.R.Denot). b.hints) c.next_two.ensures.bench))
