use Rattle.std.proofs.Common.{◌≡◌, ◌+◌, ◌-◌, ◌*◌, length, take, drop, min, refl, ap, ◌∙◌, arith}
use Rattle.std.proofs.lemmas.List.{length-take, length-drop}
use Rattle.ppq_spill.specs.Making.{hand_of}
use Rattle.ppq_spill.proofs.Batches.{Batch-none, Batch-more, Batch-all, Batch-failed, Batch-part}
use Rattle.ppq_spill.proofs.Idle.{first_block, SameBuffers-trans}
use Rattle.ppq_spill.proofs.making.write_batch.Goals as goal

pub loop-at-init : goal.loop-at-init
loop-at-init g c =
    let s = g.P.Supply.stock c.args.supply.now in
    record {
      batch = Batch-none g.R.Record.record_of g.R.Record.WIDTH s.block g.S.Slot.shown (s.block * g.R.Record.WIDTH) c.args.records.now c.requires.may.some (hand_of c.args.making.now s);
      idle = record { long = refl; blocks = c.requires.may.blocks };
      home = refl;
    }

pub write_part-requires-clause-may : goal.write_part-requires-clause-may
write_part-requires-clause-may g c κs within =
    let s = g.P.Supply.stock c.args.supply.now in
    let w = g.R.Record.WIDTH in
    let i = c.loop-at.invariant in
    let at = c.loop-at.at in
    let end = c.min-end.result in
    let is = c.min-end.ensures ∙ ap (λ b. min (length c.args.records.now) (at + b)) (c.block-block.ensures ∙ first_block s.block c.args.idle.now c.at.result.now c.requires.may.blocks c.at.ensures) in
    Batch-part g.R.Record.record_of w s.block g.S.Slot.shown (s.block * w) c.args.records.now at end (length (take (end - at) (drop at c.args.records.now))) c.args.idle.now c.loop-at.idle (hand_of c.args.making.now s) (hand_of c.loop-at.making (g.P.Supply.stock c.loop-at.supply))
    c.requires.may refl refl i.idle i.batch c.loop-at-test.true is (omega (arith, length-take (end - at) (drop at c.args.records.now), length-drop at c.args.records.now, is, c.loop-at-test.true))

pub loop-at-smaller : goal.loop-at-smaller
loop-at-smaller g c =
    let s = g.P.Supply.stock c.args.supply.now in
    let block = c.block-block.ensures ∙ first_block s.block c.args.idle.now c.at.result.now c.requires.may.blocks c.at.ensures in
    omega (arith, c.min-end.ensures, block, c.requires.may.some, c.loop-at-test.true)

pub loop-at-preserved : goal.loop-at-preserved
loop-at-preserved g c =
    let s = g.P.Supply.stock c.args.supply.now in
    let s1 = g.P.Supply.stock c.loop-at.supply in
    let w = g.R.Record.WIDTH in
    let i = c.loop-at.invariant in
    let same : s1.block ≡ s.block = i.batch.wrote.rest.block in
    let block = c.block-block.ensures ∙ first_block s.block c.args.idle.now c.at.result.now c.requires.may.blocks c.at.ensures in
    record {
      batch = Batch-more g.R.Record.record_of w s.block g.S.Slot.shown (s.block * w) c.args.records.now c.loop-at.at c.min-end.result (hand_of c.args.making.now s) (hand_of c.loop-at.making s1) (hand_of c.write_part.new.making (g.P.Supply.stock c.write_part.new.supply)) _
          c.requires.may.some i.batch c.loop-at-test.true (c.min-end.ensures ∙ ap (λ b. min (length c.args.records.now) (c.loop-at.at + b)) block) refl (rw same at c.in-Ok.ensures.outcome);
      idle = SameBuffers-trans s.block c.args.idle.now c.loop-at.idle c.write_part.new.idle i.idle (rw same at c.write_part.ensures.idle);
      home = c.write_part.ensures.home ∙ i.home;
    }

pub returns-in-Err-clause-outcome : goal.returns-in-Err-clause-outcome
returns-in-Err-clause-outcome g c =
    let s = g.P.Supply.stock c.args.supply.now in
    let s1 = g.P.Supply.stock c.loop-at.supply in
    let w = g.R.Record.WIDTH in
    let i = c.loop-at.invariant in
    let same : s1.block ≡ s.block = i.batch.wrote.rest.block in
    Batch-failed g.R.Record.record_of w s.block g.S.Slot.shown (s.block * w) c.args.records.now c.loop-at.at (hand_of c.args.making.now s) (hand_of c.loop-at.making s1) (hand_of c.write_part.new.making (g.P.Supply.stock c.write_part.new.supply)) c.in-Err.fault i.batch c.loop-at-test.true (rw same at c.in-Err.ensures.outcome)

pub returns-in-Err-clause-idle : goal.returns-in-Err-clause-idle
returns-in-Err-clause-idle g c =
    let s = g.P.Supply.stock c.args.supply.now in
    let i = c.loop-at.invariant in
    let same : (g.P.Supply.stock c.loop-at.supply).block ≡ s.block = i.batch.wrote.rest.block in
    SameBuffers-trans s.block c.args.idle.now c.loop-at.idle c.write_part.new.idle i.idle (rw same at c.write_part.ensures.idle)

pub returns-clause-outcome : goal.returns-clause-outcome
returns-clause-outcome g c =
    let s = g.P.Supply.stock c.args.supply.now in
    let w = g.R.Record.WIDTH in
    Batch-all g.R.Record.record_of w s.block g.S.Slot.shown (s.block * w) c.args.records.now c.loop-at.at (hand_of c.args.making.now s) (hand_of c.loop-at.making (g.P.Supply.stock c.loop-at.supply)) c.loop-at.invariant.batch c.loop-at-test.false
