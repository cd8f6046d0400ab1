use Rattle.std.proofs.Common.{◌≡◌, ◌∙◌, ◌*◌, ◌<◌, ◌≤◌, ℕ, [], refl, sym, ap, subst, arith, inl, inr}
use Rattle.std.specs.Prelude.{map}
use Rattle.std.specs.List.{range_with_len}
use Rattle.ppq_answer.specs.ppq_frames.ppq_outside.Made.{HasMade}
use Rattle.ppq_answer.specs.ppq_engine.ppq_load.ppq_budget.Sizes.{Numbers, fixed_of}
use Rattle.ppq_answer.specs.ppq_engine.ppq_queue.Holding.{AreNewSlots}
use Rattle.ppq_requests.specs.ppq_script.Words.{words}
use Rattle.ppq_words.specs.Reading.{in_unit, sizes_for}
use Rattle.ppq_words.specs.ServeReading.{as_serve_reading}
use Rattle.ppq_answer.proofs.ppq_engine.Returned.{blocks_back}
use Rattle.ppq_answer.specs.Answers.{ServesTalk}
use Rattle.ppq_answer.specs.ppq_engine.declared.end.End.{End}
use Rattle.ppq_answer.specs.declared.outcome.Outcome.{Outcome}
use Rattle.ppq_answer.specs.declared.outcome.Outcome.TheVariants.{Ended}
use Rattle.ppq_serve_cli.specs.Over.{UnmadeSays}
use Rattle.ppq_serve_cli.proofs.Devices.{making-says}
use Rattle.ppq_serve_cli.proofs.over.serve_over.Goals as goal

pub returns-in-Ok : goal.returns-in-Ok
returns-in-Ok g c = let w = words g.R.PartialEq g.R.PartialOrd g.R.Ord g.R.Record g.R.Fields in
    let given = c.args.arguments.now.given in
    let are : c.for_width-sizes.result ≡ sizes_for w.WIDTH given = c.for_width-sizes.ensures ∙ ap (λ (n : ℕ). sizes_for n given) c.WIDTH-width.ensures in
    let first = map g.K.Slot.Slot.shown c.in-Ok.blocks.items in
    let Enough : Numbers → Type 0 = λ n. fixed_of n ≤ n.memory in
    let New : Numbers → Type 0 = λ n. AreNewSlots n w.WIDTH first in
    let Talk : Numbers → Type 0 =
    λ n.
    ServesTalk w g.I.Source n first (map g.K.Slot.Slot.shown c.serve.result.blocks.items) c.args.source.now c.serve.new.source c.args.incoming.now c.serve.new.incoming (g.O.Sink.told c.args.out.now) (g.O.Sink.told c.serve.new.out) (g.O.Sink.faults c.args.out.now) (g.O.Sink.faults c.serve.new.out) c.serve.result.outcome in
    let device = (as_serve_reading c.args.arguments.now).device in
    let Numbered : Numbers → Type 0 = λ n. map (λ s. s.number) first ≡ range_with_len 0 n.blocks in
    let Made : Numbers → Type 0 = λ n. HasMade (g.K.Rack.made c.args.rack.now device) (g.K.Rack.made c.make_blocks-made.new.rack device) (range_with_len 0 n.blocks) in
    let enough : Enough c.for_width-sizes.result = omega (arith, c.if-memory-fixed.false, c.fixed.ensures, c.memory.ensures.same) in
    let talk = subst Talk are c.serve.ensures in
    let numbers : Numbered (sizes_for w.WIDTH given) = subst Numbered are c.in-Ok.ensures.numbers in
    let new : New (sizes_for w.WIDTH given) = subst New are c.in-Ok.ensures.new in (
      talk.requests,
      inr (record {
        first = first;
        enough = subst Enough are enough;
        new = new;
        tell = c.in-Ok.ensures.tell;
        numbers = numbers;
        made = subst Made are c.in-Ok.ensures.made;
        same = c.in-Ok.ensures.cause.ok;
        talk = talk;
        asked = refl;
        back = blocks_back ((sizes_for w.WIDTH given).block * w.WIDTH) (sizes_for w.WIDTH given).blocks first (map g.K.Slot.Slot.shown c.serve.result.blocks.items) numbers new.fresh talk.slots;
      }),
    )

pub returns-in-Err : goal.returns-in-Err
returns-in-Err g c = let w = words g.R.PartialEq g.R.PartialOrd g.R.Ord g.R.Record g.R.Fields in
    let u = c.unmade-in-Err in
    let rack = c.make_blocks-made.new.rack in
    let r = as_serve_reading c.args.arguments.now in
    let Says : Outcome → Type 0 = λ o. UnmadeSays w g.I.Source g.K.Rack g.O.Sink g.K.Slot.Slot.shown r c.args.source.now c.args.source.now c.args.incoming.now c.args.incoming.now c.args.rack.now rack c.args.out.now c.args.out.now u.result [] o in
    let own = making-says w g.I.Source g.K.Rack g.O.Sink g.K.Slot.Slot.shown r c.args.source.now c.args.incoming.now c.args.rack.now rack c.args.out.now u.result c.make_blocks-made.result c.in-Err.fault c.make_blocks-made.ensures.cause c.in-Err.is in
    let same = u.ensures.outcome ∙ ap (λ (e : End). Ended e) c.end_of_making.ensures in (
      [],
      inl (record { unasked = refl; unread = refl; untaken = refl; unwritten = refl; none = u.ensures.none; says = subst Says (sym same) own }),
    )

pub returns-then-memory-fixed : goal.returns-then-memory-fixed
returns-then-memory-fixed g c = let w = words g.R.PartialEq g.R.PartialOrd g.R.Ord g.R.Record g.R.Fields in
    let given = c.args.arguments.now.given in
    let width = c.WIDTH-width.ensures in
    let are : c.for_width-sizes.result ≡ sizes_for w.WIDTH given = c.for_width-sizes.ensures ∙ ap (λ (n : ℕ). sizes_for n given) width in
    let Less : Numbers → Type 0 = λ n. n.memory < fixed_of n in
    let less : Less c.for_width-sizes.result = omega (arith, c.if-memory-fixed.true, c.fixed.ensures, c.memory.ensures.same) in
    let need : c.amount-need.result ≡ in_unit w.WIDTH given.unit (fixed_of (sizes_for w.WIDTH given)) =
    c.amount-need.ensures ∙ ap (λ (n : ℕ). in_unit n c.unit.result c.fixed-then-memory-fixed.result) width ∙ ap (λ u. in_unit w.WIDTH u c.fixed-then-memory-fixed.result) c.unit.ensures
    ∙ ap (λ (f : ℕ). in_unit w.WIDTH given.unit f) (c.fixed-then-memory-fixed.ensures ∙ ap (λ (n : Numbers). fixed_of n) are) in
    let Says : Outcome → Type 0 = λ o. UnmadeSays w g.I.Source g.K.Rack g.O.Sink g.K.Slot.Slot.shown (as_serve_reading c.args.arguments.now) c.args.source.now c.args.source.now c.args.incoming.now c.args.incoming.now c.args.rack.now c.args.rack.now c.args.out.now c.args.out.now c.unmade.result [] o in (
      [],
      inl (record { unasked = refl; unread = refl; untaken = refl; unwritten = refl; none = c.unmade.ensures.none; says = subst Says (sym c.unmade.ensures.outcome) (subst Less are less, need, refl) }),
    )
