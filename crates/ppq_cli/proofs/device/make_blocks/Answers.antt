use Rattle.std.proofs.Common.{◌≡◌, ◌+◌, ◌∷◌, ◌++◌, [], length, map, ap, sym, ◌∙◌, subst, arith, length-append}
use Rattle.std.specs.List.{range_with_len}
use Rattle.std.proofs.lemmas.List.{map-append, length-map}
use Rattle.std.proofs.lemmas.List.Elements.{All-push}
use Rattle.ppq_words.specs.ppq_outside.Shown.{AllTell, Tells}
use Rattle.ppq_words.specs.ppq_outside.Made.{HasMade}
use Rattle.ppq_cli.specs.Device.{AreNew}
use Rattle.ppq_cli.proofs.Numbered.{new-more, made-more}
use Rattle.ppq_cli.proofs.device.make_blocks.Goals as goal

pub loop-number-preserved : goal.loop-number-preserved
loop-number-preserved g c =
    let shown = g.K.Slot.Slot.shown in
    let made = g.K.Rack.made in
    let device = c.args.device.now in
    let had = c.loop-number.blocks.items in
    let block = c.in-Ok-block.block in
    let items = c.push_reserved.ensures.items in
    let all : map shown c.push_reserved.new.self.items ≡ map shown had ++ shown block ∷ [] = ap (map shown) items ∙ map-append shown had (block ∷ []) in
    let long : length c.push_reserved.new.self.items ≡ length had + 1 = ap length items ∙ omega (arith, length-append had (block ∷ [])) in
    let number : (shown block).number ≡ length (map shown had) = c.in-Ok-block.ensures.number ∙ sym (length-map had shown ∙ c.loop-number.invariant.many) in
    record {
      many = long ∙ ap (λ n. n + 1) c.loop-number.invariant.many;
      room = c.push_reserved.ensures.capacity ∙ c.loop-number.invariant.room;
      new = subst (AreNew c.args.bytes) (sym all) (new-more c.args.bytes (map shown had) (shown block) c.loop-number.invariant.new number (record { size = c.in-Ok-block.ensures.size; no_fault = c.in-Ok-block.ensures.fresh.no_fault; no_write = c.in-Ok-block.ensures.fresh.no_write; no_read = c.in-Ok-block.ensures.fresh.no_read }));
      made =
          let next : HasMade (made c.loop-number.rack device) (made c.block.new.self device) (length had ∷ []) = subst (λ n. HasMade (made c.loop-number.rack device) (made c.block.new.self device) (n ∷ [])) (sym c.loop-number.invariant.many) c.in-Ok-block.ensures.made in
          subst (λ n. HasMade (made c.args.rack.now device) (made c.block.new.self device) (range_with_len 0 n)) (sym long) (made-more (made c.args.rack.now device) (made c.loop-number.rack device) (made c.block.new.self device) (length had) c.loop-number.invariant.made next);
      tells = λ t. subst AllTell (sym all) (All-push Tells (map shown had) (shown block) (c.loop-number.invariant.tells t) (c.in-Ok-block.ensures.tells (c.loop-number.invariant.kept t)));
      kept = λ t. c.in-Ok-block.ensures.kept (c.loop-number.invariant.kept t);
      stays = c.in-Ok-block.ensures.cause.ok ∙ c.loop-number.invariant.stays;
    }
