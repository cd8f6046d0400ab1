-- A block more is the one that was asked for, of the bytes of a block of records, and no call of it was made.
use Rattle.std.proofs.Common.{◌≡◌, ◌+◌, ◌*◌, ◌∷◌, ◌++◌, [], ℕ, List, length, map, All, ap, ap₂, sym, ◌∙◌, subst, arith, length-append}
use Rattle.std.specs.List.{range_with_len}
use Rattle.std.proofs.lemmas.List.{map-append}
use Rattle.std.proofs.lemmas.List.Elements.{All-push}
use Rattle.ppq_queue.specs.ppq_outside.Shown.{Shown, AllTell, Tells}
use Rattle.ppq_queue.specs.Holding.{IsNewSlot}
use Rattle.ppq_device.proofs.Numbered.{range-more, made-more}
use Rattle.ppq_device.proofs.make_blocks.Goals as goal

pub making-preserved : goal.making-preserved
making-preserved g c =
    let shown = g.K.Slot.Slot.shown in
    let made = g.K.Rack.made in
    let device = c.args.device.now in
    let had = c.making.blocks.items in
    let block = c.in-Ok.block in
    let number = c.making.number in
    let items = c.push_reserved.ensures.items in
    let all : map shown c.push_reserved.new.self.items ≡ map shown had ++ shown block ∷ [] = ap (map shown) items ∙ map-append shown had (block ∷ []) in
    let long : length c.push_reserved.new.self.items ≡ length had + 1 = ap length items ∙ omega (arith, length-append had (block ∷ [])) in
    record {
      many = long ∙ ap (λ n. n + 1) c.making.invariant.many;
      room = c.push_reserved.ensures.capacity ∙ c.making.invariant.room;
      bytes = c.making.invariant.bytes;
      new = subst (All (IsNewSlot (c.args.sizes.block * g.R.Record.WIDTH))) (sym all) (All-push (IsNewSlot (c.args.sizes.block * g.R.Record.WIDTH)) (map shown had) (shown block) c.making.invariant.new (record { size = c.in-Ok.ensures.size ∙ c.making.invariant.bytes; no_fault = c.in-Ok.ensures.fresh.no_fault; no_write = c.in-Ok.ensures.fresh.no_write; no_read = c.in-Ok.ensures.fresh.no_read }));
      numbers =
          ap (λ (t : List Shown). map (λ (slot : Shown). slot.number) t) all
          ∙ map-append (λ (slot : Shown). slot.number) (map shown had) (shown block ∷ [])
          ∙ ap₂ (λ (t : List ℕ) (k : ℕ). t ++ k ∷ []) c.making.invariant.numbers c.in-Ok.ensures.number
          ∙ sym (range-more number);
      made = made-more (made c.args.rack.now device) (made c.making.rack device) (made c.block-in-making.new.self device) number c.making.invariant.made c.in-Ok.ensures.made;
      tell = λ t. subst AllTell (sym all) (All-push Tells (map shown had) (shown block) (c.making.invariant.tell t) (c.in-Ok.ensures.tells (c.making.invariant.kept t)));
      kept = λ t. c.in-Ok.ensures.kept (c.making.invariant.kept t);
      stays = c.in-Ok.ensures.cause.ok ∙ c.making.invariant.stays;
    }
