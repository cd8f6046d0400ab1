use Rattle.std.proofs.Common.{◌≡◌, ◌+◌, ◌/◌, ◌∷◌, ◌++◌, [], All, length, reverse, sym, ap, ◌∙◌, subst, arith, length-append, append-nil}
use Rattle.std.proofs.lemmas.List.{length-reverse, nil_from_length}
use Rattle.std.proofs.lemmas.List.Elements.{All-push}
use Rattle.atomic_table.specs.Seated.{TableId}
use Rattle.ppq_pass.specs.ppq_budget.Sizes.{heap_of, pool_of}
use Rattle.ppq_pass.specs.ppq_heap.Heap.{Contents}
use Rattle.ppq_pass.specs.ppq_pool.Seats.{count_of}
use Rattle.ppq_pass.specs.Passed.{PassHolding}
use Rattle.ppq_session.specs.BulkSession.{IsFresh}
use Rattle.ppq_session.specs.Outfits.{IsOutfit}
use Rattle.ppq_session.specs.Equipped.{MayEquip, Equipped, HasBegun, bags_of, bags_in, session_key}
use Rattle.ppq_session.specs.declared.outfit.Outfit.{Outfit}
use Rattle.ppq_session.proofs.Equipping.{all_front, all_last, dealt_bags, key_is, may_still, one_more}
use Rattle.ppq_session.proofs.equip.equip.Goals as goal

pub new_pass-requires-clause-outfit : goal.new_pass-requires-clause-outfit
new_pass-requires-clause-outfit g c =
    let i = c.dealing.invariant in
    let sizes = c.args.sizes in
    let fits : TableId → Outfit g.row.S.Denot g.row.R.Denot → Type 0 = λ pool. IsOutfit (pool_of sizes / sizes.heap + 1) (sizes.blocks / sizes.heap + 1) (count_of pool) in
    let outfit = c.in-Some-pop.outfit in
    let there = c.args.session.now.pool_seat.pool in
    let last = all_last (fits there) c.pop-in-Some.new.self.items outfit (subst (All (fits there)) c.in-Some-pop.ensures.items i.each) in
    subst (λ pool. fits pool outfit) (sym i.equipped.pool) last

pub dealing-preserved-in-Some-pop : goal.dealing-preserved-in-Some-pop
dealing-preserved-in-Some-pop g c =
    let i = c.dealing.invariant in
    let sizes = c.args.sizes in
    let begin = c.args.session.now in
    let passes = c.dealing.passes.items in
    let heap = c.in-Some.heap in
    let rest = c.pop.new.self.items in
    let heaps : c.dealing.heaps.items ≡ rest ++ heap ∷ [] = c.in-Some.ensures.items in
    let outfit = c.in-Some-pop.outfit in
    let others = c.pop-in-Some.new.self.items in
    let outfits : c.dealing.outfits.items ≡ others ++ outfit ∷ [] = c.in-Some-pop.ensures.items in
    let x = c.new_pass.result in
    let made = c.new_pass.ensures in
    let all : c.push_reserved.new.self.items ≡ passes ++ x ∷ [] = c.push_reserved.ensures.items in
    let long : length c.push_reserved.new.self.items ≡ length passes + 1 = omega (arith, ap length all, length-append passes (x ∷ [])) in
    let left : length c.dealing.heaps.items ≡ length rest + 1 = omega (arith, ap length heaps, length-append rest (heap ∷ [])) in
    let spare : length c.dealing.outfits.items ≡ length others + 1 = omega (arith, ap length outfits, length-append others (outfit ∷ [])) in
    let key = λ (p : PassHolding g.row.S.Denot g.row.R.Denot). p.key ≡ session_key sizes begin p.key.begun in
    let no_slot = λ (p : PassHolding g.row.S.Denot g.row.R.Denot). p.slots ≡ [] in
    let before = bags_in (reverse c.args.heaps.now.items) in
    let cap = λ (h : Contents g.row.R.Denot). h.cap ≡ heap_of sizes in
    let fits = IsOutfit {S = g.row.S.Denot} {R = g.row.R.Denot} (pool_of sizes / sizes.heap + 1) (sizes.blocks / sizes.heap + 1) (count_of begin.pool_seat.pool) in
    record {
      count = omega (arith, i.count, long, left);
      keys = subst (All key) (sym all) (All-push key passes x i.keys (key_is sizes c.args.idle.now c.dealing.idle begin c.dealing.session (length passes) i.equipped heap.items x made.pass));
      bags = subst (λ l. bags_of l ++ bags_in (reverse rest) ≡ before) (sym all) (dealt_bags passes x rest heap before made.pass.bag (subst (λ l. bags_of passes ++ bags_in (reverse l) ≡ before) heaps i.bags));
      slots = subst (All no_slot) (sym all) (All-push no_slot passes x i.slots made.pass.slots);
      whole = subst (All HasBegun) (sym all) (All-push HasBegun passes x i.whole (ap length made.pass.bag ∙ sym (ap (λ k. k.begun) made.pass.key)));
      fresh = subst (All IsFresh) (sym all) (All-push IsFresh passes x i.fresh made.pass.fresh);
      caps = all_front cap rest heap (subst (All cap) heaps i.caps);
      outfits = omega (arith, i.outfits, left, spare);
      each = all_front fits others outfit (subst (All fits) outfits i.each);
      capacity = c.in-Some.ensures.capacity ∙ i.capacity;
      room = c.push_reserved.ensures.capacity ∙ i.room;
      may = may_still sizes c.dealing.idle c.new_pass.new.idle c.dealing.session c.new_pass.new.session g.S.Slot.shown g.R.Record.WIDTH (length rest)
          (subst (λ n. MayEquip g.S.Slot.shown g.R.Record.WIDTH sizes n c.dealing.idle c.dealing.session) left i.may) made.equipped;
      equipped = subst (λ n. Equipped sizes n c.args.idle.now c.new_pass.new.idle begin c.new_pass.new.session) (sym long)
          (one_more sizes c.args.idle.now c.dealing.idle c.new_pass.new.idle begin c.dealing.session c.new_pass.new.session (length passes) i.equipped made.equipped);
    }

pub returns-clause-made : goal.returns-clause-made
returns-clause-made g c =
    let i = c.dealing.invariant in
    let none : length c.dealing.heaps.items ≡ 0 = omega (arith, c.in_default.ensures.cases) in
    let empty = nil_from_length c.dealing.heaps.items none in
    record {
      passes_are = record {
        count = omega (arith, i.count, none, length-reverse c.args.heaps.now.items);
        keys = i.keys;
        bags = sym (append-nil (bags_of c.dealing.passes.items)) ∙ ap (λ l. bags_of c.dealing.passes.items ++ bags_in (reverse l)) (sym empty) ∙ i.bags;
        slots = i.slots;
        whole = i.whole;
        fresh = i.fresh;
      };
      equipped = subst (λ n. Equipped c.args.sizes n c.args.idle.now c.dealing.idle c.args.session.now c.dealing.session) (omega (arith, i.count, none)) i.equipped;
    }
