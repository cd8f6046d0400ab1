use Rattle.std.specs.Prelude.{vec_len}
use Rattle.std.proofs.lemmas.List.{take-append-le}
use Rattle.std.proofs.Common.{◌≡◌, ℕ, ◌-◌, ◌*◌, List, ◌++◌, ◌∷◌, [], length, take, drop, All, refl, sym, ap, ◌∙◌, subst, arith, take-append-drop}
use Rattle.ppq_fetch.specs.ppq_array.Owner.{HasSlot}
use Rattle.ppq_fetch.proofs.ppq_array.Noted.{all_right, take_whole}
use Rattle.ppq_spill.specs.Making.{table_of}
use Rattle.ppq_spill.proofs.level.merge_last.Goals as goal

-- what is written back into a list of the same length
written_back : {X : Type 0} (n : ℕ) (xs zs : List X) → n ≡ length xs → take n (xs ++ zs) ≡ xs
written_back n xs zs e = ap (λ k. take k (xs ++ zs)) e ∙ take-append-le (length xs) xs zs (omega arith) ∙ take_whole xs

pub free_slots-requires-clause-size : goal.free_slots-requires-clause-size
free_slots-requires-clause-size g c =
    let w = g.R.Record.WIDTH in
    let m = c.in-Ok.ensures.outcome.0.merging in
    let made = c.merge_behind.new.making in
    subst (λ b. All (HasSlot g.S.Slot.shown (b * w)) made.berths) (sym m.rest.block) (all_right (HasSlot g.S.Slot.shown ((g.P.Supply.stock c.args.supply.now).block * w)) made.made.stored made.berths m.sizes)

pub free_slots-requires-in-Err-clause-size : goal.free_slots-requires-in-Err-clause-size
free_slots-requires-in-Err-clause-size g c =
    let w = g.R.Record.WIDTH in
    let m = c.in-Err.ensures.outcome.merging in
    let made = c.merge_behind.new.making in
    subst (λ b. All (HasSlot g.S.Slot.shown (b * w)) made.berths) (sym m.rest.block) (all_right (HasSlot g.S.Slot.shown ((g.P.Supply.stock c.args.supply.now).block * w)) made.made.stored made.berths m.sizes)

pub returns-in-Ok-clause-outcome : goal.returns-in-Ok-clause-outcome
returns-in-Ok-clause-outcome g c =
    let items = c.args.arrays.now.items in
    let n = length items - 8 in
    let value : c.deref_mut.result.now ≡ items = c.deref_mut.ensures.value in
    let new = c.merge_behind.new.arrays in
    let making = c.merge_behind.new.making in
    let t = table_of (drop n new) c.merge_behind.new.lanes making (g.P.Supply.stock c.merge_behind.new.supply) in
    let whole = written_back (vec_len c.args.arrays.now) new (drop (length new) items) (sym c.deref_mut.ensures.len ∙ sym c.merge_behind.auto.arrays) in
    let others : take n new ≡ take n items = rw value at c.merge_behind.ensures.others in
    let on = rw value at c.in-Ok.ensures.outcome in
    let first : c.len-first.result - 8 ≡ n = ap (λ n. n - 8) (c.len-first.ensures ∙ sym c.deref_mut.ensures.len ∙ ap length value) in
    let cut : c.truncate.new.self.items ≡ take (c.len-first.result - 8) new = c.truncate.ensures.items ∙ ap (take (c.len-first.result - 8)) whole in
    record {
      end = t;
      merged = on.0;
      emptied = on.1;
      arrays_are = c.push_reserved.ensures.items ∙ ap (λ zs. zs ++ making.made ∷ []) (cut ∙ ap (λ n. take n new) first ∙ others);
      idle_is = refl;
      stock_is = c.free_slots.ensures.stock;
    }

pub returns-in-Err-clause-outcome : goal.returns-in-Err-clause-outcome
returns-in-Err-clause-outcome g c =
    let items = c.args.arrays.now.items in
    let n = length items - 8 in
    let value : c.deref_mut.result.now ≡ items = c.deref_mut.ensures.value in
    let new = c.merge_behind.new.arrays in
    let making = c.merge_behind.new.making in
    let t = table_of (drop n new) c.merge_behind.new.lanes making (g.P.Supply.stock c.merge_behind.new.supply) in
    let whole = written_back (vec_len c.args.arrays.now) new (drop (length new) items) (sym c.deref_mut.ensures.len ∙ sym c.merge_behind.auto.arrays) in
    let others : take n new ≡ take n items = rw value at c.merge_behind.ensures.others in
    let put : c.push_reserved-in-Err.new.self.items ≡ new ++ making.made ∷ [] = c.push_reserved-in-Err.ensures.items ∙ ap (λ zs. zs ++ making.made ∷ []) whole in
    record {
      end = t;
      failed = rw value at c.in-Err.ensures.outcome;
      arrays_are = put ∙ ap (λ zs. zs ++ making.made ∷ []) (sym (take-append-drop n new) ∙ ap (λ zs. zs ++ drop n new) others);
      idle_is = refl;
      stock_is = c.free_slots-in-Err.ensures.stock;
    }
