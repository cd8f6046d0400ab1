-- The slots in the runs of each pass are some of those that it drew, so a history has each pass store just these.
use Rattle.std.proofs.Common.{◌≡◌, ◌≢◌, ℕ, zero, suc, ◌+◌, ◌-◌, ◌<◌, ◌≤◌, ◌==◌, cond, min, List, [], ◌∷◌, ◌++◌, length, drop, refl, sym, ap, ◌∙◌, subst, arith, eq-eqb, ne_eqb, append-nil, take-append-drop}
use mathlib.Core.Logic.{dite}
use mathlib.Core.Option.{Option, none, some, some-injective}
use native.Mathlib.Decide.{ℕ_discrete, dec_le}
use lib.ListN.{get_elem?}
use Rattle.std.proofs.lemmas.List.Sums.{sum_by-cons}
use Rattle.ppq_pass.specs.ppq_outside.Shown.{Shown}
use Rattle.ppq_pass.specs.ppq_array.declared.berth.DeviceBlock.{DeviceBlock}
use Rattle.ppq_pass.specs.ppq_array.Kept.{weight_at, times_of}
use Rattle.ppq_pass.specs.ppq_array.Owner.{slots_shown}
use Rattle.ppq_pass.specs.ppq_core.declared.event.Event.{Event}
use Rattle.ppq_pass.specs.ppq_core.declared.place.Place.TheVariants.{Held}
use Rattle.ppq_pass.specs.ppq_core.History.{slot_at, pushed_by}
use Rattle.ppq_pass.specs.ppq_row.declared.hand.Hand.{Hand as RowHand}
use Rattle.ppq_pass.specs.ppq_row.Rule.{RowRule, counter}
use Rattle.ppq_pass.specs.ppq_table.Sums.{times}
use Rattle.ppq_pass.proofs.ppq_table.Numbers.{times-cons, once-in, once-out}
use Rattle.ppq_pass.proofs.ppq_table.Sums.{at_within, within_at, one_of_total, two_of_total}
use Rattle.ppq_pass.specs.declared.shared.PoolBuf.{PoolBuf}
use Rattle.ppq_pass.specs.Passing.{items_at, with_item}
use Rattle.ppq_pass.specs.Passed.{PassHolding}
use Rattle.ppq_session.specs.OneHistory.{IsWith, PoolAndRow, Seating, ShowsTogether, buffers_of}
use Rattle.ppq_session.specs.Stored.{without_stores, AreStoresOf, stored_by, in_runs, slots_at, DrewBySeat, HasStored, RunsAreStored}
use Rattle.ppq_session.proofs.Stored.{without-twice, stores-without, stored_by-without, pushed_by-without, with_stores, without-with, stored_by-own, stored_by-other, slot-past, stores-with, beside, with_held, stores_anywhere}

-- Places from which slots are chosen that have the numbers of others
module _ {S R : Type 0} (shown : S → Shown) (items : List (DeviceBlock S R)) where
  -- how many of the slots at these places have this number
  abbrev at_places : ℕ → List ℕ → ℕ
  at_places number places = times_of number (slots_at shown items places)

  at-cons : (number p : ℕ) (ps : List ℕ) → at_places number (p ∷ ps) ≡ at_places number (p ∷ []) + at_places number ps
  at-cons number p ps = one (get_elem? items p)
    where
      one : (o : Option (DeviceBlock S R)) → times_of number (slots_shown shown (with_item o (items_at items ps))) ≡ times_of number (slots_shown shown (with_item o [])) + at_places number ps
      one none = omega arith
      one (some b) = omega (arith, sum_by-cons (weight_at (λ t. 1) number) (shown b.slot) (slots_at shown items ps), sum_by-cons (weight_at (λ t. 1) number) (shown b.slot) [])

  -- a place that counts for a number has a slot with this number
  at_hit : (number p : ℕ) → 0 < at_places number (p ∷ []) → (b : DeviceBlock S R) × (get_elem? items p ≡ some b) × ((shown b.slot).number ≡ number)
  at_hit number p h = one (get_elem? items p) h
    where
      one : (o : Option (DeviceBlock S R)) → 0 < times_of number (slots_shown shown (with_item o [])) → (b : DeviceBlock S R) × (o ≡ some b) × ((shown b.slot).number ≡ number)
      one none lt = absurd (omega (arith, lt))
      one (some b) lt = dite (ℕ_discrete (shown b.slot).number number) (λ e. (b, refl, e))
          (λ ne. absurd (omega (arith, lt, sum_by-cons (weight_at (λ t. 1) number) (shown b.slot) [], ap {B = ℕ} (λ c. cond c 1 0) (ne_eqb (shown b.slot).number number ne))))

  -- it counts as a slot with this number does
  at_like : (n p : ℕ) (r : Shown) (b : DeviceBlock S R) → get_elem? items p ≡ some b → (shown b.slot).number ≡ r.number → at_places n (p ∷ []) ≡ times_of n (r ∷ [])
  at_like n p r b at same = ap (λ o. times_of n (slots_shown shown (with_item o []))) at
      ∙ omega (arith, sum_by-cons (weight_at (λ t. 1) n) (shown b.slot) [], sum_by-cons (weight_at (λ t. 1) n) r [], ap {B = ℕ} (λ (k : ℕ). cond (k == n) 1 0) same)

  -- one of these places has a slot with this number, and the rest are the others
  record Picked (number : ℕ) (ps : List ℕ) : Type 0 where
    place : ℕ
    others : List ℕ
    block : DeviceBlock S R
    at : get_elem? items place ≡ some block
    same : (shown block.slot).number ≡ number
    counts : (n : ℕ) → at_places n ps ≡ at_places n (place ∷ []) + at_places n others
    places : (i : ℕ) → times i ps ≡ times i (place ∷ []) + times i others

  pick : (number : ℕ) (ps : List ℕ) → 0 < at_places number ps → Picked number ps
  pick number [] h = absurd (omega (arith, h))
  pick number (p ∷ ps) h = dite (dec_le 1 (at_places number (p ∷ [])))
      (λ here. let b = at_hit number p (omega (arith, here)) in record { place = p; others = ps; block = b.0; at = b.1; same = b.2; counts = λ n. at-cons n p ps; places = λ i. times-cons i p ps })
      (λ past. let more = pick number ps (omega (arith, h, past, at-cons number p ps)) in record {
        place = more.place;
        others = p ∷ more.others;
        block = more.block;
        at = more.at;
        same = more.same;
        counts = λ n. omega (arith, at-cons n p ps, more.counts n, at-cons n p more.others);
        places = λ i. omega (arith, times-cons i p ps, more.places i, times-cons i p more.others);
      })

  -- some of these places, with the numbers of these slots
  record Chosen (slots : List Shown) (ps : List ℕ) : Type 0 where
    chosen : List ℕ
    counts : (n : ℕ) → at_places n chosen ≡ times_of n slots
    among : (i : ℕ) → times i chosen ≤ times i ps

  times_of-cons : (n : ℕ) (r : Shown) (slots : List Shown) → times_of n (r ∷ slots) ≡ times_of n (r ∷ []) + times_of n slots
  times_of-cons n r slots = omega (arith, sum_by-cons (weight_at (λ t. 1) n) r slots, sum_by-cons (weight_at (λ t. 1) n) r [])

  times_of-own : (r : Shown) → times_of r.number (r ∷ []) ≡ 1
  times_of-own r = omega (arith, sum_by-cons (weight_at (λ t. 1) r.number) r [], ap {B = ℕ} (λ c. cond c 1 0) (eq-eqb r.number r.number refl))

  choose : (slots rest : List Shown) (ps : List ℕ) → ((n : ℕ) → at_places n ps ≡ times_of n (slots ++ rest)) → Chosen slots ps
  choose [] rest ps same = record { chosen = []; counts = λ n. refl; among = λ i. omega arith }
  choose (r ∷ slots) rest ps same =
      let p = pick r.number ps (omega (arith, same r.number, times_of-cons r.number r (slots ++ rest), times_of-own r)) in
      let like : (n : ℕ) → at_places n (p.place ∷ []) ≡ times_of n (r ∷ []) = λ n. at_like n p.place r p.block p.at p.same in
      let more = choose slots rest p.others (λ n. omega (arith, same n, times_of-cons n r (slots ++ rest), p.counts n, like n)) in
      record {
        chosen = p.place ∷ more.chosen;
        counts = λ n. omega (arith, at-cons n p.place more.chosen, more.counts n, like n, times_of-cons n r slots);
        among = λ i. omega (arith, times-cons i p.place more.chosen, more.among i, p.places i);
      }

module _ {S R : Type 0} (shown : S → Shown) (x : Seating (PoolBuf R) (DeviceBlock S R)) (s : PoolAndRow (PoolBuf R) (DeviceBlock S R)) (passes : List (PassHolding S R)) (h : List (Event R))
    (rule : RowRule x.slots s.row) (drew : (p : ℕ) (pass : PassHolding S R) → get_elem? passes p ≡ some pass → DrewBySeat shown x s.row p pass) (o : ShowsTogether x s h)
  where
    -- a place that is listed was drawn, and is listed once, by one seat
    listed_drawn : (i j : ℕ) (v : RowHand (DeviceBlock S R)) → get_elem? s.row.views j ≡ some v → 0 < times i v.places → i < min (counter s.row) (length x.slots)
    listed_drawn i j v at lists = dite (dec_le (suc i) (min (counter s.row) (length x.slots))) (λ lt. omega (arith, lt))
        (λ ge. absurd (omega (arith, lists, one_of_total (λ (u : RowHand (DeviceBlock S R)). times i u.places) s.row.views j v at, rule.each_once i, once-out i (min (counter s.row) (length x.slots)) (omega (arith, ge)))))

    listed_once : (i j : ℕ) (v : RowHand (DeviceBlock S R)) → get_elem? s.row.views j ≡ some v → times i v.places ≤ 1
    listed_once i j v at = dite (dec_le 1 (times i v.places))
        (λ lists. omega (arith, one_of_total (λ (u : RowHand (DeviceBlock S R)). times i u.places) s.row.views j v at, rule.each_once i, once-in i (min (counter s.row) (length x.slots)) (listed_drawn i j v at (omega (arith, lists)))))
        (λ none. omega (arith, none))

    one_seat : (i j k : ℕ) (v u : RowHand (DeviceBlock S R)) → get_elem? s.row.views j ≡ some v → get_elem? s.row.views k ≡ some u → 0 < times i v.places → 0 < times i u.places → k ≡ j
    one_seat i j k v u at there lists too = dite (ℕ_discrete k j) (λ is. is)
        (λ ne. absurd (omega (arith, lists, too, two_of_total (λ (w : RowHand (DeviceBlock S R)). times i w.places) s.row.views j k v u at there ne, rule.each_once i, once-in i (min (counter s.row) (length x.slots)) (listed_drawn i j v at lists))))

    -- so it is with the pass of that seat, which holds it but for stores
    listed_held : (i j : ℕ) (v : RowHand (DeviceBlock S R)) → get_elem? s.row.views j ≡ some v → 0 < times i v.places → (i < length x.slots) × (slot_at i (without_stores h) ≡ Held (x.row_pass j))
    listed_held i j v at lists =
        let below = listed_drawn i j v at lists in
        let f = o.drawn_slot i (omega (arith, below)) (omega (arith, below)) in
        let with : IsWith (x.row_pass j) (slot_at i h) = subst (λ (k : ℕ). IsWith (x.row_pass k) (slot_at i h)) (one_seat i j f.0 v f.1 at f.2 lists f.3) f.4 in
        (omega (arith, below), with_held (x.row_pass j) (slot_at i h) (slot_at i (without_stores h)) (beside (buffers_of s.pool) (length x.slots) x.passes i h o.legal) with)

    -- the first n passes have stored the slots of their runs, and the others nothing yet
    record StoredBelow (n : ℕ) : Type 0 where
      now : List (Event R)
      same : without_stores now ≡ without_stores h
      of : AreStoresOf (length x.slots) x.passes now
      done : (p : ℕ) (pass : PassHolding S R) → p < n → get_elem? passes p ≡ some pass → HasStored shown x.slots p now pass
      not_yet : (p : ℕ) → n ≤ p → stored_by p now ≡ []
      held : (i p : ℕ) → n ≤ p → slot_at i (without_stores h) ≡ Held p → slot_at i now ≡ Held p

    none_stored : StoredBelow 0
    none_stored = record {
      now = without_stores h;
      same = without-twice h;
      of = stores-without (length x.slots) x.passes h;
      done = λ p pass lt at. absurd (omega (arith, lt));
      not_yet = λ p le. stored_by-without p h;
      held = λ i p le is. is;
    }

    held_same : (p q : ℕ) → Held p ≡ Held q → p ≡ q
    held_same p q e = cc

    one_more : (n : ℕ) (pass : PassHolding S R) → get_elem? passes n ≡ some pass → StoredBelow n → StoredBelow (suc n)
    one_more n pass at b = record {
      now = with_stores n c.chosen b.now;
      same = without-with n c.chosen b.now ∙ b.same;
      of = stores-with (length x.slots) x.passes n c.chosen b.now (subst (λ (q : ℕ). q < x.passes) seat.of (x.row_below seat.seat)) once (λ i lt. let l = drew_it i lt in (l.0, b.held i n (omega arith) l.1)) b.of;
      done = λ p other lt there. dite (ℕ_discrete n p)
          (λ e. subst (λ (q : ℕ). HasStored shown x.slots q (with_stores n c.chosen b.now) other) e (subst (λ y. HasStored shown x.slots n (with_stores n c.chosen b.now) y) (some-injective pass other (sym at ∙ ap (get_elem? passes) e ∙ there)) own))
          (λ ne. λ number. ap (λ l. times_of number (slots_at shown x.slots l)) (stored_by-other n p c.chosen b.now ne) ∙ b.done p other (below p lt ne) there number);
      not_yet = λ p le. stored_by-other n p c.chosen b.now (λ e. omega (arith, le, e)) ∙ b.not_yet p (omega (arith, le));
      held = λ i p le is. slot-past i n c.chosen b.now (untouched i p le is) ∙ b.held i p (omega (arith, le)) is;
    }
      where
        seat : DrewBySeat shown x s.row n pass
        seat = drew n pass at

        c : Chosen shown x.slots (in_runs pass) seat.view.places
        c = choose shown x.slots (in_runs pass) (drop (length pass.slots - pass.stash) pass.slots) seat.view.places
            (λ number. ap (times_of number) (sym seat.drawn) ∙ sym (seat.slots.each_once number) ∙ ap (times_of number) (sym (take-append-drop (length pass.slots - pass.stash) pass.slots)))

        once : (i : ℕ) → times i c.chosen ≤ 1
        once i = omega (arith, c.among i, listed_once i seat.seat seat.view seat.at)

        drew_it : (i : ℕ) → 0 < times i c.chosen → (i < length x.slots) × (slot_at i (without_stores h) ≡ Held n)
        drew_it i lt = let l = listed_held i seat.seat seat.view seat.at (omega (arith, lt, c.among i)) in (l.0, l.1 ∙ ap Held seat.of)

        own : HasStored shown x.slots n (with_stores n c.chosen b.now) pass
        own number = ap (λ l. times_of number (slots_at shown x.slots l)) (stored_by-own n c.chosen b.now ∙ ap (λ l. c.chosen ++ l) (b.not_yet n (omega arith)) ∙ append-nil c.chosen) ∙ c.counts number

        below : (p : ℕ) → p < suc n → n ≢ p → p < n
        below p lt ne = dite (dec_le (suc p) n) (λ le. le) (λ ge. absurd (ne (omega (arith, lt, ge))))

        untouched : (i p : ℕ) → suc n ≤ p → slot_at i (without_stores h) ≡ Held p → times i c.chosen ≡ 0
        untouched i p le is = dite (dec_le 1 (times i c.chosen))
            (λ some_times. let e = held_same n p (sym (drew_it i (omega (arith, some_times))).1 ∙ is) in absurd (omega (arith, le, e)))
            (λ none. omega (arith, none))

    all_stored : (n : ℕ) → n ≤ length passes → StoredBelow n
    all_stored zero le = none_stored
    all_stored (suc n) le = let there = at_within passes n (omega (arith, le)) in one_more n there.0 there.1 (all_stored n (omega (arith, le)))

pub runs_stored : {S R : Type 0} (shown : S → Shown) → RunsAreStored S R shown
runs_stored shown x s passes h rule drew o =
    let all = all_stored shown x s passes h rule drew o (length passes) (omega arith) in
    (all.now, stores_anywhere x s h all.now o all.same all.of, all.same, λ p. pushed_by-without p all.now ∙ ap (pushed_by p) all.same ∙ sym (pushed_by-without p h), λ p pass at. all.done p pass (within_at passes p pass at) at)
