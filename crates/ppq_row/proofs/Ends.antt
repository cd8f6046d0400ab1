-- The rule at the start, and what the last seat knows at the end.
use Rattle.std.proofs.Common.{◌≡◌, ℕ, ◌+◌, ◌<◌, ◌≤◌, min, true, List, [], ◌∷◌, take, drop, length, slice_index, sym, refl, ap, ◌∙◌, subst, arith, drop_of_length-le, true≢false}
use Rattle.std.proofs.lemmas.List.Elements.{All-nil}
use mathlib.Core.Option.{some, some-injective, some-ne-none}
use mathlib.Core.Logic.{dite}
use native.Mathlib.Decide.{dec_le}
use lib.ListN.{get_elem?}
use Rattle.atomic_table.specs.Table.{Final, Seen, opening}
use Rattle.ppq_table.specs.declared.place.Place.{Place}
use Rattle.ppq_table.specs.declared.place.Place.TheVariants.{Item, Room}
use Rattle.ppq_table.specs.Places.{IsRoom, IsLaid, HasRoom, items_in}
use Rattle.ppq_table.specs.Sums.{all_shares, times, once_below}
use Rattle.ppq_table.proofs.Sums.{at_only, total_alone}
use Rattle.ppq_table.proofs.Numbers.{listed_once}
use Rattle.ppq_table.proofs.Places.{laid_item, laid_last, laid_length, items_in-rest}
use Rattle.ppq_row.specs.declared.hand.Hand.{Hand}
use Rattle.ppq_row.specs.Hands.{first_hand}
use Rattle.ppq_row.specs.Rule.{counter, Fits, RowRule}
use Rattle.ppq_row.proofs.Histories.{shows}

first_word : (ws : List ℕ) (d : ℕ) → get_elem? ws 0 ≡ some d → slice_index ws 0 ≡ d
first_word [] d e = absurd (some-ne-none d (sym e))
first_word (x ∷ ws) d e = some-injective x d e

module _ {T : Type 0} where
  pub starts : (xs : List T) (ps : List (Place T)) → length xs < all_shares → IsLaid xs ps → RowRule xs (opening (0 ∷ []) ps (first_hand xs))
  starts xs ps short laid = let once : (x : ℕ) → 0 + 0 ≡ once_below x (min 0 (length xs)) = λ x. grind arith in subst (λ (l : List (Place T)). RowRule xs (opening (0 ∷ []) l (first_hand xs))) (sym laid.1) (record {
    one_word = refl;
    wide = laid_length xs (Room laid.0);
    short = short;
    rest_home = λ i x le e. laid_item xs (Room laid.0) i x e;
    room_home = (laid.0, laid_last xs (Room laid.0), laid.2);
    shares_add = refl;
    joins_add = refl;
    each_once = once;
    within = omega arith;
    budget = omega arith;
    shown = shows T (length xs) 0 (first_hand xs ∷ []) once;
    each_view = at_only (Fits xs 0) (first_hand xs) (record { same_items = λ _. refl; void_bare = λ z. absurd (omega arith); all_drawn = λ e. absurd (true≢false (sym e)); behind = All-nil (λ p. p < 0) });
  })

  -- what the last seat knows once the row is closed, with the counter at d
  pub record Ended (d : ℕ) (ps : List (Place T)) (v : Hand T) : Type 0 where
    pub room : HasRoom (length v.items) ps
    pub left : items_in (drop d (take (length v.items) ps)) ≡ drop (length v.places) v.items
    pub each_once : (x : ℕ) → times x v.places ≡ once_below x (length v.places)
    pub none_left : v.noted ≡ true → drop (length v.places) v.items ≡ []

  ended : (xs : List T) (id : ℕ) (v : Hand T) (ws : List ℕ) (ps : List (Place T)) (d : ℕ) → v.shares ≡ all_shares → Final (Seen (RowRule xs) id v) ws ps → get_elem? ws 0 ≡ some d → Ended d ps v
  ended xs id v ws ps d all final word = let s = final.0 in let r : RowRule xs s = final.1.0 in let at = final.1.1 in let mine = r.each_view id v at in let c : ℕ = counter s in
      let same : v.items ≡ xs = mine.same_items (omega arith) in let here : c ≡ d = ap (λ (l : List ℕ). slice_index l 0) final.2 ∙ first_word ws d word in
      let alone : (x : ℕ) → times x v.places ≡ once_below x (min c (length xs)) = λ x.
      sym (total_alone (λ u. u.shares) (λ u. times x u.places) s.views id v at (λ j u e z. ap (λ (h : Hand T). times x h.places) ((r.each_view j u e).void_bare z)) (r.shares_add ∙ sym all)) ∙ r.each_once x in
      let long : length v.places ≡ min c (length xs) = listed_once v.places c (min c (length xs)) (omega arith) mine.behind alone in
      let len : length v.items ≡ length xs = ap length same in let wide : length ps ≡ length v.items + 1 = sym final.3 ∙ r.wide ∙ ap (λ (n : ℕ). n + 1) (sym len) in
      let rest : (i : ℕ) (x : T) → d ≤ i → get_elem? v.items i ≡ some x → get_elem? ps i ≡ some (Item x) = λ i x le e.
      final.4 i (Item x) (r.rest_home i x (subst (λ (n : ℕ). n ≤ i) (sym here) le) (ap (λ (l : List T). get_elem? l i) (sym same) ∙ e)) in
      record {
        room = (wide, (r.room_home.0, ap (get_elem? ps) len ∙ final.4 (length xs) (Room r.room_home.0) r.room_home.1, subst (λ (n : ℕ). IsRoom n r.room_home.0) (sym len) r.room_home.2));
        left = items_in-rest v.items ps d (omega arith) rest
            ∙ subst (λ (n : ℕ). drop n v.items ≡ drop (length v.places) v.items) here (dite (dec_le c (length xs)) (λ h. ap (λ (n : ℕ). drop n v.items) (let e : c ≡ length v.places = omega arith in e))
            (λ h. drop_of_length-le v.items {i = c} (omega arith) ∙ sym (drop_of_length-le v.items {i = length v.places} (omega arith))));
        each_once = λ x. alone x ∙ ap (once_below x) (sym long);
        none_left = λ e. let h : length xs ≤ c = mine.all_drawn e in drop_of_length-le v.items {i = length v.places} (omega arith);
      }

  -- the same of a view that a contract names
  pub ends : (xs : List T) (id : ℕ) (v w : Hand T) (ws : List ℕ) (ps : List (Place T)) (d : ℕ) → v ≡ w → w.shares ≡ all_shares → Final (Seen (RowRule xs) id v) ws ps → get_elem? ws 0 ≡ some d → Ended d ps w
  ends xs id v w ws ps d same all final word = subst (Ended d ps) same (ended xs id v ws ps d (ap (λ (h : Hand T). h.shares) same ∙ all) final word)
