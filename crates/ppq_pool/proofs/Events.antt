-- The law of steps: each is one event of the history that words and views show, or none.
use Rattle.std.proofs.Common.{◌≡◌, ℕ, ◌+◌, ◌-◌, ◌<◌, List, ◌∷◌, length, slice_index, set, sym, refl, ap, cond, eq-eqb, subst, ⊎_elim, arith}
use mathlib.Core.Option.{some}
use mathlib.Core.Logic.{dite}
use native.Mathlib.Decide.{ℕ_discrete}
use lib.ListN.{get_elem?}
use Rattle.atomic_table.specs.Table.{State}
use Rattle.ppq_core.specs.declared.event.Event.{Event}
use Rattle.ppq_core.specs.declared.event.Event.TheVariants.{Give}
use Rattle.ppq_table.specs.declared.place.Place.{Place}
use Rattle.ppq_table.specs.Sums.{total, times}
use Rattle.ppq_table.proofs.Sums.{total_zero, one_of_total}
use Rattle.ppq_table.proofs.Numbers.{times-same, times-other}
use Rattle.ppq_pool.specs.declared.hand.Hand.{Hand}
use Rattle.ppq_pool.specs.Hands.{one_if_void, with_claim, with_look, with_place, with_give}
use Rattle.ppq_pool.specs.Histories.{ShowsHistory, events_of}
use Rattle.ppq_pool.specs.Rule.{holders, IsFree, IsHeld, PoolRule}
use Rattle.ppq_pool.specs.Shown.{StepsAreEvents, JoinsAreCounted}
use Rattle.ppq_pool.proofs.Lists.{times-without}
use Rattle.ppq_pool.proofs.Shown.{shown_still, shown_take, shown_give, shown_split, shown_same}
use Rattle.ppq_pool.proofs.Steps.{listed, same_words}

module _ {T : Type 0} (shape_of : T → ℕ) (shape : ℕ) (s : State (Place T) (Hand T)) (r : PoolRule shape_of shape s) where
  nobody : (i : ℕ) → i + 1 < length s.homes → slice_index s.words (i + 1) ≡ 0 → holders i s.views ≡ 0
  nobody i near word = ⊎_elim
      (λ (f : IsFree shape_of shape (slice_index s.words (i + 1)) (holders i s.views) (get_elem? s.homes i)). f.1)
      (λ (k : IsHeld shape_of shape (slice_index s.words (i + 1)) (holders i s.views)). let one = k.0 in absurd (omega arith))
      (r.each_item i near)

  still_held : {R : Type 0} (id i : ℕ) (v w : Hand T) (h : List (Event R)) → get_elem? s.views id ≡ some v → i + 1 < length s.homes → slice_index s.words (i + 1) ≡ 1 → w.numbers ≡ v.numbers → w.moves ≡ v.moves
      → ShowsHistory (length s.homes - 1) s.words s.views h → ShowsHistory (length s.homes - 1) (set s.words (i + 1) 1) (set s.views id w) h
  still_held id i v w h at near word numbers moves old =
      subst (λ (ws : List ℕ). ShowsHistory (length s.homes - 1) ws (set s.views id w) h) (sym (same_words shape_of shape s r i near word)) (shown_still (length s.homes - 1) s.words s.views id v w at numbers moves h old)

  gives : {R : Type 0} (id i : ℕ) (v : Hand T) (moment : ℕ) (x : T) (h : List (Event R)) → get_elem? s.views id ≡ some v → i + 1 < length s.homes → 0 < times i v.numbers
      → ShowsHistory (length s.homes - 1) s.words s.views h → ShowsHistory (length s.homes - 1) (set s.words (i + 1) 0) (set s.views id (with_give moment i x v)) (Give id i ∷ h)
  gives id i v moment x h at near lists old = let one = listed shape_of shape s r id v i at near lists in
      shown_give (length s.homes - 1) s.words s.views id i v (with_give moment i x v) at (omega arith) lists one.0 (omega (arith, times-without i i v.numbers lists, times-same i i refl, one.1))
      (λ k ne. omega (arith, times-without i k v.numbers lists, times-other i k (λ e. ne (sym e)))) refl h old

pub steps_are_events : (T R : Type 0) → StepsAreEvents T R
steps_are_events T R = record {
  shown = λ shape_of shape s r alive. shown_same R (length s.homes - 1) s.words s.views (events_of r.logged.0, r.logged.2 alive);
  claims = λ shape_of shape s id v i moment h st word old. let near = st.2 in
      shown_take (length s.homes - 1) s.words s.views id i v (with_claim moment i v) st.1 (omega arith) (subst (λ (z : ℕ). i + 1 < z) (sym st.0.wide) near) word (nobody shape_of shape s st.0 i near word) refl refl h old;
  looks = λ shape_of shape s id v i moment h st word old. still_held shape_of shape s st.0 id i v (with_look moment i v) h st.1 st.2 word refl refl old;
  settles_and_reaches = λ shape_of shape s id v i place h st lists old. still_held shape_of shape s st.0 id i v (with_place place v) h st.1 st.2 (listed shape_of shape s st.0 id v i st.1 st.2 lists).2 refl refl old;
  clears = λ shape_of shape s id v i moment x h st lists old. gives shape_of shape s st.0 id i v moment x h st.1 st.2 lists old;
  splits = λ s id v h at old. shown_split (length s.homes - 1) s.words s.views id v at h old;
}

pub joins_are_counted : (T : Type 0) → JoinsAreCounted T
joins_are_counted T shape_of shape s r none j v e = dite (ℕ_discrete v.shares 0)
    (λ z. absurd (let one : one_if_void v ≡ 1 = ap (λ b. cond b 1 0) (eq-eqb v.shares 0 z) in omega (arith, one, nobody, r.joins_add, one_of_total one_if_void s.views j v e)))
    (λ ne. omega arith)
  where
    nobody : total (λ (v : Hand T). v.joins) s.views ≡ 0
    nobody = total_zero (λ (v : Hand T). v.joins) s.views (λ j v e. dite (ℕ_discrete v.shares 0) (λ z. ((r.each_view j v e).void_nothing z).2) (λ ne. none j v e (omega arith)))
