-- What each kind of step does to the history that a state shows.
use Rattle.std.proofs.Common.{◌≡◌, ℕ, ◌+◌, ◌<◌, min, List, [], ◌∷◌, ◌++◌, length, set, refl, ap, ◌∙◌, ◌≤◌, cond, eq-eqb, arith, add-one}
use mathlib.Core.Option.{some}
use mathlib.Core.Logic.{dite}
use native.Mathlib.Decide.{ℕ_discrete}
use lib.ListN.{get_elem?}
use Rattle.ppq_table.specs.Sums.{total, times}
use Rattle.ppq_table.proofs.Sums.{total-set, total_zero, one_of_total}
use Rattle.ppq_table.proofs.Numbers.{times-append, times-same, times-other, once-in, once-out}
use Rattle.ppq_core.specs.declared.event.Event.{Event}
use Rattle.ppq_core.specs.declared.event.Event.TheVariants.{Draw}
use Rattle.ppq_row.specs.declared.hand.Hand.{Hand}
use Rattle.ppq_row.specs.Hands.{less_one, newcomer, one_if_void, with_place, with_none}
use Rattle.ppq_row.specs.Histories.{draws_of}
use Rattle.ppq_row.specs.Rule.{counter, NeverWraps}
use Rattle.ppq_row.specs.Shown.{StepsAreEvents, NotesAreTrue, JoinsAreCounted}
use Rattle.ppq_row.proofs.Histories.{listed, holder-set, holder-new, holder-more, draws_of-same, draws_of-count, shows}
use Rattle.ppq_row.proofs.Steps.{word_set}

module _ {T R : Type 0} where
  abbrev told : ℕ → List (Hand T) → List (Event R)
  told m vs = draws_of {R = R} m vs

  -- a seat draws the place c, which none listed
  draw_adds : (c id : ℕ) (vs : List (Hand T)) (v : Hand T) → get_elem? vs id ≡ some v → listed c vs ≡ 0 → told (c + 1) (set vs id (with_place c v)) ≡ Draw id c ∷ told c vs
  draw_adds c id vs v at none = let w : Hand T = with_place c v in ap (λ (k : ℕ). told k (set vs id w)) (add-one c)
      ∙ (λ k. Draw (holder-new c vs id v w at none (omega (arith, times-append c v.places (c ∷ []), times-same c c refl)) k) c
      ∷ draws_of-same R c vs (set vs id w) (λ i h. holder-set i vs id v w at (omega (arith, times-append i v.places (c ∷ []), times-other c i (λ e. omega arith)))) k)

  -- a view changes that lists what it did, and views that list nothing are added
  same_shown : (m id : ℕ) (vs us : List (Hand T)) (v w : Hand T) → get_elem? vs id ≡ some v → w.places ≡ v.places → ((i : ℕ) → i < m → 0 < listed i vs) → told m (set vs id w ++ us) ≡ told m vs
  same_shown m id vs us v w at same all = draws_of-same R m vs (set vs id w ++ us) (λ i h. let e : times i w.places ≡ times i v.places = ap (times i) same in
      holder-more i (set vs id w) us (omega (arith, total-set (λ (u : Hand T). times i u.places) vs id v w at, all i h)) ∙ holder-set i vs id v w at e)

  pub steps_are_events : StepsAreEvents T R
  steps_are_events = record {
    legal = λ items s r. shows R (length items) (counter s) s.views r.each_once;
    draws = λ items s id me act r at lt. let c : ℕ = counter s in let vs : List (Hand T) = set s.views id (with_place c me.0) in
        ap (λ (k : ℕ). told (min k (length items)) vs) (word_set s.words (c + 1) r.one_word)
        ∙ ap (λ (k : ℕ). told k vs) (let e : min (c + 1) (length items) ≡ c + 1 = omega arith in e)
        ∙ draw_adds c id s.views me.0 at (r.each_once c ∙ once-out c (min c (length items)) (omega arith))
        ∙ ap (λ (k : ℕ). Draw id c ∷ told k s.views) (let e : c ≡ min c (length items) = omega arith in e);
    ends = λ items s id me act r at le. let c : ℕ = counter s in let vs : List (Hand T) = set s.views id (with_none me.0) in
        ap (λ (k : ℕ). told (min k (length items)) vs) (word_set s.words (c + 1) r.one_word)
        ∙ ap (λ (k : ℕ). told k vs) (let e : min (c + 1) (length items) ≡ min c (length items) = omega arith in e)
        ∙ draws_of-same R (min c (length items)) s.views vs (λ i h. holder-set i s.views id me.0 (with_none me.0) at refl);
    splits = λ items s id v r at. same_shown (min (counter s) (length items)) id s.views (newcomer v ∷ []) v (less_one v) at refl
        (λ i h. omega (arith, r.each_once i, once-in i (min (counter s) (length items)) h));
  }

pub notes_are_true : (T R : Type 0) → NotesAreTrue T R
notes_are_true T R items s j v r at noted = let end : length items ≤ counter s = (r.each_view j v at).all_drawn noted in
    (end, draws_of-count R (min (counter s) (length items)) s.views ∙ (let e : min (counter s) (length items) ≡ length items = omega arith in e))

pub joins_are_counted : (T : Type 0) → JoinsAreCounted T
joins_are_counted T items s r none j v e = dite (ℕ_discrete v.shares 0)
    (λ z. absurd (let one : one_if_void v ≡ 1 = ap (λ b. cond b 1 0) (eq-eqb v.shares 0 z) in omega (arith, one, nobody, r.joins_add, one_of_total one_if_void s.views j v e)))
    (λ ne. omega arith)
  where
    nobody : total (λ (v : Hand T). v.joins) s.views ≡ 0
    nobody = total_zero (λ (v : Hand T). v.joins) s.views (λ j v e. dite (ℕ_discrete v.shares 0) (λ z. ap (λ (h : Hand T). h.joins) ((r.each_view j v e).void_bare z)) (λ ne. none j v e (omega arith)))

-- each share counts one None at most
pub never_wraps : (T : Type 0) → NeverWraps T
never_wraps T items s r = let a = r.within in let b = r.budget in let d = r.short in omega arith
