-- Stores in a history of pool and row: they may stand anywhere behind their draws, so a pass may store any slots that it drew.
use Rattle.std.proofs.Common.{◌≡◌, ◌≢◌, ◌⊎◌, ℕ, ◌<◌, ◌≤◌, Bool, true, false, cond, eqb, List, [], ◌∷◌, ◌++◌, length, refl, sym, ap, ◌∙◌, subst, inl, inr, ⊎_elim, arith, eq-eqb, ne_eqb}
use mathlib.Core.Logic.{dite}
use native.Mathlib.Decide.{ℕ_discrete}
use Rattle.ppq_pass.specs.ppq_core.declared.event.Event.{Event}
use Rattle.ppq_pass.specs.ppq_core.declared.event.Event.TheVariants.{Take, Give, Draw, Push, Store}
use Rattle.ppq_pass.specs.ppq_core.declared.place.Place.{Place}
use Rattle.ppq_pass.specs.ppq_core.declared.place.Place.TheVariants.{Free, Held, Stored}
use Rattle.ppq_pass.specs.ppq_core.History.{buffer_at, slot_at, pushed_by, IsLegal}
use Rattle.ppq_pass.specs.ppq_core.Parts.{buffer_part}
use Rattle.ppq_pass.specs.ppq_table.Sums.{times}
use Rattle.ppq_pass.proofs.ppq_table.Numbers.{times-cons, times-same}
use Rattle.ppq_session.specs.OneHistory.{IsWith, buffers_of, draw_part}
use Rattle.ppq_session.specs.Stored.{is_no_store, without_stores, AreStoresOf, stored_by, StoresStandAnywhere}
use Rattle.ppq_session.proofs.Without.{Keeps, filter-within, buffers-without, draws-without, buffer_part-without, draw_part-without}

free_not_held : (p : ℕ) → Free ≡ Held p → ⊥
free_not_held p e = cc

free_not_stored : (p : ℕ) → Free ≡ Stored p → ⊥
free_not_stored p e = cc

stored_not_held : (q p : ℕ) → Stored q ≡ Held p → ⊥
stored_not_held q p e = cc

held_same : (p q : ℕ) → Held p ≡ Held q → p ≡ q
held_same p q e = cc

stored_same : (p q : ℕ) → Stored p ≡ Stored q → p ≡ q
stored_same p q e = cc

miss : (b i : ℕ) (x y : Place) → b ≢ i → cond (eqb b i) x y ≡ y
miss b i x y n = ap (λ c. cond c x y) (ne_eqb b i n)

hit : (b i : ℕ) (x y : Place) → b ≡ i → cond (eqb b i) x y ≡ x
hit b i x y e = ap (λ c. cond c x y) (eq-eqb b i e)

-- a slot is free with stores and without, or it is with a pass, which holds it without
abbrev pub Beside : Place → Place → Type 0
Beside a b = ((a ≡ Free) × (b ≡ Free)) ⊎ ((p : ℕ) × IsWith p a × (b ≡ Held p))

drawn-beside : (p : ℕ) (c : Bool) (a b : Place) → Beside a b → Beside (cond c (Held p) a) (cond c (Held p) b)
drawn-beside p true a b r = inr (p, inl refl, refl)
drawn-beside p false a b r = r

module _ {R : Type 0} where
  -- takes, gives and draws are no stores
  keeps : (e : Event R) → Keeps is_no_store e
  keeps (Take p b) = record { at_buffer = λ _. refl; draw = λ _. refl }
  keeps (Give p b) = record { at_buffer = λ _. refl; draw = λ _. refl }
  keeps (Draw p s) = record { at_buffer = λ _. refl; draw = λ _. refl }
  keeps (Push p r) = record { at_buffer = λ _. refl; draw = λ _. refl }
  keeps (Store p s) = record { at_buffer = λ is. is; draw = λ is. is }

  -- a legal history is legal without its stores
  legal-without : (n d m : ℕ) (h : List (Event R)) → IsLegal n d m h → IsLegal n d m (without_stores h)
  legal-without n d m [] l = tt
  legal-without n d m (Take p b ∷ h) l = ((l.0.0, l.0.1, sym (buffers-without keeps b h) ∙ l.0.2), legal-without n d m h l.1)
  legal-without n d m (Give p b ∷ h) l = ((l.0.0, l.0.1, sym (buffers-without keeps b h) ∙ l.0.2), legal-without n d m h l.1)
  legal-without n d m (Draw p s ∷ h) l = ((l.0.0, l.0.1, l.0.2 ∙ draws-without keeps h), legal-without n d m h l.1)
  legal-without n d m (Push p r ∷ h) l = (l.0, legal-without n d m h l.1)
  legal-without n d m (Store p s ∷ h) l = legal-without n d m h l.1

  -- and with stores of slots that its passes hold, wherever they stand
  legal-with : (n d m : ℕ) (h : List (Event R)) → AreStoresOf d m h → IsLegal n d m (without_stores h) → IsLegal n d m h
  legal-with n d m [] of l = tt
  legal-with n d m (Take p b ∷ h) of l = ((l.0.0, l.0.1, buffers-without keeps b h ∙ l.0.2), legal-with n d m h of l.1)
  legal-with n d m (Give p b ∷ h) of l = ((l.0.0, l.0.1, buffers-without keeps b h ∙ l.0.2), legal-with n d m h of l.1)
  legal-with n d m (Draw p s ∷ h) of l = ((l.0.0, l.0.1, l.0.2 ∙ sym (draws-without keeps h)), legal-with n d m h of l.1)
  legal-with n d m (Push p r ∷ h) of l = (l.0, legal-with n d m h of l.1)
  legal-with n d m (Store p s ∷ h) of l = (of.0, legal-with n d m h of.1 l)

  -- what a slot is without stores
  pub beside : (n d m i : ℕ) (h : List (Event R)) → IsLegal n d m h → Beside (slot_at i h) (slot_at i (without_stores h))
  beside n d m i [] l = inl (refl, refl)
  beside n d m i (Take p b ∷ h) l = beside n d m i h l.1
  beside n d m i (Give p b ∷ h) l = beside n d m i h l.1
  beside n d m i (Draw p s ∷ h) l = drawn-beside p (eqb s i) (slot_at i h) (slot_at i (without_stores h)) (beside n d m i h l.1)
  beside n d m i (Push p r ∷ h) l = beside n d m i h l.1
  beside n d m i (Store p s ∷ h) l = dite (ℕ_discrete s i)
      (λ e. let held : slot_at i h ≡ Held p = ap (λ (j : ℕ). slot_at j h) (sym e) ∙ l.0.2 in
      ⊎_elim (λ free. absurd (free_not_held p (sym free.0 ∙ held)))
      (λ w. ⊎_elim (λ was. inr (p, inr (hit s i (Stored p) (slot_at i h) e), w.2 ∙ sym was ∙ held)) (λ was. absurd (stored_not_held w.0 p (sym was ∙ held))) w.1)
      (beside n d m i h l.1))
      (λ ne. subst (λ a. Beside a (slot_at i (without_stores h))) (sym (miss s i (Stored p) (slot_at i h) ne)) (beside n d m i h l.1))

  -- a history without stores has none
  pub without-twice : (h : List (Event R)) → without_stores (without_stores h) ≡ without_stores h
  without-twice h = filter-within is_no_store is_no_store h (λ e is. is)

  pub stores-without : (d m : ℕ) (h : List (Event R)) → AreStoresOf d m (without_stores h)
  stores-without d m [] = tt
  stores-without d m (Take p b ∷ h) = stores-without d m h
  stores-without d m (Give p b ∷ h) = stores-without d m h
  stores-without d m (Draw p s ∷ h) = stores-without d m h
  stores-without d m (Push p r ∷ h) = stores-without d m h
  stores-without d m (Store p s ∷ h) = stores-without d m h

  pub stored_by-without : (q : ℕ) (h : List (Event R)) → stored_by q (without_stores h) ≡ []
  stored_by-without q [] = refl
  stored_by-without q (Take p b ∷ h) = stored_by-without q h
  stored_by-without q (Give p b ∷ h) = stored_by-without q h
  stored_by-without q (Draw p s ∷ h) = stored_by-without q h
  stored_by-without q (Push p r ∷ h) = stored_by-without q h
  stored_by-without q (Store p s ∷ h) = stored_by-without q h

  -- and the passes have pushed what they pushed
  pub pushed_by-without : (q : ℕ) (h : List (Event R)) → pushed_by q h ≡ pushed_by q (without_stores h)
  pushed_by-without q [] = refl
  pushed_by-without q (Take p b ∷ h) = pushed_by-without q h
  pushed_by-without q (Give p b ∷ h) = pushed_by-without q h
  pushed_by-without q (Draw p s ∷ h) = pushed_by-without q h
  pushed_by-without q (Push p r ∷ h) = ap (λ l. cond (eqb p q) (l ++ r ∷ []) l) (pushed_by-without q h)
  pushed_by-without q (Store p s ∷ h) = pushed_by-without q h

  -- one pass stores the slots at these places
  pub with_stores : ℕ → List ℕ → List (Event R) → List (Event R)
  with_stores p [] h = h
  with_stores p (c ∷ cs) h = Store p c ∷ with_stores p cs h

  pub without-with : (p : ℕ) (cs : List ℕ) (h : List (Event R)) → without_stores (with_stores p cs h) ≡ without_stores h
  unfolding with_stores
  without-with p [] h = refl
  without-with p (c ∷ cs) h = without-with p cs h

  pub stored_by-own : (p : ℕ) (cs : List ℕ) (h : List (Event R)) → stored_by p (with_stores p cs h) ≡ cs ++ stored_by p h
  unfolding with_stores
  stored_by-own p [] h = refl
  stored_by-own p (c ∷ cs) h = ap (λ b. cond b (c ∷ stored_by p (with_stores p cs h)) (stored_by p (with_stores p cs h))) (eq-eqb p p refl) ∙ ap (λ l. c ∷ l) (stored_by-own p cs h)

  pub stored_by-other : (p q : ℕ) (cs : List ℕ) (h : List (Event R)) → p ≢ q → stored_by q (with_stores p cs h) ≡ stored_by q h
  unfolding with_stores
  stored_by-other p q [] h ne = refl
  stored_by-other p q (c ∷ cs) h ne = ap (λ b. cond b (c ∷ stored_by q (with_stores p cs h)) (stored_by q (with_stores p cs h))) (ne_eqb p q ne) ∙ stored_by-other p q cs h ne

  -- other slots are where they were
  pub slot-past : (i p : ℕ) (cs : List ℕ) (h : List (Event R)) → times i cs ≡ 0 → slot_at i (with_stores p cs h) ≡ slot_at i h
  unfolding with_stores
  slot-past i p [] h none = refl
  slot-past i p (c ∷ cs) h none = miss c i (Stored p) (slot_at i (with_stores p cs h)) (λ e. omega (arith, none, times-cons i c cs, times-same c i e)) ∙ slot-past i p cs h (omega (arith, none, times-cons i c cs))

  pub stores-with : (d m p : ℕ) (cs : List ℕ) (h : List (Event R)) → p < m → ((i : ℕ) → times i cs ≤ 1) → ((i : ℕ) → 0 < times i cs → (i < d) × (slot_at i h ≡ Held p)) → AreStoresOf d m h → AreStoresOf d m (with_stores p cs h)
  unfolding with_stores
  stores-with d m p [] h below once holds of = of
  stores-with d m p (c ∷ cs) h below once holds of =
      let here = holds c (omega (arith, times-cons c c cs, times-same c c refl)) in
      let past : times c cs ≡ 0 = omega (arith, once c, times-cons c c cs, times-same c c refl) in
      ((below, here.0, slot-past c p cs h past ∙ here.1), stores-with d m p cs h below (λ i. omega (arith, once i, times-cons i c cs)) (λ i lt. holds i (omega (arith, lt, times-cons i c cs))) of)

pub with_held : (p : ℕ) (a b : Place) → Beside a b → IsWith p a → b ≡ Held p
with_held p a b r is = ⊎_elim
    (λ free. ⊎_elim (λ held. absurd (free_not_held p (sym free.0 ∙ held))) (λ stored. absurd (free_not_stored p (sym free.0 ∙ stored))) is)
    (λ w. w.2 ∙ ⊎_elim
    (λ held. ⊎_elim (λ was. sym held ∙ was) (λ was. absurd (stored_not_held p w.0 (sym was ∙ held))) is)
    (λ stored. ⊎_elim (λ was. absurd (stored_not_held w.0 p (sym stored ∙ was))) (λ was. ap Held (stored_same w.0 p (sym stored ∙ was))) is)
    w.1)
    r

held_with : (p : ℕ) (a b : Place) → Beside a b → b ≡ Held p → IsWith p a
held_with p a b r is = ⊎_elim (λ free. absurd (free_not_held p (sym free.1 ∙ is))) (λ w. subst (λ q. IsWith q a) (held_same w.0 p (sym w.2 ∙ is)) w.1) r

free_free : (a b : Place) → Beside a b → a ≡ Free → b ≡ Free
free_free a b r is = ⊎_elim (λ free. free.1) (λ w. ⊎_elim (λ held. absurd (free_not_held w.0 (sym is ∙ held))) (λ stored. absurd (free_not_stored w.0 (sym is ∙ stored))) w.1) r

free_back : (a b : Place) → Beside a b → b ≡ Free → a ≡ Free
free_back a b r is = ⊎_elim (λ free. free.0) (λ w. absurd (free_not_held w.0 (sym is ∙ w.2))) r

pub stores_anywhere : {B S R : Type 0} → StoresStandAnywhere B S R
stores_anywhere {B} {S} {R} x s h k o same of = record {
  legal = legal;
  of_pool = (o.of_pool.0, o.of_pool.1, buffer_part-without keeps k ∙ ap buffer_part same ∙ sym (buffer_part-without keeps h) ∙ o.of_pool.2);
  of_row = draw_part-without keeps k ∙ ap draw_part same ∙ sym (draw_part-without keeps h) ∙ o.of_row;
  free_buffer = λ i lt word. at_buffer i ∙ o.free_buffer i lt word;
  held_buffer = λ i j v at lists. at_buffer i ∙ o.held_buffer i j v at lists;
  free_slot = λ i le. free_back (slot_at i k) (slot_at i (without_stores k)) (beside n d m i k legal) (at_slot i ∙ free_free (slot_at i h) (slot_at i (without_stores h)) (beside n d m i h o.legal) (o.free_slot i le));
  drawn_slot = λ i lt small. let f = o.drawn_slot i lt small in
      (f.0, f.1, f.2, f.3, held_with (x.row_pass f.0) (slot_at i k) (slot_at i (without_stores k)) (beside n d m i k legal) (at_slot i ∙ with_held (x.row_pass f.0) (slot_at i h) (slot_at i (without_stores h)) (beside n d m i h o.legal) f.4));
}
  where
    n : ℕ
    n = buffers_of s.pool

    d : ℕ
    d = length x.slots

    m : ℕ
    m = x.passes

    legal : IsLegal n d m k
    legal = legal-with n d m k of (subst (IsLegal n d m) (sym same) (legal-without n d m h o.legal))

    at_buffer : (i : ℕ) → buffer_at i k ≡ buffer_at i h
    at_buffer i = buffers-without keeps i k ∙ ap (buffer_at i) same ∙ sym (buffers-without keeps i h)

    at_slot : (i : ℕ) → slot_at i (without_stores k) ≡ slot_at i (without_stores h)
    at_slot i = ap (slot_at i) same
