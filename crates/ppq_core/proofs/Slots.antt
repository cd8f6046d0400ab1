-- Slots are drawn in order, each once, and stored once by who drew them.
use Rattle.std.proofs.Common.{◌≡◌, ℕ, ◌<◌, ◌≤◌, List, [], ◌∷◌, ◌++◌, refl, sym, ap, ap₂, ◌∙◌, inl, inr, ⊎_elim, arith}
use mathlib.Core.Logic.{dite}
use native.Mathlib.Decide.{ℕ_discrete}
use Rattle.ppq_core.specs.declared.place.Place.{Place}
use Rattle.ppq_core.specs.declared.place.Place.TheVariants.{Free, Held, Stored}
use Rattle.ppq_core.specs.declared.event.Event.{Event}
use Rattle.ppq_core.specs.declared.event.Event.TheVariants.{Take, Give, Draw, Push, Store}
use Rattle.ppq_core.specs.History.{slot_at, draws, IsLegal}
use Rattle.ppq_core.specs.Laws.{DrawsInOrder, DrawsOnce, StoresOnce, StoresItsDraw, TellsSlots}
use Rattle.ppq_core.proofs.Among.{Among, among_contains, contains_among, among_later}
use Rattle.ppq_core.proofs.Places.{free_not_held, free_not_stored, stored_not_held, held_same, hit, miss, legal_older, legal_middle}

module _ {R : Type 0} where
  -- a slot that is not drawn is free
  pub undrawn : (n d k : ℕ) (h : List (Event R)) (i : ℕ) → IsLegal n d k h → draws h ≤ i → slot_at i h ≡ Free
  undrawn n d k [] i l le = refl
  undrawn n d k (Take p b ∷ h) i l le = undrawn n d k h i l.1 le
  undrawn n d k (Give p b ∷ h) i l le = undrawn n d k h i l.1 le
  undrawn n d k (Push p x ∷ h) i l le = undrawn n d k h i l.1 le
  undrawn n d k (Draw p s ∷ h) i l le = let at = l.0.2 in miss s i (Held p) (slot_at i h) (λ e. omega arith) ∙ undrawn n d k h i l.1 (omega arith)
  undrawn n d k (Store p s ∷ h) i l le = let was = undrawn n d k h i l.1 le in miss s i (Stored p) (slot_at i h) (λ e. free_not_held p (sym was ∙ ap (λ (j : ℕ). slot_at j h) (sym e) ∙ l.0.2)) ∙ was

  -- more events have no fewer draws
  draws_more : (m h : List (Event R)) → draws h ≤ draws (m ++ h)
  draws_more [] h = omega arith
  draws_more (Take p b ∷ m) h = draws_more m h
  draws_more (Give p b ∷ m) h = draws_more m h
  draws_more (Draw p s ∷ m) h = omega (arith, draws_more m h)
  draws_more (Push p x ∷ m) h = draws_more m h
  draws_more (Store p s ∷ m) h = draws_more m h

  -- a held slot was drawn by who holds it
  held_drawn : (p s : ℕ) (h : List (Event R)) → slot_at s h ≡ Held p → Among (Draw p s) h
  held_drawn p s [] e = absurd (free_not_held p e)
  held_drawn p s (Take q b ∷ h) e = inr (held_drawn p s h e)
  held_drawn p s (Give q b ∷ h) e = inr (held_drawn p s h e)
  held_drawn p s (Push q x ∷ h) e = inr (held_drawn p s h e)
  held_drawn p s (Draw q t ∷ h) e = dite (ℕ_discrete t s)
      (λ a. inl (let same : q ≡ p = held_same q p (sym (hit t s (Held q) (slot_at s h) a) ∙ e) in ap₂ (λ (x y : ℕ). let v : Event R = Draw x y in v) same a))
      (λ a. inr (held_drawn p s h (sym (miss t s (Held q) (slot_at s h) a) ∙ e)))
  held_drawn p s (Store q t ∷ h) e = dite (ℕ_discrete t s)
      (λ a. absurd (stored_not_held q p (sym (hit t s (Stored q) (slot_at s h) a) ∙ e)))
      (λ a. inr (held_drawn p s h (sym (miss t s (Stored q) (slot_at s h) a) ∙ e)))

  -- a slot that was stored stays stored
  stored_at : (n d k p s : ℕ) (h : List (Event R)) → IsLegal n d k h → Among (Store p s) h → slot_at s h ≡ Stored p
  stored_at n d k p s [] l a = absurd a
  stored_at n d k p s (Take q b ∷ h) l a = ⊎_elim (λ (e : Take q b ≡ Store p s). cc) (λ a. stored_at n d k p s h l.1 a) a
  stored_at n d k p s (Give q b ∷ h) l a = ⊎_elim (λ (e : Give q b ≡ Store p s). cc) (λ a. stored_at n d k p s h l.1 a) a
  stored_at n d k p s (Push q x ∷ h) l a = ⊎_elim (λ (e : Push q x ≡ Store p s). cc) (λ a. stored_at n d k p s h l.1 a) a
  stored_at n d k p s (Draw q t ∷ h) l a =
      let at = l.0.2 in
      ⊎_elim (λ (e : Draw q t ≡ Store p s). cc) (λ a. let was = stored_at n d k p s h l.1 a in
      miss t s (Held q) (slot_at s h) (λ e. free_not_stored p (sym (undrawn n d k h s l.1 (omega arith)) ∙ was)) ∙ was) a
  stored_at n d k p s (Store q t ∷ h) l a = ⊎_elim
      (λ (e : Store q t ≡ Store p s). let same : q ≡ p = cc in hit t s (Stored q) (slot_at s h) (cc) ∙ ap (λ (r : ℕ). let v : Place = Stored r in v) same)
      (λ a. let was = stored_at n d k p s h l.1 a in
      miss t s (Stored q) (slot_at s h) (λ e. stored_not_held p q (sym was ∙ ap (λ (j : ℕ). slot_at j h) (sym e) ∙ l.0.2)) ∙ was) a

  -- a slot that was drawn and not stored is held
  held_at : (n d k s : ℕ) (h : List (Event R)) → IsLegal n d k h → s < draws h → ((p : ℕ) → ¬ (Among (Store p s) h)) → (p : ℕ) × (slot_at s h ≡ Held p)
  held_at n d k s [] l lt not = absurd (omega arith)
  held_at n d k s (Take q b ∷ h) l lt not = held_at n d k s h l.1 lt (λ p a. not p (inr a))
  held_at n d k s (Give q b ∷ h) l lt not = held_at n d k s h l.1 lt (λ p a. not p (inr a))
  held_at n d k s (Push q x ∷ h) l lt not = held_at n d k s h l.1 lt (λ p a. not p (inr a))
  held_at n d k s (Draw q t ∷ h) l lt not = dite (ℕ_discrete t s)
      (λ e. (q, hit t s (Held q) (slot_at s h) e))
      (λ ne. let at = l.0.2 in let w = held_at n d k s h l.1 (omega arith) (λ p a. not p (inr a)) in (w.0, miss t s (Held q) (slot_at s h) ne ∙ w.1))
  held_at n d k s (Store q t ∷ h) l lt not = dite (ℕ_discrete t s)
      (λ e. absurd (not q (inl (ap (λ (y : ℕ). let v : Event R = Store q y in v) e))))
      (λ ne. let w = held_at n d k s h l.1 lt (λ p a. not p (inr a)) in (w.0, miss t s (Stored q) (slot_at s h) ne ∙ w.1))

  drawn_below : (n d k s p : ℕ) (h : List (Event R)) → IsLegal n d k h → Among (Draw p s) h → s < draws h
  drawn_below n d k s p [] l a = absurd a
  drawn_below n d k s p (Take q b ∷ h) l a = ⊎_elim (λ (e : Take q b ≡ Draw p s). cc) (λ b. drawn_below n d k s p h l.1 b) a
  drawn_below n d k s p (Give q b ∷ h) l a = ⊎_elim (λ (e : Give q b ≡ Draw p s). cc) (λ b. drawn_below n d k s p h l.1 b) a
  drawn_below n d k s p (Push q x ∷ h) l a = ⊎_elim (λ (e : Push q x ≡ Draw p s). cc) (λ b. drawn_below n d k s p h l.1 b) a
  drawn_below n d k s p (Store q t ∷ h) l a = ⊎_elim (λ (e : Store q t ≡ Draw p s). cc) (λ b. drawn_below n d k s p h l.1 b) a
  drawn_below n d k s p (Draw q t ∷ h) l a = ⊎_elim
      (λ (e : Draw q t ≡ Draw p s). let same : t ≡ s = cc in let at = l.0.2 in omega arith)
      (λ b. omega (arith, drawn_below n d k s p h l.1 b)) a

  below_drawn : (n d k s : ℕ) (h : List (Event R)) → IsLegal n d k h → s < draws h → (p : ℕ) × Among (Draw p s) h
  below_drawn n d k s [] l lt = absurd (omega arith)
  below_drawn n d k s (Take q b ∷ h) l lt = let w = below_drawn n d k s h l.1 lt in (w.0, inr w.1)
  below_drawn n d k s (Give q b ∷ h) l lt = let w = below_drawn n d k s h l.1 lt in (w.0, inr w.1)
  below_drawn n d k s (Push q x ∷ h) l lt = let w = below_drawn n d k s h l.1 lt in (w.0, inr w.1)
  below_drawn n d k s (Store q t ∷ h) l lt = let w = below_drawn n d k s h l.1 lt in (w.0, inr w.1)
  below_drawn n d k s (Draw q t ∷ h) l lt = dite (ℕ_discrete t s)
      (λ e. (q, inl (ap (λ (y : ℕ). let v : Event R = Draw q y in v) e)))
      (λ ne. let at = l.0.2 in let w = below_drawn n d k s h l.1 (omega arith) in (w.0, inr w.1))

pub draws_in_order : (R : Type 0) → DrawsInOrder R
draws_in_order R n d k s h l = (
  (λ w. drawn_below n d k s w.0 h l (contains_among (Draw w.0 s) h w.1)),
  (λ lt. let w = below_drawn n d k s h l lt in (w.0, among_contains (Draw w.0 s) h w.1)),
)

pub draws_once : (R : Type 0) → DrawsOnce R
draws_once R n d k s p q later between before legal =
    let l = legal_middle n d k later (Draw q s ∷ between) (Draw p s ∷ before) legal in
    let second = l.0.2 in
    let first = (legal_older n d k between (Draw p s ∷ before) l.1).0.2 in
    omega (arith, draws_more between (Draw p s ∷ before))

pub stores_once : (R : Type 0) → StoresOnce R
stores_once R n d k s p q later between before legal =
    let l = legal_middle n d k later (Store q s ∷ between) (Store p s ∷ before) legal in
    stored_not_held p q (sym (stored_at n d k p s (between ++ Store p s ∷ before) l.1 (among_later (Store p s) between before)) ∙ l.0.2)

pub stores_its_draw : (R : Type 0) → StoresItsDraw R
stores_its_draw R n d k s p later before legal =
    let l = legal_older n d k later (Store p s ∷ before) legal in
    among_contains (Draw p s) before (held_drawn p s before l.0.2)

pub tells_slots : (R : Type 0) → TellsSlots R
tells_slots R n d k s h l = record {
  free = λ le. undrawn n d k h s l le;
  stored = λ p a. stored_at n d k p s h l (contains_among (Store p s) h a);
  held = λ lt not. let w = held_at n d k s h l lt (λ p a. not p (among_contains (Store p s) h a)) in (w.0, among_contains (Draw w.0 s) h (held_drawn w.0 s h w.1), w.1);
}
