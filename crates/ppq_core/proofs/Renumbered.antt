-- A history with other numbers for its passes.
use Rattle.std.proofs.Common.{◌≡◌, ℕ, ◌+◌, ◌<◌, ◌++◌, Bool, true, false, cond, eqb, List, [], ◌∷◌, refl, sym, ap, ◌∙◌, eq-eqb, ne_eqb}
use mathlib.Core.Logic.{dite}
use native.Mathlib.Decide.{ℕ_discrete}
use Rattle.ppq_core.specs.declared.place.Place.{Place}
use Rattle.ppq_core.specs.declared.place.Place.TheVariants.{Free, Held, Stored}
use Rattle.ppq_core.specs.declared.event.Event.{Event}
use Rattle.ppq_core.specs.declared.event.Event.TheVariants.{Take, Give, Draw, Push, Store}
use Rattle.ppq_core.specs.History.{buffer_at, slot_at, draws, pushed_by, IsLegal}
use Rattle.ppq_core.specs.Parts.{place_of_pass, renumbered, PassesRenumber}
use Rattle.ppq_core.proofs.Places.{buffer_by, slot_by}

chosen : (f : ℕ → ℕ) (c : Bool) (x y : Place) → cond c (place_of_pass f x) (place_of_pass f y) ≡ place_of_pass f (cond c x y)
chosen f true x y = refl
chosen f false x y = refl

module _ {R : Type 0} (f : ℕ → ℕ) where
  buffers : (i : ℕ) (h : List (Event R)) → buffer_at i (renumbered f h) ≡ place_of_pass f (buffer_at i h)
  buffers i [] = refl
  buffers i (Take p b ∷ h) = ap (buffer_by {R = R} i (Take (f p) b)) (buffers i h) ∙ chosen f (eqb b i) (Held p) (buffer_at i h)
  buffers i (Give p b ∷ h) = ap (buffer_by {R = R} i (Give (f p) b)) (buffers i h) ∙ chosen f (eqb b i) Free (buffer_at i h)
  buffers i (Draw p s ∷ h) = buffers i h
  buffers i (Push p x ∷ h) = buffers i h
  buffers i (Store p s ∷ h) = buffers i h

  slots : (i : ℕ) (h : List (Event R)) → slot_at i (renumbered f h) ≡ place_of_pass f (slot_at i h)
  slots i [] = refl
  slots i (Take p b ∷ h) = slots i h
  slots i (Give p b ∷ h) = slots i h
  slots i (Draw p s ∷ h) = ap (slot_by {R = R} i (Draw (f p) s)) (slots i h) ∙ chosen f (eqb s i) (Held p) (slot_at i h)
  slots i (Push p x ∷ h) = slots i h
  slots i (Store p s ∷ h) = ap (slot_by {R = R} i (Store (f p) s)) (slots i h) ∙ chosen f (eqb s i) (Stored p) (slot_at i h)

  drawn : (h : List (Event R)) → draws (renumbered f h) ≡ draws h
  drawn [] = refl
  drawn (Take p b ∷ h) = drawn h
  drawn (Give p b ∷ h) = drawn h
  drawn (Draw p s ∷ h) = ap (λ (n : ℕ). n + 1) (drawn h)
  drawn (Push p x ∷ h) = drawn h
  drawn (Store p s ∷ h) = drawn h

  -- a push by q is one of p under the new numbers just where it was before
  one_push : (p q : ℕ) (x : R) (old new : List R) → (f q ≡ f p → q ≡ p) → new ≡ old → cond (eqb (f q) (f p)) (new ++ x ∷ []) new ≡ cond (eqb q p) (old ++ x ∷ []) old
  one_push p q x old new only e = dite (ℕ_discrete q p)
      (λ same. ap (λ c. cond c (new ++ x ∷ []) new) (eq-eqb (f q) (f p) (ap f same)) ∙ ap (λ l. l ++ x ∷ []) e ∙ sym (ap (λ c. cond c (old ++ x ∷ []) old) (eq-eqb q p same)))
      (λ ne. ap (λ c. cond c (new ++ x ∷ []) new) (ne_eqb (f q) (f p) (λ h. ne (only h))) ∙ e ∙ sym (ap (λ c. cond c (old ++ x ∷ []) old) (ne_eqb q p ne)))

  pushed : (n d k p : ℕ) (h : List (Event R)) → IsLegal n d k h → ((q : ℕ) → q < k → f q ≡ f p → q ≡ p) → pushed_by (f p) (renumbered f h) ≡ pushed_by p h
  pushed n d k p [] l only = refl
  pushed n d k p (Take q b ∷ h) l only = pushed n d k p h l.1 only
  pushed n d k p (Give q b ∷ h) l only = pushed n d k p h l.1 only
  pushed n d k p (Draw q s ∷ h) l only = pushed n d k p h l.1 only
  pushed n d k p (Push q x ∷ h) l only = one_push p q x (pushed_by p h) (pushed_by (f p) (renumbered f h)) (only q l.0) (pushed n d k p h l.1 only)
  pushed n d k p (Store q s ∷ h) l only = pushed n d k p h l.1 only

  legal : (n d k m : ℕ) (h : List (Event R)) → ((p : ℕ) → p < k → f p < m) → IsLegal n d k h → IsLegal n d m (renumbered f h)
  legal n d k m [] there l = tt
  legal n d k m (Take p b ∷ h) there l = ((there p l.0.0, l.0.1, buffers b h ∙ ap (place_of_pass f) l.0.2), legal n d k m h there l.1)
  legal n d k m (Give p b ∷ h) there l = ((there p l.0.0, l.0.1, buffers b h ∙ ap (place_of_pass f) l.0.2), legal n d k m h there l.1)
  legal n d k m (Draw p s ∷ h) there l = ((there p l.0.0, l.0.1, l.0.2 ∙ sym (drawn h)), legal n d k m h there l.1)
  legal n d k m (Push p x ∷ h) there l = (there p l.0, legal n d k m h there l.1)
  legal n d k m (Store p s ∷ h) there l = ((there p l.0.0, l.0.1, slots s h ∙ ap (place_of_pass f) l.0.2), legal n d k m h there l.1)

pub passes_renumber : (R : Type 0) → PassesRenumber R
passes_renumber R n d k m f h there l = (
  legal f n d k m h there l,
  record {
    buffers = λ i. buffers f i h;
    slots = λ i. slots f i h;
    pushed = λ p only. pushed f n d k p h l only;
    drawn = drawn f h;
  },
)
