-- Between two Takes of a buffer it is given back.
use Rattle.std.proofs.Common.{◌≡◌, ◌⊎◌, ℕ, List, [], ◌∷◌, ◌++◌, refl, sym, ap, ap₂, ◌∙◌, inl, inr, ⊎_elim}
use mathlib.Core.Logic.{dite}
use native.Mathlib.Decide.{ℕ_discrete}
use Rattle.ppq_core.specs.declared.place.Place.TheVariants.{Held}
use Rattle.ppq_core.specs.declared.event.Event.{Event}
use Rattle.ppq_core.specs.declared.event.Event.TheVariants.{Take, Give, Draw, Push, Store}
use Rattle.ppq_core.specs.History.{buffer_at, IsLegal}
use Rattle.ppq_core.specs.Laws.{HasGiveBetween}
use Rattle.ppq_core.proofs.Among.{Among, among_contains}
use Rattle.ppq_core.proofs.Places.{free_not_held, held_same, hit, miss, legal_middle}

module _ {R : Type 0} where
  -- since a Take of buffer b by p, either p gave it back or p holds it still
  since : (n d k b p : ℕ) (m h : List (Event R)) → IsLegal n d k (m ++ Take p b ∷ h) → Among (Give p b) m ⊎ (buffer_at b (m ++ Take p b ∷ h) ≡ Held p)
  since n d k b p [] h l = inr (hit b b (Held p) (buffer_at b h) refl)
  since n d k b p (Take q c ∷ m) h l =
      let rest = m ++ Take p b ∷ h in
      ⊎_elim (λ a. inl (inr a)) (λ (held : buffer_at b rest ≡ Held p). dite (ℕ_discrete c b)
      (λ e. absurd (free_not_held p (sym l.0.2 ∙ ap (λ (i : ℕ). buffer_at i rest) e ∙ held)))
      (λ ne. inr (miss c b (Held q) (buffer_at b rest) ne ∙ held))) (since n d k b p m h l.1)
  since n d k b p (Give q c ∷ m) h l =
      let rest = m ++ Take p b ∷ h in
      ⊎_elim (λ a. inl (inr a)) (λ (held : buffer_at b rest ≡ Held p). dite (ℕ_discrete c b)
      (λ e. inl (inl (let same : q ≡ p = held_same q p (sym l.0.2 ∙ ap (λ (i : ℕ). buffer_at i rest) e ∙ held) in ap₂ (λ (x y : ℕ). let v : Event R = Give x y in v) same e)))
      (λ ne. inr (miss c b _ (buffer_at b rest) ne ∙ held))) (since n d k b p m h l.1)
  since n d k b p (Draw q s ∷ m) h l = ⊎_elim (λ a. inl (inr a)) (λ (held : buffer_at b (m ++ Take p b ∷ h) ≡ Held p). inr held) (since n d k b p m h l.1)
  since n d k b p (Push q x ∷ m) h l = ⊎_elim (λ a. inl (inr a)) (λ (held : buffer_at b (m ++ Take p b ∷ h) ≡ Held p). inr held) (since n d k b p m h l.1)
  since n d k b p (Store q s ∷ m) h l = ⊎_elim (λ a. inl (inr a)) (λ (held : buffer_at b (m ++ Take p b ∷ h) ≡ Held p). inr held) (since n d k b p m h l.1)

pub has_give_between : (R : Type 0) → HasGiveBetween R
has_give_between R n d k b p q later between before legal =
    let l = legal_middle n d k later (Take q b ∷ between) (Take p b ∷ before) legal in
    ⊎_elim (among_contains (Give p b) between) (λ (held : buffer_at b (between ++ Take p b ∷ before) ≡ Held p). absurd (free_not_held p (sym l.0.2 ∙ held))) (since n d k b p between before l.1)
