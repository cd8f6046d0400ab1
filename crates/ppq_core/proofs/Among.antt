-- Being among the events, by recursion, and std's word for it.
use Rattle.std.proofs.Common.{◌≡◌, ◌⊎◌, ℕ, zero, suc, ◌<◌, List, [], ◌∷◌, ◌++◌, refl, length, slice_index_or, inl, inr, ⊎_elim, arith}
use Rattle.std.specs.List.{Contains}

module _ {X : Type 0} where
  abbrev pub Among : X → List X → Type 0
  Among e [] = ⊥
  Among e (x ∷ h) = (x ≡ e) ⊎ Among e h

  pub among_contains : (e : X) (h : List X) → Among e h → Contains h e
  among_contains e [] a = absurd a
  among_contains e (x ∷ h) a = ⊎_elim
      (λ (q : x ≡ e). let w : Contains (x ∷ h) e = (0, omega arith, q) in w)
      (λ b. let w : Contains h e = among_contains e h b in let below : w.0 < length h = w.1 in (suc w.0, omega arith, w.2)) a

  contains_at : (e : X) (h : List X) (k : ℕ) → k < length h → slice_index_or h k e ≡ e → Among e h
  contains_at e [] k below q = absurd (omega arith)
  contains_at e (x ∷ h) zero below q = inl q
  contains_at e (x ∷ h) (suc k) below q = inr (contains_at e h k (omega arith) q)

  pub contains_among : (e : X) (h : List X) → Contains h e → Among e h
  contains_among e h w = contains_at e h w.0 w.1 w.2

  pub among_later : (e : X) (m h : List X) → Among e (m ++ e ∷ h)
  among_later e [] h = inl refl
  among_later e (x ∷ m) h = inr (among_later e m h)
