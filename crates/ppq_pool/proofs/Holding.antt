-- What a seat still holds after it took or gave another item, for callers.
use Rattle.std.proofs.Common.{◌≡◌, ◌≢◌, ℕ, zero, suc, ◌+◌, List, All, [], ◌∷◌, ◌++◌, sym, ap, ◌∙◌, subst, refl, arith}
use Rattle.std.proofs.lemmas.List.{append_assoc}
use Rattle.std.proofs.lemmas.List.Elements.{All-append, All-cons, All-nil}
use Rattle.ppq_table.specs.Sums.{times}
use Rattle.ppq_table.proofs.Numbers.{times-append, times-same, times-other}
use Rattle.ppq_pool.specs.declared.hand.Hand.{Hand}
use Rattle.ppq_pool.specs.declared.hand.Move.TheVariants.{Took, Saw}
use Rattle.ppq_pool.specs.Hands.{looks_below, elsewhere, with_look, with_give, last_moment}
use Rattle.ppq_pool.specs.Seats.{Holds, IsLook, Takes, FoundHeld}
use Rattle.ppq_pool.proofs.Lists.{times-without}

looks_below-looks : (n : ℕ) → All IsLook (looks_below n)
looks_below-looks zero = All-nil IsLook
looks_below-looks (suc n) = All-cons IsLook (Saw n) (looks_below n) tt (looks_below-looks n)

module _ {T : Type 0} where
  -- how often an item is listed after a take of i
  pub Takes-times : (v w : Hand T) (i k : ℕ) → Takes v i w → times k w.numbers ≡ times k v.numbers + times k (i ∷ [])
  Takes-times v w i k t = subst (λ (l : List ℕ). times k l ≡ times k v.numbers + times k (i ∷ [])) (sym t.numbers) (times-append k v.numbers (i ∷ []))

  -- a take after looks
  pub Takes-after_looks : (v u w : Hand T) (i : ℕ) (n : ℕ) → u ≡ record v { trail = u.trail; moments = u.moments } → u.trail ≡ looks_below n ++ v.trail → Takes u i w → Takes v i w
  Takes-after_looks v u w i n same looked t = record {
    was_free = ap (λ (h : Hand T). times i h.numbers) (sym same) ∙ t.was_free;
    numbers = t.numbers ∙ ap (λ (h : Hand T). h.numbers ++ i ∷ []) same;
    moves = t.moves ∙ ap (λ (h : Hand T). Took i ∷ h.moves) same;
    put = t.put ∙ ap (λ (h : Hand T). elsewhere i h.put) same;
    shares = t.shares ∙ ap (λ (h : Hand T). h.shares) same;
    shape = t.shape ∙ ap (λ (h : Hand T). h.shape) same;
    joins = t.joins ∙ ap (λ (h : Hand T). h.joins) same;
    trail = (
      t.trail.0 ++ looks_below n,
      All-append IsLook t.trail.0 (looks_below n) t.trail.1 (looks_below-looks n),
      t.trail.2 ∙ ap (λ l. Took i ∷ t.trail.0 ++ l) looked ∙ ap (λ l. Took i ∷ l) (sym (append_assoc t.trail.0 (looks_below n) v.trail)),
    );
  }

  -- one look more
  pub looked-more : (v u w : Hand T) (n : ℕ) → FoundHeld n v u → w ≡ with_look (last_moment w) n u → FoundHeld (n + 1) v w
  looked-more v u w n found one =
      let more : n + 1 ≡ suc n = omega arith in
      let trail : w.trail ≡ Saw n ∷ u.trail = ap (λ (h : Hand T). h.trail) one in
      let moments : w.moments ≡ last_moment w ∷ u.moments = ap (λ (h : Hand T). h.moments) one in
      record {
        same = sames one found.same;
        looked = trail ∙ ap (λ l. Saw n ∷ l) found.looked ∙ ap (λ (k : ℕ). looks_below k ++ v.trail) (sym more);
        moments = (last_moment w ∷ found.moments.0, ap suc found.moments.1 ∙ sym more, moments ∙ ap (λ l. last_moment w ∷ l) found.moments.2);
      }
    where
      sames : w ≡ with_look (last_moment w) n u → u ≡ record v { trail = u.trail; moments = u.moments } → w ≡ record v { trail = w.trail; moments = w.moments }
      sames one same = one
          ∙ ap (λ (h : Hand T). record h { trail = Saw n ∷ u.trail; moments = last_moment w ∷ u.moments }) same
          ∙ (λ k. record v { trail = sym (ap (λ (h : Hand T). h.trail) one) k; moments = sym (ap (λ (h : Hand T). h.moments) one) k })

  -- what was taken is held
  pub Takes-holds : (v w : Hand T) (i : ℕ) → Takes v i w → Holds w i
  Takes-holds v w i t = omega (arith, Takes-times v w i i t, times-same i i refl)

  -- what was held is held after a take
  pub Takes-keeps : (v w : Hand T) (i k : ℕ) → Takes v i w → Holds v k → Holds w k
  Takes-keeps v w i k t h = omega (arith, Takes-times v w i k t, h)

  -- what was held is held after a None
  pub FoundHeld-keeps : (n : ℕ) (v w : Hand T) (k : ℕ) → FoundHeld n v w → Holds v k → Holds w k
  FoundHeld-keeps n v w k f h = subst (λ (z : Hand T). Holds z k) (sym f.same) h

  -- two numbers that were taken one after another differ
  pub Takes-apart : (v w : Hand T) (i k : ℕ) → Takes v i w → Holds v k → k ≢ i
  Takes-apart v w i k t h e = let nobody = t.was_free in omega (arith, nobody, h, ap (λ (z : ℕ). times z v.numbers) e)

  -- what was held is held after another item is given back
  pub with_give-keeps : (v : Hand T) (moment i k : ℕ) (x : T) → Holds v i → k ≢ i → Holds v k → Holds (with_give moment i x v) k
  with_give-keeps v moment i k x held ne h = omega (arith, h, times-without i k v.numbers held, times-other i k (λ e. ne (sym e)))
