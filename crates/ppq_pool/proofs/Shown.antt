-- How the history that a pool shows goes on with each step: a Take, a Give, or no event.
use Rattle.std.proofs.Common.{◌≡◌, ◌≢◌, ℕ, ◌+◌, ◌<◌, ◌≤◌, ◌==◌, if◌then◌else◌, cond, List, [], ◌∷◌, ◌++◌, length, slice_index, set, sym, refl, ap, ◌∙◌, subst, ⊎_elim, arith, eq-eqb, ne_eqb, length-set, length-append, get_or-set_other, get_or-set_same}
use mathlib.Core.Option.{some, some-injective}
use mathlib.Core.Logic.{dite}
use native.Mathlib.Decide.{ℕ_discrete}
use lib.ListN.{get_elem?}
use Rattle.atomic_table.proofs.Lists.{at_set, at_longer, set_here, set_else}
use Rattle.ppq_core.specs.declared.event.Event.{Event}
use Rattle.ppq_core.specs.declared.event.Event.TheVariants.{Take, Give, Draw, Push, Store}
use Rattle.ppq_core.specs.declared.place.Place.TheVariants.{Free, Held}
use Rattle.ppq_core.specs.History.{buffer_at, IsLegal}
use Rattle.ppq_table.specs.Sums.{times}
use Rattle.ppq_table.proofs.Sums.{within_at, one_of_total, two_of_total}
use Rattle.ppq_table.proofs.Numbers.{times-append, times-other}
use Rattle.ppq_pool.specs.declared.hand.Hand.{Hand}
use Rattle.ppq_pool.specs.declared.hand.Move.TheVariants.{Took, Gave}
use Rattle.ppq_pool.specs.Hands.{less_one, newcomer, void_hand}
use Rattle.ppq_pool.specs.Histories.{moves_of, ShowsHistory}
use Rattle.ppq_pool.specs.Rule.{holders, NoneVoid}
use Rattle.ppq_pool.proofs.Lists.{at_end}

module _ {R : Type 0} where
  pub buffer_at-Take_here : (p b i : ℕ) (h : List (Event R)) → b ≡ i → buffer_at i (Take p b ∷ h) ≡ Held p
  buffer_at-Take_here p b i h e = ap (λ c. cond c (Held p) (buffer_at i h)) (eq-eqb b i e)

  pub buffer_at-Take_else : (p b i : ℕ) (h : List (Event R)) → b ≢ i → buffer_at i (Take p b ∷ h) ≡ buffer_at i h
  buffer_at-Take_else p b i h n = ap (λ c. cond c (Held p) (buffer_at i h)) (ne_eqb b i n)

  pub buffer_at-Give_here : (p b i : ℕ) (h : List (Event R)) → b ≡ i → buffer_at i (Give p b ∷ h) ≡ Free
  buffer_at-Give_here p b i h e = ap (λ c. cond c Free (buffer_at i h)) (eq-eqb b i e)

  pub buffer_at-Give_else : (p b i : ℕ) (h : List (Event R)) → b ≢ i → buffer_at i (Give p b ∷ h) ≡ buffer_at i h
  buffer_at-Give_else p b i h n = ap (λ c. cond c Free (buffer_at i h)) (ne_eqb b i n)

  moves_of-Take_own : (p b j : ℕ) (h : List (Event R)) → p ≡ j → moves_of j (Take p b ∷ h) ≡ Took b ∷ moves_of j h
  moves_of-Take_own p b j h e = ap (λ c. cond c (Took b ∷ moves_of j h) (moves_of j h)) (eq-eqb p j e)

  moves_of-Take_other : (p b j : ℕ) (h : List (Event R)) → p ≢ j → moves_of j (Take p b ∷ h) ≡ moves_of j h
  moves_of-Take_other p b j h n = ap (λ c. cond c (Took b ∷ moves_of j h) (moves_of j h)) (ne_eqb p j n)

  moves_of-Give_own : (p b j : ℕ) (h : List (Event R)) → p ≡ j → moves_of j (Give p b ∷ h) ≡ Gave b ∷ moves_of j h
  moves_of-Give_own p b j h e = ap (λ c. cond c (Gave b ∷ moves_of j h) (moves_of j h)) (eq-eqb p j e)

  moves_of-Give_other : (p b j : ℕ) (h : List (Event R)) → p ≢ j → moves_of j (Give p b ∷ h) ≡ moves_of j h
  moves_of-Give_other p b j h n = ap (λ c. cond c (Gave b ∷ moves_of j h) (moves_of j h)) (ne_eqb p j n)

  -- more passes keep a history legal
  legal_more : (n d k m : ℕ) (h : List (Event R)) → k ≤ m → IsLegal n d k h → IsLegal n d m h
  legal_more n d k m [] le l = tt
  legal_more n d k m (Take p b ∷ h) le l = ((omega (arith, l.0.0), l.0.1, l.0.2), legal_more n d k m h le l.1)
  legal_more n d k m (Give p b ∷ h) le l = ((omega (arith, l.0.0), l.0.1, l.0.2), legal_more n d k m h le l.1)
  legal_more n d k m (Draw p b ∷ h) le l = ((omega (arith, l.0.0), l.0.1, l.0.2), legal_more n d k m h le l.1)
  legal_more n d k m (Push p x ∷ h) le l = (omega (arith, l.0), legal_more n d k m h le l.1)
  legal_more n d k m (Store p b ∷ h) le l = ((omega (arith, l.0.0), l.0.1, l.0.2), legal_more n d k m h le l.1)

  -- a pass that is not yet there has no moves
  moves_of-newcomer : (n d k j : ℕ) (h : List (Event R)) → k ≤ j → IsLegal n d k h → moves_of j h ≡ []
  moves_of-newcomer n d k j [] le l = refl
  moves_of-newcomer n d k j (Take p b ∷ h) le l = moves_of-Take_other p b j h (λ e. omega (arith, l.0.0)) ∙ moves_of-newcomer n d k j h le l.1
  moves_of-newcomer n d k j (Give p b ∷ h) le l = moves_of-Give_other p b j h (λ e. omega (arith, l.0.0)) ∙ moves_of-newcomer n d k j h le l.1
  moves_of-newcomer n d k j (Draw p b ∷ h) le l = moves_of-newcomer n d k j h le l.1
  moves_of-newcomer n d k j (Push p x ∷ h) le l = moves_of-newcomer n d k j h le l.1
  moves_of-newcomer n d k j (Store p b ∷ h) le l = moves_of-newcomer n d k j h le l.1

module _ {T : Type 0} where
  -- where no view is void after a step, none was before
  pub none_void_before : (vs : List (Hand T)) (id : ℕ) (v w : Hand T) → get_elem? vs id ≡ some v → 0 < v.shares → NoneVoid (set vs id w) → NoneVoid vs
  none_void_before vs id v w at some_share alive j u e = dite (ℕ_discrete j id)
      (λ same. let own : u ≡ v = some-injective u v (sym e ∙ ap (get_elem? vs) same ∙ at) in subst (λ (z : Hand T). 0 < z.shares) (sym own) some_share)
      (λ ne. alive j u (set_else vs id j w ne ∙ e))

  -- the same where a new view is added
  pub none_void_before_split : (vs : List (Hand T)) (id : ℕ) (v l r : Hand T) → get_elem? vs id ≡ some v → 0 < v.shares → NoneVoid (set vs id l ++ r ∷ []) → NoneVoid vs
  none_void_before_split vs id v l r at some_share alive = none_void_before vs id v l at some_share (λ j u e. alive j u (at_longer (set vs id l) (r ∷ []) j u e))

  -- a view that was joined is void
  pub some_void : (vs : List (Hand T)) (other : ℕ) → other < length vs → NoneVoid (set vs other void_hand) → ⊥
  some_void vs other inside alive = let h : 0 < 0 = alive other void_hand (set_here vs other void_hand inside) in omega arith

module _ {T R : Type 0} where
  -- a step that changes no word and no numbers is no event
  pub shown_still : (n : ℕ) (ws : List ℕ) (vs : List (Hand T)) (id : ℕ) (v w : Hand T) → get_elem? vs id ≡ some v → w.numbers ≡ v.numbers → w.moves ≡ v.moves
      → (h : List (Event R)) → ShowsHistory n ws vs h → ShowsHistory n ws (set vs id w) h
  shown_still n ws vs id v w at numbers moves h old = record {
    legal = subst (λ (k : ℕ). IsLegal n 0 k h) (sym (length-set vs id w)) old.legal;
    when_free = old.when_free;
    when_held = λ i j u e lists. ⊎_elim
        (λ (own : (j ≡ id) × (w ≡ u)). old.when_held i id v at (omega (arith, lists, ap (λ (z : Hand T). times i z.numbers) own.1, ap (times i) numbers)) ∙ ap Held (sym own.0))
        (λ (past : (j ≢ id) × (get_elem? vs j ≡ some u)). old.when_held i j u past.1 lists)
        (at_set vs id j w u e);
    moved = λ j u e. ⊎_elim
        (λ (own : (j ≡ id) × (w ≡ u)). ap (λ (k : ℕ). moves_of k h) own.0 ∙ old.moved id v at ∙ sym moves ∙ ap (λ (z : Hand T). z.moves) own.1)
        (λ (past : (j ≢ id) × (get_elem? vs j ≡ some u)). old.moved j u past.1)
        (at_set vs id j w u e);
  }

  -- a free item that is claimed is a Take
  pub shown_take : (n : ℕ) (ws : List ℕ) (vs : List (Hand T)) (id i : ℕ) (v w : Hand T) → get_elem? vs id ≡ some v → i < n → i + 1 < length ws → slice_index ws (i + 1) ≡ 0 → holders i vs ≡ 0
      → w.numbers ≡ v.numbers ++ i ∷ [] → w.moves ≡ Took i ∷ v.moves
      → (h : List (Event R)) → ShowsHistory n ws vs h → ShowsHistory n (set ws (i + 1) 1) (set vs id w) (Take id i ∷ h)
  shown_take n ws vs id i v w at inside near word nobody numbers moves h old = let there = within_at vs id v at in
      let count : (k : ℕ) → times k w.numbers ≡ times k v.numbers + times k (i ∷ []) = λ k. ap (times k) numbers ∙ times-append k v.numbers (i ∷ []) in record {
        legal = ((omega (arith, there, length-set vs id w), inside, old.when_free i inside word), subst (λ (k : ℕ). IsLegal n 0 k h) (sym (length-set vs id w)) old.legal);
        when_free = λ k lt zero_word. dite (ℕ_discrete k i)
            (λ e. absurd (let one : slice_index (set ws (i + 1) 1) (k + 1) ≡ 1 = ap (λ (z : ℕ). slice_index (set ws (i + 1) 1) (z + 1)) e ∙ get_or-set_same ws (i + 1) 1 0 near in omega arith))
            (λ ne. buffer_at-Take_else id i k h (λ e. ne (sym e)) ∙ old.when_free k lt (sym (get_or-set_other ws (i + 1) (k + 1) 1 0 (λ e. ne (omega arith))) ∙ zero_word));
        when_held = λ k j u e lists. ⊎_elim
            (λ (own : (j ≡ id) × (w ≡ u)). dite (ℕ_discrete i k)
            (λ same. buffer_at-Take_here id i k h same ∙ ap Held (sym own.0))
            (λ ne. buffer_at-Take_else id i k h ne ∙ old.when_held k id v at (omega (arith, lists, ap (λ (z : Hand T). times k z.numbers) own.1, count k, times-other i k ne)) ∙ ap Held (sym own.0)))
            (λ (past : (j ≢ id) × (get_elem? vs j ≡ some u)). buffer_at-Take_else id i k h
            (λ same. omega (arith, lists, nobody, one_of_total (λ (z : Hand T). times i z.numbers) vs j u past.1, ap (λ (z : ℕ). times z u.numbers) same)) ∙ old.when_held k j u past.1 lists)
            (at_set vs id j w u e);
        moved = λ j u e. ⊎_elim
            (λ (own : (j ≡ id) × (w ≡ u)). moves_of-Take_own id i j h (sym own.0) ∙ ap (λ (k : ℕ). Took i ∷ moves_of k h) own.0 ∙ ap (λ l. Took i ∷ l) (old.moved id v at) ∙ sym moves ∙ ap (λ (z : Hand T). z.moves) own.1)
            (λ (past : (j ≢ id) × (get_elem? vs j ≡ some u)). moves_of-Take_other id i j h (λ same. past.0 (sym same)) ∙ old.moved j u past.1)
            (at_set vs id j w u e);
      }

  -- an item that is cleared is a Give
  pub shown_give : (n : ℕ) (ws : List ℕ) (vs : List (Hand T)) (id i : ℕ) (v w : Hand T) → get_elem? vs id ≡ some v → i < n → 0 < times i v.numbers → holders i vs ≡ times i v.numbers
      → times i w.numbers ≡ 0 → ((k : ℕ) → k ≢ i → times k w.numbers ≡ times k v.numbers) → w.moves ≡ Gave i ∷ v.moves
      → (h : List (Event R)) → ShowsHistory n ws vs h → ShowsHistory n (set ws (i + 1) 0) (set vs id w) (Give id i ∷ h)
  shown_give n ws vs id i v w at inside listed alone gone others moves h old = let there = within_at vs id v at in record {
    legal = ((omega (arith, there, length-set vs id w), inside, old.when_held i id v at listed), subst (λ (k : ℕ). IsLegal n 0 k h) (sym (length-set vs id w)) old.legal);
    when_free = λ k lt zero_word. dite (ℕ_discrete i k)
        (λ same. buffer_at-Give_here id i k h same)
        (λ ne. buffer_at-Give_else id i k h ne ∙ old.when_free k lt (sym (get_or-set_other ws (i + 1) (k + 1) 0 0 (λ e. ne (omega arith))) ∙ zero_word));
    when_held = λ k j u e lists. ⊎_elim
        (λ (own : (j ≡ id) × (w ≡ u)). let here : 0 < times k w.numbers = subst (λ (z : Hand T). 0 < times k z.numbers) (sym own.1) lists in
        let ne : i ≢ k = λ same. omega (arith, here, gone, ap (λ (z : ℕ). times z w.numbers) same) in
        buffer_at-Give_else id i k h ne ∙ old.when_held k id v at (omega (arith, here, others k (λ same. ne (sym same)))) ∙ ap Held (sym own.0))
        (λ (past : (j ≢ id) × (get_elem? vs j ≡ some u)). buffer_at-Give_else id i k h
        (λ same. omega (arith, lists, alone, two_of_total (λ (z : Hand T). times i z.numbers) vs id j v u at past.1 past.0, ap (λ (z : ℕ). times z u.numbers) same)) ∙ old.when_held k j u past.1 lists)
        (at_set vs id j w u e);
    moved = λ j u e. ⊎_elim
        (λ (own : (j ≡ id) × (w ≡ u)). moves_of-Give_own id i j h (sym own.0) ∙ ap (λ (k : ℕ). Gave i ∷ moves_of k h) own.0 ∙ ap (λ l. Gave i ∷ l) (old.moved id v at) ∙ sym moves ∙ ap (λ (z : Hand T). z.moves) own.1)
        (λ (past : (j ≢ id) × (get_elem? vs j ≡ some u)). moves_of-Give_other id i j h (λ same. past.0 (sym same)) ∙ old.moved j u past.1)
        (at_set vs id j w u e);
  }

  -- a split is no event: the new pass has no moves
  pub shown_split : (n : ℕ) (ws : List ℕ) (vs : List (Hand T)) (id : ℕ) (v : Hand T) → get_elem? vs id ≡ some v
      → (h : List (Event R)) → ShowsHistory n ws vs h → ShowsHistory n ws (set vs id (less_one v) ++ newcomer v ∷ []) h
  shown_split n ws vs id v at h old = let kept = shown_still n ws vs id v (less_one v) at refl refl h old in let vs' : List (Hand T) = set vs id (less_one v) in record {
    legal = legal_more n 0 (length vs') (length (vs' ++ newcomer v ∷ [])) h (omega (arith, length-append vs' (newcomer v ∷ []))) kept.legal;
    when_free = old.when_free;
    when_held = λ i j u e lists. ⊎_elim
        (λ (was : get_elem? vs' j ≡ some u). kept.when_held i j u was lists)
        (λ (new : (j ≡ length vs') × (newcomer v ≡ u)). absurd (omega (arith, lists, ap (λ (z : Hand T). times i z.numbers) new.1)))
        (at_end vs' (newcomer v) u j e);
    moved = λ j u e. ⊎_elim
        (λ (was : get_elem? vs' j ≡ some u). kept.moved j u was)
        (λ (new : (j ≡ length vs') × (newcomer v ≡ u)). moves_of-newcomer n 0 (length vs') j h (omega (arith, new.0)) kept.legal ∙ ap (λ (z : Hand T). z.moves) new.1)
        (at_end vs' (newcomer v) u j e);
  }

-- the Takes and Gives of a history, with items of another type
module _ {T : Type 0} (R : Type 0) where
  abbrev takes_and_gives : List (Event T) → List (Event R)
  takes_and_gives [] = []
  takes_and_gives (Take p b ∷ h) = Take p b ∷ takes_and_gives h
  takes_and_gives (Give p b ∷ h) = Give p b ∷ takes_and_gives h
  takes_and_gives (Draw p s ∷ h) = takes_and_gives h
  takes_and_gives (Push p x ∷ h) = takes_and_gives h
  takes_and_gives (Store p s ∷ h) = takes_and_gives h

  buffer_at-same : (i : ℕ) (h : List (Event T)) → buffer_at i (takes_and_gives h) ≡ buffer_at i h
  buffer_at-same i [] = refl
  buffer_at-same i (Take p b ∷ h) = ap (λ z. if b == i then Held p else z) (buffer_at-same i h)
  buffer_at-same i (Give p b ∷ h) = ap (λ z. if b == i then Free else z) (buffer_at-same i h)
  buffer_at-same i (Draw p s ∷ h) = buffer_at-same i h
  buffer_at-same i (Push p x ∷ h) = buffer_at-same i h
  buffer_at-same i (Store p s ∷ h) = buffer_at-same i h

  moves_of-same : (j : ℕ) (h : List (Event T)) → moves_of j (takes_and_gives h) ≡ moves_of j h
  moves_of-same j [] = refl
  moves_of-same j (Take p b ∷ h) = ap (λ z. if p == j then Took b ∷ z else z) (moves_of-same j h)
  moves_of-same j (Give p b ∷ h) = ap (λ z. if p == j then Gave b ∷ z else z) (moves_of-same j h)
  moves_of-same j (Draw p s ∷ h) = moves_of-same j h
  moves_of-same j (Push p x ∷ h) = moves_of-same j h
  moves_of-same j (Store p s ∷ h) = moves_of-same j h

  legal_same : (n d k : ℕ) (h : List (Event T)) → IsLegal n d k h → IsLegal n 0 k (takes_and_gives h)
  legal_same n d k [] l = tt
  legal_same n d k (Take p b ∷ h) l = ((l.0.0, l.0.1, buffer_at-same b h ∙ l.0.2), legal_same n d k h l.1)
  legal_same n d k (Give p b ∷ h) l = ((l.0.0, l.0.1, buffer_at-same b h ∙ l.0.2), legal_same n d k h l.1)
  legal_same n d k (Draw p s ∷ h) l = legal_same n d k h l.1
  legal_same n d k (Push p x ∷ h) l = legal_same n d k h l.1
  legal_same n d k (Store p s ∷ h) l = legal_same n d k h l.1

  pub shown_same : {V : Type 0} (n : ℕ) (ws : List ℕ) (vs : List (Hand V)) → (h : List (Event T)) × ShowsHistory n ws vs h → (h : List (Event R)) × ShowsHistory n ws vs h
  shown_same n ws vs old = let h = old.0 in let s = old.1 in (
    takes_and_gives h,
    record {
      legal = legal_same n 0 (length vs) h s.legal;
      when_free = λ i lt z. buffer_at-same i h ∙ s.when_free i lt z;
      when_held = λ i j v e lists. buffer_at-same i h ∙ s.when_held i j v e lists;
      moved = λ j v e. moves_of-same j h ∙ s.moved j v e;
    },
  )
