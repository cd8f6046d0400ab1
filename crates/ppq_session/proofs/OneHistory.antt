-- A pool and a row show one history together: the laws of ppq_core, of the pool and of the row, put together.
use Rattle.std.proofs.Common.{◌≡◌, inl, inr, ℕ, zero, suc, ◌+◌, ◌-◌, ◌<◌, min, Bool, true, false, cond, eqb, List, [], ◌∷◌, ◌++◌, length, slice_index, slice_set, refl, sym, ap, ◌∙◌, subst, arith, Some, None, length-set, ne_eqb, true≢false}
use mathlib.Core.Logic.{dite}
use native.Mathlib.Decide.{ℕ_discrete, dec_le}
use Rattle.atomic_table.specs.Table.{keeps}
use Rattle.ppq_pass.specs.ppq_core.declared.event.Event.{Event}
use Rattle.ppq_pass.specs.ppq_core.declared.event.Event.TheVariants.{Take, Give, Draw, Push, Store}
use Rattle.ppq_pass.specs.ppq_core.declared.place.Place.{Place as CorePlace}
use Rattle.ppq_pass.specs.ppq_core.declared.place.Place.TheVariants.{Free, Held, Stored}
use Rattle.ppq_pass.specs.ppq_core.History.{buffer_at, slot_at, draws, IsLegalNext, IsLegal}
use Rattle.ppq_pass.specs.ppq_core.Laws.{TellsSlots}
use Rattle.ppq_pass.specs.ppq_core.Parts.{buffer_part, slot_part, place_of_pass, renumbered, EndsRenumbered, PartsInterleave, PartsAreLegal, PassesRenumber}
use Rattle.ppq_pass.specs.ppq_pool.declared.hand.Hand.{Hand as PoolHand}
use Rattle.ppq_pass.specs.ppq_pool.Hands.{last_moment}
use Rattle.ppq_pass.specs.ppq_pool.Histories.{ShowsHistory}
use Rattle.ppq_pass.specs.ppq_pool.Shown.{StepsAreEvents as PoolSteps}
use Rattle.ppq_pass.specs.ppq_row.declared.hand.Hand.{Hand as RowHand}
use Rattle.ppq_pass.specs.ppq_row.Hands.{less_one, newcomer, with_none, with_place as with_slot}
use Rattle.ppq_pass.specs.ppq_row.Histories.{holder, draws_of}
use Rattle.ppq_pass.specs.ppq_row.Rule.{counter}
use Rattle.ppq_pass.specs.ppq_row.Shown.{shown, counted, StepsAreEvents as RowSteps}
use Rattle.ppq_session.specs.OneHistory.{PoolState, RowState, PoolAndRow, Seating, draw_part, IsWith, buffers_of, MeetsRules, ShowsTogether, PoolStep, RowStep, Step, StatesShowOne, PoolPlays, RowPlays, PlaysAreSteps, EachStepShowsOne, AllStepsShowOne}
use Rattle.ppq_session.proofs.Without.{draws_of_draw_part}

pass_in : CorePlace → ℕ
pass_in Free = 0
pass_in (Held p) = p
pass_in (Stored p) = p

is_free : CorePlace → Bool
is_free Free = true
is_free (Held p) = false
is_free (Stored p) = false

held_not_free : (p : ℕ) (w : CorePlace) → w ≡ Held p → ¬ (w ≡ Free)
unfolding is_free
held_not_free p w h f = true≢false (ap is_free (sym f ∙ h))

same_pass : (p q : ℕ) (w : CorePlace) → w ≡ Held q → IsWith p w → q ≡ p
unfolding pass_in
same_pass p q w h (inl a) = ap pass_in (sym h ∙ a)
same_pass p q w h (inr b) = ap pass_in (sym h ∙ b)

by_draw : (c : Bool) (p q : ℕ) (v w : CorePlace) → (v ≡ Held p → IsWith p w) → cond c (Held q) v ≡ Held p → IsWith p (cond c (Held q) w)
by_draw true p q v w on e = inl e
by_draw false p q v w on e = on e

by_store : (c : Bool) (p q : ℕ) (w : CorePlace) → (c ≡ true → q ≡ p) → IsWith p w → IsWith p (cond c (Stored q) w)
by_store true p q w same a = inr (ap Stored (same refl))
by_store false p q w same a = a

module _ {R : Type 0} where
  -- who drew a slot holds it, or has stored it
  stays_with : (n d k i p : ℕ) (h : List (Event R)) → IsLegal n d k h → slot_at i (draw_part h) ≡ Held p → IsWith p (slot_at i h)
  stays_with n d k i p [] l e = inl e
  stays_with n d k i p (Take q b ∷ h) l e = stays_with n d k i p h l.1 e
  stays_with n d k i p (Give q b ∷ h) l e = stays_with n d k i p h l.1 e
  stays_with n d k i p (Draw q s ∷ h) l e = by_draw (eqb s i) p q (slot_at i (draw_part h)) (slot_at i h) (stays_with n d k i p h l.1) e
  stays_with n d k i p (Push q x ∷ h) l e = stays_with n d k i p h l.1 e
  stays_with n d k i p (Store q s ∷ h) l e = let a : IsWith p (slot_at i h) = stays_with n d k i p h l.1 e in
      dite (ℕ_discrete s i)
      (λ same. by_store (eqb s i) p q (slot_at i h) (λ _. same_pass p q (slot_at i h) (ap (λ (k : ℕ). slot_at k h) (sym same) ∙ l.0.2) a) a)
      (λ ne. by_store (eqb s i) p q (slot_at i h) (λ c. absurd (true≢false (sym c ∙ ne_eqb s i ne))) a)

  -- a history of takes and gives after one of other events
  buffers_behind : (d h : List (Event R)) → buffer_part d ≡ [] → buffer_part (buffer_part h ++ d) ≡ buffer_part h
  buffers_behind d [] e = e
  buffers_behind d (Take p b ∷ h) e = ap (λ k. Take p b ∷ k) (buffers_behind d h e)
  buffers_behind d (Give p b ∷ h) e = ap (λ k. Give p b ∷ k) (buffers_behind d h e)
  buffers_behind d (Draw p s ∷ h) e = buffers_behind d h e
  buffers_behind d (Push p x ∷ h) e = buffers_behind d h e
  buffers_behind d (Store p s ∷ h) e = buffers_behind d h e

  slots_behind : (d h : List (Event R)) → slot_part d ≡ d → slot_part (buffer_part h ++ d) ≡ d
  slots_behind d [] e = e
  slots_behind d (Take p b ∷ h) e = slots_behind d h e
  slots_behind d (Give p b ∷ h) e = slots_behind d h e
  slots_behind d (Draw p s ∷ h) e = slots_behind d h e
  slots_behind d (Push p x ∷ h) e = slots_behind d h e
  slots_behind d (Store p s ∷ h) e = slots_behind d h e

  draws_behind : (d h : List (Event R)) → draw_part d ≡ d → draw_part (buffer_part h ++ d) ≡ d
  draws_behind d [] e = e
  draws_behind d (Take p b ∷ h) e = draws_behind d h e
  draws_behind d (Give p b ∷ h) e = draws_behind d h e
  draws_behind d (Draw p s ∷ h) e = draws_behind d h e
  draws_behind d (Push p x ∷ h) e = draws_behind d h e
  draws_behind d (Store p s ∷ h) e = draws_behind d h e

  -- a row shows draws alone
  module _ {S : Type 0} (f : ℕ → ℕ) (views : List (RowHand S)) where
    no_buffers : (n : ℕ) → buffer_part (renumbered {R = R} f (draws_of n views)) ≡ []
    no_buffers zero = refl
    no_buffers (suc n) = no_buffers n

    all_slots : (n : ℕ) → slot_part (renumbered {R = R} f (draws_of n views)) ≡ renumbered f (draws_of n views)
    all_slots zero = refl
    all_slots (suc n) = ap (λ k. Draw (f (holder n views)) n ∷ k) (all_slots n)

    all_draws : (n : ℕ) → draw_part (renumbered {R = R} f (draws_of n views)) ≡ renumbered f (draws_of n views)
    all_draws zero = refl
    all_draws (suc n) = ap (λ k. Draw (f (holder n views)) n ∷ k) (all_draws n)

module _ {B S R : Type 0} (tells : TellsSlots R) (together : PartsInterleave R) (apart : PartsAreLegal R) (renumber : PassesRenumber R) (at_pools : PoolSteps B R) (at_rows : RowSteps S R) where
  at_part : (n d k i : ℕ) (h : List (Event R)) → IsLegal n d k h → buffer_at i h ≡ buffer_at i (buffer_part h)
  at_part n d k i h l = let both = apart n d k h l in (together n d k (buffer_part h) (slot_part h) h both.0 both.1 record { buffers = refl; slots = refl }).1.buffers i

  -- the row's draws, each by the pass of its seat
  row_draws : (x : Seating B S) (s : PoolAndRow B S) → MeetsRules x s
      → IsLegal 0 (length x.slots) x.passes (renumbered {R = R} x.row_pass (shown x.slots s.row)) × EndsRenumbered (length s.row.views) x.row_pass (shown {R = R} x.slots s.row)
  row_draws x s r = renumber 0 (length x.slots) (length s.row.views) x.passes x.row_pass (shown x.slots s.row) (λ p _. x.row_below p) (at_rows.legal x.slots s.row r.1).legal

  drawn_so_far : (x : Seating B S) (s : PoolAndRow B S) (h : List (Event R)) → MeetsRules x s → draw_part h ≡ renumbered x.row_pass (shown x.slots s.row) → draws h ≡ min (counter s.row) (length x.slots)
  drawn_so_far x s h r e = draws_of_draw_part h ∙ ap draws e ∙ (row_draws x s r).1.drawn ∙ (at_rows.legal x.slots s.row r.1).drawn

  -- where each buffer and each slot is follows from the two parts
  whole : (x : Seating B S) (s : PoolAndRow B S) (h g : List (Event R)) → MeetsRules x s → IsLegal (buffers_of s.pool) (length x.slots) x.passes h
      → ShowsHistory (buffers_of s.pool) s.pool.words s.pool.views g → buffer_part h ≡ buffer_part (renumbered x.pool_pass g) → draw_part h ≡ renumbered x.row_pass (shown x.slots s.row) → ShowsTogether x s h
  whole x s h g r legal gs eg ed = record {
    legal = legal;
    of_pool = (g, gs, eg);
    of_row = ed;
    free_buffer = λ i lt word. buffers i ∙ ap (place_of_pass x.pool_pass) (gs.when_free i lt word);
    held_buffer = λ i j v at lists. buffers i ∙ ap (place_of_pass x.pool_pass) (gs.when_held i j v at lists);
    free_slot = λ i le. (tells n d x.passes i h legal).free (omega (arith, drawn_so_far x s h r ed));
    drawn_slot = λ i lt small. let f = (at_rows.legal x.slots s.row r.1).held i lt small in
        (f.0, f.1, f.3, f.4, stays_with n d x.passes i (x.row_pass f.0) h legal (ap (slot_at i) ed ∙ (row_draws x s r).1.slots i ∙ ap (place_of_pass x.row_pass) f.2));
  }
    where
      n : ℕ
      n = buffers_of s.pool

      d : ℕ
      d = length x.slots

      renumbered_pool : IsLegal n 0 x.passes (renumbered x.pool_pass g) × EndsRenumbered (length s.pool.views) x.pool_pass g
      renumbered_pool = renumber n 0 (length s.pool.views) x.passes x.pool_pass g (λ p _. x.pool_below p) gs.legal

      buffers : (i : ℕ) → buffer_at i h ≡ place_of_pass x.pool_pass (buffer_at i g)
      buffers i = at_part n d x.passes i h legal ∙ ap (buffer_at i) eg ∙ sym (at_part n 0 x.passes i (renumbered x.pool_pass g) renumbered_pool.0) ∙ renumbered_pool.1.buffers i

  pub shown_at_first : StatesShowOne B S R
  shown_at_first x s r alive = (h, whole x s h g.0 r legal g.1 (buffers_behind d k (no_buffers x.row_pass s.row.views m)) (draws_behind d k (all_draws x.row_pass s.row.views m)))
    where
      g : (g : List (Event R)) × ShowsHistory (buffers_of s.pool) s.pool.words s.pool.views g
      g = at_pools.shown x.shape_of x.shape s.pool r.0 alive

      m : ℕ
      m = min (counter s.row) (length x.slots)

      d : List (Event R)
      d = renumbered x.row_pass (shown x.slots s.row)

      k : List (Event R)
      k = renumbered x.pool_pass g.0

      h : List (Event R)
      h = buffer_part k ++ d

      legal : IsLegal (buffers_of s.pool) (length x.slots) x.passes h
      legal = (together (buffers_of s.pool) (length x.slots) x.passes (buffer_part k) d h
          (apart (buffers_of s.pool) 0 x.passes k (renumber (buffers_of s.pool) 0 (length s.pool.views) x.passes x.pool_pass g.0 (λ p _. x.pool_below p) g.1.legal).0).0
          (row_draws x s r).0
          record { buffers = buffers_behind d k (no_buffers x.row_pass s.row.views m); slots = slots_behind d k (all_slots x.row_pass s.row.views m) }).0

  -- the pool came to these words and views, and the whole with it
  pool_on : (x : Seating B S) (s t : PoolAndRow B S) (h k g : List (Event R)) (ws : List ℕ) (vs : List (PoolHand B)) → MeetsRules x s → MeetsRules x t → t.row ≡ s.row → (t.pool.words ≡ ws) × (t.pool.views ≡ vs) → length ws ≡ length s.pool.words
      → ShowsTogether x s h → ShowsHistory (buffers_of s.pool) ws vs g → IsLegal (buffers_of s.pool) (length x.slots) x.passes k → buffer_part k ≡ buffer_part (renumbered x.pool_pass g) → draw_part k ≡ draw_part h → ShowsTogether x t k
  pool_on x s t h k g ws vs r q row b long o gs legal eg ed = whole x t k g q
      (subst (λ (n : ℕ). IsLegal n (length x.slots) x.passes k) (sym same) legal)
      (subst (λ (n : ℕ). ShowsHistory n t.pool.words t.pool.views g) (sym same) (subst (λ (w : List ℕ). ShowsHistory (buffers_of s.pool) w t.pool.views g) (sym b.0) (subst (λ (v : List (PoolHand B)). ShowsHistory (buffers_of s.pool) ws v g) (sym b.1) gs)))
      eg
      (ed ∙ o.of_row ∙ ap (λ (w : RowState S). renumbered x.row_pass (shown x.slots w)) (sym row))
    where
      same : buffers_of t.pool ≡ buffers_of s.pool
      same = ap (λ (n : ℕ). n - 1) (sym q.0.wide ∙ ap length b.0 ∙ long ∙ r.0.wide)

  at_pool_on : (x : Seating B S) (s t : PoolAndRow B S) (h k : List (Event R)) → MeetsRules x s → MeetsRules x t → t.row ≡ s.row → ShowsTogether x s h → PoolStep x s.pool t.pool h k → ShowsTogether x t k
  at_pool_on x s t h k r q row o (PoolStep.takes id i moment v at word b e) = let near : i < buffers_of s.pool = let a = at.1 in omega arith in let g = o.of_pool in
      subst (ShowsTogether x t) (sym e) (pool_on x s t h (Take (x.pool_pass id) i ∷ h) (Take id i ∷ g.0) _ _ r q row b (length-set s.pool.words (i + 1) 1) o
      (at_pools.claims x.shape_of x.shape s.pool id v i moment g.0 (r.0, at.0, at.1) word g.1) ((x.pool_below id, near, o.free_buffer i near word), o.legal) (ap (λ l. Take (x.pool_pass id) i ∷ l) g.2) refl)
  at_pool_on x s t h k r q row o (PoolStep.looks id i moment v at word b e) = let g = o.of_pool in
      subst (ShowsTogether x t) (sym e) (pool_on x s t h h g.0 _ _ r q row b (length-set s.pool.words (i + 1) 1) o (at_pools.looks x.shape_of x.shape s.pool id v i moment g.0 (r.0, at.0, at.1) word g.1) o.legal g.2 refl)
  at_pool_on x s t h k r q row o (PoolStep.settles_or_reaches id i v place at lists b e) = let g = o.of_pool in
      subst (ShowsTogether x t) (sym e) (pool_on x s t h h g.0 _ _ r q row b (length-set s.pool.words (i + 1) 1) o (at_pools.settles_and_reaches x.shape_of x.shape s.pool id v i place g.0 (r.0, at.0, at.1) lists g.1) o.legal g.2 refl)
  at_pool_on x s t h k r q row o (PoolStep.gives id i moment v y at lists b e) = let near : i < buffers_of s.pool = let a = at.1 in omega arith in let g = o.of_pool in
      subst (ShowsTogether x t) (sym e) (pool_on x s t h (Give (x.pool_pass id) i ∷ h) (Give id i ∷ g.0) _ _ r q row b (length-set s.pool.words (i + 1) 0) o
      (at_pools.clears x.shape_of x.shape s.pool id v i moment y g.0 (r.0, at.0, at.1) lists g.1) ((x.pool_below id, near, o.held_buffer i id v at.0 lists), o.legal) (ap (λ l. Give (x.pool_pass id) i ∷ l) g.2) refl)
  at_pool_on x s t h k r q row o (PoolStep.splits id v at b e) = let g = o.of_pool in
      subst (ShowsTogether x t) (sym e) (pool_on x s t h h g.0 _ _ r q row b refl o (at_pools.splits s.pool id v g.0 at g.1) o.legal g.2 refl)

  -- the row came to where it shows these draws, and the whole with it
  row_on : (x : Seating B S) (s t : PoolAndRow B S) (h k : List (Event R)) → MeetsRules x t → t.pool ≡ s.pool → ShowsTogether x s h → IsLegal (buffers_of s.pool) (length x.slots) x.passes k → buffer_part k ≡ buffer_part h → draw_part k ≡ renumbered x.row_pass (shown x.slots t.row) → ShowsTogether x t k
  row_on x s t h k q pool o legal eg ed = let g = o.of_pool in whole x t k g.0 q
      (subst (λ (w : PoolState B). IsLegal (buffers_of w) (length x.slots) x.passes k) (sym pool) legal)
      (subst (λ (w : PoolState B). ShowsHistory (buffers_of w) w.words w.views g.0) (sym pool) g.1)
      (eg ∙ g.2)
      ed

  -- what a row shows hangs on its words and views alone
  shown-by : (x : Seating B S) (w u : RowState S) → (u.words ≡ w.words) × (u.views ≡ w.views) → shown {R = R} x.slots u ≡ shown x.slots w
  shown-by x w u e = ap (λ (ws : List ℕ). draws_of {R = R} (min (slice_index ws 0) (length x.slots)) u.views) e.0 ∙ ap (λ (vs : List (RowHand S)). draws_of {R = R} (min (counter w) (length x.slots)) vs) e.1

  at_row_on : (x : Seating B S) (s t : PoolAndRow B S) (h k : List (Event R)) → MeetsRules x s → MeetsRules x t → t.pool ≡ s.pool → ShowsTogether x s h → RowStep x s.row t.row h k → ShowsTogether x t k
  at_row_on x s t h k r q pool o (RowStep.draws id v at more b e) = let c : ℕ = counter s.row in
      subst (ShowsTogether x t) (sym e) (row_on x s t h (Draw (x.row_pass id) c ∷ h) q pool o
      ((x.row_below id, more, (let here : c ≡ min c (length x.slots) = omega arith in here) ∙ sym (drawn_so_far x s h r o.of_row)), o.legal)
      refl
      (ap (λ l. Draw (x.row_pass id) c ∷ l) o.of_row ∙ ap (renumbered x.row_pass) (sym (shown-by x (counted S R s.row id (v, []) (with_slot c v) keeps) t.row b ∙ at_rows.draws x.slots s.row id (v, []) keeps r.1 at more))))
  at_row_on x s t h k r q pool o (RowStep.ends id v at end b e) =
      subst (ShowsTogether x t) (sym e) (row_on x s t h h q pool o o.legal refl
      (o.of_row ∙ ap (renumbered x.row_pass) (sym (shown-by x (counted S R s.row id (v, []) (with_none v) keeps) t.row b ∙ at_rows.ends x.slots s.row id (v, []) keeps r.1 at end))))
  at_row_on x s t h k r q pool o (RowStep.splits id v at b e) =
      subst (ShowsTogether x t) (sym e) (row_on x s t h h q pool o o.legal refl
      (o.of_row ∙ ap (renumbered x.row_pass) (sym (shown-by x record { words = s.row.words; homes = s.row.homes; views = slice_set s.row.views id (less_one v) ++ newcomer v ∷ [] } t.row b ∙ at_rows.splits x.slots s.row id v r.1 at))))

  -- who holds a slot may store it
  may_store : (x : Seating B S) (s : PoolAndRow B S) (h : List (Event R)) (p i : ℕ) → MeetsRules x s → ShowsTogether x s h → slot_at i h ≡ Held p → IsLegalNext (buffers_of s.pool) (length x.slots) x.passes (Store p i) h
  may_store x s h p i r o held = let f = o.drawn_slot i drawn small in let same : p ≡ x.row_pass f.0 = same_pass (x.row_pass f.0) p (slot_at i h) held f.4 in
      (subst (λ (j : ℕ). j < x.passes) (sym same) (x.row_below f.0), small, held)
    where
      below : i < draws h
      below = dite (dec_le (suc i) (draws h)) (λ le. omega (arith, le)) (λ ge. absurd (held_not_free p (slot_at i h) held ((tells (buffers_of s.pool) (length x.slots) x.passes i h o.legal).free (omega (arith, ge)))))

      drawn : i < counter s.row
      drawn = omega (arith, below, drawn_so_far x s h r o.of_row)

      small : i < length x.slots
      small = omega (arith, below, drawn_so_far x s h r o.of_row)

  -- an event of a pass alone
  own_on : (x : Seating B S) (s t : PoolAndRow B S) (h k : List (Event R)) → MeetsRules x s → t ≡ s → ShowsTogether x s h → IsLegal (buffers_of s.pool) (length x.slots) x.passes k → buffer_part k ≡ buffer_part h → draw_part k ≡ draw_part h → ShowsTogether x t k
  own_on x s t h k r same o legal eg ed = subst (λ (u : PoolAndRow B S). ShowsTogether x u k) (sym same) (row_on x s s h k r refl o legal eg (ed ∙ o.of_row))

  pub goes_on : EachStepShowsOne B S R
  goes_on x s t h k r q (Step.at_pool step row) o = at_pool_on x s t h k r q row o step
  goes_on x s t h k r q (Step.at_row step pool) o = at_row_on x s t h k r q pool o step
  goes_on x s t h k r q (Step.pushes p item below same e) o = subst (ShowsTogether x t) (sym e) (own_on x s t h (Push p item ∷ h) r same o (below, o.legal) refl refl)
  goes_on x s t h k r q (Step.stores p i held same e) o = subst (ShowsTogether x t) (sym e) (own_on x s t h (Store p i ∷ h) r same o (may_store x s h p i r o held, o.legal) refl refl)

  pub go_on : AllStepsShowOne B S R
  go_on x zero s t h k r steps o = subst (λ (u : PoolAndRow B S). ShowsTogether x u k) (sym steps.0) (subst (ShowsTogether x s) (sym steps.1) o)
  go_on x (suc n) s t h k r steps o = go_on x n steps.0 t steps.1 k steps.3 steps.4 (goes_on x s steps.0 h steps.1 r steps.3 steps.2 o)

-- a play is a step of its kind
module _ {B S R : Type 0} (x : Seating B S) where
  pool_plays : (s t : PoolState B) (h : List (Event R)) → PoolPlays x s t h
  pool_plays s t h = record {
    claims = λ id i m n at b told. dite (ℕ_discrete (slice_index s.words (i + 1)) 0)
        (λ free. let c = told.0 free in (Take (x.pool_pass id) i ∷ h, PoolStep.takes id i (last_moment n.0) m.0 at free (b.0, b.1 ∙ ap (slice_set s.views id) c.3) refl))
        (λ busy. let c = told.1 busy in (h, PoolStep.looks id i (last_moment n.0) m.0 at c.0 (b.0, b.1 ∙ ap (slice_set s.views id) c.1) refl));
    settles = λ id i st m n at lists b told. (h, PoolStep.settles_or_reaches id i m.0 None at lists (b.0, b.1 ∙ ap (slice_set s.views id) told.0) refl);
    reaches = λ id i m n at lists b told. (h, PoolStep.settles_or_reaches id i m.0 (Some i) at lists (b.0, b.1 ∙ ap (slice_set s.views id) told.0) refl);
    clears = λ id i y m n at lists out b told. (Give (x.pool_pass id) i ∷ h, PoolStep.gives id i (last_moment n.0) m.0 y at lists (b.0, b.1 ∙ ap (slice_set s.views id) (told.0 y out)) refl);
  }

  row_plays : (s t : RowState S) (h : List (Event R)) → RowPlays x s t h
  row_plays s t h id st m n r at slots b told = dite (dec_le (length x.slots) (counter s))
      (λ end. (h, RowStep.ends id m.0 at end (b.0, b.1 ∙ ap (slice_set s.views id) (told.2 (omega (arith, all, end))).0) refl))
      (λ more. let few : counter s < length x.slots = omega (arith, more) in
      (Draw (x.row_pass id) (counter s) ∷ h, RowStep.draws id m.0 at few (b.0, b.1 ∙ ap (slice_set s.views id) (told.1 (omega (arith, all, few))).1.1) refl))
    where
      all : length m.0.items ≡ length x.slots
      all = omega (arith, told.0, slots, r.wide)

pub plays : (B S R : Type 0) → PlaysAreSteps B S R
plays B S R = (pool_plays, row_plays)
