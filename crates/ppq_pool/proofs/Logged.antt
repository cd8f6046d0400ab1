-- How the log of a pool goes on with each step: a Took, a Gave, a Saw, or nothing.
use Rattle.std.proofs.Common.{◌≡◌, ◌≢◌, ℕ, ◌+◌, ◌<◌, ◌≤◌, cond, List, [], ◌∷◌, ◌++◌, length, slice_index, set, sym, refl, ap, ◌∙◌, subst, ⊎_elim, arith, eq-eqb, ne_eqb, length-set, length-append, get_or-set_other, get_or-set_same}
use mathlib.Core.Option.{some}
use mathlib.Core.Logic.{dite}
use native.Mathlib.Decide.{ℕ_discrete}
use lib.ListN.{get_elem?}
use Rattle.atomic_table.proofs.Lists.{at_set}
use Rattle.ppq_core.specs.declared.event.Event.{Event}
use Rattle.ppq_table.proofs.Sums.{within_at}
use Rattle.ppq_pool.specs.declared.hand.Hand.{Hand}
use Rattle.ppq_pool.specs.declared.hand.Move.{Move}
use Rattle.ppq_pool.specs.declared.hand.Move.TheVariants.{Took, Gave, Saw}
use Rattle.ppq_pool.specs.Hands.{less_one, newcomer, together, void_hand}
use Rattle.ppq_pool.specs.Histories.{events_of, IsOut, MayMove, trail_of, moments_of, IsTrueLog, ShowsLog}
use Rattle.ppq_pool.proofs.Lists.{at_end}
use Rattle.ppq_pool.proofs.Shown.{buffer_at-Take_here, buffer_at-Take_else, buffer_at-Give_here, buffer_at-Give_else}

abbrev pub Log : Type 0
Log = List (ℕ × Move)

pub trail_of-own : (p j : ℕ) (m : Move) (log : Log) → p ≡ j → trail_of j ((p, m) ∷ log) ≡ m ∷ trail_of j log
trail_of-own p j m log e = ap (λ c. cond c (m ∷ trail_of j log) (trail_of j log)) (eq-eqb p j e)

pub trail_of-other : (p j : ℕ) (m : Move) (log : Log) → p ≢ j → trail_of j ((p, m) ∷ log) ≡ trail_of j log
trail_of-other p j m log n = ap (λ c. cond c (m ∷ trail_of j log) (trail_of j log)) (ne_eqb p j n)

pub moments_of-own : (p j : ℕ) (m : Move) (log : Log) → p ≡ j → moments_of j ((p, m) ∷ log) ≡ length log ∷ moments_of j log
moments_of-own p j m log e = ap (λ c. cond c (length log ∷ moments_of j log) (moments_of j log)) (eq-eqb p j e)

pub moments_of-other : (p j : ℕ) (m : Move) (log : Log) → p ≢ j → moments_of j ((p, m) ∷ log) ≡ moments_of j log
moments_of-other p j m log n = ap (λ c. cond c (length log ∷ moments_of j log) (moments_of j log)) (ne_eqb p j n)

-- more seats keep a log true
true_more : (R : Type 0) (k m : ℕ) (log : Log) → k ≤ m → IsTrueLog R k log → IsTrueLog R m log
true_more R k m [] le t = tt
true_more R k m (p ∷ log) le t = (omega (arith, t.0), t.1, true_more R k m log le t.2)

-- a seat that is not yet there has no moves
pub trail_of-newcomer : (R : Type 0) (k j : ℕ) (log : Log) → k ≤ j → IsTrueLog R k log → trail_of j log ≡ []
trail_of-newcomer R k j [] le t = refl
trail_of-newcomer R k j (p ∷ log) le t = trail_of-other p.0 j p.1 log (λ e. omega (arith, t.0)) ∙ trail_of-newcomer R k j log le t.2

pub moments_of-newcomer : (R : Type 0) (k j : ℕ) (log : Log) → k ≤ j → IsTrueLog R k log → moments_of j log ≡ []
moments_of-newcomer R k j [] le t = refl
moments_of-newcomer R k j (p ∷ log) le t = moments_of-other p.0 j p.1 log (λ e. omega (arith, t.0)) ∙ moments_of-newcomer R k j log le t.2

module _ {T : Type 0} where
  -- one seat makes a move
  trail_more : (vs : List (Hand T)) (id : ℕ) (v w : Hand T) (m : Move) (log : Log) → get_elem? vs id ≡ some v → 0 < v.shares → w.trail ≡ m ∷ v.trail
      → ((j : ℕ) (u : Hand T) → get_elem? vs j ≡ some u → 0 < u.shares → trail_of j log ≡ u.trail)
      → (j : ℕ) (u : Hand T) → get_elem? (set vs id w) j ≡ some u → 0 < u.shares → trail_of j ((id, m) ∷ log) ≡ u.trail
  trail_more vs id v w m log at some_share trail old j u e alive = ⊎_elim
      (λ (own : (j ≡ id) × (w ≡ u)). trail_of-own id j m log (sym own.0) ∙ ap (λ (k : ℕ). m ∷ trail_of k log) own.0 ∙ ap (λ l. m ∷ l) (old id v at some_share) ∙ sym trail ∙ ap (λ (z : Hand T). z.trail) own.1)
      (λ (past : (j ≢ id) × (get_elem? vs j ≡ some u)). trail_of-other id j m log (λ same. past.0 (sym same)) ∙ old j u past.1 alive)
      (at_set vs id j w u e)

  -- and it notes the moment
  moments_more : (vs : List (Hand T)) (id : ℕ) (v w : Hand T) (m : Move) (log : Log) → get_elem? vs id ≡ some v → 0 < v.shares → w.moments ≡ length log ∷ v.moments
      → ((j : ℕ) (u : Hand T) → get_elem? vs j ≡ some u → 0 < u.shares → moments_of j log ≡ u.moments)
      → (j : ℕ) (u : Hand T) → get_elem? (set vs id w) j ≡ some u → 0 < u.shares → moments_of j ((id, m) ∷ log) ≡ u.moments
  moments_more vs id v w m log at some_share moment old j u e alive = ⊎_elim
      (λ (own : (j ≡ id) × (w ≡ u)). moments_of-own id j m log (sym own.0) ∙ ap (λ (k : ℕ). length log ∷ moments_of k log) own.0 ∙ ap (λ l. length log ∷ l) (old id v at some_share) ∙ sym moment ∙ ap (λ (z : Hand T). z.moments) own.1)
      (λ (past : (j ≢ id) × (get_elem? vs j ≡ some u)). moments_of-other id j m log (λ same. past.0 (sym same)) ∙ old j u past.1 alive)
      (at_set vs id j w u e)

  true_next : (R : Type 0) (vs : List (Hand T)) (id : ℕ) (v w : Hand T) (m : Move) (log : Log) → get_elem? vs id ≡ some v → MayMove {R = R} m (events_of log) → IsTrueLog R (length vs) log → IsTrueLog R (length (set vs id w)) ((id, m) ∷ log)
  true_next R vs id v w m log at may old = let there = within_at vs id v at in (omega (arith, there, length-set vs id w), may, subst (λ (k : ℕ). IsTrueLog R k log) (sym (length-set vs id w)) old)

module _ {R T : Type 0} where
  -- a step that changes no word and adds nothing to the trail is not logged
  pub log_still : (n : ℕ) (ws : List ℕ) (vs : List (Hand T)) (id : ℕ) (v w : Hand T) → get_elem? vs id ≡ some v → 0 < v.shares → w.trail ≡ v.trail → w.moments ≡ v.moments
      → (log : Log) → ShowsLog R n ws vs log → ShowsLog R n ws (set vs id w) log
  log_still n ws vs id v w at some_share trail moments log old = record {
    is_true = subst (λ (k : ℕ). IsTrueLog R k log) (sym (length-set vs id w)) old.is_true;
    is_free = old.is_free;
    is_out = old.is_out;
    on_trail = λ j u e alive. ⊎_elim
        (λ (own : (j ≡ id) × (w ≡ u)). ap (λ (k : ℕ). trail_of k log) own.0 ∙ old.on_trail id v at some_share ∙ sym trail ∙ ap (λ (z : Hand T). z.trail) own.1)
        (λ (past : (j ≢ id) × (get_elem? vs j ≡ some u)). old.on_trail j u past.1 alive)
        (at_set vs id j w u e);
    on_time = λ j u e alive. ⊎_elim
        (λ (own : (j ≡ id) × (w ≡ u)). ap (λ (k : ℕ). moments_of k log) own.0 ∙ old.on_time id v at some_share ∙ sym moments ∙ ap (λ (z : Hand T). z.moments) own.1)
        (λ (past : (j ≢ id) × (get_elem? vs j ≡ some u)). old.on_time j u past.1 alive)
        (at_set vs id j w u e);
  }

  -- an item that was found held is logged as seen
  pub log_look : (n : ℕ) (ws : List ℕ) (vs : List (Hand T)) (id i : ℕ) (v w : Hand T) → get_elem? vs id ≡ some v → 0 < v.shares → i < n → slice_index ws (i + 1) ≡ 1 → w.trail ≡ Saw i ∷ v.trail
      → (log : Log) → w.moments ≡ length log ∷ v.moments → ShowsLog R n ws vs log → ShowsLog R n ws (set vs id w) ((id, Saw i) ∷ log)
  log_look n ws vs id i v w at some_share inside word trail log moment old = record {
    is_true = true_next R vs id v w (Saw i) log at (old.is_out i inside word) old.is_true;
    is_free = old.is_free;
    is_out = old.is_out;
    on_trail = trail_more vs id v w (Saw i) log at some_share trail old.on_trail;
    on_time = moments_more vs id v w (Saw i) log at some_share moment old.on_time;
  }

  -- a free item that is claimed is logged as taken
  pub log_take : (n : ℕ) (ws : List ℕ) (vs : List (Hand T)) (id i : ℕ) (v w : Hand T) → get_elem? vs id ≡ some v → 0 < v.shares → i < n → i + 1 < length ws → slice_index ws (i + 1) ≡ 0 → w.trail ≡ Took i ∷ v.trail
      → (log : Log) → w.moments ≡ length log ∷ v.moments → ShowsLog R n ws vs log → ShowsLog R n (set ws (i + 1) 1) (set vs id w) ((id, Took i) ∷ log)
  log_take n ws vs id i v w at some_share inside near word trail log moment old = let h : List (Event R) = events_of log in record {
    is_true = true_next R vs id v w (Took i) log at (old.is_free i inside word) old.is_true;
    is_free = λ k lt zero_word. dite (ℕ_discrete k i)
        (λ e. absurd (let one : slice_index (set ws (i + 1) 1) (k + 1) ≡ 1 = ap (λ (z : ℕ). slice_index (set ws (i + 1) 1) (z + 1)) e ∙ get_or-set_same ws (i + 1) 1 0 near in omega arith))
        (λ ne. buffer_at-Take_else id i k h (λ e. ne (sym e)) ∙ old.is_free k lt (sym (get_or-set_other ws (i + 1) (k + 1) 1 0 (λ e. ne (omega arith))) ∙ zero_word));
    is_out = λ k lt one_word. dite (ℕ_discrete i k)
        (λ same. (id, buffer_at-Take_here id i k h same))
        (λ ne. let was : IsOut {R = R} k h = old.is_out k lt (sym (get_or-set_other ws (i + 1) (k + 1) 1 0 (λ e. ne (omega arith))) ∙ one_word) in (was.0, buffer_at-Take_else id i k h ne ∙ was.1));
    on_trail = trail_more vs id v w (Took i) log at some_share trail old.on_trail;
    on_time = moments_more vs id v w (Took i) log at some_share moment old.on_time;
  }

  -- an item that is cleared is logged as given
  pub log_give : (n : ℕ) (ws : List ℕ) (vs : List (Hand T)) (id i : ℕ) (v w : Hand T) → get_elem? vs id ≡ some v → 0 < v.shares → i < n → i + 1 < length ws → slice_index ws (i + 1) ≡ 1 → w.trail ≡ Gave i ∷ v.trail
      → (log : Log) → w.moments ≡ length log ∷ v.moments → ShowsLog R n ws vs log → ShowsLog R n (set ws (i + 1) 0) (set vs id w) ((id, Gave i) ∷ log)
  log_give n ws vs id i v w at some_share inside near word trail log moment old = let h : List (Event R) = events_of log in record {
    is_true = true_next R vs id v w (Gave i) log at (old.is_out i inside word) old.is_true;
    is_free = λ k lt zero_word. dite (ℕ_discrete i k)
        (λ same. buffer_at-Give_here id i k h same)
        (λ ne. buffer_at-Give_else id i k h ne ∙ old.is_free k lt (sym (get_or-set_other ws (i + 1) (k + 1) 0 0 (λ e. ne (omega arith))) ∙ zero_word));
    is_out = λ k lt one_word. dite (ℕ_discrete k i)
        (λ e. absurd (let zero_word : slice_index (set ws (i + 1) 0) (k + 1) ≡ 0 = ap (λ (z : ℕ). slice_index (set ws (i + 1) 0) (z + 1)) e ∙ get_or-set_same ws (i + 1) 0 0 near in omega arith))
        (λ ne. let was : IsOut {R = R} k h = old.is_out k lt (sym (get_or-set_other ws (i + 1) (k + 1) 0 0 (λ e. ne (omega arith))) ∙ one_word) in (was.0, buffer_at-Give_else id i k h (λ e. ne (sym e)) ∙ was.1));
    on_trail = trail_more vs id v w (Gave i) log at some_share trail old.on_trail;
    on_time = moments_more vs id v w (Gave i) log at some_share moment old.on_time;
  }

  -- a split is not logged: the new seat has made no move
  pub log_split : (n : ℕ) (ws : List ℕ) (vs : List (Hand T)) (id : ℕ) (v : Hand T) → get_elem? vs id ≡ some v → 0 < v.shares
      → (log : Log) → ShowsLog R n ws vs log → ShowsLog R n ws (set vs id (less_one v) ++ newcomer v ∷ []) log
  log_split n ws vs id v at some_share log old = let vs' : List (Hand T) = set vs id (less_one v) in let kept = log_still n ws vs id v (less_one v) at some_share refl refl log old in record {
    is_true = true_more R (length vs') (length (vs' ++ newcomer v ∷ [])) log (omega (arith, length-append vs' (newcomer v ∷ []))) kept.is_true;
    is_free = old.is_free;
    is_out = old.is_out;
    on_trail = λ j u e alive. ⊎_elim
        (λ (was : get_elem? vs' j ≡ some u). kept.on_trail j u was alive)
        (λ (new : (j ≡ length vs') × (newcomer v ≡ u)). trail_of-newcomer R (length vs') j log (omega (arith, new.0)) kept.is_true ∙ ap (λ (z : Hand T). z.trail) new.1)
        (at_end vs' (newcomer v) u j e);
    on_time = λ j u e alive. ⊎_elim
        (λ (was : get_elem? vs' j ≡ some u). kept.on_time j u was alive)
        (λ (new : (j ≡ length vs') × (newcomer v ≡ u)). moments_of-newcomer R (length vs') j log (omega (arith, new.0)) kept.is_true ∙ ap (λ (z : Hand T). z.moments) new.1)
        (at_end vs' (newcomer v) u j e);
  }

  -- a join is not logged: the trail of the seat that stays is its own
  pub log_join : (n : ℕ) (ws : List ℕ) (vs : List (Hand T)) (id other : ℕ) (v w : Hand T) → get_elem? vs id ≡ some v → 0 < v.shares
      → (log : Log) → ShowsLog R n ws vs log → ShowsLog R n ws (set (set vs id (together v w)) other void_hand) log
  log_join n ws vs id other v w at some_share log old = let vs' : List (Hand T) = set vs id (together v w) in let kept = log_still n ws vs id v (together v w) at some_share refl refl log old in record {
    is_true = subst (λ (k : ℕ). IsTrueLog R k log) (sym (length-set vs' other void_hand)) kept.is_true;
    is_free = old.is_free;
    is_out = old.is_out;
    on_trail = λ j u e alive. ⊎_elim
        (λ (own : (j ≡ other) × (void_hand ≡ u)). absurd (let none : 0 ≡ u.shares = ap (λ (z : Hand T). z.shares) own.1 in omega arith))
        (λ (past : (j ≢ other) × (get_elem? vs' j ≡ some u)). kept.on_trail j u past.1 alive)
        (at_set vs' other j void_hand u e);
    on_time = λ j u e alive. ⊎_elim
        (λ (own : (j ≡ other) × (void_hand ≡ u)). absurd (let none : 0 ≡ u.shares = ap (λ (z : Hand T). z.shares) own.1 in omega arith))
        (λ (past : (j ≢ other) × (get_elem? vs' j ≡ some u)). kept.on_time j u past.1 alive)
        (at_set vs' other j void_hand u e);
  }
