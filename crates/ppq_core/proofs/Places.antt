-- What one event does to a place, to a pass's items and to the count of draws; places told apart.
use Rattle.std.proofs.Common.{◌≡◌, ◌≢◌, ℕ, ◌+◌, List, [], ◌∷◌, ◌++◌, refl, ap, cond, eqb, eq-eqb, ne_eqb}
use native.Mathlib.Decide.{ℕ_discrete}
use Rattle.ppq_core.specs.declared.place.Place.{Place}
use Rattle.ppq_core.specs.declared.place.Place.TheVariants.{Free, Held, Stored}
use Rattle.ppq_core.specs.declared.event.Event.{Event}
use Rattle.ppq_core.specs.declared.event.Event.TheVariants.{Take, Give, Draw, Push, Store}
use Rattle.ppq_core.specs.History.{buffer_at, slot_at, draws, pushed_by, IsLegal}
use Rattle.ppq_core.specs.Laws.{pass_of, IsDraw, Names}

pub free_not_held : (p : ℕ) → Free ≡ Held p → ⊥
free_not_held p e = cc

pub free_not_stored : (p : ℕ) → Free ≡ Stored p → ⊥
free_not_stored p e = cc

pub stored_not_held : (q p : ℕ) → Stored q ≡ Held p → ⊥
stored_not_held q p e = cc

pub held_same : (p q : ℕ) → Held p ≡ Held q → p ≡ q
held_same p q e = cc

pub miss : (b i : ℕ) (x y : Place) → b ≢ i → cond (eqb b i) x y ≡ y
miss b i x y n = ap (λ c. cond c x y) (ne_eqb b i n)

pub hit : (b i : ℕ) (x y : Place) → b ≡ i → cond (eqb b i) x y ≡ x
hit b i x y e = ap (λ c. cond c x y) (eq-eqb b i e)

module _ {R : Type 0} where
  -- what an event makes of the place x of buffer i
  abbrev pub buffer_by : ℕ → Event R → Place → Place
  buffer_by i (Take p b) x = cond (eqb b i) (Held p) x
  buffer_by i (Give p b) x = cond (eqb b i) Free x
  buffer_by i (Draw p s) x = x
  buffer_by i (Push p y) x = x
  buffer_by i (Store p s) x = x

  -- what an event makes of the place x of slot i
  abbrev pub slot_by : ℕ → Event R → Place → Place
  slot_by i (Take p b) x = x
  slot_by i (Give p b) x = x
  slot_by i (Draw p s) x = cond (eqb s i) (Held p) x
  slot_by i (Push p y) x = x
  slot_by i (Store p s) x = cond (eqb s i) (Stored p) x

  -- what an event makes of the items l of pass q
  abbrev pub push_by : ℕ → Event R → List R → List R
  push_by q (Take p b) l = l
  push_by q (Give p b) l = l
  push_by q (Draw p s) l = l
  push_by q (Push p x) l = cond (eqb p q) (l ++ x ∷ []) l
  push_by q (Store p s) l = l

  -- what an event makes of the count n of draws
  abbrev pub draw_by : Event R → ℕ → ℕ
  draw_by (Take p b) n = n
  draw_by (Give p b) n = n
  draw_by (Draw p s) n = n + 1
  draw_by (Push p x) n = n
  draw_by (Store p s) n = n

  pub buffer_step : (i : ℕ) (e : Event R) (h : List (Event R)) → buffer_at i (e ∷ h) ≡ buffer_by i e (buffer_at i h)
  buffer_step i (Take p b) h = refl
  buffer_step i (Give p b) h = refl
  buffer_step i (Draw p s) h = refl
  buffer_step i (Push p x) h = refl
  buffer_step i (Store p s) h = refl

  pub slot_step : (i : ℕ) (e : Event R) (h : List (Event R)) → slot_at i (e ∷ h) ≡ slot_by i e (slot_at i h)
  slot_step i (Take p b) h = refl
  slot_step i (Give p b) h = refl
  slot_step i (Draw p s) h = refl
  slot_step i (Push p x) h = refl
  slot_step i (Store p s) h = refl

  pub push_step : (q : ℕ) (e : Event R) (h : List (Event R)) → pushed_by q (e ∷ h) ≡ push_by q e (pushed_by q h)
  push_step q (Take p b) h = refl
  push_step q (Give p b) h = refl
  push_step q (Draw p s) h = refl
  push_step q (Push p x) h = refl
  push_step q (Store p s) h = refl

  pub draw_step : (e : Event R) (h : List (Event R)) → draws (e ∷ h) ≡ draw_by e (draws h)
  draw_step (Take p b) h = refl
  draw_step (Give p b) h = refl
  draw_step (Draw p s) h = refl
  draw_step (Push p x) h = refl
  draw_step (Store p s) h = refl

  -- the event draws or stores the slot
  abbrev pub Marks : ℕ → Event R → Type 0
  Marks i (Take p b) = ⊥
  Marks i (Give p b) = ⊥
  Marks i (Draw p s) = s ≡ i
  Marks i (Push p y) = ⊥
  Marks i (Store p s) = s ≡ i

  pub named : (i : ℕ) (e : Event R) → Dec (Names i e)
  named i (Take p b) = ℕ_discrete b i
  named i (Give p b) = ℕ_discrete b i
  named i (Draw p s) = no (λ h. h)
  named i (Push p y) = no (λ h. h)
  named i (Store p s) = no (λ h. h)

  pub marked : (i : ℕ) (e : Event R) → Dec (Marks i e)
  marked i (Take p b) = no (λ h. h)
  marked i (Give p b) = no (λ h. h)
  marked i (Draw p s) = ℕ_discrete s i
  marked i (Push p y) = no (λ h. h)
  marked i (Store p s) = ℕ_discrete s i

  -- an event leaves what it does not name
  pub buffer_miss : (i : ℕ) (e : Event R) (x : Place) → ¬ (Names i e) → buffer_by i e x ≡ x
  buffer_miss i (Take p b) x n = miss b i (Held p) x n
  buffer_miss i (Give p b) x n = miss b i Free x n
  buffer_miss i (Draw p s) x n = refl
  buffer_miss i (Push p y) x n = refl
  buffer_miss i (Store p s) x n = refl

  pub slot_miss : (i : ℕ) (e : Event R) (x : Place) → ¬ (Marks i e) → slot_by i e x ≡ x
  slot_miss i (Take p b) x n = refl
  slot_miss i (Give p b) x n = refl
  slot_miss i (Draw p s) x n = miss s i (Held p) x n
  slot_miss i (Push p y) x n = refl
  slot_miss i (Store p s) x n = miss s i (Stored p) x n

  pub push_miss : (q : ℕ) (e : Event R) (l : List R) → pass_of e ≢ q → push_by q e l ≡ l
  push_miss q (Take p b) l n = refl
  push_miss q (Give p b) l n = refl
  push_miss q (Draw p s) l n = refl
  push_miss q (Push p x) l n = ap (λ c. cond c (l ++ x ∷ []) l) (ne_eqb p q n)
  push_miss q (Store p s) l n = refl

  pub draw_miss : (e : Event R) (n : ℕ) → ¬ (IsDraw e) → draw_by e n ≡ n
  draw_miss (Take p b) n not = refl
  draw_miss (Give p b) n not = refl
  draw_miss (Draw p s) n not = absurd (not tt)
  draw_miss (Push p x) n not = refl
  draw_miss (Store p s) n not = refl

  -- the older part of a legal history is legal
  pub legal_older : (n d k : ℕ) (later h : List (Event R)) → IsLegal n d k (later ++ h) → IsLegal n d k h
  legal_older n d k [] h l = l
  legal_older n d k (e ∷ later) h l = legal_older n d k later h l.1

  -- the same where that part has two parts
  pub legal_middle : (n d k : ℕ) (later between h : List (Event R)) → IsLegal n d k (later ++ between ++ h) → IsLegal n d k (between ++ h)
  legal_middle n d k [] between h l = l
  legal_middle n d k (e ∷ later) between h l = legal_middle n d k later between h l.1
