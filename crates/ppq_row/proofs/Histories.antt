-- The history that a counter and the views show: it is legal, and how it changes with one view.
use Rattle.std.proofs.Common.{◌≡◌, ◌≢◌, ℕ, zero, suc, ◌<◌, ◌≤◌, min, cond, List, [], ◌∷◌, ◌++◌, length, set, sym, refl, ap, ◌∙◌, arith, eq-eqb, ne_eqb}
use Rattle.std.proofs.lemmas.Bool.Decides.{nat_tests}
use mathlib.Core.Option.{some, some-injective, some-ne-none}
use mathlib.Core.Logic.{dite}
use native.Mathlib.Decide.{ℕ_discrete}
use lib.ListN.{get_elem?}
use Rattle.ppq_table.specs.Sums.{total, times, once_below}
use Rattle.ppq_table.proofs.Sums.{within_at}
use Rattle.ppq_table.proofs.Numbers.{once-in}
use Rattle.ppq_core.specs.declared.event.Event.{Event}
use Rattle.ppq_core.specs.declared.event.Event.TheVariants.{Draw}
use Rattle.ppq_core.specs.declared.place.Place.TheVariants.{Free, Held}
use Rattle.ppq_core.specs.History.{slot_at, draws, IsLegal}
use Rattle.ppq_row.specs.declared.hand.Hand.{Hand}
use Rattle.ppq_row.specs.Histories.{holder, draws_of, IsShown}

module _ {T : Type 0} where
  -- how often the views list the place i
  abbrev pub listed : ℕ → List (Hand T) → ℕ
  listed i vs = total (λ v. times i v.places) vs

  holder-here : (i : ℕ) (v : Hand T) (vs : List (Hand T)) → 0 < times i v.places → holder i (v ∷ vs) ≡ 0
  holder-here i v vs h = grind (arith, nat_tests)

  holder-there : (i : ℕ) (v : Hand T) (vs : List (Hand T)) → times i v.places ≡ 0 → holder i (v ∷ vs) ≡ suc (holder i vs)
  holder-there i v vs h = grind (arith, nat_tests)

  -- a place that is listed is listed by its holder
  pub holder_lists : (i : ℕ) (vs : List (Hand T)) → 0 < listed i vs → (v : Hand T) × (get_elem? vs (holder i vs) ≡ some v) × (0 < times i v.places)
  holder_lists i [] h = absurd (omega arith)
  holder_lists i (v ∷ vs) h = dite (ℕ_discrete (times i v.places) 0)
      (λ none. let r = holder_lists i vs (omega arith) in (r.0, ap (get_elem? (v ∷ vs)) (holder-there i v vs none) ∙ r.1, r.2))
      (λ one. (v, ap (get_elem? (v ∷ vs)) (holder-here i v vs (omega arith)), omega arith))

  -- a view changes that lists the place as before
  pub holder-set : (i : ℕ) (vs : List (Hand T)) (id : ℕ) (v w : Hand T) → get_elem? vs id ≡ some v → times i w.places ≡ times i v.places → holder i (set vs id w) ≡ holder i vs
  holder-set i [] id v w at same = refl
  holder-set i (u ∷ vs) zero v w at same = let e : times i u.places ≡ times i v.places = ap (λ (z : Hand T). times i z.places) (some-injective u v at) in
      dite (ℕ_discrete (times i w.places) 0)
      (λ none. holder-there i w vs none ∙ sym (holder-there i u vs (omega arith)))
      (λ one. holder-here i w vs (omega arith) ∙ sym (holder-here i u vs (omega arith)))
  holder-set i (u ∷ vs) (suc id) v w at same = dite (ℕ_discrete (times i u.places) 0)
      (λ none. holder-there i u (set vs id w) none ∙ ap suc (holder-set i vs id v w at same) ∙ sym (holder-there i u vs none))
      (λ one. holder-here i u (set vs id w) (omega arith) ∙ sym (holder-here i u vs (omega arith)))

  -- a view lists a place that none listed
  pub holder-new : (i : ℕ) (vs : List (Hand T)) (id : ℕ) (v w : Hand T) → get_elem? vs id ≡ some v → listed i vs ≡ 0 → 0 < times i w.places → holder i (set vs id w) ≡ id
  holder-new i [] id v w at none one = absurd (some-ne-none v (sym at))
  holder-new i (u ∷ vs) zero v w at none one = holder-here i w vs one
  holder-new i (u ∷ vs) (suc id) v w at none one = holder-there i u (set vs id w) (omega arith) ∙ ap suc (holder-new i vs id v w at (omega arith) one)

  -- more views make no difference to a place that is listed
  pub holder-more : (i : ℕ) (vs us : List (Hand T)) → 0 < listed i vs → holder i (vs ++ us) ≡ holder i vs
  holder-more i [] us h = absurd (omega arith)
  holder-more i (v ∷ vs) us h = dite (ℕ_discrete (times i v.places) 0)
      (λ none. holder-there i v (vs ++ us) none ∙ ap suc (holder-more i vs us (omega arith)) ∙ sym (holder-there i v vs none))
      (λ one. holder-here i v (vs ++ us) (omega arith) ∙ sym (holder-here i v vs (omega arith)))

slot_here : {R : Type 0} (p s i : ℕ) (h : List (Event R)) → s ≡ i → slot_at i (Draw p s ∷ h) ≡ Held p
slot_here p s i h e = ap (λ b. cond b (Held p) (slot_at i h)) (eq-eqb s i e)

slot_else : {R : Type 0} (p s i : ℕ) (h : List (Event R)) → s ≢ i → slot_at i (Draw p s ∷ h) ≡ slot_at i h
slot_else p s i h n = ap (λ b. cond b (Held p) (slot_at i h)) (ne_eqb s i n)

module _ {T : Type 0} (R : Type 0) where
  abbrev told : ℕ → List (Hand T) → List (Event R)
  told m vs = draws_of {R = R} m vs

  -- the same holders, the same draws
  pub draws_of-same : (m : ℕ) (vs us : List (Hand T)) → ((i : ℕ) → i < m → holder i us ≡ holder i vs) → told m us ≡ told m vs
  draws_of-same zero vs us same = refl
  draws_of-same (suc m) vs us same = λ k. Draw (same m (omega arith) k) m ∷ draws_of-same m vs us (λ i h. same i (omega arith)) k

  pub draws_of-count : (m : ℕ) (vs : List (Hand T)) → draws (told m vs) ≡ m
  draws_of-count zero vs = refl
  draws_of-count (suc m) vs = omega (arith, draws_of-count m vs)

  pub draws_of-free : (m : ℕ) (vs : List (Hand T)) (i : ℕ) → m ≤ i → slot_at i (told m vs) ≡ Free
  draws_of-free zero vs i h = refl
  draws_of-free (suc m) vs i h = slot_else (holder m vs) m i (told m vs) (λ e. omega arith) ∙ draws_of-free m vs i (omega arith)

  pub draws_of-held : (m : ℕ) (vs : List (Hand T)) (i : ℕ) → i < m → slot_at i (told m vs) ≡ Held (holder i vs)
  draws_of-held zero vs i h = absurd (omega arith)
  draws_of-held (suc m) vs i h = dite (ℕ_discrete m i)
      (λ e. slot_here (holder m vs) m i (told m vs) e ∙ ap (λ (k : ℕ). Held (holder k vs)) e)
      (λ n. slot_else (holder m vs) m i (told m vs) n ∙ draws_of-held m vs i (omega arith))

  pub draws_of-legal : (n m : ℕ) (vs : List (Hand T)) → m ≤ n → ((i : ℕ) → i < m → 0 < listed i vs) → IsLegal 0 n (length vs) (told m vs)
  draws_of-legal n zero vs le all = tt
  draws_of-legal n (suc m) vs le all = let by = holder_lists m vs (all m (omega arith)) in
      ((within_at vs (holder m vs) by.0 by.1, omega arith, sym (draws_of-count m vs)), draws_of-legal n m vs (omega arith) (λ i h. all i (omega arith)))

  -- where each place below the counter is listed once, and no other, counter and views show a legal history
  pub shows : (n c : ℕ) (vs : List (Hand T)) → ((x : ℕ) → listed x vs ≡ once_below x (min c n)) → IsShown R n c vs
  shows n c vs once = record {
    legal = draws_of-legal n (min c n) vs (omega arith) (λ i h. omega (arith, once i, once-in i (min c n) h));
    drawn = draws_of-count (min c n) vs;
    free = λ i le. draws_of-free (min c n) vs i (omega arith);
    held = λ i lt in'. let h : i < min c n = omega arith in let by = holder_lists i vs (omega (arith, once i, once-in i (min c n) h)) in (holder i vs, by.0, draws_of-held (min c n) vs i h, by.1, by.2);
  }
