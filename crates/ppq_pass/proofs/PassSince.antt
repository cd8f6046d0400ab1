-- What a pass drew since: places behind those that it had, steps that no call takes back, and the slots that it holds then.
use Rattle.std.proofs.Common.{◌≡◌, ℕ, ◌+◌, ◌≤◌, List, [], ◌∷◌, ◌++◌, length, sum_by, refl, sym, ap, ap₂, ◌∙◌, subst, arith, append-nil, length-append}
use mathlib.Core.Option.{Option, none, some}
use mathlib.Core.List.{append_assoc}
use lib.ListN.{get_elem?}
use Rattle.std.proofs.lemmas.List.{map-append}
use Rattle.std.proofs.lemmas.List.Sums.{sum_by-append}
use Rattle.ppq_extract.specs.ppq_outside.Shown.{Shown}
use Rattle.ppq_extract.specs.ppq_array.declared.berth.DeviceBlock.{DeviceBlock}
use Rattle.ppq_extract.specs.ppq_array.Owner.{slots_shown}
use Rattle.ppq_extract.specs.ppq_array.Kept.{SameSlots, weight_at, all_writes, overread}
use Rattle.ppq_spill.specs.declared.body.PassBody.{PassBody}
use Rattle.ppq_spill.proofs.SameSlots.{SameSlots-refl}
use Rattle.ppq_row.specs.Known.{Known as RowKnown}
use Rattle.ppq_row.specs.Seats.{Drew, NoneLeft}
use Rattle.ppq_pool.specs.Known.{Known as PoolKnown}
use Rattle.ppq_pool.specs.Hands.{with_give, looks_below, last_moment}
use Rattle.ppq_pool.specs.Seats.{Takes, FoundHeld}
use Rattle.ppq_pass.specs.declared.shared.PoolBuf.{PoolBuf}
use Rattle.ppq_pass.specs.declared.shared.Shared.{Shared}
use Rattle.ppq_pass.specs.declared.parts.PassParts.{PassParts}
use Rattle.ppq_pass.specs.Passing.{items_at, with_item, steps_of, IsSince}
use Rattle.ppq_pass.specs.Passed.{PassHolding, KeptSlots, slots_of, with_one}
use Rattle.ppq_pass.specs.PassState.{drawn_of}
use Rattle.ppq_pass.specs.PassStore.{StoreKept}
use Rattle.ppq_pass.proofs.Passes.{none_left}

module _ {T : Type 0} where
  -- the items at places, and at those behind them
  pub items_at-append : (items : List T) (ps qs : List ℕ) → items_at items (ps ++ qs) ≡ items_at items ps ++ items_at items qs
  items_at-append items [] qs = refl
  items_at-append items (p ∷ ps) qs = ap (λ xs. with_item (get_elem? items p) xs) (items_at-append items ps qs) ∙ put (get_elem? items p) (items_at items ps) (items_at items qs)
    where
      put : (o : Option T) (xs ys : List T) → with_item o (xs ++ ys) ≡ with_item o xs ++ ys
      put none xs ys = refl
      put (some y) xs ys = refl

module _ {S R : Type 0} where
  module _ {places : List ℕ} {steps : ℕ} {row : RowKnown (DeviceBlock S R)} {pool : PoolKnown (PoolBuf R)} (is : IsSince places steps row pool) where
    -- a draw
    pub since_drew : (row' : RowKnown (DeviceBlock S R)) (i : ℕ) (x : DeviceBlock S R) → Drew row.hand i x row'.hand → IsSince places steps row' pool
    since_drew row' i x drew =
        let now : row'.hand.places ≡ row.hand.places ++ i ∷ [] = ap (λ h. h.places) drew.1 in
        let nones : row'.hand.nones ≡ row.hand.nones = ap (λ h. h.nones) drew.1 in
        record {
          more = is.more ++ i ∷ [];
          places = now ∙ ap (λ ps. ps ++ i ∷ []) is.places ∙ append_assoc places is.more (i ∷ []);
          steps = omega (arith, is.steps, ap length now, length-append row.hand.places (i ∷ []), nones);
        }

    -- a draw that found the end
    pub since_dry : (row' : RowKnown (DeviceBlock S R)) → NoneLeft row.hand row'.hand → IsSince places steps row' pool
    since_dry row' found = let left = none_left row.hand row'.hand found in record { more = is.more; places = left.1 ∙ is.places; steps = omega (arith, is.steps, ap length left.1, left.2) }

    -- a take
    pub since_took : (pool' : PoolKnown (PoolBuf R)) (i : ℕ) → Takes pool.hand i pool'.hand → IsSince places steps row pool'
    since_took pool' i took =
        let looks = took.trail.0 in
        let long = ap length took.trail.2 in
        record { more = is.more; places = is.places; steps = omega (arith, is.steps, long, length-append looks pool.hand.trail) }

    -- a take that found each buffer held
    pub since_scant : (pool' : PoolKnown (PoolBuf R)) (n : ℕ) → FoundHeld n pool.hand pool'.hand → IsSince places steps row pool'
    since_scant pool' n found = record { more = is.more; places = is.places; steps = omega (arith, is.steps, ap length found.looked, length-append (looks_below n) pool.hand.trail) }

    -- a buffer that was given back
    pub since_gave : (pool' : PoolKnown (PoolBuf R)) (i : ℕ) (buf : PoolBuf R) → pool'.hand ≡ with_give (last_moment pool'.hand) i buf pool.hand → IsSince places steps row pool'
    since_gave pool' i buf gave = record { more = is.more; places = is.places; steps = omega (arith, is.steps, ap (λ h. length h.trail) gave) }

  -- a pass of which nothing changed but its records
  kept_same : (old new : PassHolding S R) → new.drawn ≡ old.drawn → new.slots ≡ old.slots → new.steps ≡ old.steps → KeptSlots old new
  kept_same old new drawn slots steps =
      record {
        more = [];
        drawn = drawn ∙ sym (append-nil old.drawn);
        slots = subst (λ (l : List Shown). SameSlots (old.slots ++ []) l) (append-nil old.slots ∙ sym slots) (SameSlots-refl (old.slots ++ []));
        steps = omega (arith, steps);
      }

  pub kept_one : (old new : PassHolding S R) (bag : List R) → new ≡ with_one old bag → KeptSlots old new
  kept_one old new bag one = kept_same old new (ap (λ v. v.drawn) one) (ap (λ v. v.slots) one) (ap (λ v. v.steps) one)

  pub kept_refl : (pass : PassHolding S R) → KeptSlots pass pass
  kept_refl pass = kept_same pass pass refl refl refl

-- after a store
module _ {S R : Type 0} {shown : S → Shown} {width records : ℕ} {shared : Shared S R} {a b : PassBody S R} {p q : PassParts S R}
    (kept : StoreKept shown width records shared a b p q)
  where
    abbrev drew : List Shown
    drew = slots_shown shown (items_at p.row_seat.hand.items kept.since.more)

    all_drawn : drawn_of shown q ≡ drawn_of shown p ++ drew
    all_drawn =
        ap₂ (λ (xs : List (DeviceBlock S R)) (ps : List ℕ). slots_shown shown (items_at xs ps)) kept.items kept.since.places
        ∙ ap (slots_shown shown) (items_at-append p.row_seat.hand.items p.row_seat.hand.places kept.since.more)
        ∙ map-append (λ (b : DeviceBlock S R). shown b.slot) (items_at p.row_seat.hand.items p.row_seat.hand.places) (items_at p.row_seat.hand.items kept.since.more)

    -- they were written no less often
    pub drawn_more : all_writes (drawn_of shown p) ≤ all_writes (drawn_of shown q)
    drawn_more = omega (arith, ap all_writes all_drawn, sum_by-append (λ (s : Shown). s.writes) (drawn_of shown p) drew)

    held : SameSlots (slots_of shown a p ++ drew) (slots_of shown b q)
    held =
        let was = slots_of shown a p in
        let now = slots_of shown b q in
        let split : (f : Shown → ℕ) → sum_by f (was ++ drawn_of shown q) + sum_by f now ≡ sum_by f (was ++ drew) + sum_by f (now ++ drawn_of shown p) =
        λ f.
        omega (
          arith,
          ap (sum_by f) all_drawn,
          sum_by-append f (drawn_of shown p) drew,
          sum_by-append f was (drawn_of shown q),
          sum_by-append f was drew,
          sum_by-append f now (drawn_of shown p),
        ) in
        record {
          length = omega (
            arith,
            kept.kept.slots.length,
            ap length all_drawn,
            length-append (drawn_of shown p) drew,
            length-append was (drawn_of shown q),
            length-append was drew,
            length-append now (drawn_of shown p),
          );
          each_once = λ n. omega (arith, kept.kept.slots.each_once n, split (weight_at (λ s. 1) n));
          faults = λ n. omega (arith, kept.kept.slots.faults n, split (weight_at (λ s. s.faults) n));
          writes = λ n. omega (arith, kept.kept.slots.writes n, split (weight_at (λ s. s.writes) n));
          reads = λ n. omega (arith, kept.kept.slots.reads n, split (weight_at (λ s. s.reads) n));
          sizes = λ n. omega (arith, kept.kept.slots.sizes n, split (weight_at (λ s. s.size) n));
          overreads = omega (arith, kept.kept.slots.overreads, split overread);
        }

    pub kept_stored :
        (old new : PassHolding S R) → old.drawn ≡ drawn_of shown p → old.slots ≡ slots_of shown a p → old.steps ≡ steps_of p.row_seat p.pool_seat
        → new.drawn ≡ drawn_of shown q → new.slots ≡ slots_of shown b q → new.steps ≡ steps_of q.row_seat q.pool_seat → KeptSlots old new
    kept_stored old new drawn slots steps drawn' slots' steps' =
        record {
          more = drew;
          drawn = drawn' ∙ all_drawn ∙ ap (λ l. l ++ drew) (sym drawn);
          slots = subst (λ (l : List Shown). SameSlots l new.slots) (ap (λ l. l ++ drew) (sym slots)) (subst (λ (l : List Shown). SameSlots (slots_of shown a p ++ drew) l) (sym slots') held);
          steps = omega (arith, kept.since.steps, steps, steps');
        }
