-- Each kind of step keeps the rule, and tells what it says it tells.
use Rattle.std.proofs.Common.{◌≡◌, ◌≢◌, ◌⊎◌, ℕ, zero, suc, ◌+◌, ◌-◌, ◌<◌, ◌≤◌, List, [], ◌∷◌, ◌++◌, All, Contains, length, slice_index, set, sym, refl, ap, ◌∙◌, cond, eqb, ne_eqb, subst, inl, inr, ⊎_elim, arith, length-set, get_or-set_other, get_or-set_same, Vec, Some, None, true, false, true≢false, Bool}
use Rattle.std.specs.Global.{Global}
use Rattle.std.proofs.lemmas.List.Elements.{All-append, All-push, All-nil, Contains-append_left, Contains-append_right, Contains-push}
use mathlib.Core.Option.{Option, none, some, some-injective, some-ne-none}
use mathlib.Core.Logic.{dite}
use native.Mathlib.Decide.{ℕ_discrete}
use lib.ListN.{get_elem?}
use Rattle.atomic_table.specs.Table.{State, Me, step, Act, keeps, takes, gives, Valid, carried_after, stepped, Allows, Splits, Joins, rest}
use Rattle.atomic_table.proofs.Lists.{at_set, at_longer, at_snoc, set_else, set_here, set_again}
use Rattle.ppq_table.specs.declared.place.Place.{Place}
use Rattle.ppq_table.specs.declared.place.Place.TheVariants.{Empty, Item, Room}
use Rattle.ppq_table.specs.Places.{IsRoom}
use Rattle.ppq_table.specs.Sums.{total, times, all_shares}
use Rattle.ppq_table.proofs.Sums.{within_at, total-set, total-snoc, one_of_total, two_of_total}
use Rattle.ppq_table.proofs.Numbers.{times-append, times-same, times-other}
use Rattle.ppq_table.proofs.Places.{item-injective}
use Rattle.ppq_pool.specs.declared.hand.Hand.{Hand}
use Rattle.ppq_pool.specs.Hands.{less_one, newcomer, together, void_hand, one_if_void, with_claim, with_look, with_place, with_give}
use Rattle.ppq_pool.specs.declared.hand.Move.TheVariants.{Took, Gave, Saw}
use Rattle.ppq_pool.specs.Histories.{events_of}
use Rattle.ppq_pool.specs.Rule.{holders, HasLog, WasPut, Fits, IsFree, IsHeld, PoolRule, claimed_at, claimed, settled, reached_at, reached, cleared_at, cleared}
use Rattle.ppq_pool.proofs.Lists.{Some-injective, None-ne-Some, times-without, All-without, Contains-none, Contains-elsewhere}
use Rattle.ppq_pool.proofs.Logged.{log_still, log_look, log_take, log_give, log_split, log_join}
use Rattle.ppq_pool.proofs.Shown.{none_void_before, none_void_before_split, some_void, shown_still, shown_take, shown_give, shown_split}

pub back : (i : ℕ) → i + 1 - 1 ≡ i
back i = omega arith

at_word : (ws : List ℕ) (i m : ℕ) → i < length ws → slice_index ws i ≡ m → get_elem? ws i ≡ some m
at_word [] i m h e = absurd (omega arith)
at_word (x ∷ ws) zero m h e = ap some e
at_word (x ∷ ws) (suc i) m h e = at_word ws i m (omega arith) e

-- what was taken last, over the others
pub topped : {A : Type 0} (c d : List (ℕ × A)) (i : ℕ) (x : A) → c ≡ (i, x) ∷ d → c ≡ (i, x) ∷ rest c
topped c d i x e = e ∙ (λ k. (i, x) ∷ sym (ap rest e) k)

module _ {T : Type 0} where
  abbrev is_item : Place T → Bool
  is_item Empty = false
  is_item (Item x) = true
  is_item (Room r) = false

  pub Empty-ne-Item : (x : T) → Empty ≡ Item x → ⊥
  Empty-ne-Item x e = true≢false (sym (ap is_item e))

  pub Room-ne-Item : (r : Vec T Global) (x : T) → Room r ≡ Item x → ⊥
  Room-ne-Item r x e = true≢false (sym (ap is_item e))

  abbrev top : List (ℕ × Place T) → Option (Place T)
  top [] = none
  top (p ∷ ps) = some p.1

  carried_item : (c d : List (ℕ × Place T)) (i : ℕ) (x y : T) → (i, Item x) ∷ c ≡ (i, Item y) ∷ d → x ≡ y
  carried_item c d i x y e = item-injective x y (some-injective (Item x) (Item y) (ap top e))

  -- who put an item in knows of it after a step of one view
  put_kept : (vs : List (Hand T)) (id i : ℕ) (x : T) (v w : Hand T) → get_elem? vs id ≡ some v → (Contains v.put (i, x) → Contains w.put (i, x)) → WasPut i x vs → WasPut i x (set vs id w)
  put_kept vs id i x v w at more was = dite (ℕ_discrete was.0 id)
      (λ same. (id, w, set_here vs id w (within_at vs id v at), more (subst (λ (z : Hand T). Contains z.put (i, x)) (some-injective was.1 v (sym was.2 ∙ ap (get_elem? vs) same ∙ at)) was.3)))
      (λ ne. (was.0, was.1, set_else vs id was.0 w ne ∙ was.2, was.3))

  -- a view with a share is not void
  not_void : (v : Hand T) → 0 < v.shares → one_if_void v ≡ 0
  not_void v some_share = ap (λ b. cond b 1 0) (ne_eqb v.shares 0 (λ e. omega arith))

  same_void : (v w : Hand T) → w.shares ≡ v.shares → one_if_void w ≡ one_if_void v
  same_void v w e = ap (λ (k : ℕ). cond (eqb k 0) 1 0) e

  module _ (shape_of : T → ℕ) (shape : ℕ) where
    abbrev St : Type 0
    St = State (Place T) (Hand T)

    abbrev Rule : St → Type 0
    Rule = PoolRule shape_of shape

    abbrev Homes : Type 0
    Homes = List (Option (Place T))

    abbrev M : Type 0
    M = Me (Place T) (Hand T)

    -- the views change, and neither the shares nor who holds what
    viewed : (s : St) (r : Rule s) (vs : List (Hand T)) → total (λ v. v.shares) vs ≡ total (λ v. v.shares) s.views → total (λ v. v.joins) vs ≡ total one_if_void vs → ((i : ℕ) → holders i vs ≡ holders i s.views)
        → ((j : ℕ) (v : Hand T) → get_elem? vs j ≡ some v → Fits shape s.homes v) → ((i : ℕ) (x : T) → WasPut i x s.views → WasPut i x vs)
        → HasLog (length s.homes - 1) s.words vs
        → Rule record { words = s.words; homes = s.homes; views = vs }
    viewed s r vs shares joined held fits puts logged = record {
      wide = r.wide;
      some_slot = r.some_slot;
      short = r.short;
      room_home = r.room_home;
      shares_add = shares ∙ r.shares_add;
      joins_add = joined;
      each_item = λ i h. subst (λ (n : ℕ). IsFree shape_of shape (slice_index s.words (i + 1)) n (get_elem? s.homes i) ⊎ IsHeld shape_of shape (slice_index s.words (i + 1)) n) (sym (held i)) (r.each_item i h);
      each_view = fits;
      each_put = λ i x home. puts i x (r.each_put i x home);
      logged = logged;
    }

    -- one view alone lists the item i, or none does. Its word, its place and this view change
    moves : (s : St) (r : Rule s) (id : ℕ) (v w : Hand T) (i m : ℕ) (h : Option (Place T)) → get_elem? s.views id ≡ some v → i + 1 < length s.homes
        → 0 < v.shares → w.shares ≡ v.shares → w.shape ≡ v.shape → w.joins ≡ v.joins → holders i s.views ≡ times i v.numbers
        → ((k : ℕ) → k ≢ i → times k w.numbers ≡ times k v.numbers) → All (λ k. k + 1 < length s.homes) w.numbers
        → ((k : ℕ) → k ≢ i → 0 < times k w.numbers → get_elem? s.homes k ≡ some (some Empty)) → (0 < times i w.numbers → ¬ (w.in_hand ≡ Some i) → h ≡ some Empty) → ((k : ℕ) → w.in_hand ≡ Some k → (k ≡ i) × (0 < times i w.numbers) × (h ≡ none))
        → ((k : ℕ) (x : T) → k ≢ i → Contains v.put (k, x) → Contains w.put (k, x)) → ((x : T) → h ≡ some (Item x) → Contains w.put (i, x))
        → HasLog (length s.homes - 1) (set s.words (i + 1) m) (set s.views id w)
        → IsFree shape_of shape m (times i w.numbers) (some h) ⊎ IsHeld shape_of shape m (times i w.numbers)
        → Rule record { words = set s.words (i + 1) m; homes = set s.homes i h; views = set s.views id w }
    moves s r id v w i m h at near some_share same_shares same_shape same_joins alone others ranged homes_else home_here out puts put_here logged now = let vs : List (Hand T) = set s.views id w in let hs : Homes = set s.homes i h in
        let n : ℕ = length s.homes in let same_length : length hs ≡ n = length-set s.homes i h in
        let ws : List ℕ = set s.words (i + 1) m in
        let Ok : ℕ → Type 0 = λ k. IsFree shape_of shape (slice_index ws (k + 1)) (holders k vs) (get_elem? hs k) ⊎ IsHeld shape_of shape (slice_index ws (k + 1)) (holders k vs) in
        let ok_by : (k a b : ℕ) (c : Option (Option (Place T))) → slice_index ws (k + 1) ≡ a → holders k vs ≡ b → get_elem? hs k ≡ c → IsFree shape_of shape a b c ⊎ IsHeld shape_of shape a b → Ok k =
        λ k a b c e f g ok. subst (λ (z : ℕ). IsFree shape_of shape z (holders k vs) (get_elem? hs k) ⊎ IsHeld shape_of shape z (holders k vs)) (sym e)
        (subst (λ (z : ℕ). IsFree shape_of shape a z (get_elem? hs k) ⊎ IsHeld shape_of shape a z) (sym f) (subst (λ (z : Option (Option (Place T))). IsFree shape_of shape a b z ⊎ IsHeld shape_of shape a b) (sym g) ok)) in
        let old = r.each_view id v at in
        let mine : Fits shape hs w = record {
          same_shape = λ _. same_shape ∙ old.same_shape some_share;
          void_nothing = λ z. absurd (omega arith);
          in_range = subst (λ (z : ℕ). All (λ k. k + 1 < z) w.numbers) (sym same_length) ranged;
          places_home = λ k lists away. dite (ℕ_discrete k i)
              (λ e. subst (λ (z : ℕ). get_elem? hs z ≡ some (some Empty)) (sym e) (set_here s.homes i h (omega arith) ∙ ap (λ (z : Option (Place T)). some z)
              (home_here (subst (λ (z : ℕ). 0 < times z w.numbers) e lists) (λ own. away (own ∙ ap (λ (z : ℕ). Some z) (sym e))))))
              (λ ne. set_else s.homes i k h ne ∙ homes_else k ne lists);
          place_out = λ k own. let o = out k own in
              (subst (λ (z : ℕ). 0 < times z w.numbers) (sym o.0) o.1, subst (λ (z : ℕ). get_elem? hs z ≡ some none) (sym o.0) (set_here s.homes i h (omega arith) ∙ ap (λ (z : Option (Place T)). some z) o.2));
        } in
        let count : (k : ℕ) → holders k vs + times k v.numbers ≡ holders k s.views + times k w.numbers = λ k. total-set (λ u. times k u.numbers) s.views id v w at in
        record {
          wide = length-set s.words (i + 1) m ∙ r.wide ∙ sym same_length;
          some_slot = subst (λ (k : ℕ). 0 < k) (sym same_length) r.some_slot;
          short = subst (λ (k : ℕ). k ≤ 4294967296) (sym same_length) r.short;
          room_home = subst (λ (k : ℕ). (x : Vec T Global) × (get_elem? hs (k - 1) ≡ some (some (Room x))) × IsRoom (k - 1) x) (sym same_length)
              (r.room_home.0, set_else s.homes i (n - 1) h (λ e. omega arith) ∙ r.room_home.1, r.room_home.2);
          shares_add = omega (arith, total-set (λ u. u.shares) s.views id v w at, r.shares_add);
          joins_add = omega (arith, total-set (λ u. u.joins) s.views id v w at, total-set one_if_void s.views id v w at, r.joins_add, same_void v w same_shares, same_joins);
          each_item = λ k h'. let inside : k + 1 < n = subst (λ (z : ℕ). k + 1 < z) same_length h' in dite (ℕ_discrete k i)
              (λ e. subst Ok (sym e) (ok_by i m (times i w.numbers) (some h) (get_or-set_same s.words (i + 1) m 0 (subst (λ (z : ℕ). i + 1 < z) (sym r.wide) near))
              (omega (arith, count i, alone)) (set_here s.homes i h (omega arith)) now))
              (λ ne. ok_by k (slice_index s.words (k + 1)) (holders k s.views) (get_elem? s.homes k) (get_or-set_other s.words (i + 1) (k + 1) m 0 (λ e. ne (omega arith)))
              (omega (arith, count k, others k ne)) (set_else s.homes i k h ne) (r.each_item k inside));
          each_view = λ j u e. ⊎_elim
              (λ (x : (j ≡ id) × (w ≡ u)). subst (Fits shape hs) x.1 mine)
              (λ (x : (j ≢ id) × (get_elem? s.views j ≡ some u)). let f = r.each_view j u x.1 in let none_here : times i u.numbers ≡ 0 = omega (arith, two_of_total (λ z. times i z.numbers) s.views id j v u at x.1 x.0, alone) in record {
                same_shape = f.same_shape;
                void_nothing = f.void_nothing;
                in_range = subst (λ (z : ℕ). All (λ k. k + 1 < z) u.numbers) (sym same_length) f.in_range;
                places_home = λ k lists away. set_else s.homes i k h (λ same. absurd (omega (arith, none_here, ap (λ (z : ℕ). times z u.numbers) same))) ∙ f.places_home k lists away;
                place_out = λ k own. let o = f.place_out k own in let lists = o.0 in (lists, set_else s.homes i k h (λ same. absurd (omega (arith, lists, none_here, ap (λ (z : ℕ). times z u.numbers) same))) ∙ o.1);
              })
              (at_set s.views id j w u e);
          each_put = λ k x home. dite (ℕ_discrete k i)
              (λ e. subst (λ (z : ℕ). WasPut z x vs) (sym e) (
                id,
                w,
                set_here s.views id w (within_at s.views id v at),
                put_here x (some-injective h (some (Item x)) (sym (set_here s.homes i h (omega arith)) ∙ ap (get_elem? hs) (sym e) ∙ home)),
              ))
              (λ ne. put_kept s.views id k x v w at (puts k x ne) (r.each_put k x (sym (set_else s.homes i k h ne) ∙ home)));
          logged = subst (λ (k : ℕ). HasLog (k - 1) ws vs) (sym same_length) logged;
        }

    -- a held item is with the view that lists it, alone, and its word is 1
    pub listed : (s : St) (r : Rule s) (id : ℕ) (v : Hand T) (i : ℕ) → get_elem? s.views id ≡ some v → i + 1 < length s.homes → 0 < times i v.numbers
        → (holders i s.views ≡ times i v.numbers) × (times i v.numbers ≡ 1) × (slice_index s.words (i + 1) ≡ 1)
    listed s r id v i at near lists = ⊎_elim
        (λ (f : IsFree shape_of shape (slice_index s.words (i + 1)) (holders i s.views) (get_elem? s.homes i)). let nobody = f.1 in absurd (omega (arith, nobody, one_of_total (λ u. times i u.numbers) s.views id v at)))
        (λ (h : IsHeld shape_of shape (slice_index s.words (i + 1)) (holders i s.views)). let one = h.1 in
        (omega (arith, one, one_of_total (λ u. times i u.numbers) s.views id v at), omega (arith, one, one_of_total (λ u. times i u.numbers) s.views id v at), h.0))
        (r.each_item i near)

    -- a word that is 1 stays as it was
    pub same_words : (s : St) (r : Rule s) (i : ℕ) → i + 1 < length s.homes → slice_index s.words (i + 1) ≡ 1 → set s.words (i + 1) 1 ≡ s.words
    same_words s r i near word = set_again s.words (i + 1) 1 (at_word s.words (i + 1) 1 (subst (λ (z : ℕ). i + 1 < z) (sym r.wide) near) word)

    -- a step that changes neither words nor numbers is no event
    still : (s : St) (r : Rule s) (id : ℕ) (v w : Hand T) → get_elem? s.views id ≡ some v → 0 < v.shares → w.numbers ≡ v.numbers → w.moves ≡ v.moves → w.trail ≡ v.trail → w.moments ≡ v.moments
        → HasLog (length s.homes - 1) s.words (set s.views id w)
    still s r id v w at some_share numbers same_moves same_trail same_moments = let was = r.logged in let n : ℕ = length s.homes - 1 in (
      was.0,
      log_still n s.words s.views id v w at some_share same_trail same_moments was.0 was.1,
      λ alive. shown_still n s.words s.views id v w at numbers same_moves (events_of {R = T} was.0) (was.2 (none_void_before s.views id v w at some_share alive)),
    )

    -- a look that found the item i held goes into the log, and is no event
    looks : (s : St) (r : Rule s) (id : ℕ) (v w : Hand T) (i : ℕ) → get_elem? s.views id ≡ some v → 0 < v.shares → i + 1 < length s.homes → slice_index s.words (i + 1) ≡ 1 → w.numbers ≡ v.numbers → w.moves ≡ v.moves → w.trail ≡ Saw i ∷ v.trail → w.moments ≡ length r.logged.0 ∷ v.moments
        → HasLog (length s.homes - 1) s.words (set s.views id w)
    looks s r id v w i at some_share near word numbers same_moves trail moment = let was = r.logged in let n : ℕ = length s.homes - 1 in (
      (id, Saw i) ∷ was.0,
      log_look n s.words s.views id i v w at some_share (omega arith) word trail was.0 moment was.1,
      λ alive. shown_still n s.words s.views id v w at numbers same_moves (events_of {R = T} was.0) (was.2 (none_void_before s.views id v w at some_share alive)),
    )

    -- the same where a word is exchanged for the 1 that it was
    still_held : (s : St) (r : Rule s) (id : ℕ) (v w : Hand T) (i : ℕ) → i + 1 < length s.homes → slice_index s.words (i + 1) ≡ 1 → get_elem? s.views id ≡ some v → 0 < v.shares → w.numbers ≡ v.numbers → w.moves ≡ v.moves → w.trail ≡ v.trail → w.moments ≡ v.moments
        → HasLog (length s.homes - 1) (set s.words (i + 1) 1) (set s.views id w)
    still_held s r id v w i near word at some_share numbers same_moves same_trail same_moments =
        subst (λ (ws : List ℕ). HasLog (length s.homes - 1) ws (set s.views id w)) (sym (same_words s r i near word)) (still s r id v w at some_share numbers same_moves same_trail same_moments)

    abbrev Goes : St → ℕ → ℕ → Hand T → List (ℕ × Place T) → ℕ → (M → Type 0) → Type 0
    Goes s id i v c m then = (w : Hand T) × (a : Act (Place T)) × Valid s.homes c a × Rule (stepped s (i + 1) m id c w a) × then (w, carried_after c a)

    -- the only seat put in itself what is at home
    pub own_item : (s : St) (r : Rule s) (id i : ℕ) (v : Hand T) (x : T) → get_elem? s.views id ≡ some v → get_elem? s.homes i ≡ some (some (Item x)) → v.shares ≡ all_shares → Contains v.put (i, x)
    own_item s r id i v x at home only = let was = r.each_put i x home in dite (ℕ_discrete was.0 id)
        (λ same. subst (λ (z : Hand T). Contains z.put (i, x)) (some-injective was.1 v (sym was.2 ∙ ap (get_elem? s.views) same ∙ at)) was.3)
        (λ ne. absurd (Contains-none (i, x) (subst (λ l. Contains l (i, x))
        ((r.each_view was.0 was.1 was.2).void_nothing (omega (arith, only, two_of_total (λ (z : Hand T). z.shares) s.views id was.0 v was.1 at was.2 ne, r.shares_add))).1 was.3)))

    takes_item : (s : St) (r : Rule s) (id i : ℕ) (me : M) → 0 < me.0.shares → me.0.in_hand ≡ None → get_elem? s.views id ≡ some me.0 → i + 1 < length s.homes
        → IsFree shape_of shape (slice_index s.words (i + 1)) (holders i s.views) (get_elem? s.homes i) → Goes s id i me.0 me.1 1 (claimed_at shape_of i me (slice_index s.words (i + 1)))
    takes_item s r id i me some_share no_place at near free = let v : Hand T = me.0 in let w : Hand T = with_claim (length r.logged.0) i v in let old = r.each_view id v at in let word = free.0 in let holding = free.1 in let it = free.2 in
        let nobody : times i v.numbers ≡ 0 = omega (arith, holding, one_of_total (λ u. times i u.numbers) s.views id v at) in
        let others : (k : ℕ) → k ≢ i → times k w.numbers ≡ times k v.numbers = λ k ne. omega (arith, times-append k v.numbers (i ∷ []), times-other i k (λ e. ne (sym e))) in (
          w,
          takes i (Item it.0),
          it.1,
          moves s r id v w i 1 none at near some_share refl refl refl (omega (arith, holding, nobody)) others (All-push (λ k. k + 1 < length s.homes) v.numbers i old.in_range near)
              (λ k ne lists. old.places_home k (omega (arith, others k ne, lists)) (λ e. None-ne-Some k (sym no_place ∙ e))) (λ lists away. absurd (away refl))
              (λ k e. (sym (Some-injective i k e), omega (arith, times-append i v.numbers (i ∷ []), times-same i i refl), refl))
              (λ k x ne has. Contains-elsewhere i k x v.put ne has) (λ x e. absurd (some-ne-none (Item x) (sym e)))
              (let was = r.logged in let m : ℕ = length s.homes - 1 in let wide : i + 1 < length s.words = subst (λ (z : ℕ). i + 1 < z) (sym r.wide) near in (
                (id, Took i) ∷ was.0,
                log_take m s.words s.views id i v w at some_share (omega arith) wide word refl was.0 refl was.1,
                λ alive. shown_take m s.words s.views id i v w at (omega arith) wide word holding refl refl (events_of {R = T} was.0) (was.2 (none_void_before s.views id v w at some_share alive)),
              ))
              (inr (refl, omega (arith, times-append i v.numbers (i ∷ []), times-same i i refl, nobody))),
          ((λ _. (it.0, it.2 ∙ sym (old.same_shape some_share), nobody, refl, refl, own_item s r id i v it.0 at it.1)), λ ne. absurd (ne word)),
        )

    looks_held : (s : St) (r : Rule s) (id i : ℕ) (me : M) → 0 < me.0.shares → get_elem? s.views id ≡ some me.0 → i + 1 < length s.homes
        → IsHeld shape_of shape (slice_index s.words (i + 1)) (holders i s.views) → Goes s id i me.0 me.1 1 (claimed_at shape_of i me (slice_index s.words (i + 1)))
    looks_held s r id i me some_share at near held = let v : Hand T = me.0 in let w : Hand T = with_look (length r.logged.0) i v in let old = r.each_view id v at in let word = held.0 in (
      w,
      keeps,
      tt,
      subst (λ (ws : List ℕ). Rule record { words = ws; homes = s.homes; views = set s.views id w }) (sym (same_words s r i near word))
          (viewed s r (set s.views id w) (omega (arith, total-set (λ u. u.shares) s.views id v w at))
          (omega (arith, total-set (λ u. u.joins) s.views id v w at, total-set one_if_void s.views id v w at, r.joins_add, same_void v w refl)) (λ k. omega (arith, total-set (λ u. times k u.numbers) s.views id v w at))
          (λ j u e. ⊎_elim (λ (x : (j ≡ id) × (w ≡ u)). subst (Fits shape s.homes) x.1 (record { same_shape = old.same_shape; void_nothing = old.void_nothing; in_range = old.in_range; places_home = old.places_home; place_out = old.place_out }))
          (λ (x : (j ≢ id) × (get_elem? s.views j ≡ some u)). r.each_view j u x.1) (at_set s.views id j w u e))
          (λ k x was. put_kept s.views id k x v w at (λ has. has) was)
          (looks s r id v w i at some_share near word refl refl refl refl)),
      ((λ zero_word. absurd (omega (arith, zero_word, word))), λ _. (word, refl, refl)),
    )

    pub claims : (n id : ℕ) (me : M) (i : ℕ) → 0 < me.0.shares → me.0.in_hand ≡ None → i + 1 < n → Allows Rule n id me (i + 1) (λ _. 1) (claimed shape_of (step n (i + 1) 1 0 none) me)
    claims n id me i some_share no_place inside s r wide at small = let near : i + 1 < length s.homes = subst (λ (z : ℕ). i + 1 < z) (sym wide) inside in
        subst (λ (j : ℕ). Goes s id i me.0 me.1 1 (claimed_at shape_of j me (slice_index s.words (i + 1)))) (sym (back i))
        (⊎_elim (takes_item s r id i me some_share no_place at near) (looks_held s r id i me some_share at near) (r.each_item i near))

    pub settles : (n id : ℕ) (me : M) (i : ℕ) → 0 < me.0.shares → 0 < times i me.0.numbers → me.0.in_hand ≡ Some i → me.1 ≡ (i, Empty) ∷ rest me.1 → i + 1 < n
        → Allows Rule n id me (i + 1) (λ _. 1) (settled (step n (i + 1) 1 0 none) me)
    settles n id me i some_share lists place carried inside s r wide at small = let near : i + 1 < length s.homes = subst (λ (z : ℕ). i + 1 < z) (sym wide) inside in let v : Hand T = me.0 in let w : Hand T = with_place None v in
        let old = r.each_view id v at in let one = listed s r id v i at near lists in
        subst (λ (c : List (ℕ × Place T)). Goes s id i v c 1 (settled (step n (i + 1) 1 0 none) (v, c) (slice_index s.words (i + 1)))) (sym carried) (
          w,
          gives,
          tt,
          moves s r id v w i 1 (some Empty) at near some_share refl refl refl one.0 (λ k ne. refl) old.in_range (λ k ne l. old.places_home k l (λ e. ne (Some-injective k i (sym e ∙ place)))) (λ _ _. refl) (λ k e. absurd (None-ne-Some k e))
              (λ k x ne has. has) (λ x e. absurd (Empty-ne-Item x (some-injective Empty (Item x) e))) (still_held s r id v w i near one.2 at some_share refl refl refl refl) (inr (refl, one.1)),
          (refl, refl),
        )

    pub reaches : (n id : ℕ) (me : M) (i : ℕ) → 0 < me.0.shares → 0 < times i me.0.numbers → me.0.in_hand ≡ None → i + 1 < n → Allows Rule n id me (i + 1) (λ _. 1) (reached (step n (i + 1) 1 0 none) me)
    reaches n id me i some_share lists no_place inside s r wide at small = let near : i + 1 < length s.homes = subst (λ (z : ℕ). i + 1 < z) (sym wide) inside in let v : Hand T = me.0 in let w : Hand T = with_place (Some i) v in
        let old = r.each_view id v at in let one = listed s r id v i at near lists in let free : (k : ℕ) → ¬ (v.in_hand ≡ Some k) = λ k e. None-ne-Some k (sym no_place ∙ e) in
        subst (λ (j : ℕ). Goes s id i v me.1 1 (reached_at j me)) (sym (back i)) (
          w,
          takes i Empty,
          old.places_home i lists (free i),
          moves s r id v w i 1 none at near some_share refl refl refl one.0 (λ k ne. refl) old.in_range (λ k ne l. old.places_home k l (free k)) (λ l away. absurd (away refl)) (λ k e. (sym (Some-injective i k e), lists, refl))
              (λ k x ne has. has) (λ x e. absurd (some-ne-none (Item x) (sym e))) (still_held s r id v w i near one.2 at some_share refl refl refl refl) (inr (refl, one.1)),
          (refl, refl),
        )

    pub clears : (n id : ℕ) (me : M) (i : ℕ) (x : T) → 0 < me.0.shares → 0 < times i me.0.numbers → me.0.in_hand ≡ Some i → me.1 ≡ (i, Item x) ∷ rest me.1 → shape_of x ≡ me.0.shape → i + 1 < n
        → Allows Rule n id me (i + 1) (λ _. 0) (cleared (step n (i + 1) 0 0 none) me)
    clears n id me i x some_share lists place carried same_shape inside s r wide at small = let near : i + 1 < length s.homes = subst (λ (z : ℕ). i + 1 < z) (sym wide) inside in let v : Hand T = me.0 in let w : Hand T = with_give (length r.logged.0) i x v in
        let old = r.each_view id v at in let one = listed s r id v i at near lists in
        let others : (k : ℕ) → k ≢ i → times k w.numbers ≡ times k v.numbers = λ k ne. omega (arith, times-without i k v.numbers lists, times-other i k (λ e. ne (sym e))) in
        let gone : times i w.numbers ≡ 0 = omega (arith, times-without i i v.numbers lists, times-same i i refl, one.1) in
        subst (λ (j : ℕ). Goes s id i v me.1 0 (cleared_at j me)) (sym (back i))
        (subst (λ (c : List (ℕ × Place T)). Goes s id i v c 0 (cleared_at i (v, c))) (sym carried) (
          w,
          gives,
          tt,
          moves s r id v w i 0 (some (Item x)) at near some_share refl refl refl one.0 others (All-without (λ k. k + 1 < length s.homes) i v.numbers old.in_range)
              (λ k ne l. old.places_home k (omega (arith, others k ne, l)) (λ e. ne (Some-injective k i (sym e ∙ place)))) (λ l away. absurd (omega (arith, l, gone))) (λ k e. absurd (None-ne-Some k e))
              (λ k y ne has. Contains-append_left v.put ((i, x) ∷ []) (k, y) has)
              (λ y e. subst (λ (z : T). Contains w.put (i, z)) (item-injective x y (some-injective (Item x) (Item y) e)) (Contains-push v.put (i, x)))
              (let was = r.logged in let m : ℕ = length s.homes - 1 in (
                (id, Gave i) ∷ was.0,
                log_give m s.words s.views id i v w at some_share (omega arith) (subst (λ (z : ℕ). i + 1 < z) (sym r.wide) near) one.2 refl was.0 refl was.1,
                λ alive. shown_give m s.words s.views id i v w at (omega arith) lists one.0 gone others refl (events_of {R = T} was.0) (was.2 (none_void_before s.views id v w at some_share alive)),
              ))
              (inl (refl, gone, (x, refl, same_shape ∙ old.same_shape some_share))),
          ((λ y top. ap (λ (z : T). with_give (length r.logged.0) i z v) (carried_item (rest me.1) (rest me.1) i x y top)), refl),
        ))

    pub splits : (id : ℕ) (v : Hand T) → 1 < v.shares → Splits Rule id v (less_one v) (newcomer v)
    splits id v two s r at = let l : Hand T = less_one v in let n : Hand T = newcomer v in let vs : List (Hand T) = set s.views id l in let f = r.each_view id v at in
        viewed s r (vs ++ n ∷ []) (omega (arith, total-snoc (λ u. u.shares) vs n, total-set (λ u. u.shares) s.views id v l at))
        (omega (arith, total-snoc (λ u. u.joins) vs n, total-set (λ u. u.joins) s.views id v l at, total-snoc one_if_void vs n, total-set one_if_void s.views id v l at, r.joins_add, not_void v (omega arith), not_void l (omega arith), not_void n (omega arith)))
        (λ k. omega (arith, total-snoc (λ u. times k u.numbers) vs n, total-set (λ u. times k u.numbers) s.views id v l at))
        (λ j u e. ⊎_elim (λ (old : get_elem? vs j ≡ some u). ⊎_elim
        (λ (h : (j ≡ id) × (l ≡ u)). subst (Fits shape s.homes) h.1 (record { same_shape = λ _. f.same_shape (omega arith); void_nothing = λ z. absurd (omega arith); in_range = f.in_range; places_home = f.places_home; place_out = f.place_out }))
        (λ (h : (j ≢ id) × (get_elem? s.views j ≡ some u)). r.each_view j u h.1) (at_set s.views id j l u old))
        (λ (new : n ≡ u). subst (Fits shape s.homes) new (record { same_shape = λ _. f.same_shape (omega arith); void_nothing = λ z. absurd (omega arith); in_range = All-nil (λ i. i + 1 < length s.homes); places_home = λ i lists away. absurd (omega arith); place_out = λ i e. absurd (None-ne-Some i e) }))
        (at_snoc vs n u j e))
        (λ i x was. let kept = put_kept s.views id i x v l at (λ has. has) was in (kept.0, kept.1, at_longer vs (n ∷ []) kept.0 kept.1 kept.2, kept.3))
        (let was = r.logged in let m : ℕ = length s.homes - 1 in (
          was.0,
          log_split m s.words s.views id v at (omega arith) was.0 was.1,
          λ alive. shown_split m s.words s.views id v at (events_of {R = T} was.0) (was.2 (none_void_before_split s.views id v l n at (omega arith) alive)),
        ))

    -- who put an item in knows of it after a join
    put_joined : (s : St) (id other i : ℕ) (x : T) (v w : Hand T) → get_elem? s.views id ≡ some v → ¬ (other ≡ id) → get_elem? s.views other ≡ some w → WasPut i x s.views → WasPut i x (set (set s.views id (together v w)) other void_hand)
    put_joined s id other i x v w at two was_other was = let b : Hand T = together v w in let vs : List (Hand T) = set s.views id b in
        let here : get_elem? (set vs other void_hand) id ≡ some b = set_else vs other id void_hand (λ e. two (sym e)) ∙ set_here s.views id b (within_at s.views id v at) in
        dite (ℕ_discrete was.0 other)
        (λ e. (id, b, here, Contains-append_right v.put w.put (i, x) (subst (λ (z : Hand T). Contains z.put (i, x)) (some-injective was.1 w (sym was.2 ∙ ap (get_elem? s.views) e ∙ was_other)) was.3)))
        (λ past. dite (ℕ_discrete was.0 id)
        (λ e. (id, b, here, Contains-append_left v.put w.put (i, x) (subst (λ (z : Hand T). Contains z.put (i, x)) (some-injective was.1 v (sym was.2 ∙ ap (get_elem? s.views) e ∙ at)) was.3)))
        (λ ne. (was.0, was.1, set_else vs other was.0 void_hand past ∙ set_else s.views id was.0 b ne ∙ was.2, was.3)))

    pub joins : (id : ℕ) (v : Hand T) (other : ℕ) (w : Hand T) → 0 < v.shares → 0 < w.shares → v.in_hand ≡ None → w.in_hand ≡ None → Joins Rule id v other w (together v w) void_hand
    joins id v other w some_share some_other free_v free_w s r at two at' = let b : Hand T = together v w in let vs : List (Hand T) = set s.views id b in
        let was : get_elem? s.views other ≡ some w = ⊎_elim (λ (h : (other ≡ id) × (b ≡ w)). absurd (two h.0)) (λ (h : (other ≢ id) × (get_elem? s.views other ≡ some w)). h.1) (at_set s.views id other b w at') in
        let f = r.each_view id v at in let g = r.each_view other w was in
        let mine : Fits shape s.homes b = record {
          same_shape = λ _. f.same_shape some_share;
          void_nothing = λ z. absurd (omega arith);
          in_range = All-append (λ i. i + 1 < length s.homes) v.numbers w.numbers f.in_range g.in_range;
          places_home = λ i lists away. dite (ℕ_discrete (times i v.numbers) 0)
              (λ nothing. g.places_home i (omega (arith, nothing, lists, times-append i v.numbers w.numbers)) (λ e. None-ne-Some i (sym free_w ∙ e)))
              (λ some_times. f.places_home i (omega (arith, some_times)) (λ e. None-ne-Some i (sym free_v ∙ e)));
          place_out = λ i e. absurd (None-ne-Some i (sym free_v ∙ e));
        } in
        let idle : Fits shape s.homes void_hand = record { same_shape = λ h. absurd (omega arith); void_nothing = λ _. (refl, refl, refl); in_range = All-nil (λ i. i + 1 < length s.homes); places_home = λ i lists away. absurd (omega arith); place_out = λ i e. absurd (None-ne-Some i e) } in
        let sums : (h : Hand T → ℕ) → total h (set vs other void_hand) + h w + h v ≡ total h s.views + h b + h void_hand = λ h. omega (arith, total-set h s.views id v b at, total-set h vs other w void_hand at') in
        viewed s r (set vs other void_hand) (omega (arith, sums (λ u. u.shares))) (omega (arith, sums (λ u. u.joins), sums one_if_void, r.joins_add, not_void v some_share, not_void w some_other, not_void b (omega arith))) (λ k. omega (arith, sums (λ u. times k u.numbers), times-append k v.numbers w.numbers))
        (λ j u e. ⊎_elim (λ (h : (j ≡ other) × (void_hand ≡ u)). subst (Fits shape s.homes) h.1 idle)
        (λ (h : (j ≢ other) × (get_elem? vs j ≡ some u)). ⊎_elim (λ (k : (j ≡ id) × (b ≡ u)). subst (Fits shape s.homes) k.1 mine) (λ (k : (j ≢ id) × (get_elem? s.views j ≡ some u)). r.each_view j u k.1) (at_set s.views id j b u h.1))
        (at_set vs other j void_hand u e))
        (λ i x put. put_joined s id other i x v w at two was put)
        (r.logged.0, log_join (length s.homes - 1) s.words s.views id other v w at some_share r.logged.0 r.logged.1, λ alive. absurd (some_void vs other (within_at vs other w at') alive))
