-- Each kind of step keeps the rule.
use Rattle.std.proofs.Common.{◌≡◌, ◌≢◌, ◌⊎◌, ℕ, ◌+◌, ◌-◌, ◌%◌, ◌^◌, ◌<◌, ◌≤◌, ◌||◌, min, Bool, true, false, cond, eqb, ne_eqb, List, [], ◌∷◌, ◌++◌, length, slice_index, slice_set, set, sym, refl, ap, ◌∙◌, subst, ⊎_elim, arith, true≢false, length-set, mod-eq_of_lt, lt_of_not-le}
use Rattle.std.proofs.lemmas.List.Elements.{All-append, All-weaker, All-push, All-nil}
use mathlib.Core.Option.{none, some}
use mathlib.Core.Logic.{dite}
use native.Mathlib.Decide.{dec_le}
use lib.ListN.{get_elem?}
use Rattle.atomic_table.specs.Table.{State, Me, step, Act, keeps, takes, Valid, carried_after, stepped, Allows, Splits, Joins}
use Rattle.atomic_table.proofs.Lists.{at_set, at_snoc, set_else}
use Rattle.ppq_table.specs.declared.place.Place.{Place}
use Rattle.ppq_table.specs.declared.place.Place.TheVariants.{Item}
use Rattle.ppq_table.specs.Sums.{total, times, once_below}
use Rattle.ppq_table.proofs.Sums.{at_within, total-set, total-snoc, total-split, total-set_two}
use Rattle.ppq_table.proofs.Numbers.{times-append, once-more}
use Rattle.ppq_row.specs.declared.hand.Hand.{Hand}
use Rattle.ppq_row.specs.Hands.{less_one, newcomer, moved, together, void_hand, one_if_void, with_place, with_none, open_shares}
use Rattle.ppq_row.specs.Rule.{counter, Fits, RowRule, draw_tells}
use Rattle.ppq_row.proofs.Histories.{shows}

pub word_set : (ws : List ℕ) (m : ℕ) → length ws ≡ 1 → slice_index (slice_set ws 0 m) 0 ≡ m
word_set [] m e = absurd (omega arith)
word_set (x ∷ xs) m e = refl

-- the open shares of a split view, and of two that are made one
open-less : (noted : Bool) (n : ℕ) → 0 < n → cond noted 0 (n - 1) + cond noted 0 1 ≡ cond noted 0 n
open-less true n h = refl
open-less false n h = omega arith

open-both : (a b : Bool) (n m : ℕ) → cond (a || b) 0 (n + m) ≤ cond a 0 n + cond b 0 m
open-both true b n m = omega arith
open-both false true n m = omega arith
open-both false false n m = omega arith

same_void : {T : Type 0} (v w : Hand T) → w.shares ≡ v.shares → one_if_void w ≡ one_if_void v
same_void v w e = ap (λ (k : ℕ). cond (eqb k 0) 1 0) e

-- a view with a share is not void
not_void : {T : Type 0} (v : Hand T) → 0 < v.shares → one_if_void v ≡ 0
not_void v some_share = ap (λ b. cond b 1 0) (ne_eqb v.shares 0 (λ e. omega arith))

note_of : (a b : Bool) → (a || b) ≡ true → (a ≡ true) ⊎ (b ≡ true)
note_of a b e = grind arith

module _ {T : Type 0} (xs : List T) where
  abbrev St : Type 0
  St = State (Place T) (Hand T)

  -- what the rule says of a view stays true when the counter grows
  later : (c d : ℕ) (v : Hand T) → c ≤ d → Fits xs c v → Fits xs d v
  later c d v le f = record {
    same_items = f.same_items;
    void_bare = f.void_bare;
    all_drawn = λ e. let a : length xs ≤ c = f.all_drawn e in omega arith;
    behind = All-weaker (λ p. p < c) (λ p. p < d) (λ p h. omega arith) v.places f.behind;
  }

  void_fits : (c : ℕ) → Fits xs c void_hand
  void_fits c = record { same_items = λ h. absurd (omega arith); void_bare = λ _. refl; all_drawn = λ e. absurd (true≢false (sym e)); behind = All-nil (λ p. p < c) }

  -- the views change, and no total that the rule speaks of
  viewed : (s : St) (r : RowRule xs s) (vs : List (Hand T)) → total (λ v. v.shares) vs ≡ total (λ v. v.shares) s.views → total (λ v. v.joins) vs ≡ total one_if_void vs → ((x : ℕ) → total (λ v. times x v.places) vs ≡ total (λ v. times x v.places) s.views)
      → total (λ v. v.nones) vs ≡ total (λ v. v.nones) s.views → total open_shares vs ≤ total open_shares s.views
      → ((j : ℕ) (v : Hand T) → get_elem? vs j ≡ some v → Fits xs (counter s) v) → RowRule xs record { words = s.words; homes = s.homes; views = vs }
  viewed s r vs shares joined places nones kept fits = let once = λ (x : ℕ). places x ∙ r.each_once x in record {
    one_word = r.one_word;
    wide = r.wide;
    short = r.short;
    rest_home = r.rest_home;
    room_home = r.room_home;
    shares_add = shares ∙ r.shares_add;
    joins_add = joined;
    each_once = once;
    within = let a = r.within in omega arith;
    budget = let a = r.budget in omega arith;
    shown = shows T (length xs) (counter s) vs once;
    each_view = fits;
  }

  splits : (id : ℕ) (v l r : Hand T) → l.shares + r.shares ≡ v.shares → l.joins + r.joins + one_if_void v ≡ v.joins + one_if_void l + one_if_void r → l.nones + r.nones ≡ v.nones → open_shares l + open_shares r ≡ open_shares v
      → ((x : ℕ) → times x l.places + times x r.places ≡ times x v.places) → ((c : ℕ) → Fits xs c v → Fits xs c l × Fits xs c r) → Splits (RowRule xs) id v l r
  splits id v l r shares joined nones kept places fits s rule at = let vs : List (Hand T) = set s.views id l in let mine = fits (counter s) (rule.each_view id v at) in
      viewed s rule (vs ++ r ∷ []) (total-split (λ u. u.shares) s.views id v l r at shares)
      (omega (arith, total-snoc (λ u. u.joins) vs r, total-set (λ u. u.joins) s.views id v l at, total-snoc one_if_void vs r, total-set one_if_void s.views id v l at, rule.joins_add, joined))
      (λ x. total-split (λ u. times x u.places) s.views id v l r at (places x))
      (total-split (λ u. u.nones) s.views id v l r at nones) (let e = total-split open_shares s.views id v l r at kept in omega arith)
      (λ j u e. ⊎_elim (λ (old : get_elem? vs j ≡ some u). ⊎_elim (λ (h : (j ≡ id) × (l ≡ u)). subst (Fits xs (counter s)) h.1 mine.0) (λ (h : (j ≢ id) × (get_elem? s.views j ≡ some u)). rule.each_view j u h.1) (at_set s.views id j l u old))
      (λ (new : r ≡ u). subst (Fits xs (counter s)) new mine.1) (at_snoc vs r u j e))

  pub splits_share : (id : ℕ) (v : Hand T) → 1 < v.shares → Splits (RowRule xs) id v (less_one v) (newcomer v)
  splits_share id v h = splits id v (less_one v) (newcomer v) (omega arith) (omega (arith, not_void v (omega arith), not_void (less_one v) (omega arith))) (omega arith) (open-less v.noted v.shares (omega arith)) (λ x. omega arith)
      (λ c f. (
        record { same_items = λ _. f.same_items (omega arith); void_bare = λ e. absurd (omega arith); all_drawn = f.all_drawn; behind = f.behind },
        record { same_items = λ _. f.same_items (omega arith); void_bare = λ e. absurd (omega arith); all_drawn = f.all_drawn; behind = All-nil (λ p. p < c) },
      ))

  pub splits_moved : (id : ℕ) (v : Hand T) → 0 < v.shares → Splits (RowRule xs) id v void_hand (moved v)
  splits_moved id v some_share = splits id v void_hand (moved v) (omega arith) (omega (arith, same_void v (moved v) refl)) (omega arith) (omega arith) (λ x. omega arith)
      (λ c f. (void_fits c, record { same_items = f.same_items; void_bare = λ z. absurd (omega arith); all_drawn = f.all_drawn; behind = f.behind }))

  pub joins : (id : ℕ) (v : Hand T) (other : ℕ) (w : Hand T) → 0 < v.shares → 0 < w.shares → Joins (RowRule xs) id v other w (together v w) void_hand
  joins id v other w some_share some_other s r at two at' = let b : Hand T = together v w in let vs : List (Hand T) = set s.views id b in let c : ℕ = counter s in
      let was : get_elem? s.views other ≡ some w = ⊎_elim (λ (h : (other ≡ id) × (b ≡ w)). absurd (two h.0)) (λ (h : (other ≢ id) × (get_elem? s.views other ≡ some w)). h.1) (at_set s.views id other b w at') in
      let f = r.each_view id v at in let g = r.each_view other w was in
      let mine : Fits xs c b = record {
        same_items = λ _. f.same_items some_share;
        void_bare = λ z. absurd (omega arith);
        all_drawn = λ e. ⊎_elim (λ (y : v.noted ≡ true). f.all_drawn y) (λ (n : w.noted ≡ true). g.all_drawn n) (note_of v.noted w.noted e);
        behind = All-append (λ p. p < c) v.places w.places f.behind g.behind;
      } in
      let sums : (h : Hand T → ℕ) → total h (set vs other void_hand) + h v + h w ≡ total h s.views + h b + h void_hand = λ h. total-set_two h s.views id other v w b void_hand at at' in
      viewed s r (set vs other void_hand) (omega (arith, sums (λ u. u.shares)))
      (omega (arith, sums (λ u. u.joins), sums one_if_void, r.joins_add, not_void v some_share, not_void w some_other, not_void b (omega arith))) (λ x. omega (arith, sums (λ u. times x u.places), times-append x v.places w.places))
      (omega (arith, sums (λ u. u.nones))) (omega (arith, sums open_shares, open-both v.noted w.noted v.shares w.shares))
      (λ j u e. ⊎_elim (λ (h : (j ≡ other) × (void_hand ≡ u)). subst (Fits xs c) h.1 (void_fits c))
      (λ (h : (j ≢ other) × (get_elem? vs j ≡ some u)). ⊎_elim (λ (k : (j ≡ id) × (b ≡ u)). subst (Fits xs c) k.1 mine) (λ (k : (j ≢ id) × (get_elem? s.views j ≡ some u)). r.each_view j u k.1) (at_set s.views id j b u h.1))
      (at_set vs other j void_hand u e))

  -- the step of a seat on the counter can be taken
  abbrev Goes : St → ℕ → Me (Place T) (Hand T) → ℕ → ℕ → Type 0
  Goes s id me n m = (w : Hand T) × (a : Act (Place T)) × Valid s.homes me.1 a × RowRule xs (stepped s 0 m id me.1 w a) × draw_tells (step n 0 1 0 none) me (counter s) (w, carried_after me.1 a)

  -- what the rule says of all views, when the counter grew by one and one view changed
  views_after : (s : St) (r : RowRule xs s) (id : ℕ) (w : Hand T) (m : ℕ) → m ≡ counter s + 1 → Fits xs (counter s + 1) w → (j : ℕ) (u : Hand T) → get_elem? (set s.views id w) j ≡ some u → Fits xs m u
  views_after s r id w m up mine j u e = let c : ℕ = counter s in subst (λ (k : ℕ). Fits xs k u) (sym up)
      (⊎_elim (λ (h : (j ≡ id) × (w ≡ u)). subst (Fits xs (c + 1)) h.1 mine) (λ (h : (j ≢ id) × (get_elem? s.views j ≡ some u)). later c (c + 1) u (omega arith) (r.each_view j u h.1)) (at_set s.views id j w u e))

  takes_item : (n id : ℕ) (me : Me (Place T) (Hand T)) (s : St) (r : RowRule xs s) (m : ℕ) → 0 < me.0.shares → me.0.noted ≡ false → length s.homes ≡ n → get_elem? s.views id ≡ some me.0
      → m ≡ counter s + 1 → counter s < length xs → Goes s id me n m
  takes_item n id me s r m some_share not_noted wide at up left = let v : Hand T = me.0 in let c : ℕ = counter s in let it = at_within xs c left in
      let w : Hand T = with_place c v in let mine = r.each_view id v at in let same : v.items ≡ xs = mine.same_items some_share in
      let word : slice_index (slice_set s.words 0 m) 0 ≡ c + 1 = word_set s.words m r.one_word ∙ up in let vs : List (Hand T) = set s.views id w in let now = later c (c + 1) v (omega arith) mine in
      let once : (x : ℕ) → total (λ u. times x u.places) vs ≡ once_below x (min (slice_index (slice_set s.words 0 m) 0) (length xs)) = λ x.
      let sum = total-set (λ u. times x u.places) s.views id v w at in let e = r.each_once x in let more = once-more x c (length xs) left in
      subst (λ (k : ℕ). total (λ u. times x u.places) vs ≡ once_below x (min k (length xs))) (sym word) (omega (arith, times-append x v.places (c ∷ []))) in (
        w,
        takes c (Item it.0),
        r.rest_home c it.0 (omega arith) it.1,
        record {
          one_word = length-set s.words 0 m ∙ r.one_word;
          wide = length-set s.homes c none ∙ r.wide;
          short = r.short;
          rest_home = λ i x le e. set_else s.homes c i none (λ h. omega arith) ∙ r.rest_home i x (omega arith) e;
          room_home = (r.room_home.0, set_else s.homes c (length xs) none (λ h. omega arith) ∙ r.room_home.1, r.room_home.2);
          shares_add = omega (arith, total-set (λ u. u.shares) s.views id v w at, r.shares_add);
          joins_add = omega (arith, total-set (λ u. u.joins) s.views id v w at, total-set one_if_void s.views id v w at, r.joins_add, same_void v w refl);
          each_once = once;
          within = omega (arith, total-set (λ u. u.nones) s.views id v w at, r.within);
          budget = omega (arith, total-set (λ u. u.nones) s.views id v w at, total-set open_shares s.views id v w at, r.budget);
          shown = shows T (length xs) (slice_index (slice_set s.words 0 m) 0) vs once;
          each_view = views_after s r id w (slice_index (slice_set s.words 0 m) 0) word (record {
            same_items = now.same_items;
            void_bare = λ z. absurd (omega arith);
            all_drawn = now.all_drawn;
            behind = All-push (λ p. p < c + 1) v.places c now.behind (omega arith);
          });
        },
        (
          (sym wide ∙ r.wide ∙ ap (λ (l : List T). length l + 1) (sym same)),
          (λ _. (it.0, (ap (λ (l : List T). get_elem? l c) same ∙ it.1, refl, mine.behind), refl)),
          (λ le. absurd (let same' : length v.items ≡ length xs = ap length same in omega arith)),
        ),
      )

  sees_end : (n id : ℕ) (me : Me (Place T) (Hand T)) (s : St) (r : RowRule xs s) (m : ℕ) → 0 < me.0.shares → me.0.noted ≡ false → length s.homes ≡ n → get_elem? s.views id ≡ some me.0
      → m ≡ counter s + 1 → length xs ≤ counter s → Goes s id me n m
  sees_end n id me s r m some_share not_noted wide at up none_left = let v : Hand T = me.0 in let c : ℕ = counter s in
      let w : Hand T = with_none v in let mine = r.each_view id v at in let same : v.items ≡ xs = mine.same_items some_share in
      let word : slice_index (slice_set s.words 0 m) 0 ≡ c + 1 = word_set s.words m r.one_word ∙ up in let vs : List (Hand T) = set s.views id w in let now = later c (c + 1) v (omega arith) mine in
      let was_open : open_shares v ≡ v.shares = ap (λ (b : Bool). cond b 0 v.shares) not_noted in
      let once : (x : ℕ) → total (λ u. times x u.places) vs ≡ once_below x (min (slice_index (slice_set s.words 0 m) 0) (length xs)) = λ x.
      let sum = total-set (λ u. times x u.places) s.views id v w at in let e = r.each_once x in let same_end : min (c + 1) (length xs) ≡ min c (length xs) = omega arith in
      subst (λ (k : ℕ). total (λ u. times x u.places) vs ≡ once_below x (min k (length xs))) (sym word) (subst (λ (k : ℕ). total (λ u. times x u.places) vs ≡ once_below x k) (sym same_end) (omega arith)) in (
        w,
        keeps,
        tt,
        record {
          one_word = length-set s.words 0 m ∙ r.one_word;
          wide = r.wide;
          short = r.short;
          rest_home = λ i x le e. r.rest_home i x (omega arith) e;
          room_home = r.room_home;
          shares_add = omega (arith, total-set (λ u. u.shares) s.views id v w at, r.shares_add);
          joins_add = omega (arith, total-set (λ u. u.joins) s.views id v w at, total-set one_if_void s.views id v w at, r.joins_add, same_void v w refl);
          each_once = once;
          within = omega (arith, total-set (λ u. u.nones) s.views id v w at, r.within);
          budget = omega (arith, total-set (λ u. u.nones) s.views id v w at, total-set open_shares s.views id v w at, r.budget);
          shown = shows T (length xs) (slice_index (slice_set s.words 0 m) 0) vs once;
          each_view = views_after s r id w (slice_index (slice_set s.words 0 m) 0) word (record {
            same_items = now.same_items;
            void_bare = λ z. absurd (omega arith);
            all_drawn = λ _. omega arith;
            behind = now.behind;
          });
        },
        ((sym wide ∙ r.wide ∙ ap (λ (l : List T). length l + 1) (sym same)), (λ h. absurd (let same' : length v.items ≡ length xs = ap length same in omega arith)), (λ _. (refl, refl))),
      )

  -- a seat with shares and no note may add one to the counter, whatever the table is then
  pub draws_one : (n id : ℕ) (me : Me (Place T) (Hand T)) → 0 < me.0.shares → me.0.noted ≡ false → Allows (RowRule xs) n id me 0 (λ c. (c + 1) % 2 ^ 64) (draw_tells (step n 0 1 0 none) me)
  draws_one n id me some_share not_noted s r wide at small = let c : ℕ = counter s in let m : ℕ = (c + 1) % 2 ^ 64 in
      let a : c ≤ length xs + total (λ v. v.nones) s.views = r.within in let b = r.budget in let d = r.short in
      let up : m ≡ c + 1 = mod-eq_of_lt (omega arith) in
      dite (dec_le (length xs) c) (λ h. sees_end n id me s r m some_share not_noted wide at up h) (λ h. takes_item n id me s r m some_share not_noted wide at up (lt_of_not-le h))
