-- The rule at the start, and what is left when the last seat closes the pool.
use Rattle.std.proofs.Common.{◌≡◌, ◌⊎◌, ℕ, zero, suc, ◌+◌, ◌-◌, ◌<◌, if◌then◌else◌, List, [], ◌∷◌, ◌++◌, All, Contains, map, take, length, get_or, slice_index, sym, refl, ap, ◌∙◌, subst, inl, inr, ⊎_elim, arith, eq-eqb, ne_eqb, Vec, None, replicate, length-append, append-nil}
use Rattle.std.specs.Global.{Global}
use Rattle.std.proofs.lemmas.List.{map-append}
use Rattle.std.proofs.lemmas.List.Elements.{All-nil, All-push, All-weaker, All-head, All-tail}
use mathlib.Core.Option.{some, some-injective, some-ne-none}
use lib.ListN.{get_elem?}
use Rattle.atomic_table.specs.Table.{Final, Seen, opening}
use Rattle.ppq_core.specs.History.{buffer_at}
use Rattle.ppq_core.specs.declared.place.Place.TheVariants.{Held}
use Rattle.ppq_table.specs.declared.place.Place.{Place}
use Rattle.ppq_table.specs.declared.place.Place.TheVariants.{Empty, Item, Room}
use Rattle.ppq_table.specs.Places.{IsLaid, HasRoom, items_in}
use Rattle.ppq_table.specs.Sums.{times, all_shares}
use Rattle.ppq_table.proofs.Sums.{at_only, at_within, total_alone}
use Rattle.ppq_table.proofs.Numbers.{upto, upto-times}
use Rattle.ppq_table.proofs.Places.{item-injective, laid_item, laid_last, laid_length, items_in-more}
use Rattle.ppq_pool.specs.declared.hand.Hand.{Hand}
use Rattle.ppq_pool.specs.Hands.{first_hand, common_shape}
use Rattle.ppq_pool.specs.Histories.{moves_of, trail_of, moments_of}
use Rattle.ppq_pool.specs.Rule.{holders, Fits, IsFree, IsHeld, PoolRule}
use Rattle.ppq_pool.specs.Seats.{others_below, IsLeft}
use Rattle.ppq_pool.proofs.Lists.{None-ne-Some, Contains-numbered}
use Rattle.ppq_pool.proofs.Steps.{Room-ne-Item, own_item}

pub zero_at : (n k : ℕ) → get_or (replicate {A = ℕ} n 0) k 0 ≡ 0
zero_at zero k = refl
zero_at (suc n) zero = refl
zero_at (suc n) (suc k) = zero_at n k

-- what holds of all in the list holds of the element at i
all_at : {A : Type 0} (P : A → Type 0) (xs : List A) (i : ℕ) (x : A) → All P xs → get_elem? xs i ≡ some x → P x
all_at P [] i x all e = absurd (some-ne-none x (sym e))
all_at P (y ∷ ys) zero x all e = subst P (some-injective y x e) (All-head P y ys all)
all_at P (y ∷ ys) (suc i) x all e = all_at P ys i x (All-tail P y ys all) e

-- all have the shape of the first
pub all_common : {A : Type 0} (f : A → ℕ) (n : ℕ) (xs : List A) → All (λ y. f y ≡ n) xs → All (λ y. f y ≡ common_shape f xs) xs
all_common f n [] all = All-nil (λ y. f y ≡ 0)
all_common f n (x ∷ xs) all = subst (λ (k : ℕ). All (λ y. f y ≡ k) (x ∷ xs)) (sym (All-head (λ y. f y ≡ n) x xs all)) all

module _ {T : Type 0} where
  -- an item at home at the start is the one that was laid there
  laid_back : (xs : List T) (r : Vec T Global) (i : ℕ) (x : T) → get_elem? (map some (map Item xs ++ Room r ∷ [])) i ≡ some (some (Item x)) → get_elem? xs i ≡ some x
  laid_back [] r zero x e = absurd (Room-ne-Item r x (some-injective (Room r) (Item x) (some-injective (some (Room r)) (some (Item x)) e)))
  laid_back [] r (suc i) x e = absurd (some-ne-none (some (Item x)) (sym e))
  laid_back (y ∷ ys) r zero x e = ap some (item-injective y x (some-injective (Item y) (Item x) (some-injective (some (Item y)) (some (Item x)) e)))
  laid_back (y ∷ ys) r (suc i) x e = laid_back ys r i x e

  module _ (shape_of : T → ℕ) where
    pub starts : (n : ℕ) (xs : List T) (ws : List ℕ) (ps : List (Place T)) → length xs < 4294967296 → All (λ x. shape_of x ≡ n) xs → length ws ≡ length xs + 1 → ((k : ℕ) → get_or ws k 0 ≡ 0) → IsLaid xs ps
        → PoolRule shape_of (common_shape shape_of xs) (opening ws ps (first_hand (common_shape shape_of xs) xs))
    starts n xs ws ps short all wide zeros laid = let shape : ℕ = common_shape shape_of xs in let first : Hand T = first_hand shape xs in
        let shapes : All (λ x. shape_of x ≡ shape) xs = all_common shape_of n xs all in let r : Vec T Global = laid.0 in
        let len : length (map some (map Item xs ++ Room r ∷ [])) ≡ length xs + 1 = laid_length xs (Room r) in
        let last : length (map some (map Item xs ++ Room r ∷ [])) - 1 ≡ length xs = omega arith in
        subst (λ (l : List (Place T)). PoolRule shape_of shape (opening ws l first)) (sym laid.1) (record {
          wide = wide ∙ sym len;
          some_slot = omega arith;
          short = omega arith;
          room_home = (r, ap (λ (k : ℕ). get_elem? (map some (map Item xs ++ Room r ∷ [])) k) last ∙ laid_last xs (Room r), (laid.2.0, let c = laid.2.1 in omega arith));
          shares_add = refl;
          joins_add = refl;
          each_item = λ i h. let it = at_within xs i (omega arith) in inl (zeros (i + 1), refl, (it.0, laid_item xs (Room r) i it.0 it.1, all_at (λ x. shape_of x ≡ shape) xs i it.0 shapes it.1));
          each_view = at_only (Fits shape _) first (record { same_shape = λ _. refl; void_nothing = λ z. absurd (omega arith); in_range = All-nil (λ i. i + 1 < _); places_home = λ i lists away. absurd (omega arith); place_out = λ i e. absurd (None-ne-Some i e) });
          each_put = λ i x home. (0, first, refl, subst (λ (k : ℕ). Contains first.put (k, x)) (let e : 0 + i ≡ i = omega arith in e) (Contains-numbered 0 i x xs (laid_back xs r i x home)));
          logged = (
            [],
            record {
              is_true = tt;
              is_free = λ i lt z. refl;
              is_out = λ i lt one. absurd (let z = zeros (i + 1) in omega arith);
              on_trail = λ j v e. at_only (λ (u : Hand T). 0 < u.shares → trail_of j [] ≡ u.trail) first (λ some_share. refl) j v e;
              on_time = λ j v e. at_only (λ (u : Hand T). 0 < u.shares → moments_of j [] ≡ u.moments) first (λ some_share. refl) j v e;
            },
            λ _. record {
              legal = tt;
              when_free = λ i lt z. refl;
              when_held = λ i j v e. at_only (λ (u : Hand T). 0 < times i u.numbers → buffer_at {R = T} i [] ≡ Held j) first (λ lists. absurd (omega arith)) j v e;
              moved = λ j v e. at_only (λ (u : Hand T). moves_of {R = T} j [] ≡ u.moves) first refl j v e;
            },
          );
        })

    -- a place at the end: an item that nobody lists, which the last seat put in, or empty, and listed by the last seat
    abbrev Told : Hand T → List (Place T) → ℕ → Type 0
    Told v ps i = ((x : T) × (get_elem? ps i ≡ some (Item x)) × (shape_of x ≡ v.shape) × (times i v.numbers ≡ 0) × Contains v.put (i, x)) ⊎ ((get_elem? ps i ≡ some Empty) × (times i v.numbers ≡ 1))

    -- what is known of the items in the first n places
    pub record Counted (ps : List (Place T)) (v : Hand T) (n : ℕ) : Type 0 where
      pub left : IsLeft n v (items_in (take n ps))
      pub count : length (items_in (take n ps)) + upto (λ k. times k v.numbers) n ≡ n
      pub shaped : All (λ x. shape_of x ≡ v.shape) (items_in (take n ps))

    others_below-free : (n : ℕ) (held : List ℕ) → times n held ≡ 0 → others_below (suc n) held ≡ others_below n held ++ n ∷ []
    others_below-free n held e = ap (λ b. others_below n held ++ (if b then n ∷ [] else [])) (eq-eqb (times n held) 0 e)

    others_below-held : (n : ℕ) (held : List ℕ) → times n held ≡ 1 → others_below (suc n) held ≡ others_below n held
    others_below-held n held e = ap (λ b. others_below n held ++ (if b then n ∷ [] else [])) (ne_eqb (times n held) 0 (λ z. omega arith)) ∙ append-nil (others_below n held)

    counted : (ps : List (Place T)) (v : Hand T) (n : ℕ) → ((i : ℕ) → i < n → Told v ps i) → Counted ps v n
    counted ps v zero told = record { left = ([], refl, refl, All-nil (Contains v.put)); count = refl; shaped = All-nil (λ x. shape_of x ≡ v.shape) }
    counted ps v (suc n) told = let before = counted ps v n (λ i h. told i (omega arith)) in let ok = before.left in ⊎_elim
        (λ (f : (x : T) × (get_elem? ps n ≡ some (Item x)) × (shape_of x ≡ v.shape) × (times n v.numbers ≡ 0) × Contains v.put (n, x)).
        let more : items_in (take (suc n) ps) ≡ items_in (take n ps) ++ f.0 ∷ [] = items_in-more ps 0 n (Item f.0) (omega arith) f.1 in let nobody = f.3 in record {
          left = (
            ok.0 ++ (n, f.0) ∷ [],
            map-append (λ (p : ℕ × T). p.1) ok.0 ((n, f.0) ∷ []) ∙ ap (λ l. l ++ f.0 ∷ []) ok.1 ∙ sym more,
            map-append (λ (p : ℕ × T). p.0) ok.0 ((n, f.0) ∷ []) ∙ ap (λ l. l ++ n ∷ []) ok.2 ∙ sym (others_below-free n v.numbers nobody),
            All-push (Contains v.put) ok.0 (n, f.0) ok.3 f.4,
          );
          count = omega (arith, before.count, nobody, ap length more, length-append (items_in (take n ps)) (f.0 ∷ []));
          shaped = subst (All (λ x. shape_of x ≡ v.shape)) (sym more) (All-push (λ x. shape_of x ≡ v.shape) (items_in (take n ps)) f.0 before.shaped f.2);
        })
        (λ (e : (get_elem? ps n ≡ some Empty) × (times n v.numbers ≡ 1)).
        let more : items_in (take (suc n) ps) ≡ items_in (take n ps) = items_in-more ps 0 n Empty (omega arith) e.0 ∙ append-nil (items_in (take n ps)) in let one = e.1 in record {
          left = (ok.0, ok.1 ∙ sym more, ok.2 ∙ sym (others_below-held n v.numbers one), ok.3);
          count = omega (arith, before.count, one, ap length more);
          shaped = subst (All (λ x. shape_of x ≡ v.shape)) (sym more) before.shaped;
        })
        (told n (omega arith))

    -- what the last seat finds
    pub record Ended (ps : List (Place T)) (v : Hand T) (n : ℕ) : Type 0 where
      pub room : HasRoom n ps
      pub left : IsLeft n v (items_in (take n ps))
      pub count : length (items_in (take n ps)) + length v.numbers ≡ n
      pub shaped : All (λ x. shape_of x ≡ v.shape) (items_in (take n ps))

    pub ends : (shape id : ℕ) (v : Hand T) (ws : List ℕ) (ps : List (Place T)) (n : ℕ) → v.shares ≡ all_shares → v.in_hand ≡ None → length ps ≡ n + 1 → Final (Seen (PoolRule shape_of shape) id v) ws ps → Ended ps v n
    ends shape id v ws ps n only free wide final = let s = final.0 in let r : PoolRule shape_of shape s = final.1.0 in let at = final.1.1 in let mine = r.each_view id v at in let len : length s.homes ≡ length ps = final.3 in
        let last : length s.homes - 1 ≡ n = omega arith in
        let alone : (i : ℕ) → holders i s.views ≡ times i v.numbers = λ i. total_alone (λ u. u.shares) (λ u. times i u.numbers) s.views id v at (λ j u e z. ap (times i) ((r.each_view j u e).void_nothing z).0) (r.shares_add ∙ sym only) in
        let told : (i : ℕ) → i < n → Told v ps i = λ i h. ⊎_elim
        (λ (f : IsFree shape_of shape (slice_index s.words (i + 1)) (holders i s.views) (get_elem? s.homes i)). let it = f.2 in
        inl (it.0, final.4 i (Item it.0) it.1, it.2 ∙ sym (mine.same_shape (omega arith)), sym (alone i) ∙ f.1, own_item shape_of shape s r id i v it.0 at it.1 only))
        (λ (k : IsHeld shape_of shape (slice_index s.words (i + 1)) (holders i s.views)). let one : times i v.numbers ≡ 1 = sym (alone i) ∙ k.1 in
        inr (final.4 i Empty (mine.places_home i (omega arith) (λ e. None-ne-Some i (sym free ∙ e))), one))
        (r.each_item i (omega arith)) in
        let c = counted ps v n told in record {
          room = (wide, (r.room_home.0, ap (λ (k : ℕ). get_elem? ps k) (sym last) ∙ final.4 (length s.homes - 1) (Room r.room_home.0) r.room_home.1, (r.room_home.2.0, let cap = r.room_home.2.1 in omega arith)));
          left = c.left;
          count = omega (arith, c.count, upto-times v.numbers n (All-weaker (λ k. k + 1 < length s.homes) (λ k. k < n) (λ k h. omega arith) v.numbers mine.in_range));
          shaped = c.shaped;
        }
