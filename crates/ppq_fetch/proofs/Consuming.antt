-- Records leave the fronts of runs, and spent buffers go on.
use Rattle.std.proofs.Common.{◌≡◌, ℕ, zero, suc, ◌+◌, ◌-◌, ◌<◌, ◌≤◌, List, [], ◌∷◌, ◌++◌, length, map, take, drop, get_or, slice_set, sum_by, All, refl, sym, ap, ap₂, ◌∙◌, subst, arith, length-append}
use Rattle.std.specs.List.{AllByRecursion as Each}
use Rattle.std.proofs.lemmas.List.{map-append, length-map, take_all, take_more, drop_more, drop-set-lt}
use Rattle.std.proofs.lemmas.Grind.{take-set_at}
use Rattle.std.proofs.lemmas.List.Sums.{sum_by_push, sum_by_more, sum_by-take-le}
use Rattle.std.proofs.lemmas.List.Elements.{recursion_from_All, All-get_or, AllZip-push}
use Rattle.ppq_array.proofs.ppq_record.Order.{Each-append, Each-append_left, Each-append_right}
use Rattle.ppq_array.specs.ppq_block.Block.{Block, all_items}
use Rattle.ppq_array.specs.Run.{Run, run_of, items_of, buffers_of, IsRun}
use Rattle.ppq_array.specs.External.{External, external}
use Rattle.ppq_array.specs.Supply.{Stock, GetsBuffer}
use Rattle.ppq_array.specs.Owner.{HasBlock}
use Rattle.ppq_array.specs.Holdings.{RunHasBlock}
use Rattle.ppq_array.proofs.Items.{no_live}
use Rattle.ppq_array.proofs.Noted.{all_left, all_right}
use Rattle.ppq_merge.specs.ppq_split.Cut.{AreWithin}
use Rattle.ppq_fetch.proofs.Listings.{within_at, run_only}
use Rattle.ppq_fetch.proofs.Sums.{one_le}
use Rattle.ppq_fetch.specs.Parts.{rests}
use Rattle.ppq_fetch.specs.Fetching.{one_if_some, IsFitting}
use Rattle.ppq_fetch.specs.Steps.{BuffersGiven, RunConsumed, RunsConsumed, ArrayConsumed, ArraysConsumed, SameBlocks}

pub given_none : (s : Stock) → BuffersGiven s s
given_none s = record { stock = refl; sure = omega arith }

pub given_one : (a b c : Stock) → BuffersGiven a b → GetsBuffer b c → BuffersGiven a c
given_one a b c x y = record {
  stock = y.rest ∙ (ap (λ (s : Stock). record s { sure_buffers = c.sure_buffers; buffer_room = b.buffer_room - 1 }) x.stock ∙ ap (λ n. record a { sure_buffers = c.sure_buffers; buffer_room = n }) (sym (ap (λ (s : Stock). s.buffer_room) y.rest)));
  sure = omega (arith, x.sure, y.sure);
}

pub given_more : (a b c : Stock) → BuffersGiven a b → BuffersGiven b c → BuffersGiven a c
given_more a b c x y = record {
  stock = y.stock ∙ ap (λ (s : Stock). record s { sure_buffers = c.sure_buffers; buffer_room = c.buffer_room }) x.stock;
  sure = omega (arith, x.sure, y.sure);
}

pub given_block : (a b : Stock) → BuffersGiven a b → b.block ≡ a.block
given_block a b x = ap (λ (s : Stock). s.block) x.stock

-- a loop over a list that was os, of which it changed the first items
module _ {X : Type 0} (os xs : List X) (i : ℕ) (d : X) (long : length xs ≡ length os) (h : i < length os) (rest : drop i xs ≡ drop i os) where
  same_at : (get_or xs i d ≡ get_or os i d) × (drop (i + 1) xs ≡ drop (i + 1) os)
  same_at = let n : get_or xs i d ∷ drop (i + 1) xs ≡ get_or os i d ∷ drop (i + 1) os = sym (drop_more xs i d (omega (arith, long, h))) ∙ (rest ∙ drop_more os i d h) in (cc, cc)

  pub rest_more : (y : X) → drop (i + 1) (slice_set xs i y) ≡ drop (i + 1) os
  rest_more y = drop-set-lt (i + 1) xs i y (omega arith) ∙ same_at.1

  pub all_at : (P : X → Type 0) → All P os → P (get_or xs i d)
  all_at P all = subst P (sym same_at.0) (All-get_or P os i d h all)

  pub part_at : (f : X → ℕ) → sum_by f (take i os) + f (get_or xs i d) ≤ sum_by f os
  part_at f = omega (arith, ap f same_at.0, sum_by_more f os i d h, sum_by-take-le f os (i + 1))

  pub place_at : {Y : Type 0} (f : X → List Y) (ps : List ℕ) → AreWithin ps (map f os) → get_or ps i 0 ≤ length (f (get_or xs i d))
  place_at f ps within = omega (arith, within_at ps (map f os) within i, ap length (run_only f os i d h), ap (λ x. length (f x)) same_at.0)

  -- what it did, and then to one more
  pub loop_more :
      (Done : List ℕ → List X → List X → Type 0) (ps : List ℕ) (b : X) → length ps ≡ length os → Done (take i ps ++ get_or ps i 0 ∷ []) (take i os ++ get_or xs i d ∷ []) (take i xs ++ b ∷ [])
      → Done (take (i + 1) ps) (take (i + 1) os) (take (i + 1) (slice_set xs i b))
  loop_more Done ps b each done =
      subst (λ p. Done p (take (i + 1) os) (take (i + 1) (slice_set xs i b))) (sym (take_more ps i 0 (omega (arith, each, h))))
      (subst (λ o. Done (take i ps ++ get_or ps i 0 ∷ []) o (take (i + 1) (slice_set xs i b))) (sym (take_more os i d h ∙ ap (λ z. take i os ++ z ∷ []) (sym same_at.0)))
      (subst (Done (take i ps ++ get_or ps i 0 ∷ []) (take i os ++ get_or xs i d ∷ [])) (sym (take-set_at xs i (i + 1) b refl (omega (arith, long, h)))) done))

module _ {X : Type 0} where
  pub loop_all : (Done : List ℕ → List X → List X → Type 0) (ps : List ℕ) (os xs : List X) (i : ℕ) → length ps ≡ length os → length xs ≡ length os → length os ≤ i → Done (take i ps) (take i os) (take i xs) → Done ps os xs
  loop_all Done ps os xs i each long h done =
      subst (λ p. Done p os xs) (take_all i ps (omega (arith, each, h))) (subst (λ o. Done (take i ps) o xs) (take_all i os h) (subst (Done (take i ps) (take i os)) (take_all i xs (omega (arith, long, h))) done))

  pub rests_snoc : (cs : List ℕ) (qs : List (List X)) (c : ℕ) (q : List X) → length cs ≡ length qs → rests (cs ++ c ∷ []) (qs ++ q ∷ []) ≡ rests cs qs ++ drop c q ∷ []
  rests_snoc [] [] c q e = refl
  rests_snoc [] (x ∷ qs) c q e = absurd (omega (arith, e))
  rests_snoc (b ∷ cs) [] c q e = absurd (omega (arith, e))
  rests_snoc (b ∷ cs) (x ∷ qs) c q e = ap (λ ys. drop b x ∷ ys) (rests_snoc cs qs c q (omega (arith, e)))

module _ {R : Type 0} where
  -- a run whose spent buffers have gone
  pub run_consumed :
      (place : ℕ) (a m b : Run R) (s t : Stock) → items_of m ≡ drop place (items_of a) → buffers_of m ≡ buffers_of a → b ≡ run_of m.live m.taken [] → t.buffer_room + length m.spent ≡ s.buffer_room → BuffersGiven s t
      → RunConsumed place a b s t
  run_consumed place a m b s t items same is room given = record {
    items = ap items_of is ∙ items;
    spent = ap (λ (r : Run R). r.spent) is;
    blocks = λ block h. subst (λ (r : Run R). All (HasBlock block) (buffers_of r)) (sym is) (all_right (HasBlock block) m.spent m.live (subst (λ (bs : List (Block R)). All (HasBlock block) bs) (sym same) h));
    fitting = λ h. subst (λ (r : Run R). All IsFitting (buffers_of r)) (sym is) (all_right IsFitting m.spent m.live (subst (λ (bs : List (Block R)). All IsFitting bs) (sym same) h));
    buffers = omega (arith, ap (λ (r : Run R). length (buffers_of r)) is, ap length same, length-append m.spent m.live, room);
    given = given;
  }

  pub runs_none : (s : Stock) → RunsConsumed {R = R} [] [] [] s s
  runs_none s = record { each = refl; long = refl; items = refl; spent = tt; blocks = λ block h. tt; fitting = λ h. tt; buffers = omega arith; given = given_none s }

  pub runs_more :
      (ps : List ℕ) (os ns : List (Run R)) (s t u : Stock) (p : ℕ) (a b : Run R) → RunsConsumed ps os ns s t → RunConsumed p a b t u → RunsConsumed (ps ++ p ∷ []) (os ++ a ∷ []) (ns ++ b ∷ []) s u
  runs_more ps os ns s t u p a b x y =
      let few = λ (run : Run R). length (buffers_of run) in
      let fit = λ (run : Run R). All IsFitting (buffers_of run) in
      record {
        each = omega (arith, x.each, length-append ps (p ∷ []), length-append os (a ∷ []));
        long = omega (arith, x.long, length-append ns (b ∷ []), length-append os (a ∷ []));
        items = map-append items_of ns (b ∷ []) ∙ (ap₂ (λ xs ys. xs ++ ys ∷ []) x.items y.items ∙ (sym (rests_snoc ps (map items_of os) p (items_of a) (x.each ∙ sym (length-map os items_of))) ∙ ap (λ qs. rests (ps ++ p ∷ []) qs) (sym (map-append items_of os (a ∷ [])))));
        spent = Each-append (λ (run : Run R). run.spent ≡ []) ns (b ∷ []) x.spent (y.spent, tt);
        blocks = λ block h. Each-append (RunHasBlock block) ns (b ∷ []) (x.blocks block (Each-append_left (RunHasBlock block) os (a ∷ []) h)) (y.blocks block ((Each-append_right (RunHasBlock block) os (a ∷ []) h).0), tt);
        fitting = λ h. Each-append fit ns (b ∷ []) (x.fitting (Each-append_left fit os (a ∷ []) h)) (y.fitting ((Each-append_right fit os (a ∷ []) h).0), tt);
        buffers = omega (arith, x.buffers, y.buffers, sum_by_push few ns b, sum_by_push few os a);
        given = given_more s t u x.given y.given;
      }

  bounded_by : (live : List (Block R)) (items : List R) → (items ≡ [] → live ≡ []) → (n f : ℕ) → f ≤ n → f ≤ 1 → length live ≤ n → length live + f ≤ n + one_if_some items
  bounded_by live [] none n f h k l = omega (arith, ap length (none refl), h)
  bounded_by live (x ∷ xs) none n f h k l = omega (arith, k, l)

  nothing : (n : ℕ) → drop n (all_items {R = R} []) ≡ []
  nothing zero = refl
  nothing (suc n) = refl

  front_live : (live : List (Block R)) (taken : ℕ) → one_if_some (drop taken (all_items live)) ≤ length live
  front_live [] taken = omega (arith, ap one_if_some (nothing taken))
  front_live (b ∷ bs) taken = omega (arith, one_le (drop taken (all_items (b ∷ bs))))

  pub front_le : (r : Run R) → one_if_some (items_of r) ≤ length (buffers_of r)
  front_le r = omega (arith, front_live r.live r.taken, length-append r.spent r.live)

module _ {S R : Type 0} where
  pub array_consumed :
      (place : ℕ) (a m k : External S R) (idle idle' : List (Block R)) → m ≡ external a.level m.loaded a.lifted a.stored → items_of m.loaded ≡ drop place (items_of a.loaded) → buffers_of m.loaded ≡ buffers_of a.loaded → IsRun m.loaded
      → k ≡ external m.level (run_of m.loaded.live m.loaded.taken []) m.lifted m.stored → idle' ≡ idle ++ m.loaded.spent → ArrayConsumed place a k idle idle'
  array_consumed place a m k idle idle' rest items same run is moved =
      let r : Run R = run_of m.loaded.live m.loaded.taken [] in
      let l : k.loaded ≡ r = ap (λ (z : External S R). z.loaded) is in
      let n : length (buffers_of a.loaded) ≡ length m.loaded.spent + length m.loaded.live = ap length (sym same) ∙ length-append m.loaded.spent m.loaded.live in
      let b : length (buffers_of k.loaded) ≡ length m.loaded.live = ap (λ (z : Run R). length (buffers_of z)) l in
      let left = bounded_by m.loaded.live (items_of m.loaded) (λ e. no_live m.loaded.live m.loaded.taken run.taken e) (length (buffers_of a.loaded)) (one_if_some (items_of a.loaded)) (front_le a.loaded) (one_le (items_of a.loaded)) (omega (arith, n)) in
      let one : one_if_some (items_of k.loaded) ≡ one_if_some (items_of m.loaded) = ap (λ (z : Run R). one_if_some (items_of z)) l in
      record {
        rest = is ∙ (ap (λ (z : External S R). external z.level r z.lifted z.stored) rest ∙ ap (λ z. external a.level z a.lifted a.stored) (sym l));
        items = ap items_of l ∙ items;
        spent = ap (λ (z : Run R). z.spent) l;
        buffers = omega (arith, n, b, ap length moved, length-append idle m.loaded.spent);
        blocks = λ block hi ha.
            let all : All (HasBlock block) (m.loaded.spent ++ m.loaded.live) = subst (λ (bs : List (Block R)). All (HasBlock block) bs) (sym same) ha in (
              subst (λ (bs : List (Block R)). Each (HasBlock block) bs) (sym moved) (Each-append (HasBlock block) idle m.loaded.spent hi (recursion_from_All (HasBlock block) m.loaded.spent (all_left (HasBlock block) m.loaded.spent m.loaded.live all))),
              subst (λ (z : Run R). All (HasBlock block) (buffers_of z)) (sym l) (all_right (HasBlock block) m.loaded.spent m.loaded.live all),
            );
        fitting = λ h. subst (λ (z : Run R). All IsFitting (buffers_of z)) (sym l) (all_right IsFitting m.loaded.spent m.loaded.live (subst (λ (bs : List (Block R)). All IsFitting bs) (sym same) h));
        bounded = omega (arith, left, b, one);
      }

  pub arrays_none : (idle : List (Block R)) → ArraysConsumed {S = S} [] [] [] idle idle
  arrays_none idle = record { each = refl; rest = tt; items = refl; spent = tt; buffers = omega arith; blocks = λ block hi ha. (hi, tt); fitting = λ h. tt; bounded = omega arith }

  pub arrays_more :
      (ps : List ℕ) (os ns : List (External S R)) (s t u : List (Block R)) (p : ℕ) (a b : External S R) → ArraysConsumed ps os ns s t → ArrayConsumed p a b t u → ArraysConsumed (ps ++ p ∷ []) (os ++ a ∷ []) (ns ++ b ∷ []) s u
  arrays_more ps os ns s t u p a b x y =
      let few = λ (z : External S R). length (buffers_of z.loaded) in
      let one = λ (z : External S R). one_if_some (items_of z.loaded) in
      let it = λ (z : External S R). items_of z.loaded in
      let has = λ (block : ℕ) (z : External S R). RunHasBlock block z.loaded in
      let fit = λ (z : External S R). All IsFitting (buffers_of z.loaded) in
      record {
        each = omega (arith, x.each, length-append ps (p ∷ []), length-append os (a ∷ []));
        rest = AllZip-push SameBlocks os ns a b x.rest y.rest;
        items = map-append it ns (b ∷ []) ∙ (ap₂ (λ xs ys. xs ++ ys ∷ []) x.items y.items ∙ (sym (rests_snoc ps (map it os) p (it a) (x.each ∙ sym (length-map os it))) ∙ ap (λ qs. rests (ps ++ p ∷ []) qs) (sym (map-append it os (a ∷ [])))));
        spent = Each-append (λ (z : External S R). z.loaded.spent ≡ []) ns (b ∷ []) x.spent (y.spent, tt);
        buffers = omega (arith, x.buffers, y.buffers, sum_by_push few ns b, sum_by_push few os a);
        blocks = λ block hi ha.
            let l = x.blocks block hi (Each-append_left (has block) os (a ∷ []) ha) in
            let r = y.blocks block l.0 ((Each-append_right (has block) os (a ∷ []) ha).0) in
            (r.0, Each-append (has block) ns (b ∷ []) l.1 (r.1, tt));
        fitting = λ h. Each-append fit ns (b ∷ []) (x.fitting (Each-append_left fit os (a ∷ []) h)) (y.fitting ((Each-append_right fit os (a ∷ []) h).0), tt);
        bounded = omega (arith, x.bounded, y.bounded, sum_by_push few ns b, sum_by_push few os a, sum_by_push one ns b, sum_by_push one os a);
      }
