-- The next blocks of two runs are lifted, read beside a merge, and taken.
use Rattle.std.proofs.Common.{◌≡◌, ◌≢◌, ℕ, zero, suc, ◌+◌, ◌*◌, ◌-◌, ◌<◌, ◌≤◌, ◌^◌, List, [], ◌∷◌, ◌++◌, length, map, take, get_or, slice_set, Option, Some, None, IfNone, IfSome, refl, sym, ap, ap₂, ◌∙◌, subst, arith, inr, All, length-set, length-append, append-nil, append_assoc}
use Rattle.std.specs.List.{AllByRecursion as Each, AllZip}
use Rattle.std.specs.Cmp.{IsStrictWeakOrder}
use Rattle.std.specs.declared.cmp.Ordering.{Ordering}
use Rattle.std.proofs.lemmas.List.{take-append-le, get_or-set_same, get_or-set_other}
use Rattle.std.proofs.lemmas.List.Sums.{sum_by-set, get_or-le-sum_by}
use Rattle.std.proofs.lemmas.List.Elements.{All-get_or, All-head, All-from_recursion}
use Rattle.std.proofs.lemmas.Option.{slice_get_within, get_or_from_slice_get}
use Rattle.ppq_array.specs.ppq_record.Order.{is_before}
use Rattle.ppq_array.specs.ppq_block.Block.{Block}
use Rattle.ppq_array.specs.ppq_outside.Shown.{Shown}
use Rattle.ppq_array.specs.declared.berth.DeviceBlock.{DeviceBlock}
use Rattle.ppq_array.specs.Run.{Run, items_of, buffers_of}
use Rattle.ppq_array.specs.External.{External, size_of, waiting, counts}
use Rattle.ppq_array.specs.Supply.{Stock}
use Rattle.ppq_array.specs.Owner.{HasBlock, HasSlot}
use Rattle.ppq_array.specs.Holdings.{external_buffers, HasSlots}
use Rattle.ppq_lane.specs.Jobs.{MayRun, IsDone}
use Rattle.ppq_lane.specs.declared.job.Job.{Job}
use Rattle.ppq_merge.specs.ppq_split.Cut.{AreWithin}
use Rattle.ppq_merge.specs.Parts.{before}
use Rattle.ppq_fetch.specs.Steps.{BlockLoaded, BlockLost}
use Rattle.ppq_fetch.specs.Beside.{HasStored, MayReadTwo, BlockLifted, MayLand, BlockLanded, BlockFailed}
use Rattle.ppq_fetch.specs.Fetching.{State, state, AreSources, MayFetch, PartsKept, Fetched, FetchFailed, fronts_in, loaded_lists, count_in}
use Rattle.ppq_fetch.specs.Rounds.{TookTurn, LostTurn}
use Rattle.ppq_fetch.proofs.Sums.{loaded_of}
use Rattle.ppq_fetch.proofs.Waiting.{fronts-le}
use Rattle.ppq_fetch.proofs.Rounds.{zip_rec, zip_set, Fetched-on, Failed-more, failed_then}
use Rattle.ppq_fetch.proofs.Loads.{slots_long, loaded_turn, loaded_sources, loaded_parts, loaded_room, lost_turn, lost_room}
use Rattle.ppq_fetch.proofs.Landing.{may_read, may_land, landed_is, failed_is}

-- a list that begins with another one
pub record IsLonger {X : Type 0} (xs ys : List X) : Type 0 where
  pub more : List X
  pub is : ys ≡ xs ++ more

module _ {A : Type 0} where
  set_twice : (xs : List A) (i : ℕ) (a b : A) → slice_set (slice_set xs i a) i b ≡ slice_set xs i b
  set_twice [] i a b = refl
  set_twice (x ∷ xs) zero a b = refl
  set_twice (x ∷ xs) (suc i) a b = ap (λ ys. x ∷ ys) (set_twice xs i a b)

  -- two places, each written twice
  pub set_four : (xs : List A) (p q : ℕ) (a b c d : A) → q ≢ p → slice_set (slice_set (slice_set (slice_set xs p a) q b) p c) q d ≡ slice_set (slice_set xs p c) q d
  set_four [] p q a b c d apart = refl
  set_four (x ∷ xs) zero zero a b c d apart = absurd (apart refl)
  set_four (x ∷ xs) zero (suc q) a b c d apart = ap (λ ys. c ∷ ys) (set_twice xs q b d)
  set_four (x ∷ xs) (suc p) zero a b c d apart = ap (λ ys. d ∷ ys) (set_twice xs p a c)
  set_four (x ∷ xs) (suc p) (suc q) a b c d apart = ap (λ ys. x ∷ ys) (set_four xs p q a b c d (λ e. apart (ap suc e)))

  pub map_set : {B : Type 0} (f : A → B) (xs : List A) (i : ℕ) (d b : A) → f b ≡ f (get_or xs i d) → map f (slice_set xs i b) ≡ map f xs
  map_set f [] i d b e = refl
  map_set f (x ∷ xs) zero d b e = ap (λ y. y ∷ map f xs) e
  map_set f (x ∷ xs) (suc i) d b e = ap (λ ys. f x ∷ ys) (map_set f xs i d b e)

  zip_append : (P : A → A → Type 0) (us vs : List A) → AllZip P us vs → (xs : List A) → ((x : A) → P x x) → AllZip P (xs ++ us) (xs ++ vs)
  zip_append P us vs z [] same = z
  zip_append P us vs z (x ∷ xs) same = (same x, zip_append P us vs z xs same)

module _ {X : Type 0} where
  -- what stands in front of places is the same in longer lists
  pub before_longer : (cs : List ℕ) (qs rs : List (List X)) → AllZip IsLonger qs rs → AreWithin cs qs → AreWithin cs rs × (before cs rs ≡ before cs qs)
  before_longer [] [] [] z w = (tt, refl)
  before_longer [] [] (r ∷ rs) z w = absurd z
  before_longer [] (q ∷ qs) rs z w = absurd w
  before_longer (c ∷ cs) [] rs z w = absurd w
  before_longer (c ∷ cs) (q ∷ qs) [] z w = absurd z
  before_longer (c ∷ cs) (q ∷ qs) (r ∷ rs) z w =
      let rest = before_longer cs qs rs z.1 w.1 in
      ((omega (arith, w.0, ap length z.0.is, length-append q z.0.more), rest.0), ap₂ (λ us vs. us ++ vs) (ap (take c) z.0.is ∙ take-append-le c q z.0.more w.0) rest.1)

longer_same : {X : Type 0} (xs : List X) → IsLonger xs xs
longer_same xs = record { more = []; is = sym (append-nil xs) }

module _ {S R : Type 0} where
  -- a block was loaded at the end of one run
  pub longer_set : (internal : List (Run R)) (arrays : List (External S R)) (i : ℕ) (d b : External S R) → IsLonger (loaded_of (get_or arrays i d)) (loaded_of b) → AllZip IsLonger (loaded_lists internal arrays) (loaded_lists internal (slice_set arrays i b))
  longer_set internal arrays i d b longer =
      let P = λ (x y : External S R). IsLonger (loaded_of x) (loaded_of y) in
      zip_append IsLonger (map loaded_of arrays) (map loaded_of (slice_set arrays i b))
      (zip_rec P (λ xs ys. AllZip IsLonger (map loaded_of xs) (map loaded_of ys)) tt (λ x y xs ys p k. (p, k)) arrays (slice_set arrays i b) (zip_set P (λ x. longer_same (loaded_of x)) arrays i d b longer))
      (map items_of internal) longer_same

  -- a run whose first stored block was lifted has what is loaded, and as many records
  pub lifted_lists : (record_of : List ℕ → R) (width : ℕ) (shown : S → Shown) (internal : List (Run R)) (arrays : List (External S R)) (i : ℕ) (d m : External S R) (idle idle' : List (Block R)) (job : Job (DeviceBlock S R) R) → BlockLifted record_of width shown (get_or arrays i d) m idle idle' job
      → loaded_lists internal (slice_set arrays i m) ≡ loaded_lists internal arrays
  lifted_lists record_of width shown internal arrays i d m idle idle' job l = ap (λ qs. map items_of internal ++ qs) (map_set loaded_of arrays i d m (ap (λ (z : External S R). loaded_of z) l.array))

  pub lifted_count : (record_of : List ℕ → R) (width : ℕ) (shown : S → Shown) (internal : List (Run R)) (arrays : List (External S R)) (i : ℕ) (d m : External S R) (idle idle' : List (Block R)) (job : Job (DeviceBlock S R) R) → i < length arrays → BlockLifted record_of width shown (get_or arrays i d) m idle idle' job
      → count_in internal (slice_set arrays i m) ≡ count_in internal arrays
  lifted_count record_of width shown internal arrays i d m idle idle' job h l =
      let a = get_or arrays i d in
      let size : size_of m ≡ size_of a = omega (
        arith,
        ap (λ (z : External S R). length (items_of z.loaded)) l.array,
        ap (λ (z : External S R). counts (waiting z)) l.array,
        ap counts (append_assoc a.lifted (job.slot ∷ []) m.stored),
        ap (λ bs. counts (a.lifted ++ bs)) l.stored,
      ) in
      omega (arith, sum_by-set size_of arrays i m d h, size)

  -- two blocks fewer are loaded ahead than may be, so there are two idle buffers
  pub two_idle : (shown : S → Shown) (width ahead p q : ℕ) (s : State S R) → AreSources shown width ahead s → MayReadTwo s.external ahead p q → 2 ≤ length s.idle
  two_idle shown width ahead p q s h two = omega (arith, h.fronts, two.room, fronts-le s.external)

  pub stored_at : (arrays : List (External S R)) (i : ℕ) (d : External S R) → HasStored arrays i → 0 < length (get_or arrays i d).stored
  stored_at arrays i d has = omega (arith, has.stored, ap (λ (z : External S R). length z.stored) (get_or_from_slice_get arrays i has.array d has.here))

  pub stored_within : (arrays : List (External S R)) (i : ℕ) → HasStored arrays i → i < length arrays
  stored_within arrays i has = slice_get_within arrays i has.array has.here

  pub none_there : (arrays : List (External S R)) → Each (λ (a : External S R). a.lifted ≡ []) arrays → (i : ℕ) (d : External S R) → i < length arrays → (get_or arrays i d).lifted ≡ []
  none_there arrays none i d h = All-get_or (λ (a : External S R). a.lifted ≡ []) arrays i d h (All-from_recursion (λ (a : External S R). a.lifted ≡ []) arrays none)

  -- the second run, after the first one has changed
  pub second_stored : (arrays : List (External S R)) (p q : ℕ) (x d : External S R) → q ≢ p → HasStored arrays q → 0 < length (get_or (slice_set arrays p x) q d).stored
  second_stored arrays p q x d apart has = omega (arith, stored_at arrays q d has, ap (λ (z : External S R). length z.stored) (get_or-set_other arrays p q x d apart))

  pub lift_as : (record_of : List ℕ → R) (width : ℕ) (shown : S → Shown) (arrays : List (External S R)) (p q : ℕ) (x d m : External S R) (idle idle' : List (Block R)) (job : Job (DeviceBlock S R) R) → q ≢ p → BlockLifted record_of width shown (get_or (slice_set arrays p x) q d) m idle idle' job → BlockLifted record_of width shown (get_or arrays q d) m idle idle' job
  lift_as record_of width shown arrays p q x d m idle idle' job apart l = subst (λ a. BlockLifted record_of width shown a m idle idle' job) (get_or-set_other arrays p q x d apart) l

module _ {S R : Type 0} (bytes_of : R → List ℕ) (record_of : List ℕ → R) (width : ℕ) (shown : S → Shown) where
  -- a run whose first block was lifted, in a state in which nothing of it was
  module _ (ahead : ℕ) (s : State S R) (sources : AreSources shown width ahead s) (i : ℕ) (d m : External S R) (idle idle' : List (Block R)) (job : Job (DeviceBlock S R) R) (h : i < length s.external) (lifted : BlockLifted record_of width shown (get_or s.external i d) m idle idle' job) where
    size : HasSlot shown (s.stock.block * width) job.slot
    size = All-head (HasSlot shown (s.stock.block * width)) job.slot m.stored (subst (All (HasSlot shown (s.stock.block * width))) lifted.stored (All-get_or (HasSlots shown (s.stock.block * width)) s.external i d h sources.external))

    pub may_read_at : 1 ≤ width → HasBlock s.stock.block job.buf → MayRun width (λ (b : DeviceBlock S R). shown b.slot) job
    may_read_at w has = may_read bytes_of record_of width shown (get_or s.external i d) m idle idle' job lifted s.stock.block w size has

    pub may_land_at : (get_or s.external i d).lifted ≡ [] → (job' : Job (DeviceBlock S R) R) → IsDone bytes_of record_of width (λ (b : DeviceBlock S R). shown b.slot) job job' → MayLand record_of width shown job' m s.stock
    may_land_at none job' done =
        may_land bytes_of record_of width shown (get_or s.external i d) m idle idle' job lifted none job' done s.stock size
        (omega (arith, sources.takes_back.slots, slots_long record_of width shown s.external, get_or-le-sum_by (λ (a : External S R). length a.stored) s.external i d h, ap length lifted.stored))
        (omega (arith, sources.few_buffers, get_or-le-sum_by (λ (a : External S R). length (buffers_of a.loaded)) s.external i d h))

  module _ (w : 1 ≤ width) (internal : List (Run R)) (arrays : List (External S R)) (idle0 : List (Block R)) (stock0 : Stock) (ahead p q : ℕ) (may : MayFetch shown width ahead (state internal arrays idle0 stock0)) (two : MayReadTwo arrays ahead p q) (dp dq m1 m2 : External S R) (idle1 idle2 : List (Block R))
      (j1 j2 k1 k2 : Job (DeviceBlock S R) R) (l1 : BlockLifted record_of width shown (get_or arrays p dp) m1 idle0 idle1 j1) (l2 : BlockLifted record_of width shown (get_or (slice_set arrays p m1) q dq) m2 idle1 idle2 j2)
      (done1 : IsDone bytes_of record_of width (λ (b : DeviceBlock S R). shown b.slot) j1 k1) (done2 : IsDone bytes_of record_of width (λ (b : DeviceBlock S R). shown b.slot) j2 k2) where
    abbrev first : State S R
    first = state internal arrays idle0 stock0

    here : p < length arrays
    here = stored_within arrays p two.one

    none_at : (i : ℕ) (d : External S R) → i < length arrays → (get_or arrays i d).lifted ≡ []
    none_at = none_there arrays may.none_lifted

    there : (x : External S R) → q < length (slice_set arrays p x)
    there x = omega (arith, stored_within arrays q two.other, length-set arrays p x)

    -- the second run is the same, whatever stands at the place of the first
    second : (x y : External S R) → get_or (slice_set arrays p x) q dq ≡ get_or (slice_set arrays p y) q dq
    second x y = get_or-set_other arrays p q x dq two.apart ∙ sym (get_or-set_other arrays p q y dq two.apart)

    none_second : (x : External S R) → (get_or (slice_set arrays p x) q dq).lifted ≡ []
    none_second x = ap (λ (z : External S R). z.lifted) (get_or-set_other arrays p q x dq two.apart) ∙ none_at q dq (stored_within arrays q two.other)

    -- The first block was taken, so that so many buffers are idle: either way the second one may be
    pub record FirstTaken (r : Option ℕ) (x : External S R) (idle : List (Block R)) (stock : Stock) : Type 0 where
      pub before : List (Block R)
      pub after : List (Block R)
      pub idle_is : idle ≡ after
      pub lift : BlockLifted record_of width shown (get_or (slice_set arrays p x) q dq) m2 before after j2
      pub parts : PartsKept shown first (state internal (slice_set arrays p x) before stock)
      pub sources : AreSources shown width ahead (state internal (slice_set arrays p x) before stock)
      pub room : external_buffers (slice_set arrays p x) < fronts_in (slice_set arrays p x) + ahead
      pub failed : IfSome r (λ number. FetchFailed shown number first (state internal (slice_set arrays p x) before stock))

    -- what stands at both places once both are lifted, and once the first is taken
    pub first_at : (d : External S R) → get_or (slice_set (slice_set arrays p m1) q m2) p d ≡ m1
    first_at d = get_or-set_other (slice_set arrays p m1) q p m2 d (λ e. two.apart (sym e)) ∙ get_or-set_same arrays p m1 d here

    pub second_at : (x d : External S R) → get_or (slice_set (slice_set (slice_set arrays p m1) q m2) p x) q d ≡ m2
    second_at x d = get_or-set_other (slice_set (slice_set arrays p m1) q m2) p q x d two.apart ∙ get_or-set_same (slice_set arrays p m1) q m2 d (there m1)

    -- the first block was taken
    module _ (a x : External S R) (is1 : a ≡ m1) (idle : List (Block R)) (stock : Stock) where
      loaded1 : BlockLanded record_of width shown k1 a x stock0 stock → BlockLoaded record_of width shown (get_or arrays p dp) x idle0 idle1 stock0 stock
      loaded1 l = landed_is bytes_of record_of width shown (get_or arrays p dp) m1 idle0 idle1 j1 l1 (none_at p dp here) k1 done1 x stock0 stock (subst (λ m. BlockLanded record_of width shown k1 m x stock0 stock) is1 l)

      lost1 : (number : ℕ) → BlockFailed shown number k1 stock0 stock → x ≡ a → BlockLost record_of width shown number (get_or arrays p dp) x idle0 (idle1 ++ k1.buf ∷ []) stock0 stock
      lost1 number f e =
          subst (λ y. BlockLost record_of width shown number (get_or arrays p dp) y idle0 (idle1 ++ k1.buf ∷ []) stock0 stock) (sym (e ∙ is1)) (failed_is bytes_of record_of width shown (get_or arrays p dp) m1 idle0 idle1 j1 l1 (none_at p dp here) k1 done1 number (idle1 ++ k1.buf ∷ []) stock0 stock f refl)

      lift_second : BlockLifted record_of width shown (get_or (slice_set arrays p x) q dq) m2 idle1 idle2 j2
      lift_second = subst (λ a. BlockLifted record_of width shown a m2 idle1 idle2 j2) (second m1 x) l2

      pub taken_first : (r : Option ℕ) → IfNone r (BlockLanded record_of width shown k1 a x stock0 stock × (idle ≡ idle2)) → IfSome r (λ number. BlockFailed shown number k1 stock0 stock × ((x ≡ a) × (idle ≡ idle2 ++ k1.buf ∷ []))) → FirstTaken r x idle stock
      taken_first None landed failed =
          let l = loaded1 landed.0 in
          record {
            before = idle1;
            after = idle2;
            idle_is = landed.1;
            lift = lift_second;
            parts = loaded_parts record_of width shown internal arrays p dp x idle0 idle1 stock0 stock here l ahead may.sources;
            sources = loaded_sources record_of width shown internal arrays p dp x idle0 idle1 stock0 stock here l ahead w may.sources (none_at p dp here) (inr (omega (arith, two.room)));
            room = loaded_room record_of width shown internal arrays p dp x idle0 idle1 stock0 stock here l ahead two.room;
            failed = tt;
          }
      taken_first (Some number) landed failed =
          let l = lost1 number failed.0 failed.1.0 in
          let turn = lost_turn record_of width shown internal arrays p dp x idle0 (idle1 ++ k1.buf ∷ []) stock0 stock here number l ahead may.sources (none_at p dp here) in
          let up = lift_second in
          record {
            before = idle1 ++ k1.buf ∷ [];
            after = idle2 ++ k1.buf ∷ [];
            idle_is = failed.1.1;
            lift = record { stored = up.stored; array = up.array; taken = ap (λ bs. bs ++ k1.buf ∷ []) up.taken; kind = up.kind; labelled = up.labelled };
            parts = turn.failed.parts;
            sources = turn.sources;
            room = lost_room record_of width shown internal arrays p dp x idle0 (idle1 ++ k1.buf ∷ []) stock0 stock here number l ahead two.room;
            failed = turn.failed;
          }

      module _ (r : Option ℕ) (f : FirstTaken r x idle stock) where
        -- the second one may be taken
        pub may_land_second : MayLand record_of width shown k2 m2 stock
        may_land_second = may_land_at ahead (state internal (slice_set arrays p x) f.before stock) f.sources q dq m2 f.before f.after j2 (there x) f.lift (none_second x) k2 done2

        pub few_idle_second : length idle < 2 ^ 32 - 1
        few_idle_second = omega (arith, f.sources.few_buffers, ap length f.lift.taken, ap length f.idle_is)

      -- and then the second one
      module _ (b y : External S R) (is2 : b ≡ m2) (last : List (Block R)) (end : Stock) where
        abbrev arrays4 : List (External S R)
        arrays4 = slice_set (slice_set (slice_set (slice_set arrays p m1) q m2) p x) q y

        abbrev final : State S R
        final = state internal arrays4 last end

        final_is : (bs : List (Block R)) → last ≡ bs → state internal (slice_set (slice_set arrays p x) q y) bs end ≡ final
        final_is bs e = ap₂ (λ xs ls. state internal xs ls end) (sym (set_four arrays p q m1 m2 x y two.apart)) (sym e)

        landed2 : BlockLanded record_of width shown k2 b y stock end → BlockLanded record_of width shown k2 m2 y stock end
        landed2 l = subst (λ m. BlockLanded record_of width shown k2 m y stock end) is2 l

        loaded2 : (before after : List (Block R)) → BlockLifted record_of width shown (get_or (slice_set arrays p x) q dq) m2 before after j2 → BlockLanded record_of width shown k2 b y stock end → BlockLoaded record_of width shown (get_or (slice_set arrays p x) q dq) y before after stock end
        loaded2 before after lift l = landed_is bytes_of record_of width shown (get_or (slice_set arrays p x) q dq) m2 before after j2 lift (none_second x) k2 done2 y stock end (landed2 l)

        lost2 :
            (before after : List (Block R)) → BlockLifted record_of width shown (get_or (slice_set arrays p x) q dq) m2 before after j2
            → (number : ℕ) → BlockFailed shown number k2 stock end → y ≡ b → BlockLost record_of width shown number (get_or (slice_set arrays p x) q dq) y before (after ++ k2.buf ∷ []) stock end
        lost2 before after lift number f e =
            subst (λ z. BlockLost record_of width shown number (get_or (slice_set arrays p x) q dq) z before (after ++ k2.buf ∷ []) stock end) (sym (e ∙ is2))
            (failed_is bytes_of record_of width shown (get_or (slice_set arrays p x) q dq) m2 before after j2 lift (none_second x) k2 done2 number (after ++ k2.buf ∷ []) stock end f refl)

        -- the second one was taken, whatever became of the first
        second_sources :
            (r r' : Option ℕ) (f : FirstTaken r x idle stock) → IfNone r' (BlockLanded record_of width shown k2 b y stock end × (last ≡ idle)) → IfSome r' (λ number. BlockFailed shown number k2 stock end × ((y ≡ b) × (last ≡ idle ++ k2.buf ∷ [])))
            → PartsKept shown (state internal (slice_set arrays p x) f.before stock) final × AreSources shown width ahead final
        second_sources r None f landed failed =
            let l = loaded2 f.before f.after f.lift landed.0 in
            subst (λ s. PartsKept shown (state internal (slice_set arrays p x) f.before stock) s × AreSources shown width ahead s) (final_is f.after (landed.1 ∙ f.idle_is)) (
              loaded_parts record_of width shown internal (slice_set arrays p x) q dq y f.before f.after stock end (there x) l ahead f.sources,
              loaded_sources record_of width shown internal (slice_set arrays p x) q dq y f.before f.after stock end (there x) l ahead w f.sources (none_second x) (inr f.room),
            )
        second_sources r (Some number) f landed failed =
            let l = lost2 f.before f.after f.lift number failed.0 failed.1.0 in
            let turn = lost_turn record_of width shown internal (slice_set arrays p x) q dq y f.before (f.after ++ k2.buf ∷ []) stock end (there x) number l ahead f.sources (none_second x) in
            subst (λ s. PartsKept shown (state internal (slice_set arrays p x) f.before stock) s × AreSources shown width ahead s) (final_is (f.after ++ k2.buf ∷ []) (failed.1.1 ∙ ap (λ bs. bs ++ k2.buf ∷ []) f.idle_is)) (turn.failed.parts, turn.sources)

        -- the first one failed
        pub lost_first :
            (number : ℕ) (r' : Option ℕ) (f : FirstTaken (Some number) x idle stock) → IfNone r' (BlockLanded record_of width shown k2 b y stock end × (last ≡ idle)) → IfSome r' (λ number. BlockFailed shown number k2 stock end × ((y ≡ b) × (last ≡ idle ++ k2.buf ∷ [])))
            → LostTurn shown width ahead number first final
        lost_first number r' f landed failed =
            let rest = second_sources (Some number) r' f landed failed in
            record { failed = failed_then shown number first (state internal (slice_set arrays p x) f.before stock) final f.failed rest.0; sources = rest.1 }

        module _ (cmp : R → R → Ordering) (o : IsStrictWeakOrder (is_before cmp)) (below : Option R) (here1 : BlockLanded record_of width shown k1 a x stock0 stock × (idle ≡ idle2)) where
          abbrev between : State S R
          between = state internal (slice_set arrays p x) idle1 stock

          turn1 : TookTurn cmp record_of width shown below ahead first between []
          turn1 = loaded_turn record_of width shown internal arrays p dp x idle0 idle1 stock0 stock here (loaded1 here1.0) cmp o below ahead w may (inr (omega (arith, two.room)))

          room1 : external_buffers (slice_set arrays p x) < fronts_in (slice_set arrays p x) + ahead
          room1 = loaded_room record_of width shown internal arrays p dp x idle0 idle1 stock0 stock here (loaded1 here1.0) ahead two.room

          -- the second one failed
          pub lost_second : (number : ℕ) → BlockFailed shown number k2 stock end × ((y ≡ b) × (last ≡ idle ++ k2.buf ∷ [])) → LostTurn shown width ahead number first final
          lost_second number failed =
              let l = lost2 idle1 idle2 lift_second number failed.0 failed.1.0 in
              let turn = lost_turn record_of width shown internal (slice_set arrays p x) q dq y idle1 (idle2 ++ k2.buf ∷ []) stock end (there x) number l ahead turn1.may.sources (none_second x) in
              subst (λ s. LostTurn shown width ahead number first s) (final_is (idle2 ++ k2.buf ∷ []) (failed.1.1 ∙ ap (λ bs. bs ++ k2.buf ∷ []) here1.1))
              record { failed = Failed-more cmp o record_of width shown below number first between (state internal (slice_set (slice_set arrays p x) q y) (idle2 ++ k2.buf ∷ []) end) [] turn1.fetched turn.failed; sources = turn.sources }

          -- both are loaded
          module _ (here2 : BlockLanded record_of width shown k2 b y stock end × (last ≡ idle)) where
            two_loaded : BlockLoaded record_of width shown (get_or (slice_set arrays p x) q dq) y idle1 idle2 stock end
            two_loaded = loaded2 idle1 idle2 lift_second here2.0

            turn2 : TookTurn cmp record_of width shown below ahead between (state internal (slice_set (slice_set arrays p x) q y) idle2 end) []
            turn2 = loaded_turn record_of width shown internal (slice_set arrays p x) q dq y idle1 idle2 stock end (there x) two_loaded cmp o below ahead w turn1.may (inr room1)

            -- what both loads did
            pub both_fetched : Fetched cmp record_of width shown below first final []
            both_fetched = subst (λ s. Fetched cmp record_of width shown below first s []) (final_is idle2 (here2.1 ∙ here1.1)) (Fetched-on cmp o record_of width shown below first between (state internal (slice_set (slice_set arrays p x) q y) idle2 end) [] turn1.fetched turn2.fetched)

            pub both_may : MayFetch shown width ahead final
            both_may = subst (λ s. MayFetch shown width ahead s) (final_is idle2 (here2.1 ∙ here1.1)) turn2.may

            -- the runs begin as they did
            pub both_before : (cs : List ℕ) → AreWithin cs (loaded_lists internal arrays) → AreWithin cs (loaded_lists internal arrays4) × (before cs (loaded_lists internal arrays4) ≡ before cs (loaded_lists internal arrays))
            both_before cs within =
                let x1 = loaded1 here1.0 in
                let one = before_longer cs (loaded_lists internal arrays) (loaded_lists internal (slice_set arrays p x)) (longer_set internal arrays p dp x record { more = x1.filled.items; is = x1.items }) within in
                let other = before_longer cs (loaded_lists internal (slice_set arrays p x)) (loaded_lists internal (slice_set (slice_set arrays p x) q y)) (longer_set internal (slice_set arrays p x) q dq y record { more = two_loaded.filled.items; is = two_loaded.items }) one.0 in
                subst (λ xs. AreWithin cs (loaded_lists internal xs) × (before cs (loaded_lists internal xs) ≡ before cs (loaded_lists internal arrays))) (sym (set_four arrays p q m1 m2 x y two.apart)) (other.0, other.1 ∙ one.1)
