-- A limit session: its passes, to which records are added or refused; how it begins, a batch is run, and how it ends.
use Rattle.std.proofs.Common.{◌≡◌, ℕ, ◌+◌, ◌<◌, List, [], ◌∷◌, ◌++◌, All, map, take, length, Option, None, refl, sym, ap, ap₂, ◌∙◌, subst, arith, false, Some, Ordering}
use Rattle.std.specs.Prelude.{Any, Bool, count_by, Ok, Err, Result, OnOk, OnErr, IfErr}
use Rattle.std.specs.declared.cmp.Ordering.{Ordering}
use Rattle.std.specs.declared.cmp.Ordering.TheVariants.{Equal}
use Rattle.std.specs.Cmp.{IsTotalOrder}
use Rattle.std.proofs.lemmas.List.Elements.{All-head, All-tail, All-map, recursion_from_All}
use Rattle.std.proofs.lemmas.List.{length-map}
use Rattle.ppq_pass.specs.ppq_record.Bag.{IsSameBag}
use Rattle.ppq_pass.proofs.ppq_record.Order.{count_by-append, IsSameBag-trans, Each-same_bag, Each-append}
use Rattle.ppq_pass.specs.ppq_outside.Shown.{Shown, AllTell}
use Rattle.ppq_pass.proofs.ppq_spill.SameSlots.{SameSlots-trans}
use Rattle.ppq_pass.specs.ppq_array.Owner.{slots_shown}
use Rattle.ppq_pass.specs.Passed.{PassKey, PassHolding, PassTells, with_one, IsRefusedPush}
use Rattle.ppq_pass.specs.declared.shared.Shared.{Shared}
use Rattle.ppq_queue.specs.Holding.{Holding, Keeps}
use Rattle.ppq_pass.specs.ppq_array.declared.store_fault.StoreFault.{StoreFault as QueueFault}
use Rattle.ppq_pass.specs.ppq_array.declared.store_fault.StoreFault.TheVariants.{NoFreeBlock, Device}
use Rattle.ppq_session.specs.BulkSession.{IsFresh, keys_of}
use Rattle.ppq_session.specs.Ends.{EndsWith}
use Rattle.ppq_session.specs.declared.fault.SessionEnd.{SessionEnd}
use Rattle.ppq_session.specs.declared.fault.SessionEnd.TheVariants.{Stopped}
use Rattle.ppq_session.specs.Dealing.{IsGoing, HasEnded, Dealt}
use Rattle.ppq_session.specs.Fronts.{FrontHolding}
use Rattle.ppq_session.specs.Limited.{LimitHolding, passes_of, HoldsNothing, IsLimited}
use Rattle.ppq_session.specs.LimitSession.{AreLimited, IsNew, IsTogether, LimitBegan, LimitEnded, limited_bag, front_key, of_front}
use Rattle.ppq_session.specs.declared.ask.Ask.{Ask}
use Rattle.ppq_session.specs.Asks.{answers_to, left_after, pops_in}
use Rattle.ppq_session.specs.Answering.{KeepsFront, HasAnswered}
use Rattle.ppq_session.specs.LimitSessions.{AreGoing, InLimits, IsOver, IsOverBy, begun_in}
use Rattle.ppq_session.proofs.Answered.{left_after-same, answers_to-same, removed_in-most}
use Rattle.ppq_session.proofs.Sessions.{fresh-going, given-none, given-more, end-keeps, finished-whole, finished-short, finished-stopped}
use Rattle.ppq_session.proofs.Mapped.{sum-mapped, all_mapped}
use Rattle.ppq_session.proofs.Fronted.{pass_in, none_begun}
use Rattle.ppq_session.proofs.Backed.{counts-none, counts-more, counts-whole, counts-stopped}
use Rattle.std.specs.List.{AllByRecursion as Each}
use Rattle.ppq_pass.specs.ppq_record.Order.{is_before}
use Rattle.ppq_pass.specs.ppq_fetch.Taking.{NoneBelow}

module _ {S R : Type 0} (shown : S → Shown) (cmp : R → R → Ordering) (limit : R) where
  -- a pass without records
  pub limited-first : (pass : PassHolding S R) → HoldsNothing pass → IsLimited shown cmp limit pass
  limited-first pass h =
      record {
        tells = λ t. subst (λ (l : List Shown). AllTell (l ++ slots_shown shown pass.key.items)) (sym h.slots) t;
        above = λ t none. subst (λ (l : List R). NoneBelow cmp (Some limit) l) (sym h.bag) tt;
      }

  -- one record more is not below the limit
  more_above : (r : R) (old new : List R) → is_before cmp r limit ≡ false → NoneBelow cmp (Some limit) old → IsSameBag new (r ∷ old) → NoneBelow cmp (Some limit) new
  more_above r old new high h s = Each-same_bag (λ x. is_before cmp x limit) (r ∷ old) new (λ p. sym (s p)) (high, h)

  -- in another order
  same_above : (old new : List R) → NoneBelow cmp (Some limit) old → IsSameBag new old → NoneBelow cmp (Some limit) new
  same_above old new h s = Each-same_bag (λ x. is_before cmp x limit) old new (λ p. sym (s p)) h

  module _ (old new : PassHolding S R) (r : R) (is : IsLimited shown cmp limit old) (high : is_before cmp r limit ≡ false) where
    abbrev told : Type 0
    told = AllTell (slots_shown shown new.key.items)

    -- the heap took it, or was full
    pub limited-tried : {T E : Type 0} (result : Result T E) → OnOk result (IsSameBag new.bag (r ∷ old.bag)) → OnOk result (new ≡ with_one old new.bag) → OnErr result (new ≡ old) → IsLimited shown cmp limit new
    limited-tried (Ok v) added one same =
        let key : new.key ≡ old.key = ap (λ p. p.key) one in
        let slots : new.slots ≡ old.slots = ap (λ p. p.slots) one in
        record {
          tells = λ t.
              let was = subst (λ k. AllTell (slots_shown shown k.items)) key t in
              subst (λ p. PassTells shown p) (sym one) (is.tells was);
          above = λ t none. more_above r old.bag new.bag high (is.above (subst (λ k. AllTell (slots_shown shown k.items)) key t) (sym (ap (λ p. p.failed) one) ∙ none)) added;
        }
    limited-tried (Err e) added one same = subst (λ p. IsLimited shown cmp limit p) (sym same) is

    module _ (key : new.key ≡ old.key) where
      was : told → AllTell (slots_shown shown old.key.items)
      was t = subst (λ k. AllTell (slots_shown shown k.items)) key t

      after :
          {T : Type 0} (result : Result T (R × QueueFault)) (failed : Option ℕ)
          → old.failed ≡ failed → OnOk result (PassTells shown old → IsSameBag new.bag (r ∷ old.bag)) → IfErr result (λ e. IsRefusedPush old new e.1)
          → ((number : ℕ) → old.failed ≡ Some number → (result ≡ Err (r, Device number)) × (new ≡ old)) → told → new.failed ≡ None → NoneBelow cmp (Some limit) new.bag
      after result (Some number) f added refused latched t none = absurd (let e : ◌≡◌ {A = Option ℕ} (Some number) None = sym f ∙ sym (ap (λ p. p.failed) (latched number f).1) ∙ none in cc)
      after (Ok v) None f added refused latched t none = more_above r old.bag new.bag high (is.above (was t) f) (added (is.tells (was t)))
      after (Err (back, NoFreeBlock)) None f added refused latched t none = same_above old.bag new.bag (is.above (was t) f) refused.bag
      after (Err (back, Device number)) None f added refused latched t none = absurd (let e : ◌≡◌ {A = Option ℕ} (Some number) None = sym refused.kept ∙ none in cc)

      pub limited-pushed :
          {T : Type 0} (result : Result T (R × QueueFault))
          → OnOk result (PassTells shown old → IsSameBag new.bag (r ∷ old.bag)) → IfErr result (λ e. IsRefusedPush old new e.1)
          → ((number : ℕ) → old.failed ≡ Some number → (result ≡ Err (r, Device number)) × (new ≡ old)) → (PassTells shown old → PassTells shown new)
          → IsLimited shown cmp limit new
      limited-pushed result added refused latched tells = record { tells = λ t. tells (is.tells (was t)); above = after result old.failed refl added refused latched }

module _ {S R : Type 0} (shown : S → Shown) (cmp : R → R → Ordering) (front : FrontHolding S R) where
  above-each :
      (passes : List (LimitHolding S R)) → AllTell (slots_shown shown front.items)
      → Each (λ p. p.pass.key ≡ front_key front) passes → Each (λ p. p.limit ≡ front.limit) passes → Each (λ p. IsLimited shown cmp p.limit p.pass) passes
      → Each (λ p. p.pass.failed ≡ None) passes → NoneBelow cmp (Some front.limit) (limited_bag passes)
  above-each [] tell keys limits known sound = tt
  above-each (p ∷ ps) tell keys limits known sound =
      let told = subst (λ (k : PassKey S R). AllTell (slots_shown shown k.items)) (sym keys.0) tell in
      let none = subst (λ (l : R). NoneBelow cmp (Some l) p.pass.bag) limits.0 (known.0.above told sound.0) in
      Each-append (λ x. is_before cmp x front.limit ≡ false) p.pass.bag (limited_bag ps) none (above-each ps tell keys.1 limits.1 known.1 sound.1)

  -- no pass of a session has a record below its limit
  pub passes-above :
      (passes : List (LimitHolding S R))
      → AreLimited front passes → All (λ p. IsLimited shown cmp p.limit p.pass) passes → AllTell (slots_shown shown front.items)
      → All (λ p. p.pass.failed ≡ None) passes → NoneBelow cmp (Some front.limit) (limited_bag passes)
  passes-above passes are known tell sound =
      above-each passes tell (recursion_from_All (λ p. p.pass.key ≡ front_key front) passes are.keys) (recursion_from_All (λ p. p.limit ≡ front.limit) passes are.limits)
      (recursion_from_All (λ p. IsLimited shown cmp p.limit p.pass) passes known) (recursion_from_All (λ p. p.pass.failed ≡ None) passes sound)

module _ {S R : Type 0} where
  fresh-all : (passes : List (LimitHolding S R)) → All IsNew passes → All IsFresh (passes_of passes)
  fresh-all passes new = All-map IsFresh (λ (p : LimitHolding S R). p.pass) passes (λ k d l. (new k d l).fresh)

  pub going-begin : (front : FrontHolding S R) (passes : List (LimitHolding S R)) → All IsNew passes → front.failed ≡ None → AreGoing (record { front = front; passes = passes })
  going-begin front passes new sound = record { passes = fresh-going (passes_of passes) (fresh-all passes new); front = sound }

  fresh-bag : (passes : List (LimitHolding S R)) → All IsNew passes → limited_bag passes ≡ []
  fresh-bag [] new = refl
  fresh-bag (p ∷ ps) new =
      ap₂ (λ (xs ys : List R). xs ++ ys) (All-head IsNew p ps new).nothing.bag (fresh-bag ps (All-tail IsNew p ps new))

  -- what a batch keeps: the passes are all of the session still
  pub limited-keep :
      (popped : ℕ) (old new : FrontHolding S R) (olds news : List (LimitHolding S R)) → KeepsFront popped old new → keys_of (passes_of news) ≡ keys_of (passes_of olds)
      → map (λ p. p.limit) news ≡ map (λ p. p.limit) olds → AreLimited old olds → AreLimited new news
  limited-keep popped old new olds news keeps keys limits of =
      let pass_of = λ (p : LimitHolding S R). p.pass in
      let limit_of = λ (p : LimitHolding S R). p.limit in
      let key_of = λ (q : PassHolding S R). q.key in
      let Keyed = λ (k : PassKey S R). k ≡ front_key new in
      let Limits = λ (l : R). l ≡ new.limit in
      let had : All (λ (p : LimitHolding S R). p.pass.key ≡ front_key new) olds = subst (λ k. All (λ (p : LimitHolding S R). p.pass.key ≡ k) olds) (sym (ap front_key keeps.rest)) of.keys in
      let were : All (λ (p : LimitHolding S R). p.limit ≡ new.limit) olds = subst (λ l. All (λ (p : LimitHolding S R). p.limit ≡ l) olds) (sym (ap (λ (f : FrontHolding S R). f.limit) keeps.rest)) of.limits in
      record {
        count = sym (length-map news limit_of) ∙ (ap length limits ∙ (length-map olds limit_of ∙ (of.count ∙ sym (ap (λ (f : FrontHolding S R). f.sizes.workers) keeps.rest))));
        keys =
            all_mapped pass_of (λ (q : PassHolding S R). Keyed q.key) news
            (all_mapped key_of Keyed (passes_of news) (subst (All Keyed) (sym keys) (All-map Keyed key_of (passes_of olds) (All-map (λ (q : PassHolding S R). Keyed q.key) pass_of olds had))));
        limits = all_mapped limit_of Limits news (subst (All Limits) (sym limits) (All-map Limits limit_of olds were));
      }

  -- where no block was free, the queue has all records
  pub over-by :
      (shown : S → Shown) (front : FrontHolding S R) (passes : List (LimitHolding S R)) (new : Holding R) (fault : QueueFault) → EndsWith shown (of_front front) (passes_of passes) new (Stopped fault)
      → IsOverBy shown (record { front = front; passes = passes }) new fault
  over-by shown front passes new NoFreeBlock end = end.0
  over-by shown front passes new (Device number) end = end

  module _ (shown : S → Shown) where
    -- a pass without records tells where the slots in the row tell
    new-tells : (front : FrontHolding S R) (passes : List (LimitHolding S R)) → AreLimited front passes → All IsNew passes → AllTell (slots_shown shown front.items) → All (PassTells shown) (passes_of passes)
    new-tells front passes of new t =
        All-map (PassTells shown) (λ (p : LimitHolding S R). p.pass) passes
        (λ k d l. subst AllTell (sym (ap₂ (λ xs ys. xs ++ slots_shown shown ys) (new k d l).nothing.slots (ap (λ key. key.items) (of.keys k d l)))) t)

    -- the session has begun
    pub session-begin :
        (queue : Holding R) (limit : R) (front : FrontHolding S R) (shared : Shared S R) (passes : List (LimitHolding S R)) → LimitBegan queue limit front shared passes → (AllTell front.slots → AllTell (slots_shown shown front.items))
        → InLimits shown queue limit [] queue.bag 0 (record { front = front; passes = passes })
    session-begin queue limit front shared passes began items = record {
      keeps = record {
        sizes = began.sizes;
        limited = refl;
        peak = began.peak;
        total = omega (arith, began.size, began.unpopped);
        slots = began.slots;
        tells = λ t. (began.tells t, new-tells front passes began.of began.new (items (began.tells t)));
        writes = began.writes;
        quiet = λ _. began.quiet;
      };
      limit_is = began.limit_is;
      popped_is = omega (arith, began.unpopped);
      rest = λ _ t. began.bag t;
      given_are = given-none queue.slots [] (passes_of passes) (limited_bag passes) (fresh-all passes began.new) (λ t p. ap (count_by p) (fresh-bag passes began.new));
      counted =
          counts-none queue (of_front front) (passes_of passes) began.counts
          (omega (arith, sum-mapped pass_in (λ (q : PassHolding S R). q.key.begun) passes, none_begun front passes began.of.keys))
          (All-map (λ (p : PassHolding S R). p.key.sizes ≡ queue.sizes) (λ (p : LimitHolding S R). p.pass) passes (λ k d l. ap (λ key. key.sizes) (began.of.keys k d l) ∙ began.sizes))
          (fresh-all passes began.new);
    }

    module _ (queue : Holding R) (limit : R) (given left : List R) (popped : ℕ) where
      -- a batch was run: its records were given to passes that all went on, and its asks were answered
      pub session-run :
          {cmp : R → R → Ordering} → IsTotalOrder cmp → ((x y : R) → cmp x y ≡ Equal → x ≡ y) → (more : List R) (asks : List Ask) (answers : List (Option R)) (old new : FrontHolding S R) (olds news : List (LimitHolding S R))
          → AreGoing (record { front = old; passes = olds }) → Dealt shown more (passes_of olds) (passes_of news) → HasAnswered cmp asks answers old new
          → InLimits shown queue limit given left popped (record { front = old; passes = olds })
          → InLimits shown queue limit (given ++ more) (left_after cmp limit left asks) (popped + pops_in asks) (record { front = new; passes = news })
      session-run {cmp} o equal more asks answers old new olds news going dealt answered s =
          let kept = answered.kept in
          let k = s.keeps in
          record {
            keeps = record {
              sizes = ap (λ (f : FrontHolding S R). f.sizes) kept.rest ∙ k.sizes;
              limited = refl;
              peak = ap (λ (f : FrontHolding S R). f.peak) kept.rest ∙ k.peak;
              total = kept.total ∙ k.total;
              slots = SameSlots-trans queue.slots old.slots new.slots k.slots kept.slots;
              tells = λ t. (kept.tells (k.tells t).0, dealt.tells (k.tells t).1);
              writes = omega (arith, kept.writes, k.writes);
              quiet = λ sound. answered.quiet sound ∙ k.quiet going.front;
            };
            limit_is = ap (λ (f : FrontHolding S R). f.limit) kept.rest ∙ s.limit_is;
            popped_is = omega (arith, kept.popped, s.popped_is, removed_in-most asks answers);
            rest = λ sound t.
                IsSameBag-trans new.bag (left_after cmp limit old.bag asks) (left_after cmp limit left asks)
                (subst (λ l. IsSameBag new.bag (left_after cmp l old.bag asks)) s.limit_is (answered.left sound (k.tells t).0))
                (left_after-same o equal limit old.bag left asks (s.rest going.front t));
            given_are = given-more queue.slots [] shown given more (limited_bag olds) (limited_bag news) (passes_of olds) (passes_of news) (λ p. omega arith) (λ t. (k.tells t).1) going.passes dealt s.given_are;
            counted = counts-more queue (of_front old) (of_front new) (passes_of olds) (passes_of news) (ap (λ (f : FrontHolding S R). f.counts) kept.rest) dealt.keys dealt.backed going.passes s.counted;
          }

      -- the answers are those of what was left before
      pub session-answers :
          {cmp : R → R → Ordering} → IsTotalOrder cmp → ((x y : R) → cmp x y ≡ Equal → x ≡ y) → (asks : List Ask) (answers : List (Option R)) (old new : FrontHolding S R) (olds : List (LimitHolding S R)) → AreGoing (record { front = old; passes = olds }) → HasAnswered cmp asks answers old new
          → InLimits shown queue limit given left popped (record { front = old; passes = olds }) → AllTell queue.slots → answers ≡ take (length answers) (answers_to cmp limit left asks)
      session-answers {cmp} o equal asks answers old new olds going answered s t =
          answered.are (s.keeps.tells t).0
          ∙ ap (take (length answers)) (ap (λ l. answers_to cmp l old.bag asks) s.limit_is ∙ answers_to-same o equal limit old.bag left asks (s.rest going.front t))

      module _ (front : FrontHolding S R) (passes : List (LimitHolding S R)) (s : InLimits shown queue limit given left popped (record { front = front; passes = passes })) (new : Holding R) (how : SessionEnd) (e : LimitEnded shown front passes new how) where
        kept : Keeps (begun_in queue) new
        kept = end-keeps shown (begun_in queue) (of_front front) (passes_of passes) s.keeps new how e

        sum : front.failed ≡ None → AllTell queue.slots → (p : R → Bool) → count_by p (front.bag ++ limited_bag passes) + count_by p (let none : List R = [] in none) ≡ count_by p (limited_bag passes) + count_by p left
        sum sound t p = omega (arith, s.rest sound t p, count_by-append p front.bag (limited_bag passes))

        pub over-whole : {T : Type 0} (value : T) → IsTogether shown front passes new → All IsGoing (passes_of passes) → IsOver queue given left popped new (Ok value)
        over-whole value end going =
            finished-whole shown (begun_in queue) (of_front front) (passes_of passes) s.keeps new queue given left [] (limited_bag passes) popped s.given_are s.popped_is sum end value kept going (counts-whole shown queue (of_front front) (passes_of passes) s.counted new how e kept.sizes (length given) s.given_are.most value going)

        pub over-short : {T : Type 0} → IsTogether shown front passes new → 0 < front.sizes.block → Any HasEnded (passes_of passes) → IsOver {T = T} queue given left popped new (Err NoFreeBlock)
        over-short end some ended =
            finished-short shown (begun_in queue) (of_front front) (passes_of passes) s.keeps new queue given left [] (limited_bag passes) popped s.given_are s.popped_is sum end kept some ended (counts-stopped shown queue (of_front front) (passes_of passes) s.counted new how e kept.sizes (length given) s.given_are.most NoFreeBlock)

        pub over-stopped : {T : Type 0} (fault : QueueFault) → EndsWith shown (of_front front) (passes_of passes) new (Stopped fault) → 0 < front.sizes.block → IsOver {T = T} queue given left popped new (Err fault)
        over-stopped fault end some =
            finished-stopped shown (begun_in queue) (of_front front) (passes_of passes) s.keeps new queue given left [] (limited_bag passes) popped s.given_are s.popped_is sum fault kept some e.sizes end (counts-stopped shown queue (of_front front) (passes_of passes) s.counted new how e kept.sizes (length given) s.given_are.most fault)
