-- Records that are given to the passes of a session of either kind, and its end; and a bulk session, which begins, gets records and ends.
use Rattle.std.proofs.Common.{◌≡◌, ◌+◌, ◌<◌, List, [], ◌++◌, All, refl, sym, ap, ◌∙◌, arith, length, inl, inr, ℕ, ◌≤◌, true, ◌∷◌, take, max, subst, length-append, get_or}
use Rattle.std.specs.Prelude.{Any, Result, Ok, Err, Bool, Option, Some, None, count_by}
use Rattle.ppq_pass.proofs.ppq_record.Order.{count_by-append}
use Rattle.ppq_pass.specs.ppq_outside.Shown.{Shown, AllTell}
use Rattle.std.proofs.lemmas.List.{length-map}
use Rattle.ppq_pass.specs.ppq_budget.Sizes.{AreInRange}
use Rattle.ppq_pass.specs.Passed.{PassKey, PassHolding, PassTells}
use Rattle.ppq_pass.specs.declared.shared.Shared.{Shared}
use Rattle.ppq_queue.specs.Holding.{Holding, CountsFew}
use Rattle.ppq_pass.specs.ppq_array.declared.store_fault.StoreFault.{StoreFault as QueueFault}
use Rattle.ppq_pass.specs.ppq_array.declared.store_fault.StoreFault.TheVariants.{NoFreeBlock, Device}
use Rattle.ppq_session.specs.BulkSession.{BulkHolding, AreOf, BulkEnded, IsTogether, keys_of, shared_by, pass_key, bag_of, of_bulk, IsFresh}
use Rattle.ppq_session.specs.Ends.{EndsWith, Staying, HasAll, HasNoBlock, SessionEnded, NamesFirst, first_fault, bag_of, accepted_of}
use Rattle.ppq_session.specs.Opened.{BulkBegan}
use Rattle.ppq_session.specs.declared.fault.SessionEnd.{SessionEnd}
use Rattle.ppq_session.specs.declared.fault.SessionEnd.TheVariants.{Whole, Stopped}
use Rattle.ppq_session.specs.Dealing.{IsGoing, HasEnded, MayAdd, Dealt, AddsPart}
use Rattle.ppq_session.specs.Given.{IsFinished, KeepsQueue, WereGiven}
use Rattle.ppq_session.proofs.Backed.{counts-none, counts-more, counts-whole, counts-stopped}
use Rattle.ppq_session.specs.Sessions.{SessionHolding, InSession, IsLoaded, IsLeftBy}
use Rattle.ppq_session.proofs.Mapped.{sum-mapped, all_mapped}
use Rattle.std.proofs.Math.Seq.{take-append_seam}
use Rattle.std.proofs.lemmas.List.Sums.{sum_by-cons}
use Rattle.std.proofs.lemmas.List.Elements.{All-head, All-tail}
use Rattle.ppq_pass.specs.ppq_record.Bag.{IsSameBag}
use Rattle.ppq_pass.proofs.ppq_spill.SameSlots.{SameSlots-trans}
use Rattle.ppq_session.specs.Refusal.{Keeps, HasNoRoom}
use Rattle.ppq_session.proofs.Adding.{not_both, part-none, part-both, part-more, part-same}
use Rattle.ppq_session.proofs.Refusals.{room-more, no_room-later}

-- a list that was written through a slice of the whole
pub kept_back : {X : Type 0} (len : ℕ) (new rest : List X) → length new ≡ len → take len (new ++ rest) ≡ new
kept_back len new rest e = ap (λ n. take n (new ++ rest)) (sym e) ∙ take-append_seam new rest

-- an Ok is no fault, and a failed call no want of blocks
ok-no_err : {T : Type 0} (value : T) → ◌≡◌ {A = Result T QueueFault} (Ok value) (Err NoFreeBlock) → ⊥
ok-no_err value e = cc

device-no_block : (T : Type 0) (number : ℕ) → ◌≡◌ {A = Result T QueueFault} (Err (Device number)) (Err NoFreeBlock) → ⊥
device-no_block T number e = cc

module _ {S R : Type 0} where
  abbrev key_in : PassHolding S R → PassKey S R
  key_in pass = pass.key

  pub fresh-going : (passes : List (PassHolding S R)) → All IsFresh passes → All IsGoing passes
  fresh-going passes fresh k d l = let f = fresh k d l in record { unrefused = f.refused; sound = f.failed }

  fresh-accepted : (passes : List (PassHolding S R)) → All IsFresh passes → accepted_of passes ≡ 0
  fresh-accepted [] fresh = refl
  fresh-accepted (p ∷ ps) fresh =
      let first = All-head IsFresh p ps fresh in
      omega (arith, sum_by-cons (λ (q : PassHolding S R). q.accepted) p ps, fresh-accepted ps (All-tail IsFresh p ps fresh), first.accepted)

  none-ended : (passes : List (PassHolding S R)) → All IsGoing passes → Any HasEnded passes → ⊥
  none-ended passes going (k, pass, l, e, h) = not_both (get_or passes k pass) (going k pass l) (subst HasEnded (sym e) h)

  module _ (slots : List Shown) (first : List R) where
    -- nothing was given yet
    pub given-none : (passes : List (PassHolding S R)) (held : List R) → All IsFresh passes → (AllTell slots → IsSameBag held first) → WereGiven slots [] first held passes
    given-none passes held fresh same =
        record {
          part = λ _ t. part-none first held (same t);
          bag = λ going t. same t;
          accepted = λ going. fresh-accepted passes fresh;
          most = omega (arith, fresh-accepted passes fresh);
          fewer = λ ended. absurd (none-ended passes (fresh-going passes fresh) ended);
        }

    -- more records were given to passes that all went on
    pub given-more :
        (shown : S → Shown) (records more held held' : List R) (olds news : List (PassHolding S R))
        → ((p : R → Bool) → count_by p held' + count_by p (bag_of olds) ≡ count_by p held + count_by p (bag_of news)) → (AllTell slots → All (PassTells shown) olds) → All IsGoing olds → Dealt shown more olds news
        → WereGiven slots records first held olds → WereGiven slots (records ++ more) first held' news
    given-more shown records more held held' olds news sum tells going dealt s =
        let long = length-append records more in
        let so_far = s.accepted going in
        record {
          part = λ fine t. part-both records more first held (bag_of olds) (bag_of news) first held' (λ p. omega (arith, sum p)) (s.part (λ k d h. (going k d h).sound) t) (dealt.part fine (tells t));
          bag = λ on t p. omega (arith, s.bag going t p, dealt.bag on (tells t) p, sum p, count_by-append p more (bag_of olds), count_by-append p records first, count_by-append p records more, count_by-append p (records ++ more) first);
          accepted = λ on. omega (arith, so_far, dealt.accepted on, long);
          most = omega (arith, so_far, dealt.most, long);
          fewer = λ ended. omega (arith, so_far, dealt.fewer ended, long);
        }

    -- records that were not given, since a pass had stopped
    pub given-rest : (records rest held : List R) (passes : List (PassHolding S R)) → WereGiven slots records first held passes → Any HasEnded passes → WereGiven slots (records ++ rest) first held passes
    given-rest records rest held passes s ended =
        let long = length-append records rest in
        let less = s.fewer ended in
        record {
          part = λ fine t. part-more records rest first held (s.part fine t);
          bag = λ going. absurd (none-ended passes going ended);
          accepted = λ going. absurd (none-ended passes going ended);
          most = omega (arith, less, long);
          fewer = λ _. omega (arith, less, long);
        }

  module _ (shown : S → Shown) (queue : Holding R) (stay : Staying R) (passes : List (PassHolding S R)) (s : KeepsQueue shown queue stay passes) (new : Holding R) where
    -- what the end keeps, keeps the session
    pub end-keeps : (how : SessionEnd) → SessionEnded shown stay passes new how → Keeps queue new
    end-keeps how e = record {
      sizes = e.sizes ∙ s.sizes;
      limited = e.limited ∙ s.limited;
      slots = SameSlots-trans queue.slots stay.slots new.slots s.slots e.slots;
      tells = λ t. e.tells (s.tells t).0 (s.tells t).1;
      writes = omega (arith, s.writes, e.writes);
    }

    -- what was given, what was left of what the queue had, and how many were asked to be popped
    module _ (before : Holding R) (given left first held : List R) (popped : ℕ) (g : WereGiven queue.slots given first held passes) (few : stay.popped ≤ popped)
        (sum : stay.failed ≡ None → AllTell queue.slots → (p : R → Bool) → count_by p (stay.bag ++ bag_of passes) + count_by p first ≡ count_by p held + count_by p left) where
      module _ (end : HasAll shown stay passes new) where
        peak-most : new.peak ≤ max queue.peak (queue.size + length given)
        peak-most = omega (arith, end.peak, s.peak, s.total, g.most)

        -- whatever was refused, the queue has what was left, and a part of what was given
        end-part : AllTell queue.slots → AddsPart given left new.bag
        end-part t =
            let same = end.bag (s.tells t).0 (s.tells t).1 in
            part-same given given first left held new.bag (λ p. refl) (λ p. omega (arith, same p, sum end.no_fault.0 t p)) (g.part end.no_fault.1 t)

        -- a pass stopped where no call of a slot failed: it was refused
        any-refused : Any HasEnded passes → Any (λ (p : PassHolding S R). p.refused ≡ true) passes
        any-refused (k, pass, l, e, inl refused) = (k, pass, l, e, refused)
        any-refused (k, pass, l, e, inr failed) = let f = end.no_fault.1 k pass l in let n = failed.1 in absurd (cc)

        -- so there is no room for what was given
        short-much : 0 < stay.sizes.block → Any HasEnded passes → HasNoRoom queue.sizes queue.limited (max queue.peak (queue.size + length given))
        short-much some ended =
            let short = end.short (any-refused ended) in
            let less = g.fewer ended in
            subst (λ n. HasNoRoom n queue.limited (max queue.peak (queue.size + length given))) s.sizes
            ((λ _. omega (arith, short.1, end.size, s.total, less)), omega (arith, short.0, room-more stay.sizes new.peak (max queue.peak (queue.size + length given)) some peak-most))

        -- nor is there where a merge of levels found no block
        unmerged-much : 0 < stay.sizes.block → new.sizes ≡ stay.sizes → HasNoBlock new → HasNoRoom queue.sizes queue.limited (max queue.peak (queue.size + length given))
        unmerged-much some same short =
            let limited : new.limited ≡ queue.limited = end.limited ∙ s.limited in
            let here : HasNoRoom stay.sizes queue.limited new.peak = subst (λ l. HasNoRoom stay.sizes l new.peak) limited (subst (λ n. HasNoRoom n new.limited new.peak) same (short.above, short.room)) in
            subst (λ n. HasNoRoom n queue.limited (max queue.peak (queue.size + length given))) s.sizes
            (no_room-later stay.sizes queue.limited queue.limited new.peak (max queue.peak (queue.size + length given)) some (λ same. same) peak-most here)

        -- all passes went on
        pub finished-whole : {T : Type 0} (value : T) → Keeps queue new → All IsGoing passes → CountsFew {T = T} {E = QueueFault} (length given) 1 before new (Ok value) → IsFinished before queue given left popped new (Ok value)
        finished-whole value kept going counted =
            let all = g.accepted going in
            record {
              kept = kept;
              bag = λ t p. omega (arith, end.bag (s.tells t).0 (s.tells t).1 p, sum end.no_fault.0 t p, g.bag going t p, count_by-append p given first, count_by-append p given left);
              low = omega (arith, end.size, s.total, few, all);
              least = omega (arith, end.size, all);
              high = omega (arith, end.size, s.total, all);
              sound = end.sound;
              quiet = end.quiet ∙ s.quiet end.no_fault.0;
              part = λ e. absurd (ok-no_err value e);
              peak = omega (arith, end.peak, s.peak, s.total, all);
              refused = tt;
              counted = counted;
            }

        -- a push was refused
        pub finished-short : {T : Type 0} → Keeps queue new → 0 < stay.sizes.block → Any HasEnded passes → CountsFew {T = T} {E = QueueFault} (length given) 1 before new (Err NoFreeBlock) → IsFinished {T = T} before queue given left popped new (Err NoFreeBlock)
        finished-short kept some ended counted =
            record { kept = kept; bag = tt; low = tt; least = tt; high = tt; sound = tt; quiet = tt; part = λ _. end-part; peak = tt; refused = short-much some ended; counted = counted }

      -- a merge of levels found no block, or a call of a slot failed
      pub finished-stopped :
          {T : Type 0} (fault : QueueFault) → Keeps queue new → 0 < stay.sizes.block → new.sizes ≡ stay.sizes → EndsWith shown stay passes new (Stopped fault) → CountsFew {T = T} (length given) 1 before new (Err fault)
          → IsFinished {T = T} before queue given left popped new (Err fault)
      finished-stopped {T} NoFreeBlock kept some same end counted =
          record { kept = kept; bag = tt; low = tt; least = tt; high = tt; sound = tt; quiet = tt; part = λ _. end-part end.0; peak = tt; refused = unmerged-much end.0 some same end.1; counted = counted }
      finished-stopped {T} (Device number) kept some same end counted =
          record { kept = kept; bag = tt; low = tt; least = tt; high = tt; sound = tt; quiet = tt; part = λ e. absurd (device-no_block T number e); peak = tt; refused = end.stopped.fault; counted = counted }

module _ {S R : Type 0} where
  -- records can be added to the passes of a session, which have what it shares
  pub may-add : (bulk : BulkHolding S R) (passes : List (PassHolding S R)) → AreOf bulk (keys_of passes) → (shared : Shared S R) → shared ≡ shared_by bulk → AreInRange bulk.sizes → All IsGoing passes → MayAdd shared passes
  may-add bulk passes of shared is range going =
      let keys : All (λ (p : PassHolding S R). p.key ≡ pass_key bulk p.key.begun) passes = all_mapped (λ (p : PassHolding S R). p.key) (λ (k : PassKey S R). k ≡ pass_key bulk k.begun) passes of.each in
      let many : length passes ≡ bulk.sizes.workers = sym (length-map passes (λ (p : PassHolding S R). p.key)) ∙ of.count in
      record {
        some = omega (arith, many, range.some_worker);
        workers = omega (arith, many, range.workers);
        of = λ k d l. record {
          row = ap (λ (key : PassKey S R). key.row) (keys k d l) ∙ sym (ap (λ (s : Shared S R). s.row) is);
          pool = ap (λ (key : PassKey S R). key.pool) (keys k d l) ∙ sym (ap (λ (s : Shared S R). s.pool) is);
        };
        going = going;
      }

  -- the fault that an end names
  module _ (passes : List (PassHolding S R)) (other : Option ℕ) (how : SessionEnd) (first : (number : ℕ) → first_fault passes other ≡ Some number → how ≡ Stopped (Device number)) where
    pub first-whole : {T : Type 0} {result : Result T QueueFault} → how ≡ Whole → NamesFirst passes other result
    first-whole is number e = absurd (let odd : ◌≡◌ {A = SessionEnd} Whole (Stopped (Device number)) = sym is ∙ first number e in cc)

    pub first-stopped : {T : Type 0} (fault : QueueFault) → how ≡ Stopped fault → NamesFirst {T = T} passes other (Err fault)
    first-stopped {T} fault is number e =
        let same : ◌≡◌ {A = SessionEnd} (Stopped fault) (Stopped (Device number)) = sym is ∙ first number e in
        let fault_is : fault ≡ Device number = cc in
        ap (λ (f : QueueFault). Err f) fault_is

  -- what a stopped end left
  pub left-stopped : (shown : S → Shown) (bulk : BulkHolding S R) (passes : List (PassHolding S R)) (new : Holding R) (fault : QueueFault) → EndsWith shown (of_bulk bulk) passes new (Stopped fault) → IsLeftBy shown (record { bulk = bulk; passes = passes }) new fault
  left-stopped shown bulk passes new NoFreeBlock end = end.0
  left-stopped shown bulk passes new (Device number) end = end

  module _ (shown : S → Shown) (queue : Holding R) where
    -- the session has begun
    pub session-begin : (bulk : BulkHolding S R) (shared : Shared S R) (passes : List (PassHolding S R)) → BulkBegan shown queue bulk shared passes → InSession shown queue [] (record { bulk = bulk; passes = passes })
    session-begin bulk shared passes began = record {
      keeps = record { sizes = began.sizes; limited = began.limited; peak = began.peak; total = omega (arith, began.size); slots = began.slots; tells = began.tells; writes = began.writes; quiet = λ _. began.quiet };
      given = given-none queue.slots queue.bag passes (bulk.bag ++ bag_of passes) began.fresh began.bag;
      counted =
          counts-none queue (of_bulk bulk) passes began.counts
          (omega (arith, sum-mapped key_in (λ (k : PassKey S R). k.begun) passes, began.of.begun, began.begun))
          (λ k d l. ap (λ (key : PassKey S R). key.sizes) (all_mapped key_in (λ (k : PassKey S R). k ≡ pass_key bulk k.begun) passes began.of.each k d l) ∙ began.sizes)
          began.fresh;
    }

    -- more records were given to passes that all went on
    pub session-deal :
        (records more : List R) (bulk : BulkHolding S R) (olds news : List (PassHolding S R)) → InSession shown queue records (record { bulk = bulk; passes = olds }) → All IsGoing olds → Dealt shown more olds news
        → InSession shown queue (records ++ more) (record { bulk = bulk; passes = news })
    session-deal records more bulk olds news s going dealt =
        let k = s.keeps in
        record {
          keeps = record { sizes = k.sizes; limited = k.limited; peak = k.peak; total = k.total; slots = k.slots; tells = λ t. ((k.tells t).0, dealt.tells (k.tells t).1); writes = k.writes; quiet = k.quiet };
          given =
              given-more queue.slots queue.bag shown records more (bulk.bag ++ bag_of olds) (bulk.bag ++ bag_of news) olds news
              (λ p. omega (arith, count_by-append p bulk.bag (bag_of olds), count_by-append p bulk.bag (bag_of news)))
              (λ t. (k.tells t).1)
              going
              dealt
              s.given;
          counted = counts-more queue (of_bulk bulk) (of_bulk bulk) olds news refl dealt.keys dealt.backed going s.counted;
        }

    -- records that were not given, since a pass had stopped
    pub session-rest : (records rest : List R) (session : SessionHolding S R) → InSession shown queue records session → Any HasEnded session.passes → InSession shown queue (records ++ rest) session
    session-rest records rest session s ended = record { keeps = s.keeps; given = given-rest queue.slots queue.bag records rest (session.bulk.bag ++ bag_of session.passes) session.passes s.given ended; counted = s.counted }

    -- what the end of a session says of a load
    loaded : {T : Type 0} (records : List R) (new : Holding R) (result : Result T QueueFault) → IsFinished queue queue records queue.bag 0 new result → IsLoaded queue records new result
    loaded records new (Ok value) f =
        record { kept = f.kept; bag = f.bag; size = omega (arith, f.low, f.high); sound = f.sound; quiet = f.quiet; part = f.part; peak = f.peak; refused = f.refused; counted = f.counted }
    loaded records new (Err fault) f = record { kept = f.kept; bag = tt; size = tt; sound = tt; quiet = tt; part = f.part; peak = tt; refused = f.refused; counted = f.counted }

    module _ (records : List R) (bulk : BulkHolding S R) (passes : List (PassHolding S R)) (s : InSession shown queue records (record { bulk = bulk; passes = passes })) (new : Holding R) (how : SessionEnd) (e : BulkEnded shown bulk passes new how) where
      kept : Keeps queue new
      kept = end-keeps shown queue (of_bulk bulk) passes s.keeps new how e

      pub loaded-whole : {T : Type 0} (value : T) → IsTogether shown bulk passes new → All IsGoing passes → IsLoaded queue records new (Ok value)
      loaded-whole value end going =
          loaded records new (Ok value)
          (finished-whole shown queue (of_bulk bulk) passes s.keeps new queue records queue.bag queue.bag (bulk.bag ++ bag_of passes) 0 s.given (omega arith) (λ _ _ p. refl) end value kept going (counts-whole shown queue (of_bulk bulk) passes s.counted new how e kept.sizes (length records) s.given.most value going))

      pub loaded-short : {T : Type 0} → IsTogether shown bulk passes new → 0 < bulk.sizes.block → Any HasEnded passes → IsLoaded {T = T} queue records new (Err NoFreeBlock)
      loaded-short {T} end some ended =
          loaded {T = T} records new (Err NoFreeBlock)
          (finished-short shown queue (of_bulk bulk) passes s.keeps new queue records queue.bag queue.bag (bulk.bag ++ bag_of passes) 0 s.given (omega arith) (λ _ _ p. refl) end kept some ended (counts-stopped shown queue (of_bulk bulk) passes s.counted new how e kept.sizes (length records) s.given.most NoFreeBlock))

      pub loaded-stopped : {T : Type 0} (fault : QueueFault) → EndsWith shown (of_bulk bulk) passes new (Stopped fault) → 0 < bulk.sizes.block → IsLoaded {T = T} queue records new (Err fault)
      loaded-stopped {T} fault end some =
          loaded {T = T} records new (Err fault)
          (finished-stopped shown queue (of_bulk bulk) passes s.keeps new queue records queue.bag queue.bag (bulk.bag ++ bag_of passes) 0 s.given (omega arith) (λ _ _ p. refl) fault kept some e.sizes end (counts-stopped shown queue (of_bulk bulk) passes s.counted new how e kept.sizes (length records) s.given.most fault))
