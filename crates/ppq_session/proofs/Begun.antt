-- What the clauses of a session's beginning are put together from.
use Rattle.std.proofs.Common.{◌≡◌, ◌*◌, ◌≤◌, List, ◌++◌, All, true, sym, ap, ◌∙◌, subst, [], ◌∷◌, length, sum_by, refl, arith}
use Rattle.std.specs.Prelude.{slice_index_or, Vec, Result, Ok, Err, IfOk, IfErr, count_by}
use Rattle.std.specs.Global.{Global}
use Rattle.ppq_pass.proofs.ppq_record.Order.{IsSameBag-trans, count_by-append}
use Rattle.ppq_pass.specs.ppq_outside.Shown.{Shown, AllTell}
use Rattle.ppq_pass.specs.ppq_array.Owner.{slots_shown}
use Rattle.ppq_pass.specs.ppq_array.Kept.{SameSlots, all_faults, all_writes}
use Rattle.ppq_pass.specs.ppq_budget.Sizes.{pool_of}
use Rattle.ppq_pass.specs.ppq_pool.Seats.{count_of}
use Rattle.ppq_pass.specs.Passed.{PassKey, PassHolding, PassTells, IsOf}
use Rattle.ppq_pass.specs.declared.shared.Shared.{Shared}
use Rattle.ppq_pass.specs.ppq_counts.Tally.{beginning}
use Rattle.ppq_queue.specs.Holding.{Holding, Keeps, Stays, SameRecords, CountsAs}
use Rattle.ppq_session.specs.BulkSession.{BulkHolding, AreOf, keys_of, bag_of, shared_by, pass_key}
use Rattle.ppq_session.specs.declared.fault.BeginFault.{BeginFault}
use Rattle.ppq_session.specs.declared.fault.BeginFault.TheVariants.{Memory}
use Rattle.ppq_session.specs.Opened.{HandedOut, BulkBegan, HoldsNoSlot}
use Rattle.ppq_session.specs.Sessions.{IsUnbegun}
use Rattle.ppq_session.specs.Readied.{IsReadyForBulk, IsReadyForLimit}
use Rattle.ppq_session.proofs.Mapped.{all_mapped}
use Rattle.std.proofs.lemmas.List.{length-map, nil_from_length}
use Rattle.std.proofs.lemmas.List.Elements.{All-nil, All-cons, All-head, All-tail}
use Rattle.std.proofs.lemmas.List.Concat.{flat_map-cons}
use Rattle.std.proofs.lemmas.List.Sums.{sum_by-cons}
use Rattle.ppq_session.specs.Equipped.{HasBegun}
use Rattle.ppq_session.specs.LimitSessions.{begun_in}
use Rattle.ppq_session.specs.Fronts.{FrontHolding}
use Rattle.ppq_session.specs.Limited.{LimitHolding, HoldsNothing}
use Rattle.ppq_session.specs.LimitSession.{AreLimited, front_begun, GotLimit, LimitBegan, shared_of}

module _ {S R : Type 0} (bulk : BulkHolding S R) (passes : List (PassHolding S R)) (of : AreOf bulk (keys_of passes)) where
  keys : All (λ (p : PassHolding S R). p.key ≡ pass_key bulk p.key.begun) passes
  keys = all_mapped (λ (p : PassHolding S R). p.key) (λ (k : PassKey S R). k ≡ pass_key bulk k.begun) passes of.each

  all_of : All (IsOf (shared_by bulk)) passes
  all_of = λ k d h. record { row = ap (λ (key : PassKey S R). key.row) (keys k d h); pool = ap (λ (key : PassKey S R). key.pool) (keys k d h) }

  -- a pass that has drawn nothing tells where the row's slots do
  all_tell : (shown : S → Shown) → All HoldsNoSlot passes → AllTell (slots_shown shown bulk.items) → All (PassTells shown) passes
  all_tell shown none tell = λ k d h. tells (slice_index_or passes k d) (keys k d h) (none k d h)
    where
      tells : (p : PassHolding S R) → p.key ≡ pass_key bulk p.key.begun → HoldsNoSlot p → PassTells shown p
      tells p key empty =
          let items : slots_shown shown bulk.items ≡ slots_shown shown p.key.items = ap (λ (x : PassKey S R). slots_shown shown x.items) (sym key) in
          let all : slots_shown shown bulk.items ≡ p.slots ++ slots_shown shown p.key.items = items ∙ ap (λ (l : List Shown). l ++ slots_shown shown p.key.items) (sym empty) in
          subst AllTell all tell

-- that a session is counted is nothing that a queue keeps
pub keeps-begun : {R : Type 0} (old new : Holding R) → Keeps (record old { limited = true }) new → Keeps (begun_in old) new
keeps-begun old new kept = record { sizes = kept.sizes; limited = kept.limited; slots = kept.slots; tells = kept.tells; writes = kept.writes }

-- a queue that has what it had was handed back for want of memory
pub unbegun-memory : {R : Type 0} (old begun new : Holding R) → SameRecords old new → Keeps begun new → new.peak ≡ old.peak → CountsAs (beginning old.counts) old new → IsUnbegun old begun new Memory
unbegun-memory old begun new same kept peak counted = record { why = record { bag = same.bag; size = same.size; sound = same.sound }; kept = kept; peak = peak; counted = counted }

-- it was ready for a bulk session
pub ready-bulk : {R : Type 0} (old new : Holding R) → SameRecords old new → new.in_extract ≡ 0 → new.runs ≤ 64 → new.in_heap ≡ old.in_heap → new.in_first ≡ old.in_first → pool_of new.sizes ≤ 2 * new.idle → IsReadyForBulk old new
ready-bulk old new same emptied settled heaps first half = record { readied = record { same = same; emptied = emptied; settled = settled }; heaps = heaps; first = first; half = half }

-- or for a limit session
pub ready-limit : {R : Type 0} (old new : Holding R) → SameRecords old new → new.in_extract ≡ 0 → new.runs ≤ 64 → new.in_heap ≡ 0 → IsReadyForLimit old new
ready-limit old new same emptied settled heaps = record { readied = record { same = same; emptied = emptied; settled = settled }; heaps = heaps }

-- what a beginning returns
abbrev pub Begins : Type 0 → Type 0 → Type 0
Begins S R = Result (BulkHolding S R × Shared S R × Vec (PassHolding S R) Global) (Holding R × BeginFault)

module _ {S R : Type 0} where
  -- what holds of the queue holds of what is handed back for want of memory
  pub err_with : (P : Holding R × BeginFault → Type 0) (queue : Holding R) (r : Begins S R) → P (queue, Memory) → IfErr r (λ e. e ≡ (queue, Memory)) → IfErr r P
  err_with P queue (Ok x) p e = e
  err_with P queue (Err x) p e = subst P (sym e) p

  module _ (shown : S → Shown) (old new : Holding R) where
    -- a queue that was handed out, as what a beginning returned
    abbrev pub IsHanded : BulkHolding S R × Shared S R × Vec (PassHolding S R) Global → Type 0
    IsHanded x = HandedOut shown new x.0 x.1 x.2.items

    -- what follows for what was handed out
    pub begun-with : (Q : BulkHolding S R × Shared S R × Vec (PassHolding S R) Global → Type 0) (r : Begins S R) → ((x : BulkHolding S R × Shared S R × Vec (PassHolding S R) Global) → IsHanded x → Q x) → IfOk r IsHanded → IfOk r Q
    begun-with Q (Ok x) f h = f x h
    begun-with Q (Err x) f h = h

    -- a session began: the queue was readied for it, and handed out
    pub began-bulk :
        SameRecords old new → Stays old new → new.in_heap ≡ old.in_heap → new.in_first ≡ old.in_first → new.runs ≤ 64 → pool_of new.sizes ≤ 2 * new.idle → new.counts ≡ beginning old.counts
        → (x : BulkHolding S R × Shared S R × Vec (PassHolding S R) Global) → IsHanded x → BulkBegan shown old x.0 x.1 x.2.items
    began-bulk same stays heaps first settled half counts x h =
        let bulk = x.0 in
        let kept = stays.keeps in
        record {
          of = h.of;
          shared_is = h.shared_is;
          passes_of = subst (λ (s : Shared S R). All (IsOf s) x.2.items) (sym h.shared_is) (all_of bulk x.2.items h.of);
          fresh = h.fresh;
          no_slots = h.no_slots;
          whole = h.whole;
          begun = h.begun ∙ heaps;
          first = h.first ∙ first;
          runs = subst (λ k. k ≤ 64) (sym h.runs) settled;
          buffers = h.buffers;
          pool = h.pool;
          half = subst (λ n. pool_of n ≤ 2 * count_of bulk.pool) (sym h.sizes) (subst (λ k. pool_of new.sizes ≤ 2 * k) (sym h.idle) half);
          bag = λ tell. IsSameBag-trans (bulk.bag ++ bag_of x.2.items) new.bag old.bag h.bag (same.bag tell);
          quiet = ap all_faults h.slots ∙ same.quiet;
          slots = subst (SameSlots old.slots) (sym h.slots) kept.slots;
          tells = λ tell. (let all = kept.tells tell in (subst AllTell (sym h.slots) all, all_tell bulk x.2.items h.of shown h.no_slots (h.items all)));
          writes = subst (λ l. all_writes old.slots ≤ all_writes l) (sym h.slots) kept.writes;
          size = h.size ∙ stays.size;
          peak = h.peak ∙ stays.peak;
          limited = h.limited ∙ kept.limited;
          sizes = h.sizes ∙ kept.sizes;
          counts = h.counts ∙ counts;
        }

module _ {S R : Type 0} where
  -- where passes began with no record together, each did
  none_begun : (passes : List (PassHolding S R)) → sum_by (λ (k : PassKey S R). k.begun) (keys_of passes) ≡ 0 → All (λ (p : PassHolding S R). p.key.begun ≡ 0) passes
  none_begun [] e = All-nil (λ (p : PassHolding S R). p.key.begun ≡ 0)
  none_begun (p ∷ ps) e =
      let sum = sum_by-cons (λ (k : PassKey S R). k.begun) p.key (keys_of ps) in
      All-cons (λ (p : PassHolding S R). p.key.begun ≡ 0) p ps (omega (arith, e, sum)) (none_begun ps (omega (arith, e, sum)))

  -- passes without records have none together
  pub bag_none : (passes : List (PassHolding S R)) → All HoldsNothing passes → bag_of passes ≡ []
  bag_none [] all = refl
  bag_none (p ∷ ps) all =
      flat_map-cons (λ (x : PassHolding S R). x.bag) p ps ∙ ap (λ l. l ++ bag_of ps) (All-head HoldsNothing p ps all).bag ∙ bag_none ps (All-tail HoldsNothing p ps all)

  module _ (bulk : BulkHolding S R) (passes : List (PassHolding S R)) (of : AreOf bulk (keys_of passes)) (none : bulk.begun ≡ 0) where
    -- they have no records and no slots
    pub all_nothing : All HasBegun passes → All HoldsNoSlot passes → All HoldsNothing passes
    all_nothing whole slots = λ k d h. record { bag = nil_from_length _ (whole k d h ∙ none_begun passes (of.begun ∙ none) k d h); slots = slots k d h }

    pub passes_count : length passes ≡ bulk.sizes.workers
    passes_count = omega (arith, length-map passes (λ (p : PassHolding S R). p.key), of.count)

    are_limited : (limit : R) (list : List (LimitHolding S R)) → GotLimit limit passes list → AreLimited (front_begun bulk limit) list
    are_limited limit list got =
        record {
          count = got.count ∙ passes_count;
          keys =
              got.keys (pass_key bulk 0)
              (λ k d h. all_mapped (λ (p : PassHolding S R). p.key) (λ (key : PassKey S R). key ≡ pass_key bulk key.begun) passes of.each k d h ∙ ap (pass_key bulk) (none_begun passes (of.begun ∙ none) k d h));
          limits = got.limits;
        }

module _ {S R : Type 0} where
  -- limit passes of the session are of what it shares
  pub limited_of : (front : FrontHolding S R) (list : List (LimitHolding S R)) (shared : Shared S R) → AreLimited front list → shared ≡ shared_of front → All (λ (p : LimitHolding S R). IsOf shared p.pass) list
  limited_of front list shared are same =
      subst (λ (s : Shared S R). All (λ (p : LimitHolding S R). IsOf s p.pass) list) (sym same)
      (λ k d h. record { row = ap (λ (key : PassKey S R). key.row) (are.keys k d h); pool = ap (λ (key : PassKey S R). key.pool) (are.keys k d h) })

module _ {S R : Type 0} (shown : S → Shown) (old new : Holding R) (bulk : BulkHolding S R) (shared : Shared S R) (passes : List (PassHolding S R)) (h : HandedOut shown new bulk shared passes) (heaps : new.in_heap ≡ 0) where
  none : bulk.begun ≡ 0
  none = h.begun ∙ heaps

  pub handed_nothing : All HoldsNothing passes
  handed_nothing = all_nothing bulk passes h.of none h.whole h.no_slots

  pub handed_count : length passes ≡ bulk.sizes.workers
  handed_count = passes_count bulk passes h.of none

  -- a session began: a queue that has no record in heaps was handed out, and its passes got the limit
  pub limit_began :
      SameRecords old new → Stays (record old { limited = true }) new → new.counts ≡ beginning old.counts → (limit : R) (front : FrontHolding S R) → front ≡ front_begun bulk limit
      → (list : List (LimitHolding S R)) → GotLimit limit passes list → LimitBegan old limit front shared list
  limit_began same stays counts limit front is list got =
      let kept = stays.keeps in
      let of = are_limited bulk passes h.of none limit list got in
      subst (λ f. LimitBegan old limit f shared list) (sym is)
      (record {
        of = of;
        shared_is = h.shared_is;
        passes_of = limited_of (front_begun bulk limit) list shared of h.shared_is;
        new = got.new;
        limit_is = refl;
        pool = h.pool;
        bag = λ tell p. omega (arith, h.bag p, same.bag tell p, count_by-append p bulk.bag (bag_of passes), ap (count_by p) (bag_none passes handed_nothing));
        quiet = ap all_faults h.slots ∙ same.quiet;
        slots = subst (λ s. SameSlots old.slots s) (sym h.slots) kept.slots;
        tells = λ tell. subst AllTell (sym h.slots) (kept.tells tell);
        writes = omega (arith, ap all_writes h.slots, kept.writes);
        size = h.size ∙ stays.size;
        unpopped = refl;
        sound = refl;
        peak = h.peak ∙ stays.peak;
        sizes = h.sizes ∙ kept.sizes;
        counts = h.counts ∙ counts;
      })
