-- What contracts see of a limit session.
use Rattle.std.specs.Prelude.{◌≡◌, ◌≤◌, true, Vec, List, [], length, None, All, vec_capacity}
use Rattle.std.specs.Global.{Global}
use Rattle.ppq_pass.specs.ppq_record.Bag.{IsSameBag}
use Rattle.ppq_pass.specs.ppq_outside.Shown.{Shown, AllTell}
use Rattle.ppq_pass.specs.ppq_array.Kept.{SameSlots, AreQuiet, all_writes}
use Rattle.ppq_pass.specs.Passed.{PassKey, PassHolding, IsOf}
use Rattle.ppq_pass.specs.declared.shared.Shared.{Shared}
use Rattle.ppq_pass.specs.ppq_counts.Tally.{beginning}
use Rattle.ppq_queue.specs.Holding.{Holding}
use Rattle.ppq_session.specs.BulkSession.{BulkHolding, IsFresh, HasPool}
use Rattle.ppq_session.specs.Ends.{Staying, HasAll, SessionEnded, bag_of}
use Rattle.ppq_session.specs.declared.fault.SessionEnd.{SessionEnd}
use Rattle.ppq_session.specs.Fronts.{FrontHolding}
use Rattle.ppq_session.specs.Limited.{LimitHolding, HoldsNothing, passes_of}

module _ {S R : Type 0} where
  -- the key of each pass of the session: it began without records
  abbrev pub front_key : FrontHolding S R → PassKey S R
  front_key front =
      record { row = front.row; pool = front.pool; items = front.items; row_shares = 1; pool_shares = 1; sizes = front.sizes; begun = 0 }

  -- what all passes of the session share
  abbrev pub shared_of : FrontHolding S R → Shared S R
  shared_of front = record { row = front.row; pool = front.pool }

  -- these are all passes of the session, with its limit
  pub record AreLimited (front : FrontHolding S R) (passes : List (LimitHolding S R)) : Type 0 where
    pub count : length passes ≡ front.sizes.workers
    pub keys : All (λ (p : LimitHolding S R). p.pass.key ≡ front_key front) passes
    pub limits : All (λ (p : LimitHolding S R). p.limit ≡ front.limit) passes

  -- the front that has what stayed of a queue: the records of its runs, which are all that it had, and its slots
  abbrev pub front_begun : BulkHolding S R → R → FrontHolding S R
  front_begun bulk limit =
      record {
        bag = bulk.bag;
        limit = limit;
        size = bulk.size;
        popped = 0;
        sizes = bulk.sizes;
        peak = bulk.peak;
        slots = bulk.slots;
        buffers = bulk.buffers;
        run_buffers = bulk.run_buffers;
        in_extract = 0;
        row = bulk.row;
        items = bulk.items;
        pool = bulk.pool;
        failed = None;
        counts = bulk.counts;
      }

  -- what stayed of a queue all of whose records are in at most 64 runs, by a limit session
  pub record IsAllRuns (bulk : BulkHolding S R) : Type 0 where
    pub none : bulk.begun ≡ 0
    pub runs : bulk.runs ≤ 64
    pub limited : bulk.limited ≡ true

  -- nothing was added to the pass yet
  pub record IsNew (pass : LimitHolding S R) : Type 0 where
    pub nothing : HoldsNothing pass.pass
    pub fresh : IsFresh pass.pass

  -- these are passes without records, and an empty list has room for them
  pub record CanLimit (passes : List (PassHolding S R)) (list : Vec (LimitHolding S R) Global) : Type 0 where
    pub nothing : All HoldsNothing passes
    pub fresh : All IsFresh passes
    pub empty : list.items ≡ []
    pub room : length passes ≤ vec_capacity list

  -- limit passes were made of them, with this limit
  pub record GotLimit (limit : R) (passes : List (PassHolding S R)) (list : List (LimitHolding S R)) : Type 0 where
    pub count : length list ≡ length passes
    pub new : All IsNew list
    pub limits : All (λ (p : LimitHolding S R). p.limit ≡ limit) list
    pub keys : (key : PassKey S R) → All (λ (p : PassHolding S R). p.key ≡ key) passes → All (λ (p : LimitHolding S R). p.pass.key ≡ key) list

  -- the records of passes
  abbrev pub limited_bag : List (LimitHolding S R) → List R
  limited_bag passes = bag_of (passes_of passes)

  -- what stays
  abbrev pub of_front : FrontHolding S R → Staying R
  of_front front =
      record { bag = front.bag; size = front.size; popped = front.popped; sizes = front.sizes; peak = front.peak; limited = true; slots = front.slots; failed = front.failed; counts = front.counts }

  -- the queue has all records of the front and of the passes
  abbrev pub IsTogether : (S → Shown) → FrontHolding S R → List (LimitHolding S R) → Holding R → Type 0
  IsTogether shown front passes queue = HasAll shown (of_front front) (passes_of passes) queue

  -- how a session ended, and what it left of its slots and sizes
  abbrev pub LimitEnded : (S → Shown) → FrontHolding S R → List (LimitHolding S R) → Holding R → SessionEnd → Type 0
  LimitEnded shown front passes queue end = SessionEnded shown (of_front front) (passes_of passes) queue end

  -- A limit session of a queue began: the front has its records, and the passes have none. All buffers that no run has are in the pool. No call
  -- of a slot failed, and the session is counted
  pub record LimitBegan (q : Holding R) (limit : R) (front : FrontHolding S R) (shared : Shared S R) (passes : List (LimitHolding S R)) : Type 0 where
    pub of : AreLimited front passes
    pub shared_is : shared ≡ shared_of front
    pub passes_of : All (λ (p : LimitHolding S R). IsOf shared p.pass) passes
    pub new : All IsNew passes
    pub limit_is : front.limit ≡ limit
    pub pool : HasPool front.sizes front.run_buffers front.pool
    pub bag : AllTell q.slots → IsSameBag front.bag q.bag
    pub quiet : AreQuiet q.slots front.slots
    pub slots : SameSlots q.slots front.slots
    pub tells : AllTell q.slots → AllTell front.slots
    pub writes : all_writes q.slots ≤ all_writes front.slots
    pub size : front.size ≡ q.size
    pub unpopped : front.popped ≡ 0
    pub sound : front.failed ≡ None
    pub peak : front.peak ≡ q.peak
    pub sizes : front.sizes ≡ q.sizes
    pub counts : front.counts ≡ beginning q.counts
