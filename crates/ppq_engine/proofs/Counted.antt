-- What a queue counts of the commands of a script, and how few blocks were written and read for them.
use Rattle.std.proofs.Common.{◌≡◌, ℕ, ◌+◌, ◌*◌, ◌/◌, ◌^◌, ◌<◌, ◌≤◌, List, [], ◌∷◌, ◌++◌, All, length, take, ap, subst, arith, length-append}
use Rattle.std.specs.Prelude.{Result, Ok, OnOk, IsErrAnd, ⊤}
use Rattle.std.specs.Int.{div_ceil}
use Rattle.std.proofs.Math.Nat.{mul-le-mul_left, mul-le-mul_right, mul_comm, le-div_iff_mul-le}
use Rattle.std.proofs.lemmas.List.Sums.{sum_by-cons, sum_by-append, sum_by-take-le}
use Rattle.ppq_script.specs.Words.{Words}
use Rattle.ppq_script.specs.ppq_outside.Shown.{Shown}
use Rattle.ppq_script.specs.declared.command.Command.{Command}
use Rattle.ppq_script.specs.declared.command.Command.TheVariants.{BulkBegin, BulkPush, BulkEnd, LimitBegin, LimitPush, LimitEnd}
use Rattle.ppq_script.specs.Parts.{bulk_part, limit_part}
use Rattle.ppq_load.specs.ppq_budget.Sizes.{Numbers, AreInRange, heap_of}
use Rattle.ppq_load.specs.ppq_array.Kept.{SameSums, all_writes}
use Rattle.ppq_load.specs.ppq_array.declared.store_fault.StoreFault.{StoreFault as QueueFault}
use Rattle.ppq_load.specs.ppq_counts.Account.{too_heavy}
use Rattle.ppq_load.specs.ppq_counts.Tally.{Tally, no_tally, last, IsCounting, IsBacked, runs_of, bound_of}
use Rattle.ppq_load.specs.ppq_queue.Holding.{Holding, IsNewSlot, IsSpent, IsBackedQueue, CountsFew}
use Rattle.ppq_load.proofs.Counting.{stores-backed, few-stores, few-to}
use Rattle.ppq_engine.specs.Pushes.{pushed_in}
use Rattle.ppq_engine.specs.Work.{pushes_of, begins_of, pushed_by, begun_by, work_of, IsWithinWork, TransfersFew}
use Rattle.ppq_load.proofs.ppq_counts.Counted.{bound-more}
use Rattle.ppq_load.proofs.ppq_queue.Counted.{few-more}
use Rattle.ppq_load.proofs.ppq_queue.Overreads.{spent_same}
use Rattle.ppq_engine.proofs.Pushes.{pushed-append}
use Rattle.ppq_engine.proofs.Results.{not-ok}
use Rattle.ppq_engine.proofs.Slots.{new-unused}

-- the answer of calls that were not refused
abbrev pub unrefused : Result ⊤ QueueFault
unrefused = Ok tt

module _ {R : Type 0} where
  -- no call counts nothing
  pub few-none : (q : Holding R) → CountsFew 0 0 q q unrefused
  few-none q = record { accepted = omega arith; sessions = omega arith; backed = λ backed. backed; unbacked = tt }

  -- the same with another value
  pub few-ok : {T E U F : Type 0} {n s : ℕ} {v : T} {u : U} (old new : Holding R) → CountsFew {T = T} {E = E} n s old new (Ok v) → CountsFew {T = U} {E = F} n s old new (Ok u)
  few-ok old new few = record { accepted = few.accepted; sessions = few.sessions; backed = few.backed; unbacked = tt }

  -- or with a refusal
  pub few-err : {T E U F : Type 0} {n s : ℕ} {q : Result U F} (old new : Holding R) (r : Result T E) (P : E → Type 0) → IsErrAnd r P → CountsFew n s old new q → CountsFew n s old new r
  few-err {q = q} old new r P is few = few-to old new q r (λ A holds. not-ok r P A is) few

module _ {R : Type 0} (w : Words R) where
  -- a line of a session pushes what its command does
  line-pushes : (c : Command R) → length (pushed_in (c ∷ [])) ≤ pushes_of w c
  line-pushes (BulkPush pass item) = omega arith
  line-pushes (LimitPush pass item) = omega arith
  line-pushes _ = omega arith

  lines-pushes : (cs : List (Command R)) → length (pushed_in cs) ≤ pushed_by w cs
  lines-pushes [] = omega arith
  lines-pushes (c ∷ cs) =
      omega (arith, line-pushes c, lines-pushes cs, sum_by-cons (pushes_of w) c cs, ap length (pushed-append (c ∷ []) cs), length-append (pushed_in (c ∷ [])) (pushed_in cs))

  -- lines of a session with its first command and its last
  module _ (first over : Command R) (body : List (Command R)) where
    session-pushes : length (pushed_in body) ≤ pushed_by w (first ∷ (body ++ over ∷ []))
    session-pushes = omega (arith, lines-pushes body, sum_by-cons (pushes_of w) first (body ++ over ∷ []), sum_by-append (pushes_of w) body (over ∷ []))

    session-begins : begins_of first ≤ begun_by (first ∷ (body ++ over ∷ []))
    session-begins = omega (arith, sum_by-cons begins_of first (body ++ over ∷ []))

  module _ {T E : Type 0} (old new : Holding R) (r : Result T E) where
    -- a session counts itself and no more than the records of its lines
    pub bulk-counts : (n : ℕ) (body : List (Command R)) → n ≤ length (pushed_in body) → CountsFew n 1 old new r → CountsFew (pushed_by w (bulk_part body)) (begun_by (bulk_part body)) old new r
    bulk-counts n body few counts = few-more n 1 (pushed_by w (bulk_part body)) (begun_by (bulk_part body)) old new r (omega (arith, few, session-pushes BulkBegin BulkEnd body)) (session-begins BulkBegin BulkEnd body) counts

    pub limit-counts : (n : ℕ) (limit : R) (body : List (Command R)) → n ≤ length (pushed_in body) → CountsFew n 1 old new r → CountsFew (pushed_by w (limit_part limit body)) (begun_by (limit_part limit body)) old new r
    limit-counts n limit body few counts =
        few-more n 1 (pushed_by w (limit_part limit body)) (begun_by (limit_part limit body)) old new r (omega (arith, few, session-pushes (LimitBegin limit) LimitEnd body)) (session-begins (LimitBegin limit) LimitEnd body) counts

    -- one command alone
    pub lone-counts : (c : Command R) → CountsFew (pushes_of w c) (begins_of c) old new r → CountsFew (pushed_by w (c ∷ [])) (begun_by (c ∷ [])) old new r
    lone-counts c counts = few-more (pushes_of w c) (begins_of c) (pushed_by w (c ∷ [])) (begun_by (c ∷ [])) old new r (omega (arith, sum_by-cons (pushes_of w) c [])) (omega (arith, sum_by-cons begins_of c [])) counts

  -- these commands were run: the queue counts no more than they bring, and its heaps have accepted records alone
  pub record HasCounted (commands : List (Command R)) (q : Holding R) : Type 0 where
    pub accepted : q.counts.accepted ≤ pushed_by w commands
    pub sessions : q.counts.sessions ≤ begun_by commands
    pub backed : IsBackedQueue q

  pub counted-begin : (q : Holding R) (commands : List (Command R)) → q.counts ≡ no_tally → q.in_heap ≡ 0 → HasCounted (take 0 commands) q
  counted-begin q commands none empty = record {
    accepted = omega (arith, ap (λ (t : Tally). t.accepted) none);
    sessions = omega (arith, ap (λ (t : Tally). t.sessions) none);
    backed = λ counting. record { within = omega (arith, empty, ap (λ (t : Tally). heap_of q.sizes * t.stores) none) };
  }

  module _ (old new : Holding R) (cs part : List (Command R)) (was : HasCounted cs old) where
    -- a part more was run
    pub counted-part : {T E : Type 0} (r : Result T E) (v : T) → r ≡ Ok v → CountsFew (pushed_by w part) (begun_by part) old new r → HasCounted (cs ++ part) new
    counted-part {T} {E} r v ok counts = record {
      accepted = omega (arith, was.accepted, counts.accepted, sum_by-append (pushes_of w) cs part);
      sessions = omega (arith, was.sessions, counts.sessions, sum_by-append begins_of cs part);
      backed = let P : Result T E → Type 0 = λ x. OnOk x (IsBackedQueue old → IsBackedQueue new) in subst P ok counts.backed was.backed;
    }

    -- it stopped
    pub counted-stop :
        {T E : Type 0} (r : Result T E) (k : ℕ) (commands : List (Command R)) (sizes : Numbers) → take k commands ≡ cs ++ part → new.sizes ≡ sizes
        → CountsFew (pushed_by w part) (begun_by part) old new r → IsWithinWork w commands sizes new
    counted-stop r k commands sizes split same counts = record {
      sizes_are = same;
      accepted = omega (arith, was.accepted, counts.accepted, sum_by-append (pushes_of w) cs part, ap (pushed_by w) split, sum_by-take-le (pushes_of w) commands k);
      sessions = omega (arith, was.sessions, counts.sessions, sum_by-append begins_of cs part, ap begun_by split, sum_by-take-le begins_of commands k);
      backed = few-stores old new r counts was.backed;
    }

  -- all were run
  pub counted-all : (q : Holding R) (cs commands : List (Command R)) (sizes : Numbers) → cs ≡ commands → q.sizes ≡ sizes → HasCounted cs q → IsWithinWork w commands sizes q
  counted-all q cs commands sizes all same was = record {
    sizes_are = same;
    accepted = omega (arith, was.accepted, ap (pushed_by w) all);
    sessions = omega (arith, was.sessions, ap begun_by all);
    backed = stores-backed q was.backed;
  }

-- so many heaps of accepted records are no more than these records fill
heaps-few : (heap stores records : ℕ) → 0 < heap → heap * stores ≤ records → stores ≤ div_ceil records heap
heaps-few heap stores records some within =
    let whole : stores ≤ records / heap = (le-div_iff_mul-le {k = heap} {x = stores} {y = records} some).1 (omega (arith, within, mul_comm heap stores)) in
    omega (arith, whole)

-- one heap holds a record
heap-some : (sizes : Numbers) → AreInRange sizes → 0 < heap_of sizes
heap-some sizes range = omega (arith, range.two_records, mul-le-mul_right sizes.block range.some_heap)

module _ {R : Type 0} (w : Words R) (commands : List (Command R)) (sizes : Numbers) where
  -- what the queue counts bounds what was written, and so does the work of the commands
  pub transfers-few :
      (q : Holding R) → AreInRange q.sizes → IsWithinWork w commands sizes q
      → (IsCounting q.counts → runs_of q.sizes.workers q.counts < too_heavy → q.sizes.block * all_writes q.slots ≤ bound_of q.sizes.workers q.sizes.block q.counts)
      → All IsSpent q.slots
      → TransfersFew w commands sizes q.slots
  transfers-few q range work bounded read =
      let same = work.sizes_are in
      let t = q.counts in
      let u = work_of w sizes commands in
      let Bounded : Numbers → Type 0 = λ s. IsCounting t → runs_of s.workers t < too_heavy → s.block * all_writes q.slots ≤ bound_of s.workers s.block t in
      let Backed : Numbers → Type 0 = λ s. t.accepted < last → IsBacked (heap_of s) 0 0 t in
      let own = subst Bounded same bounded in
      record {
        writes =
            λ counting few.
            let within = (subst Backed same work.backed (omega (arith, work.accepted, counting.accepted))).within in
            let stores : t.stores ≤ u.stores = heaps-few (heap_of sizes) t.stores u.accepted (heap-some sizes (subst AreInRange same range)) (omega (arith, within, work.accepted)) in
            let runs : (sizes.workers + 2) * t.sessions ≤ (sizes.workers + 2) * u.sessions = mul-le-mul_left (sizes.workers + 2) work.sessions in
            let most = bound-more sizes.workers sizes.block t u work.accepted stores work.sessions in
            omega (arith, most, own (record { accepted = omega (arith, work.accepted, counting.accepted); stores = omega (arith, stores, counting.stores); sessions = omega (arith, work.sessions, counting.sessions) }) (omega (arith, few, runs, stores)));
        read = read;
      }

  -- blocks that add up to the same
  pub transfers-same : (a b : List Shown) → SameSums a b → TransfersFew w commands sizes a → TransfersFew w commands sizes b
  transfers-same a b same few = record {
    writes = λ counting light. subst (λ (n : ℕ). sizes.block * n ≤ bound_of sizes.workers sizes.block (work_of w sizes commands)) (same (λ s. s.writes)) (few.writes counting light);
    read = spent_same a b same few.read;
  }

  -- of new blocks none was written or read
  pub transfers-none : (bytes : ℕ) (slots : List Shown) → All (IsNewSlot bytes) slots → TransfersFew w commands sizes slots
  transfers-none bytes slots fresh =
      let none = new-unused bytes slots fresh in
      record {
        writes = λ counting light. omega (arith, ap (λ (n : ℕ). sizes.block * n) none.0);
        read = none.1;
      }
