-- The run of a multiset of events, and the greatest number that waits.
use Rattle.std.proofs.Common.{◌≡◌, ℕ, ◌≤◌, List, [], ◌++◌, take, drop, ap, subst, arith, append-nil}
use Rattle.std.proofs.lemmas.List.{take-append-drop}
use Rattle.ppq_event.specs.ppq_record.declared.triple.Triple.{Triple}
use Rattle.ppq_event.specs.ppq_record.Triple.{triple_same}
use Rattle.ppq_event.specs.ppq_record.Bag.{IsSameBag}
use Rattle.ppq_event.specs.ppq_handler.Roster.{Place}
use Rattle.ppq_event.specs.ppq_handler.Agenda.{run, run_from}
use Rattle.ppq_event.specs.Going.{greatest}
use Rattle.ppq_event.proofs.ppq_handler.Rounds.{triples_total}
use Rattle.ppq_event.proofs.ppq_queue.ppq_heap.ppq_record.Fronts.{ascending-same_bag}
use Rattle.ppq_event.proofs.Made.{greatest-append}
use Rattle.ppq_event.proofs.Turned.{greatest-over}

-- equal multisets have one run
pub same_run : (until events : ℕ) (one other : List Triple) (places : List Place) → IsSameBag one other → run until events one places ≡ run until events other places
same_run until events one other places same = ap (λ (es : List Triple). run_from until events 0 es places) (ascending-same_bag triples_total triple_same one other same)

-- a multiset that was added to none
pub added_to_none : (bag records none : List Triple) → none ≡ [] → IsSameBag bag (records ++ none) → IsSameBag bag records
added_to_none bag records none is same = subst (IsSameBag bag) (append-nil records) (subst (λ b. IsSameBag bag (records ++ b)) is same)

-- the greatest after some first turns is no more than that after all
pub greatest-take : (n k : ℕ) (ms : List ℕ) → greatest n (take k ms) ≤ greatest n ms
greatest-take n k ms =
    subst (λ all. greatest n (take k ms) ≤ greatest n all) (take-append-drop k ms)
    (omega (arith, greatest-append n (take k ms) (drop k ms), greatest-over (greatest n (take k ms)) (drop k ms)))
