-- The blocks of two queues, one list behind the other.
use Rattle.std.proofs.Common.{◌≡◌, ℕ, ◌+◌, ◌*◌, ◌≤◌, List, ◌++◌, length, map, min, All, sym, ap, ◌∙◌, subst, arith, length-append}
use Rattle.std.proofs.lemmas.List.{take_all, take-append-le, drop_all, drop-append-le, map-append, length-map}
use Rattle.std.proofs.lemmas.List.Elements.{All-take, All-drop}
use Rattle.std.proofs.lemmas.List.Sums.{sum_by-append}
use Rattle.ppq_sweep.specs.ppq_queue.Shown.{Shown}
use Rattle.ppq_sweep.specs.ppq_queue.Kept.{SameSlots, SameSums, AreQuiet, HasFailed, weight_at, overread}
use Rattle.ppq_sweep.specs.ppq_queue.Holding.{AreNewSlots, IsNewSlot}
use Rattle.ppq_event.proofs.ppq_queue.Slots.{SameSums-length}
use Rattle.ppq_engine.specs.ppq_load.ppq_budget.Sizes.{Numbers}
use Rattle.ppq_jobs.specs.Sweeping.{AreNewHalves}

module _ {X : Type 0} (P : X → Type 0) (xs ys : List X) where
  -- what holds of all holds of the first
  pub all-first : All P (xs ++ ys) → All P xs
  all-first all = subst (All P) (take-append-le (length xs) xs ys (omega arith) ∙ take_all (length xs) xs (omega arith)) (All-take P (length xs) (xs ++ ys) all)

  -- and of those behind them
  pub all-second : All P (xs ++ ys) → All P ys
  all-second all = subst (All P) (drop-append-le (length xs) xs ys (omega arith) ∙ ap (λ (t : List X). t ++ ys) (drop_all (length xs) xs (omega arith))) (All-drop P (length xs) (xs ++ ys) all)

module _ (a b a' b' : List Shown) where
  -- no call of either failed
  pub quiet-both : AreQuiet a a' → AreQuiet b b' → AreQuiet (a ++ b) (a' ++ b')
  quiet-both one other = omega (arith, sum_by-append (λ (s : Shown). s.faults) a b, sum_by-append (λ (s : Shown). s.faults) a' b', one, other)

  -- both add up to the same
  pub sums-both : SameSums a a' → SameSums b b' → SameSums (a ++ b) (a' ++ b')
  sums-both one other = λ f. omega (arith, sum_by-append f a b, sum_by-append f a' b', one f, other f)

  -- both are the same
  pub slots-both : SameSlots a a' → SameSlots b b' → SameSlots (a ++ b) (a' ++ b')
  slots-both one other = record {
    length = omega (arith, length-append a b, length-append a' b', one.length, other.length);
    each_once = λ n. omega (arith, sum_by-append (weight_at (λ s. 1) n) a b, sum_by-append (weight_at (λ s. 1) n) a' b', one.each_once n, other.each_once n);
    faults = λ n. omega (arith, sum_by-append (weight_at (λ s. s.faults) n) a b, sum_by-append (weight_at (λ s. s.faults) n) a' b', one.faults n, other.faults n);
    writes = λ n. omega (arith, sum_by-append (weight_at (λ s. s.writes) n) a b, sum_by-append (weight_at (λ s. s.writes) n) a' b', one.writes n, other.writes n);
    reads = λ n. omega (arith, sum_by-append (weight_at (λ s. s.reads) n) a b, sum_by-append (weight_at (λ s. s.reads) n) a' b', one.reads n, other.reads n);
    sizes = λ n. omega (arith, sum_by-append (weight_at (λ s. s.size) n) a b, sum_by-append (weight_at (λ s. s.size) n) a' b', one.sizes n, other.sizes n);
    overreads = omega (arith, sum_by-append overread a b, sum_by-append overread a' b', one.overreads, other.overreads);
  }

module _ (number : ℕ) (a b : List Shown) where
  -- a block of the first failed
  pub failed-first : HasFailed number a → HasFailed number (a ++ b)
  failed-first failed = omega (arith, sum_by-append (weight_at (λ s. s.faults) number) a b, failed)

  -- or one of those behind them
  pub failed-second : HasFailed number b → HasFailed number (a ++ b)
  failed-second failed = omega (arith, sum_by-append (weight_at (λ s. s.faults) number) a b, failed)

module _ {S : Type 0} (shown : S → Shown) where
  -- blocks that come back are as many
  pub sums-length : (slots : List Shown) (later : List S) → SameSums slots (map shown later) → length later ≡ length slots
  sums-length slots later sums = sym (length-map later shown) ∙ SameSums-length slots (map shown later) sums

  -- both lists come back in one
  pub sums-later : (a b : List Shown) (first second later : List S) → SameSums a (map shown first) → SameSums b (map shown second) → later ≡ first ++ second → SameSums (a ++ b) (map shown later)
  sums-later a b first second later one other is =
      subst (SameSums (a ++ b)) (sym (map-append shown first second) ∙ ap (map shown) (sym is)) (sums-both a b (map shown first) (map shown second) one other)

module _ {S : Type 0} (shown : S → Shown) (all first second : List S) (is : first ++ second ≡ all) where
  -- the blocks of both queues
  pub shown-both : map shown first ++ map shown second ≡ map shown all
  shown-both = sym (map-append shown first second) ∙ ap (map shown) is

  module _ (sizes : Numbers) (new : AreNewHalves sizes 16 (map shown all)) (half : length first ≡ min sizes.blocks (length all)) where
    fresh : All (IsNewSlot (sizes.block * 16)) (map shown first ++ map shown second)
    fresh = subst (All (IsNewSlot (sizes.block * 16))) (sym shown-both) new.fresh

    all_count : length all ≡ 2 * sizes.blocks
    all_count = sym (length-map all shown) ∙ new.count

    -- each queue gets as many as its device has
    pub new-first : AreNewSlots sizes 16 (map shown first)
    new-first = record { count = omega (arith, length-map first shown, half, all_count); fresh = all-first (IsNewSlot (sizes.block * 16)) (map shown first) (map shown second) fresh }

    pub new-second : AreNewSlots sizes 16 (map shown second)
    new-second = record {
      count = omega (arith, length-map second shown, half, all_count, length-append first second, ap length is);
      fresh = all-second (IsNewSlot (sizes.block * 16)) (map shown first) (map shown second) fresh;
    }

  -- a list that has room for those of two devices has room for all that come back
  pub room-later :
      (sizes : Numbers) (blocks room : ℕ) (first' second' : List S) → AreNewHalves sizes 16 (map shown all) → length first' ≡ length (map shown first) → length second' ≡ length (map shown second) → blocks ≡ sizes.blocks
      → 2 * blocks ≤ room → length first' + length second' ≤ room
  room-later sizes blocks room first' second' new one other same enough =
      omega (arith, one, other, same, enough, new.count, length-map all shown, length-map first shown, length-map second shown, length-append first second, ap length is)

  -- all blocks come back
  pub slots-later : (first' second' later : List S) → SameSlots (map shown first) (map shown first') → SameSlots (map shown second) (map shown second') → later ≡ first' ++ second' → SameSlots (map shown all) (map shown later)
  slots-later first' second' later one other end =
      let P : List Shown → Type 0 = λ s. SameSlots s (map shown later) in
      subst P shown-both (subst (SameSlots (map shown first ++ map shown second)) (sym (map-append shown first' second') ∙ ap (map shown) (sym end)) (slots-both (map shown first) (map shown second) (map shown first') (map shown second') one other))
