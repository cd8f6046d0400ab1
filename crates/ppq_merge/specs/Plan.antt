-- The pieces of several workers.
use Rattle.std.specs.Prelude.{◌≡◌, ℕ, ◌+◌, ◌*◌, ◌/◌, ◌^◌, ◌<◌, ◌≤◌, min, max, Bool, true, List, [], ◌∷◌, ◌++◌, length, get_or, ⊤}
use Rattle.std.specs.declared.cmp.Ordering.{Ordering}
use Rattle.ppq_split.specs.ppq_record.Order.{is_before}
use Rattle.ppq_split.specs.ppq_record.Runs.{all_of}
use Rattle.ppq_split.specs.Cut.{AllAscend, AreWithin, IsCut, IsCutBy, total}
use Rattle.ppq_merge.specs.declared.seat.Seat.{Seat}
use Rattle.ppq_merge.specs.Seat.{from_of, to_of, HasRoom, KeepsSize, KeepSizes}
use Rattle.ppq_merge.specs.Parts.{IsMergeBy, AreParts, size_between, IsParted}

module _ {R : Type 0} where
  -- the runs have at least count records, and fewer than 2 ^ 64
  pub record HaveRecords (qs : List (List R)) (count : ℕ) : Type 0 where
    pub enough : count ≤ length (all_of qs)
    pub room : length (all_of qs) < 2 ^ 64

  -- no place is past the end of its run, and they add up to the rank; if the runs ascend, the places are the cut of that rank
  pub record StandsAt (cmp : R → R → Ordering) (qs : List (List R)) (rank : ℕ) (cs : List ℕ) : Type 0 where
    pub within : AreWithin cs qs
    pub adds_up : total cs ≡ rank
    pub cut : AllAscend cmp qs → IsCut cmp qs rank cs

  -- a seat got the piece from the places f to the places t, which stand at rank, and kept its size
  pub record GetsPiece (qs : List (List R)) (f t : List ℕ) (rank : ℕ) (old new : Seat R) : Type 0 where
    pub from : from_of qs new ≡ f
    pub to : to_of qs new ≡ t
    pub end : new.end ≡ rank
    pub kept : KeepsSize old new

  -- the workers' pieces follow one another, from rank base to rank end
  unfoldable pub Fill : List (List R) → ℕ → List (Seat R) → ℕ → Type 0
  Fill qs base [] end = base ≡ end
  Fill qs base (s ∷ ss) end =
      (s.end ≡ base + size_between (from_of qs s) (to_of qs s)) × AreParts (from_of qs s) (to_of qs s) qs × HasRoom qs s × Fill qs s.end ss end

  -- out is the workers' pieces, one after the other
  unfoldable pub PiecesBy : (R → R → Bool) → List (List R) → List (Seat R) → List R → Type 0
  PiecesBy lt qs [] out = out ≡ []
  PiecesBy lt qs (s ∷ ss) out =
      (a : List R) × (b : List R) × (out ≡ a ++ b) × IsMergeBy lt qs (from_of qs s) (to_of qs s) a × PiecesBy lt qs ss b

  abbrev pub Pieces : (R → R → Ordering) → List (List R) → List (Seat R) → List R → Type 0
  Pieces cmp qs ss out = PiecesBy (is_before cmp) qs ss out

  -- each worker begins where the one before it ends
  unfoldable pub Chain : List (List R) → List ℕ → List (Seat R) → List ℕ → Type 0
  Chain qs f [] t = f ≡ t
  Chain qs f (s ∷ ss) t = (from_of qs s ≡ f) × AreParts f (to_of qs s) qs × Chain qs (to_of qs s) ss t

  -- nothing before a worker's end is after anything from there on
  unfoldable pub AllParted : (R → R → Bool) → List (List R) → List (Seat R) → Type 0
  AllParted lt qs [] = ⊤
  AllParted lt qs (s ∷ ss) = IsParted lt (to_of qs s) qs × AllParted lt qs ss

  -- the workers' pieces go from the places f to the places t, which stand at rank
  pub record IsPlan (qs : List (List R)) (f : List ℕ) (ss : List (Seat R)) (t : List ℕ) (rank : ℕ) : Type 0 where
    pub chain : Chain qs f ss t
    pub fill : Fill qs 0 ss rank

  -- and the places t, and those where a worker ends, are cuts
  pub record IsCutPlan (lt : R → R → Bool) (qs : List (List R)) (ss : List (Seat R)) (t : List ℕ) (rank : ℕ) : Type 0 where
    pub cut : IsCutBy lt qs rank t
    pub parted : AllParted lt qs ss

  -- the places t stand at rank, and if no place fell the workers' pieces go from the places f to there; no place falls if the runs ascend
  pub record IsPlanned (cmp : R → R → Ordering) (qs : List (List R)) (f : List ℕ) (ss : List (Seat R)) (t : List ℕ) (rank : ℕ) (rises : Bool) : Type 0 where
    pub within : AreWithin t qs
    pub adds_up : total t ≡ rank
    pub plan : rises ≡ true → IsPlan qs f ss t rank
    pub rising : AllAscend cmp qs → (rises ≡ true) × IsCutPlan (is_before cmp) qs ss t rank

  -- there are workers, whose numbers from first on fit 32 bits, and whose pieces from rank base on are so many records
  pub record HavePieces (qs : List (List R)) (first base : ℕ) (ss : List (Seat R)) (size : ℕ) : Type 0 where
    pub some : 0 < length ss
    pub numbers : first + length ss < 2 ^ 32
    pub fill : Fill qs base ss (base + size)

  -- the workers made their pieces of out, and their seats kept their sizes
  pub record MadePieces (cmp : R → R → Ordering) (qs : List (List R)) (old new : List (Seat R)) (out : List R) : Type 0 where
    pub pieces : Pieces cmp qs old out
    pub kept : KeepSizes old new

-- no place falls
abbrev pub Rises : List ℕ → List ℕ → Type 0
Rises fs ts = (i : ℕ) → get_or fs i 0 ≤ get_or ts i 0

-- How many of some workers merge so many records of so many runs, where a thread for each of them pays: as many as get 6,144 records each, and 8
-- for each run; one at least. A piece of 6,144 takes one worker some 120 microseconds; a thread is started and joined in 15 to 40, a cut made in 17
abbrev pub workers_that_pay : ℕ → ℕ → ℕ → ℕ
workers_that_pay count runs workers = max 1 (min workers (count / (6144 + 8 * runs)))
