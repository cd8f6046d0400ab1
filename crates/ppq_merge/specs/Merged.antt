-- What a merge by workers makes.
use Rattle.std.specs.Prelude.{◌≡◌, ℕ, List}
use Rattle.std.specs.declared.cmp.Ordering.{Ordering}
use Rattle.ppq_split.specs.ppq_record.Bag.{IsSameBag, front}
use Rattle.ppq_split.specs.ppq_record.Runs.{all_of}
use Rattle.ppq_split.specs.Cut.{AllAscend, AreWithin, IsCut, total}
use Rattle.ppq_merge.specs.Parts.{before}

-- out has just the count records in front of the places; if the runs ascend, the places are the cut of rank count, and out is the front
pub record IsMerged {R : Type 0} (cmp : R → R → Ordering) (lists : List (List R)) (count : ℕ) (places : List ℕ) (out : List R) : Type 0 where
  pub within : AreWithin places lists
  pub adds_up : total places ≡ count
  pub bag : IsSameBag out (before places lists)
  pub cut : AllAscend cmp lists → IsCut cmp lists count places
  pub front : AllAscend cmp lists → out ≡ front cmp (all_of lists) count
