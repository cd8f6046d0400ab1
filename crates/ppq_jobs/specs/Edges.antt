-- What is swept, and which records of its file are edges.
use Rattle.std.specs.Prelude.{◌≡◌, ◌≤◌, ◌/◌, ◌&&◌, ℕ, suc, Bool, List, [], ◌∷◌, length, take, Option, Some, None, if◌then◌else◌, nat_lt}
use Rattle.ppq_sweep.specs.ppq_record.declared.pair.Pair.{Pair}
use Rattle.ppq_sweep.specs.ppq_record.Pair.{pair_of}
use Rattle.ppq_sweep.specs.ppq_outside.Told.{Reply, bytes_or_none}
use Rattle.ppq_engine.specs.ppq_files.Reading.{IsGivenAt}
use Rattle.ppq_engine.specs.ppq_load.Given.{records_of}
use Rattle.ppq_jobs.specs.declared.graph.Graph.{Graph}

-- the edges in the record file of this name and of so many bytes, between so many nodes
pub record Wanted : Type 0 where
  pub name : List ℕ
  pub bytes : ℕ
  pub nodes : ℕ

abbrev pub wanted_of : Graph → Wanted
wanted_of g = record { name = g.name.now; bytes = g.bytes; nodes = g.nodes }

-- how many edges the file has
abbrev pub edge_count : Wanted → ℕ
edge_count wanted = wanted.bytes / 16

-- the edges of a file
abbrev pub edges_in : (List ℕ → Option (List ℕ)) → List ℕ → List Pair
edges_in files name = records_of pair_of 16 (bytes_or_none (files name))

-- where the library tells, this holds of the edges of its file
abbrev pub OfEdges : Option (List ℕ → Option (List ℕ)) → Wanted → (List Pair → Type 0) → Type 0
OfEdges told wanted P = (files : List ℕ → Option (List ℕ)) → told ≡ Some files → P (edges_in files wanted.name)

-- a record is an edge between so many nodes: it leads from its key to its value, which is greater
abbrev pub is_edge : ℕ → Pair → Bool
is_edge nodes r = nat_lt r.key r.value && nat_lt r.value nodes

-- the number of the first record that is no edge, if the first of these has this number
abbrev pub first_bad_from : ℕ → ℕ → List Pair → Option ℕ
first_bad_from nodes at [] = None
first_bad_from nodes at (r ∷ rs) = if is_edge nodes r then first_bad_from nodes (suc at) rs else Some at

-- the same, counted from 1
abbrev pub first_bad : ℕ → List Pair → Option ℕ
first_bad nodes records = first_bad_from nodes 1 records

-- these are first bytes of the file: reads gave them, and where the library tells, the file begins with them
pub record AreFirstBytes (told : Option (List ℕ → Option (List ℕ))) (replied : Reply → Type 0) (wanted : Wanted) (bytes : List ℕ) : Type 0 where
  pub within : length bytes ≤ wanted.bytes
  pub given : IsGivenAt replied wanted.name 0 bytes
  pub are : (files : List ℕ → Option (List ℕ)) → told ≡ Some files → bytes ≡ take (length bytes) (bytes_or_none (files wanted.name))

-- the record with this number is the first one that is no edge: of the bytes that reads gave, and of the file, where the library tells
pub record FindsBad (told : Option (List ℕ → Option (List ℕ))) (replied : Reply → Type 0) (wanted : Wanted) (at : ℕ) : Type 0 where
  pub bytes : List ℕ
  pub first : AreFirstBytes told replied wanted bytes
  pub bad : first_bad wanted.nodes (records_of pair_of 16 bytes) ≡ Some at
  pub told_bad : OfEdges told wanted (λ edges. first_bad wanted.nodes edges ≡ Some at)

-- each record is an edge: of the bytes that reads gave, which are all that were said, and of the file, where the library tells
pub record FindsNone (told : Option (List ℕ → Option (List ℕ))) (replied : Reply → Type 0) (wanted : Wanted) : Type 0 where
  pub bytes : List ℕ
  pub first : AreFirstBytes told replied wanted bytes
  pub all : length bytes ≡ wanted.bytes
  pub good : first_bad wanted.nodes (records_of pair_of 16 bytes) ≡ None
  pub told_good : OfEdges told wanted (λ edges. first_bad wanted.nodes edges ≡ None)
