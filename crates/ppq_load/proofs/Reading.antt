-- Why a file was not read, as a fault of a load.
use Rattle.std.proofs.Common.{ℕ, List, Option}
use Rattle.ppq_session.specs.ppq_outside.Told.{Reply}
use Rattle.ppq_files.specs.declared.fault.FileFault.{FileFault}
use Rattle.ppq_files.specs.declared.fault.FileFault.TheVariants.{Failed, Memory, Ended}
use Rattle.ppq_files.specs.Filling.{PieceEndsIn, FaultAfter}
use Rattle.ppq_load.specs.Loading.{IsByRead, IsReadRefusal, LoadEndsIn, LoadCountsFrom, read_fault_of}

read-by : (fault : FileFault) → IsByRead (read_fault_of fault)
read-by Failed = tt
read-by Memory = tt
read-by (Ended got) = tt

read-ended : (told : Option (List ℕ → Option (List ℕ))) (replied : Reply → Type 0) (name : List ℕ) (said : ℕ) (fault : FileFault) → PieceEndsIn told replied name said fault → LoadEndsIn told replied name said (read_fault_of fault)
read-ended told replied name said Failed ends = tt
read-ended told replied name said Memory ends = tt
read-ended told replied name said (Ended got) ends = ends

pub read-refused : (told : Option (List ℕ → Option (List ℕ))) (replied : Reply → Type 0) (name : List ℕ) (said : ℕ) (fault : FileFault) → PieceEndsIn told replied name said fault → IsReadRefusal told replied name said (read_fault_of fault)
read-refused told replied name said fault ends = record { by_file = read-by fault; ended = read-ended told replied name said fault ends }

pub read-counts : (before now : ℕ) (fault : FileFault) → FaultAfter before now fault → LoadCountsFrom before now (read_fault_of fault)
read-counts before now Failed after = after
read-counts before now Memory after = after
read-counts before now (Ended got) after = after
