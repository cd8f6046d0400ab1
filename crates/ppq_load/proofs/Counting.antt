-- What a queue counts of a session, by what its end or its beginning counted.
use Rattle.std.proofs.Common.{ℕ, arith}
use Rattle.std.specs.Prelude.{Result, Ok, Err, OnOk}
use Rattle.ppq_session.specs.ppq_array.declared.store_fault.StoreFault.{StoreFault as QueueFault}
use Rattle.ppq_session.specs.ppq_queue.Holding.{Holding, IsBackedQueue, AreStoresBacked, CountsFew}
use Rattle.ppq_load.specs.declared.fault.LoadFault.{LoadFault}
use Rattle.ppq_load.specs.Loading.{loaded_of, first_of}

module _ {R : Type 0} where
  -- stores that are backed beside all records in heaps are so beside none
  pub stores-backed : (q : Holding R) → IsBackedQueue q → AreStoresBacked q
  stores-backed q backed = λ counting. record { within = omega (arith, (backed counting).within) }

  -- whatever was answered, the stores are backed
  pub few-stores : {T E : Type 0} {n s : ℕ} (old new : Holding R) (r : Result T E) → CountsFew n s old new r → IsBackedQueue old → AreStoresBacked new
  few-stores old new (Ok value) few was = stores-backed new (few.backed was)
  few-stores old new (Err fault) few was = few.unbacked was

  -- The same with another answer, which is Ok only where this one is
  pub few-to : {T E U F : Type 0} {n s : ℕ} (old new : Holding R) (r : Result T E) (q : Result U F) → ((A : Type 0) → OnOk r A → OnOk q A) → CountsFew n s old new r → CountsFew n s old new q
  few-to old new r (Ok value) to few = record { accepted = few.accepted; sessions = few.sessions; backed = to (IsBackedQueue old → IsBackedQueue new) few.backed; unbacked = tt }
  few-to old new r (Err fault) to few = record { accepted = few.accepted; sessions = few.sessions; backed = tt; unbacked = few-stores old new r few }

-- a load is Ok only where the end of its session is
pub loaded-on : {B : Type 0} (ended : Result B QueueFault) (A : Type 0) → OnOk ended A → OnOk (loaded_of ended) A
loaded-on (Ok value) A holds = holds
loaded-on (Err fault) A holds = tt

-- so is a load of a file, whatever reading it said
pub first-on : {A B : Type 0} (read : Result A LoadFault) (ended : Result B QueueFault) (C : Type 0) → OnOk ended C → OnOk (first_of read ended) C
first-on (Ok value) ended C holds = loaded-on ended C holds
first-on (Err fault) ended C holds = tt
