-- Why a session did not begin, as a fault of a load.
use Rattle.std.proofs.Common.{◌≡◌, Bool, ℕ, sym, ap, ap₂, ◌∙◌, subst}
use Rattle.std.specs.Prelude.{Result, Err}
use Rattle.ppq_session.specs.ppq_queue.ppq_counts.Tally.{beginning}
use Rattle.ppq_session.specs.ppq_queue.Holding.{Holding, CountsAs}
use Rattle.ppq_session.specs.ppq_array.declared.store_fault.StoreFault.TheVariants.{Device}
use Rattle.ppq_session.specs.BulkSession.{IsBeginRefusal}
use Rattle.ppq_session.specs.Sessions.{IsUnbegun}
use Rattle.ppq_session.specs.declared.fault.BeginFault.{BeginFault}
use Rattle.ppq_session.specs.declared.fault.BeginFault.TheVariants as begin
use Rattle.ppq_load.specs.Refusal.{Keeps, HasNoRoom}
use Rattle.ppq_load.specs.declared.fault.LoadFault.{LoadFault}
use Rattle.ppq_load.specs.declared.fault.LoadFault.TheVariants.{Queue}
use Rattle.ppq_load.specs.Loading.{IsByLoad, IsHandedBack, LoadStopsFor, begin_fault_of}

-- a session did not begin, and left this queue, which keeps what a queue keeps in which it was begun
pub record IsUnbegunLoad {R : Type 0} (old begun new : Holding R) (fault : LoadFault) : Type 0 where
  pub refused : LoadStopsFor old.peak old.sizes begun.limited new.slots fault
  pub by_load : IsByLoad fault
  pub intact : IsHandedBack old new fault
  pub peak : new.peak ≡ old.peak
  pub kept : Keeps begun new
  pub counted : CountsAs (beginning old.counts) old new

module _ {R : Type 0} where
  -- why a session did not begin
  pub begin-refused : (old new : Holding R) (is_limited : Bool) (fault : BeginFault) → IsBeginRefusal old new fault → new.sizes ≡ old.sizes → new.peak ≡ old.peak → new.limited ≡ is_limited → LoadStopsFor old.peak old.sizes is_limited new.slots (begin_fault_of fault)
  begin-refused old new is_limited begin.Memory refused sizes peak limited = tt
  begin-refused old new is_limited begin.NoFreeBlock refused sizes peak limited =
      subst (λ l. HasNoRoom old.sizes l old.peak) limited (subst (λ n. HasNoRoom n new.limited old.peak) sizes (subst (λ load. HasNoRoom new.sizes new.limited load) peak (refused.above, refused.room)))
  begin-refused old new is_limited (begin.Device number) refused sizes peak limited = refused.fault

module _ {R : Type 0} where
  pub begin-back : (old new : Holding R) (fault : BeginFault) → IsBeginRefusal old new fault → IsHandedBack old new (begin_fault_of fault)
  begin-back old new begin.Memory refused = refused
  begin-back old new begin.NoFreeBlock refused = refused
  begin-back old new (begin.Device number) refused = refused

module _ {R : Type 0} where
  -- a block had failed before
  pub begin-latched :
      {A B : Type 0} (old new : Holding R) (fault : BeginFault) (given : LoadFault) (number : ℕ) → given ≡ begin_fault_of fault
      → ◌≡◌ {A = Result A (Holding R × BeginFault)} (Err (new, fault)) (Err (old, begin.Device number)) → ◌≡◌ {A = Result B (Holding R × LoadFault)} (Err (new, given)) (Err (old, Queue (Device number)))
  begin-latched old new fault given number is said =
      let pair : ◌≡◌ {A = Holding R × BeginFault} (new, fault) (old, begin.Device number) = cc in
      let queue : new ≡ old = ap (λ (p : Holding R × BeginFault). p.0) pair in
      let device : given ≡ Queue (Device number) = is ∙ ap (λ (p : Holding R × BeginFault). begin_fault_of p.1) pair in
      ap₂ (λ (q : Holding R) (f : LoadFault). Err (q, f)) queue device

pub begin-by : (fault : BeginFault) → IsByLoad (begin_fault_of fault)
begin-by begin.Memory = tt
begin-by begin.NoFreeBlock = tt
begin-by (begin.Device number) = tt

module _ {R : Type 0} where
  -- all of that
  pub unbegun : (old begun new : Holding R) (fault : BeginFault) (given : LoadFault) → begun.sizes ≡ old.sizes → given ≡ begin_fault_of fault → IsUnbegun old begun new fault → IsUnbegunLoad old begun new given
  unbegun old begun new fault given same is back =
      let made : IsUnbegunLoad old begun new (begin_fault_of fault) = record {
        refused = begin-refused old new begun.limited fault back.why (back.kept.sizes ∙ same) back.peak back.kept.limited;
        by_load = begin-by fault;
        intact = begin-back old new fault back.why;
        peak = back.peak;
        kept = back.kept;
        counted = back.counted;
      } in
      subst (λ (f : LoadFault). IsUnbegunLoad old begun new f) (sym is) made
