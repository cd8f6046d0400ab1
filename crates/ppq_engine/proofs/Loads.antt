-- What a load answers, as an answer of the engine.
use Rattle.std.proofs.Common.{◌≡◌, ℕ, ◌+◌, ◌<◌, ◌≤◌, Bool, List, Option, None, max, refl, sym, ◌∙◌, subst, arith}
use Rattle.std.specs.Prelude.{Result, Ok, Err, IfErr, OnOk}
use Rattle.ppq_script.specs.ppq_outside.Shown.{Shown}
use Rattle.ppq_script.specs.ppq_outside.Told.{Reply}
use Rattle.ppq_load.specs.ppq_budget.Sizes.{Numbers}
use Rattle.ppq_load.specs.ppq_array.Kept.{AreQuiet}
use Rattle.ppq_load.specs.ppq_queue.Holding.{Holding, CountsAs}
use Rattle.ppq_load.specs.ppq_array.declared.store_fault.StoreFault.TheVariants.{NoFreeBlock, Device}
use Rattle.ppq_load.specs.ppq_counts.Tally.{beginning}
use Rattle.ppq_load.specs.ppq_session.Sessions.{IsUnbegun}
use Rattle.ppq_load.specs.ppq_session.declared.fault.BeginFault.{BeginFault}
use Rattle.ppq_load.specs.ppq_session.declared.fault.BeginFault.TheVariants as begin
use Rattle.ppq_load.specs.Loading.{IsByLoad, IsHandedBack, LoadLeaves, LoadStopsFor, LoadCountsFrom, LoadEndsIn, begin_fault_of}
use Rattle.ppq_load.specs.Refusal.{Keeps}
use Rattle.ppq_load.proofs.Loadings.{IsUnbegunLoad, unbegun}
use Rattle.ppq_load.proofs.Refusals.{stop-later}
use Rattle.ppq_load.specs.declared.fault.LoadFault.{LoadFault}
use Rattle.ppq_load.specs.declared.fault.LoadFault.TheVariants.{Queue, Read, Memory, Ended}
use Rattle.ppq_engine.specs.Calls.{Adds}
use Rattle.ppq_engine.specs.Files.{begin_stop, load_stop, load_result, IsByFile, IsBySession, EndsEarly}
use Rattle.ppq_engine.specs.Running.{StopsFor, StopsQuiet, LibraryAfter}
use Rattle.ppq_engine.specs.declared.stop.Stop.{Stop}

stop-refused : (peak : ℕ) (sizes : Numbers) (limited : Bool) (slots : List Shown) (line said : ℕ) (fault : LoadFault) → LoadStopsFor peak sizes limited slots fault → StopsFor peak sizes limited slots (load_stop line said fault)
stop-refused peak sizes limited slots line said (Queue fault) h = h
stop-refused peak sizes limited slots line said Read h = tt
stop-refused peak sizes limited slots line said Memory h = tt
stop-refused peak sizes limited slots line said (Ended got) h = tt

module _ {R : Type 0} (old new : Holding R) (line said : ℕ) where
  -- no call of a block failed where none was free: of a load that was refused, and of a session that did not begin
  stop-quiet : (count : ℕ) (fault : LoadFault) → LoadLeaves old new count fault → StopsQuiet old.slots new.slots (load_stop line said fault)
  stop-quiet count (Queue NoFreeBlock) h = h.quiet
  stop-quiet count (Queue (Device number)) h = tt
  stop-quiet count Read h = tt
  stop-quiet count Memory h = tt
  stop-quiet count (Ended got) h = tt

  back-quiet : (fault : LoadFault) → IsHandedBack old new fault → StopsQuiet old.slots new.slots (load_stop line said fault)
  back-quiet (Queue NoFreeBlock) h = h.quiet
  back-quiet (Queue (Device number)) h = tt
  back-quiet Read h = tt
  back-quiet Memory h = tt
  back-quiet (Ended got) h = tt

stop-by_session : (line said : ℕ) (fault : LoadFault) → IsByLoad fault → IsBySession (load_stop line said fault)
stop-by_session line said (Queue fault) h = tt
stop-by_session line said Read h = absurd h
stop-by_session line said Memory h = tt
stop-by_session line said (Ended got) h = absurd h

stop-by_file : (line said : ℕ) (fault : LoadFault) → IsByFile (load_stop line said fault)
stop-by_file line said (Queue fault) = tt
stop-by_file line said Read = tt
stop-by_file line said Memory = tt
stop-by_file line said (Ended got) = tt

stop-ended : (told : Option (List ℕ → Option (List ℕ))) (replied : Reply → Type 0) (name : List ℕ) (line said : ℕ) (fault : LoadFault) → LoadEndsIn told replied name said fault → EndsEarly told replied name line said (load_stop line said fault)
stop-ended told replied name line said (Queue fault) h = tt
stop-ended told replied name line said Read h = tt
stop-ended told replied name line said Memory h = tt
stop-ended told replied name line said (Ended got) h = (refl, (refl, h))

stop-counts : (before now line said : ℕ) (fault : LoadFault) → LoadCountsFrom before now fault → LibraryAfter before now (load_stop line said fault)
stop-counts before now line said (Queue fault) h = h
stop-counts before now line said Read h = h
stop-counts before now line said Memory h = h
stop-counts before now line said (Ended got) h = h

-- why a session did not begin, as a stop, is that of a load
begin-is : (fault : BeginFault) → begin_stop fault ≡ load_stop 0 0 (begin_fault_of fault)
begin-is begin.Memory = refl
begin-is begin.NoFreeBlock = refl
begin-is (begin.Device number) = refl

-- a session did not begin, and left this queue, with this stop
pub record IsUnbegunStop {R : Type 0} (old begun new : Holding R) (most : ℕ) (stop : Stop) : Type 0 where
  pub by_session : IsBySession stop
  pub refused : StopsFor most old.sizes begun.limited new.slots stop
  pub quiet : StopsQuiet old.slots new.slots stop
  pub kept : Keeps begun new
  pub counted : CountsAs (beginning old.counts) old new

pub unbegun-stop :
    {R : Type 0} (old begun new : Holding R) (most : ℕ) (fault : BeginFault) (stop : Stop) → begun.sizes ≡ old.sizes → 0 < old.sizes.block → old.peak ≤ most → stop ≡ begin_stop fault → IsUnbegun old begun new fault
    → IsUnbegunStop old begun new most stop
unbegun-stop {R} old begun new most fault stop same some more is back =
    let load = begin_fault_of fault in
    let was : IsUnbegunLoad old begun new load = unbegun old begun new fault load same refl back in
    let made : IsUnbegunStop old begun new most (load_stop 0 0 load) = record {
      by_session = stop-by_session 0 0 load was.by_load;
      refused = stop-refused most old.sizes begun.limited new.slots 0 0 load (stop-later old.sizes begun.limited begun.limited old.peak most some (λ e. e) more new.slots load was.refused);
      quiet = back-quiet old new 0 0 load was.intact;
      kept = was.kept;
      counted = was.counted;
    } in
    subst (λ (s : Stop). IsUnbegunStop old begun new most s) (sym (is ∙ begin-is fault)) made

-- a load's answer, and the engine's
module _ {T : Type 0} (line said : ℕ) (r : Result T LoadFault) (s : Result T Stop) (same : s ≡ load_result line said r) where
  result-ok : (A : Type 0) (q : Result T LoadFault) → OnOk q A → OnOk (load_result line said q) A
  result-ok A (Ok v) h = h
  result-ok A (Err f) h = tt

  result-err : (P : LoadFault → Type 0) (Q : Stop → Type 0) → ((f : LoadFault) → P f → Q (load_stop line said f)) → (q : Result T LoadFault) → IfErr q P → IfErr (load_result line said q) Q
  result-err P Q step (Ok v) h = tt
  result-err P Q step (Err f) h = step f h

  result-any : (Q : Stop → Type 0) → ((f : LoadFault) → Q (load_stop line said f)) → (q : Result T LoadFault) → IfErr (load_result line said q) Q
  result-any Q step (Ok v) = tt
  result-any Q step (Err f) = step f

  pub loaded-ok : (A : Type 0) → OnOk r A → OnOk s A
  loaded-ok A h = let P : Result T Stop → Type 0 = λ x. OnOk x A in subst P (sym same) (result-ok A r h)

  result-adds : {R : Type 0} (old new : Holding R) (count : ℕ) (q : Result T LoadFault) → OnOk q (new.size ≡ old.size + count) → OnOk q (new.failed ≡ None) → OnOk q (AreQuiet old.slots new.slots) → OnOk q (new.peak ≡ max old.peak (old.size + count)) → OnOk (load_result line said q) (Adds old new count)
  result-adds old new count (Ok v) size sound quiet peak = record { size = size; sound = sound; quiet = quiet; peak = omega (arith, peak) }
  result-adds old new count (Err f) size sound quiet peak = tt

  pub loaded-adds : {R : Type 0} (old new : Holding R) (count : ℕ) → OnOk r (new.size ≡ old.size + count) → OnOk r (new.failed ≡ None) → OnOk r (AreQuiet old.slots new.slots) → OnOk r (new.peak ≡ max old.peak (old.size + count)) → OnOk s (Adds old new count)
  loaded-adds old new count size sound quiet peak = let P : Result T Stop → Type 0 = λ x. OnOk x (Adds old new count) in subst P (sym same) (result-adds old new count r size sound quiet peak)

  pub loaded-refused : (peak : ℕ) (sizes : Numbers) (limited : Bool) (slots : List Shown) → IfErr r (LoadStopsFor peak sizes limited slots) → IfErr s (StopsFor peak sizes limited slots)
  loaded-refused peak sizes limited slots h =
      let P : Result T Stop → Type 0 = λ x. IfErr x (StopsFor peak sizes limited slots) in
      subst P (sym same) (result-err (LoadStopsFor peak sizes limited slots) (StopsFor peak sizes limited slots) (stop-refused peak sizes limited slots line said) r h)

  pub loaded-quiet : {R : Type 0} (old new : Holding R) (count : ℕ) → IfErr r (LoadLeaves old new count) → IfErr s (StopsQuiet old.slots new.slots)
  loaded-quiet old new count h =
      let P : Result T Stop → Type 0 = λ x. IfErr x (StopsQuiet old.slots new.slots) in
      subst P (sym same) (result-err (LoadLeaves old new count) (StopsQuiet old.slots new.slots) (stop-quiet old new line said count) r h)

  pub loaded-by_session : IfErr r IsByLoad → IfErr s IsBySession
  loaded-by_session h = let P : Result T Stop → Type 0 = λ x. IfErr x IsBySession in subst P (sym same) (result-err IsByLoad IsBySession (stop-by_session line said) r h)

  pub loaded-by_file : IfErr s IsByFile
  loaded-by_file = let P : Result T Stop → Type 0 = λ x. IfErr x IsByFile in subst P (sym same) (result-any IsByFile (stop-by_file line said) r)

  pub loaded-ended : (told : Option (List ℕ → Option (List ℕ))) (replied : Reply → Type 0) (name : List ℕ) → IfErr r (LoadEndsIn told replied name said) → IfErr s (EndsEarly told replied name line said)
  loaded-ended told replied name h =
      let P : Result T Stop → Type 0 = λ x. IfErr x (EndsEarly told replied name line said) in
      subst P (sym same) (result-err (LoadEndsIn told replied name said) (EndsEarly told replied name line said) (stop-ended told replied name line said) r h)

  pub loaded-counts : (before now : ℕ) → IfErr r (LoadCountsFrom before now) → IfErr s (LibraryAfter before now)
  loaded-counts before now h =
      let P : Result T Stop → Type 0 = λ x. IfErr x (LibraryAfter before now) in
      subst P (sym same) (result-err (LoadCountsFrom before now) (LibraryAfter before now) (stop-counts before now line said) r h)
