-- What a load says, by what its session and its reading said.
use Rattle.std.proofs.Common.{◌≡◌, ℕ, ◌+◌, ◌/◌, ◌≤◌, List, ◌++◌, length, max, Option, Some, None, refl, ap, ◌∙◌, subst, arith}
use Rattle.std.specs.Prelude.{Result, Ok, Err, OnOk, OnErr, IfErr}
use Rattle.ppq_session.specs.ppq_record.Bag.{IsSameBag}
use Rattle.ppq_load.specs.Given.{records_of}
use Rattle.ppq_session.specs.ppq_outside.Shown.{Shown, AllTell}
use Rattle.ppq_session.specs.ppq_outside.Told.{Reply, bytes_or_none}
use Rattle.ppq_session.specs.ppq_array.Kept.{AreQuiet}
use Rattle.ppq_session.specs.ppq_queue.Holding.{Holding}
use Rattle.ppq_session.specs.ppq_array.declared.store_fault.StoreFault.{StoreFault as QueueFault}
use Rattle.ppq_session.specs.ppq_array.declared.store_fault.StoreFault.TheVariants.{NoFreeBlock, Device}
use Rattle.ppq_load.specs.declared.fault.LoadFault.{LoadFault}
use Rattle.ppq_load.specs.declared.fault.LoadFault.TheVariants.{Queue, Read, Memory, Ended}
use Rattle.ppq_files.specs.Reading.{HasLength}
use Rattle.ppq_load.specs.Loading.{SessionHolding, InSession, IsLoaded, HasGiven, LoadStopsFor, LoadEndsIn, LoadCountsFrom, IsByLoad, IsByRead, IsHandedBack, IsLeftBy, LoadLeaves, loaded_of, first_of}
use Rattle.ppq_load.proofs.FileRecords.{file-all}

module _ {R : Type 0} where
  -- What a load says of the queue. Ok: it has all of `bag`, so many records more, no failed block, and its peak, and no call of a slot failed.
  -- Else: why it was refused
  pub record LoadSays {B : Type 0} (bag : Type 0) (queue new : Holding R) (n : ℕ) (result : Result B LoadFault) : Type 0 where
    pub all : OnOk result bag
    pub size : OnOk result (new.size ≡ queue.size + n)
    pub sound : OnOk result (new.failed ≡ None)
    pub quiet : OnOk result (AreQuiet queue.slots new.slots)
    pub peak : OnOk result (new.peak ≡ max queue.peak (queue.size + n))
    pub refused : IfErr result (LoadStopsFor (max queue.peak (queue.size + n)) queue.sizes queue.limited new.slots)

module _ {R : Type 0} where
  -- a session ended to which these records were given
  pub loaded-says :
      {B : Type 0} (queue new : Holding R) (records : List R) (n : ℕ) (bag : Type 0) → length records ≡ n → ((AllTell queue.slots → IsSameBag new.bag (records ++ queue.bag)) → bag)
      → (ended : Result B QueueFault) → IsLoaded queue records new ended → LoadSays bag queue new n (loaded_of ended)
  loaded-says queue new records n bag long so (Ok value) loaded =
      record { all = so loaded.bag; size = loaded.size ∙ ap (λ k. queue.size + k) long; sound = loaded.sound; quiet = loaded.quiet; peak = loaded.peak ∙ ap (λ k. max queue.peak (queue.size + k)) long; refused = tt }
  loaded-says queue new records n bag long so (Err fault) loaded =
      record { all = tt; size = tt; sound = tt; quiet = tt; peak = tt; refused = subst (λ k. LoadStopsFor (max queue.peak (queue.size + k)) queue.sizes queue.limited new.slots (Queue fault)) long loaded.refused }

pub loaded-by : {B : Type 0} (ended : Result B QueueFault) → IfErr (loaded_of ended) IsByLoad
loaded-by (Ok value) = tt
loaded-by (Err fault) = tt

module _ {R : Type 0} where
  -- a fault of reading says nothing of the queue
  read-stops : (peak : ℕ) (queue : Holding R) (slots : List Shown) (fault : LoadFault) → IsByRead fault → LoadStopsFor peak queue.sizes queue.limited slots fault
  read-stops peak queue slots (Queue fault) by = absurd by
  read-stops peak queue slots Read by = tt
  read-stops peak queue slots Memory by = tt
  read-stops peak queue slots (Ended got) by = tt

-- what only a read can say stays as the read said it
pub first-err : {A B : Type 0} (read : Result A LoadFault) (ended : Result B QueueFault) (P : LoadFault → Type 0) → ((fault : QueueFault) → OnOk read (P (Queue fault))) → IfErr read P → IfErr (first_of read ended) P
first-err (Ok value) (Ok other) P queue by = tt
first-err (Ok value) (Err fault) P queue by = queue fault
first-err (Err fault) ended P queue by = by

-- where all is well, both were
pub first-ok : {A B : Type 0} (read : Result A LoadFault) (ended : Result B QueueFault) (P : Type 0) → OnOk read P → OnOk (first_of read ended) P
first-ok (Ok value) (Ok other) P holds = holds
first-ok (Ok value) (Err fault) P holds = tt
first-ok (Err fault) ended P holds = tt

module _ {R : Type 0} (record_of : List ℕ → R) (width : ℕ) where
  -- the session of a file ended, to which all its records were given unless reading it was refused
  pub first-says :
      {S A B : Type 0} (shown : S → Shown) (told : Option (List ℕ → Option (List ℕ))) (name : List ℕ) (said : ℕ) (load : SessionHolding S R) (queue new : Holding R) (ended : Result B QueueFault)
      → ((records : List R) → InSession shown queue records load → IsLoaded queue records new ended) → HasLength told name said
      → (read : Result A LoadFault) → OnOk read (HasGiven record_of width shown queue told name (said / width) load) → IfErr read IsByRead
      → LoadSays (AllTell queue.slots → (files : List ℕ → Option (List ℕ)) → told ≡ Some files → IsSameBag new.bag (records_of record_of width (bytes_or_none (files name)) ++ queue.bag)) queue new (said / width) (first_of read ended)
  first-says shown told name said load queue new ended end long (Ok value) given by =
      loaded-says queue new given.records (said / width) (AllTell queue.slots → (files : List ℕ → Option (List ℕ)) → told ≡ Some files → IsSameBag new.bag (records_of record_of width (bytes_or_none (files name)) ++ queue.bag)) given.are.length
      (λ bag tells files is. file-all record_of width told name files said new.bag queue.bag given.records is (long files is) given.are (bag tells)) ended (end given.records given.session)
  first-says shown told name said load queue new ended end long (Err fault) given by =
      record { all = tt; size = tt; sound = tt; quiet = tt; peak = tt; refused = read-stops (max queue.peak (queue.size + said / width)) queue new.slots fault by }

pub on_ok : {T E : Type 0} (result : Result T E) (P : Type 0) → P → OnOk result P
on_ok (Ok value) P holds = holds
on_ok (Err fault) P holds = tt

pub on_err : {T E : Type 0} (result : Result T E) (P : Type 0) → P → OnErr result P
on_err (Ok value) P holds = tt
on_err (Err fault) P holds = holds

pub on_ok-map : {T E : Type 0} (result : Result T E) (P Q : Type 0) → (P → Q) → OnOk result P → OnOk result Q
on_ok-map (Ok value) P Q f holds = f holds
on_ok-map (Err fault) P Q f holds = tt

module _ {R : Type 0} where
  -- a fault of reading says nothing of the queue but how many records it counts at the most
  read-left : (queue new : Holding R) (n : ℕ) (fault : LoadFault) → IsByRead fault → new.size ≤ queue.size + n → LoadLeaves queue new n fault
  read-left queue new n (Queue fault) by most = absurd by
  read-left queue new n Read by most = most
  read-left queue new n Memory by most = most
  read-left queue new n (Ended got) by most = most

module _ {R : Type 0} where
  -- a session ended to which these records were given, no more than so many
  module _ {S B : Type 0} (shown : S → Shown) (queue : Holding R) (records : List R) (load : SessionHolding S R) (new : Holding R) (n : ℕ) (few : length records ≤ n) (session : InSession shown queue records load) where
    -- whatever its end says, the queue counts no more of them
    ended-most : (ended : Result B QueueFault) → IsLoaded queue records new ended → IfErr ended (IsLeftBy shown load new) → new.size ≤ queue.size + n
    ended-most (Ok value) loaded left = omega (arith, few, loaded.size)
    ended-most (Err NoFreeBlock) loaded left = omega (arith, few, left.size, session.keeps.total, session.given.most)
    ended-most (Err (Device number)) loaded left = omega (arith, few, left.size, session.keeps.total, session.given.most)

    -- what a refused load left
    pub loaded-left : (ended : Result B QueueFault) → IfErr ended (IsLeftBy shown load new) → IfErr (loaded_of ended) (LoadLeaves queue new n)
    loaded-left (Ok value) left = tt
    loaded-left (Err NoFreeBlock) left = record {
      least = omega (arith, left.size, session.keeps.total);
      most = omega (arith, few, left.size, session.keeps.total, session.given.most);
      peak = omega (arith, left.size, left.peak, session.keeps.total, session.keeps.peak);
      sound = left.sound;
      quiet = left.quiet ∙ session.keeps.quiet refl;
    }
    loaded-left (Err (Device number)) left = (left.stopped, omega (arith, few, left.size, session.keeps.total, session.given.most))

    -- the same where a fault of reading stays the fault
    pub first-left : {A : Type 0} (read : Result A LoadFault) (ended : Result B QueueFault) → IsLoaded queue records new ended → IfErr ended (IsLeftBy shown load new) → IfErr read IsByRead → IfErr (first_of read ended) (LoadLeaves queue new n)
    first-left (Ok value) ended loaded left by = loaded-left ended left
    first-left (Err fault) ended loaded left by = read-left queue new n fault by (ended-most ended loaded left)

module _ {R : Type 0} where
  -- the session did not begin
  pub unbegun-left : (queue back : Holding R) (n : ℕ) (fault : LoadFault) → back.peak ≡ queue.peak → queue.size ≤ queue.peak → IsHandedBack queue back fault → LoadLeaves queue back n fault
  unbegun-left queue back n (Queue NoFreeBlock) same within found =
      record { least = omega (arith, found.size); most = omega (arith, found.size); peak = omega (arith, found.size, same, within); sound = found.sound; quiet = found.quiet }
  unbegun-left queue back n (Queue (Device number)) same within met = (record { fault = met.fault; kept = met.kept }, omega (arith, met.size))
  unbegun-left queue back n Read same within never = absurd never
  unbegun-left queue back n Memory same within intact = omega (arith, intact.size)
  unbegun-left queue back n (Ended got) same within never = absurd never

module _ {R : Type 0} where
  -- a queue that a block had stopped before comes back as it was
  pub back-latched :
      {A B : Type 0} (old new : Holding R) (fault given : LoadFault) → ◌≡◌ {A = Result A (Holding R × LoadFault)} (Err (new, fault)) (Err (old, given))
      → ◌≡◌ {A = Holding R × Result B LoadFault} (new, Err fault) (old, Err given)
  back-latched old new fault given said = (let pair : ◌≡◌ {A = Holding R × LoadFault} (new, fault) (old, given) = cc in ap (λ p. (p.0, Err p.1)) pair)

-- a session that did not begin read nothing
pub unread-ends : (told : Option (List ℕ → Option (List ℕ))) (replied : Reply → Type 0) (name : List ℕ) (said : ℕ) (fault : LoadFault) → IsByLoad fault → LoadEndsIn told replied name said fault
unread-ends told replied name said (Queue fault) by = tt
unread-ends told replied name said Read by = tt
unread-ends told replied name said Memory by = tt
unread-ends told replied name said (Ended got) by = absurd by

pub unread-counts : (count : ℕ) (fault : LoadFault) → IsByLoad fault → LoadCountsFrom count count fault
unread-counts count (Queue fault) by = refl
unread-counts count Read by = absurd by
unread-counts count Memory by = refl
unread-counts count (Ended got) by = absurd by
