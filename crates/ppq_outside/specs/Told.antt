-- What slots, libraries and sinks tell, and how their counts rise.
use Rattle.std.specs.Prelude.{◌≡◌, ◌⊎◌, ℕ, ◌+◌, ◌-◌, ◌^◌, ◌≤◌, List, [], ◌++◌, length, take, drop, min, Option, Some, None, Result, Ok, Err, OnErr, IsErrOf, IsSome, OnOk, ⊤}
use Rattle.ppq_outside.specs.declared.fault.OutsideFault.{OutsideFault}
use Rattle.ppq_outside.specs.declared.fault.OutsideFault.TheVariants.{Failed, Memory}

-- a count that goes up by one, and stands still at its last value
abbrev pub next_count : ℕ → ℕ
next_count before = min (before + 1) (2 ^ 64 - 1)

-- the count went up, or stands at its last value
abbrev pub Rose : ℕ → ℕ → Type 0
Rose before now = next_count before ≤ now

-- the count did not fall; it rose where the call failed, and stayed where it did not
pub record HasCause {T : Type 0} (before now : ℕ) (result : Result T OutsideFault) : Type 0 where
  pub later : before ≤ now
  pub failed : IsErrOf result Failed → Rose before now
  pub ok : OnOk result (now ≡ before)
  pub memory : IsErrOf result Memory → now ≡ before

-- the same for a call with one error
pub record HasOneCause {T E : Type 0} (before now : ℕ) (result : Result T E) : Type 0 where
  pub later : before ≤ now
  pub failed : OnErr result (Rose before now)
  pub ok : OnOk result (now ≡ before)

-- the length that a map from names to bytes gives
abbrev pub length_of : Option (List ℕ) → Option ℕ
length_of None = None
length_of (Some bytes) = Some (length bytes)

-- the bytes that it gives, none for an absent name
abbrev pub bytes_or_none : Option (List ℕ) → List ℕ
bytes_or_none None = []
bytes_or_none (Some bytes) = bytes

-- what a library replied: of a name the length, none where there is no such file; or the bytes that a read of a name from an offset on
-- gave, into room for so many
pub data Reply : Type 0 where
  OfLength : (name : List ℕ) (size : Option ℕ) → Reply
  OfRead : (name : List ℕ) (at room : ℕ) (given : List ℕ) → Reply

-- what was replied before is not forgotten
abbrev pub Remembers : (Reply → Type 0) → (Reply → Type 0) → Type 0
Remembers before now = (reply : Reply) → before reply → now reply

-- the reply on the length of this name that a call gave, where it gave one
abbrev pub IsLengthGiven : {E : Type 0} → List ℕ → Result (Option ℕ) E → Reply → Type 0
IsLengthGiven asked (Ok size) reply = reply ≡ OfLength asked size
IsLengthGiven asked (Err fault) reply = ⊥

-- a reply to a read of this name from this offset on, into room for so many bytes
abbrev pub IsOfRead : List ℕ → ℕ → ℕ → Reply → Type 0
IsOfRead asked from most (OfLength name size) = ⊥
IsOfRead asked from most (OfRead name at room given) = (name ≡ asked) × (at ≡ from) × (room ≡ most)

-- nothing was replied since but of this kind
abbrev pub RepliesOnly : (Reply → Type 0) → (Reply → Type 0) → (Reply → Type 0) → Type 0
RepliesOnly before now kind = (reply : Reply) → now reply → before reply ⊎ kind reply

-- these are the bytes of a file from an offset on, or its first so many that are left there; none only at or past the file's end, or
-- for no room
pub record ReadsAt (bytes : List ℕ) (at room : ℕ) (given : List ℕ) : Type 0 where
  pub bytes_are : given ≡ take (length given) (drop at bytes)
  pub end : given ≡ [] → min room (length bytes - at) ≡ 0

-- where the library tells, the reply is true of its files
abbrev pub TellsReply : Option (List ℕ → Option (List ℕ)) → Reply → Type 0
TellsReply None reply = ⊤
TellsReply (Some files) (OfLength name size) = size ≡ length_of (files name)
TellsReply (Some files) (OfRead name at room given) = ReadsAt (bytes_or_none (files name)) at room given

-- where the sink tells, it took the whole piece
abbrev pub TakesAll : Option (List ℕ) → Option (List ℕ) → List ℕ → Type 0
TakesAll None new piece = new ≡ None
TakesAll (Some had) new piece = new ≡ Some (had ++ piece)

-- where the sink tells, it took the first bytes of the piece
abbrev pub TakesPart : Option (List ℕ) → Option (List ℕ) → List ℕ → Type 0
TakesPart None new piece = new ≡ None
TakesPart (Some had) new piece = (n : ℕ) × (n ≤ length piece) × (new ≡ Some (had ++ take n piece))

-- where the source tells what is to come, this piece came first, and the rest is to come
abbrev pub GivesPiece : Option (List ℕ) → Option (List ℕ) → List ℕ → Type 0
GivesPiece None new piece = new ≡ None
GivesPiece (Some coming) new piece = (rest : List ℕ) × (coming ≡ piece ++ rest) × (new ≡ Some rest)

-- these bytes and then this piece were given, if these were before
abbrev pub GivesBehind : (List ℕ → Type 0) → (List ℕ → Type 0) → List ℕ → Type 0
GivesBehind before now piece = (had : List ℕ) → before had → now (had ++ piece)

-- where the source tells, nothing is to come
abbrev pub NoneComes : Option (List ℕ) → Type 0
NoneComes None = ⊤
NoneComes (Some coming) = coming ≡ []

-- the count went up by one where the call answered Ok, and stands still at its type's end; it did not fall
pub record Counts {T E : Type 0} (result : Result T E) (before now : ℕ) : Type 0 where
  pub later : before ≤ now
  pub ok : OnOk result (now ≡ next_count before)
  pub err : OnErr result (now ≡ before)

-- where the slot tells, these are its bytes afterwards
abbrev pub Keeps : Option (List ℕ) → Option (List ℕ) → List ℕ → Type 0
Keeps None new bytes = new ≡ None
Keeps (Some had) new bytes = new ≡ Some bytes

-- a slot that tells goes on telling, whatever a call answers
abbrev pub StillTells : Option (List ℕ) → Option (List ℕ) → Type 0
StillTells None new = new ≡ None
StillTells (Some had) new = IsSome new

-- no call was made yet
pub record IsFresh (faults writes reads : ℕ) : Type 0 where
  pub no_fault : faults ≡ 0
  pub no_write : writes ≡ 0
  pub no_read : reads ≡ 0
