-- Bytes that come as frames, and the requests in them.
use Rattle.std.specs.Prelude.{◌≡◌, ◌≢◌, ◌⊎◌, ℕ, ◌+◌, ◌<◌, ◌≤◌, List, [], ◌++◌, length, take, drop, All, flat_map, Option, nat_lt, if◌then◌else◌}
use Rattle.std.specs.Int.{w32, to_be_bytes, from_be_bytes}
use Rattle.ppq_outside.specs.Told.{GivesPiece}
use Rattle.ppq_frames.specs.declared.found.Found.{Found}
use Rattle.ppq_frames.specs.declared.found.Found.TheVariants as found
use Rattle.ppq_frames.specs.declared.filled.Filled.{Filled}
use Rattle.ppq_frames.specs.declared.filled.Filled.TheVariants as filled

-- the most bytes that a request may have
abbrev pub longest : ℕ
longest = 4194304

-- a request's frame: how many bytes it has, in four bytes of which the highest is first, and these bytes
abbrev pub frame : List ℕ → List ℕ
frame request = to_be_bytes w32 (length request) ++ request

-- how many bytes follow the first four, as these say
abbrev pub announced : List ℕ → ℕ
announced bytes = from_be_bytes w32 bytes

-- how many bytes the frame has that these begin with, as far as they say
abbrev pub frame_length : List ℕ → ℕ
frame_length bytes = if nat_lt (length bytes) 4 then 4 else 4 + announced bytes

-- the request whose frame stands first, and what is behind it
abbrev pub first_request : List ℕ → List ℕ
first_request bytes = take (announced bytes) (drop 4 bytes)

abbrev pub behind_first : List ℕ → List ℕ
behind_first bytes = drop (announced bytes) (drop 4 bytes)

-- a whole frame of a request stands first
pub record HasFirst (bytes : List ℕ) : Type 0 where
  pub named : 4 ≤ length bytes
  pub few : announced bytes ≤ longest
  pub whole : 4 + announced bytes ≤ length bytes

-- fewer bytes than the frame has that they begin with
pub record IsCutOff (bytes : List ℕ) : Type 0 where
  pub named : 4 ≤ length bytes
  pub few : announced bytes ≤ longest
  pub cut : length bytes < 4 + announced bytes

-- a part of a frame, or nothing
abbrev pub IsPart : List ℕ → Type 0
IsPart bytes = (length bytes < 4) ⊎ IsCutOff bytes

-- a frame that is longer than that of a request may be
pub record IsTooLong (bytes : List ℕ) : Type 0 where
  pub named : 4 ≤ length bytes
  pub above : longest < announced bytes

-- what these bytes begin with
abbrev pub BeginsWith : List ℕ → Found → Type 0
BeginsWith bytes (found.Request request) = HasFirst bytes × (request.now ≡ first_request bytes)
BeginsWith bytes found.Part = IsPart bytes
BeginsWith bytes found.TooLong = IsTooLong bytes

-- these bytes are the frames of these requests, one behind the other, and then these that wait to be taken
pub record AreRequests (bytes : List ℕ) (requests : List (List ℕ)) (waiting : List ℕ) : Type 0 where
  pub few : All (λ request. length request ≤ longest) requests
  pub all : bytes ≡ flat_map frame requests ++ waiting

-- What a source gave since it was in a first state: the frames of these requests, and then these bytes that wait to be taken.
pub record Came (told told_now : Option (List ℕ)) (gave_now : List ℕ → Type 0) (requests : List (List ℕ)) (waiting : List ℕ) : Type 0 where
  pub given : List ℕ
  pub gave : gave_now given
  pub piece : GivesPiece told told_now given
  pub cut : AreRequests given requests waiting

-- whether more came behind what waited, and if not, whether a part of a frame waits; `over` says that nothing more comes
abbrev pub IsFilled : Type 0 → List ℕ → List ℕ → Filled → Type 0
IsFilled over had has filled.More = (piece : List ℕ) × (1 ≤ length piece) × (has ≡ had ++ piece)
IsFilled over had has filled.End = over × (had ≡ []) × (has ≡ [])
IsFilled over had has filled.CutOff = over × (had ≢ []) × (has ≡ had)
