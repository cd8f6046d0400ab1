-- What stands when no further request is answered.
use Rattle.std.specs.Prelude.{◌≡◌, ◌≢◌, ◌⊎◌, ◌≤◌, ℕ, ◌+◌, ◌-◌, ◌^◌, List, [], ◌∷◌, ◌++◌, length, Option, None, Some, Result, OnOk, ⊤}
use Rattle.ppq_frames.specs.ppq_outside.Told.{Rose}
use Rattle.ppq_frames.specs.ppq_outside.declared.source.Source.{Ghosts as SourceShows}
use Rattle.ppq_frames.specs.Frames.{Came, AreRequests, HasFirst, IsPart, IsTooLong, first_request}
use Rattle.ppq_engine.specs.ppq_script.Words.{Words}
use Rattle.ppq_engine.specs.ppq_script.declared.form.Form.{Form}
use Rattle.ppq_engine.specs.ppq_script.declared.command.Command.{Command}
use Rattle.ppq_engine.specs.ppq_script.declared.command.Command.TheVariants.{Size}
use Rattle.ppq_engine.specs.ppq_queue.Holding.{Holding}
use Rattle.ppq_engine.specs.Running.{SinkAfter}
use Rattle.ppq_engine.specs.declared.stop.Stop.{Stop}
use Rattle.ppq_requests.specs.Requests.{request_of, requests_of, AreAsked}
use Rattle.ppq_answer.specs.Serving.{Executes, StopsAmong, Serves}
use Rattle.ppq_answer.specs.declared.halt.Halt.{Halt}
use Rattle.ppq_answer.specs.declared.halt.Halt.TheVariants.{Over, Bad, Source, Stopped}

-- nothing was executed, taken or put
abbrev pub IsUntouched : {R : Type 0} → Holding R → Holding R → List ℕ → List ℕ → List ℕ → List ℕ → Option (List ℕ) → Option (List ℕ) → ℕ → ℕ → Type 0
IsUntouched old new had has waiting left before now sink sink_now = ((new ≡ old) × (has ≡ had)) × (left ≡ waiting) × ((now ≡ before) × (sink_now ≡ sink))

-- of these bytes the frame that stands first is none of operations, or too long
abbrev pub IsRefused : {R : Type 0} → Words R → List ℕ → Type 0
IsRefused w waiting = (HasFirst waiting × (request_of w (first_request waiting) ≡ None)) ⊎ IsTooLong waiting

-- Why these bytes, which wait behind so many frames, are no request: they are refused; or the frame is cut off, since nothing more comes; or the number
-- of frames, with this one, does not fit into 64 bits
abbrev pub IsNoRequest : {R : Type 0} → Words R → Type 0 → ℕ → List ℕ → Type 0
IsNoRequest w over frames waiting = IsRefused w waiting ⊎ ((over × (waiting ≢ []) × IsPart waiting) ⊎ (2 ^ 64 - 1 ≤ frames + 1))

-- the commands of a talk with these requests: the first frame, which names the records, is answered by `size`
abbrev pub talk_of : {R : Type 0} → Words R → List (List ℕ) → List (Command R)
talk_of w requests = Size ∷ requests_of w requests

module _ {R : Type 0} (w : Words R) (form : Form) where
  -- all these commands were executed, and what they print was put
  pub record AllAnswered (mid now : Option (List ℕ)) (sink sink_now : ℕ) (old new : Holding R) (had has : List ℕ) (commands : List (Command R)) : Type 0 where
    pub done : Executes w form mid now old new had has commands
    pub put : has ≡ []
    pub same : sink_now ≡ sink

  -- the request that stood first was taken, and executed with its answer put, or it stopped
  pub record AnswersFirst (waiting left : List ℕ) (mid now : Option (List ℕ)) (sink sink_now : ℕ) (old new : Holding R) (had has : List ℕ) (answered : Result ⊤ Stop) : Type 0 where
    pub commands : List (Command R)
    pub first : HasFirst waiting
    pub asked : request_of w (first_request waiting) ≡ Some commands
    pub serves : Serves w form mid now old new had has (commands ++ Size ∷ []) sink sink_now answered
    pub put : OnOk answered (has ≡ [])
    pub next : (bytes : List ℕ) (requests : List (List ℕ)) → AreRequests bytes requests waiting → AreRequests bytes (requests ++ first_request waiting ∷ []) left

  module _ {I : Type 0} (source : SourceShows I) (old_source new_source : I) (waiting : List ℕ) (mid now : Option (List ℕ)) (sink sink_now : ℕ) (old new : Holding R) (had has : List ℕ) where
    abbrev Answered : List (List ℕ) → Type 0
    Answered requests = AllAnswered mid now sink sink_now old new had has (talk_of w requests)

    abbrev Unfailed : Type 0
    Unfailed = source.faults new_source ≡ source.faults old_source

    -- by why there is no further one: what is known of these requests, and of what waits behind them
    abbrev pub Halts : List (List ℕ) → Halt → Type 0
    Halts requests Over = Answered requests × Unfailed × source.over new_source × (waiting ≡ [])
    Halts requests (Bad number) = Answered requests × Unfailed × (number ≡ length requests + 2) × IsNoRequest w (source.over new_source) (length requests + 1) waiting
    Halts requests Source = Answered requests × Rose (source.faults old_source) (source.faults new_source) × IsPart waiting
    Halts requests (Stopped stop) = StopsAmong w form mid now old new had has (talk_of w requests) stop × Unfailed × SinkAfter sink sink_now stop

    -- a talk: requests came whole, one behind the other, and each was answered; but the last one may have stopped
    pub record Talks (was_waiting : List ℕ) (halt : Halt) : Type 0 where
      pub requests : List (List ℕ)
      pub came :
          (told : Option (List ℕ)) (taken : List (List ℕ)) → Came told (source.told old_source) (source.gave old_source) taken was_waiting
          → Came told (source.told new_source) (source.gave new_source) (taken ++ requests) waiting
      pub are : AreAsked w requests
      pub halts : Halts requests halt
