-- How answering requests ends: what was written, and what each end says.
use Rattle.std.specs.Prelude.{◌≡◌, ◌<◌, ℕ, ◌+◌, List, [], ◌++◌, length, Option, None, ⊤}
use Rattle.ppq_frames.specs.ppq_outside.Shown.{Shown, AllTell}
use Rattle.ppq_frames.specs.ppq_outside.Told.{Reply, TakesAll, TakesPart}
use Rattle.ppq_frames.specs.ppq_outside.declared.source.Source.{Ghosts as SourceShows}
use Rattle.ppq_frames.specs.Frames.{Came, IsPart}
use Rattle.ppq_engine.specs.ppq_script.Words.{Words}
use Rattle.ppq_engine.specs.ppq_script.declared.form.Form.TheVariants as form
use Rattle.ppq_engine.specs.ppq_load.ppq_budget.Sizes.{Numbers, fixed_of}
use Rattle.ppq_engine.specs.ppq_array.Kept.{SameSlots, AreQuiet}
use Rattle.ppq_engine.specs.Output.{output_of}
use Rattle.ppq_engine.specs.Outcome.{EndSays, CountsStay, PutsStopped}
use Rattle.ppq_engine.specs.declared.end.End.{End}
use Rattle.ppq_engine.specs.declared.end.End.TheVariants as end
use Rattle.ppq_requests.specs.Requests.{AreAsked}
use Rattle.ppq_answer.specs.Serving.{script_of}
use Rattle.ppq_answer.specs.Talking.{IsNoRequest, talk_of}
use Rattle.ppq_answer.specs.declared.halt.Halt.{Halt}
use Rattle.ppq_answer.specs.declared.halt.Halt.TheVariants as halt
use Rattle.ppq_answer.specs.declared.outcome.Outcome.{Outcome}
use Rattle.ppq_answer.specs.declared.outcome.Outcome.TheVariants.{Ended, BadRequest}

-- no file is read
abbrev pub no_files : {R : Type 0} → ℕ → List R
no_files file = []

abbrev pub no_replies : Reply → Type 0
no_replies reply = ⊥

-- the outcomes before which all requests that came whole were answered
abbrev pub AnswersAll : Outcome → Type 0
AnswersAll (Ended end.Done) = ⊤
AnswersAll (Ended end.ReadFault) = ⊤
AnswersAll (Ended _) = ⊥
AnswersAll (BadRequest number) = ⊤

-- how a talk ends that halted so: what was gathered of the request that stopped is put, unless it was the sink that stopped it
abbrev pub FinishesAs : Option (List ℕ) → Option (List ℕ) → ℕ → ℕ → List ℕ → Halt → Outcome → Type 0
FinishesAs mid now sink sink_now had halt.Over outcome = (outcome ≡ Ended end.Done) × (now ≡ mid) × (sink_now ≡ sink)
FinishesAs mid now sink sink_now had (halt.Bad number) outcome = (outcome ≡ BadRequest number) × (now ≡ mid) × (sink_now ≡ sink)
FinishesAs mid now sink sink_now had halt.Source outcome = (outcome ≡ Ended end.ReadFault) × (now ≡ mid) × (sink_now ≡ sink)
FinishesAs mid now sink sink_now had (halt.Stopped stop) outcome = (over : End) × (outcome ≡ Ended over) × PutsStopped mid now sink sink_now had over stop

module _ {R : Type 0} (w : Words R) {I : Type 0} (source : SourceShows I) (old_source new_source : I) (sizes : Numbers) (first later : List Shown) (before now : Option (List ℕ)) (sink sink_now : ℕ) (requests : List (List ℕ)) (waiting : List ℕ) where
  -- what an end says that comes once the queue is open: what the end of a script says that has the talk's commands
  abbrev pub TalkSays : End → Type 0
  TalkSays end = EndSays w form.Bytes None no_replies (script_of (talk_of w requests)) first later sizes before now sink sink_now (source.faults old_source) (source.faults new_source) end

  -- the queue was not opened, and nothing was read or written
  pub record Unopened : Type 0 where
    pub unasked : requests ≡ []
    pub unwritten : now ≡ before
    pub counts : CountsStay sink sink_now (source.faults old_source) (source.faults new_source)

  -- what each outcome says
  abbrev pub OutcomeSays : Outcome → Type 0
  OutcomeSays (Ended end.Done) = TalkSays end.Done × source.over new_source × (waiting ≡ [])
  OutcomeSays (Ended end.ReadFault) = TalkSays end.ReadFault × IsPart waiting
  OutcomeSays (Ended end.Memory) = Unopened
  OutcomeSays (Ended (end.BudgetTooSmall need)) = Unopened × (sizes.memory < fixed_of sizes) × (need ≡ fixed_of sizes)
  OutcomeSays (Ended end) = TalkSays end
  OutcomeSays (BadRequest number) =
      (number ≡ length requests + 2) × IsNoRequest w (source.over new_source) (length requests + 1) waiting
      × CountsStay sink sink_now (source.faults old_source) (source.faults new_source) × AreQuiet first later

-- Requests of a source were answered over a queue of these sizes, behind a first frame that was taken before: they came whole, one behind the other; the
-- sink took a prefix of the output of their commands, and all of it where no request stopped; the outcome has its cause; and all blocks come back
pub record ServesTalk
    {R I : Type 0} (w : Words R) (source : SourceShows I) (sizes : Numbers) (first later : List Shown) (old_source new_source : I) (was_waiting waiting : List ℕ) (before now : Option (List ℕ)) (sink sink_now : ℕ) (outcome : Outcome) : Type 0 where
  pub requests : List (List ℕ)
  pub came :
      (told : Option (List ℕ)) (taken : List (List ℕ)) → Came told (source.told old_source) (source.gave old_source) taken was_waiting
      → Came told (source.told new_source) (source.gave new_source) (taken ++ requests) waiting
  pub are : AreAsked w requests
  pub part : AllTell first → TakesPart before now (output_of w form.Bytes no_files (talk_of w requests))
  pub all : AnswersAll outcome → AllTell first → TakesAll before now (output_of w form.Bytes no_files (talk_of w requests))
  pub says : OutcomeSays w source old_source new_source sizes first later before now sink sink_now requests waiting outcome
  pub slots : SameSlots first later
