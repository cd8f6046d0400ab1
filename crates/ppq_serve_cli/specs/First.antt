-- The first frame, which names the records.
use Rattle.std.specs.Prelude.{◌≡◌, ◌⊎◌, ℕ, List, [], ◌∷◌, ◌++◌, Option, Some, None}
use Rattle.ppq_answer.specs.ppq_frames.ppq_outside.Told.{Rose}
use Rattle.ppq_answer.specs.ppq_frames.ppq_outside.declared.source.Source.{Ghosts as SourceShows}
use Rattle.ppq_answer.specs.ppq_frames.Frames.{Came, HasFirst, IsPart, IsTooLong, first_request}
use Rattle.ppq_requests.specs.ppq_script.declared.head.Head.{Head}
use Rattle.ppq_requests.specs.Hello.{hello_of}
use Rattle.ppq_answer.specs.ppq_engine.declared.end.End.TheVariants as end
use Rattle.ppq_answer.specs.declared.outcome.Outcome.{Outcome}
use Rattle.ppq_answer.specs.declared.outcome.Outcome.TheVariants.{Ended, BadRequest}

-- the frame that stands first is none of the four texts, or too long
abbrev pub NamesNone : List ℕ → Type 0
NamesNone waiting = (HasFirst waiting × (hello_of (first_request waiting) ≡ None)) ⊎ IsTooLong waiting

-- These bytes do not begin with a first frame: it is none of the four texts, or too long; or it is cut off or missing, since nothing more comes
abbrev pub IsNoHello : Type 0 → List ℕ → Type 0
IsNoHello over waiting = NamesNone waiting ⊎ (over × IsPart waiting)

module _ {I : Type 0} (source : SourceShows I) (old_source new_source : I) (was_waiting waiting : List ℕ) where
  -- the first frame was taken, and names this
  pub record TakesFirst (head : Head) : Type 0 where
    pub frame : List ℕ
    pub named : hello_of frame ≡ Some head
    pub came :
        (told : Option (List ℕ)) (taken : List (List ℕ)) → Came told (source.told old_source) (source.gave old_source) taken was_waiting
        → Came told (source.told new_source) (source.gave new_source) (taken ++ frame ∷ []) waiting
    pub same : source.faults new_source ≡ source.faults old_source

  -- why there is none
  abbrev pub FirstSays : Outcome → Type 0
  FirstSays (Ended end.ReadFault) = Rose (source.faults old_source) (source.faults new_source) × IsPart waiting
  FirstSays (Ended _) = ⊥
  FirstSays (BadRequest number) = (number ≡ 1) × IsNoHello (source.over new_source) waiting × (source.faults new_source ≡ source.faults old_source)

  pub record LacksFirst (outcome : Outcome) : Type 0 where
    pub came :
        (told : Option (List ℕ)) (taken : List (List ℕ)) → Came told (source.told old_source) (source.gave old_source) taken was_waiting
        → Came told (source.told new_source) (source.gave new_source) taken waiting
    pub says : FirstSays outcome
