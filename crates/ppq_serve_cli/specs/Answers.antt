-- What the top call says: of what a source gave, the answers to its requests, and how it ended.
use Rattle.std.specs.Prelude.{◌≡◌, ◌⊎◌, ℕ, List, [], ◌∷◌, Option, Some, None, String}
use Rattle.std.specs.declared.alloc.Global.{Global}
use Rattle.ppq_answer.specs.ppq_frames.ppq_outside.Shown.{Shown}
use Rattle.ppq_answer.specs.ppq_frames.ppq_outside.declared.rack.Rack.{Ghosts as RackShows}
use Rattle.ppq_answer.specs.ppq_frames.ppq_outside.declared.sink.Sink.{Ghosts as SinkShows}
use Rattle.ppq_answer.specs.ppq_frames.ppq_outside.declared.source.Source.{Ghosts as SourceShows}
use Rattle.ppq_answer.specs.ppq_frames.Frames.{Came}
use Rattle.ppq_requests.specs.ppq_script.Words.{Words}
use Rattle.ppq_requests.specs.ppq_script.declared.head.Head.{Head}
use Rattle.ppq_words.specs.Reading.{texts_of}
use Rattle.ppq_words.specs.ServeReading.{ServeReading, serve_reading_of}
use Rattle.ppq_answer.specs.ppq_engine.declared.end.End.TheVariants as end
use Rattle.ppq_answer.specs.declared.outcome.Answered.{Answered}
use Rattle.ppq_answer.specs.declared.outcome.Outcome.TheVariants.{Ended}
use Rattle.ppq_serve_cli.specs.First.{TakesFirst, FirstSays}
use Rattle.ppq_serve_cli.specs.Over.{ServesNamed}

-- what the arguments say, where they have a reading
abbrev pub serve_reading : List (String Global) → Option ServeReading
serve_reading words = serve_reading_of (texts_of words)

module _ {A B C D : Type 0} (up : Words A) (down : Words B) (triple_up : Words C) (triple_down : Words D) {I K O S : Type 0} (source : SourceShows I) (rack : RackShows K S) (sink : SinkShows O) (shown : S → Shown) where
  -- rack and sink are left alone, and there are no blocks
  pub record LeftAlone (old_rack new_rack : K) (old_out new_out : O) (answered : Answered S) : Type 0 where
    pub unmade : new_rack ≡ old_rack
    pub unwritten : new_out ≡ old_out
    pub none : answered.blocks.items ≡ []

  -- no first frame came
  pub record TakesNone (old_source new_source : I) (frames : List (List ℕ)) (waiting : List ℕ) (old_rack new_rack : K) (old_out new_out : O) (answered : Answered S) : Type 0 where
    pub frames_are : frames ≡ []
    pub says : FirstSays source old_source new_source [] waiting answered.outcome
    pub alone : LeftAlone old_rack new_rack old_out new_out answered

  -- the first frame names records; what follows are requests, which were answered over a queue of such records, from the moment on at which that frame was there
  pub record TakesBoth (r : ServeReading) (old_source new_source : I) (frames : List (List ℕ)) (waiting : List ℕ) (old_rack new_rack : K) (old_out new_out : O) (answered : Answered S) : Type 0 where
    pub head : Head
    pub between : I
    pub left : List ℕ
    pub first : TakesFirst source old_source between [] left head
    pub serves : ServesNamed up down triple_up triple_down head source rack sink shown r between new_source left waiting old_rack new_rack old_out new_out answered
    pub frames_are : frames ≡ first.frame ∷ serves.requests

  -- nothing of the outside was called
  pub record Idles (old_source new_source : I) (frames : List (List ℕ)) (old_rack new_rack : K) (old_out new_out : O) (answered : Answered S) : Type 0 where
    pub frames_are : frames ≡ []
    pub unread : new_source ≡ old_source
    pub alone : LeftAlone old_rack new_rack old_out new_out answered

  -- what arguments with this reading do: nothing, where memory was wanting; or they wait for the first frame, and then for requests
  abbrev pub Does : ServeReading → I → I → List (List ℕ) → List ℕ → K → K → O → O → Answered S → Type 0
  Does r old_source new_source frames waiting old_rack new_rack old_out new_out answered =
      (Idles old_source new_source frames old_rack new_rack old_out new_out answered × (answered.outcome ≡ Ended end.Memory))
      ⊎ (TakesNone old_source new_source frames waiting old_rack new_rack old_out new_out answered ⊎ TakesBoth r old_source new_source frames waiting old_rack new_rack old_out new_out answered)

  -- The source gave these frames, one behind the other, and then these bytes; and what arguments with this reading do with them
  pub record ServesWords (r : ServeReading) (old_source new_source : I) (old_rack new_rack : K) (old_out new_out : O) (answered : Answered S) : Type 0 where
    pub frames : List (List ℕ)
    pub waiting : List ℕ
    pub came : Came (source.told old_source) (source.told new_source) (source.gave new_source) frames waiting
    pub does : Does r old_source new_source frames waiting old_rack new_rack old_out new_out answered

  -- What all arguments do: those without a reading end with Usage, or where memory was wanting with Memory, and call nothing of the outside
  abbrev pub Answers : List (String Global) → I → I → K → K → O → O → Answered S → Type 0
  Answers words old_source new_source old_rack new_rack old_out new_out answered =
      ((Idles old_source new_source [] old_rack new_rack old_out new_out answered) × ((answered.outcome ≡ Ended end.Memory) ⊎ ((answered.outcome ≡ Ended end.Usage) × (serve_reading words ≡ None))))
      ⊎ ((r : ServeReading) × (serve_reading words ≡ Some r) × ServesWords r old_source new_source old_rack new_rack old_out new_out answered)
