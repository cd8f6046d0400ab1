-- What requests over a device, or none, say of what came.
use Rattle.std.proofs.Common.{◌≡◌, ℕ, List, [], ◌++◌, Option, sym, subst, inl, inr}
use Rattle.std.specs.Prelude.{Result, Err}
use Rattle.ppq_answer.specs.ppq_frames.ppq_outside.Shown.{Shown}
use Rattle.ppq_answer.specs.ppq_frames.ppq_outside.Told.{HasCause}
use Rattle.ppq_answer.specs.ppq_frames.ppq_outside.declared.fault.OutsideFault.{OutsideFault}
use Rattle.ppq_answer.specs.ppq_frames.ppq_outside.declared.fault.OutsideFault.TheVariants.{Failed, Memory}
use Rattle.ppq_answer.specs.ppq_frames.ppq_outside.declared.rack.Rack.{Ghosts as RackShows}
use Rattle.ppq_answer.specs.ppq_frames.ppq_outside.declared.sink.Sink.{Ghosts as SinkShows}
use Rattle.ppq_answer.specs.ppq_frames.ppq_outside.declared.source.Source.{Ghosts as SourceShows}
use Rattle.ppq_answer.specs.ppq_frames.Frames.{Came}
use Rattle.ppq_answer.specs.declared.outcome.Answered.{Answered}
use Rattle.ppq_answer.specs.declared.outcome.Outcome.TheVariants.{Ended}
use Rattle.ppq_answer.proofs.Talked.{came-none}
use Rattle.ppq_requests.specs.ppq_script.Words.{Words}
use Rattle.ppq_words.specs.ServeReading.{ServeReading}
use Rattle.ppq_serve_cli.specs.Over.{ServesOver, UnmadeSays, making_end}

pub over-came :
    {R : Type 0} (w : Words R) {I K O S : Type 0} (source : SourceShows I) (rack : RackShows K S) (sink : SinkShows O) (shown : S → Shown) (r : ServeReading) (old_source new_source : I) (was_waiting waiting : List ℕ) (old_rack new_rack : K) (old_out new_out : O) (answered : Answered S) (requests : List (List ℕ))
    → ServesOver w source rack sink shown r old_source new_source was_waiting waiting old_rack new_rack old_out new_out answered requests → (told : Option (List ℕ)) (taken : List (List ℕ)) → Came told (source.told old_source) (source.gave old_source) taken was_waiting
    → Came told (source.told new_source) (source.gave new_source) (taken ++ requests) waiting
over-came w {I} source rack sink shown r old_source new_source was_waiting waiting old_rack new_rack old_out new_out answered requests (inl lacks) told taken was =
    let P : I → Type 0 = λ s. Came told (source.told s) (source.gave s) (taken ++ requests) waiting in
    let Q : List ℕ → Type 0 = λ b. Came told (source.told old_source) (source.gave old_source) (taken ++ requests) b in
    let S : List (List ℕ) → Type 0 = λ rs. Came told (source.told old_source) (source.gave old_source) (taken ++ rs) was_waiting in
    subst P (sym lacks.unread) (subst Q (sym lacks.untaken) (subst S (sym lacks.unasked) (came-none taken was_waiting was)))
over-came w source rack sink shown r old_source new_source was_waiting waiting old_rack new_rack old_out new_out answered requests (inr has) told taken was =
    let P : List (List ℕ) → Type 0 = λ rs. Came told (source.told new_source) (source.gave new_source) (taken ++ rs) waiting in
    subst P has.asked (has.talk.came told taken was)

-- the rack's count of faults, where a block was not made
pub making-says :
    {R : Type 0} (w : Words R) {I K O S : Type 0} (source : SourceShows I) (rack : RackShows K S) (sink : SinkShows O) (shown : S → Shown) (r : ServeReading) (at : I) (waiting : List ℕ) (old_rack new_rack : K) (out : O) (answered : Answered S) {T : Type 0} (made : Result T OutsideFault) (fault : OutsideFault)
    → HasCause (rack.faults old_rack) (rack.faults new_rack) made → made ≡ Err fault → UnmadeSays w source rack sink shown r at at waiting waiting old_rack new_rack out out answered [] (Ended (making_end fault))
making-says w source rack sink shown r at waiting old_rack new_rack out answered made Failed cause is = cause.failed is
making-says w source rack sink shown r at waiting old_rack new_rack out answered made Memory cause is = cause.memory is
