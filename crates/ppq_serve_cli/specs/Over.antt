-- Requests over a device: by the arguments and the type of the records.
use Rattle.std.specs.Prelude.{◌≡◌, ◌⊎◌, ◌<◌, ◌≤◌, ◌*◌, ℕ, List, [], ◌++◌, map, Option, All}
use Rattle.std.specs.List.{range_with_len}
use Rattle.ppq_answer.specs.ppq_frames.ppq_outside.Made.{HasMade}
use Rattle.ppq_answer.specs.ppq_frames.ppq_outside.Shown.{Shown, AllTell}
use Rattle.ppq_answer.specs.ppq_frames.ppq_outside.Told.{Rose}
use Rattle.ppq_answer.specs.ppq_frames.ppq_outside.declared.rack.Rack.{Ghosts as RackShows}
use Rattle.ppq_answer.specs.ppq_frames.ppq_outside.declared.sink.Sink.{Ghosts as SinkShows}
use Rattle.ppq_answer.specs.ppq_frames.ppq_outside.declared.source.Source.{Ghosts as SourceShows}
use Rattle.ppq_answer.specs.ppq_frames.Frames.{Came}
use Rattle.ppq_requests.specs.ppq_script.Words.{Words}
use Rattle.ppq_requests.specs.ppq_script.declared.head.Head.{Head}
use Rattle.ppq_requests.specs.ppq_script.declared.kind.Kind.{Kind}
use Rattle.ppq_requests.specs.ppq_script.declared.kind.Kind.TheVariants.{Pair, Triple}
use Rattle.ppq_requests.specs.ppq_script.declared.order.Order.{Order}
use Rattle.ppq_requests.specs.ppq_script.declared.order.Order.TheVariants.{Up, Down}
use Rattle.ppq_answer.specs.ppq_engine.ppq_load.ppq_budget.Sizes.{fixed_of}
use Rattle.ppq_answer.specs.ppq_engine.ppq_array.Supply.{IsSlot}
use Rattle.ppq_answer.specs.ppq_engine.ppq_queue.Holding.{AreNewSlots}
use Rattle.ppq_words.specs.Reading.{in_unit, sizes_for}
use Rattle.ppq_words.specs.ServeReading.{ServeReading}
use Rattle.ppq_answer.specs.ppq_frames.ppq_outside.declared.fault.OutsideFault.{OutsideFault}
use Rattle.ppq_answer.specs.ppq_frames.ppq_outside.declared.fault.OutsideFault.TheVariants.{Failed, Memory}
use Rattle.ppq_answer.specs.ppq_engine.declared.end.End.{End}
use Rattle.ppq_answer.specs.ppq_engine.declared.end.End.TheVariants as end
use Rattle.ppq_answer.specs.Answers.{ServesTalk}
use Rattle.ppq_answer.specs.declared.outcome.Answered.{Answered}
use Rattle.ppq_answer.specs.declared.outcome.Outcome.{Outcome}
use Rattle.ppq_answer.specs.declared.outcome.Outcome.TheVariants.{Ended, BadRequest}

-- why not all blocks were made, as an end
abbrev pub making_end : OutsideFault → End
making_end Failed = end.NoDevice
making_end Memory = end.Memory

module _ {R : Type 0} (w : Words R) {I K O S : Type 0} (source : SourceShows I) (rack : RackShows K S) (sink : SinkShows O) (shown : S → Shown) (r : ServeReading) (old_source new_source : I) (was_waiting waiting : List ℕ) (old_rack new_rack : K) (old_out new_out : O) (answered : Answered S) (requests : List (List ℕ)) where
  -- why there is no device: the budget is below the fixed part of a queue, and how much that is in the unit of the budget; or the rack failed, or memory was wanting
  abbrev pub UnmadeSays : Outcome → Type 0
  UnmadeSays (Ended (end.BudgetTooSmall need)) =
      ((sizes_for w.WIDTH r.given).memory < fixed_of (sizes_for w.WIDTH r.given)) × (need ≡ in_unit w.WIDTH r.given.unit (fixed_of (sizes_for w.WIDTH r.given))) × (rack.faults new_rack ≡ rack.faults old_rack)
  UnmadeSays (Ended end.NoDevice) = Rose (rack.faults old_rack) (rack.faults new_rack)
  UnmadeSays (Ended end.Memory) = rack.faults new_rack ≡ rack.faults old_rack
  UnmadeSays (Ended _) = ⊥
  UnmadeSays (BadRequest number) = ⊥

  -- no device was made: source and sink are left alone
  pub record LacksDevice : Type 0 where
    pub unasked : requests ≡ []
    pub unread : new_source ≡ old_source
    pub untaken : waiting ≡ was_waiting
    pub unwritten : new_out ≡ old_out
    pub none : answered.blocks.items ≡ []
    pub says : UnmadeSays answered.outcome

  -- The device that the arguments name was made, of all its blocks, which are new, numbered from 0 and tell where the rack does; and requests were answered
  -- over it. Each block that comes back has the bytes of a block of the records, and was read no more often than it was written
  pub record HasDevice : Type 0 where
    pub first : List Shown
    pub enough : fixed_of (sizes_for w.WIDTH r.given) ≤ (sizes_for w.WIDTH r.given).memory
    pub new : AreNewSlots (sizes_for w.WIDTH r.given) w.WIDTH first
    pub tell : rack.tells old_rack → AllTell first
    pub numbers : map (λ s. s.number) first ≡ range_with_len 0 (sizes_for w.WIDTH r.given).blocks
    pub made : HasMade (rack.made old_rack r.device) (rack.made new_rack r.device) (range_with_len 0 (sizes_for w.WIDTH r.given).blocks)
    pub same : rack.faults new_rack ≡ rack.faults old_rack
    pub talk : ServesTalk w source (sizes_for w.WIDTH r.given) first (map shown answered.blocks.items) old_source new_source was_waiting waiting (sink.told old_out) (sink.told new_out) (sink.faults old_out) (sink.faults new_out) answered.outcome
    pub asked : talk.requests ≡ requests
    pub back : All (IsSlot ((sizes_for w.WIDTH r.given).block * w.WIDTH)) (map shown answered.blocks.items)

  abbrev pub ServesOver : Type 0
  ServesOver = LacksDevice ⊎ HasDevice

-- of four facts the one for records of this kind and this order
abbrev pub chosen : Kind → Order → Type 0 → Type 0 → Type 0 → Type 0 → Type 0
chosen Pair Up a b c d = a
chosen Pair Down a b c d = b
chosen Triple Up a b c d = c
chosen Triple Down a b c d = d

-- the same of some requests
abbrev pub Serves :
    {R : Type 0} → Words R → {I K O S : Type 0} → SourceShows I → RackShows K S → SinkShows O → (S → Shown) → ServeReading → I → I → List ℕ → List ℕ → K → K → O → O → Answered S → Type 0
Serves w source rack sink shown r old_source new_source was_waiting waiting old_rack new_rack old_out new_out answered =
    (requests : List (List ℕ)) × ServesOver w source rack sink shown r old_source new_source was_waiting waiting old_rack new_rack old_out new_out answered requests

-- The same of the records that the first frame names, where these are the words of the four types: pairs and triples, the smallest first and the
-- greatest first
pub record ServesNamed
    {A B C D : Type 0} (up : Words A) (down : Words B) (triple_up : Words C) (triple_down : Words D) (head : Head) {I K O S : Type 0} (source : SourceShows I) (rack : RackShows K S) (sink : SinkShows O) (shown : S → Shown)
    (r : ServeReading) (old_source new_source : I) (was_waiting waiting : List ℕ) (old_rack new_rack : K) (old_out new_out : O) (answered : Answered S) : Type 0 where
  pub requests : List (List ℕ)
  pub over :
      chosen head.kind head.order
      (ServesOver up source rack sink shown r old_source new_source was_waiting waiting old_rack new_rack old_out new_out answered requests)
      (ServesOver down source rack sink shown r old_source new_source was_waiting waiting old_rack new_rack old_out new_out answered requests)
      (ServesOver triple_up source rack sink shown r old_source new_source was_waiting waiting old_rack new_rack old_out new_out answered requests)
      (ServesOver triple_down source rack sink shown r old_source new_source was_waiting waiting old_rack new_rack old_out new_out answered requests)
  pub came :
      (told : Option (List ℕ)) (taken : List (List ℕ)) → Came told (source.told old_source) (source.gave old_source) taken was_waiting
      → Came told (source.told new_source) (source.gave new_source) (taken ++ requests) waiting
