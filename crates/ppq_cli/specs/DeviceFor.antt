-- What `device_for` says: of a device that was made, and of one that was not.
use Rattle.std.specs.Prelude.{◌≡◌, ◌*◌, ◌≤◌, ℕ, List, length, map, All}
use Rattle.std.specs.List.{range_with_len}
use Rattle.ppq_words.specs.ppq_outside.Made.{HasMade, HasMadeJust}
use Rattle.ppq_words.specs.ppq_outside.Shown.{Shown, AllTell}
use Rattle.ppq_words.specs.ppq_outside.Told.{Rose}
use Rattle.ppq_words.specs.ppq_outside.declared.rack.Rack.{Ghosts as RackShows}
use Rattle.ppq_words.specs.ppq_budget.Sizes.{fixed_of}
use Rattle.ppq_jobs.specs.ppq_engine.ppq_queue.Holding.{IsNewSlot}
use Rattle.ppq_jobs.specs.ppq_engine.Ends.{BeganCommands}
use Rattle.ppq_jobs.specs.ppq_engine.declared.end.Ended.{Ended}
use Rattle.ppq_cli.specs.declared.plan.Plan.{Plan}
use Rattle.ppq_cli.specs.Budget.{refusal_by}
use Rattle.ppq_cli.specs.Device.{AreNew, DeviceShape, AreBlocks}
use Rattle.ppq_cli.specs.Outside.{Faults}
use Rattle.ppq_cli.specs.RunWords.{IsTriedOrRefusal}

-- what the device of a plan has, for records of this width
abbrev pub plan_shape : Plan → ℕ → DeviceShape
plan_shape plan width = record { blocks = plan.blocks; IsSize = λ bytes. bytes ≡ plan.sizes.block * width }

-- that is what a device of this shape has
pub record HasShape (plan : Plan) (width : ℕ) (shape : DeviceShape) : Type 0 where
  pub blocks : plan.blocks ≡ shape.blocks
  pub size : shape.IsSize (plan.sizes.block * width)

-- A device for records of this width, for a budget that is no less than the fixed part of a queue: as many blocks as the plan says, new and numbered
-- from 0 in order; they tell where the rack does, none failed, and the rack made them just now
pub record IsDevice
    {K S : Type 0} (rack : RackShows K S) (shown : S → Shown) (width : ℕ) (plan : Plan) (device : List ℕ) (old_rack new_rack : K) (blocks : List S) : Type 0 where
  pub enough : fixed_of plan.sizes ≤ plan.sizes.memory
  pub all : length blocks ≡ plan.blocks
  pub new : AreNew (plan.sizes.block * width) (map shown blocks)
  pub tell : rack.tells old_rack → AllTell (map shown blocks)
  pub made : HasMade (rack.made old_rack device) (rack.made new_rack device) (range_with_len 0 (length blocks))
  pub kept : rack.tells old_rack → rack.tells new_rack
  pub stays : rack.faults new_rack ≡ rack.faults old_rack

-- No device was made for this plan and records of this width: the budget is too small, or a block could not be made. The blocks that were made come back,
-- as they were made;
-- and of the rack's count of faults what is said of every outcome, whatever the counts of library and sink, which stay
pub record LacksDevice {K S : Type 0} (rack : RackShows K S) (shown : S → Shown) (width : ℕ) (plan : Plan) (device : List ℕ) (old_rack new_rack : K) (ended : Ended S) : Type 0 where
  pub answer : IsTriedOrRefusal (refusal_by plan) ended.end
  pub unbegun : ¬ BeganCommands ended.end
  pub made : HasMadeJust (rack.made old_rack device) (rack.made new_rack device) (map (λ slot. (shown slot).number) ended.blocks.items)
  pub blocks : AreBlocks (plan_shape plan width) ended.end (map shown ended.blocks.items)
  pub new : All (IsNewSlot (plan.sizes.block * width)) (map shown ended.blocks.items)
  pub kept : rack.tells old_rack → rack.tells new_rack
  pub faults : (of_library of_sink : ℕ) → Faults Rose of_library of_library (rack.faults old_rack) (rack.faults new_rack) of_sink of_sink ended.end
