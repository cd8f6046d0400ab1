-- What every top call says of the outside, whatever else it does: by what library, rack, sink and blocks show, before the call and after it.
use Rattle.std.specs.Prelude.{◌≡◌, ◌⊎◌, ℕ, ◌<◌, ◌≤◌, Bool, false, List, [], map, Option, None, IfSome, All}
use Rattle.ppq_words.specs.ppq_outside.Made.{HasMadeJust}
use Rattle.ppq_words.specs.ppq_outside.Shown.{Shown}
use Rattle.ppq_words.specs.ppq_outside.Told.{Remembers, TakesAll, TakesPart}
use Rattle.ppq_words.specs.ppq_outside.declared.library.Library.{Ghosts as LibraryShows}
use Rattle.ppq_words.specs.ppq_outside.declared.rack.Rack.{Ghosts as RackShows}
use Rattle.ppq_words.specs.ppq_outside.declared.sink.Sink.{Ghosts as SinkShows}
use Rattle.ppq_jobs.specs.ppq_engine.ppq_array.Kept.{HasFailed}
use Rattle.ppq_jobs.specs.ppq_engine.Ends.{BeganCommands}
use Rattle.ppq_jobs.specs.ppq_engine.declared.end.End.{End}
use Rattle.ppq_jobs.specs.ppq_engine.declared.end.End.TheVariants.{Done, Usage, ReadFault, WriteFault, DeviceFault, NoFreeBlock, Memory, NoDevice}
use Rattle.ppq_jobs.specs.ppq_engine.declared.end.Ended.{Ended}
use Rattle.ppq_cli.specs.Device.{DeviceShape, AreBlocks}

-- the ends after which something may have been written
abbrev pub MayWrite : End → Type 0
MayWrite end = BeganCommands end ⊎ (end ≡ Memory)

-- What the sink took of a text; `OfText` says of a fact that it holds of the text, where that is known. It took all of it after `Done`, a prefix
-- after every end, and nothing after the ends that come before any of it
pub record WritesText (OfText : (List ℕ → Type 0) → Type 0) (before now : Option (List ℕ)) (end : End) : Type 0 where
  pub done : end ≡ Done → OfText (λ text. TakesAll before now text)
  pub part : OfText (λ text. TakesPart before now text)
  pub nothing : MayWrite end ⊎ (now ≡ before)

-- the second number is above the first
abbrev pub IsHigher : ℕ → ℕ → Type 0
IsHigher before now = before < now

-- The counts of faults of the library, the rack and the sink: none falls, and each rises with the end that names its fault, where `Rises` says what
-- that is. It stays with every other end; but a read may have failed before the sink did
pub record Faults (Rises : ℕ → ℕ → Type 0) (of_library library_now of_rack rack_now of_sink sink_now : ℕ) (end : End) : Type 0 where
  pub read : end ≡ ReadFault → Rises of_library library_now
  pub write : end ≡ WriteFault → Rises of_sink sink_now
  pub device : end ≡ NoDevice → Rises of_rack rack_now
  pub library_later : of_library ≤ library_now
  pub library_stays : ¬ (end ≡ ReadFault) → ¬ (end ≡ WriteFault) → library_now ≡ of_library
  pub rack_later : of_rack ≤ rack_now
  pub rack_stays : ¬ (end ≡ NoDevice) → rack_now ≡ of_rack
  pub sink_later : of_sink ≤ sink_now
  pub sink_stays : ¬ (end ≡ WriteFault) → sink_now ≡ of_sink

-- What was given, if anything was, names a device and what it has. All blocks that the rack made of that device come back, each once: one of
-- them failed where the end says so, and none where all was done or no block was free. The rack goes on telling, the library tells what it told and
-- remembers what it replied, and the counts of faults are right
pub record OutsideKept
    {A L K O S : Type 0} (Rises : ℕ → ℕ → Type 0) (library : LibraryShows L) (rack : RackShows K S) (sink : SinkShows O) (shown : S → Shown)
    (given : Option A) (device : A → List ℕ) (shape : A → DeviceShape) (old_library new_library : L) (old_rack new_rack : K) (old_out new_out : O) (ended : Ended S) : Type 0 where
  pub made : IfSome given (λ r. HasMadeJust (rack.made old_rack (device r)) (rack.made new_rack (device r)) (map (λ slot. (shown slot).number) ended.blocks.items))
  pub blocks : IfSome given (λ r. AreBlocks (shape r) ended.end (map shown ended.blocks.items))
  pub unfailed : (ended.end ≡ Done) ⊎ (ended.end ≡ NoFreeBlock) → All (λ (s : Shown). s.faults ≡ 0) (map shown ended.blocks.items)
  pub failed : (number : ℕ) → ended.end ≡ DeviceFault number → HasFailed number (map shown ended.blocks.items)
  pub rack_tells : rack.tells old_rack → rack.tells new_rack
  pub files : library.told new_library ≡ library.told old_library
  pub remembers : Remembers (library.replied old_library) (library.replied new_library)
  pub faults : Faults Rises (library.faults old_library) (library.faults new_library) (rack.faults old_rack) (rack.faults new_rack) (sink.faults old_out) (sink.faults new_out) ended.end

-- How arguments end that have no reading: with Usage, or where they came to the parse with Memory; no block is made, and library, rack and sink are
-- left alone. Arguments that have one do not end with Usage
pub record Unreadable
    {A L K O S : Type 0} (given : Option A) (is_parsed : Bool) (old_library new_library : L) (old_rack new_rack : K) (old_out new_out : O) (ended : Ended S) : Type 0 where
  pub usage : ended.end ≡ Usage → given ≡ None
  pub no_reading : given ≡ None → (ended.end ≡ Usage) ⊎ (ended.end ≡ Memory)
  pub early : given ≡ None → is_parsed ≡ false → ended.end ≡ Usage
  pub none : given ≡ None → ended.blocks.items ≡ []
  pub unasked : given ≡ None → (new_library ≡ old_library) × ((new_rack ≡ old_rack) × (new_out ≡ old_out))
