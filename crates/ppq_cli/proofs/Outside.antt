-- How what a top call says of the outside follows from what its parts say.
use Rattle.std.proofs.Common.{◌≡◌, ◌∙◌, ℕ, ◌<◌, ◌^◌, List, [], map, Option, Some, refl, sym, subst, arith, inl, inr}
use Rattle.std.specs.Prelude.{◌⊎◌, IfSome}
use Rattle.ppq_words.specs.ppq_outside.Shown.{Shown}
use Rattle.ppq_words.specs.ppq_outside.Told.{Remembers, Rose}
use Rattle.ppq_words.specs.ppq_outside.declared.library.Library.{Ghosts as LibraryShows}
use Rattle.ppq_words.specs.ppq_outside.declared.rack.Rack.{Ghosts as RackShows}
use Rattle.ppq_words.specs.ppq_outside.declared.sink.Sink.{Ghosts as SinkShows}
use Rattle.ppq_jobs.specs.ppq_engine.Ends.{NoFault}
use Rattle.ppq_jobs.specs.ppq_engine.declared.end.End.{End}
use Rattle.ppq_jobs.specs.ppq_engine.declared.end.End.TheVariants.{Done, DeviceFault, NoFreeBlock}
use Rattle.ppq_jobs.specs.ppq_engine.declared.end.Ended.{Ended}
use Rattle.ppq_cli.specs.Device.{IsSurelyRun, HasAllBlocks, DeviceShape}
use Rattle.ppq_cli.specs.Outside.{IsHigher, Faults, OutsideKept}
use Rattle.ppq_cli.proofs.Blocks.{made_nothing}
use Rattle.ppq_cli.proofs.Ends.{no_blocks, surely_all}
use Rattle.ppq_cli.proofs.Transfers.{of_any}

-- counts that stay, with an end that names no fault
pub same_faults : (Rises : ℕ → ℕ → Type 0) (library rack sink : ℕ) (end : End) → NoFault end → Faults Rises library library rack rack sink sink end
same_faults Rises library rack sink end quiet = record {
  read = λ is. absurd (subst NoFault is quiet);
  write = λ is. absurd (subst NoFault is quiet);
  device = λ is. absurd (subst NoFault is quiet);
  library_later = omega arith;
  library_stays = λ read written. refl;
  rack_later = omega arith;
  rack_stays = λ unmade. refl;
  sink_later = omega arith;
  sink_stays = λ written. refl;
}

-- a count that is far from its last value and rose is higher
pub rose_below : (before now : ℕ) → before < 2 ^ 63 → Rose before now → before < now
rose_below before now small rose = omega (arith, small, rose)

pub higher_faults : (library library_now rack rack_now sink sink_now : ℕ) (end : End) → library < 2 ^ 63 → rack < 2 ^ 63 → sink < 2 ^ 63 → Faults Rose library library_now rack rack_now sink sink_now end → Faults IsHigher library library_now rack rack_now sink sink_now end
higher_faults library library_now rack rack_now sink sink_now end few_library few_rack few_sink f = record {
  read = λ is. rose_below library library_now few_library (f.read is);
  write = λ is. rose_below sink sink_now few_sink (f.write is);
  device = λ is. rose_below rack rack_now few_rack (f.device is);
  library_later = f.library_later;
  library_stays = f.library_stays;
  rack_later = f.rack_later;
  rack_stays = f.rack_stays;
  sink_later = f.sink_later;
  sink_stays = f.sink_stays;
}

-- of blocks that no run has reached nothing is said
pub unrun_unfailed : {A : Type 0} (end : End) → (IsSurelyRun end → ⊥) → (end ≡ Done) ⊎ (end ≡ NoFreeBlock) → A
unrun_unfailed end not_run (inl is) = absurd (not_run (subst IsSurelyRun (sym is) tt))
unrun_unfailed end not_run (inr is) = absurd (not_run (subst IsSurelyRun (sym is) tt))

pub unrun_failed : (end : End) → (IsSurelyRun end → ⊥) → (number : ℕ) → end ≡ DeviceFault number → ⊥
unrun_failed end not_run number is = not_run (subst IsSurelyRun (sym is) tt)

module _
    {A L K O S : Type 0} (library : LibraryShows L) (rack : RackShows K S) (sink : SinkShows O) (shown : S → Shown) (device : A → List ℕ) (shape : A → DeviceShape) where
  -- no block was made, and rack and sink were left alone
  pub blockless_outside :
      (Rises : ℕ → ℕ → Type 0) (given : Option A) (old new : L) (held : K) (out : O) (ended : Ended S) → ended.blocks.items ≡ [] → (HasAllBlocks ended.end → ⊥)
      → library.told new ≡ library.told old → Remembers (library.replied old) (library.replied new)
      → Faults Rises (library.faults old) (library.faults new) (rack.faults held) (rack.faults held) (sink.faults out) (sink.faults out) ended.end
      → OutsideKept Rises library rack sink shown given device shape old new held held out out ended
  blockless_outside Rises given old new held out ended none unmade told kept faults =
      let not_run : IsSurelyRun ended.end → ⊥ = λ run. unmade (surely_all ended.end run) in
      let slots : map shown ended.blocks.items ≡ [] = (let P : List S → Type 0 = λ s. map shown s ≡ [] in subst P (sym none) refl) in
      record {
        made = of_any given _ (λ a. made_nothing (λ s. (shown s).number) ended.blocks.items (rack.made held (device a)) none);
        blocks = of_any given _ (λ a. no_blocks (shape a) ended.end (map shown ended.blocks.items) unmade slots);
        unfailed = unrun_unfailed ended.end not_run;
        failed = λ number is. absurd (unrun_failed ended.end not_run number is);
        rack_tells = λ tells. tells;
        files = told;
        remembers = kept;
        faults = faults;
      }

  -- before it the library was asked for something, and none of its calls failed
  pub later_outside :
      (Rises : ℕ → ℕ → Type 0) (given : Option A) (old mid new : L) (old_rack new_rack : K) (old_out new_out : O) (ended : Ended S)
      → library.told mid ≡ library.told old → Remembers (library.replied old) (library.replied mid) → library.faults mid ≡ library.faults old
      → OutsideKept Rises library rack sink shown given device shape mid new old_rack new_rack old_out new_out ended
      → OutsideKept Rises library rack sink shown given device shape old new old_rack new_rack old_out new_out ended
  later_outside Rises given old mid new old_rack new_rack old_out new_out ended told kept same f = record {
    made = f.made;
    blocks = f.blocks;
    unfailed = f.unfailed;
    failed = f.failed;
    rack_tells = f.rack_tells;
    files = f.files ∙ told;
    remembers = λ reply had. f.remembers reply (kept reply had);
    faults = let P : ℕ → Type 0 = λ n. Faults Rises n (library.faults new) (rack.faults old_rack) (rack.faults new_rack) (sink.faults old_out) (sink.faults new_out) ended.end in subst P same f.faults;
  }

  -- what was given is what the arguments say, and the counts are far from their last values
  pub named_outside :
      (given : Option A) (a : A) (old new : L) (old_rack new_rack : K) (old_out new_out : O) (ended : Ended S)
      → given ≡ Some a → library.faults old < 2 ^ 63 → rack.faults old_rack < 2 ^ 63 → sink.faults old_out < 2 ^ 63
      → OutsideKept Rose library rack sink shown (Some a) device shape old new old_rack new_rack old_out new_out ended
      → OutsideKept IsHigher library rack sink shown given device shape old new old_rack new_rack old_out new_out ended
  named_outside given a old new old_rack new_rack old_out new_out ended is few_library few_rack few_sink f =
      let named : (P : A → Type 0) → P a → IfSome given P = λ P holds. (let Q : Option A → Type 0 = λ o. IfSome o P in subst Q (sym is) holds) in
      record {
        made = named _ f.made;
        blocks = named _ f.blocks;
        unfailed = f.unfailed;
        failed = f.failed;
        rack_tells = f.rack_tells;
        files = f.files;
        remembers = f.remembers;
        faults = higher_faults (library.faults old) (library.faults new) (rack.faults old_rack) (rack.faults new_rack) (sink.faults old_out) (sink.faults new_out) ended.end few_library few_rack few_sink f.faults;
      }
