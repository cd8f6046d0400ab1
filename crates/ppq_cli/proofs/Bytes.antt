-- From a script that was read, or refused, to what comes of its bytes.
use Rattle.std.proofs.Common.{◌≡◌, ℕ, List, [], Option, Some, None, refl, sym, ap, subst, arith, inl, inr}
use Rattle.std.specs.Prelude.{Result, Err, IfErr, IsErrOf, IfSome, map}
use Rattle.ppq_files.specs.Reading.{LibraryKeeps}
use Rattle.ppq_words.specs.ppq_outside.Shown.{Shown}
use Rattle.ppq_words.specs.ppq_outside.Told.{RepliesOnly, Rose}
use Rattle.ppq_words.specs.ppq_outside.declared.library.Library.{Ghosts as LibraryShows}
use Rattle.ppq_words.specs.ppq_outside.declared.rack.Rack.{Ghosts as RackShows}
use Rattle.ppq_words.specs.ppq_outside.declared.sink.Sink.{Ghosts as SinkShows}
use Rattle.ppq_words.specs.ppq_script.Words.{Words}
use Rattle.ppq_words.specs.ppq_script.declared.check.CheckFault.{CheckFault}
use Rattle.ppq_words.specs.ppq_script.declared.check.CheckFault.TheVariants as check
use Rattle.ppq_words.specs.ppq_script.Files.{IsLength}
use Rattle.ppq_words.specs.ppq_script.Checking.{IsKeptLength}
use Rattle.ppq_words.specs.ppq_script.Reading.{Reading, command_list}
use Rattle.ppq_words.specs.Reading.{Reading as Arguments, sizes_at}
use Rattle.ppq_jobs.specs.ppq_engine.Ends.{NoFault}
use Rattle.ppq_jobs.specs.ppq_engine.Files.{IsReadInScript}
use Rattle.ppq_jobs.specs.ppq_engine.Work.{work_of}
use Rattle.ppq_jobs.specs.ppq_engine.declared.end.End.{End}
use Rattle.ppq_jobs.specs.ppq_engine.declared.end.End.TheVariants.{ReadFault, WriteFault, NoDevice}
use Rattle.ppq_jobs.specs.ppq_engine.declared.end.Ended.{Ended}
use Rattle.ppq_jobs.proofs.ppq_engine.Running.{takes_none}
use Rattle.ppq_cli.specs.Device.{IsSurelyRun, HasAllBlocks}
use Rattle.ppq_cli.specs.Outside.{Faults, OutsideKept}
use Rattle.ppq_cli.specs.Load.{check_end, CheckCounts}
use Rattle.ppq_cli.specs.Replies.{Files, IsScript, IsRefused, RefusalOf}
use Rattle.ppq_cli.specs.RunWords.{OfBytes, WritesPart, device_named, blocks_given, refusal_of_bytes, IsAnswer}
use Rattle.ppq_cli.specs.RunOver.{RunWrites, RunEnds, RunsBytes}
use Rattle.ppq_cli.specs.Transfers.{TransfersWithin}
use Rattle.ppq_cli.specs.Types.{typed}
use Rattle.ppq_cli.proofs.Ends.{unread_not_run, refused_answer, refused_refusal, loaded_run, loaded_answer, loaded_refusal, of_commands, surely_all}
use Rattle.ppq_cli.proofs.Extent.{lengths_asked, commands_asked}
use Rattle.ppq_cli.proofs.Outside.{blockless_outside, later_outside}
use Rattle.ppq_cli.proofs.Given.{script_remembered}

-- a refusal names no device and no sink
not_rack : (fault : CheckFault) → check_end fault ≡ NoDevice → ⊥
not_rack (check.BadLine line) is = cc
not_rack check.ReadFault is = cc
not_rack check.Memory is = cc

not_sink : (fault : CheckFault) → check_end fault ≡ WriteFault → ⊥
not_sink (check.BadLine line) is = cc
not_sink check.ReadFault is = cc
not_sink check.Memory is = cc

rose_by : (before now : ℕ) (fault : CheckFault) → (fault ≡ check.ReadFault → Rose before now) → check_end fault ≡ ReadFault → Rose before now
rose_by before now (check.BadLine line) rose is = cc
rose_by before now check.ReadFault rose is = rose refl
rose_by before now check.Memory rose is = cc

counted : {T : Type 0} (before now : ℕ) (result : Result T CheckFault) (fault : CheckFault) → result ≡ Err fault → CheckCounts before now result → check_end fault ≡ ReadFault → Rose before now
counted {T} before now result fault is counts =
    let P : Result T CheckFault → Type 0 = λ x. IsErrOf x check.ReadFault → Rose before now in
    rose_by before now fault (λ e. (subst P is counts.read) (ap (λ (f : CheckFault). let x : Result T CheckFault = Err f in x) e))

-- of the ends of a refusal one alone names a fault
check_quiet : (fault : CheckFault) → ¬ (check_end fault ≡ ReadFault) → NoFault (check_end fault)
check_quiet (check.BadLine line) read = tt
check_quiet check.ReadFault read = absurd (read refl)
check_quiet check.Memory read = tt

count_stays : {T : Type 0} (before now : ℕ) (result : Result T CheckFault) (fault : CheckFault) → result ≡ Err fault → CheckCounts before now result → ¬ (check_end fault ≡ ReadFault) → now ≡ before
count_stays {T} before now result fault is counts read =
    let P : Result T CheckFault → Type 0 = λ x. IfErr x (λ f. NoFault (check_end f) → now ≡ before) in
    let unless : P (Err fault) = subst P is counts.unless in
    unless (check_quiet fault read)

nothing_part : (told : Option Files) {R : Type 0} (words : Words R) {O : Type 0} (sink : O → Option (List ℕ)) (out : O) (r : Arguments) (bytes : List ℕ) → OfBytes told (typed words) r bytes (WritesPart sink out out)
nothing_part None words sink out r bytes = tt
nothing_part (Some files) words sink out r bytes = takes_none (sink out) _

module _ {R L K O S : Type 0} (words : Words R) (library : LibraryShows L) (rack : RackShows K S) (sink : SinkShows O) (shown : S → Shown) (r : Arguments) (bytes : List ℕ) where
  -- a script that was refused
  pub refused_bytes :
      {T : Type 0} (old new : L) (held : K) (out : O) (ended : Ended S) (result : Result T CheckFault) (fault : CheckFault) → result ≡ Err fault → ended.end ≡ check_end fault → ended.blocks.items ≡ []
      → IsRefused words (library.told old) (library.replied new) bytes r.given.numbers.workers fault → LibraryKeeps library.told library.replied IsLength old new → CheckCounts (library.faults old) (library.faults new) result
      → RunsBytes (typed words) library rack sink shown r bytes old new held held out out ended
  refused_bytes old new held out ended result fault was is none refused keeps counts =
      let told = library.told old in
      let A : End → Type 0 = λ e. IfSome told (λ files. IsAnswer (refusal_of_bytes words files bytes r) e) in
      let Q : End → Type 0 = λ e. RefusalOf words told (library.replied new) r bytes e in
      let F : End → Type 0 = λ e. Faults Rose (library.faults old) (library.faults new) (rack.faults held) (rack.faults held) (sink.faults out) (sink.faults out) e in
      let unmade : HasAllBlocks ended.end → ⊥ = λ all. unread_not_run fault (subst HasAllBlocks is all) in
      let not_run : IsSurelyRun ended.end → ⊥ = λ run. unmade (surely_all ended.end run) in
      record {
        ran = inl (record { maybe = not_run; same = refl });
        part = λ t. nothing_part told words sink.told out r bytes;
        nothing = inr refl;
        transfers = inl (ap (map shown) none);
        answer = subst A (sym is) (refused_answer words told (library.replied new) r bytes fault refused);
        refused = subst Q (sym is) (refused_refusal words told (library.replied new) r bytes fault refused);
        asks = inl ((fault, is), lengths_asked (library.replied old) (library.replied new) r keeps.asks);
        outside =
            blockless_outside library rack sink shown device_named blocks_given Rose (Some r) old new held out ended none unmade keeps.told keeps.remembers
            (subst F (sym is) (record {
              read = counted (library.faults old) (library.faults new) result fault was counts;
              write = λ e. absurd (not_sink fault e);
              device = λ e. absurd (not_rack fault e);
              library_later = counts.later;
              library_stays = λ read written. count_stays (library.faults old) (library.faults new) result fault was counts read;
              rack_later = omega arith;
              rack_stays = λ unmade. refl;
              sink_later = omega arith;
              sink_stays = λ written. refl;
            }));
      }

  -- a script that was run over a device
  pub run_bytes :
      (old mid new : L) (old_rack new_rack : K) (old_out new_out : O) (ended : Ended S) (script : Reading R)
      → IsScript words (library.told old) (library.replied mid) bytes r.given.numbers.workers script → LibraryKeeps library.told library.replied IsLength old mid
      → RepliesOnly (library.replied old) (library.replied mid) (IsKeptLength script) → library.faults mid ≡ library.faults old
      → RunWrites words (rack.tells old_rack) (library.told mid) (sink.told old_out) (sink.told new_out) r script (map shown ended.blocks.items) ended.end
      → OutsideKept Rose library rack sink shown (Some r) device_named blocks_given mid new old_rack new_rack old_out new_out ended
      → TransfersWithin (sizes_at words.WIDTH r) words.WIDTH (work_of words (sizes_at words.WIDTH r) (command_list script)) (map shown ended.blocks.items)
      → RepliesOnly (library.replied mid) (library.replied new) (IsReadInScript script)
      → RunEnds words (library.told mid) (library.replied new) r script ended.end
      → RunsBytes (typed words) library rack sink shown r bytes old new old_rack new_rack old_out new_out ended
  run_bytes old mid new old_rack new_rack old_out new_out ended script is first asked same writes outside few next ends =
      let told = library.told old in
      let replied = library.replied new in
      let before = sink.told old_out in
      let now = sink.told new_out in
      let slots = map shown ended.blocks.items in
      let W : Option Files → Type 0 = λ t. RunWrites words (rack.tells old_rack) t before now r script slots ended.end in
      let E : Option Files → Type 0 = λ t. RunEnds words t replied r script ended.end in
      let later : IsScript words told replied bytes r.given.numbers.workers script = script_remembered words told (library.replied mid) replied bytes r.given.numbers.workers script outside.remembers is in
      let wrote : W told = subst W first.told writes in
      let ended_so : E told = subst E first.told ends in
      record {
        ran = loaded_run words told replied r bytes (rack.tells old_rack) script before now slots ended.end later ended_so.answer wrote;
        part = λ t. of_commands words told replied r bytes script (WritesPart sink.told old_out new_out) later (wrote.part t);
        nothing = wrote.nothing;
        transfers = inr (script, (later, few));
        answer = loaded_answer words told replied r bytes script ended.end later ended_so.answer;
        refused = loaded_refusal words told replied r bytes script ended.end later ended_so.answer ended_so.changed;
        asks = inr (script, (later, commands_asked (library.replied old) (library.replied mid) replied r script asked next));
        outside = later_outside library rack sink shown device_named blocks_given Rose (Some r) old mid new old_rack new_rack old_out new_out ended first.told first.remembers same outside;
      }
