-- From what comes of a script's bytes to what comes of the words that name it.
use Rattle.std.proofs.Common.{◌≡◌, ℕ, ◌<◌, ◌^◌, List, Option, Some, None, refl, sym, ◌∙◌, subst, inl, inr}
use Rattle.std.specs.Prelude.{◌⊎◌, IfSome, map, String}
use Rattle.std.specs.declared.alloc.Global.{Global}
use Rattle.ppq_files.specs.Reading.{IsOn, LibraryKeeps}
use Rattle.ppq_files.specs.Whole.{IsLoadedAs}
use Rattle.ppq_files.proofs.Given.{loaded_remembered}
use Rattle.ppq_words.specs.ppq_outside.Shown.{Shown}
use Rattle.ppq_words.specs.ppq_outside.Told.{Rose}
use Rattle.ppq_words.specs.ppq_outside.declared.library.Library.{Ghosts as LibraryShows}
use Rattle.ppq_words.specs.ppq_outside.declared.rack.Rack.{Ghosts as RackShows}
use Rattle.ppq_words.specs.ppq_outside.declared.sink.Sink.{Ghosts as SinkShows}
use Rattle.ppq_words.specs.ppq_script.declared.command.Command.{Command}
use Rattle.ppq_words.specs.ppq_script.declared.command.Command.TheVariants.{Bulk}
use Rattle.ppq_words.specs.ppq_script.Reading.{Reading as Script, command_list}
use Rattle.ppq_words.specs.Reading.{Reading, sizes_at}
use Rattle.ppq_jobs.specs.ppq_engine.Output.{AreFilesOf, given_of}
use Rattle.ppq_jobs.specs.ppq_engine.Ends.{NoFault}
use Rattle.ppq_jobs.specs.ppq_engine.declared.end.End.{End}
use Rattle.ppq_jobs.specs.ppq_engine.declared.end.End.TheVariants.{Done, Usage, ReadFault, NoFreeBlock, Memory, FileChanged}
use Rattle.ppq_jobs.specs.ppq_engine.declared.end.Ended.{Ended}
use Rattle.ppq_cli.specs.Device.{IsSurelyRun}
use Rattle.ppq_cli.specs.Replies.{Files, OfGood, OfRun, RefusalOf, RunOf, RunIsRight, TransfersOf, WroteNothing, HasRunWhole, HasRunFull, HasRunToFile, HasRunToLoad, AsksOf}
use Rattle.ppq_cli.specs.RunWords.{reading, device_named, blocks_given, About, Measure, OfWords, OfBytes, OfFile, WritesAll, WritesPart, WritesRoom, WritesToFile, WritesToLoad, UsesDevice, load_by, crest_by, most_by, least_by, refusal_of, refusal_of_bytes, refusal_of_file, IsAnswer, IsTooLarge, Completes, RunsWords}
use Rattle.ppq_cli.specs.RunOver.{RunsBytes}
use Rattle.ppq_cli.specs.Types.{RecordType, type_of}
use Rattle.ppq_cli.proofs.Ends.{of_commands, of_bytes, answer_of_bytes, named_completed}
use Rattle.ppq_cli.proofs.Completing.{completes_of}
use Rattle.ppq_cli.proofs.Extent.{files_asked}
use Rattle.ppq_cli.proofs.Outside.{later_outside, named_outside}
use Rattle.ppq_cli.proofs.Transfers as transfers

module _
    {L K O S : Type 0} (library : LibraryShows L) (rack : RackShows K S) (sink : SinkShows O) (shown : S → Shown) (words : List (String Global)) (r : Reading) (named : reading words ≡ Some r)
    (old mid new : L) (old_rack new_rack : K) (old_out new_out : O) (ended : Ended S) (bytes : List ℕ)
    (loaded : IsLoadedAs (library.told old) (library.replied mid) r.script 1048576 bytes) (kept : LibraryKeeps library.told library.replied (IsOn (library.replied mid) r.script) old mid)
    (same : library.faults mid ≡ library.faults old) (e : RunsBytes (type_of bytes) library rack sink shown r bytes mid new old_rack new_rack old_out new_out ended) where
  of_words : (P : Reading → Type 0) → P r → OfWords words P
  of_words P holds = let Q : Option Reading → Type 0 = λ o. IfSome o P in subst Q (sym named) holds

  -- the script as it was run
  ran :
      WroteNothing (sink.told old_out) (sink.told new_out) ended.end
      ⊎ RunOf (type_of bytes).words (rack.tells old_rack) (library.told old) (library.replied new) r bytes (sink.told old_out) (sink.told new_out) (map shown ended.blocks.items) ended.end
  ran =
      let P : Option Files → Type 0 = λ t.
      WroteNothing (sink.told old_out) (sink.told new_out) ended.end
      ⊎ RunOf (type_of bytes).words (rack.tells old_rack) t (library.replied new) r bytes (sink.told old_out) (sink.told new_out) (map shown ended.blocks.items) ended.end in
      subst P kept.told e.ran

  run_of : (end : End) → IsSurelyRun end → ended.end ≡ end → RunOf (type_of bytes).words (rack.tells old_rack) (library.told old) (library.replied new) r bytes (sink.told old_out) (sink.told new_out) (map shown ended.blocks.items) end
  run_of end run is =
      let P : End → Type 0 = λ x. RunOf (type_of bytes).words (rack.tells old_rack) (library.told old) (library.replied new) r bytes (sink.told old_out) (sink.told new_out) (map shown ended.blocks.items) x in
      elim ran as (λ _. P end) [
        | inl wrote ↦ absurd (wrote.maybe (subst IsSurelyRun (sym is) run))
        | inr was ↦ subst P is was
      ]

  -- what holds of the script's commands holds of its file
  of_good : (P : About) (Q : Script (type_of bytes).R → Type 0) → OfGood (type_of bytes).words (library.told old) (library.replied new) r bytes Q
      → ((script : Script (type_of bytes).R) → Q script → (files : Files) → AreFilesOf (library.told old) script files → P (type_of bytes) r (given_of (type_of bytes).words files script) (command_list script))
      → OfFile (library.told old) r P
  of_good P Q good gives =
      let script = good.0 in
      of_bytes (library.told old) r bytes P loaded.loaded (of_commands (type_of bytes).words (library.told old) (library.replied new) r bytes script P good.1.0 (gives script good.1.1))

  of_file : (P : About) (Q : Script (type_of bytes).R → Type 0) → OfRun (type_of bytes).words (library.told old) (library.replied new) r bytes Q
      → ((script : Script (type_of bytes).R) → Q script → (files : Files) → AreFilesOf (library.told old) script files → P (type_of bytes) r (given_of (type_of bytes).words files script) (command_list script))
      → OfFile (library.told old) r P
  of_file P Q run gives = of_good P Q run.1 gives

  -- what was written where the end is no sign of a run: nothing, or so it is said of the run
  of_either : (P : About) (end : End) → ended.end ≡ end → ((type : RecordType) (given : ℕ → List type.R) (commands : List (Command type.R)) → sink.told new_out ≡ sink.told old_out → P type r given commands)
      → (RunOf (type_of bytes).words (rack.tells old_rack) (library.told old) (library.replied new) r bytes (sink.told old_out) (sink.told new_out) (map shown ended.blocks.items) end → OfFile (library.told old) r P) → OfFile (library.told old) r P
  of_either P end is nothing gives =
      let Run : End → Type 0 = λ x. RunOf (type_of bytes).words (rack.tells old_rack) (library.told old) (library.replied new) r bytes (sink.told old_out) (sink.told new_out) (map shown ended.blocks.items) x in
      elim ran as (λ _. OfFile (library.told old) r P) [
        | inl wrote ↦ transfers.of_any (library.told old) _ (λ files. transfers.of_any (files r.script) _ (λ b. nothing (type_of b) _ _ wrote.same))
        | inr was ↦ gives (subst Run is was)
      ]

  full_file : (P : About) → ended.end ≡ NoFreeBlock
      → ((script : Script (type_of bytes).R) → HasRunFull (type_of bytes).words r.form (rack.tells old_rack) (library.told old) (sizes_at (type_of bytes).words.WIDTH r) (sink.told old_out) (sink.told new_out) script → (files : Files)
      → AreFilesOf (library.told old) script files → P (type_of bytes) r (given_of (type_of bytes).words files script) (command_list script))
      → OfFile (library.told old) r P
  full_file P is gives = of_file P (HasRunFull (type_of bytes).words r.form (rack.tells old_rack) (library.told old) (sizes_at (type_of bytes).words.WIDTH r) (sink.told old_out) (sink.told new_out)) (run_of NoFreeBlock tt is) gives

  whole_file : (P : About) → ended.end ≡ Done
      → ((script : Script (type_of bytes).R) → HasRunWhole (type_of bytes).words r.form (rack.tells old_rack) (library.told old) (sizes_at (type_of bytes).words.WIDTH r) (sink.told old_out) (sink.told new_out) (map shown ended.blocks.items) script → (files : Files)
      → AreFilesOf (library.told old) script files → P (type_of bytes) r (given_of (type_of bytes).words files script) (command_list script))
      → OfFile (library.told old) r P
  whole_file P is gives = of_file P (HasRunWhole (type_of bytes).words r.form (rack.tells old_rack) (library.told old) (sizes_at (type_of bytes).words.WIDTH r) (sink.told old_out) (sink.told new_out) (map shown ended.blocks.items)) (run_of Done tt is) gives

  refusal : RefusalOf (type_of bytes).words (library.told old) (library.replied new) r bytes ended.end
  refusal = let P : Option Files → Type 0 = λ t. RefusalOf (type_of bytes).words t (library.replied new) r bytes ended.end in subst P kept.told e.refused

  few : TransfersOf (type_of bytes).words (library.told old) (library.replied new) r bytes (map shown ended.blocks.items)
  few = let P : Option Files → Type 0 = λ t. TransfersOf (type_of bytes).words t (library.replied new) r bytes (map shown ended.blocks.items) in subst P kept.told e.transfers

  asks : AsksOf (type_of bytes).words (library.told old) (library.replied mid) (library.replied new) r bytes ended.end
  asks = let P : Option Files → Type 0 = λ t. AsksOf (type_of bytes).words t (library.replied mid) (library.replied new) r bytes ended.end in subst P kept.told e.asks

  -- where a file had changed, the library does not tell
  untold : (line said got : ℕ) → ended.end ≡ FileChanged line said got → library.told old ≡ None
  untold line said got is =
      let P : End → Type 0 = λ x. RefusalOf (type_of bytes).words (library.told old) (library.replied new) r bytes x in
      let changed : P (FileChanged line said got) = subst P is refusal in
      changed.1.1.1.untold

  not_usage : ended.end ≡ Usage → ⊥
  not_usage is = let P : End → Type 0 = λ x. RefusalOf (type_of bytes).words (library.told old) (library.replied new) r bytes x in (subst P is refusal) tt

  answer : IfSome (library.told old) (λ files. IsAnswer (refusal_of_file files (files r.script) r) ended.end)
  answer =
      let P : Option Files → Type 0 = λ t. IfSome t (λ files. IsAnswer (refusal_of_bytes (type_of bytes).words files bytes r) ended.end) in
      answer_of_bytes (library.told old) r bytes ended.end loaded.short loaded.loaded (subst P kept.told e.answer)

  completed : (measure : Measure) → (ended.end ≡ NoFreeBlock → OfFile (library.told old) r (IsTooLarge measure)) → NoFault ended.end → Completes measure library.told old words ended.end
  completed measure above fault = of_words _ (named_completed (library.told old) r measure ended.end answer untold above fault)

  pub of_loaded : library.faults old < 2 ^ 63 → rack.faults old_rack < 2 ^ 63 → sink.faults old_out < 2 ^ 63 → RunsWords library rack sink shown words old new old_rack new_rack old_out new_out ended
  of_loaded quiet_library quiet_rack quiet_sink =
      let now_loaded : IsLoadedAs (library.told old) (library.replied new) r.script 1048576 bytes = loaded_remembered (library.told old) (library.replied mid) (library.replied new) r.script 1048576 bytes e.outside.remembers loaded in
      let no : reading words ≡ None → ⊥ = λ is. let other : Some r ≡ None = sym named ∙ is in cc in
      record {
        written = record {
          done = λ is t. of_words _ (whole_file (WritesAll sink.told old_out new_out) is (λ script w. w.took t));
          part = λ t. of_words _ (of_bytes (library.told old) r bytes (WritesPart sink.told old_out new_out) loaded.loaded
              (let P : Option Files → Type 0 = λ o. OfBytes o (type_of bytes) r bytes (WritesPart sink.told old_out new_out) in subst P kept.told (e.part t)));
          nothing = e.nothing;
        };
        room = λ is t. of_words _ (full_file (WritesRoom sink.told old_out new_out) is (λ script w. w.within t));
        to_file = λ is t. of_words _ (of_either (WritesToFile sink.told old_out new_out) ReadFault is (λ type given commands same. inl same)
            (λ run. of_file (WritesToFile sink.told old_out new_out) (HasRunToFile (type_of bytes).words r.form (rack.tells old_rack) (library.told old) (sink.told old_out) (sink.told new_out)) run
            (λ script w files are. inr (record { done = w.done; command = Bulk w.file w.size; here = w.here; is = (w.file, (w.size, refl)); took = w.took t files are }))));
        to_load = λ is t. of_words _ (of_either (WritesToLoad sink.told old_out new_out) Memory is (λ type given commands same. inl same)
            (λ run. of_good (WritesToLoad sink.told old_out new_out) (HasRunToLoad (type_of bytes).words r.form (rack.tells old_rack) (library.told old) (sink.told old_out) (sink.told new_out)) run
            (λ script w files are. inr (record { done = w.done; command = w.command; here = w.here; is = w.loads; took = w.took t files are }))));
        ran = of_words _ (elim ran as (λ _. RunIsRight (rack.tells old_rack) (library.told old) (library.replied new) r (sink.told old_out) (sink.told new_out) (map shown ended.blocks.items) ended.end) [
          | inl wrote ↦ inl wrote
          | inr was ↦ inr (bytes, (now_loaded, was))
        ]);
        used = λ is t. of_words _ (whole_file (UsesDevice crest_by shown ended) is (λ script w. w.crest t));
        used_any = λ is. of_words _ (whole_file (UsesDevice least_by shown ended) is (λ script w files are. w.least));
        transfers = of_words _ (transfers.of_file shown ended (library.told old) (library.replied new) r bytes loaded.loaded few);
        transfers_any = of_words _ (inr (bytes, (now_loaded, few)));
        reads = of_words _ (inr (bytes, (now_loaded, files_asked (type_of bytes).words (library.told old) (library.replied old) (library.replied mid) (library.replied new) r bytes ended.end e.outside.remembers kept.asks asks)));
        outside =
            named_outside library rack sink shown device_named blocks_given (reading words) r old new old_rack new_rack old_out new_out ended named quiet_library quiet_rack quiet_sink
            (later_outside library rack sink shown device_named blocks_given Rose (Some r) old mid new old_rack new_rack old_out new_out ended kept.told kept.remembers same e.outside);
        unreadable = record {
          usage = λ is. absurd (not_usage is);
          no_reading = λ is. absurd (no is);
          early = λ is. absurd (no is);
          none = λ is. absurd (no is);
          unasked = λ is. absurd (no is);
        };
        answer = let P : Option Reading → Type 0 = λ o. IfSome (library.told old) (λ files. IsAnswer (refusal_of o files) ended.end) in subst P (sym named) answer;
        refused = of_words _ (inr (bytes, (now_loaded, refusal)));
        above = λ is t. of_words _ (full_file (IsTooLarge load_by) is (λ script w. w.above t));
        above_any = λ is. of_words _ (full_file (IsTooLarge most_by) is (λ script w files are. w.above_any));
        complete = λ t fault. completed load_by (λ is. full_file (IsTooLarge load_by) is (λ script w. w.above t)) fault;
        complete_any = λ fault. completed most_by (λ is. full_file (IsTooLarge most_by) is (λ script w files are. w.above_any)) fault;
        complete_given = λ fault. of_words _ (inr (bytes, (now_loaded, completes_of (type_of bytes).words (rack.tells old_rack) (library.told old) (library.replied new) r bytes (sink.told old_out) (sink.told new_out) (map shown ended.blocks.items) ended.end ran refusal fault)));
      }
