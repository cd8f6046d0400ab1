-- What stands where commands did not all run, and what the end then says.
use Rattle.std.proofs.Common.{◌≡◌, ℕ, ◌+◌, ◌-◌, ◌<◌, ◌≤◌, Bool, List, [], ◌++◌, length, take, drop, max, Option, Some, refl, sym, ap, ap₂, ◌∙◌, subst, arith, inl, inr, append_assoc, append-nil, take-append-drop}
use Rattle.std.specs.Prelude.{slice_get, ◌||◌}
use Rattle.std.proofs.lemmas.Bool.{cases_lt}
use Rattle.ppq_script.specs.Words.{Words}
use Rattle.ppq_engine.proofs.Orders.{HasLaws}
use Rattle.ppq_script.specs.declared.form.Form.{Form}
use Rattle.ppq_script.specs.ppq_outside.Shown.{Shown, AllTell}
use Rattle.ppq_script.specs.ppq_outside.Told.{Reply, TakesAll, TakesPart}
use Rattle.ppq_script.proofs.ppq_outside.Takes.{part_of_more, all_is_part}
use Rattle.ppq_load.specs.ppq_budget.Sizes.{Numbers}
use Rattle.ppq_script.specs.declared.command.Command.{Command}
use Rattle.ppq_script.specs.declared.part.Part.{Part}
use Rattle.ppq_script.specs.Parts.{commands_in, first_in, IsPartAt}
use Rattle.ppq_script.specs.Reading.{Reading, command_list, line_list}
use Rattle.ppq_load.specs.Refusal.{HasNoRoom, IsRefusedBy}
use Rattle.ppq_load.proofs.Refusals.{room-not_none, no_room-later, cause-later}
use Rattle.ppq_script.specs.declared.command.Command.TheVariants.{Bulk}
use Rattle.ppq_script.specs.Files.{name_at}
use Rattle.ppq_engine.specs.Files.{IsByFile, IsBySession, EndsEarly}
use Rattle.ppq_engine.specs.Loads.{IsLoad, none_go, size_from, most_of, begins_limit}
use Rattle.ppq_engine.specs.Output.{outside, state_of, output_of, output_from, load_of, given_of, AreFilesOf, TakesAtLeast, TakesWithin}
use Rattle.ppq_engine.specs.Running.{HasRun, HasSizes, StopsWithin, QueueRefused, IsBeforeFile, IsBeforeLoad, ScriptStopped, RefusedAt, PartStops, IsOfFile, StopsFor, StopsQuiet, ChangedIn, SinkAfter, LibraryAfter, queue_end}
use Rattle.ppq_engine.specs.Popping.{NotByFile, IsByLimit}
use Rattle.ppq_engine.specs.Outcome.{EndSays, TakesBeforeFile, TakesBeforeLoad, FaultBeforeFile, PutsStopped, PutsRest}
use Rattle.ppq_engine.specs.declared.end.End.{End}
use Rattle.ppq_engine.specs.declared.end.End.TheVariants as end
use Rattle.ppq_engine.specs.declared.stop.Stop.{Stop}
use Rattle.ppq_engine.specs.declared.stop.Stop.TheVariants.{Sink, Queue, Read, Memory, Changed}
use Rattle.ppq_load.specs.ppq_array.declared.store_fault.StoreFault.{StoreFault as QueueFault}
use Rattle.ppq_load.specs.ppq_array.declared.store_fault.StoreFault.TheVariants.{NoFreeBlock, Device}
use Rattle.ppq_engine.specs.Gathers.{Gathers}
use Rattle.ppq_engine.proofs.Parts.{take-part, take-part_of}
use Rattle.ppq_engine.specs.Bounds.{HasLength}
use Rattle.ppq_engine.proofs.Lines.{begins-append, begins-take, begins-take_all, part-begins}
use Rattle.ppq_engine.proofs.Running.{take-fewer, output_from-append, load-take, load-take_all, gathered-all, gathered-part, part-behind, at_least}
use Rattle.ppq_engine.proofs.Sizes.{peak-part, greatest-take_all}
use Rattle.ppq_engine.proofs.Steps.{peak-run, output-behind, run-cut}

-- a cut output: what is put of it is a part of all, or the output of the first commands
pub cut-part : {R : Type 0} (w : Words R) (form : Form) (given : ℕ → List R) (before mid now : Option (List ℕ)) (had : List ℕ) (commands : List (Command R)) (done : ℕ) (part : List ℕ) → StopsWithin w form given before mid had commands done part → TakesPart mid now had → TakesPart before now (output_of w form given commands)
cut-part w form given before mid now had commands done part cut took =
    let P : List ℕ → Type 0 = λ t. TakesPart before now t in
    subst P (sym cut.all) (part_of_more before now (output_of w form given (take done commands) ++ part) cut.rest (gathered-part before mid now had (output_of w form given (take done commands) ++ part) cut.output took))

cut-all : {R : Type 0} (w : Words R) (form : Form) (given : ℕ → List R) (before mid now : Option (List ℕ)) (had : List ℕ) (commands : List (Command R)) (done : ℕ) → StopsWithin w form given before mid had commands done [] → TakesAll mid now had → TakesAll before now (output_of w form given (take done commands))
cut-all w form given before mid now had commands done cut took =
    let P : List ℕ → Type 0 = λ t. TakesAll before now t in
    subst P (append-nil (output_of w form given (take done commands))) (gathered-all before mid now had (output_of w form given (take done commands) ++ []) cut.output took)

fewer-at_least :
    {R : Type 0} (w : Words R) (laws : HasLaws w) (form : Form) (given : ℕ → List R) (before now : Option (List ℕ)) (commands : List (Command R)) (k i : ℕ) (part : List ℕ) → k ≤ i → TakesAll before now (output_of w form given (take i commands) ++ part)
    → TakesAtLeast before now (output_of w form given (take k commands))
fewer-at_least w laws form given before now commands k i part h took =
    let P : List ℕ → Type 0 = λ t. TakesAll before now t in
    let more = output_from w form given (state_of w given (take k commands)) (take (i - k) (drop k commands)) in
    let all : output_of w form given (take i commands) ++ part ≡ output_of w form given (take k commands) ++ (more ++ part) =
    ap (λ (t : List ℕ). t ++ part) (ap (output_of w form given) (take-fewer k i commands h) ∙ output_from-append w laws form given (outside []) (take k commands) (take (i - k) (drop k commands))) ∙ append_assoc (output_of w form given (take k commands)) more part in
    at_least before now (output_of w form given (take k commands)) (more ++ part) (subst P all took)

cut-within :
    {R : Type 0} (w : Words R) (laws : HasLaws w) (form : Form) (given : ℕ → List R) (before mid now : Option (List ℕ)) (had : List ℕ) (sizes : Numbers) (commands : List (Command R)) (done : ℕ) (part : List ℕ)
    → 0 < sizes.block → StopsWithin w form given before mid had commands done part → TakesAll mid now had → HasNoRoom sizes (begins_limit (take (done + 1) commands)) (load_of w given (take (done + 1) commands)) → TakesWithin w form given before now sizes commands
cut-within w laws form given before mid now had sizes commands done part some cut took none = λ k room.
    let all = gathered-all before mid now had (output_of w form given (take done commands) ++ part) cut.output took in
    let begun : ℕ → Bool = λ n. begins_limit (take n commands) in
    let load : ℕ → ℕ = λ n. load_of w given (take n commands) in
    elim (cases_lt done k) as (λ _. TakesAtLeast before now (output_of w form given (take k commands))) [
      | inr h ↦ fewer-at_least w laws form given before now commands k done part h all
      | inl h ↦
          let more : done + 1 ≤ k = omega (arith, h) in
          absurd (room-not_none sizes (begun k) (load k) room (no_room-later sizes (begun (done + 1)) (begun k) (load (done + 1)) (load k) some (begins-take (done + 1) k commands more) (load-take w laws given (done + 1) k commands more) none))
    ]

around : {R : Type 0} (commands : List (Command R)) (i : ℕ) (part : List (Command R)) → take (i + length part) commands ≡ take i commands ++ part → commands ≡ (take i commands ++ part) ++ drop (i + length part) commands
around {R} commands i part split = sym (take-append-drop (i + length part) commands) ∙ ap (λ (cs : List (Command R)). cs ++ drop (i + length part) commands) split

module _ {R : Type 0} (w : Words R) (laws : HasLaws w) (form : Form) (told : Option (List ℕ → Option (List ℕ))) (script : Reading R) (first : List Shown) (before : Option (List ℕ)) where
  -- a part at a place that did not run to its end
  module _
      (mid now : Option (List ℕ)) (had has : List ℕ) (bag : List R) (size peak : ℕ) (sizes : Numbers) (slots held later : List Shown) (limited : Bool) (i : ℕ) (p : Part R) (here : IsPartAt w script i p) (block : 0 < sizes.block)
      (tell : AllTell first → AllTell held) (begun : limited ≡ begins_limit (take i (command_list script)))
      (long : (files : List ℕ → Option (List ℕ)) → AreFilesOf told script files → HasLength w (given_of w files script) (first_in p))
      (run : AllTell first → (files : List ℕ → Option (List ℕ)) → AreFilesOf told script files → HasRun w form (given_of w files script) before mid had bag size peak sizes slots (take i (command_list script)))
      (sized : HasSizes w size peak sizes slots (take i (command_list script))) where
    abbrev part : List (Command R)
    part = commands_in p

    split : take (i + length part) (command_list script) ≡ take i (command_list script) ++ part
    split = take-part (command_list script) i part here.whole

    -- nothing of it is gathered
    before-part : (given : ℕ → List R) → HasRun w form given before mid had bag size peak sizes slots (take i (command_list script)) → Gathers mid now had [] has → StopsWithin w form given before now has (command_list script) i []
    before-part given ran step =
        let commands = command_list script in
        run-cut w laws form given before mid had bag size peak sizes slots (take i commands) ran now has commands part [] (drop (i + length part) commands) i [] (output_from w form given (outside bag) part) (around commands i part split) (sym (append-nil (take i commands))) refl step

    module _ (fault : QueueFault) (refused : RefusedAt w form held mid now had bag size peak part sizes (limited || begins_limit part) later has fault) where
      abbrev done : ℕ
      done = i + refused.done

      next : take (done + 1) (command_list script) ≡ take i (command_list script) ++ take (refused.done + 1) part
      next =
          let sum : done + 1 ≡ i + (refused.done + 1) = omega arith in
          ap (λ (n : ℕ). take n (command_list script)) sum ∙ take-part_of (command_list script) i part here.whole (refused.done + 1) (omega (arith, refused.within))

      -- the commands up to the one that was refused begin a limit session if the queue knows of one
      flag : (limited || begins_limit part) ≡ begins_limit (take (done + 1) (command_list script))
      flag =
          let cs = take i (command_list script) in
          let xs = take (refused.done + 1) part in
          ap₂ (λ (a b : Bool). a || b) begun (sym (part-begins w refused.done p script.workers here.lines)) ∙ sym (begins-append cs xs) ∙ ap begins_limit (sym next)

      cause-with : (count : List (Command R) → ℕ) → max peak (size_from w none_go size (take (refused.done + 1) part)) ≤ count (take i (command_list script) ++ take (refused.done + 1) part)
          → IsRefusedBy (count (take (done + 1) (command_list script))) sizes (begins_limit (take (done + 1) (command_list script))) later fault
      cause-with count up =
          let higher = max peak (size_from w none_go size (take (refused.done + 1) part)) in
          cause-later sizes (limited || begins_limit part) (begins_limit (take (done + 1) (command_list script))) higher (count (take (done + 1) (command_list script))) block (λ none. flag ∙ none)
          (subst (λ (xs : List (Command R)). higher ≤ count xs) (sym next) up) later fault refused.cause

      refused-part : QueueRefused w form told script first before now has sizes later fault
      refused-part =
          let commands = command_list script in
          let cs = take i commands in
          let n = refused.done in
          let higher = max peak (size_from w none_go size (take (n + 1) part)) in
          record {
            done = done;
            cut =
                λ tells files are.
                let given = given_of w files script in
                let c = refused.cut (tell tells) given in (
                  c.text,
                  run-cut w laws form given before mid had bag size peak sizes slots cs (run tells files are) now has commands part (take n part) (drop (i + length part) commands) done c.text c.rest
                      (around commands i part split) (take-part_of commands i part here.whole n (omega (arith, refused.within))) c.all c.gathers,
                );
            cause = λ tells files are. let given = given_of w files script in cause-with (load_of w given) (peak-run w laws form given before mid had bag size peak sizes slots cs (run tells files are) p script.workers here.lines (long files are) higher (n + 1) (omega arith));
            any = cause-with (most_of w) (peak-part w size peak higher sizes slots cs (take (n + 1) part) sized (omega arith));
          }

    pub stopped-part : (stop : Stop) → PartStops w form held mid now had bag size peak part sizes (limited || begins_limit part) later has stop → IsOfFile (first_in p) stop → ScriptStopped w form told script first before now has sizes later stop
    stopped-part Sink stops of_file = λ tells files are.
        let given = given_of w files script in
        let commands = command_list script in
        let cs = take i commands in
        let ran = run tells files are in
        let P : List ℕ → Type 0 = λ t. TakesPart before now t in
        let behind = drop (i + length part) commands in
        let more = output_from w form given (state_of w given (cs ++ part)) behind in
        let all : output_of w form given commands ≡ (output_of w form given cs ++ output_from w form given (outside bag) part) ++ more =
        ap (output_of w form given) (around commands i part split) ∙ output_from-append w laws form given (outside []) (cs ++ part) behind ∙ ap (λ (t : List ℕ). t ++ more) (output-behind w laws form given before mid had bag size peak sizes slots cs ran part) in
        subst P (sym all) (part_of_more before now (output_of w form given cs ++ output_from w form given (outside bag) part) more (part-behind before mid now had (output_of w form given cs) (output_from w form given (outside bag) part) ran.output (stops (tell tells) given)))
    stopped-part (Queue fault) stops of_file = refused-part fault stops
    stopped-part Read stops of_file = record {
      done = i;
      file = of_file.0;
      size = of_file.1.0;
      here = here.first ∙ ap (λ (c : Command R). Some c) of_file.1.1;
      cut = λ tells files are. before-part (given_of w files script) (run tells files are) (stops (tell tells));
    }
    stopped-part Memory stops of_file = record {
      done = i;
      command = first_in p;
      here = here.first;
      loads = of_file;
      cut = λ tells files are. before-part (given_of w files script) (run tells files are) (stops (tell tells));
    }
    stopped-part (Changed line said got) stops of_file = record {
      done = i;
      file = of_file.0;
      size = of_file.1.0;
      here = here.first ∙ ap (λ (c : Command R). Some c) of_file.1.1;
      cut = λ tells files are. before-part (given_of w files script) (run tells files are) (stops (tell tells));
    }

  -- what was put is a part of the output
  rest-part :
      (mid now : Option (List ℕ)) (sink sink_now : ℕ) (had : List ℕ) (stopped over : End) (given : ℕ → List R) (done : ℕ) (part : List ℕ)
      → PutsRest mid now sink sink_now had stopped over → StopsWithin w form given before mid had (command_list script) done part → TakesPart before now (output_of w form given (command_list script))
  rest-part mid now sink sink_now had stopped over given done part (inl puts) cut = cut-part w form given before mid now had (command_list script) done part cut (all_is_part mid now had puts.0)
  rest-part mid now sink sink_now had stopped over given done part (inr puts) cut = cut-part w form given before mid now had (command_list script) done part cut puts.0

  pub part-stopped :
      (stop : Stop) (mid now : Option (List ℕ)) (sink sink_now : ℕ) (had : List ℕ) (sizes : Numbers) (slots : List Shown) (over : End)
      → ScriptStopped w form told script first before mid had sizes slots stop → PutsStopped mid now sink sink_now had over stop
      → AllTell first → (files : List ℕ → Option (List ℕ)) → AreFilesOf told script files → TakesPart before now (output_of w form (given_of w files script) (command_list script))
  part-stopped Sink mid now sink sink_now had sizes slots over stopped puts = λ tells files is.
      let P : Option (List ℕ) → Type 0 = λ n. TakesPart before n (output_of w form (given_of w files script) (command_list script)) in
      subst P (sym puts.0) (stopped tells files is)
  part-stopped (Queue fault) mid now sink sink_now had sizes slots over stopped puts = λ tells files is.
      let cut = stopped.cut tells files is in
      rest-part mid now sink sink_now had (queue_end fault) over (given_of w files script) stopped.done cut.0 puts cut.1
  part-stopped Read mid now sink sink_now had sizes slots over stopped puts = λ tells files is. rest-part mid now sink sink_now had end.ReadFault over (given_of w files script) stopped.done [] puts (stopped.cut tells files is)
  part-stopped Memory mid now sink sink_now had sizes slots over stopped puts = λ tells files is. rest-part mid now sink sink_now had end.Memory over (given_of w files script) stopped.done [] puts (stopped.cut tells files is)
  part-stopped (Changed line said got) mid now sink sink_now had sizes slots over stopped puts =
      λ tells files is. rest-part mid now sink sink_now had (end.FileChanged line said got) over (given_of w files script) stopped.done [] puts (stopped.cut tells files is)

  -- what was put is the output of the commands before one that adds many records
  before-load : (mid now : Option (List ℕ)) (had : List ℕ) → IsBeforeLoad w form told script first before mid had → TakesAll mid now had → TakesBeforeLoad w form told script first before now
  before-load mid now had stopped took = record {
    done = stopped.done;
    command = stopped.command;
    here = stopped.here;
    loads = stopped.loads;
    took = λ tells files is. cut-all w form (given_of w files script) before mid now had (command_list script) stopped.done (stopped.cut tells files is) took;
  }

  -- what was put is the output of the commands before one that reads a file
  before-file : (mid now : Option (List ℕ)) (had : List ℕ) → IsBeforeFile w form told script first before mid had → TakesAll mid now had → TakesBeforeFile w form told script first before now
  before-file mid now had stopped took = record {
    done = stopped.done;
    file = stopped.file;
    size = stopped.size;
    here = stopped.here;
    took = λ tells files is. cut-all w form (given_of w files script) before mid now had (command_list script) stopped.done (stopped.cut tells files is) took;
  }

  rest-before :
      (mid now : Option (List ℕ)) (sink sink_now : ℕ) (had : List ℕ) (stopped over : End)
      → PutsRest mid now sink sink_now had stopped over → (TakesAll mid now had → FaultBeforeFile w form told script first before now stopped) → FaultBeforeFile w form told script first before now over
  rest-before mid now sink sink_now had stopped over (inl puts) all =
      let P : End → Type 0 = λ e. FaultBeforeFile w form told script first before now e in
      subst P (sym puts.1) (all puts.0)
  rest-before mid now sink sink_now had stopped over (inr puts) all =
      let P : End → Type 0 = λ e. FaultBeforeFile w form told script first before now e in
      subst P (sym puts.1) tt

  pub before-stopped :
      (stop : Stop) (mid now : Option (List ℕ)) (sink sink_now : ℕ) (had : List ℕ) (sizes : Numbers) (slots : List Shown) (over : End)
      → ScriptStopped w form told script first before mid had sizes slots stop → PutsStopped mid now sink sink_now had over stop → FaultBeforeFile w form told script first before now over
  before-stopped Sink mid now sink sink_now had sizes slots over stopped puts =
      let P : End → Type 0 = λ e. FaultBeforeFile w form told script first before now e in
      subst P (sym puts.1) tt
  before-stopped (Queue NoFreeBlock) mid now sink sink_now had sizes slots over stopped puts = rest-before mid now sink sink_now had end.NoFreeBlock over puts (λ took. tt)
  before-stopped (Queue (Device number)) mid now sink sink_now had sizes slots over stopped puts = rest-before mid now sink sink_now had (end.DeviceFault number) over puts (λ took. tt)
  before-stopped Read mid now sink sink_now had sizes slots over stopped puts = rest-before mid now sink sink_now had end.ReadFault over puts (before-file mid now had stopped)
  before-stopped Memory mid now sink sink_now had sizes slots over stopped puts = rest-before mid now sink sink_now had end.Memory over puts (λ took. tt)
  before-stopped (Changed line said got) mid now sink sink_now had sizes slots over stopped puts = rest-before mid now sink sink_now had (end.FileChanged line said got) over puts (before-file mid now had stopped)

  -- all of the rest was put, or the sink failed
  rest-says :
      (replied : Reply → Type 0) (slots : List Shown) (sizes : Numbers) (mid now : Option (List ℕ)) (sink sink_mid sink_now library library_now : ℕ) (had : List ℕ) (stopped over : End)
      → PutsRest mid now sink_mid sink_now had stopped over → sink_mid ≡ sink
      → (TakesAll mid now had → sink_now ≡ sink → EndSays w form told replied script first slots sizes before now sink sink_now library library_now stopped)
      → EndSays w form told replied script first slots sizes before now sink sink_now library library_now over
  rest-says replied slots sizes mid now sink sink_mid sink_now library library_now had stopped over (inl puts) same says =
      let P : End → Type 0 = λ e. EndSays w form told replied script first slots sizes before now sink sink_now library library_now e in
      subst P (sym puts.1) (says puts.0 (puts.2 ∙ same))
  rest-says replied slots sizes mid now sink sink_mid sink_now library library_now had stopped over (inr puts) same says =
      let P : End → Type 0 = λ e. EndSays w form told replied script first slots sizes before now sink sink_now library library_now e in
      subst P (sym puts.1) (omega (arith, puts.2, same))

  pub says-stopped :
      (stop : Stop) (replied : Reply → Type 0) (slots : List Shown) (sizes : Numbers) (mid now : Option (List ℕ)) (sink sink_mid sink_now library library_now : ℕ) (had : List ℕ) (over : End)
      → 0 < sizes.block → ScriptStopped w form told script first before mid had sizes slots stop → StopsQuiet first slots stop → ChangedIn told replied script stop → SinkAfter sink sink_mid stop → LibraryAfter library library_now stop
      → PutsStopped mid now sink_mid sink_now had over stop
      → EndSays w form told replied script first slots sizes before now sink sink_now library library_now over
  says-stopped Sink replied slots sizes mid now sink sink_mid sink_now library library_now had over some stopped quiet changed after library_after puts =
      let P : End → Type 0 = λ e. EndSays w form told replied script first slots sizes before now sink sink_now library library_now e in
      subst P (sym puts.1) (omega (arith, puts.2, after))
  says-stopped (Queue NoFreeBlock) replied slots sizes mid now sink sink_mid sink_now library library_now had over some stopped quiet changed after library_after puts =
      rest-says replied slots sizes mid now sink sink_mid sink_now library library_now had end.NoFreeBlock over puts after
      (λ took same. (
        λ tells files is.
            let cut = stopped.cut tells files is in
            record {
              within = cut-within w laws form (given_of w files script) before mid now had sizes (command_list script) stopped.done cut.0 some cut.1 took (stopped.cause tells files is);
              above =
                  let last = take (stopped.done + 1) (command_list script) in
                  no_room-later sizes (begins_limit last) (begins_limit (command_list script)) (load_of w (given_of w files script) last) (load_of w (given_of w files script) (command_list script)) some
                  (begins-take_all (stopped.done + 1) (command_list script)) (load-take_all w laws (given_of w files script) (stopped.done + 1) (command_list script)) (stopped.cause tells files is);
            },
        let last = take (stopped.done + 1) (command_list script) in
            no_room-later sizes (begins_limit last) (begins_limit (command_list script)) (most_of w last) (most_of w (command_list script)) some
            (begins-take_all (stopped.done + 1) (command_list script)) (greatest-take_all w none_go (stopped.done + 1) (command_list script)) stopped.any,
        record { sink_same = same; library_same = library_after },
        quiet,
      ))
  says-stopped (Queue (Device number)) replied slots sizes mid now sink sink_mid sink_now library library_now had over some stopped quiet changed after library_after puts =
      rest-says replied slots sizes mid now sink sink_mid sink_now library library_now had (end.DeviceFault number) over puts after (λ took same. (stopped.any, record { sink_same = same; library_same = library_after }))
  says-stopped Read replied slots sizes mid now sink sink_mid sink_now library library_now had over some stopped quiet changed after library_after puts =
      rest-says replied slots sizes mid now sink sink_mid sink_now library library_now had end.ReadFault over puts after (λ took same. (library_after, same))
  says-stopped Memory replied slots sizes mid now sink sink_mid sink_now library library_now had over some stopped quiet changed after library_after puts =
      rest-says replied slots sizes mid now sink sink_mid sink_now library library_now had end.Memory over puts after
      (λ took same. (
        before-load mid now had stopped took,
        record { sink_same = same; library_same = library_after },
      ))
  says-stopped (Changed line said got) replied slots sizes mid now sink sink_mid sink_now library library_now had over some stopped quiet changed after library_after puts =
      rest-says replied slots sizes mid now sink sink_mid sink_now library library_now had (end.FileChanged line said got) over puts after (λ took same. (changed, record { sink_same = same; library_same = library_after }))

-- a stop by sink or queue says nothing of files
pub not_of_file : {R : Type 0} (command : Command R) (stop : Stop) → NotByFile stop → IsOfFile command stop
not_of_file command Sink by = tt
not_of_file command (Queue fault) by = tt
not_of_file command _ by = absurd by

pub not-by_limit : (stop : Stop) → NotByFile stop → IsByLimit stop
not-by_limit Sink by = tt
not-by_limit (Queue fault) by = tt
not-by_limit _ by = absurd by

-- a stop by a session is one by a load of a file, and one by a limit session
pub session_by_file : (stop : Stop) → IsBySession stop → IsByFile stop
session_by_file Sink by = absurd by
session_by_file _ by = tt

pub session-by_limit : (stop : Stop) → IsBySession stop → IsByLimit stop
session-by_limit (Queue fault) by = tt
session-by_limit Memory by = tt
session-by_limit _ by = absurd by

-- a stop by a limit session says nothing of files, and asks no library
pub limit_of_file : {R : Type 0} (command : Command R) (stop : Stop) → IsLoad command → IsByLimit stop → IsOfFile command stop
limit_of_file command Sink loads by = tt
limit_of_file command (Queue fault) loads by = tt
limit_of_file command Memory loads by = loads
limit_of_file command _ loads by = absurd by

pub limit_not_changed : {R : Type 0} (told : Option (List ℕ → Option (List ℕ))) (replied : Reply → Type 0) (script : Reading R) (stop : Stop) → IsByLimit stop → ChangedIn told replied script stop
limit_not_changed told replied script Read by = absurd by
limit_not_changed told replied script (Changed line said got) by = absurd by
limit_not_changed told replied script _ by = tt

pub limit_unasked : (count : ℕ) (stop : Stop) → IsByLimit stop → LibraryAfter count count stop
limit_unasked count Read by = absurd by
limit_unasked count (Changed line said got) by = absurd by
limit_unasked count _ by = refl

-- a stop by reading a file comes of the command that reads it, and leaves the sink alone
pub file_of_file : (R : Type 0) (file size : ℕ) (stop : Stop) → IsOfFile {R = R} (Bulk file size) stop
file_of_file R file size Read = (file, (size, refl))
file_of_file R file size (Changed line said got) = (file, (size, refl))
file_of_file R file size _ = tt

pub file_unput : (count : ℕ) (stop : Stop) → IsByFile stop → SinkAfter count count stop
file_unput count Sink by = absurd by
file_unput count _ by = refl

pub file_changed :
    {R : Type 0} (told : Option (List ℕ → Option (List ℕ))) (replied : Reply → Type 0) (script : Reading R) (at file said line : ℕ) (stop : Stop) → slice_get (command_list script) at ≡ Some (Bulk file said) → slice_get (line_list script) at ≡ Some line
    → EndsEarly told replied (name_at script.names file) line said stop → ChangedIn told replied script stop
file_changed told replied script at file said line (Changed one size got) here there ends =
    let early = ends.1.1 in
    record {
      at = at;
      file = file;
      here = here ∙ ap (λ (n : ℕ). Some (Bulk file n)) (sym ends.1.0);
      line_is = there ∙ ap (λ (n : ℕ). Some n) (sym ends.0);
      before = let P : ℕ → Type 0 = λ n. got < n in subst P (sym ends.1.0) early.before;
      read = early.read;
      untold = early.untold;
    }
file_changed told replied script at file said line _ here there ends = tt

-- a greater load is refused for the same reason
pub stops-more : (sizes : Numbers) (limited : Bool) (slots : List Shown) (load more : ℕ) (stop : Stop) → 0 < sizes.block → load ≤ more → StopsFor load sizes limited slots stop → StopsFor more sizes limited slots stop
stops-more sizes limited slots load more (Queue fault) some h stops = cause-later sizes limited limited load more some (λ same. same) h slots fault stops
stops-more sizes limited slots load more _ some h stops = tt
