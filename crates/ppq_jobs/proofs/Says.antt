-- What the end of a run says, by the call that it came from.
use Rattle.std.proofs.Common.{◌≡◌, ℕ, ◌+◌, ◌^◌, ◌<◌, ◌≤◌, max, false, List, take, Option, refl, sym, ◌∙◌, subst, arith}
use Rattle.std.specs.Prelude.{Result, Ok, Err, IfErr}
use Rattle.ppq_event.specs.ppq_record.declared.triple.Triple.{Triple}
use Rattle.ppq_event.specs.ppq_outside.Told.{Reply, TakesAll, TakesPart}
use Rattle.ppq_event.specs.ppq_handler.declared.ending.Ending.{Ending}
use Rattle.ppq_event.specs.ppq_handler.Roster.{Place}
use Rattle.ppq_event.specs.ppq_handler.Agenda.{Run, run, journal}
use Rattle.ppq_event.specs.ppq_queue.Shown.{AllTell}
use Rattle.ppq_event.specs.ppq_queue.Holding.{Holding, Keeps}
use Rattle.ppq_event.specs.ppq_queue.ppq_array.declared.store_fault.StoreFault.TheVariants as queue_fault
use Rattle.ppq_event.specs.declared.fault.SimFault.{SimFault}
use Rattle.ppq_event.specs.declared.fault.SimFault.TheVariants.{Write, Queue}
use Rattle.ppq_event.specs.Going.{greatest, SinkAfter}
use Rattle.ppq_event.specs.Simulated.{WroteLines, Leaves}
use Rattle.ppq_event.proofs.ppq_queue.ppq_outside.Takes.{takes_nothing, all_is_part}
use Rattle.ppq_engine.specs.ppq_load.Loading.{LoadStopsFor, LoadLeaves, LoadEndsIn, LoadCountsFrom}
use Rattle.ppq_engine.specs.ppq_load.declared.fault.LoadFault.{LoadFault}
use Rattle.ppq_engine.specs.ppq_load.declared.fault.LoadFault.TheVariants as load
use Rattle.ppq_engine.specs.Refusal.{HasNoRoom}
use Rattle.ppq_engine.specs.declared.end.End.{End}
use Rattle.ppq_engine.specs.declared.end.End.TheVariants.{Done}
use Rattle.ppq_engine.proofs.ppq_load.Refusals.{no_room-later}
use Rattle.ppq_jobs.specs.Asked.{Asked, count_of, OfRun, run_of}
use Rattle.ppq_jobs.specs.Ending.{load_end, stop_end, IsOpened, AgendaSays, EndsAgenda}
use Rattle.ppq_engine.proofs.Running.{takes_none}
use Rattle.ppq_jobs.proofs.Loaded.{HasLoaded, loaded_run, loaded_size, loaded_peak, lacks_room}

-- the count of a sink did not fall
pub sink_later : {T : Type 0} (before now : ℕ) (r : Result T SimFault) → before < 2 ^ 64 → SinkAfter before now r → before ≤ now
sink_later before now (Ok value) fits after = omega (arith, after)
sink_later before now (Err Write) fits after = omega (arith, after)
sink_later before now (Err (Queue fault)) fits after = omega (arith, after)

module _ (told : Option (List ℕ → Option (List ℕ))) (replied : Reply → Type 0) (asked : Asked) (places : List Place) (old : Holding Triple) (opened : IsOpened old) (some : 0 < old.sizes.block) where
  -- the events were not loaded: nothing was written
  unloaded_says :
      (new : Holding Triple) (output : Option (List ℕ)) (sink library library_now : ℕ) (fault : LoadFault)
      → LoadStopsFor (max old.peak (old.size + count_of asked)) old.sizes old.limited new.slots fault → LoadEndsIn told replied asked.name asked.bytes fault → LoadLeaves old new (count_of asked) fault
      → LoadCountsFrom library library_now fault → AgendaSays told replied asked places old.slots new.slots old.sizes output output sink sink library library_now (load_end asked.bytes fault)
  unloaded_says new output sink library library_now (load.Queue queue_fault.NoFreeBlock) refused ended left count =
      let peak : max old.peak (old.size + count_of asked) ≡ count_of asked = omega (arith, opened.no_peak, opened.no_size) in
      let none : HasNoRoom old.sizes false (count_of asked) = subst (HasNoRoom old.sizes false) peak (subst (λ l. HasNoRoom old.sizes l (max old.peak (old.size + count_of asked))) opened.unlimited refused) in (
        λ tells files is. record { turns = 0; wrote = takes_nothing output; room = none },
        no_room-later old.sizes false false (count_of asked) (count_of asked + asked.events) some (λ h. h) (omega arith) none,
        record { sink_same = refl; library_same = count },
        left.quiet,
      )
  unloaded_says new output sink library library_now (load.Queue (queue_fault.Device number)) refused ended left count = (refused, record { sink_same = refl; library_same = count })
  unloaded_says new output sink library library_now load.Read refused ended left count = (count, refl, refl)
  unloaded_says new output sink library library_now load.Memory refused ended left count = (record { sink_same = refl; library_same = count }, refl)
  unloaded_says new output sink library library_now (load.Ended got) refused ended left count =
      (record { no_line = refl; said_is = refl; early = ended }, record { sink_same = refl; library_same = count }, refl)

  pub unloaded_ends :
      (new : Holding Triple) (output : Option (List ℕ)) (sink library library_now : ℕ) (r : Result (Unit {0}) LoadFault) (fault : LoadFault) (end : End) → r ≡ Err fault → end ≡ load_end asked.bytes fault
      → IfErr r (LoadStopsFor (max old.peak (old.size + count_of asked)) old.sizes old.limited new.slots) → IfErr r (LoadEndsIn told replied asked.name asked.bytes) → IfErr r (LoadLeaves old new (count_of asked))
      → IfErr r (LoadCountsFrom library library_now) → EndsAgenda told replied asked places old.slots new.slots old.sizes output output sink sink library library_now end
  unloaded_ends new output sink library library_now (Ok value) fault end is ends refused early left count = absurd (let no : Ok value ≡ Err fault = is in cc)
  unloaded_ends new output sink library library_now (Err e) fault end is ends refused early left count =
      let same : e ≡ fault = cc in
      let says = unloaded_says new output sink library library_now e refused early left count in
      let Says : End → Type 0 = AgendaSays told replied asked places old.slots new.slots old.sizes output output sink sink library library_now in
      record { says = subst Says (sym ends) (subst (λ f. Says (load_end asked.bytes f)) same says); part = λ tells files is. takes_none output (journal (run_of files asked places)) }

  -- the events were loaded and simulated
  module _
      (mid new : Holding Triple) (places' : List Place) (before now : Option (List ℕ)) (sink sink_now library library_now : ℕ) (loaded : HasLoaded told asked old mid)
      (keeps : Keeps mid new) (few : new.peak ≤ max mid.peak (mid.size + asked.events)) (stays : library_now ≡ library)
    where
      abbrev Left : Result Ending SimFault → Type 0
      Left result = Leaves (AllTell mid.slots) (run asked.until asked.events mid.bag places) places' mid new before now sink sink_now result

      done_says : (ending : Ending) → Left (Ok ending) → AgendaSays told replied asked places old.slots new.slots old.sizes before now sink sink_now library library_now Done
      done_says ending left = (
        λ tells files is. subst (λ (r : Run). TakesAll before now (journal r)) (loaded_run told asked old mid opened loaded places tells files is) (left.ran (loaded.keeps.tells tells)).wrote,
        record { sink_same = left.sink; library_same = stays },
        left.queue.quiet ∙ loaded.quiet,
      )

      stopped_says : (fault : SimFault) → Left (Err fault) → AgendaSays told replied asked places old.slots new.slots old.sizes before now sink sink_now library library_now (stop_end fault)
      stopped_says Write left = (left.sink, stays)
      stopped_says (Queue (queue_fault.Device number)) left = (left.queue.fault, record { sink_same = left.sink; library_same = stays })
      stopped_says (Queue queue_fault.NoFreeBlock) left =
          let none : HasNoRoom old.sizes false new.peak = lacks_room told asked old mid opened loaded new keeps left.queue in
          let size = loaded_size told asked old mid opened loaded in
          let peak = loaded_peak told asked old mid opened loaded in (
            λ tells files is.
                (let whole = run_of files asked places in
                let wrote : WroteLines whole mid.peak new.peak before now = subst (λ (r : Run). WroteLines r mid.peak new.peak before now) (loaded_run told asked old mid opened loaded places tells files is) (left.lines (loaded.keeps.tells tells)) in
                let top : new.peak ≤ greatest (count_of asked) (take wrote.turns whole.waiting) = subst (λ n. new.peak ≤ greatest n (take wrote.turns whole.waiting)) peak wrote.peak in
                record { turns = wrote.turns; wrote = wrote.wrote; room = no_room-later old.sizes false false new.peak (greatest (count_of asked) (take wrote.turns whole.waiting)) some (λ h. h) top none }),
            no_room-later old.sizes false false new.peak (count_of asked + asked.events) some (λ h. h) (omega (arith, few, size, peak)) none,
            record { sink_same = left.sink; library_same = stays },
            left.queue.sound.quiet ∙ loaded.quiet,
          )

      -- a prefix of the journal was written
      taken : (result : Result Ending SimFault) → Left result → AllTell mid.slots → TakesPart before now (journal (run asked.until asked.events mid.bag places))
      taken (Ok ending) left tells = all_is_part before now (journal (run asked.until asked.events mid.bag places)) (left.ran tells).wrote
      taken (Err fault) left tells = left.part tells

      part : (result : Result Ending SimFault) → Left result → AllTell old.slots → OfRun told asked places (λ run. TakesPart before now (journal run))
      part result left tells files is =
          subst (λ (r : Run). TakesPart before now (journal r)) (loaded_run told asked old mid opened loaded places tells files is) (taken result left (loaded.keeps.tells tells))

      pub done_ends : (result : Result Ending SimFault) (ending : Ending) → result ≡ Ok ending → Left result → EndsAgenda told replied asked places old.slots new.slots old.sizes before now sink sink_now library library_now Done
      done_ends result ending is left = record { says = done_says ending (subst Left is left); part = part result left }

      pub stopped_ends :
          (result : Result Ending SimFault) (fault : SimFault) (end : End) → result ≡ Err fault → end ≡ stop_end fault → Left result
          → EndsAgenda told replied asked places old.slots new.slots old.sizes before now sink sink_now library library_now end
      stopped_ends result fault end is ends left =
          record { says = subst (AgendaSays told replied asked places old.slots new.slots old.sizes before now sink sink_now library library_now) (sym ends) (stopped_says fault (subst Left is left)); part = part result left }
