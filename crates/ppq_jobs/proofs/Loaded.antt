-- A queue that was opened, and then loaded with the events of a file.
use Rattle.std.proofs.Common.{◌≡◌, ℕ, ◌+◌, max, false, List, ◌++◌, Option, Some, refl, ◌∙◌, subst, arith}
use Rattle.std.specs.Prelude.{Result, Ok, Err, OnOk}
use Rattle.ppq_engine.specs.ppq_load.declared.fault.LoadFault.{LoadFault}
use Rattle.ppq_event.specs.ppq_record.declared.triple.Triple.{Triple}
use Rattle.ppq_event.specs.ppq_record.Bag.{IsSameBag}
use Rattle.ppq_event.specs.ppq_handler.Roster.{Place}
use Rattle.ppq_event.specs.ppq_handler.Agenda.{run}
use Rattle.ppq_event.specs.ppq_queue.Shown.{AllTell}
use Rattle.ppq_event.specs.ppq_queue.Kept.{AreQuiet}
use Rattle.ppq_event.specs.ppq_queue.Holding.{Holding, Keeps}
use Rattle.ppq_event.specs.Waiting.{LacksBlocks}
use Rattle.ppq_engine.specs.ppq_load.ppq_budget.Sizes.{Numbers}
use Rattle.ppq_engine.specs.Refusal.{HasNoRoom}
use Rattle.ppq_jobs.specs.Asked.{Asked, count_of, events_in, run_of}
use Rattle.ppq_jobs.specs.Ending.{IsOpened}
use Rattle.ppq_jobs.proofs.Runs.{same_run, added_to_none}

-- the events of the file were added to a queue, and no call of a block failed
pub record HasLoaded (told : Option (List ℕ → Option (List ℕ))) (asked : Asked) (old mid : Holding Triple) : Type 0 where
  pub bag : AllTell old.slots → (files : List ℕ → Option (List ℕ)) → told ≡ Some files → IsSameBag mid.bag (events_in files asked.name ++ old.bag)
  pub size : mid.size ≡ old.size + count_of asked
  pub quiet : AreQuiet old.slots mid.slots
  pub peak : mid.peak ≡ max old.peak (old.size + count_of asked)
  pub keeps : Keeps old mid

-- what holds where a load was not refused
pub where_loaded : (A : Type 0) (r : Result (Unit {0}) LoadFault) → ((fault : LoadFault) → r ≡ Err fault → ⊥) → OnOk r A → A
where_loaded A (Ok value) not a = a
where_loaded A (Err fault) not a = absurd (not fault refl)

pub loaded_from :
    (told : Option (List ℕ → Option (List ℕ))) (asked : Asked) (old mid : Holding Triple) (r : Result (Unit {0}) LoadFault) → ((fault : LoadFault) → r ≡ Err fault → ⊥)
    → OnOk r (AllTell old.slots → (files : List ℕ → Option (List ℕ)) → told ≡ Some files → IsSameBag mid.bag (events_in files asked.name ++ old.bag)) → OnOk r (mid.size ≡ old.size + count_of asked)
    → OnOk r (AreQuiet old.slots mid.slots) → OnOk r (mid.peak ≡ max old.peak (old.size + count_of asked)) → Keeps old mid → HasLoaded told asked old mid
loaded_from told asked old mid (Ok value) not bag size quiet peak keeps = record { bag = bag; size = size; quiet = quiet; peak = peak; keeps = keeps }
loaded_from told asked old mid (Err fault) not bag size quiet peak keeps = absurd (not fault refl)

module _ (told : Option (List ℕ → Option (List ℕ))) (asked : Asked) (old mid : Holding Triple) (opened : IsOpened old) (loaded : HasLoaded told asked old mid) where
  -- its run is that of the file's events
  pub loaded_run :
      (places : List Place) → AllTell old.slots → (files : List ℕ → Option (List ℕ)) → told ≡ Some files → run asked.until asked.events mid.bag places ≡ run_of files asked places
  loaded_run places tells files is =
      same_run asked.until asked.events mid.bag (events_in files asked.name) places (added_to_none mid.bag (events_in files asked.name) old.bag opened.empty (loaded.bag tells files is))

  pub loaded_size : mid.size ≡ count_of asked
  loaded_size = omega (arith, loaded.size, opened.no_size)

  pub loaded_peak : mid.peak ≡ count_of asked
  loaded_peak = omega (arith, loaded.peak, opened.no_peak, opened.no_size)

  -- a later refusal is one of the queue as it was opened
  pub lacks_room : (new : Holding Triple) → Keeps mid new → LacksBlocks mid new → HasNoRoom old.sizes false new.peak
  lacks_room new keeps lacks =
      let limited : new.limited ≡ false = keeps.limited ∙ (loaded.keeps.limited ∙ opened.unlimited) in
      subst (λ (n : Numbers). HasNoRoom n false new.peak) (keeps.sizes ∙ loaded.keeps.sizes) (subst (λ l. HasNoRoom new.sizes l new.peak) limited (lacks.above, lacks.room))
