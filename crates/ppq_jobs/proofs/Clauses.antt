-- What an end says, clause by clause.
use Rattle.std.proofs.Common.{◌≡◌, ◌⊎◌, inl, inr, ℕ, ◌≤◌, Bool, List, All, Option, Some, None, refl, sym, ap, ◌∙◌, subst, arith, le-ltb}
use Rattle.std.specs.Prelude.{if◌then◌else◌}
use Rattle.ppq_event.specs.ppq_outside.Told.{Reply, TakesAll, TakesPart}
use Rattle.ppq_event.specs.ppq_queue.Shown.{Shown, AllTell}
use Rattle.ppq_event.specs.ppq_queue.Kept.{SameSums, HasFailed, weight_at}
use Rattle.ppq_event.specs.ppq_queue.Holding.{IsNewSlot}
use Rattle.ppq_event.specs.ppq_handler.Roster.{Place}
use Rattle.ppq_event.specs.ppq_handler.Agenda.{journal}
use Rattle.ppq_engine.specs.ppq_load.ppq_budget.Sizes.{Numbers, fixed_of}
use Rattle.ppq_engine.specs.Ends.{class_of, HasSurelyRun, budget_refusal, BeganOrRefused}
use Rattle.ppq_engine.specs.declared.end.End.{End}
use Rattle.ppq_engine.specs.declared.end.End.TheVariants.{Done, ReadFault, WriteFault, DeviceFault, NoFreeBlock, BudgetTooSmall, Memory, FileChanged}
use Rattle.ppq_engine.proofs.Slots.{new-unfailed, none-failed}
use Rattle.ppq_jobs.specs.Asked.{Asked, count_of, OfRun}
use Rattle.ppq_jobs.specs.Ending.{RanOut, AgendaSays, EndsAgenda}

-- A run ended on a queue that began with the blocks that were handed in, and with the sizes of the run
module _
    {told : Option (List ℕ → Option (List ℕ))} {replied : Reply → Type 0} {asked : Asked} {places : List Place} {held slots : List Shown} {own : Numbers} {before now : Option (List ℕ)} {sink sink_now library library_now : ℕ} {end : End}
    (first : List Shown) (sizes : Numbers) (is : held ≡ first) (same : own ≡ sizes) (ends : EndsAgenda told replied asked places held slots own before now sink sink_now library library_now end)
  where
    -- what an end says of these slots
    abbrev Says : List Shown → End → Type 0
    Says some e = AgendaSays told replied asked places first some sizes before now sink sink_now library library_now e

    says : Says slots end
    says =
        subst (λ (f : List Shown). AgendaSays told replied asked places f slots sizes before now sink sink_now library library_now end) is
        (subst (λ (n : Numbers). AgendaSays told replied asked places held slots n before now sink sink_now library library_now end) same ends.says)

    pub end-part : AllTell first → OfRun told asked places (λ run. TakesPart before now (journal run))
    end-part = subst (λ (f : List Shown). AllTell f → OfRun told asked places (λ run. TakesPart before now (journal run))) is ends.part

    -- the same slots as they come back
    module _ (later : List Shown) (sums : SameSums slots later) where
      says-later : (e : End) → Says slots e → Says later e
      says-later Done h = (h.0, h.1, sym (sums (λ s. s.faults)) ∙ h.2)
      says-later NoFreeBlock h = (h.0, h.1, h.2, sym (sums (λ s. s.faults)) ∙ h.3)
      says-later (DeviceFault number) h = (omega (arith, h.0, sums (weight_at (λ s. s.faults) number)), h.1)
      says-later _ h = h

      says-is : (wanted : End) → end ≡ wanted → Says later wanted
      says-is wanted e = subst (Says later) e (says-later end says)

      pub end-done : end ≡ Done → AllTell first → OfRun told asked places (λ run. TakesAll before now (journal run))
      end-done e = (says-is Done e).0

      pub end-full : end ≡ NoFreeBlock → AllTell first → OfRun told asked places (λ run. RanOut sizes (count_of asked) run before now)
      end-full e = (says-is NoFreeBlock e).0

      pub end-failed : (number : ℕ) → end ≡ DeviceFault number → HasFailed number later
      end-failed number e = (says-is (DeviceFault number) e).0

      -- no call of a block failed
      pub end-unfailed : (bytes : ℕ) → All (IsNewSlot bytes) first → (end ≡ Done) ⊎ (end ≡ NoFreeBlock) → All (λ (s : Shown). s.faults ≡ 0) later
      end-unfailed bytes fresh (inl e) = none-failed later ((says-is Done e).2 ∙ new-unfailed bytes first fresh)
      end-unfailed bytes fresh (inr e) = none-failed later ((says-is NoFreeBlock e).3 ∙ new-unfailed bytes first fresh)

    -- nothing was written but by a simulation
    nothing : (e : End) → Says slots e → HasSurelyRun (class_of e) ⊎ (now ≡ before)
    nothing Done h = inl tt
    nothing ReadFault h = inr h.2
    nothing WriteFault h = inl tt
    nothing (DeviceFault number) h = inl tt
    nothing NoFreeBlock h = inl tt
    nothing Memory h = inr h.1
    nothing (FileChanged line said got) h = inr h.2
    nothing _ h = absurd h

    pub end-nothing : HasSurelyRun (class_of end) ⊎ (now ≡ before)
    end-nothing = nothing end says

    -- the count of the sink rises with one end alone
    sink_stays : (e : End) → Says slots e → ¬ (e ≡ WriteFault) → sink_now ≡ sink
    sink_stays Done h written = h.1.sink_same
    sink_stays ReadFault h written = h.1
    sink_stays WriteFault h written = absurd (written refl)
    sink_stays (DeviceFault number) h written = h.1.sink_same
    sink_stays NoFreeBlock h written = h.2.sink_same
    sink_stays Memory h written = h.0.sink_same
    sink_stays (FileChanged line said got) h written = h.1.sink_same
    sink_stays _ h written = absurd h

    pub end-sink_stays : ¬ (end ≡ WriteFault) → sink_now ≡ sink
    end-sink_stays = sink_stays end says

    -- so does that of the library
    library_stays : (e : End) → Says slots e → ¬ (e ≡ ReadFault) → library_now ≡ library
    library_stays Done h read = h.1.library_same
    library_stays ReadFault h read = absurd (read refl)
    library_stays WriteFault h read = h.1
    library_stays (DeviceFault number) h read = h.1.library_same
    library_stays NoFreeBlock h read = h.2.library_same
    library_stays Memory h read = h.0.library_same
    library_stays (FileChanged line said got) h read = h.1.library_same
    library_stays _ h read = absurd h

    pub end-library_stays : ¬ (end ≡ ReadFault) → library_now ≡ library
    end-library_stays = library_stays end says

    -- of an open queue an end has one of the causes that come after the beginning
    began : (e : End) → Says slots e → BeganOrRefused None e
    began Done h = inl tt
    began ReadFault h = inl tt
    began WriteFault h = inl tt
    began (DeviceFault number) h = inl tt
    began NoFreeBlock h = inl tt
    began Memory h = inr refl
    began (FileChanged line said got) h = inl tt
    began _ h = absurd h

    pub end-answer : fixed_of sizes ≤ sizes.memory → BeganOrRefused (budget_refusal sizes) end
    end-answer enough =
        let none : budget_refusal sizes ≡ None = ap (λ (b : Bool). if b then Some (BudgetTooSmall (fixed_of sizes)) else None) (le-ltb sizes.memory (fixed_of sizes) enough) in
        let P : Option End → Type 0 = λ r. BeganOrRefused r end in
        subst P (sym none) (began end says)
