-- What the end of a sweep says, clause by clause.
use Rattle.std.proofs.Common.{◌≡◌, ◌⊎◌, inl, inr, ℕ, ◌≤◌, Bool, false, List, All, Option, Some, None, refl, sym, ap, ◌∙◌, subst, arith, le-ltb}
use Rattle.std.specs.Prelude.{if◌then◌else◌}
use Rattle.ppq_sweep.specs.ppq_outside.Told.{Reply, TakesAll, TakesPart}
use Rattle.ppq_sweep.specs.ppq_queue.Shown.{Shown, AllTell}
use Rattle.ppq_sweep.specs.ppq_queue.Kept.{SameSums, HasFailed, weight_at}
use Rattle.ppq_sweep.specs.ppq_queue.Holding.{IsNewSlot}
use Rattle.ppq_sweep.specs.Levels.{sweep_text}
use Rattle.ppq_engine.specs.ppq_load.ppq_budget.Sizes.{Numbers, fixed_of}
use Rattle.ppq_engine.specs.Ends.{class_of, HasSurelyRun, budget_refusal, BeganOrRefused}
use Rattle.ppq_engine.specs.Refusal.{HasNoRoom}
use Rattle.ppq_engine.specs.declared.end.End.{End}
use Rattle.ppq_engine.specs.declared.end.End.TheVariants.{Done, ReadFault, WriteFault, DeviceFault, NoFreeBlock, BudgetTooSmall, Memory, FileChanged, BadEdge}
use Rattle.ppq_engine.proofs.Slots.{new-unfailed, none-failed}
use Rattle.ppq_jobs.specs.Edges.{Wanted, edge_count, OfEdges, FindsBad, FindsNone}
use Rattle.ppq_jobs.specs.Sweeping.{GraphSays, EndsGraph}

-- A sweep ended on queues that began with the blocks that were handed in, and with the sizes of the sweep
module _
    {told : Option (List ℕ → Option (List ℕ))} {replied : Reply → Type 0} {wanted : Wanted} {held slots : List Shown} {own : Numbers} {before now : Option (List ℕ)} {sink sink_now library library_now : ℕ} {end : End}
    (first : List Shown) (sizes : Numbers) (is : held ≡ first) (same : own ≡ sizes) (ends : EndsGraph told replied wanted held slots own before now sink sink_now library library_now end)
  where
    -- what an end says of these slots
    abbrev Says : List Shown → End → Type 0
    Says some e = GraphSays told replied wanted first some sizes before now sink sink_now library library_now e

    says : Says slots end
    says =
        subst (λ (f : List Shown). GraphSays told replied wanted f slots sizes before now sink sink_now library library_now end) is
        (subst (λ (n : Numbers). GraphSays told replied wanted held slots n before now sink sink_now library library_now end) same ends.says)

    pub sweep-part : AllTell first → OfEdges told wanted (λ edges. TakesPart before now (sweep_text edges wanted.nodes))
    sweep-part = subst (λ (f : List Shown). AllTell f → OfEdges told wanted (λ edges. TakesPart before now (sweep_text edges wanted.nodes))) is ends.part

    says-is : (e : End) → end ≡ e → Says slots e
    says-is e same_end = subst (Says slots) same_end says

    pub sweep-done : end ≡ Done → AllTell first → OfEdges told wanted (λ edges. TakesAll before now (sweep_text edges wanted.nodes))
    sweep-done e = (says-is Done e).0

    pub sweep-bad : (at : ℕ) → end ≡ BadEdge at → FindsBad told replied wanted at
    sweep-bad at e = (says-is (BadEdge at) e).0

    pub sweep-good : (end ≡ Done) ⊎ (end ≡ WriteFault) → FindsNone told replied wanted
    sweep-good (inl e) = (says-is Done e).1
    sweep-good (inr e) = (says-is WriteFault e).1

    pub sweep-full : end ≡ NoFreeBlock → HasNoRoom sizes false (edge_count wanted)
    sweep-full e = (says-is NoFreeBlock e).0

    -- the same slots as they come back
    module _ (later : List Shown) (sums : SameSums slots later) where
      pub sweep-failed : (number : ℕ) → end ≡ DeviceFault number → HasFailed number later
      sweep-failed number e = let failed = (says-is (DeviceFault number) e).0 in omega (arith, failed, sums (weight_at (λ s. s.faults) number))

      -- no call of a block failed
      pub sweep-unfailed : (bytes : ℕ) → All (IsNewSlot bytes) first → (end ≡ Done) ⊎ (end ≡ NoFreeBlock) → All (λ (s : Shown). s.faults ≡ 0) later
      sweep-unfailed bytes fresh (inl e) = none-failed later (sym (sums (λ s. s.faults)) ∙ (says-is Done e).3 ∙ new-unfailed bytes first fresh)
      sweep-unfailed bytes fresh (inr e) = none-failed later (sym (sums (λ s. s.faults)) ∙ (says-is NoFreeBlock e).2 ∙ new-unfailed bytes first fresh)

    -- nothing was written but by a sweep
    nothing : (e : End) → Says slots e → HasSurelyRun (class_of e) ⊎ (now ≡ before)
    nothing Done h = inl tt
    nothing ReadFault h = inr h.2
    nothing WriteFault h = inl tt
    nothing (DeviceFault number) h = inl tt
    nothing NoFreeBlock h = inl tt
    nothing Memory h = inr h.1
    nothing (FileChanged line said got) h = inr h.2
    nothing (BadEdge at) h = inr h.2
    nothing _ h = absurd h

    pub sweep-nothing : HasSurelyRun (class_of end) ⊎ (now ≡ before)
    sweep-nothing = nothing end says

    -- the count of the sink rises with one end alone
    sink_stays : (e : End) → Says slots e → ¬ (e ≡ WriteFault) → sink_now ≡ sink
    sink_stays Done h written = h.2.sink_same
    sink_stays ReadFault h written = h.1
    sink_stays WriteFault h written = absurd (written refl)
    sink_stays (DeviceFault number) h written = h.1.sink_same
    sink_stays NoFreeBlock h written = h.1.sink_same
    sink_stays Memory h written = h.0.sink_same
    sink_stays (FileChanged line said got) h written = h.1.sink_same
    sink_stays (BadEdge at) h written = h.1.sink_same
    sink_stays _ h written = absurd h

    pub sweep-sink_stays : ¬ (end ≡ WriteFault) → sink_now ≡ sink
    sweep-sink_stays = sink_stays end says

    -- so does that of the library
    library_stays : (e : End) → Says slots e → ¬ (e ≡ ReadFault) → library_now ≡ library
    library_stays Done h read = h.2.library_same
    library_stays ReadFault h read = absurd (read refl)
    library_stays WriteFault h read = h.2
    library_stays (DeviceFault number) h read = h.1.library_same
    library_stays NoFreeBlock h read = h.1.library_same
    library_stays Memory h read = h.0.library_same
    library_stays (FileChanged line said got) h read = h.1.library_same
    library_stays (BadEdge at) h read = h.1.library_same
    library_stays _ h read = absurd h

    pub sweep-library_stays : ¬ (end ≡ ReadFault) → library_now ≡ library
    sweep-library_stays = library_stays end says

    -- of open queues an end has one of the causes that come after the beginning, or a record is no edge
    began : (e : End) → Says slots e → BeganOrRefused None e ⊎ ((at : ℕ) × (e ≡ BadEdge at))
    began Done h = inl (inl tt)
    began ReadFault h = inl (inl tt)
    began WriteFault h = inl (inl tt)
    began (DeviceFault number) h = inl (inl tt)
    began NoFreeBlock h = inl (inl tt)
    began Memory h = inl (inr refl)
    began (FileChanged line said got) h = inl (inl tt)
    began (BadEdge at) h = inr (at, refl)
    began _ h = absurd h

    pub sweep-answer : fixed_of sizes ≤ sizes.memory → BeganOrRefused (budget_refusal sizes) end ⊎ ((at : ℕ) × (end ≡ BadEdge at))
    sweep-answer enough =
        let none : budget_refusal sizes ≡ None = ap (λ (b : Bool). if b then Some (BudgetTooSmall (fixed_of sizes)) else None) (le-ltb sizes.memory (fixed_of sizes) enough) in
        let P : Option End → Type 0 = λ r. BeganOrRefused r end ⊎ ((at : ℕ) × (end ≡ BadEdge at)) in
        subst P (sym none) (began end says)
