-- What the end of a sweep says, by the call that it came from.
use Rattle.std.proofs.Common.{◌≡◌, inl, inr, ℕ, ◌+◌, ◌^◌, ◌<◌, ◌≤◌, max, false, List, [], ◌++◌, Option, Some, refl, sym, ◌∙◌, subst, arith, append-nil}
use Rattle.std.specs.Prelude.{Result, Ok, Err, OnOk, IfErr}
use Rattle.ppq_sweep.specs.ppq_record.declared.pair.Pair.{Pair}
use Rattle.ppq_sweep.specs.ppq_record.Bag.{IsSameBag}
use Rattle.ppq_sweep.specs.ppq_outside.Told.{Reply, TakesAll, TakesPart}
use Rattle.ppq_sweep.specs.ppq_queue.Shown.{Shown, AllTell, Tells}
use Rattle.ppq_sweep.specs.ppq_queue.Kept.{AreQuiet}
use Rattle.ppq_sweep.specs.ppq_queue.Holding.{Holding, Keeps}
use Rattle.ppq_sweep.specs.Levels.{sweep_text}
use Rattle.ppq_sweep.specs.Queues.{HoldsEdges, LacksBlocks, OneRefuses, QueuesAfter}
use Rattle.ppq_sweep.specs.Swept.{SinkAfter}
use Rattle.ppq_sweep.specs.declared.fault.SweepFault.{SweepFault}
use Rattle.ppq_sweep.specs.declared.fault.SweepFault.TheVariants.{Write, Queue}
use Rattle.ppq_sweep.proofs.Meaning.{edges-same, text-same}
use Rattle.ppq_event.proofs.ppq_queue.ppq_outside.Takes.{all_is_part}
use Rattle.ppq_engine.specs.ppq_array.declared.store_fault.StoreFault.{StoreFault as QueueFault}
use Rattle.ppq_engine.specs.ppq_array.declared.store_fault.StoreFault.TheVariants.{NoFreeBlock, Device}
use Rattle.ppq_engine.specs.ppq_load.ppq_budget.Sizes.{Numbers}
use Rattle.ppq_engine.specs.ppq_load.Loading.{LoadCountsFrom}
use Rattle.ppq_engine.specs.ppq_load.declared.fault.LoadFault.{LoadFault}
use Rattle.ppq_engine.specs.ppq_load.declared.fault.LoadFault.TheVariants as load
use Rattle.ppq_engine.specs.Refusal.{HasNoRoom}
use Rattle.ppq_engine.specs.declared.end.End.{End}
use Rattle.ppq_engine.specs.declared.end.End.TheVariants.{Done, BadEdge}
use Rattle.ppq_engine.proofs.ppq_load.Refusals.{no_room-later}
use Rattle.ppq_engine.proofs.Running.{takes_none}
use Rattle.ppq_jobs.specs.Edges.{Wanted, edge_count, edges_in, OfEdges, FindsBad}
use Rattle.ppq_jobs.specs.Ending.{load_end, IsOpened}
use Rattle.ppq_jobs.specs.Loading.{HasLoadedEdges, RefusesEdges}
use Rattle.ppq_jobs.specs.Sweeping.{swept_end, GraphSays, EndsGraph}
use Rattle.ppq_jobs.proofs.BothSlots.{all-first, all-second, quiet-both, failed-first, failed-second}
use Rattle.ppq_jobs.proofs.FirstBad.{none-edges}

-- the count of a sink did not fall
pub sink_later : {T : Type 0} (before now : ℕ) (r : Result T SweepFault) → before < 2 ^ 64 → SinkAfter before now r → before ≤ now
sink_later before now (Ok value) fits after = omega (arith, after)
sink_later before now (Err Write) fits after = omega (arith, after)
sink_later before now (Err (Queue fault)) fits after = omega (arith, after)

-- a multiset that was added to none
added_to_none : (bag records none : List Pair) → none ≡ [] → IsSameBag bag (records ++ none) → IsSameBag bag records
added_to_none bag records none is same = subst (IsSameBag bag) (append-nil records) (subst (λ b. IsSameBag bag (records ++ b)) is same)

module _ (told : Option (List ℕ → Option (List ℕ))) (replied : Reply → Type 0) (wanted : Wanted) (edges notes : Holding Pair) (opened : IsOpened edges) where
  abbrev first : List Shown
  first = edges.slots ++ notes.slots

  -- the edges were not loaded: nothing was written
  module _ (new : Holding Pair) (output : Option (List ℕ)) (sink library library_now : ℕ) where
    abbrev SaysUnwritten : End → Type 0
    SaysUnwritten = GraphSays told replied wanted first (new.slots ++ notes.slots) edges.sizes output output sink sink library library_now

    unwritten : (end : End) → SaysUnwritten end → EndsGraph told replied wanted first (new.slots ++ notes.slots) edges.sizes output output sink sink library library_now end
    unwritten end says = record { says = says; part = λ tells files is. takes_none output (sweep_text (edges_in files wanted.name) wanted.nodes) }

    -- a record is no edge
    pub bad_ends : (at : ℕ) → FindsBad told replied wanted at → library_now ≡ library → EndsGraph told replied wanted first (new.slots ++ notes.slots) edges.sizes output output sink sink library library_now (BadEdge at)
    bad_ends at bad stays = unwritten (BadEdge at) (bad, record { sink_same = refl; library_same = stays }, refl)

    unloaded_says : (fault : LoadFault) → RefusesEdges told replied wanted edges new fault → LoadCountsFrom library library_now fault → SaysUnwritten (load_end wanted.bytes fault)
    unloaded_says (load.Queue NoFreeBlock) refused count =
        let peak : max edges.peak (edges.size + edge_count wanted) ≡ edge_count wanted = omega (arith, opened.no_peak, opened.no_size) in (
          subst (HasNoRoom edges.sizes false) peak (subst (λ l. HasNoRoom edges.sizes l (max edges.peak (edges.size + edge_count wanted))) opened.unlimited refused.stops),
          record { sink_same = refl; library_same = count },
          quiet-both edges.slots notes.slots new.slots notes.slots refused.left.quiet refl,
        )
    unloaded_says (load.Queue (Device number)) refused count = (failed-first number new.slots notes.slots refused.stops, record { sink_same = refl; library_same = count })
    unloaded_says load.Read refused count = (count, refl, refl)
    unloaded_says load.Memory refused count = (record { sink_same = refl; library_same = count }, refl)
    unloaded_says (load.Ended got) refused count = (record { no_line = refl; said_is = refl; early = refused.ended }, record { sink_same = refl; library_same = count }, refl)

    pub unloaded_ends :
        (fault : LoadFault) (end : End) → end ≡ load_end wanted.bytes fault → RefusesEdges told replied wanted edges new fault → LoadCountsFrom library library_now fault
        → EndsGraph told replied wanted first (new.slots ++ notes.slots) edges.sizes output output sink sink library library_now end
    unloaded_ends fault end is refused count = unwritten end (subst SaysUnwritten (sym is) (unloaded_says fault refused count))

  -- the edges were loaded
  module _ (mid : Holding Pair) (loaded : HasLoadedEdges told replied wanted edges mid) (kept : Keeps edges mid) where
    loaded_size : mid.size ≡ edge_count wanted
    loaded_size = omega (arith, loaded.size, opened.no_size)

    loaded_peak : mid.peak ≡ edge_count wanted
    loaded_peak = omega (arith, loaded.peak, opened.no_peak, opened.no_size)

    module _ (tells : AllTell first) (files : List ℕ → Option (List ℕ)) (is : told ≡ Some files) where
      tells_edges : AllTell edges.slots
      tells_edges = all-first Tells edges.slots notes.slots tells

      same_bag : IsSameBag mid.bag (edges_in files wanted.name)
      same_bag = added_to_none mid.bag (edges_in files wanted.name) edges.bag opened.empty (loaded.bag tells_edges files is)

      -- the queue holds those of the file
      holds : HoldsEdges wanted.nodes mid
      holds = record {
        tell = kept.tells tells_edges;
        edges = edges-same wanted.nodes (edges_in files wanted.name) mid.bag (λ p. sym (same_bag p)) (none-edges wanted.nodes 1 (edges_in files wanted.name) (loaded.good.told_good files is));
      }

      -- and what is printed of them is the same
      same_text : sweep_text mid.bag wanted.nodes ≡ sweep_text (edges_in files wanted.name) wanted.nodes
      same_text = text-same wanted.nodes mid.bag (edges_in files wanted.name) same_bag

    -- and then swept over
    module _
        (some : 0 < edges.sizes.block) (opened' : IsOpened notes) (sizes : notes.sizes ≡ edges.sizes) (edges' notes' : Holding Pair) (edges_keep : Keeps mid edges') (notes_keep : Keeps notes notes')
        (edges_peak : edges'.peak ≡ mid.peak) (notes_peak : notes'.peak ≤ max notes.peak mid.size) (before now : Option (List ℕ)) (sink sink_now library library_now : ℕ) (stays : library_now ≡ library)
      where
        abbrev Says : End → Type 0
        Says = GraphSays told replied wanted first (edges'.slots ++ notes'.slots) edges.sizes before now sink sink_now library library_now

        -- one of the queues lacks blocks: so does a device that is to hold all edges
        lacks_room : (old new : Holding Pair) → LacksBlocks old new → new.sizes ≡ edges.sizes → new.limited ≡ false → new.peak ≤ edge_count wanted → HasNoRoom edges.sizes false (edge_count wanted)
        lacks_room old new lacks same unlimited few =
            no_room-later edges.sizes false false new.peak (edge_count wanted) some (λ h. h) few
            (subst (λ (n : Numbers). HasNoRoom n false new.peak) same (subst (λ l. HasNoRoom new.sizes l new.peak) unlimited (lacks.above, lacks.room)))

        edges_lack : LacksBlocks mid edges' → HasNoRoom edges.sizes false (edge_count wanted)
        edges_lack lacks = lacks_room mid edges' lacks (edges_keep.sizes ∙ kept.sizes) (edges_keep.limited ∙ (kept.limited ∙ opened.unlimited)) (omega (arith, edges_peak, loaded_peak))

        notes_lack : LacksBlocks notes notes' → HasNoRoom edges.sizes false (edge_count wanted)
        notes_lack lacks = lacks_room notes notes' lacks (notes_keep.sizes ∙ sizes) (notes_keep.limited ∙ opened'.unlimited) (omega (arith, notes_peak, opened'.no_peak, loaded_size))

        -- no call of a block failed
        quiet : AreQuiet mid.slots edges'.slots → AreQuiet notes.slots notes'.slots → AreQuiet first (edges'.slots ++ notes'.slots)
        quiet one other = quiet-both edges.slots notes.slots edges'.slots notes'.slots (one ∙ loaded.quiet) other

        refused_says : (fault : QueueFault) → OneRefuses mid edges' notes notes' fault → sink_now ≡ sink → Says (swept_end (Queue fault))
        refused_says NoFreeBlock (inl one) same = (edges_lack one.0, record { sink_same = same; library_same = stays }, quiet one.0.quiet one.1)
        refused_says NoFreeBlock (inr other) same = (notes_lack other.1, record { sink_same = same; library_same = stays }, quiet other.0 other.1.quiet)
        refused_says (Device number) (inl one) same = (failed-first number edges'.slots notes'.slots one.0.fault, record { sink_same = same; library_same = stays })
        refused_says (Device number) (inr other) same = (failed-second number edges'.slots notes'.slots other.1.fault, record { sink_same = same; library_same = stays })

        swept_says : (fault : SweepFault) → QueuesAfter {T = Unit {0}} mid edges' notes notes' (Err fault) → SinkAfter {T = Unit {0}} sink sink_now (Err fault) → Says (swept_end fault)
        swept_says Write queues after = (after, loaded.good, stays)
        swept_says (Queue fault) queues after = refused_says fault queues after

        -- what was written, if both queues tell
        abbrev Done' : Result (Unit {0}) SweepFault → Type 0
        Done' result = OnOk result (HoldsEdges wanted.nodes mid → AllTell notes.slots → TakesAll before now (sweep_text mid.bag wanted.nodes))

        abbrev Part : Result (Unit {0}) SweepFault → Type 0
        Part result = IfErr result (λ fault. HoldsEdges wanted.nodes mid → AllTell notes.slots → TakesPart before now (sweep_text mid.bag wanted.nodes))

        tells_notes : AllTell first → AllTell notes.slots
        tells_notes = all-second Tells edges.slots notes.slots

        pub done_ends :
            (result : Result (Unit {0}) SweepFault) (value : Unit {0}) → result ≡ Ok value → Done' result → QueuesAfter mid edges' notes notes' result → SinkAfter sink sink_now result
            → EndsGraph told replied wanted first (edges'.slots ++ notes'.slots) edges.sizes before now sink sink_now library library_now Done
        done_ends (Ok value) given is done queues after =
            let all : AllTell first → OfEdges told wanted (λ es. TakesAll before now (sweep_text es wanted.nodes)) = λ tells files told_is. subst (TakesAll before now) (same_text tells files told_is) (done (holds tells files told_is) (tells_notes tells)) in
            record {
              says = (all, loaded.good, record { sink_same = after; library_same = stays }, quiet queues.0 queues.1);
              part = λ tells files told_is. all_is_part before now (sweep_text (edges_in files wanted.name) wanted.nodes) (all tells files told_is);
            }
        done_ends (Err fault) given is done queues after = absurd (let no : Err fault ≡ Ok given = is in cc)

        pub swept_ends :
            (result : Result (Unit {0}) SweepFault) (fault : SweepFault) (end : End) → result ≡ Err fault → end ≡ swept_end fault → Part result → QueuesAfter mid edges' notes notes' result → SinkAfter sink sink_now result
            → EndsGraph told replied wanted first (edges'.slots ++ notes'.slots) edges.sizes before now sink sink_now library library_now end
        swept_ends (Ok value) fault end is ends part queues after = absurd (let no : Ok value ≡ Err fault = is in cc)
        swept_ends (Err e) fault end is ends part queues after =
            let same : e ≡ fault = cc in
            record {
              says = subst Says (sym ends) (subst (λ f. Says (swept_end f)) same (swept_says e queues after));
              part = λ tells files told_is. subst (TakesPart before now) (same_text tells files told_is) (part (holds tells files told_is) (tells_notes tells));
            }
