-- What two merges of a level side by side leave of a store.
use Rattle.std.proofs.Common.{◌≡◌, ℕ, ◌+◌, ◌-◌, ◌*◌, ◌<◌, ◌≤◌, List, [], ◌∷◌, ◌++◌, length, length-append, sum_by, All, refl, sym, ap, ◌∙◌, subst, arith}
use Rattle.std.specs.Prelude.{Result, Ok, Err, OnOk, ⊤, Vec, vec_capacity}
use Rattle.std.specs.declared.cmp.Ordering.{Ordering}
use Rattle.std.proofs.lemmas.List.Sums.{sum_by-cons}
use Rattle.std.proofs.lemmas.List.Sorted.{length_permutation}
use Rattle.std.proofs.lemmas.List.Elements.{All-head, All-tail, All-nil, All-cons}
use Rattle.ppq_extract.specs.ppq_outside.Shown.{Shown}
use Rattle.ppq_extract.specs.ppq_lane.declared.lanes.Lanes.{Lanes}
use Rattle.ppq_extract.specs.ppq_array.declared.berth.DeviceBlock.{DeviceBlock}
use Rattle.ppq_extract.specs.ppq_array.declared.store_fault.StoreFault.{StoreFault}
use Rattle.ppq_extract.specs.ppq_array.declared.store_fault.StoreFault.TheVariants.{NoFreeBlock, Device}
use Rattle.ppq_extract.specs.ppq_array.External.{External, size_of}
use Rattle.ppq_extract.specs.ppq_array.Run.{buffers_of}
use Rattle.ppq_extract.specs.ppq_array.Supply.{Stock}
use Rattle.ppq_extract.specs.ppq_array.Kept.{HasFailed}
use Rattle.ppq_extract.specs.ppq_array.Holdings.{external_buffers}
use Rattle.ppq_extract.specs.ppq_fetch.Fetching.{blocks_in, fronts_in}
use Rattle.ppq_extract.specs.Extracted.{SourcesRest}
use Rattle.ppq_extract.specs.declared.sources.Sources.{Sources}
use Rattle.ppq_spill.specs.Leveling.{LanesStay, LevelMerged}
use Rattle.ppq_spill.specs.Making.{HasNothing}
use Rattle.ppq_spill.specs.Pairing.{LevelStep, PairMerged, PairEnds}
use Rattle.ppq_spill.specs.declared.body.PassBody.{PassBody}
use Rattle.ppq_spill.proofs.Leveled.{count_none}
use Rattle.ppq_queue.specs.Resting.{IsRestingArray}
use Rattle.ppq_queue.specs.Stores.{MayWork, LevelLeaves}
use Rattle.ppq_queue.specs.declared.store.Store.{Store}
use Rattle.ppq_queue.proofs.Leveled.{kept-leveled, moved-leveled, fewer-leveled, lower-leveled}
use Rattle.ppq_queue.proofs.Slots.{slots-no_job}
use Rattle.ppq_queue.proofs.Paying.{pays-leveled}
use Rattle.ppq_queue.proofs.Stores.{done, same-sources, stays-step, holds-runs, levels-on}

module _ {S R : Type 0} (shown : S → Shown) where
  -- a run of which nothing is loaded has a block
  stored_some : (a : External S R) (bs : List (DeviceBlock S R)) → a.stored ≡ bs → 0 < size_of a → a.lifted ≡ [] → length (buffers_of a.loaded) ≡ 0 → 1 ≤ length a.stored
  stored_some a [] is some lifted none =
      let empty : buffers_of a.loaded ≡ [] = no_element (buffers_of a.loaded) none in
      let nothing : HasNothing a = record { stored = is; loaded = empty } in
      absurd (omega (arith, some, count_none (a ∷ []) (All-cons HasNothing a [] nothing (All-nil HasNothing)) (lifted, tt), sum_by-cons size_of a []))
    where
      no_element : {X : Type 0} (xs : List X) → length xs ≡ 0 → xs ≡ []
      no_element [] e = refl
      no_element (x ∷ xs) e = absurd (omega (arith, e))
  stored_some a (b ∷ bs) is some lifted none = omega (arith, ap length is)

  -- so there are no more such runs than blocks
  pub few_runs : (width block : ℕ) (xs : List (External S R)) → All (IsRestingArray shown width block) xs → external_buffers xs ≡ 0 → length xs ≤ blocks_in xs
  few_runs width block [] rest none = omega arith
  few_runs width block (x ∷ xs) rest none =
      let buf : External S R → ℕ = λ a. length (buffers_of a.loaded) in
      let here = All-head (IsRestingArray shown width block) x xs rest in
      let sums = sum_by-cons buf x xs in
      omega (
        arith,
        stored_some x x.stored refl here.some here.lifted (omega (arith, none, sums)),
        few_runs width block xs (All-tail (IsRestingArray shown width block) x xs rest) (omega (arith, none, sums)),
        sum_by-cons (λ (a : External S R). length a.stored) x xs,
      )

  module _ (cmp : R → R → Ordering) (record_of : List ℕ → R) (width level : ℕ) (at_most : level ≤ 7) where
    -- a list of runs in place of another, with the same room
    abbrev with_runs : {Z : Type 0} (v : Vec (External S R) Z) (xs : List (External S R)) → length xs ≤ v.len → Vec (External S R) Z
    with_runs v xs few = record { ptr = v.ptr; len = length xs; cap = v.cap; alloc = v.alloc; items = xs; ok = (refl, omega (arith, few, v.ok.1)); small = v.small }

    -- a merge leaves fewer runs
    merged_fewer : (old new : List (External S R)) (s t : Stock) → LevelMerged cmp record_of width shown level old new s t → length new < length old
    merged_fewer old new s t m = omega (arith, length_permutation old (m.others ++ m.inputs) m.of.parted, length-append m.others m.inputs, m.of.eight, ap length m.arrays, length-append m.others (m.made ∷ []))

    -- one of the two merges
    step_leaves :
        (x : Store S R) (b : PassBody S R) (t : Stock) (src : Sources R) (workers : ℕ) → MayWork shown cmp record_of width x → workers ≡ x.sizes.workers
        → LevelStep cmp record_of width shown level workers x.body.runs.external.items b.runs.external.items x.body.lanes b.lanes x.supply t → LanesStay x.body.lanes b.lanes → b.runs.internal ≡ x.body.runs.internal → b.tree ≡ x.body.tree
        → vec_capacity b.runs.external ≡ vec_capacity x.body.runs.external → t.sure_buffers + t.buffer_room ≡ x.supply.sure_buffers + x.supply.buffer_room → t.drawn ≡ [] → SourcesRest x.sources src
        → LevelLeaves shown cmp record_of width level x (record x { body = b; supply = t; sources = src }) done × (length b.runs.external.items < length x.body.runs.external.items)
    step_leaves x b t src workers works same step lanes int tree rooms home no_row' rests =
        let rest = works.runs.rest in
        let n = x.sizes in
        let a = x.body in
        let s = x.supply in
        let no_row = works.runs.no_row in
        let kept = kept-leveled shown a b s t step.kept step.tells step.calls.calls.stay lanes rest.no_job int tree rooms step.slots home no_row no_row' in
        let bounded : external_buffers b.runs.external.items ≤ fronts_in b.runs.external.items + n.workers = omega (arith, step.again.bounded, same) in
        let moved = moved-leveled shown cmp record_of width n a b s t rest kept step.size lanes int step.merged.buffers level at_most step.merged no_row no_row' bounded in
        let holds = holds-runs x b t works kept no_row' src rests moved in (
          record {
            levels = record {
              leaves = record { stays = stays-step x b t src kept no_row' rests; holds = holds; refused = tt };
              internal = int;
              crowded = λ err. absurd (cc);
              pays = pays-leveled shown n a b s t rest.block no_row no_row' done rest.no_job lanes.no_job (ap (λ v. v.items) int) step.counted;
            };
            lower = lower-leveled cmp record_of width shown level a.runs.external.items b.runs.external.items s t at_most step.merged;
          },
          fewer-leveled shown cmp record_of width n a b s t rest kept step.size lanes int step.merged.buffers level at_most step.merged,
        )

    -- both
    both_leave :
        (x : Store S R) (b : PassBody S R) (t : Stock) (src : Sources R) (workers : ℕ) → MayWork shown cmp record_of width x → workers ≡ x.sizes.workers
        → PairMerged cmp record_of width shown level workers x.body.runs.external.items b.runs.external.items x.body.lanes b.lanes x.supply t → LanesStay x.body.lanes b.lanes → b.runs.internal ≡ x.body.runs.internal → b.tree ≡ x.body.tree
        → vec_capacity b.runs.external ≡ vec_capacity x.body.runs.external → t.sure_buffers + t.buffer_room ≡ x.supply.sure_buffers + x.supply.buffer_room → t.drawn ≡ [] → SourcesRest x.sources src
        → LevelLeaves shown cmp record_of width level x (record x { body = b; supply = t; sources = src }) done × (length b.runs.external.items < length x.body.runs.external.items)
    both_leave x b t src workers works same p lanes int tree rooms home no_row' rests =
        let a = x.body in
        let fewer : length p.mid ≤ a.runs.external.len = omega (arith, a.runs.external.ok.0, merged_fewer a.runs.external.items p.mid x.supply p.mid_stock p.first.merged) in
        let runs = record a.runs { external = with_runs a.runs.external p.mid fewer } in
        let mid = record a { runs = runs; lanes = p.mid_lanes } in
        let y = record x { body = mid; supply = p.mid_stock } in
        let one = step_leaves x mid p.mid_stock x.sources workers works same p.first p.lanes_stay refl refl refl (p.buffers ∙ home) p.no_row same-sources in
        let works' = one.0.levels.leaves.holds.works in
        let two = step_leaves y b t src workers works' same p.second (record { no_job = lanes.no_job; batch = lanes.batch ∙ sym p.lanes_stay.batch; room = lanes.room ∙ sym p.lanes_stay.room }) int tree rooms (sym p.buffers) no_row' rests in
        (record { levels = levels-on one.0.levels two.0.levels; lower = λ j h. two.0.lower j h ∙ one.0.lower j h }, omega (arith, one.1, two.1))

    -- however they ended
    pub twice_leaves :
        (r : Result ⊤ StoreFault) (x : Store S R) (b : PassBody S R) (t : Stock) (src : Sources R) (workers : ℕ) → MayWork shown cmp record_of width x → workers ≡ x.sizes.workers
        → PairEnds cmp record_of width shown level workers r x.body.runs.external.items b.runs.external.items x.body.lanes b.lanes x.supply t → LanesStay x.body.lanes b.lanes → b.runs.internal ≡ x.body.runs.internal → b.tree ≡ x.body.tree
        → vec_capacity b.runs.external ≡ vec_capacity x.body.runs.external → length t.kept + t.slot_room ≡ length x.supply.kept + x.supply.slot_room → t.sure_buffers + t.buffer_room ≡ x.supply.sure_buffers + x.supply.buffer_room → t.drawn ≡ []
        → SourcesRest x.sources src → LevelLeaves shown cmp record_of width level x (record x { body = b; supply = t; sources = src }) r × OnOk r (length b.runs.external.items < length x.body.runs.external.items)
    twice_leaves (Ok v) x b t src workers works same ends lanes int tree rooms slots home no_row' rests = both_leave x b t src workers works same ends lanes int tree rooms home no_row' rests
    twice_leaves (Err NoFreeBlock) x b t src workers works same ends lanes int tree rooms slots home no_row' rests = absurd ends
    twice_leaves (Err (Device number)) x b t src workers works same ends lanes int tree rooms slots home no_row' rests =
        let p = ends.0 in
        let rest = works.runs.rest in
        let kept = kept-leveled shown x.body b x.supply t p.kept p.tells p.stay lanes rest.no_job int tree rooms slots home works.runs.no_row no_row' in (
          record {
            levels = record {
              leaves = record { stays = stays-step x b t src kept no_row' rests; holds = tt; refused = subst (HasFailed number) (sym (slots-no_job shown b t lanes.no_job)) ends.1 };
              internal = int;
              crowded = λ err. absurd (cc);
              pays = pays-leveled shown x.sizes x.body b x.supply t rest.block works.runs.no_row no_row' (Err (Device number)) rest.no_job lanes.no_job (ap (λ v. v.items) int) p.counted;
            };
            lower = tt;
          },
          tt,
        )
