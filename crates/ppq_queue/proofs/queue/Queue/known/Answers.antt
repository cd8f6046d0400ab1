use Rattle.std.proofs.Common.{◌≡◌, ◌+◌, ◌*◌, ◌<◌, ◌≤◌, ◌++◌, None, All, length, refl, arith, ap, ◌∙◌, subst, sym, length-append}
use Rattle.std.proofs.Math.Nat.{mul-le-mul_right, mul_comm}
use Rattle.ppq_extract.specs.ppq_outside.Shown.{AllTell}
use Rattle.ppq_extract.specs.ppq_array.Kept.{all_writes}
use Rattle.ppq_extract.specs.ppq_fetch.Fetching.{blocks_in}
use Rattle.ppq_heap.specs.Heaps.{items_of}
use Rattle.ppq_queue.specs.Resting.{slots_of, runs_bag}
use Rattle.ppq_queue.proofs.Bounds.{records_within, written, bag_length}
use Rattle.ppq_queue.proofs.Used.{uses_blocks}
use Rattle.ppq_queue.proofs.Overreads.{spent_each}
use Rattle.ppq_spill.specs.ppq_counts.Account.{too_heavy}
use Rattle.ppq_spill.specs.ppq_counts.Tally.{IsCounting, runs_of, bound_of}
use Rattle.ppq_spill.proofs.ppq_counts.Counted.{counted-bound}
use Rattle.ppq_queue.specs.Holding.{Holding, UsesBlocks, IsSpent}
use Rattle.ppq_queue.specs.Paying.{heaps_account}
use Rattle.ppq_queue.proofs.queue.Queue.known.Goals as goal

pub returns-clause-counted : goal.returns-clause-counted
returns-clause-counted g c none tell =
    let s = c.self.inside in
    let shown = g.S.Slot.shown in
    let sound = c.self.invariant.0.sound (ap (λ q. q.failed) c.self.view_is ∙ none) in
    let told = subst (λ q. AllTell q.slots) (sym c.self.view_is) tell in
    let runs = runs_bag shown g.R.Record.record_of g.R.Record.WIDTH s.store.body in
    omega (
      arith,
      ap (λ q. length q.bag) c.self.view_is,
      ap (λ q. q.size) c.self.view_is,
      length-append (items_of s.heaps ++ s.store.extract.items) runs,
      length-append (items_of s.heaps) s.store.extract.items,
      bag_length shown g.R.Ord.cmp g.R.Record.record_of g.R.Record.WIDTH s.store.sizes s.store.body s.store.supply sound.rest told,
      sound.counted,
    )

pub returns-clause-written : goal.returns-clause-written
returns-clause-written g c none =
    let s = c.self.inside in
    let shown = g.S.Slot.shown in
    let i = c.self.invariant.0.queue in
    let sound = c.self.invariant.0.sound (ap (λ q. q.failed) c.self.view_is ∙ none) in
    let slots = slots_of shown s.store.body s.store.supply in
    let within = records_within shown g.R.Ord.cmp g.R.Record.record_of g.R.Record.WIDTH s.store.sizes s.store.body s.store.supply sound.rest i.range i.budget (length (items_of s.heaps)) (length s.store.extract.items) i.in_heap i.in_extract in
    let few = written shown g.R.Ord.cmp g.R.Record.record_of g.R.Record.WIDTH s.store.sizes s.store.body s.store.supply sound.rest in
    let more : blocks_in s.store.body.runs.external.items * s.store.sizes.block ≤ all_writes slots * s.store.sizes.block = mul-le-mul_right s.store.sizes.block few in
    let turned : all_writes slots * s.store.sizes.block ≡ s.store.sizes.block * all_writes slots = mul_comm (all_writes slots) s.store.sizes.block in
    let size : s.count ≤ s.store.sizes.memory + s.store.sizes.block * all_writes slots = omega (arith, within, more, turned, sound.counted) in
    subst (λ q. q.size ≤ q.sizes.memory + q.sizes.block * all_writes q.slots) c.self.view_is size

pub returns-clause-transfers : goal.returns-clause-transfers
returns-clause-transfers g c =
    let s = c.self.inside in
    let n = s.store.sizes in
    let P : Holding g.row.R.Denot → Type 0 = λ q. IsCounting q.counts → runs_of q.sizes.workers q.counts < too_heavy → q.sizes.block * all_writes q.slots ≤ bound_of q.sizes.workers q.sizes.block q.counts in
    subst P c.self.view_is (counted-bound n.workers n.block (s.failed ≡ None) s.counts (all_writes (slots_of g.S.Slot.shown s.store.body s.store.supply)) (heaps_account g.S.Slot.shown s.heaps s.store) refl c.self.invariant.0.counted)

pub returns-clause-read : goal.returns-clause-read
returns-clause-read g c =
    let s = c.self.inside in
    subst (λ (q : Holding g.row.R.Denot). All IsSpent q.slots) c.self.view_is (spent_each (slots_of g.S.Slot.shown s.store.body s.store.supply) c.self.invariant.0.queue.overreads)

pub returns-clause-used : goal.returns-clause-used
returns-clause-used g c none =
    let s = c.self.inside in
    let stands = c.self.invariant.0 in
    let sound = stands.sound (ap (λ q. q.failed) c.self.view_is ∙ none) in
    let P : Holding g.row.R.Denot → Type 0 = λ q. UsesBlocks q in
    subst P c.self.view_is (uses_blocks g.S.Slot.shown g.R.Ord.cmp g.R.Record.record_of g.R.Record.WIDTH s.store s.heaps s.count s.peak s.failed s.limited s.counts sound)
