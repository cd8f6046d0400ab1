use Rattle.std.proofs.Common.{◌≡◌, ◌+◌, ◌*◌, ◌≤◌, [], ap, ◌∙◌, subst, sym, arith, refl}
use Rattle.std.proofs.Math.Nat.{mul-le-mul_right}
use Rattle.ppq_extract.specs.ppq_outside.Shown.{AllTell}
use Rattle.ppq_extract.specs.Extracted.{held}
use Rattle.ppq_spill.specs.Leveling.{MayLevel}
use Rattle.ppq_queue.specs.Stores.{LevelLeaves}
use Rattle.ppq_queue.proofs.Bounds.{blocks_few}
use Rattle.ppq_queue.proofs.Leveled.{may_level}
use Rattle.ppq_queue.proofs.Slots.{slots-no_job}
use Rattle.ppq_queue.proofs.Twice.{few_runs, twice_leaves}
use Rattle.ppq_queue.proofs.store.Store.merge_twice.Goals as goal

pub lend-list-requires-clause-room : goal.lend-list-requires-clause-room
lend-list-requires-clause-room g c =
    let works = c.requires.works in
    let n = c.args.self.now.sizes in
    let one : 1 * n.block ≤ n.workers * n.block = mul-le-mul_right n.block works.runs.range.some_worker in
    omega (arith, one, works.room, c.block.ensures.same)

pub take_back-requires-clause-some : goal.take_back-requires-clause-some
take_back-requires-clause-some g c = omega (arith, c.merge_pair-answer.ensures.batch.0, c.lend-list.ensures.count, c.block.ensures.same, c.block.ensures.range.two_records)

pub take_back-requires-clause-room : goal.take_back-requires-clause-room
take_back-requires-clause-room g c = omega (arith, c.merge_pair-answer.ensures.batch.1, c.lend-list.ensures.room, c.requires.works.room, c.batch.ensures.same)

pub merge_pair-answer-requires-clause-may : goal.merge_pair-answer-requires-clause-may
merge_pair-answer-requires-clause-may g c lives within =
    let x = c.args.self.now in
    let works = c.requires.works in
    let may = may_level g.S.Slot.shown g.R.Ord.cmp g.R.Record.record_of g.R.Record.WIDTH x.sizes x.body x.supply works.runs.rest works.runs.range works.runs.budget in
    subst (λ w. MayLevel g.S.Slot.shown g.R.Record.WIDTH w x.body.runs.external.items x.body.lanes x.supply) (sym works.workers) may

pub merge_pair-answer-requires-clause-pair : goal.merge_pair-answer-requires-clause-pair
merge_pair-answer-requires-clause-pair g c lives within =
    let rest = c.requires.works.runs.rest in
    let none = c.requires.pair.none_loaded in
    record { none_loaded = none; buffers = omega (arith, rest.buffers, none, c.requires.works.workers); no_row = c.requires.works.runs.no_row }

pub merge_pair-answer-requires-clause-room : goal.merge_pair-answer-requires-clause-room
merge_pair-answer-requires-clause-room g c lives within =
    let x = c.args.self.now in
    let rest = c.requires.works.runs.rest in
    let blocks = blocks_few g.S.Slot.shown g.R.Ord.cmp g.R.Record.record_of g.R.Record.WIDTH x.sizes x.body x.supply rest in
    omega (arith, few_runs g.S.Slot.shown g.R.Record.WIDTH x.supply.block x.body.runs.external.items rest.external c.requires.pair.none_loaded, blocks, rest.external_room)

pub merge_pair-answer-requires-clause-ascend : goal.merge_pair-answer-requires-clause-ascend
merge_pair-answer-requires-clause-ascend g c lives within =
    let x = c.args.self.now in
    let rest = c.requires.works.runs.rest in
    λ tell. (rest.rise (subst AllTell (sym (slots-no_job g.S.Slot.shown x.body x.supply rest.no_job)) tell)).external

pub returns : goal.returns
returns g c =
    let m = c.merge_pair-answer in
    let e = m.ensures in
    let x = c.args.self.now in
    let b = record (x.body) { runs = record x.body.runs { external = m.new.arrays }; lanes = m.new.lanes } in
    let src = record x.sources { bench = m.new.bench; second = m.new.other } in
    let left = twice_leaves g.S.Slot.shown g.R.Ord.cmp g.R.Record.record_of g.R.Record.WIDTH c.args.level c.requires.level m.result x b m.new.supply src x.sources.bench.workers c.requires.works c.requires.works.workers e.ends e.lanes refl refl e.rooms (ap (λ h. h.0) e.home) (ap (λ h. h.1) e.home)
    c.free_slots-free.ensures.no_row (record { workers = e.workers; bench = e.bench; places = refl }) in
    let full = c.take_back.ensures ∙ ap (λ k. held [] k) (c.batch.ensures.same ∙ sym c.requires.works.room) in
    let same = full ∙ ap (λ xs. held xs x.extract.room) (sym c.requires.pair.no_extract) in
    record {
      leaves = subst (λ e. LevelLeaves g.S.Slot.shown g.R.Ord.cmp g.R.Record.record_of g.R.Record.WIDTH c.args.level x (record x { body = b; supply = m.new.supply; sources = src; extract = e }) m.result) (sym same) left.0;
      fewer = left.1;
    }
