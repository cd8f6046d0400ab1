use Rattle.std.proofs.Common.{◌≡◌, suc, ◌+◌, ◌*◌, ◌<◌, ◌∷◌, [], All, length, drop, min, refl, sym, ap, ◌∙◌, subst, arith, length-append}
use Rattle.std.proofs.lemmas.List.Elements.{All-head}
use Rattle.ppq_fetch.proofs.ppq_record.Fronts.{ranks}
use Rattle.ppq_fetch.specs.ppq_array.Owner.{slots_shown, HasBlock, HasSlot}
use Rattle.ppq_fetch.specs.ppq_array.Holdings.{internal_items}
use Rattle.ppq_fetch.proofs.ppq_array.Noted.{all_right}
use Rattle.ppq_spill.specs.Writing.{Writing, MergedOut, left_in, block_in}
use Rattle.ppq_spill.proofs.Keeping.{slots_long}
use Rattle.ppq_spill.proofs.Idle.{rests_on}
use Rattle.ppq_spill.proofs.Writings.{Writing-none, Writing-more, write_failed, some_out, rest_none}
use Rattle.ppq_spill.proofs.writing.write_runs.Goals as goal

pub loop-berth-init : goal.loop-berth-init
loop-berth-init g c =
    let may = c.requires.may in
    let making = c.args.making.now in
    record {
      writing = Writing-none g.R.Ord.cmp g.R.Record.record_of g.R.Record.WIDTH (block_in c.args.body.now.lanes.idle) g.S.Slot.shown making.berths c.args.body.now.runs.internal.items c.args.sorted.now making.made may.empty may.sizes may.room may.least;
      ready = record { within = omega arith; leaves = omega (arith, may.leaves, c.write_heads.ensures.leaves); heads = rw c.deref.ensures.value at c.write_heads.ensures.heads };
      rests = record {
        leaves = c.write_heads.ensures.leaves;
        idle = record { long = refl; blocks = may.blocks };
        no_job = may.no_job;
        job_room = refl;
        batch = refl;
        internal_room = refl;
        external = refl;
      };
    }

pub write_block-buf-requires-clause-may : goal.write_block-buf-requires-clause-may
write_block-buf-requires-clause-may g c κs within =
    let i = c.loop-berth.invariant in
    let block = block_in c.args.body.now.lanes.idle in
    let rest = c.pop_front.new.self in
    let w = g.R.Record.WIDTH in
    let shown = g.S.Slot.shown in
    let made = c.loop-berth.making.made in
    let e = c.in-Some.ensures.first in
    let e2 : c.loop-berth.body.lanes.idle ≡ c.unwrap-buf.result ∷ c.pop_front-in-Some.new.self = rw c.unwrap-buf.ensures at c.pop_front-in-Some.ensures.first in
    let cleared : c.clear.new.self.block ≡ block = ap (λ b. b.block) c.clear.ensures ∙ All-head (HasBlock block) c.unwrap-buf.result c.pop_front-in-Some.new.self (subst (All (HasBlock block)) e2 i.rests.idle.blocks) in
    let put : c.merge_least.new.buf.block ≡ block = ap (λ b. b.block) c.merge_least.ensures.buf ∙ cleared in
    let left = length (left_in c.loop-berth.body.runs.internal.items (drop c.loop-berth.at c.args.sorted.now)) in
    let long : length c.loop-berth.making.berths ≡ suc (length rest) = ap length e in
    let count : length c.merge_least.new.buf.items ≡ min block left = c.merge_least.ensures.merged.count ∙ ap (λ n. min n left) cleared in
    let least : suc (length rest) * block < left + block = subst (λ n. n * block < left + block) long (i.writing.least (omega (arith, long))) in
    let sizes = all_right (HasSlot g.S.Slot.shown (block * w)) c.loop-berth.making.made.stored c.loop-berth.making.berths i.writing.sizes in
    record {
      none_lifted = ap (λ a. a.lifted) i.writing.shape;
      some = some_out (length rest) block left (length c.merge_least.new.buf.items) c.requires.may.some least count;
      settled = ap (λ b. b.raw) c.merge_least.ensures.buf;
      within = omega (arith, count, put);
      fits = subst (λ n. HasSlot g.S.Slot.shown (n * w) c.in-Some.berth) (sym put) (All-head (HasSlot g.S.Slot.shown (block * w)) c.in-Some.berth rest (subst (All (HasSlot g.S.Slot.shown (block * w))) e sizes));
      room = omega (arith, i.writing.went.went.same.length, length-append (slots_shown shown made.stored) (slots_shown shown c.loop-berth.making.berths), slots_long shown made.stored, slots_long shown c.loop-berth.making.berths, slots_long shown c.args.making.now.berths, c.requires.may.few_slots, long);
      few = omega (arith, i.writing.size, count, c.requires.may.few, length-append (internal_items c.args.body.now.runs.internal.items) c.args.sorted.now);
    }

pub returns-in-Some-failed-clause-rests : goal.returns-in-Some-failed-clause-rests
returns-in-Some-failed-clause-rests g c =
    let l = c.loop-berth in
    let merge = c.merge_least.ensures in
    let put = c.write_block-buf.result.0 in
    rests_on (block_in c.args.body.now.lanes.idle) c.args.body.now l.body _ c.unwrap-buf.result put c.pop_front-in-Some.new.self l.invariant.rests (rw c.unwrap-buf.ensures at c.pop_front-in-Some.ensures.first)
    (ap (λ b. b.block) c.write_block-buf.ensures.buf ∙ ap (λ b. b.block) merge.buf ∙ ap (λ b. b.block) c.clear.ensures) c.push_back.ensures merge.leaves merge.room refl refl refl

pub returns-in-Some-failed-clause-outcome : goal.returns-in-Some-failed-clause-outcome
returns-in-Some-failed-clause-outcome g c =
    let l = c.loop-berth in
    let block = block_in c.args.body.now.lanes.idle in
    let sorted = c.args.sorted.now in
    let old = c.args.making.now in
    let writing = subst (λ bs. Writing g.R.Ord.cmp g.R.Record.record_of g.R.Record.WIDTH block g.S.Slot.shown old.berths c.args.body.now.runs.internal.items sorted bs l.body.runs.internal.items (drop l.at sorted) l.making.made) c.in-Some.ensures.first l.invariant.writing in
    write_failed g.R.Ord.cmp g.R.Record.record_of g.R.Record.WIDTH block g.S.Slot.shown old.berths c.args.body.now.runs.internal.items sorted c.in-Some.berth c.pop_front.new.self l.body.runs.internal.items c.merge_least.new.internal.items (drop l.at sorted) l.making.made c.write_block-buf.new.array c.in-Some-failed.berth
    writing c.merge_least.ensures.merged.buffers (rw c.in-Some-failed.is at c.write_block-buf.ensures.outcome)

pub loop-berth-preserved : goal.loop-berth-preserved
loop-berth-preserved g c =
    let l = c.loop-berth in
    let i = l.invariant in
    let block = block_in c.args.body.now.lanes.idle in
    let sorted = c.args.sorted.now in
    let f = g.R.Record.record_of in
    let w = g.R.Record.WIDTH in
    let shown = g.S.Slot.shown in
    let old = c.args.making.now in
    let e2 : l.body.lanes.idle ≡ c.unwrap-buf.result ∷ c.pop_front-in-Some.new.self = rw c.unwrap-buf.ensures at c.pop_front-in-Some.ensures.first in
    let cleared : c.clear.new.self.block ≡ block = ap (λ b. b.block) c.clear.ensures ∙ All-head (HasBlock block) c.unwrap-buf.result c.pop_front-in-Some.new.self (subst (All (HasBlock block)) e2 i.rests.idle.blocks) in
    let writing = subst (λ bs. Writing g.R.Ord.cmp f w block shown old.berths c.args.body.now.runs.internal.items sorted bs l.body.runs.internal.items (drop l.at sorted) l.making.made) c.in-Some.ensures.first i.writing in
    let merged = subst (λ n. MergedOut g.R.Ord.cmp n l.body.runs.internal.items c.merge_least.new.internal.items (drop l.at sorted) (drop c.merge_least.new.at sorted) c.merge_least.new.buf.items) cleared c.merge_least.ensures.merged in
    record {
      writing = Writing-more g.R.Ord.cmp f w block shown (ranks c.record_laws.ensures.order) c.requires.may.some old.berths c.args.body.now.runs.internal.items sorted c.in-Some.berth c.pop_front.new.self l.body.runs.internal.items c.merge_least.new.internal.items (drop l.at sorted) (drop c.merge_least.new.at sorted) c.merge_least.new.buf.items l.making.made c.write_block-buf.new.array
          writing merged (rw c.in-None.is at c.write_block-buf.ensures.outcome);
      ready = c.merge_least.ensures.ready;
      rests = rests_on block c.args.body.now l.body _ c.unwrap-buf.result c.write_block-buf.result.0 c.pop_front-in-Some.new.self i.rests e2
          (ap (λ b. b.block) c.write_block-buf.ensures.buf ∙ ap (λ b. b.block) c.merge_least.ensures.buf ∙ ap (λ b. b.block) c.clear.ensures) c.push_back.ensures c.merge_least.ensures.leaves c.merge_least.ensures.room refl refl refl;
    }

pub returns-clause-rests : goal.returns-clause-rests
returns-clause-rests g c = c.loop-berth.invariant.rests

pub returns-clause-outcome : goal.returns-clause-outcome
returns-clause-outcome g c =
    let l = c.loop-berth in
    let sorted = c.args.sorted.now in
    let old = c.args.making.now in
    let none : l.making.berths ≡ [] = c.in_default.ensures.none.0 refl in
    let writing = subst (λ bs. Writing g.R.Ord.cmp g.R.Record.record_of g.R.Record.WIDTH (block_in c.args.body.now.lanes.idle) g.S.Slot.shown old.berths c.args.body.now.runs.internal.items sorted bs l.body.runs.internal.items (drop l.at sorted) l.making.made) none l.invariant.writing in
    subst (λ xs. Writing g.R.Ord.cmp g.R.Record.record_of g.R.Record.WIDTH (block_in c.args.body.now.lanes.idle) g.S.Slot.shown old.berths c.args.body.now.runs.internal.items sorted [] l.body.runs.internal.items xs l.making.made)
    (rest_none (internal_items l.body.runs.internal.items) (drop l.at sorted) (block_in c.args.body.now.lanes.idle) writing.room) writing
