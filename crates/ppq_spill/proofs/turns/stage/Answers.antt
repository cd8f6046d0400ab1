use Rattle.std.proofs.Common.{◌≡◌, ◌+◌, ◌-◌, ◌*◌, ◌∷◌, ◌++◌, [], All, None, length, map, take, drop, min, refl, sym, ap, ◌∙◌, subst, arith}
use Rattle.std.proofs.lemmas.List.{map-append}
use Rattle.std.proofs.lemmas.List.Elements.{All-head, All-tail, All-nil, All-push}
use Rattle.ppq_fetch.specs.ppq_block.Block.{holding}
use Rattle.ppq_fetch.specs.ppq_lane.declared.job.JobKind.TheVariants.{Write}
use Rattle.ppq_fetch.specs.ppq_array.Supply.{IsSlot}
use Rattle.ppq_fetch.specs.ppq_array.Owner.{HasBlock, HasSlot}
use Rattle.ppq_spill.specs.Grouping.{buf_of}
use Rattle.ppq_spill.proofs.Standing.{staged_none, staged_more, taken_on, part_count, popped, left_idle, left_slot, left_room}
use Rattle.std.specs.Prelude.{vec_capacity, ◌^◌}
use Rattle.std.proofs.lemmas.Nat.{mul-le}
use Rattle.ppq_spill.proofs.turns.stage.Goals as goal

pub loop-at-init : goal.loop-at-init
loop-at-init g c =
    record {
      staged = staged_none g.R.Record.WIDTH c.args.block g.S.Slot.shown c.args.idle.now c.args.making.now.berths (g.P.Supply.stock c.args.supply.now) c.args.jobs.now.items c.requires.may.no_job c.requires.may.some c.requires.may.blocks c.requires.may.sizes;
      full = λ h. subst (λ js. All (λ b. length b.items ≡ c.args.block) (map buf_of js)) (sym c.requires.may.no_job) (All-nil (λ b. length b.items ≡ c.args.block));
      within = omega arith;
      capacity = refl;
      made = refl;
      home = refl;
    }

pub loop-at-preserved : goal.loop-at-preserved
loop-at-preserved g c =
    let l = c.loop-at in
    let i = l.invariant in
    let w = g.R.Record.WIDTH in
    let shown = g.S.Slot.shown in
    let block = c.args.block in
    let recs = c.args.records.now in
    let end = c.min-end.result in
    let more = c.loop-at-test.true in
    let is : end ≡ min (length recs) (l.at + block) = c.min-end.ensures in
    let part = take (end - l.at) (drop l.at recs) in
    let count = part_count block l.at end recs more is in
    let full = i.full more in
    let next = c.next_slot-slot in
    let rest = c.pop_front.new.self in
    let e : l.idle ≡ c.unwrap-buf.result ∷ rest = rw c.unwrap-buf.ensures at c.pop_front.ensures.first in
    let blocks = subst (All (HasBlock block)) e i.staged.blocks in
    let cleared : c.clear.new.self.block ≡ block = ap (λ b. b.block) c.clear.ensures ∙ All-head (HasBlock block) c.unwrap-buf.result rest blocks in
    let buf = c.put_records.new.buf in
    let held : buf ≡ holding block part = c.put_records.ensures ∙ ap (λ n. holding n part) cleared in
    let on : end ≡ l.at + (end - l.at) = omega (arith, is, more) in
    let all_is : take end recs ≡ take l.at recs ++ part = ap (λ n. take n recs) on ∙ taken_on l.at (end - l.at) recs in
    let same : (g.P.Supply.stock l.supply).block ≡ block = i.staged.rest.block ∙ sym c.requires.may.block_is in
    let size : IsSlot (block * w) (shown next.result.slot) = subst (λ n. IsSlot (n * w) (shown next.result.slot)) same next.ensures.slot in
    let sizes = subst (λ n. All (HasSlot shown (n * w)) next.new.berths) same next.ensures.sizes in
    let items = c.push_reserved.ensures.items in
    record {
      staged = staged_more w block shown (take l.at recs) part (take end recs) c.args.idle.now l.idle rest c.args.making.now.berths l.making.berths next.new.berths (g.P.Supply.stock c.args.supply.now) (g.P.Supply.stock l.supply) (g.P.Supply.stock next.new.supply) l.jobs.items
          (record { slot = next.result; buf = buf; kind = Write; done = None }) i.staged full held (omega (arith, count, is, more, c.requires.may.some)) (omega (arith, count, is)) all_is refl next.ensures.moved next.ensures.room next.ensures.left next.ensures.rest size sizes (ap length e)
          (All-tail (HasBlock block) c.unwrap-buf.result rest blocks) items;
      full = λ left.
          subst (All (λ b. length b.items ≡ block)) (sym (ap (map buf_of) items ∙ map-append buf_of l.jobs.items (record { slot = next.result; buf = buf; kind = Write; done = None } ∷ [])))
          (All-push (λ b. length b.items ≡ block) (map buf_of l.jobs.items) buf full (ap (λ b. length b.items) held ∙ (let n : length part ≡ block = omega (arith, count, is, left) in n)));
      within = omega (arith, is);
      capacity = c.push_reserved.ensures.capacity ∙ i.capacity;
      made = i.made;
      home = next.ensures.home ∙ i.home;
    }

pub overflow_add-at : goal.overflow_add-at
overflow_add-at g c = omega (arith, c.loop-at-test.true, c.requires.may.few, c.requires.may.small, mul-le (2 ^ 32 - 2) c.args.block (2 ^ 32 - 2) 65536 (omega arith) c.requires.may.small)

pub next_slot-slot-requires-clause-some : goal.next_slot-slot-requires-clause-some
next_slot-slot-requires-clause-some g c =
    let l = c.loop-at in
    left_slot g.R.Record.WIDTH c.args.block g.S.Slot.shown c.args.records.now l.at c.args.idle.now l.idle c.args.making.now.berths l.making.berths (g.P.Supply.stock c.args.supply.now) (g.P.Supply.stock l.supply) l.jobs.items l.invariant.staged (l.invariant.full c.loop-at-test.true) c.loop-at-test.true c.requires.may.slots

pub unwrap-buf-requires : goal.unwrap-buf-requires
unwrap-buf-requires g c =
    let l = c.loop-at in
    popped c.pop_front.result l.idle c.pop_front.ensures.none
    (left_idle g.R.Record.WIDTH c.args.block g.S.Slot.shown c.args.records.now l.at c.args.idle.now l.idle c.args.making.now.berths l.making.berths (g.P.Supply.stock c.args.supply.now) (g.P.Supply.stock l.supply) l.jobs.items l.invariant.staged (l.invariant.full c.loop-at-test.true) c.loop-at-test.true c.requires.may.enough)

pub put_records-requires-clause-room : goal.put_records-requires-clause-room
put_records-requires-clause-room g c =
    let l = c.loop-at in
    let block = c.args.block in
    let e : l.idle ≡ c.unwrap-buf.result ∷ c.pop_front.new.self = rw c.unwrap-buf.ensures at c.pop_front.ensures.first in
    let cleared : c.clear.new.self.block ≡ block = ap (λ b. b.block) c.clear.ensures ∙ All-head (HasBlock block) c.unwrap-buf.result c.pop_front.new.self (subst (All (HasBlock block)) e l.invariant.staged.blocks) in
    omega (arith, cleared, part_count block l.at c.min-end.result c.args.records.now c.loop-at-test.true c.min-end.ensures, c.min-end.ensures)

pub push_reserved-requires : goal.push_reserved-requires
push_reserved-requires g c =
    let l = c.loop-at in
    let h = left_room g.R.Record.WIDTH c.args.block g.S.Slot.shown c.args.records.now l.at c.args.idle.now l.idle c.args.making.now.berths l.making.berths (g.P.Supply.stock c.args.supply.now) (g.P.Supply.stock l.supply) l.jobs.items l.invariant.staged (l.invariant.full c.loop-at-test.true) c.loop-at-test.true (vec_capacity c.args.jobs.now) c.requires.may.job_room in
    omega (arith, h, l.invariant.capacity)
