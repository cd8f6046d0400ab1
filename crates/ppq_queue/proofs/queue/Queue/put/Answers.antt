use Rattle.std.proofs.Common.{ℕ, ◌+◌, ◌*◌, ◌<◌, ◌≤◌, ◌≡◌, ◌∷◌, ◌++◌, length, None, arith, refl, sym, ap, ap₂, ◌∙◌, subst}
use Rattle.std.specs.Prelude.{count_by}
use Rattle.ppq_heap.proofs.ppq_record.Order.{IsSameBag-length, count_by-append, count_by-cons}
use Rattle.ppq_heap.specs.Heaps.{items_of, share_at}
use Rattle.ppq_spill.specs.ppq_counts.Account.{IsCounted}
use Rattle.ppq_spill.specs.ppq_counts.Tally.{Tally, accepting}
use Rattle.ppq_queue.specs.Paying.{whole_account, store_account}
use Rattle.ppq_queue.proofs.Accounted.{counted-put}
use Rattle.ppq_queue.specs.Handed.{viewed}
use Rattle.ppq_queue.specs.Holding.{Holding}
use Rattle.ppq_queue.specs.Resting.{runs_bag}
use Rattle.ppq_queue.proofs.Bounds.{records_most}
use Rattle.ppq_queue.proofs.Flushed.{queue-counts, sound-counts}
use Rattle.ppq_queue.proofs.Ready.{has_room}
use Rattle.ppq_queue.proofs.Shared.{all_within}
use Rattle.ppq_queue.proofs.queue.Queue.put.Goals as goal

pub invariant_of-self : goal.invariant_of-self
invariant_of-self g c =
    let s = c.self.inside in
    let stands = c.self.invariant.0 in
    let i = stands.queue in
    let view = c.self.view_is in
    let push = c.try_push.ensures in
    let now = c.try_push.new.self in
    let sound = stands.sound (ap (λ q. q.failed) view ∙ c.requires.may.sound) in
    let room : length (share_at s.heaps 0) < s.heaps.cap = omega (arith, c.requires.may.room, ap (λ q. q.in_first) view, ap (λ q. q.sizes.heap * q.sizes.block) view, i.cap) in
    let added = has_room c.try_push.result (length (share_at s.heaps 0)) s.heaps.cap room push.full.0 push.added in
    let long : length (items_of now) ≡ length (items_of s.heaps) + 1 = omega (arith, IsSameBag-length (items_of now) (c.args.r ∷ items_of s.heaps) added) in
    let heaps : length now.heaps ≡ s.store.sizes.workers = push.others.count ∙ i.shares in
    let cap : now.cap ≡ s.store.sizes.heap * s.store.sizes.block = push.others.cap ∙ i.cap in
    let within : length (items_of now) ≤ s.store.sizes.workers * (s.store.sizes.heap * s.store.sizes.block) = subst (λ k. length (items_of now) ≤ k) (ap₂ (λ a b. a * b) heaps cap) (all_within now c.known.ensures) in
    let most = records_most g.S.Slot.shown g.R.Ord.cmp g.R.Record.record_of g.R.Record.WIDTH s.store.sizes s.store.body s.store.supply sound.rest i.range i.budget (length (items_of now)) (length s.store.extract.items) within i.in_extract in (
      record {
        queue = queue-counts i push.others.cap push.others.count within refl i.in_extract (omega (arith, c.requires.may.peak, ap (λ q. q.size) view, ap (λ q. q.peak) view)) i.most (omega (arith, most, long, sound.counted));
        sound = λ none. sound-counts sound (omega (arith, sound.counted, long)) sound.ascends sound.order (λ more. sound.above (omega (arith, more, long)));
        counted = subst (λ k. IsCounted s.store.sizes.workers s.store.sizes.block (s.failed ≡ None) c.accept.new.self (whole_account g.S.Slot.shown s.store.sizes k s.store.body s.store.supply)) (sym long) (counted-put (length (items_of s.heaps)) (store_account g.S.Slot.shown s.store) (ap (λ q. q.failed) view ∙ c.requires.may.sound) c.accept.ensures stands.counted);
        slots_room = stands.slots_room;
      },
      c.self.invariant.1,
    )

pub returns-clause-added : goal.returns-clause-added
returns-clause-added g c p =
    let s = c.self.inside in
    let i = c.self.invariant.0.queue in
    let view = c.self.view_is in
    let push = c.try_push.ensures in
    let old = items_of s.heaps in
    let new = items_of c.try_push.new.self in
    let room : length (share_at s.heaps 0) < s.heaps.cap = omega (arith, c.requires.may.room, ap (λ q. q.in_first) view, ap (λ q. q.sizes.heap * q.sizes.block) view, i.cap) in
    let added = has_room c.try_push.result (length (share_at s.heaps 0)) s.heaps.cap room push.full.0 push.added in
    let runs = runs_bag g.S.Slot.shown g.R.Record.record_of g.R.Record.WIDTH s.store.body in
    omega (
      arith,
      added p,
      count_by-cons p c.args.r old,
      count_by-append p (new ++ s.store.extract.items) runs,
      count_by-append p new s.store.extract.items,
      count_by-append p (old ++ s.store.extract.items) runs,
      count_by-append p old s.store.extract.items,
      ap (λ q. count_by p q.bag) view,
      count_by-cons p c.args.r c.args.self.now.bag,
    )

pub returns-clause-rest : goal.returns-clause-rest
returns-clause-rest g c =
    let shown = g.S.Slot.shown in
    let record_of = g.R.Record.record_of in
    let width = g.R.Record.WIDTH in
    let s = c.self.inside in
    let i = c.self.invariant.0.queue in
    let view = c.self.view_is in
    let push = c.try_push.ensures in
    let old = items_of s.heaps in
    let new = items_of c.try_push.new.self in
    let one = share_at s.heaps 0 in
    let one' = share_at c.try_push.new.self 0 in
    let room : length one < s.heaps.cap = omega (arith, c.requires.may.room, ap (λ q. q.in_first) view, ap (λ q. q.sizes.heap * q.sizes.block) view, i.cap) in
    let heap : length new ≡ length old + 1 = IsSameBag-length new (c.args.r ∷ old) (has_room c.try_push.result (length one) s.heaps.cap room push.full.0 push.added) ∙ omega arith in
    let first : length one' ≡ length one + 1 = IsSameBag-length one' (c.args.r ∷ one) (has_room c.try_push.result (length one) s.heaps.cap room push.full.0 push.share) ∙ omega arith in
    let bag = new ++ s.store.extract.items ++ runs_bag shown record_of width s.store.body in
    let made : ℕ → ℕ → Tally → Holding g.row.R.Denot = λ h f t. record (viewed shown record_of width s.store s.heaps s.count s.peak s.failed s.limited t) { bag = bag; size = s.count + 1; in_heap = h; in_first = f } in
    let more : Holding g.row.R.Denot → Holding g.row.R.Denot = λ q. record q { bag = bag; size = q.size + 1; in_heap = q.in_heap + 1; in_first = q.in_first + 1; counts = accepting 1 q.counts } in
    ap₂ (λ h f. made h f c.accept.new.self) heap first ∙ ap (made (length old + 1) (length one + 1)) c.accept.ensures ∙ ap more view

pub overflow_add-self : goal.overflow_add-self
overflow_add-self g c = grind arith
