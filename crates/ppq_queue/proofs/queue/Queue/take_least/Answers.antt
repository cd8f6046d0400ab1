use Rattle.std.proofs.Common.{◌≡◌, ℕ, ◌-◌, ◌++◌, ◌∙◌, length, ap, arith}
use Rattle.std.specs.Prelude.{count_by}
use Rattle.ppq_heap.specs.ppq_record.Bag.{least, without_front}
use Rattle.ppq_heap.specs.Heaps.{items_of, share_at}
use Rattle.ppq_queue.specs.Handed.{viewed}
use Rattle.ppq_queue.specs.Holding.{Holding}
use Rattle.ppq_queue.specs.Resting.{runs_bag, count_of}
use Rattle.ppq_queue.specs.Paying.{store_account}
use Rattle.ppq_queue.proofs.Accounted.{counted-fewer}
use Rattle.ppq_queue.proofs.Ready.{left_over}
use Rattle.ppq_queue.proofs.Flushed.{queue-counts, sound-counts}
use Rattle.ppq_queue.proofs.Firsts.{all_in_heaps, least_of_all, none_of_all}
use Rattle.ppq_queue.proofs.queue.Queue.take_least.Goals as goal

pub invariant_of-self : goal.invariant_of-self
invariant_of-self g c =
    let s = c.self.inside in
    let stands = c.self.invariant.0 in
    let i = stands.queue in
    let e = c.take_first.ensures in
    let took = e.took in
    let heaps = c.take_first.new.heaps in
    let extract = c.take_first.new.extract in
    let runs = runs_bag g.S.Slot.shown g.R.Record.record_of g.R.Record.WIDTH s.store.body in
    let less : c.saturating_sub-self-inside.result ≡ s.count - 1 = omega (arith, c.saturating_sub-self-inside.ensures) in (
      record {
        queue = queue-counts i e.heaps.cap e.heaps.count (omega (arith, e.heaps.fewer, i.in_heap)) e.room (omega (arith, took.fewer, i.in_extract)) (omega (arith, i.counted, less)) i.most (omega (arith, i.most_count, less));
        sound = λ none.
            let sound = stands.sound none in
            sound-counts sound
            (left_over s.count (length (items_of s.heaps)) (length s.store.extract.items) (length (items_of heaps)) (length extract.items) (count_of s.store.body) c.saturating_sub-self-inside.result sound.counted took.count less (all_in_heaps stands c.self.view_is c.requires))
            (λ tell. took.ascends (sound.ascends tell)) (λ tell. took.order runs (sound.order tell)) (λ more. sound.above (omega (arith, more, took.near, less)));
        counted = counted-fewer (length (items_of s.heaps)) (length (items_of heaps)) (store_account g.S.Slot.shown s.store) e.heaps.fewer stands.counted;
        slots_room = stands.slots_room;
      },
      c.self.invariant.1,
    )

pub returns : goal.returns
returns g c =
    let laws = c.record_laws.ensures in
    let view = c.self.view_is in
    let s = c.self.inside in
    let stands = c.self.invariant.0 in
    let took = c.take_first.ensures.took in
    let heaps = c.take_first.new.heaps in
    let extract = c.take_first.new.extract in
    let runs = runs_bag g.S.Slot.shown g.R.Record.record_of g.R.Record.WIDTH s.store.body in
    let is = least_of_all stands view c.requires laws.order laws.same c.take_first.result took.value in
    let less : c.saturating_sub-self-inside.result ≡ s.count - 1 = omega (arith, c.saturating_sub-self-inside.ensures) in
    let now : ℕ → Holding g.row.R.Denot → Holding g.row.R.Denot = λ k q. record q { bag = items_of heaps ++ extract.items ++ runs; size = k; in_heap = length (items_of heaps); in_first = length (share_at heaps 0); in_extract = length extract.items } in
    record {
      least = record {
        answer = λ tell. is tell ∙ ap (λ q. least g.R.Ord.cmp q.bag) view;
        none = none_of_all stands view c.requires laws.order laws.same c.take_first.result took.value;
      };
      rest = λ tell p. took.rest runs (is tell) p ∙ ap (λ q. count_by p (without_front g.R.Ord.cmp q.bag 1)) view;
      heaps = omega (arith, c.take_first.ensures.heaps.fewer, ap (λ q. q.in_heap) view);
      fields = ap (λ k. now k (viewed g.S.Slot.shown g.R.Record.record_of g.R.Record.WIDTH s.store s.heaps s.count s.peak s.failed s.limited s.counts)) less ∙ ap (λ q. now (q.size - 1) q) view;
    }
