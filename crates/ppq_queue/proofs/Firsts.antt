-- The record that goes first of a queue whose extract buffer is ready.
use Rattle.std.proofs.Common.{◌≡◌, ℕ, List, length, Bool, Option, sym, ap, ◌∙◌, subst, arith, Ordering}
use Rattle.std.specs.Prelude.{◌↔◌, IsNone, None}
use Rattle.std.specs.declared.cmp.Ordering.TheVariants.{Equal}
use Rattle.std.specs.Cmp.{IsTotalOrder}
use Rattle.ppq_heap.specs.ppq_record.Bag.{first_of, least}
use Rattle.ppq_heap.specs.Heaps.{Shares, items_of}
use Rattle.ppq_extract.specs.ppq_outside.Shown.{Shown, AllTell}
use Rattle.ppq_queue.specs.Stores.{whole_bag}
use Rattle.ppq_queue.specs.Resting.{runs_bag}
use Rattle.ppq_queue.specs.Choice.{first_of_two}
use Rattle.ppq_spill.specs.ppq_counts.Tally.{Tally}
use Rattle.ppq_queue.specs.Handed.{viewed, QueueStands}
use Rattle.ppq_queue.specs.Holding.{Holding, IsReady}
use Rattle.ppq_queue.specs.declared.store.Store.{Store}
use Rattle.ppq_queue.proofs.Bounds.{bag_length}
use Rattle.ppq_queue.proofs.Ready.{first_least, none_first}

module _ {S R : Type 0} {shown : S → Shown} {cmp : R → R → Ordering} {record_of : List ℕ → R} {width : ℕ} {x : Store S R} {h : Shares R} {count peak room : ℕ} {failed : Option ℕ} {limited : Bool} {t : Tally} {q : Holding R} (stands : QueueStands shown cmp record_of width x h count peak failed limited t room) (view : viewed shown record_of width x h count peak failed limited t ≡ q) (ready : IsReady q) where
  pub none_failed : failed ≡ None
  none_failed = ap (λ v. v.failed) view ∙ ready.sound

  -- where the buffer is empty, all records are in the heaps
  pub all_in_heaps : length x.extract.items ≡ 0 → count ≡ length (items_of h)
  all_in_heaps z = ap (λ v. v.size) view ∙ ready.some (sym (ap (λ v. v.in_extract) view) ∙ z) ∙ sym (ap (λ v. v.in_heap) view)

  module _ (o : IsTotalOrder cmp) (same : (a b : R) → cmp a b ≡ Equal → a ≡ b) (answer : Option R) (first : answer ≡ first_of_two cmp (least cmp (items_of h)) (first_of x.extract.items)) where
    pub least_of_all : AllTell q.slots → answer ≡ least cmp (whole_bag shown cmp record_of width (items_of h) x)
    least_of_all tell =
        let sound = stands.sound none_failed in
        let told = subst (λ v. AllTell v.slots) (sym view) tell in
        let runs = runs_bag shown record_of width x.body in
        let all = bag_length shown cmp record_of width x.sizes x.body x.supply sound.rest told in
        let gone : length x.extract.items ≡ 0 → length runs ≡ 0 = λ z. omega (arith, all_in_heaps z, sound.counted, all) in
        first ∙ first_least o same (items_of h) x.extract.items runs (sound.ascends told) (sound.order told) gone

    pub none_of_all : IsNone answer ↔ (q.size ≡ 0)
    none_of_all =
        let sound = stands.sound none_failed in
        let none = none_first o same (items_of h) x.extract.items answer first in
        let size = ap (λ v. v.size) view in (
          (λ n. (let both = none.0 n in omega (arith, both, all_in_heaps (omega (arith, both)), size))),
          (λ z. none.1 (omega (arith, z, size, sound.counted))),
        )
