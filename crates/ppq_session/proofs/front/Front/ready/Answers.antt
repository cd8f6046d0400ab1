use Rattle.std.proofs.Common.{◌≡◌, ℕ, ◌∙◌, Option, Some, None, refl, ap, sym, subst, rules}
use Rattle.std.specs.Prelude.{count_by, IfErr, Result, Err, ⊤}
use Rattle.ppq_pass.specs.ppq_array.declared.store_fault.StoreFault.{StoreFault as QueueFault}
use Rattle.ppq_pass.specs.ppq_array.declared.store_fault.StoreFault.TheVariants.{NoFreeBlock, Device}
use Rattle.ppq_pass.specs.ppq_outside.Shown.{AllTell}
use Rattle.ppq_pass.specs.ppq_array.Kept.{HasFailed, AreQuiet}
use Rattle.ppq_pass.specs.ppq_counts.Account.{Stops}
use Rattle.ppq_pass.specs.ppq_spill.Costing.{Pays}
use Rattle.ppq_pass.proofs.ppq_spill.Latching.{latched_device}
use Rattle.ppq_session.specs.Apart.{apart_slots, apart_account}
use Rattle.ppq_session.specs.FrontState.{IsRefillRefusal}
use Rattle.ppq_session.proofs.Moved.{tallied-ready, is-ready, refill-keeps}
use Rattle.ppq_session.proofs.Paying.{paid-refilled, paid-failed}
use Rattle.ppq_session.proofs.front.Front.ready.Given as given
use Rattle.ppq_session.proofs.front.Front.ready.Goals as goal

pub returns-in-Ok-clause-readied : goal.returns-in-Ok-clause-readied
returns-in-Ok-clause-readied g c =
    let s = c.self.inside in
    let m = c.refill_front-answer in
    let ok = c.in-Ok.ensures.refilled in
    record {
      bag = λ tell p. ok.bag (subst (λ f. AllTell f.slots) (sym c.self.view_is) tell) p ∙ ap (λ f. count_by p f.bag) c.self.view_is;
      ready = is-ready g.S.Slot.shown g.R.Record.record_of g.R.Record.WIDTH s.parts m.new.q m.ensures.stays.rest m.ensures.stays.kept g.R.Ord.cmp s.limit ok.ready;
      sound = c.in_default.is;
      quiet = subst (λ f. AreQuiet f.slots (apart_slots g.S.Slot.shown m.new.q)) c.self.view_is ok.quiet;
    }

pub invariant_of-self : goal.invariant_of-self
invariant_of-self g c =
    let s = c.self.inside in
    let m = c.refill_front-answer in
    let shown = g.S.Slot.shown in
    let stays = m.ensures.stays in
    let none : s.failed ≡ None = c.in_default.is in
    let costs = (subst (λ (r : Result ⊤ QueueFault). Pays r 0 0 (apart_account shown s.parts) (apart_account shown m.new.q)) c.in-Ok.is m.ensures.counted).pays in
    let paid = paid-refilled shown s.parts m.new.q (ap (λ p. p.sizes) stays.rest) (ap (λ p. p.counts) stays.rest) s.failed s.failed none c.self.invariant.1.paid costs in (
      stays.out,
      tallied-ready shown g.R.Record.record_of g.R.Record.WIDTH s.parts m.new.q stays.rest stays.kept s.popped s.failed s.failed c.self.invariant.1 (λ number e. absurd (let odd : ◌≡◌ {A = Option ℕ} None (Some number) = sym none ∙ e in cc)) paid,
      (λ _. c.in-Ok.ensures.refilled.sound),
    )

pub returns-in-Ok-clause-kept : goal.returns-in-Ok-clause-kept
returns-in-Ok-clause-kept g c =
    let s = c.self.inside in
    let stays = c.refill_front-answer.ensures.stays in
    refill-keeps g.S.Slot.shown g.R.Record.record_of g.R.Record.WIDTH s.parts c.refill_front-answer.new.q stays.rest stays.kept s.limit s.popped s.failed s.failed c.args.self.now c.self.view_is

pub returns-in-Err-NoFreeBlock : goal.returns-in-Err-NoFreeBlock
returns-in-Err-NoFreeBlock g c =
    let arm = c.in-Err-NoFreeBlock in
    let slots = apart_slots g.S.Slot.shown c.refill_front-answer.new.q in
    let fault_is : arm.field-0 ≡ NoFreeBlock = search rules in
    absurd (subst (IsRefillRefusal slots) fault_is (subst (λ r. IfErr r (IsRefillRefusal slots)) arm.is c.refill_front-answer.ensures.failed))

pub invariant_of-self-in-Err-NoFreeBlock : goal.invariant_of-self-in-Err-NoFreeBlock
invariant_of-self-in-Err-NoFreeBlock g c =
    let arm = c.in-Err-NoFreeBlock in
    let slots = apart_slots g.S.Slot.shown c.refill_front-answer.new.q in
    let fault_is : arm.field-0 ≡ NoFreeBlock = search rules in
    absurd (subst (IsRefillRefusal slots) fault_is (subst (λ r. IfErr r (IsRefillRefusal slots)) arm.is c.refill_front-answer.ensures.failed))

pub returns-in-Err-Device-clause-kept : goal.returns-in-Err-Device-clause-kept
returns-in-Err-Device-clause-kept g c =
    let s = c.self.inside in
    let stays = c.refill_front-answer.ensures.stays in
    refill-keeps g.S.Slot.shown g.R.Record.record_of g.R.Record.WIDTH s.parts c.refill_front-answer.new.q stays.rest stays.kept s.limit s.popped s.failed c.latch.new.failed c.args.self.now c.self.view_is

-- what it wrote
stopped : (g : given.Over) (c : goal.After-latch g) → Stops 0 0 (apart_account g.S.Slot.shown c.self.inside.parts) (apart_account g.S.Slot.shown c.refill_front-answer.new.q)
stopped g c =
    let arm = c.in-Err-Device in
    let old = apart_account g.S.Slot.shown c.self.inside.parts in
    let new = apart_account g.S.Slot.shown c.refill_front-answer.new.q in
    let fault_is : arm.field-0 ≡ Device arm.number = search rules in
    let said = subst (λ (r : Result ⊤ QueueFault). Pays r 0 0 old new) arm.is c.refill_front-answer.ensures.counted in
    (subst (λ (f : QueueFault). Pays {T = ⊤} (Err f) 0 0 old new) fault_is said).pays

-- the call that failed
fault : (g : given.Over) (c : goal.After-latch g) → HasFailed c.in-Err-Device.number (apart_slots g.S.Slot.shown c.refill_front-answer.new.q)
fault g c =
    let arm = c.in-Err-Device in
    let slots = apart_slots g.S.Slot.shown c.refill_front-answer.new.q in
    let fault_is : arm.field-0 ≡ Device arm.number = search rules in
    subst (IsRefillRefusal slots) fault_is (subst (λ r. IfErr r (IsRefillRefusal slots)) arm.is c.refill_front-answer.ensures.failed)

-- the number that is kept
late : (g : given.Over) (c : goal.After-latch g) → Some c.in-Err-Device.number ≡ c.latch.new.failed
late g c =
    let arm = c.in-Err-Device in
    let fault_is : arm.field-0 ≡ Device arm.number = search rules in
    latched_device ⊤ c.self.inside.failed c.latch.new.failed c.refill_front-answer.result arm.field-0 arm.number c.latch.ensures arm.is fault_is

pub invariant_of-self-in-Err-Device : goal.invariant_of-self-in-Err-Device
invariant_of-self-in-Err-Device g c =
    let s = c.self.inside in
    let m = c.refill_front-answer in
    let number = c.in-Err-Device.number in
    let now = c.latch.new.failed in
    let failed = fault g c in
    let is = late g c in (
      m.ensures.stays.out,
      tallied-ready g.S.Slot.shown g.R.Record.record_of g.R.Record.WIDTH s.parts m.new.q m.ensures.stays.rest m.ensures.stays.kept s.popped s.failed now c.self.invariant.1
          (λ k e. (let same : number ≡ k = cc in subst (λ (n : ℕ). HasFailed n (apart_slots g.S.Slot.shown m.new.q)) same failed))
          (paid-failed g.S.Slot.shown s.parts m.new.q (ap (λ p. p.sizes) m.ensures.stays.rest) (ap (λ p. p.counts) m.ensures.stays.rest) s.failed now c.in_default.is c.self.invariant.1.paid
          (λ none. (let odd : ◌≡◌ {A = Option ℕ} (Some number) None = is ∙ none in cc))
          (stopped g c)),
      (λ none. absurd (let odd : ◌≡◌ {A = Option ℕ} (Some number) None = is ∙ none in cc)),
    )

pub returns-in-Err-Device-clause-refused : goal.returns-in-Err-Device-clause-refused
returns-in-Err-Device-clause-refused g c = record { fault = fault g c; kept = sym (late g c); size = ap (λ f. f.size) (returns-in-Err-Device-clause-kept g c).rest; popped = ap (λ f. f.popped) (returns-in-Err-Device-clause-kept g c).rest }

pub returns-in-Some-clause-refused : goal.returns-in-Some-clause-refused
returns-in-Some-clause-refused g c =
    let number = c.in-Some.number in
    record {
      fault = subst (λ f. HasFailed number f.slots) c.self.view_is (c.self.invariant.1.fault number c.in-Some.is);
      kept = sym (ap (λ f. f.failed) c.self.view_is) ∙ c.in-Some.is;
      size = refl;
      popped = refl;
    }
