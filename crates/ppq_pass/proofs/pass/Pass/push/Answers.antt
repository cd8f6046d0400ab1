use Rattle.std.proofs.Common.{◌≡◌, ◌∙◌, sym, ap, subst, arith}
use Rattle.std.specs.Prelude.{count_by, Ok, Err}
use Rattle.ppq_pool.proofs.ppq_record.Order.{count_by-cons}
use Rattle.ppq_extract.specs.ppq_budget.Sizes.{heap_of}
use Rattle.ppq_extract.specs.ppq_array.declared.store_fault.StoreFault.TheVariants.{Device}
use Rattle.ppq_pass.specs.Passed.{PassTells, CountsPassPush}
use Rattle.ppq_pass.proofs.PassBacked.{counts-latched, counts-one, counts-stored, counts-refused}
use Rattle.ppq_pass.proofs.PassPushed.{was_not_full, was_full, shows_failed, known_of}
use Rattle.ppq_pass.proofs.PassSince.{kept_refl, kept_one}
use Rattle.ppq_pass.proofs.pass.Pass.push.Goals as goal

pub returns-in-Ok-store_and_put-clause-added : goal.returns-in-Ok-store_and_put-clause-added
returns-in-Ok-store_and_put-clause-added g c tell t =
    let same = c.in-Err.ensures.same in
    omega (
      arith,
      c.in-Ok-store_and_put.ensures.put.added (subst (λ v. PassTells g.S.Slot.shown v) (sym same) tell) t,
      count_by-cons t c.args.r c.try_push.new.self.bag,
      count_by-cons t c.args.r c.args.self.now.bag,
      ap (λ v. count_by t v.bag) same,
    )

pub returns-in-Ok-store_and_put-clause-tells : goal.returns-in-Ok-store_and_put-clause-tells
returns-in-Ok-store_and_put-clause-tells g c tell = c.store_and_put.ensures.stays.tells (subst (λ v. PassTells g.S.Slot.shown v) (sym c.in-Err.ensures.same) tell)

pub returns-in-Err-store_and_put-clause-tells : goal.returns-in-Err-store_and_put-clause-tells
returns-in-Err-store_and_put-clause-tells g c tell = c.store_and_put.ensures.stays.tells (subst (λ v. PassTells g.S.Slot.shown v) (sym c.in-Err.ensures.same) tell)

pub returns-in-Some-clause-kept : goal.returns-in-Some-clause-kept
returns-in-Some-clause-kept g c = kept_refl c.args.self.now

pub returns-in-Ok-clause-kept : goal.returns-in-Ok-clause-kept
returns-in-Ok-clause-kept g c = kept_one c.args.self.now c.try_push.new.self c.try_push.new.self.bag c.in-Ok.ensures.one

pub returns-in-Some-clause-counted : goal.returns-in-Some-clause-counted
returns-in-Some-clause-counted g c =
    let s = c.self.inside in
    let same = shows_failed g.S.Slot.shown g.R.Ord.cmp g.R.Record.record_of g.R.Record.WIDTH s.sizes s.heap s.body s.begun s.accepted s.refused s.stores s.parts s.failed c.self.invariant c.args.self.now c.self.view_is in
    counts-latched c.args.self.now c.in-Some.number (c.args.r, Device c.in-Some.number) (same ∙ c.in-Some.is)

pub returns-in-Ok-clause-counted : goal.returns-in-Ok-clause-counted
returns-in-Ok-clause-counted g c =
    let s = c.self.inside in
    let known = known_of g.S.Slot.shown g.R.Ord.cmp g.R.Record.record_of g.R.Record.WIDTH s.sizes s.heap s.body s.begun s.accepted s.refused s.stores s.parts s.failed c.self.invariant c.args.self.now c.self.view_is in
    let room = was_not_full c.try_push.result c.in-Ok.field-0 c.args.self.now.in_heap (heap_of c.args.self.now.key.sizes) c.in-Ok.is c.try_push.ensures.full.1 known.in_heap in
    counts-one c.args.self.now c.try_push.new.self c.try_push.new.self.bag tt room c.in-Ok.ensures.one

pub returns-in-Ok-store_and_put-clause-counted : goal.returns-in-Ok-store_and_put-clause-counted
returns-in-Ok-store_and_put-clause-counted g c =
    let full = subst (λ v. v.in_heap ≡ heap_of v.key.sizes) (sym c.in-Err.ensures.same) (was_full c.in-Err.is c.try_push.ensures.full.0) in
    subst (λ v. CountsPassPush v c.store_and_put.new.self (Ok tt)) c.in-Err.ensures.same (counts-stored c.store_and_put.ensures.stays full tt c.in-Ok-store_and_put.ensures.put)

pub returns-in-Err-store_and_put-clause-counted : goal.returns-in-Err-store_and_put-clause-counted
returns-in-Err-store_and_put-clause-counted g c =
    let fault = c.in-Err-store_and_put.fault in
    let full = subst (λ v. v.in_heap ≡ heap_of v.key.sizes) (sym c.in-Err.ensures.same) (was_full c.in-Err.is c.try_push.ensures.full.0) in
    subst (λ v. CountsPassPush v c.store_and_put.new.self (Err (c.args.r, fault))) c.in-Err.ensures.same (counts-refused c.store_and_put.ensures.stays full (c.args.r, fault) fault c.in-Err-store_and_put.ensures.refused)
