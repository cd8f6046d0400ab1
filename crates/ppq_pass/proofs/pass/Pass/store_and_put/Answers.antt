use Rattle.std.specs.Prelude.{⊤}
use Rattle.std.proofs.Common.{◌≡◌, ◌∷◌, ◌+◌, [], length, Some, None, true, sym, ap, ◌∙◌, subst, arith}
use Rattle.ppq_pool.specs.ppq_record.Bag.{IsSameBag}
use Rattle.ppq_extract.specs.ppq_budget.Sizes.{heap_of}
use Rattle.ppq_extract.specs.ppq_array.declared.store_fault.StoreFault.TheVariants.{NoFreeBlock, Device}
use Rattle.ppq_pass.specs.PassState.{IsPassing}
use Rattle.ppq_spill.proofs.Latching.{latched_device}
use Rattle.ppq_pass.proofs.PassKeeps.{heap_small}
use Rattle.ppq_pass.proofs.PassOpened.{on_ok, matched, has_room}
use Rattle.ppq_pass.proofs.PassReady.{AtStore, at_store}
use Rattle.ppq_pass.proofs.PassPut.{some, of_session, has_store_room, all_ascend, may_count, push_keeps, put_holds, put_after, none_holds, found_none, fault_holds, met_fault}
use Rattle.ppq_pass.proofs.pass.Pass.store_and_put.Given as given
use Rattle.ppq_pass.proofs.pass.Pass.store_and_put.Goals.{After-as_slice, After-try_append}
use Rattle.ppq_pass.proofs.pass.Pass.store_and_put.Goals as goal

pub unreachable-requires : goal.unreachable-requires
unreachable-requires g c =
    let s = c.self.inside in
    let gone : s.parts ≡ None = sym c.take.ensures.value ∙ c.in_default.is in
    subst (λ o. IsPassing g.S.Slot.shown g.R.Ord.cmp g.R.Record.record_of g.R.Record.WIDTH s.sizes s.heap s.body o s.begun s.accepted s.refused s.failed s.stores) gone c.self.invariant

pub unreachable-unreachable : goal.unreachable-unreachable
unreachable-unreachable g c = c.unreachable.result

at :
    (g : given.Over) (c : After-as_slice g)
    → AtStore g.S.Slot.shown g.R.Ord.cmp g.R.Record.record_of g.R.Record.WIDTH c.self.inside.sizes c.self.inside.heap c.self.inside.body c.in-Some.parts c.self.inside.begun c.self.inside.accepted c.self.inside.refused c.self.inside.failed c.self.inside.stores c.args.self.now c.args.shared.now c.as_slice.result.now
at g c =
    let s = c.self.inside in
    at_store g.S.Slot.shown g.R.Ord.cmp g.R.Record.record_of g.R.Record.WIDTH s.sizes s.heap s.body s.begun s.accepted s.refused s.failed s.stores s.parts c.in-Some.parts (sym c.take.ensures.value ∙ c.in-Some.is)
    c.record_laws.ensures.order c.self.invariant c.args.self.now c.self.view_is c.args.shared.now c.requires.of c.requires.sound c.requires.full c.as_slice.result.now c.sort_in_place.new.self.items c.as_slice.ensures c.sort_in_place.ensures.items c.sort_in_place.ensures.ascends

pub store_run-parts-requires-clause-some : goal.store_run-parts-requires-clause-some
store_run-parts-requires-clause-some g c κs within = some (at g c)

pub store_run-parts-requires-clause-of : goal.store_run-parts-requires-clause-of
store_run-parts-requires-clause-of g c κs within = of_session (at g c)

pub store_run-parts-requires-clause-room : goal.store_run-parts-requires-clause-room
store_run-parts-requires-clause-room g c κs within = has_store_room (at g c)

pub store_run-parts-requires-clause-ascend : goal.store_run-parts-requires-clause-ascend
store_run-parts-requires-clause-ascend g c κs within = all_ascend (at g c)

-- the emptied heap took the record
added : (g : given.Over) (c : After-try_append g) → AtStore g.S.Slot.shown g.R.Ord.cmp g.R.Record.record_of g.R.Record.WIDTH c.self.inside.sizes c.self.inside.heap c.self.inside.body c.in-Some.parts c.self.inside.begun c.self.inside.accepted c.self.inside.refused c.self.inside.failed c.self.inside.stores c.args.self.now c.args.shared.now c.as_slice.result.now → IsSameBag c.try_append.new.self.items (c.args.r ∷ [])
added g c at =
    let cap : c.clear.new.self.cap ≡ heap_of c.self.inside.sizes = c.clear.ensures.cap ∙ c.sort_in_place.ensures.cap ∙ at.is.cap in
    subst (λ l. IsSameBag c.try_append.new.self.items (c.args.r ∷ l)) c.clear.ensures.items
    (has_room c.try_append.result c.clear.new.self.cap c.args.r c.clear.new.self.items c.try_append.new.self.items (omega (arith, ap length c.clear.ensures.items, cap, (heap_small c.self.inside.sizes at.is.range).0)) c.try_append.ensures.full.0 c.try_append.ensures.added)

pub overflow_add-self : goal.overflow_add-self
overflow_add-self g c = omega (arith, may_count (at g (goal.at.overflow_add-self g c).After-as_slice))

pub invariant_of-self : goal.invariant_of-self
invariant_of-self g c =
    let at = at g (goal.at.invariant_of-self g c).After-as_slice in
    let m = c.store_run-parts in
    put_holds at m.ensures.kept m.ensures.counted c.saturating_add-self-inside.ensures c.args.r c.try_append.new.self (c.try_append.ensures.cap ∙ c.clear.ensures.cap ∙ c.sort_in_place.ensures.cap) (added g (goal.at.invariant_of-self g c).After-try_append at) c.in-Ok.field-0 c.in-Ok.is (on_ok m.result.1 c.in-Ok.field-0 c.in-Ok.is m.ensures.stored)

pub invariant_of-self-in-Err-NoFreeBlock : goal.invariant_of-self-in-Err-NoFreeBlock
invariant_of-self-in-Err-NoFreeBlock g c =
    let at = at g (goal.at.invariant_of-self-in-Err-NoFreeBlock g c).After-as_slice in
    let m = c.store_run-parts in
    let e = c.in-Err-NoFreeBlock in
    let fault : e.field-0 ≡ NoFreeBlock = rw e.is at e.field-0-is in
    let is = matched m.result.1 e.field-0 NoFreeBlock e.is fault in
    none_holds at m.ensures.kept m.ensures.counted c.saturating_add-self-inside.ensures c.sort_in_place.new.self c.sort_in_place.ensures.cap (sym c.as_slice.ensures) is (m.ensures.none_free is)

pub invariant_of-self-in-Err-Device : goal.invariant_of-self-in-Err-Device
invariant_of-self-in-Err-Device g c =
    let at = at g (goal.at.invariant_of-self-in-Err-Device g c).After-as_slice in
    let m = c.store_run-parts in
    let e = c.in-Err-Device in
    let fault : e.field-0 ≡ Device e.number = rw e.is at e.field-0-is in
    let is = matched m.result.1 e.field-0 (Device e.number) e.is fault in
    let late = latched_device ⊤ c.self.inside.failed c.latch.new.failed m.result.1 e.field-0 e.number c.latch.ensures e.is fault in
    fault_holds at m.ensures.kept m.ensures.counted c.saturating_add-self-inside.ensures c.sort_in_place.new.self c.sort_in_place.ensures.cap (sym c.as_slice.ensures) e.number is (m.ensures.device e.number is) c.latch.new.failed late

pub returns-in-Ok-clause-put : goal.returns-in-Ok-clause-put
returns-in-Ok-clause-put g c =
    let at = at g (goal.at.returns-in-Ok-clause-put g c).After-as_slice in
    let m = c.store_run-parts in
    put_after at m.ensures.kept m.ensures.counted c.saturating_add-self-inside.ensures c.args.r c.try_append.new.self (c.try_append.ensures.cap ∙ c.clear.ensures.cap ∙ c.sort_in_place.ensures.cap) (added g (goal.at.returns-in-Ok-clause-put g c).After-try_append at) c.in-Ok.field-0 c.in-Ok.is (on_ok m.result.1 c.in-Ok.field-0 c.in-Ok.is m.ensures.stored)

pub returns-in-Ok-clause-stays : goal.returns-in-Ok-clause-stays
returns-in-Ok-clause-stays g c =
    let s = c.self.inside in
    push_keeps (at g (goal.at.returns-in-Ok-clause-stays g c).After-as_slice) c.store_run-parts.ensures.kept c.store_run-parts.ensures.counted c.saturating_add-self-inside.ensures c.try_append.new.self (s.accepted + 1) s.refused s.failed

pub returns-in-Err-NoFreeBlock-clause-refused : goal.returns-in-Err-NoFreeBlock-clause-refused
returns-in-Err-NoFreeBlock-clause-refused g c =
    let at = at g (goal.at.returns-in-Err-NoFreeBlock-clause-refused g c).After-as_slice in
    let m = c.store_run-parts in
    let e = c.in-Err-NoFreeBlock in
    let fault : e.field-0 ≡ NoFreeBlock = rw e.is at e.field-0-is in
    let is = matched m.result.1 e.field-0 NoFreeBlock e.is fault in
    found_none at m.ensures.kept m.ensures.counted c.saturating_add-self-inside.ensures c.sort_in_place.new.self c.sort_in_place.ensures.cap (sym c.as_slice.ensures) is (m.ensures.none_free is)

pub returns-in-Err-NoFreeBlock-clause-stays : goal.returns-in-Err-NoFreeBlock-clause-stays
returns-in-Err-NoFreeBlock-clause-stays g c =
    let s = c.self.inside in
    push_keeps (at g (goal.at.returns-in-Err-NoFreeBlock-clause-stays g c).After-as_slice) c.store_run-parts.ensures.kept c.store_run-parts.ensures.counted c.saturating_add-self-inside.ensures c.sort_in_place.new.self s.accepted true s.failed

pub returns-in-Err-Device-clause-refused : goal.returns-in-Err-Device-clause-refused
returns-in-Err-Device-clause-refused g c =
    let at = at g (goal.at.returns-in-Err-Device-clause-refused g c).After-as_slice in
    let m = c.store_run-parts in
    let e = c.in-Err-Device in
    let fault : e.field-0 ≡ Device e.number = rw e.is at e.field-0-is in
    let is = matched m.result.1 e.field-0 (Device e.number) e.is fault in
    let late = latched_device ⊤ c.self.inside.failed c.latch.new.failed m.result.1 e.field-0 e.number c.latch.ensures e.is fault in
    met_fault at m.ensures.kept m.ensures.counted c.saturating_add-self-inside.ensures c.sort_in_place.new.self c.sort_in_place.ensures.cap (sym c.as_slice.ensures) e.number is (m.ensures.device e.number is) c.latch.new.failed late

pub returns-in-Err-Device-clause-stays : goal.returns-in-Err-Device-clause-stays
returns-in-Err-Device-clause-stays g c =
    let s = c.self.inside in
    push_keeps (at g (goal.at.returns-in-Err-Device-clause-stays g c).After-as_slice) c.store_run-parts.ensures.kept c.store_run-parts.ensures.counted c.saturating_add-self-inside.ensures c.sort_in_place.new.self s.accepted s.refused c.latch.new.failed
