use Rattle.std.proofs.Common.{◌≡◌, [], length, ap, ◌∙◌, refl, arith}
use Rattle.ppq_heap.specs.Heaps.{items_of}
use Rattle.ppq_queue.specs.Resting.{count_of}
use Rattle.ppq_queue.specs.Stores.{FailsAlone}
use Rattle.ppq_spill.proofs.ppq_counts.Accounts.{costs-same, costs-then}
use Rattle.ppq_queue.proofs.Paying.{ok_pays, pays_ok, pays-then, pays-given}
use Rattle.ppq_queue.proofs.Stores.{kept-same, kept-more, heaps-same, refused-alone, err-map, alone, not_ok, on_given}
use Rattle.ppq_queue.proofs.Took.{smaller, took-none, took-held, took-all, gathers-merged}
use Rattle.ppq_queue.proofs.store.Store.gather.Goals as goal

pub refilling-init : goal.refilling-init
refilling-init g c =
    let took = took-none g.S.Slot.shown c.record_laws.ensures.order g.R.Record.record_of g.R.Record.WIDTH c.args.wanted.now.limit c.args.wanted.now.most (items_of c.args.heaps.now) c.args.self.now c.requires.may.works c.requires.list.none in
    gathers-merged g.S.Slot.shown c.record_laws.ensures.order g.R.Record.record_of g.R.Record.WIDTH c.args.wanted.now.limit c.args.wanted.now.most kept-same heaps-same took refl c.requires.may.few (costs-same _) (λ none. refl) c.has_run-first.ensures.some c.has_run-first.ensures.none c.merge.ensures

pub refilling-smaller : goal.refilling-smaller
refilling-smaller g c =
    let w = c.wants_refill.ensures in
    let r = c.in_ok-refill.ensures.readied in
    let empty = w.empty c.refilling-test.true in
    smaller c.refill.new.self.extract.items (count_of c.refill.new.self.body) (count_of c.refilling.self.body) (omega (arith, r.holds.count, ap length empty)) (w.some c.refilling-test.true) r.some

pub refill-requires-clause-may : goal.refill-requires-clause-may
refill-requires-clause-may g c κs within = (let i = c.refilling.invariant in record { works = i.took.works; few = i.few })

pub refilling-preserved : goal.refilling-preserved
refilling-preserved g c =
    let i = c.refilling.invariant in
    let e = c.in_ok-refill.ensures in
    let some = c.wants_refill.ensures.some c.refilling-test.true in
    let took = took-held g.S.Slot.shown c.record_laws.ensures.order g.R.Record.record_of g.R.Record.WIDTH c.args.wanted.now.limit c.args.wanted.now.most (items_of c.args.heaps.now) (items_of c.refilling.heaps) c.args.self.now c.refilling.self c.refill.new.self c.refilling.out.items i.kept i.took e.readied.holds in
    gathers-merged g.S.Slot.shown c.record_laws.ensures.order g.R.Record.record_of g.R.Record.WIDTH c.args.wanted.now.limit c.args.wanted.now.most (kept-more i.kept e.kept) i.heaps took i.list_room e.few (costs-then i.pays (pays_ok e.pays)) (λ none. absurd (let gone : count_of c.refilling.self.body ≡ 0 = ap (λ s. count_of s.body) (i.easy none) ∙ none in omega (arith, some, gone))) c.has_run-more.ensures.some c.has_run-more.ensures.none c.merge-in-refilling.ensures

pub returns-in_err-refill : goal.returns-in_err-refill
returns-in_err-refill g c =
    let i = c.refilling.invariant in
    let given = c.from_residual.ensures.1 in
    let some = c.wants_refill.ensures.some c.refilling-test.true in
    let failed = on_given (FailsAlone g.S.Slot.shown c.refill.new.self) c.from_residual.result c.in_err-refill.field-0.0 given c.in_err-refill.ensures.failed in
    record {
      kept = kept-more i.kept c.refill.ensures.kept;
      heaps = i.heaps;
      list_room = i.list_room;
      took = not_ok _ _ _ given;
      same_heaps = alone (FailsAlone g.S.Slot.shown c.refill.new.self) c.from_residual.result failed (λ never. never);
      easy = λ none. absurd (let gone : count_of c.refilling.self.body ≡ 0 = ap (λ s. count_of s.body) (i.easy none) ∙ none in omega (arith, some, gone));
      crowded = alone (FailsAlone g.S.Slot.shown c.refill.new.self) c.from_residual.result failed (λ never. never);
      refused = err-map c.from_residual.result (refused-alone g.S.Slot.shown g.R.Ord.cmp g.R.Record.record_of g.R.Record.WIDTH [] [] c.args.self.now c.refill.new.self) failed;
      pays = pays-then i.pays (pays-given given c.in_err-refill.ensures.pays);
    }

pub returns : goal.returns
returns g c =
    let l = c.refilling in
    let i = l.invariant in
    let took = took-all g.S.Slot.shown c.record_laws.ensures.order g.R.Record.record_of g.R.Record.WIDTH c.args.wanted.now.limit c.args.wanted.now.most (items_of c.args.heaps.now) (items_of l.heaps) c.args.self.now l.self l.out.items i.stands i.took (c.wants_refill.ensures.ready c.refilling-test.false) in
    record { kept = i.kept; heaps = i.heaps; list_room = i.list_room; took = took; same_heaps = λ err. cc; easy = λ none. (refl, i.easy none); crowded = λ err. absurd (cc); refused = tt; pays = ok_pays i.pays }

pub has_run-first-requires-after_bounds : goal.has_run-first-requires-after_bounds
has_run-first-requires-after_bounds g c = assumption

pub merge-requires-clause-most : goal.merge-requires-clause-most
merge-requires-clause-most g c = assumption

pub merge-requires-clause-few : goal.merge-requires-clause-few
merge-requires-clause-few g c = grind arith

pub wants_refill-requires-after_bounds : goal.wants_refill-requires-after_bounds
wants_refill-requires-after_bounds g c = assumption

pub refill-requires-clause-empty : goal.refill-requires-clause-empty
refill-requires-clause-empty g c = grind arith

pub has_run-more-requires-after_bounds : goal.has_run-more-requires-after_bounds
has_run-more-requires-after_bounds g c = grind arith

pub merge-requires-in-refilling-clause-most : goal.merge-requires-in-refilling-clause-most
merge-requires-in-refilling-clause-most g c = omega arith

pub merge-requires-in-refilling-clause-few : goal.merge-requires-in-refilling-clause-few
merge-requires-in-refilling-clause-few g c = assumption
