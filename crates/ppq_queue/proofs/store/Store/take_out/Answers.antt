use Rattle.std.proofs.Common.{◌≡◌, ◌∙◌, [], length, sym, ap, inl, refl}
use Rattle.ppq_heap.specs.Heaps.{items_of}
use Rattle.ppq_queue.specs.Stores.{Refuses}
use Rattle.ppq_queue.proofs.Took.{took-none, takes-settled}
use Rattle.ppq_spill.proofs.ppq_counts.Accounts.{costs-same}
use Rattle.ppq_queue.proofs.Paying.{ok_pays, pays_ok, pays-given}
use Rattle.ppq_queue.proofs.Stores.{heaps-same, kept-same, not_ok, on_given, none_given}
use Rattle.ppq_queue.proofs.store.Store.take_out.Goals as goal

pub returns-then-wants_nothing : goal.returns-then-wants_nothing
returns-then-wants_nothing g c =
    let shown = g.S.Slot.shown in
    let x = c.args.self.now in
    let h = items_of c.args.heaps.now in
    let limit = c.args.wanted.now.limit in
    let most = c.args.wanted.now.most in
    let none = c.requires.list.none in
    let took = took-none shown c.record_laws.ensures.order g.R.Record.record_of g.R.Record.WIDTH limit most h x c.requires.works none in
    let full : length c.args.out.now.items ≡ most = ap length none ∙ sym (c.wants_nothing.ensures.none c.if-wants_nothing.true) in
    record {
      kept = kept-same;
      heaps = heaps-same;
      list_room = refl;
      took = record {
        took = took;
        all = λ unset. inl full;
        low = λ tell. inl full;
        ready = λ l is gone. absurd (c.wants_nothing.ensures.ready c.if-wants_nothing.true l is gone);
      };
      same_heaps = λ err. refl;
      easy = λ none. (refl, refl);
      crowded = λ err. absurd (cc);
      refused = tt;
      pays = ok_pays (costs-same _);
    }

pub returns-in_err-settle_some : goal.returns-in_err-settle_some
returns-in_err-settle_some g c =
    let given = c.from_residual.ensures.1 in
    let leaves = c.in_err-settle_some.ensures.settles.levels.leaves in
    record {
      kept = leaves.stays.kept;
      heaps = heaps-same;
      list_room = refl;
      took = not_ok _ _ _ given;
      same_heaps = λ err. refl;
      easy = λ none. absurd (let odd = (c.in_err-settle_some.ensures.easy none).0 in cc);
      crowded = none_given c.from_residual.result c.in_err-settle_some.field-0.0 given c.in_err-settle_some.ensures.settles.levels.crowded;
      refused = on_given (Refuses g.S.Slot.shown g.R.Ord.cmp g.R.Record.record_of g.R.Record.WIDTH [] [] c.args.self.now c.settle_some.new.self) c.from_residual.result c.in_err-settle_some.field-0.0 given leaves.refused;
      pays = pays-given given c.in_err-settle_some.ensures.settles.levels.pays;
    }

pub gather-requires-clause-may : goal.gather-requires-clause-may
gather-requires-clause-may g c κs within = (let e = c.in_ok-settle_some.ensures.settles in record { works = e.levels.leaves.holds.works; few = e.few })

pub returns : goal.returns
returns g c = (let e = c.in_ok-settle_some.ensures in let levels = e.settles.levels in takes-settled c.record_laws.ensures.order levels.leaves.stays.kept levels.leaves.holds (pays_ok levels.pays) (λ none. (e.easy none).1) c.gather.ensures)

pub settle_some-requires-clause-works : goal.settle_some-requires-clause-works
settle_some-requires-clause-works g c = assumption

pub gather-requires-clause-list : goal.gather-requires-clause-list
gather-requires-clause-list g c = assumption
