use Rattle.std.proofs.Common.{◌<◌, [], length, ap, sym, ◌∙◌, subst, arith}
use Rattle.std.proofs.lemmas.Bool.{false≢true}
use Rattle.ppq_queue.specs.Resting.{Moved}
use Rattle.ppq_queue.specs.Stores.{StoreStays}
use Rattle.ppq_queue.proofs.Bounds.{parts_within}
use Rattle.ppq_queue.proofs.Moves.{ok-map}
use Rattle.ppq_queue.proofs.Took.{empty_list}
use Rattle.ppq_queue.proofs.HeapStores.{some_list}
use Rattle.ppq_spill.proofs.ppq_counts.Accounts.{costs-same, costs-more}
use Rattle.ppq_queue.proofs.Paying.{ok_pays, pays_ok, pays-more, pays-next, pays-given}
use Rattle.ppq_queue.proofs.Stores.{kept-step, same-sources, holds-rest, leaves-same, leaves-more, leaves-refused, not_ok}
use Rattle.ppq_queue.proofs.store.Store.store_rest.Goals as goal

pub returns-then-is_empty : goal.returns-then-is_empty
returns-then-is_empty g c = record { leaves = leaves-same c.requires.may.works; emptied = record { no_extract = c.is_empty.ensures.0 c.if-is_empty.true; few = c.requires.may.few }; pays = ok_pays (costs-more (omega arith) (omega arith) (costs-same _)) }

pub store_run-requires-clause-may : goal.store_run-requires-clause-may
store_run-requires-clause-may g c κs within =
    let x = c.args.self.now in
    let works = c.requires.may.works in
    let some : 0 < length x.extract.items = some_list x.extract.items (λ none. absurd (false≢true (sym c.if-is_empty.false ∙ c.is_empty.ensures.1 none))) in
    record {
      runs = works.runs;
      few = c.requires.may.few;
      some = omega (arith, some, ap length c.rest.ensures);
      most = omega (arith, works.within, works.room, parts_within x.sizes works.runs.range, works.runs.budget, ap length c.rest.ensures);
    }

pub returns-in_err-store_run : goal.returns-in_err-store_run
returns-in_err-store_run g c =
    let x = c.args.self.now in
    let given = c.from_residual.ensures.1 in
    let made = c.store_run.ensures in
    let few = c.rest.ensures in
    let some : 0 < length x.extract.items = some_list x.extract.items (λ none. absurd (false≢true (sym c.if-is_empty.false ∙ c.is_empty.ensures.1 none))) in
    record {
      leaves = leaves-refused x c.store_run.new.body c.store_run.new.supply c.requires.may.works made.kept.body made.kept.no_row [] (omega (arith, some, ap length few)) (omega (arith, ap length few)) given c.in_err-store_run.ensures;
      emptied = not_ok _ _ _ given;
      pays = pays-more (omega (arith, ap length few)) (omega arith) (omega arith) (omega arith) (pays-given given c.in_err-store_run.ensures.pays);
    }

pub settle-requires-clause-works : goal.settle-requires-clause-works
settle-requires-clause-works g c κs within =
    let x = c.args.self.now in
    let made = c.store_run.ensures in
    let moved = subst (λ l. Moved g.S.Slot.shown g.R.Ord.cmp g.R.Record.record_of g.R.Record.WIDTH x.sizes l x.body c.store_run.new.body x.supply c.store_run.new.supply) c.rest.ensures c.in_ok-store_run.ensures.stored in
    let gone = c.clear.ensures in
    (holds-rest x c.store_run.new.body c.store_run.new.supply c.requires.may.works made.kept.body made.kept.no_row c.clear.new.self (ap (λ v. v.room) gone) (ap (λ v. v.items) gone) moved).works

pub returns : goal.returns
returns g c =
    let shown = g.S.Slot.shown in
    let x = c.args.self.now in
    let b = c.store_run.new.body in
    let t = c.store_run.new.supply in
    let v = c.clear.new.self in
    let made = c.store_run.ensures in
    let moved = subst (λ l. Moved shown g.R.Ord.cmp g.R.Record.record_of g.R.Record.WIDTH x.sizes l x.body b x.supply t) c.rest.ensures c.in_ok-store_run.ensures.stored in
    let room = ap (λ v. v.room) c.clear.ensures in
    let none = ap (λ v. v.items) c.clear.ensures in
    let kept = kept-step x b t v x.sources made.kept.body made.kept.no_row same-sources room (λ within. omega (arith, ap length none)) in
    let stays : StoreStays shown x (record x { body = b; supply = t; extract = v }) = record { kept = kept; extract = omega (arith, ap length none) } in
    let two = c.settle.ensures in
    let leaves = two.levels.leaves in
    record {
      leaves = leaves-more stays (holds-rest x b t c.requires.may.works made.kept.body made.kept.no_row v room none moved) leaves;
      emptied = ok-map c.settle.result (λ few. record { no_extract = empty_list c.settle.new.self.extract.items (omega (arith, leaves.stays.extract, ap length none)); few = few }) two.few;
      pays = pays-next (omega (arith, ap length c.rest.ensures)) (omega arith) (omega (arith, ap length c.rest.ensures)) (omega arith) (pays_ok c.in_ok-store_run.ensures.pays) two.levels.pays;
    }

pub store_run-requires-clause-ascends : goal.store_run-requires-clause-ascends
store_run-requires-clause-ascends g c = grind arith
