use Rattle.std.proofs.Common.{◌≡◌, ◌<◌, [], length, ap, refl, arith}
use Rattle.std.proofs.lemmas.Grind.{common_steps}
use Rattle.ppq_queue.specs.Resting.{count_of}
use Rattle.ppq_queue.specs.Stores.{FailsAlone, Refuses}
use Rattle.ppq_queue.proofs.Moves.{ok-map}
use Rattle.ppq_spill.proofs.ppq_counts.Accounts.{costs-same}
use Rattle.ppq_queue.proofs.Paying.{ok_pays, pays_ok, pays-then, pays-given}
use Rattle.ppq_queue.proofs.Stores.{kept-same, holds-same, kept-more, holds-more, refused-alone, err-map, alone, not_ok, not_ready, on_given, none_given}
use Rattle.ppq_queue.proofs.store.Store.make_ready.Goals as goal

pub returns-in_err-settle : goal.returns-in_err-settle
returns-in_err-settle g c =
    let e = c.in_err-settle.field-0.0 in
    let given = c.from_residual.ensures.1 in
    let x = c.args.self.now in
    let empty : x.extract.items ≡ [] = grind (arith, common_steps) in
    let some : 0 < count_of x.body = grind (arith, common_steps) in
    record {
      kept = c.settle.ensures.levels.leaves.stays.kept;
      readied = not_ok _ _ _ given;
      easy = not_ready (length x.extract.items) (count_of x.body) (ap length empty) some;
      crowded = none_given c.from_residual.result e given c.in_err-settle.ensures.levels.crowded;
      refused = on_given (Refuses g.S.Slot.shown g.R.Ord.cmp g.R.Record.record_of g.R.Record.WIDTH [] [] c.args.self.now c.settle.new.self) c.from_residual.result e given c.in_err-settle.ensures.levels.leaves.refused;
      pays = pays-given given c.in_err-settle.ensures.levels.pays;
    }

pub refill-requires-clause-may : goal.refill-requires-clause-may
refill-requires-clause-may g c κs within = (let e = c.in_ok-settle.ensures in record { works = e.levels.leaves.holds.works; few = e.few })

pub returns : goal.returns
returns g c =
    let kept = c.settle.ensures.levels.leaves.stays.kept in
    let holds = c.in_ok-settle.ensures.levels.leaves.holds in
    let e = c.refill.ensures in
    let x = c.args.self.now in
    let empty : x.extract.items ≡ [] = grind (arith, common_steps) in
    let some : 0 < count_of x.body = grind (arith, common_steps) in
    record {
      kept = kept-more kept e.kept;
      readied = ok-map c.refill.result (λ ready. record { holds = holds-more kept holds ready.holds; some = ready.some }) e.readied;
      easy = not_ready (length x.extract.items) (count_of x.body) (ap length empty) some;
      crowded = alone (FailsAlone g.S.Slot.shown c.refill.new.self) c.refill.result e.failed (λ never. never);
      refused = err-map c.refill.result (refused-alone g.S.Slot.shown g.R.Ord.cmp g.R.Record.record_of g.R.Record.WIDTH [] [] c.args.self.now c.refill.new.self) e.failed;
      pays = pays-then (pays_ok c.in_ok-settle.ensures.levels.pays) e.pays;
    }

pub has_run-requires-after_bounds : goal.has_run-requires-after_bounds
has_run-requires-after_bounds g c = assumption

pub returns-then-not-has_run : goal.returns-then-not-has_run
returns-then-not-has_run g c = record { kept = kept-same; readied = record { holds = holds-same c.requires.works; some = grind arith }; easy = λ ready. (refl, refl); crowded = λ err. absurd (cc); refused = tt; pays = ok_pays (costs-same _) }

pub settle-requires-clause-works : goal.settle-requires-clause-works
settle-requires-clause-works g c = assumption

pub refill-requires-clause-empty : goal.refill-requires-clause-empty
refill-requires-clause-empty g c = grind (arith, common_steps)
