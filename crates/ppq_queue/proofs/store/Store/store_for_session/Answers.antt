use Rattle.std.proofs.Common.{length, ap, sym, ◌∙◌, arith}
use Rattle.std.proofs.lemmas.Bool.{false≢true}
use Rattle.ppq_queue.proofs.Moves.{ok-map}
use Rattle.ppq_queue.proofs.Took.{empty_list}
use Rattle.ppq_spill.proofs.ppq_counts.Accounts.{costs-more}
use Rattle.ppq_queue.proofs.Paying.{ok_pays, pays_ok, pays-more, pays-next, pays-given}
use Rattle.ppq_queue.proofs.Stores.{leaves-after, leaves-given, not_ok}
use Rattle.ppq_queue.proofs.store.Store.store_for_session.Goals as goal

pub returns-in_err-store_extract : goal.returns-in_err-store_extract
returns-in_err-store_extract g c =
    let given = c.from_residual.ensures.1 in
    record {
      rest = record {
        leaves = leaves-given given c.in_err-store_extract.ensures.leaves;
        emptied = not_ok _ _ _ given;
        pays = pays-more (omega arith) (omega arith) (omega arith) (omega arith) (pays-given given c.in_err-store_extract.ensures.pays);
      };
      merged = λ t. not_ok _ _ _ given;
    }

pub merge_buffers-requires-clause-may : goal.merge_buffers-requires-clause-may
merge_buffers-requires-clause-may g c κs within = (let e = c.in_ok-store_extract.ensures in record { works = e.leaves.holds.works; few = e.emptied.few })

pub returns-then-not-merges : goal.returns-then-not-merges
returns-then-not-merges g c =
    let one = c.in_ok-store_extract.ensures in
    record {
      rest = record { leaves = one.leaves; emptied = one.emptied; pays = ok_pays (costs-more (omega arith) (omega arith) (pays_ok one.pays)) };
      merged = λ t. absurd (false≢true (sym c.if-not-merges.true ∙ t));
    }

pub returns : goal.returns
returns g c =
    let one = c.in_ok-store_extract.ensures in
    let two = c.merge_buffers.ensures in
    let now = c.merge_buffers.new.self in
    let same = ap (λ n. n.block) one.leaves.stays.kept.sizes in
    record {
      rest = record {
        leaves = leaves-after one.leaves two.leaves;
        emptied = ok-map c.merge_buffers.result (λ half. record { no_extract = empty_list now.extract.items (omega (arith, two.leaves.stays.extract, ap length one.emptied.no_extract)); few = half.few }) two.idle;
        pays = pays-next (omega (arith, same)) (omega arith) (omega (arith, same)) (omega arith) (pays_ok one.pays) two.pays;
      };
      merged = λ t. ok-map c.merge_buffers.result (λ half. half.idle) two.idle;
    }

pub store_extract-requires-clause-works : goal.store_extract-requires-clause-works
store_extract-requires-clause-works g c = assumption
