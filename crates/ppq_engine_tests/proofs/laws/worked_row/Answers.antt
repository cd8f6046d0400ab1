use Rattle.std.proofs.Common.{refl}
use Rattle.std.specs.Fmt.{digits}
use Rattle.ppq_record.specs.Order.{in_order, put_in_order}
use Rattle.ppq_engine_tests.proofs.laws.worked_row.Goals as goal

pub returns-clause-output : goal.returns-clause-output
unfolding in_order put_in_order digits
returns-clause-output c = refl

pub returns-clause-load : goal.returns-clause-load
unfolding in_order put_in_order
returns-clause-load c = refl

pub returns-clause-crest : goal.returns-clause-crest
unfolding in_order put_in_order
returns-clause-crest c = refl

pub returns-clause-output_deferred : goal.returns-clause-output_deferred
unfolding in_order put_in_order digits
returns-clause-output_deferred c = refl

pub returns-clause-load_deferred : goal.returns-clause-load_deferred
unfolding in_order put_in_order
returns-clause-load_deferred c = refl

pub returns-clause-crest_deferred : goal.returns-clause-crest_deferred
unfolding in_order put_in_order
returns-clause-crest_deferred c = refl
