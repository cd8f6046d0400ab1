use Rattle.std.proofs.Common.{◌∙◌}
use Rattle.ppq_pool.proofs.Holding.{Takes-holds, Takes-after_looks, looked-more}
use Rattle.ppq_pool.proofs.pool.Pool.take.Goals as goal

pub loop-number-preserved : goal.loop-number-preserved
loop-number-preserved g c = record {
  pool = c.claim.ensures.pool;
  pass = c.claim.ensures.pass ∙ c.loop-number.invariant.pass;
  found = looked-more _ _ _ _ c.loop-number.invariant.found c.in_default.ensures.none;
}

pub returns-in-Some-clause-taken : goal.returns-in-Some-clause-taken
returns-in-Some-clause-taken g c = Takes-after_looks _ _ _ _ _ c.loop-number.invariant.found.same c.loop-number.invariant.found.looked c.in-Some.ensures.taken

pub returns-in-Some-clause-holds : goal.returns-in-Some-clause-holds
returns-in-Some-clause-holds g c = Takes-holds _ _ _ c.in-Some.ensures.taken
