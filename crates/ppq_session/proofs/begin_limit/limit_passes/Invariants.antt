use Rattle.std.specs.Prelude.{vec_capacity}
use Rattle.std.proofs.Common.{◌≡◌, ◌+◌, ◌≤◌, length, All}
use Rattle.ppq_pass.specs.Passed.{PassHolding, PassKey}
use Rattle.ppq_session.specs.BulkSession.{IsFresh}
use Rattle.ppq_session.specs.Limited.{LimitHolding, HoldsNothing}
use Rattle.ppq_session.specs.LimitSession.{IsNew}
use Rattle.ppq_session.proofs.begin_limit.limit_passes.Given as goal

abbrev pub invariant-limiting : goal.invariant-limiting
invariant-limiting g l = record {
  count : length l.list.items + length l.passes.items ≡ length l.fn.passes.items;
  nothing : All HoldsNothing l.passes.items;
  fresh : All IsFresh l.passes.items;
  new : All IsNew l.list.items;
  limits : All (λ (p : LimitHolding g.row.S.Denot g.row.R.Denot). p.limit ≡ l.limit) l.list.items;
  keys : (key : PassKey g.row.S.Denot g.row.R.Denot)
      → All (λ (p : PassHolding g.row.S.Denot g.row.R.Denot). p.key ≡ key) l.fn.passes.items
      → All (λ (p : PassHolding g.row.S.Denot g.row.R.Denot). p.key ≡ key) l.passes.items × All (λ (p : LimitHolding g.row.S.Denot g.row.R.Denot). p.pass.key ≡ key) l.list.items;
  room : length l.list.items + length l.passes.items ≤ vec_capacity l.list;
}

abbrev pub decreases-limiting : goal.decreases-limiting
decreases-limiting g l = length l.passes.items
