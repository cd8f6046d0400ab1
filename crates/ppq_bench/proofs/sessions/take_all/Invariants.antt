use Rattle.std.proofs.Common.{◌≡◌, ◌<◌, All, false}
use Rattle.ppq_session.specs.ppq_pass.ppq_record.Order.{is_before}
use Rattle.ppq_session.specs.ppq_pass.ppq_record.Pair.{pair_cmp}
use Rattle.ppq_session.specs.LimitSessions.{AreGoing}
use Rattle.ppq_bench.proofs.sessions.take_all.Given as goal

-- the lines of the next batch may be pushed
abbrev pub invariant-batches : goal.invariant-batches
invariant-batches g l = record {
  named : All (λ line. line.pass < l.workers) l.lines.items;
  above : All (λ line. is_before pair_cmp line.record l.limit ≡ false) l.lines.items;
  workers : l.session.front.sizes.workers ≡ l.workers;
  limit : l.session.front.limit ≡ l.limit;
  going : AreGoing l.session;
}
