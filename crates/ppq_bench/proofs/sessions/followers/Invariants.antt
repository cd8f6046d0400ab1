use Rattle.std.proofs.Common.{◌≡◌, ◌<◌, All, false}
use Rattle.ppq_session.specs.ppq_pass.ppq_record.Order.{is_before}
use Rattle.ppq_session.specs.ppq_pass.ppq_record.Pair.{pair_cmp}
use Rattle.ppq_bench.proofs.sessions.followers.Given as goal

abbrev pub invariant-following : goal.invariant-following
invariant-following l = record {
  named : All (λ line. line.pass < l.workers) l.lines.items;
  above : All (λ line. is_before pair_cmp line.record l.limit ≡ false) l.lines.items;
}
