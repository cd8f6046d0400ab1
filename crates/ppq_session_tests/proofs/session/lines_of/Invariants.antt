use Rattle.std.proofs.Common.{◌<◌, All}
use Rattle.ppq_session_tests.proofs.session.lines_of.Given as goal

abbrev pub invariant-lining : goal.invariant-lining
invariant-lining g l = All (λ line. line.pass < 2) l.lines.items
