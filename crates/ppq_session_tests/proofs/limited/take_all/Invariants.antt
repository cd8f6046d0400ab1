use Rattle.std.proofs.Common.{◌≡◌}
use Rattle.ppq_session_tests.proofs.limited.take_all.Given as goal

abbrev pub invariant-taking : goal.invariant-taking
invariant-taking g l = l.front ≡ record l.fn.front { bag = l.front.bag; slots = l.front.slots; run_buffers = l.front.run_buffers; in_extract = l.front.in_extract; size = l.front.size; popped = l.front.popped; failed = l.front.failed }
