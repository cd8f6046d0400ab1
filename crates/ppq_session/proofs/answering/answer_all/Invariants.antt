use Rattle.std.specs.Prelude.{vec_capacity}
use Rattle.std.proofs.Common.{◌≡◌, take}
use Rattle.ppq_session.proofs.Answered.{SoFar}
use Rattle.ppq_session.proofs.answering.answer_all.Given as goal

abbrev pub invariant-loop-i : goal.invariant-loop-i
invariant-loop-i g l = record {
  so_far : SoFar g.R.Ord.cmp (take l.i l.asks) l.answers.items l.fn.front l.front;
  room : vec_capacity l.answers ≡ vec_capacity l.fn.answers;
}
