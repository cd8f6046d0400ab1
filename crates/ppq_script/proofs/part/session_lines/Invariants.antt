use Rattle.std.proofs.Common.{ℕ, ◌-◌, length}
use Rattle.ppq_script.specs.declared.session.Session.{Session}
use Rattle.ppq_script.specs.Parts.{commands_of, IsOpenIn}
use Rattle.ppq_script.specs.Words.{words}
use Rattle.ppq_script.proofs.Parts.{GoesOn}
use Rattle.ppq_script.proofs.part.session_lines.Given as goal

abbrev pub invariant-lines : goal.invariant-lines
invariant-lines g l =
    let w = words g.R.PartialEq g.R.PartialOrd g.R.Ord g.R.Record g.R.Fields in
    (workers : ℕ) (session : Session _) → IsOpenIn w workers session (commands_of l.items) → GoesOn w workers session (commands_of l.items) l.count

abbrev pub decreases-lines : goal.decreases-lines
decreases-lines g l = length l.items - l.count
