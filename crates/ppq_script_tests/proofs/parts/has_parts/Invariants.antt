use Rattle.std.proofs.Common.{◌≡◌, true, drop}
use Rattle.ppq_script.specs.declared.session.Session.TheVariants.{Outside}
use Rattle.ppq_script.specs.Reading.{command_list}
use Rattle.ppq_script.specs.Sessions.{are_in_place}
use Rattle.ppq_script.specs.Words.{words}
use Rattle.ppq_script_tests.proofs.parts.has_parts.Given as goal

abbrev pub invariant-loop-part : goal.invariant-loop-part
invariant-loop-part g l = are_in_place (words g.R.PartialEq g.R.PartialOrd g.R.Ord g.R.Record g.R.Fields) l.script.workers Outside (drop l.place (command_list l.script)) ≡ true
