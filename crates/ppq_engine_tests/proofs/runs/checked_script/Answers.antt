use Rattle.std.proofs.Common.{◌≡◌, ◌∙◌, sym, ap}
use Rattle.ppq_engine.specs.ppq_script.Checking.{with_sizes}
use Rattle.ppq_engine.proofs.Lengths.{keeps_lengths}
use Rattle.ppq_engine.proofs.Results.{if-some}
use Rattle.ppq_engine_tests.proofs.runs.checked_script.Goals as goal

pub returns-clause-lengths : goal.returns-clause-lengths
returns-clause-lengths g c = λ files is.
    let script = c.check_files.new.script in
    let old = c.in-Ok.script in
    keeps_lengths files script old.commands
    (if-some (g.L.Library.told c.args.library.now) (λ fs. script.commands ≡ with_sizes fs old.names old.commands) files (sym c.check_files.ensures.kept ∙ is) c.in-Ok-check_files.ensures.lengths
    ∙ ap (λ names. with_sizes files names old.commands) (sym c.check_files.ensures.same.names))
