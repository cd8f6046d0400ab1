use Rattle.ppq_base_tests.proofs.tree.a_counted_step_is_a_match.Given as goal

abbrev pub ghosts-set_counted : goal.ghosts-set_counted
ghosts-set_counted g a = record { name = a.blank.name; parts = a.blank.parts }
