use Rattle.ppq_base_tests.proofs.tree.all_leaves_cost_one_match_less_than_leaves.Given as goal

abbrev pub ghosts-set_all_counted : goal.ghosts-set_all_counted
ghosts-set_all_counted g a = record { name = a.blank.name; parts = a.blank.parts }
