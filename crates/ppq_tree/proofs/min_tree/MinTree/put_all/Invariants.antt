use Rattle.ppq_tree.proofs.min_tree.MinTree.put_all.Given as goal

abbrev pub ghosts-put_all_counted : goal.ghosts-put_all_counted
ghosts-put_all_counted g a = record { name = a.blank.name; parts = a.blank.parts }
