use Rattle.ov_test_refusals.proofs.halls.out_of_memory_changes_no_hall.Given as goal

abbrev pub ghosts-all_answer : goal.ghosts-all_answer
ghosts-all_answer g a = record { table = a.opening.table; drivers = a.opening.drivers; params = a.params }
