use Rattle.ov_test_worlds.proofs.hall.halls.write_read_back.Given as goal

abbrev pub ghosts-step_at_once : goal.ghosts-step_at_once
ghosts-step_at_once g a = record { table = a.opening.table; drivers = a.opening.drivers; params = a.params }
