use Rattle.ov_test_worlds.proofs.hall.analyses_beside.analysis_beside_steps.Given as goal

abbrev pub ghosts-analyse_beside : goal.ghosts-analyse_beside
ghosts-analyse_beside g a = record { table = a.opening.table; drivers = a.opening.drivers; params = a.params }
