use Rattle.ov_run.proofs.engine.run_bytes.Given as goal

abbrev pub ghosts-run_in_hall : goal.ghosts-run_in_hall
ghosts-run_in_hall g a = record { table = a.opening.table; drivers = a.opening.drivers; params = a.params }
