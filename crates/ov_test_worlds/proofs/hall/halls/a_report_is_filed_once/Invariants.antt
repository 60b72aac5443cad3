use Rattle.ov_test_worlds.proofs.hall.halls.a_report_is_filed_once.Given as goal

abbrev pub ghosts-file_once : goal.ghosts-file_once
ghosts-file_once g a = record { table = a.opening.table; drivers = a.opening.drivers; params = a.params }
