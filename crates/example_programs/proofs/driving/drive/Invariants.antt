use Rattle.example_programs.proofs.driving.drive.Given as goal

abbrev pub ghosts-drive_hall : goal.ghosts-drive_hall
ghosts-drive_hall g a = record { table = a.opening.table; drivers = 2; params = a.params }
