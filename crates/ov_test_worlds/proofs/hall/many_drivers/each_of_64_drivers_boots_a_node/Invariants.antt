use Rattle.ov_test_worlds.proofs.hall.many_drivers.each_of_64_drivers_boots_a_node.Given as goal

abbrev pub ghosts-boot_by_all : goal.ghosts-boot_by_all
ghosts-boot_by_all g a = record { table = a.opening.table; drivers = a.opening.drivers; params = a.params }
