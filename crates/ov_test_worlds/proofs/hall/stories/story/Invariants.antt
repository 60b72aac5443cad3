use Rattle.ov_test_worlds.proofs.hall.stories.story.Given as goal

abbrev pub ghosts-tell : goal.ghosts-tell
ghosts-tell g a = record { table = a.opening.table; drivers = a.opening.drivers; params = a.params }
