use Rattle.ov_board.proofs.claim_board.Board.look.Given as goal

abbrev pub ghosts-look_as : goal.ghosts-look_as
ghosts-look_as a = record { number = a.index }
