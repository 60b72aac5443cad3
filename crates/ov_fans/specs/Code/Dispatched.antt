-- A settler, however wide its sets of places are.
use Rattle.ov_fans.specs.Group.{SettlerState}
use Rattle.ov_fans.specs.declared.piece_solver.Kept.{Kept}
use Rattle.ov_fans.specs.declared.piece_solver.Kept.TheVariants.{Few, Many}

abbrev pub settler_of : Kept → SettlerState
settler_of (Few s) = s
settler_of (Many s) = s.value
