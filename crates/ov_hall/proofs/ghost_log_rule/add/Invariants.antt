use Rattle.std.specs.Prelude.{[], ◌∷◌, ◌++◌}
use Rattle.ov_snap.specs.Logs.{mark}
use Rattle.ov_hall.specs.Code.Rules.{log_in}
use Rattle.ov_hall.proofs.ghost_log_rule.add.Given as goal

abbrev pub ghosts-add_as : goal.ghosts-add_as
ghosts-add_as a = record { log = log_in a.all.now.me.0 ++ mark a.driver a.filed a.core.now ∷ [] }
