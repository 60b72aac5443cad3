use Rattle.ov_hall.specs.Code.Rules.{log_in}
use Rattle.ov_hall.proofs.ghost_log_rule.look.Given as goal

abbrev pub ghosts-meet : goal.ghosts-meet
ghosts-meet a = record { log = log_in a.all.now.me.0 }
