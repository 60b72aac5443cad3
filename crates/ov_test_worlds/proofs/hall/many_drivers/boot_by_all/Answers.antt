-- The passes of all drivers are back, in order.
use Rattle.std.proofs.Common.{◌∙◌}
use Rattle.ov_test_worlds.proofs.hall.many_drivers.boot_by_all.Goals as goal

pub unite-whole-requires : goal.unite-whole-requires
unite-whole-requires g c = record { all = c.in_ok-passes.ensures ∙ c.in-Ok.ensures.all }
