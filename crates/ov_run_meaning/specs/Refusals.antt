-- The numbers of the refusals of lines as they run.
use Rattle.std.specs.Prelude.{ℕ}
use Rattle.ov_net.specs.Refusals as net
use Rattle.ov_snap.specs.Refusals as core
use Rattle.ov_run_meaning.specs.declared.refusal.Refusal.{Refusal}
use Rattle.ov_run_meaning.specs.declared.refusal.Refusal.TheVariants.{World, Core}

-- the number that is printed of a refusal: that of its fault
abbrev pub number_of : Refusal → ℕ
number_of (World fault) = net.number_of fault
number_of (Core fault) = core.number_of fault
