-- What was gathered is exact.
use Rattle.example_programs.proofs.Telling.{all_told}
use Rattle.example_programs.proofs.driving.drive_hall.Goals as goal

pub returns : goal.returns
returns g c = all_told g.N.HallName.drivers c.in-Ok.all c.in-Ok.ensures.gathered.1.exact
