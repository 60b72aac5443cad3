use Rattle.ov_components.proofs.Divided.{one_division}
use Rattle.ov_components.proofs.unique_components_theorem.one_division.Goals as goal

pub returns : goal.returns
returns c = one_division
