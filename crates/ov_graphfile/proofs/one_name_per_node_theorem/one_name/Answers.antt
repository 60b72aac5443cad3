use Rattle.ov_graphfile.proofs.Sole.{one_name}
use Rattle.ov_graphfile.proofs.one_name_per_node_theorem.one_name.Goals as goal

pub returns : goal.returns
returns c = one_name
