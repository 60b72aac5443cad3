use Rattle.ov_net.proofs.Steps.Members.{placed}
use Rattle.ov_net.proofs.nodes.Nodes.place.Goals as goal

pub returns-clause-key : goal.returns-clause-key
returns-clause-key c = placed c.get_index_of.result _ c.args.id c.get_index_of.ensures.index
