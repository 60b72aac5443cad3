use Rattle.ov_net.proofs.Links.OneGraph.{links_one}
use Rattle.ov_net.proofs.journal_and_step_theorems.one_graph.Goals as goal

pub returns : goal.returns
returns c = links_one
