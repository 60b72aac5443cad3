use Rattle.ov_dump.proofs.Linking.{graph_one}
use Rattle.ov_dump.proofs.dump_determines_graph.one_graph.Goals as goal

pub returns : goal.returns
returns c = graph_one
