use Rattle.ov_dump.proofs.Returning.{come_back}
use Rattle.ov_dump.proofs.names_in_graph_file_theorems.names_come_back.Goals as goal

pub returns : goal.returns
returns c = come_back
