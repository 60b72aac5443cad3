use Rattle.ov_dump.proofs.Returning.{differ}
use Rattle.ov_dump.proofs.names_in_graph_file_theorems.names_differ.Goals as goal

pub returns : goal.returns
returns c = differ
