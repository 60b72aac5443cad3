use Rattle.ov_dump.proofs.Returning.{are_read}
use Rattle.ov_dump.proofs.names_in_graph_file_theorems.names_are_read.Goals as goal

pub returns : goal.returns
returns c = are_read
