use Rattle.ov_dump.proofs.OneShown.{one_shown}
use Rattle.ov_dump.proofs.names_in_graph_file_theorems.one_shown_name.Goals as goal

pub returns : goal.returns
returns c = one_shown
