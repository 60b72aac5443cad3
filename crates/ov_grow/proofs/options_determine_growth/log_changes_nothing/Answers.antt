use Rattle.ov_grow.proofs.LogAside.{log_changes_nothing}
use Rattle.ov_grow.proofs.options_determine_growth.log_changes_nothing.Goals as goal

pub returns : goal.returns
returns c = log_changes_nothing
