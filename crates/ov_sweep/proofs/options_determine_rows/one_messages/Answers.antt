use Rattle.ov_sweep.proofs.OneMessages.{one_messages}
use Rattle.ov_sweep.proofs.options_determine_rows.one_messages.Goals as goal

pub returns : goal.returns
returns c = one_messages
