use Rattle.ov_grow.proofs.OnePhase.{one_growth}
use Rattle.ov_grow.proofs.options_determine_growth.one_growth.Goals as goal

pub returns : goal.returns
returns c = one_growth
