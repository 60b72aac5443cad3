use Rattle.std.proofs.Common.{ap, ◌∙◌}
use Rattle.ov_plum.specs.Code.Waiting.{waiting_in}
use Rattle.ov_plum.proofs.InMap.{none_is}
use Rattle.ov_plum.proofs.waiting.Waiting.new.Goals as goal

pub returns : goal.returns
returns c = ap waiting_in c.new.ensures ∙ none_is
