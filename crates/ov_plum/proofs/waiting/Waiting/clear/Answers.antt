use Rattle.std.proofs.Common.{ap, ◌∙◌}
use Rattle.ov_plum.specs.Code.Waiting.{waiting_in, waiting_cleared}
use Rattle.ov_plum.proofs.InMap.{cleared_is}
use Rattle.ov_plum.proofs.waiting.Waiting.clear.Goals as goal

pub returns : goal.returns
returns c = ap waiting_in c.remove.ensures ∙ cleared_is _ _ ∙ ap (waiting_cleared c.args.id.now) c.self.view_is
