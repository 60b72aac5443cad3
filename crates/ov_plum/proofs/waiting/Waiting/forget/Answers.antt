use Rattle.std.proofs.Common.{ap, ◌∙◌}
use Rattle.ov_plum.specs.Code.Waiting.{waiting_forgot}
use Rattle.ov_plum.proofs.InMap.{forgot_is}
use Rattle.ov_plum.proofs.waiting.Waiting.forget.Goals as goal

pub returns : goal.returns
returns c = forgot_is _ _ _ c.forget.ensures ∙ ap (waiting_forgot c.args.sender) c.self.view_is
