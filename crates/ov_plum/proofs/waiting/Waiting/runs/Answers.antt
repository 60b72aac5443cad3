use Rattle.std.proofs.Common.{ap, ◌∙◌}
use Rattle.std.specs.FinSet as set
use Rattle.ov_plum.specs.Code.Waiting.{WaitingState}
use Rattle.ov_plum.proofs.InMap.{runs_in}
use Rattle.ov_plum.proofs.waiting.Waiting.runs.Goals as goal

pub returns : goal.returns
returns c = c.contains.ensures ∙ runs_in _ _
    ∙ ap (λ (w : WaitingState). set.contains w.running c.args.id.now) c.self.view_is
