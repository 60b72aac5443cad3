use Rattle.std.proofs.Common.{ap, sym, ◌∙◌}
use Rattle.ov_plum.specs.Notes.{oldest}
use Rattle.ov_plum.specs.PlumState.{PlumState}
use Rattle.ov_plum.proofs.Firing.{stops}
use Rattle.ov_plum.proofs.plum.Plum.plan_timer.Goals as goal

pub returns-in_default-clause-allowed : goal.returns-in_default-clause-allowed
returns-in_default-clause-allowed c =
    let id = c.args.id in
    let runs = sym c.if-not-has_timer.ensures.value in
    let none = sym (c.in_default.ensures ∙ ap (λ (t : PlumState). oldest id t.notes) c.self.view_is) in
    let quiet = c.quiet.ensures in
    stops c.args.self.now id c.quiet.result runs none quiet.plum_change quiet.sends quiet.delivered quiet.len
