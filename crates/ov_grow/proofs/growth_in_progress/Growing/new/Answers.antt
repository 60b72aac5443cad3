use Rattle.std.proofs.Common.{◌≡◌, ap, subst, ◌∙◌}
use Rattle.ov_net.specs.World.{opening_world}
use Rattle.ov_script.specs.Scripts.{opening}
use Rattle.ov_grow.specs.Growing.{begins, params_for}
use Rattle.ov_grow.proofs.OneGrowth.{same_growth}
use Rattle.ov_grow.proofs.growth_in_progress.Growing.new.Goals as goal

pub returns-clause-begins : goal.returns-clause-begins
returns-clause-begins c =
    let o = c.args.options.now in
    let params = c.params_for-params.ensures in
    let text = c.in_ok-recording.recording.script.text in
    same_growth (begins c.args.logged o) _ _
    (subst (λ h. text ≡ opening h (params_for o) o.seed)
    (c.as_str.ensures.value ∙ c.in_ok-heading.ensures.ok)
    (subst (λ p. text ≡ opening c.as_str.result.now p o.seed) params c.in_ok-recording.ensures.text))
    (ap (λ x. x.world) c.in_ok-recording.ensures.core ∙ ap (λ p. opening_world p) params) c.new-choices.ensures
    c.new-log.ensures

pub returns-clause-unborn : goal.returns-clause-unborn
returns-clause-unborn c = ap (λ x. x.world.net.nodes) c.in_ok-recording.ensures.core

pub returns-clause-params : goal.returns-clause-params
returns-clause-params c = ap (λ x. x.world.net.params) c.in_ok-recording.ensures.core ∙ c.params_for-params.ensures
