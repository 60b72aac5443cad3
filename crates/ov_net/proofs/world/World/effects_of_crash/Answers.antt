use Rattle.std.proofs.Common.{◌++◌, [], ◌∷◌, refl, ap, ◌∙◌}
use Rattle.ov_net.specs.declared.journal_entry_and_changes.Change.TheVariants.{Gone}
use Rattle.ov_net.proofs.Steps.EventEffects.{crash_effects}
use Rattle.ov_net.proofs.world.World.effects_of_crash.Goals as goal

pub returns-clause-effects : goal.returns-clause-effects
returns-clause-effects c =
    crash_effects c.args.self.now.net c.args.node
    (record { taken = _; node = _; packets = c.new.result; changes = c.new-2.result; delivery = _ }) c.requires.born
    c.requires.live refl refl c.new.ensures.items
    (c.new-2.ensures ∙ c.in_ok-push.ensures.items ∙ ap (λ v. v ++ Gone c.args.node ∷ []) c.in_ok-changes.ensures.items)
    refl
