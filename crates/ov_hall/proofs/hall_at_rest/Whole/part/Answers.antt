use Rattle.std.proofs.Common.{◌∙◌, ap, map}
use Rattle.ov_hall.specs.Passes.{first_seen, seen_alike}
use Rattle.ov_hall.proofs.Alike.{alike_drivers}
use Rattle.ov_hall.proofs.hall_at_rest.Whole.part.Goals as goal

pub returns-in-Ok-clause-all : goal.returns-in-Ok-clause-all
returns-in-Ok-clause-all g c =
    ap (map (λ t. t.driver)) (c.in-Ok.ensures.passes ∙ c.self.invariant.0.0)
    ∙ alike_drivers 0 g.N.HallName.drivers (first_seen c.self.inside.stand)

pub returns-in-Ok-clause-passes : goal.returns-in-Ok-clause-passes
returns-in-Ok-clause-passes g c =
    c.in-Ok.ensures.passes ∙ (c.self.invariant.0.0 ∙ ap (seen_alike 0 g.N.HallName.drivers) c.self.view_is)
