use Rattle.std.proofs.lemmas.Result.{IfOk-weaker}
use Rattle.ov_grow.specs.Phases.{IsCutAt}
use Rattle.ov_grow.specs.Code.Standing.{MayCrash, growth_of}
use Rattle.ov_grow.proofs.Crashing.{cut_may_crash}
use Rattle.ov_grow.proofs.growth_in_progress.Growing.to_crash.Goals as goal

pub returns-in-Cut-clause-may : goal.returns-in-Cut-clause-may
returns-in-Cut-clause-may c =
    let s = growth_of c.args.self.now in
    IfOk-weaker c.cut_at.result (λ cut. IsCutAt s.world.journal c.args.settled cut.items)
    (λ cut. MayCrash cut.items s)
    (λ cut is. cut_may_crash c.args.settled s cut.items c.requires.live c.requires.lasting is) c.cut_at.ensures
