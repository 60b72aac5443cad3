-- The level becomes the lower bound, and fewer levels are still tried.
use Rattle.std.proofs.Common.{◌∙◌, sym, ap, subst, arith}
use Rattle.ov_even.specs.Levels.{IsLevelGood}
use Rattle.ov_even.specs.Code.Narrowing.{BoundsState}
use Rattle.ov_even.proofs.AnalysisSteps.Bounding.{raised_bounds}
use Rattle.ov_even.proofs.AnalysisSteps.Tries.{cleared_fewer}
use Rattle.ov_even.proofs.level_bounds.LevelBounds.raised.Goals as goal

pub between-requires-clause-bounds : goal.between-requires-clause-bounds
between-requires-clause-bounds c =
    let s = c.self.inside in
    let is = c.self.invariant in
    let good = subst (λ (b : BoundsState). IsLevelGood b.search.graph b.search.members b.search.level)
    (sym c.self.view_is) c.requires in
    raised_bounds s.graph.now s.group.now s.low s.level s.high is.0 is.1 is.2.most good

pub returns-clause-on : goal.returns-clause-on
returns-clause-on c =
    let s = c.self.inside in
    let is = c.self.invariant in
    let good = subst (λ (b : BoundsState). IsLevelGood b.search.graph b.search.members b.search.level)
    (sym c.self.view_is) c.requires in
    let bounds = raised_bounds s.graph.now s.group.now s.low s.level s.high is.0 is.1 is.2.most good in
    let fewer = cleared_fewer s.low s.high s.level s.guesses is.2 bounds.rises in
    let left = ap (λ (b : BoundsState). b.search.left) c.self.view_is in
    let next = c.between.ensures.left in
    record {
      graph = c.between.ensures.graph ∙ ap (λ (b : BoundsState). b.search.graph) c.self.view_is;
      members = c.between.ensures.members ∙ ap (λ (b : BoundsState). b.search.members) c.self.view_is;
      fewer = omega (arith, fewer, left, next);
    }
