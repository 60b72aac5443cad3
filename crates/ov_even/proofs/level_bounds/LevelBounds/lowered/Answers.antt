-- The level above the size of the cut becomes the upper bound, and fewer levels are still tried.
use Rattle.std.proofs.Common.{◌≡◌, ◌≢◌, ◌∙◌, ◌<◌, ◌+◌, ◌&&◌, Bool, nat_lt, sym, ap, subst, arith}
use Rattle.ov_even.specs.Code.Narrowing.{BoundsState, SplitsWith, tries_left}
use Rattle.ov_even.proofs.AnalysisSteps.Bounding.{lowered_bounds}
use Rattle.ov_even.proofs.AnalysisSteps.Tries.{stopped_fewer}
use Rattle.ov_even.proofs.level_bounds.LevelBounds.lowered.Goals.{then-self, else-self}
use Rattle.ov_even.proofs.level_bounds.LevelBounds.lowered.Goals as goal

pub between-requires-clause-bounds : goal.between-requires-clause-bounds
between-requires-clause-bounds c =
    let s = c.self.inside in
    let is = c.self.invariant in
    let split = subst (λ (b : BoundsState). SplitsWith b.search.graph b.search.members b.search.level c.args.size)
    (sym c.self.view_is) c.requires.split in
    lowered_bounds s.graph.now s.group.now s.low s.level s.high c.args.size is.0 is.1 is.2.most split

pub returns-clause-on : goal.returns-clause-on
returns-clause-on c =
    let s = c.self.inside in
    let is = c.self.invariant in
    let size = c.args.size in
    let split = subst (λ (b : BoundsState). SplitsWith b.search.graph b.search.members b.search.level size)
    (sym c.self.view_is) c.requires.split in
    let other = subst (λ (b : BoundsState). b.search.level ≢ b.low + 1) (sym c.self.view_is) c.requires.between in
    let bounds = lowered_bounds s.graph.now s.group.now s.low s.level s.high size is.0 is.1 is.2.most split in
    let few = split.few in
    let up = is.2.above in
    let most = is.2.most in
    let between : s.low + 1 < s.high = omega (arith, up, most, other) in
    let fewer = stopped_fewer s.low s.high s.level (size + 1) s.guesses is.2 between bounds.rises
    (omega (arith, few)) in
    let guesses : c.if-self.guesses ≡ (s.guesses && nat_lt (s.level + 1) s.high) = elim c.if-self.branch [
      | then-self w ↦
          w.guesses-is ∙ ap (λ (b : Bool). b && nat_lt (s.level + 1) s.high) (sym w.if-self.true)
      | else-self w ↦
          w.guesses-is ∙ w.if-self.false
          ∙ ap (λ (b : Bool). b && nat_lt (s.level + 1) s.high) (sym w.if-self.false)
    ] in
    let same = ap (tries_left s.low (size + 1)) guesses in
    let left = ap (λ (b : BoundsState). b.search.left) c.self.view_is in
    let next = c.between.ensures.left in
    record {
      graph = c.between.ensures.graph ∙ ap (λ (b : BoundsState). b.search.graph) c.self.view_is;
      members = c.between.ensures.members ∙ ap (λ (b : BoundsState). b.search.members) c.self.view_is;
      fewer = omega (arith, fewer, left, next, same);
    }
