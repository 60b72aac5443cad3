use Rattle.std.proofs.Common.{subst}
use Rattle.ov_ids.specs.Members.{Has}
use Rattle.ov_net.specs.Net.{IsGone, LivesAs}
use Rattle.ov_grow.specs.Phases.{IsCrashedNeighbour}
use Rattle.ov_grow.specs.Growth.{IsFirstOf}
use Rattle.ov_grow.specs.Code.Standing.{growth_of}
use Rattle.ov_grow.proofs.Living.{some_weaker}
use Rattle.ov_grow.proofs.growth_in_progress.Growing.first_crashed_at.Goals as goal

pub returns-in-Some-clause-some : goal.returns-in-Some-clause-some
returns-in-Some-clause-some c = some_weaker c.first_crashed_of.result
    (IsFirstOf (IsGone c.args.self.now.recording.core.world.net) c.active.result.now)
    (IsCrashedNeighbour (growth_of c.args.self.now) c.args.node) (λ a first. (
      c.in-Some.peer.now,
      subst (λ w. LivesAs w.net c.args.node c.in-Some.peer.now) c.world.ensures c.in-Some.ensures.some,
      subst (λ xs. Has xs a) c.active.ensures.value first.has,
      first.holds,
    )) c.first_crashed_of.ensures.some
