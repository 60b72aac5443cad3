-- The source is kept by its place.
use Rattle.std.proofs.Common.{◌≡◌, sym, subst}
use Rattle.ov_split.specs.SplitNetState.{SplitNetState, IsSplitNet}
use Rattle.ov_split.specs.Places.{net_by_place}
use Rattle.ov_split.proofs.ByNames.Rows.{net_of, source_placed}
use Rattle.ov_split.proofs.source_and_targets_net.SplitNet.source.Goals as goal

pub returns-clause-net : goal.returns-clause-net
returns-clause-net g c =
    let s = c.self.inside in
    subst IsSplitNet c.self.view_is (net_of s.graph.now s.avoided.words s.source s.targets.words c.self.invariant.0)

pub returns-clause-place : goal.returns-clause-place
returns-clause-place g c =
    let s = c.self.inside in
    subst (λ (n : SplitNetState). s.source ≡ (net_by_place n).source) c.self.view_is
    (sym (source_placed s.graph.now s.avoided.words s.source s.targets.words c.self.invariant.0))
