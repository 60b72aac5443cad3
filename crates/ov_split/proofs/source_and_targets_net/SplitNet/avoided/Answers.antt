-- The bits that are kept are those of the places.
use Rattle.std.proofs.Common.{◌↔◌, ℕ, subst}
use Rattle.ov_ids.specs.Members.{Has}
use Rattle.ov_graph.specs.Row.{HasBit}
use Rattle.ov_split.specs.SplitNetState.{SplitNetState, IsSplitNet}
use Rattle.ov_split.specs.Places.{net_by_place}
use Rattle.ov_split.proofs.ByNames.Rows.{net_of, avoided_placed}
use Rattle.ov_split.proofs.source_and_targets_net.SplitNet.avoided.Goals as goal

pub returns-clause-net : goal.returns-clause-net
returns-clause-net g c =
    let s = c.self.inside in
    subst IsSplitNet c.self.view_is (net_of s.graph.now s.avoided.words s.source s.targets.words c.self.invariant.0)

pub returns-clause-places : goal.returns-clause-places
returns-clause-places g c =
    let s = c.self.inside in
    subst (λ (n : SplitNetState). (p : ℕ) → HasBit s.avoided.words p ↔ Has (net_by_place n).avoided p) c.self.view_is
    (avoided_placed s.graph.now s.avoided.words s.source s.targets.words c.self.invariant.0)
