-- What is kept is a net.
use Rattle.std.proofs.Common.{◌≤◌, length, subst}
use Rattle.ov_graph.specs.Links.{most_of_any_graph}
use Rattle.ov_split.specs.SplitNetState.{SplitNetState, IsSplitNet}
use Rattle.ov_split.proofs.ByNames.NetPlaces.{places_of}
use Rattle.ov_split.proofs.ByNames.Rows.{net_of}
use Rattle.ov_split.proofs.source_and_targets_net.SplitNet.places.Goals as goal

pub returns-clause-net : goal.returns-clause-net
returns-clause-net g c =
    let s = c.self.inside in
    subst IsSplitNet c.self.view_is (net_of s.graph.now s.avoided.words s.source s.targets.words c.self.invariant.0)

pub returns-clause-placed : goal.returns-clause-placed
returns-clause-placed g c =
    let s = c.self.inside in
    let net = subst IsSplitNet c.self.view_is (net_of s.graph.now s.avoided.words s.source s.targets.words
    c.self.invariant.0) in
    let few = subst (λ (n : SplitNetState). length n.graph.nodes ≤ most_of_any_graph) c.self.view_is
    c.nodes.ensures.within in
    places_of c.args.self.now net few
