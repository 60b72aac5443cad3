-- The paths by place are paths of the nodes.
use Rattle.std.proofs.Common.{ℕ, List, map, length, subst}
use Rattle.ov_graph.specs.Paths.{node_at}
use Rattle.ov_split.specs.SplitNetState.{IsFanOf}
use Rattle.ov_split.specs.Places.{net_by_place}
use Rattle.ov_split.proofs.ByNames.ByPlace.{fan_by_place, placed_node}
use Rattle.ov_flow.specs.Flow.{FlowState, ArePlaces}
use Rattle.ov_flow.proofs.flow.Flow.paths.Goals as goal

pub returns-clause-fan : goal.returns-clause-fan
returns-clause-fan g c =
    let n = c.self.inside.net in
    let ends = c.self.inside.work.ends.items in
    let ps = c.in_ok-write_paths.field-0 in
    let fan = subst (λ (l : List ℕ). IsFanOf (net_by_place n) (length l) ps) c.deref.ensures.value
    c.in_ok-write_paths.ensures in
    subst (λ (v : FlowState). IsFanOf v.net v.held (map (map (node_at v.net.graph)) ps)) c.self.view_is
    (fan_by_place n c.self.invariant.0 (length ends) ps fan)

pub returns-clause-places : goal.returns-clause-places
returns-clause-places g c =
    let n = c.self.inside.net in
    let ps = c.in_ok-write_paths.field-0 in
    let fan = c.in_ok-write_paths.ensures in
    subst (λ (v : FlowState). ArePlaces v.net.graph ps) c.self.view_is
    (λ path h p k. (placed_node n c.self.invariant.0 p).0 ((fan.fan.each path h).2.nodes p k))
