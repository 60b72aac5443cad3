-- Neighbours by place.
use Rattle.std.proofs.Common.{◌<◌, length, sym, subst, IfSome, IfNone}
use Rattle.ov_graph.specs.Neighbours.{IsFirst, HoldsNoMore, IsOutside}
use Rattle.ov_split.specs.SplitNetState.{SplitNetState, IsSplitNet}
use Rattle.ov_split.specs.Placed.{LinksOutside}
use Rattle.ov_split.specs.Places.{net_by_place}
use Rattle.ov_split.specs.Code.Rows.{net_kept}
use Rattle.ov_split.proofs.ByNames.Rows.{net_of, outside_placed, first_renamed, none_renamed}
use Rattle.ov_split.proofs.source_and_targets_net.SplitNet.next_outside.Goals as goal

pub returns-clause-net : goal.returns-clause-net
returns-clause-net g c =
    let s = c.self.inside in
    subst IsSplitNet c.self.view_is (net_of s.graph.now s.avoided.words s.source s.targets.words c.self.invariant.0)

pub returns-clause-some : goal.returns-clause-some
returns-clause-some g c =
    let s = c.self.inside in
    let p = c.args.p in
    let set = c.args.set.now in
    let result = c.next_outside.result in
    let l = subst (λ (n : SplitNetState). p < length n.graph.nodes) (sym c.self.view_is) c.requires in
    subst (λ (n : SplitNetState). IfSome result (IsFirst (LinksOutside (net_by_place n) p set) c.args.after))
    c.self.view_is
    (first_renamed result (IsOutside s.graph.now p set)
    (LinksOutside (net_by_place (net_kept s.graph.now s.avoided.words s.source s.targets.words)) p set) c.args.after
    (outside_placed s.graph.now s.avoided.words s.source s.targets.words c.self.invariant.0 set p l)
    c.next_outside.ensures.some)

pub returns-clause-none : goal.returns-clause-none
returns-clause-none g c =
    let s = c.self.inside in
    let p = c.args.p in
    let set = c.args.set.now in
    let result = c.next_outside.result in
    let l = subst (λ (n : SplitNetState). p < length n.graph.nodes) (sym c.self.view_is) c.requires in
    subst (λ (n : SplitNetState). IfNone result (HoldsNoMore (LinksOutside (net_by_place n) p set) c.args.after))
    c.self.view_is
    (none_renamed result (IsOutside s.graph.now p set)
    (LinksOutside (net_by_place (net_kept s.graph.now s.avoided.words s.source s.targets.words)) p set) c.args.after
    (outside_placed s.graph.now s.avoided.words s.source s.targets.words c.self.invariant.0 set p l)
    c.next_outside.ensures.none)
