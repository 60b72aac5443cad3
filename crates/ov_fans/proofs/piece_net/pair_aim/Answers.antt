-- The aim of a pair, by the places that are kept.
use Rattle.std.proofs.Common.{◌↔◌, ◌<◌, ℕ, length, subst, arith}
use Rattle.ov_graph.specs.Links.{LinkGraph, Linked}
use Rattle.ov_graph.specs.Paths.{node_at}
use Rattle.ov_graph.specs.Row.{HasBit}
use Rattle.ov_fans.specs.Pieces.{member_at}
use Rattle.ov_fans.proofs.PieceNets.Aimed.{pair_aimed}
use Rattle.ov_fans.proofs.PieceNets.Ranks.{members_rise}
use Rattle.ov_fans.proofs.piece_net.pair_aim.Goals as goal

pub returns : goal.returns
returns g c =
    let g = c.args.group.now.graph in
    let q = c.args.group.now.members in
    let i = c.args.i in
    let j = c.args.j in
    let other = c.place_in_graph-other.result in
    let row = c.neighbour_set.result in
    let own = c.graph.ensures in
    let need = c.requires in
    let at = c.place_in_graph.ensures in
    let off = c.place_in_graph-other.ensures in
    let there = subst (λ (h : LinkGraph). (p : ℕ)
    → HasBit row p ↔ ((p < length h.nodes) × Linked h (node_at h other) (node_at h p))) own.graph
    c.neighbour_set.ensures.set in
    let bits = subst (λ (b : ℕ). (p : ℕ) → HasBit row p ↔ ((p < length g.nodes) × Linked g b (node_at g p))) off.there
    there in
    pair_aimed g (member_at q i) (member_at q j) c.place_in_graph.result other row own.is_graph
    (λ e. let r = members_rise q i j own.group.ascends need.low need.less need.high in omega (arith, r, e))
    need.apart at.below at.there off.below off.there bits
