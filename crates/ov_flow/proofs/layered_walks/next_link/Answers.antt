-- Each bit that is set is a link that may be taken.
use Rattle.std.proofs.Common.{length, sym, subst, arith, rules, ℕ, List}
use Rattle.ov_graph.specs.Links.{Linked}
use Rattle.ov_graph.specs.Row.{HasBit}
use Rattle.ov_graph.proofs.EvenTest.Filtered.{linked_node}
use Rattle.ov_split.specs.Places.{net_by_place}
use Rattle.ov_flow.proofs.Seeking.{next_by_link}
use Rattle.ov_flow.proofs.Visiting.{tip_below}
use Rattle.ov_flow.proofs.layered_walks.next_link.Goals as goal

pub tip-node-requires : goal.tip-node-requires
tip-node-requires g c =
    let n = net_by_place c.args.net.now in
    let w = c.in-Some.w in
    let link : Linked n.graph c.args.at w = c.in-Some.ensures.some.holds.0 in
    let l = (c.requires.ready.placed.nodes w).0 (linked_node n.graph c.args.at w c.requires.ready.placed.net.graph
    link) in
    let e = c.requires.table.long in
    omega (arith, l, e)

pub returns-then-not-has-clause-hop : goal.returns-then-not-has-clause-hop
returns-then-not-has-clause-hop g c =
    let n = net_by_place c.args.net.now in
    let w = c.in-Some.w in
    let node = c.tip-node.result in
    let visited = c.args.layers.now.visited in
    let link : Linked n.graph c.args.at w = c.in-Some.ensures.some.holds.0 in
    let may = c.may_take.ensures c.if-may_take.true in
    let same = c.loop-w.invariant.visited in
    let fresh : ¬ HasBit visited node = λ h. absurd (cc (
      c.has.ensures.1 (subst (λ (r : List ℕ). HasBit r node) (sym same) h),
      c.if-not-has.true,
    )) in
    next_by_link n (length c.args.net.now.graph.nodes) c.args.from.now c.args.at w node visited c.requires.ready.placed
    c.requires.table link may.1 may.0 c.tip-node.ensures fresh

pub clear-requires : goal.clear-requires
clear-requires g c =
    let n = net_by_place c.args.net.now in
    let w = c.in-Some.w in
    let link : Linked n.graph c.args.at w = c.in-Some.ensures.some.holds.0 in
    let l = (c.requires.ready.placed.nodes w).0 (linked_node n.graph c.args.at w c.requires.ready.placed.net.graph
    link) in
    let room = c.requires.ready.room in
    (omega arith, omega (arith, l, room))

pub overflow_cast-way : goal.overflow_cast-way
overflow_cast-way g c =
    let n = net_by_place c.args.net.now in
    let w = c.in-Some.w in
    let link : Linked n.graph c.args.at w = c.in-Some.ensures.some.holds.0 in
    let l = (c.requires.ready.placed.nodes w).0 (linked_node n.graph c.args.at w c.requires.ready.placed.net.graph
    link) in
    let room = c.requires.ready.room in
    let few = c.requires.ready.placed.few in
    omega (arith, l, few)

pub may_take-requires : goal.may_take-requires
may_take-requires g c =
    let n = net_by_place c.args.net.now in
    let w = c.in-Some.w in
    let link : Linked n.graph c.args.at w = c.in-Some.ensures.some.holds.0 in
    let l = (c.requires.ready.placed.nodes w).0 (linked_node n.graph c.args.at w c.requires.ready.placed.net.graph
    link) in
    let room = c.requires.ready.room in
    (omega arith, omega (arith, l, room))

pub has-requires : goal.has-requires
has-requires g c =
    let n = net_by_place c.args.net.now in
    let w = c.in-Some.w in
    let link : Linked n.graph c.args.at w = c.in-Some.ensures.some.holds.0 in
    let l = (c.requires.ready.placed.nodes w).0 (linked_node n.graph c.args.at w c.requires.ready.placed.net.graph
    link) in
    let room = c.requires.ready.room in
    let node = tip_below (length c.args.net.now.graph.nodes) c.args.from.now w c.requires.table l in
    let is = c.tip-node.ensures in
    (omega arith, omega (arith, node, is, room))

pub loop-w-smaller : goal.loop-w-smaller
loop-w-smaller g c =
    let n = net_by_place c.args.net.now in
    let w = c.in-Some.w in
    let link : Linked n.graph c.args.at w = c.in-Some.ensures.some.holds.0 in
    let l = (c.requires.ready.placed.nodes w).0 (linked_node n.graph c.args.at w c.requires.ready.placed.net.graph
    link) in
    let room = c.requires.ready.room in
    let reached = c.in-Some.ensures.some.reached in
    omega (arith, l, reached)

pub loop-w-preserved : goal.loop-w-preserved
loop-w-preserved g c =
    let n = net_by_place c.args.net.now in
    let w = c.in-Some.w in
    let link : Linked n.graph c.args.at w = c.in-Some.ensures.some.holds.0 in
    let l = (c.requires.ready.placed.nodes w).0 (linked_node n.graph c.args.at w c.requires.ready.placed.net.graph
    link) in
    let room = c.requires.ready.room in
    record { visited = search rules; long = search rules; fits = omega (arith, l) }
