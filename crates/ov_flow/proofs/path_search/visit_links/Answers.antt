-- Each neighbour that is not seen is one to which a link may be taken.
use Rattle.std.proofs.Common.{length, arith}
use Rattle.ov_ids.specs.Members.{Has}
use Rattle.ov_split.specs.Places.{net_by_place}
use Rattle.ov_flow.specs.Code.Walked.{table_of}
use Rattle.ov_flow.proofs.Visiting.{read_below, tip_below, visiting_first, link_below, link_room, link_taken}
use Rattle.ov_flow.proofs.Visiting.{visiting_all}
use Rattle.ov_flow.proofs.path_search.visit_links.Goals as goal

pub next_outside-requires : goal.next_outside-requires
next_outside-requires g c =
    let t = c.args.tree.now in
    let l = read_below (net_by_place c.args.net.now) (length c.args.net.now.graph.nodes) (table_of c.args.from.now)
    t.order.items t.parents.items t.ways.items c.args.at c.index.result.now c.requires.ready.placed
    c.requires.grown.is_tree c.requires.at c.index.ensures in
    (omega arith, (omega arith, l))

pub tip-node-requires : goal.tip-node-requires
tip-node-requires g c =
    let l = link_below (net_by_place c.args.net.now) (length c.args.net.now.graph.nodes) c.requires.ready.placed
    c.args.from.now
    c.requires.table c.args.tree.now c.loop-w.tree c.args.at c.loop-w.after c.in-Some.w 0 c.index.result.now
    c.index.ensures
    c.loop-w.invariant.visiting c.requires.at c.in-Some.ensures.some in
    let e = c.requires.table.long in
    omega (arith, l, e)

pub overflow_cast-w : goal.overflow_cast-w
overflow_cast-w g c =
    let l = link_below (net_by_place c.args.net.now) (length c.args.net.now.graph.nodes) c.requires.ready.placed
    c.args.from.now
    c.requires.table c.args.tree.now c.loop-w.tree c.args.at c.loop-w.after c.in-Some.w 0 c.index.result.now
    c.index.ensures
    c.loop-w.invariant.visiting c.requires.at c.in-Some.ensures.some in
    let few = c.requires.ready.placed.few in
    omega (arith, l, few)

pub reach-requires : goal.reach-requires
reach-requires g c =
    let l = link_below (net_by_place c.args.net.now) (length c.args.net.now.graph.nodes) c.requires.ready.placed
    c.args.from.now
    c.requires.table c.args.tree.now c.loop-w.tree c.args.at c.loop-w.after c.in-Some.w 0 c.index.result.now
    c.index.ensures
    c.loop-w.invariant.visiting c.requires.at c.in-Some.ensures.some in
    let room = c.requires.ready.room in
    let node = tip_below (length c.args.net.now.graph.nodes) c.args.from.now c.in-Some.w c.requires.table l in
    let is = c.tip-node.ensures in
    let longer = c.loop-w.invariant.visiting.more.order.0 in
    let at = c.requires.at in (
      omega arith,
      (
        omega (arith, longer, at),
        (
          omega (arith, node, is, room),
          link_room (net_by_place c.args.net.now) (length c.args.net.now.graph.nodes) c.requires.ready.placed
              c.args.from.now
              c.requires.table c.args.tree.now c.loop-w.tree c.args.at c.loop-w.after c.in-Some.w c.tip-node.result
              c.index.result.now c.index.ensures
              c.loop-w.invariant.visiting c.requires.at c.in-Some.ensures.some c.tip-node.ensures
              c.loop-w.invariant.room,
        ),
      ),
    )

pub put-requires : goal.put-requires
put-requires g c =
    let l = link_below (net_by_place c.args.net.now) (length c.args.net.now.graph.nodes) c.requires.ready.placed
    c.args.from.now
    c.requires.table c.args.tree.now c.loop-w.tree c.args.at c.loop-w.after c.in-Some.w 0 c.index.result.now
    c.index.ensures
    c.loop-w.invariant.visiting c.requires.at c.in-Some.ensures.some in
    let room = c.requires.ready.room in
    (omega arith, omega (arith, l, room))

pub has-requires : goal.has-requires
has-requires g c =
    let l = link_below (net_by_place c.args.net.now) (length c.args.net.now.graph.nodes) c.requires.ready.placed
    c.args.from.now
    c.requires.table c.args.tree.now c.loop-w.tree c.args.at c.loop-w.after c.in-Some.w 0 c.index.result.now
    c.index.ensures
    c.loop-w.invariant.visiting c.requires.at c.in-Some.ensures.some in
    let room = c.requires.ready.room in
    let node = tip_below (length c.args.net.now.graph.nodes) c.args.from.now c.in-Some.w c.requires.table l in
    let is = c.tip-node.ensures in
    (omega arith, omega (arith, node, is, room))

pub returns-then-has-clause-room : goal.returns-then-has-clause-room
returns-then-has-clause-room g c =
    c.reach.ensures.room (length c.args.net.now.graph.nodes) c.loop-w.invariant.room

pub loop-w-smaller : goal.loop-w-smaller
loop-w-smaller g c =
    let l = link_below (net_by_place c.args.net.now) (length c.args.net.now.graph.nodes) c.requires.ready.placed
    c.args.from.now
    c.requires.table c.args.tree.now c.loop-w.tree c.args.at c.loop-w.after c.in-Some.w 0 c.index.result.now
    c.index.ensures
    c.loop-w.invariant.visiting c.requires.at c.in-Some.ensures.some in
    let reached = c.in-Some.ensures.some.reached in
    omega (arith, l, reached)

pub loop-w-init : goal.loop-w-init
loop-w-init g c = record {
  visiting = visiting_first (net_by_place c.args.net.now) (table_of c.args.from.now) c.args.tree.now
      c.index.result.now c.requires.grown c.requires.clean;
  room = c.requires.room;
  fits = omega arith;
}

pub returns-then-has-clause-grown : goal.returns-then-has-clause-grown
returns-then-has-clause-grown g c =
    let taken = link_taken (net_by_place c.args.net.now) (length c.args.net.now.graph.nodes) c.requires.ready.placed
    c.args.from.now
    c.requires.table c.args.tree.now c.loop-w.tree c.args.at c.loop-w.after c.in-Some.w c.tip-node.result
    c.index.result.now c.index.ensures
    c.loop-w.invariant.visiting c.requires.at c.in-Some.ensures.some c.tip-node.ensures
    c.reach.new.tree c.put.new.row c.reach.ensures.grown c.reach.ensures.more c.reach.ensures.only
    c.reach.ensures.seen c.put.ensures in
    taken.grown

pub returns-then-has-clause-found : goal.returns-then-has-clause-found
returns-then-has-clause-found g c =
    let taken = link_taken (net_by_place c.args.net.now) (length c.args.net.now.graph.nodes) c.requires.ready.placed
    c.args.from.now
    c.requires.table c.args.tree.now c.loop-w.tree c.args.at c.loop-w.after c.in-Some.w c.tip-node.result
    c.index.result.now c.index.ensures
    c.loop-w.invariant.visiting c.requires.at c.in-Some.ensures.some c.tip-node.ensures
    c.reach.new.tree c.put.new.row c.reach.ensures.grown c.reach.ensures.more c.reach.ensures.only
    c.reach.ensures.seen c.put.ensures in
    taken.ended ((c.targets.ensures.places c.tip-node.result).0 (c.has.ensures.0 c.if-has.true))

pub loop-w-preserved : goal.loop-w-preserved
loop-w-preserved g c =
    let taken = link_taken (net_by_place c.args.net.now) (length c.args.net.now.graph.nodes) c.requires.ready.placed
    c.args.from.now
    c.requires.table c.args.tree.now c.loop-w.tree c.args.at c.loop-w.after c.in-Some.w c.tip-node.result
    c.index.result.now c.index.ensures
    c.loop-w.invariant.visiting c.requires.at c.in-Some.ensures.some c.tip-node.ensures
    c.reach.new.tree c.put.new.row c.reach.ensures.grown c.reach.ensures.more c.reach.ensures.only
    c.reach.ensures.seen c.put.ensures in
    let l = link_below (net_by_place c.args.net.now) (length c.args.net.now.graph.nodes) c.requires.ready.placed
    c.args.from.now
    c.requires.table c.args.tree.now c.loop-w.tree c.args.at c.loop-w.after c.in-Some.w 0 c.index.result.now
    c.index.ensures
    c.loop-w.invariant.visiting c.requires.at c.in-Some.ensures.some in
    let node = c.tip-node.result in
    let off : ¬ Has (net_by_place c.args.net.now).targets node =
    λ h. absurd (cc (c.has.ensures.1 ((c.targets.ensures.places node).1 h), c.if-has.false)) in
    record {
      visiting = taken.goes off;
      room = c.reach.ensures.room (length c.args.net.now.graph.nodes) c.loop-w.invariant.room;
      fits = omega (arith, l);
    }

pub returns-clause-found : goal.returns-clause-found
returns-clause-found g c =
    visiting_all (net_by_place c.args.net.now) (table_of c.args.from.now) c.args.tree.now c.loop-w.tree c.args.at
    c.index.result.now c.loop-w.after c.requires.at c.index.ensures c.loop-w.invariant.visiting
    c.in_default.ensures.none
