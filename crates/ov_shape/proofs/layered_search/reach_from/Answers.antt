-- One neighbour more, and all.
use Rattle.std.proofs.Common.{arith}
use Rattle.ov_shape.proofs.ShapeOfGraph.Adding.{both_begun, both_more, reached_with, next_with}
use Rattle.ov_shape.proofs.layered_search.reach_from.Goals as goal

pub next_outside-requires : goal.next_outside-requires
next_outside-requires g c = (omega arith, (c.requires.place, c.requires.room))

pub put-requires : goal.put-requires
put-requires g c =
    let l = c.in-Some.ensures.some.holds.0.0 in
    let room = c.requires.room in
    (omega arith, omega (arith, l, room))

pub put-requires-in-Some : goal.put-requires-in-Some
put-requires-in-Some g c =
    let l = c.in-Some.ensures.some.holds.0.0 in
    let room = c.requires.room in
    (omega arith, omega (arith, l, room))

pub overflow_add-after : goal.overflow_add-after
overflow_add-after g c =
    let l = c.in-Some.ensures.some.holds.0.0 in
    let within = c.nodes.ensures.within in
    omega (arith, l, within)

pub neighbours-init : goal.neighbours-init
neighbours-init g c = record {
  adding = both_begun c.args.graph.now c.args.place c.args.reached.now c.args.next.now;
  fits = omega arith;
}

pub neighbours-preserved : goal.neighbours-preserved
neighbours-preserved g c =
    let l = c.in-Some.ensures.some.holds.0.0 in
    record {
      adding = both_more c.args.graph.now c.args.place c.args.reached.now c.neighbours.reached c.args.next.now
          c.neighbours.next c.put.new.row c.put-in-Some.new.row c.neighbours.after c.in-Some.q
          c.neighbours.invariant.adding c.in-Some.ensures.some c.put.ensures c.put-in-Some.ensures;
      fits = omega (arith, l);
    }

pub returns-clause-reached : goal.returns-clause-reached
returns-clause-reached g c =
    reached_with c.args.graph.now c.args.place c.args.reached.now c.neighbours.reached c.args.next.now c.neighbours.next
    c.neighbours.after c.neighbours.invariant.adding c.in_default.ensures.none

pub returns-clause-next : goal.returns-clause-next
returns-clause-next g c =
    next_with c.args.graph.now c.args.place c.args.reached.now c.neighbours.reached c.args.next.now c.neighbours.next
    c.neighbours.after c.neighbours.invariant.adding c.in_default.ensures.none
