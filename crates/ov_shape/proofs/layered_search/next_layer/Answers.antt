-- The nodes of the layer one after another.
use Rattle.std.proofs.Common.{arith}
use Rattle.ov_graph.proofs.BitRows.Bits.{no_bits}
use Rattle.ov_shape.proofs.ShapeOfGraph.Layers.{layered_begun, layered_more, layered_next, layered_reached}
use Rattle.ov_shape.proofs.layered_search.next_layer.Goals as goal

pub reach_from-requires : goal.reach_from-requires
reach_from-requires g c =
    (omega arith, (c.requires.within c.in-Some.place c.in-Some.ensures.some.set, c.requires.room))

pub nodes-init : goal.nodes-init
nodes-init g c = record {
  layered = layered_begun c.args.graph.now c.args.front.now c.args.reached.now _ (no_bits g.row.W);
  fits = omega arith;
}

pub nodes-preserved : goal.nodes-preserved
nodes-preserved g c =
    let b = c.in-Some.ensures.fits in
    record {
      layered = layered_more c.args.graph.now c.args.front.now c.args.reached.now c.nodes.reached c.nodes.next
          c.reach_from.new.reached c.reach_from.new.next c.nodes.from c.in-Some.place c.in-Some.ensures.some
          c.nodes.invariant.layered c.reach_from.ensures.reached c.reach_from.ensures.next;
      fits = omega (arith, b);
    }

pub returns-clause-next : goal.returns-clause-next
returns-clause-next g c =
    layered_next c.args.graph.now c.args.front.now c.args.reached.now c.nodes.reached c.nodes.next c.nodes.from
    c.words_in_use-words.result c.words_in_use-words.ensures.words.enough c.requires.within c.in_default.ensures.none
    c.nodes.invariant.layered

pub returns-clause-reached : goal.returns-clause-reached
returns-clause-reached g c =
    layered_reached c.args.graph.now c.args.front.now c.args.reached.now c.nodes.reached c.nodes.next c.nodes.from
    c.nodes.invariant.layered
