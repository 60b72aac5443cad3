-- One layer more, and the end.
use Rattle.std.proofs.Common.{arith}
use Rattle.ov_ids.proofs.Members.{has_place}
use Rattle.ov_graph.specs.Paths.{node_at}
use Rattle.ov_shape.proofs.ShapeOfGraph.Counts.{few_picked}
use Rattle.ov_shape.proofs.ShapeOfGraph.Searching.{searching_begun, searching_more, searching_ended, step_of}
use Rattle.ov_shape.proofs.ShapeOfGraph.Searching.{next_within, count_fits, total_fits}
use Rattle.ov_shape.proofs.layered_search.search.Goals as goal

pub layers-init : goal.layers-init
layers-init g c = record {
  found = searching_begun c.args.graph.now c.args.place c.alone-front.result c.words_in_use-words.ensures.graph
      c.requires.place c.alone-front.ensures;
}

pub returns-then-more-eq0 : goal.returns-then-more-eq0
returns-then-more-eq0 g c =
    let h = c.args.graph.now in
    let w = c.words_in_use-words.ensures in
    let a = node_at h c.args.place in
    let row = c.layers.found.places in
    let front = c.layers.front in
    let next = c.next_layer-next.result in
    let n = c.count-more.ensures h.nodes (next_within h front row next c.next_layer-next.ensures.next) w.words.enough in
    let z = c.if-more-eq0.true in
    searching_ended h a front row next _ w.graph (has_place h.nodes c.args.place 0 c.requires.place) w.within
    c.layers.invariant.found c.next_layer-next.ensures.next c.next_layer-next.ensures.reached (omega (arith, n, z))

pub overflow_add-found : goal.overflow_add-found
overflow_add-found g c =
    let s = c.layers.invariant.found in
    let l = few_picked c.layers.found.places 0 c.args.graph.now.nodes in
    let n = s.near in
    let m = s.counted in
    let small = c.words_in_use-words.ensures.within in
    omega (arith, l, n, m, small)

pub overflow_add-found-in-layers : goal.overflow_add-found-in-layers
overflow_add-found-in-layers g c =
    let h = c.args.graph.now in
    let w = c.words_in_use-words.ensures in
    let a = node_at h c.args.place in
    let f = c.layers.found in
    let front = c.layers.front in
    let next = c.next_layer-next.result in
    let all = c.next_layer-next.new.reached in
    let more = c.count-more.result in
    let s = c.layers.invariant.found in
    let step = step_of h a front f.places next all f.count f.total f.far more c.words_in_use-words.result w.graph
    w.within w.words.enough s c.next_layer-next.ensures.next c.count-more.ensures c.next_layer-next.ensures.reached in
    let l = count_fits h a front f.places next all f.count f.total f.far more s step in
    let small = w.within in
    omega (arith, l, small)

pub overflow_mul-found : goal.overflow_mul-found
overflow_mul-found g c =
    let h = c.args.graph.now in
    let w = c.words_in_use-words.ensures in
    let a = node_at h c.args.place in
    let f = c.layers.found in
    let front = c.layers.front in
    let next = c.next_layer-next.result in
    let all = c.next_layer-next.new.reached in
    let more = c.count-more.result in
    let s = c.layers.invariant.found in
    let step = step_of h a front f.places next all f.count f.total f.far more c.words_in_use-words.result w.graph
    w.within w.words.enough s c.next_layer-next.ensures.next c.count-more.ensures c.next_layer-next.ensures.reached in
    let l = count_fits h a front f.places next all f.count f.total f.far more s step in
    let t = total_fits h a front f.places next all f.count f.total f.far more s step in
    let small = w.within in
    omega (arith, l, t, small)

pub overflow_add-found-in-layers-2 : goal.overflow_add-found-in-layers-2
overflow_add-found-in-layers-2 g c =
    let h = c.args.graph.now in
    let w = c.words_in_use-words.ensures in
    let a = node_at h c.args.place in
    let f = c.layers.found in
    let front = c.layers.front in
    let next = c.next_layer-next.result in
    let all = c.next_layer-next.new.reached in
    let more = c.count-more.result in
    let s = c.layers.invariant.found in
    let step = step_of h a front f.places next all f.count f.total f.far more c.words_in_use-words.result w.graph
    w.within w.words.enough s c.next_layer-next.ensures.next c.count-more.ensures c.next_layer-next.ensures.reached in
    let l = count_fits h a front f.places next all f.count f.total f.far more s step in
    let t = total_fits h a front f.places next all f.count f.total f.far more s step in
    let small = w.within in
    omega (arith, l, t, small)

pub layers-smaller : goal.layers-smaller
layers-smaller g c =
    let h = c.args.graph.now in
    let w = c.words_in_use-words.ensures in
    let a = node_at h c.args.place in
    let f = c.layers.found in
    let front = c.layers.front in
    let next = c.next_layer-next.result in
    let all = c.next_layer-next.new.reached in
    let more = c.count-more.result in
    let s = c.layers.invariant.found in
    let step = step_of h a front f.places next all f.count f.total f.far more c.words_in_use-words.result w.graph
    w.within w.words.enough s c.next_layer-next.ensures.next c.count-more.ensures c.next_layer-next.ensures.reached in
    let l = count_fits h a front f.places next all f.count f.total f.far more s step in
    let some = c.if-more-eq0.false in
    omega (arith, l, some)

pub layers-preserved : goal.layers-preserved
layers-preserved g c =
    let h = c.args.graph.now in
    let w = c.words_in_use-words.ensures in
    let a = node_at h c.args.place in
    let f = c.layers.found in
    let front = c.layers.front in
    let next = c.next_layer-next.result in
    let all = c.next_layer-next.new.reached in
    let more = c.count-more.result in
    let s = c.layers.invariant.found in
    let step = step_of h a front f.places next all f.count f.total f.far more c.words_in_use-words.result w.graph
    w.within w.words.enough s c.next_layer-next.ensures.next c.count-more.ensures c.next_layer-next.ensures.reached in
    let some = c.if-more-eq0.false in
    record {
      found = searching_more h a front f.places next all f.count f.total f.far more s step (omega (arith, some));
    }
