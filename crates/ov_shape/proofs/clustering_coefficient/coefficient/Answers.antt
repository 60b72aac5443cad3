-- The share of few neighbours, and of more.
use Rattle.std.proofs.Common.{◌∙◌, ℕ, ◌-◌, ◌*◌, ◌/◌, ◌<◌, length, ap, arith}
use Rattle.std.proofs.Math.Nat.{div-le_of_le-mul}
use Rattle.std.proofs.lemmas.Nat.{mul-le}
use Rattle.ov_graph.specs.Paths.{node_at}
use Rattle.ov_graph.specs.Row.{HasBit, picked}
use Rattle.ov_graph.proofs.BitRows.Read.{are_neighbours}
use Rattle.ov_shape.proofs.ShapeOfGraph.Counts.{few_picked}
use Rattle.ov_shape.proofs.ShapeOfGraph.Shapes.{share_of_few, share_of_more}
use Rattle.ov_shape.proofs.clustering_coefficient.coefficient.Goals as goal

pub neighbour_set-neighbours-requires : goal.neighbour_set-neighbours-requires
neighbour_set-neighbours-requires g c =
    let few = c.requires.few in (omega (arith, few), (c.requires.place, c.requires.room))

pub linked_pairs-linked-requires : goal.linked_pairs-linked-requires
linked_pairs-linked-requires g c =
    let within : (q : ℕ) → HasBit c.neighbour_set-neighbours.result q → q < length c.args.graph.now.nodes =
    λ q h. ((c.neighbour_set-neighbours.ensures.set q).0 h).0 in (
      omega arith,
      (
        within,
        (
          c.requires.room,
          c.count-degree.ensures c.args.graph.now.nodes within c.words_in_use.ensures.words.enough,
        ),
      ),
    )

pub returns-then-degree-lt2-clause-value : goal.returns-then-degree-lt2-clause-value
returns-then-degree-lt2-clause-value g c =
    let h = c.args.graph.now in
    let a = node_at h c.args.place in
    let set = c.neighbour_set-neighbours.result in
    let bits = c.neighbour_set-neighbours.ensures.set in
    let n = c.count-degree.ensures h.nodes (λ q b. ((bits q).0 b).0) c.words_in_use.ensures.words.enough in
    let l = c.if-degree-lt2.true in
    let linked = c.linked_pairs-linked.result in (
      picked set 0 h.nodes,
      are_neighbours h a set c.words_in_use.ensures.graph bits,
      linked,
      c.linked_pairs-linked.ensures.sum a bits,
      share_of_few linked (length (picked set 0 h.nodes)) (omega (arith, n, l)),
    )

pub overflow_mul-result : goal.overflow_mul-result
overflow_mul-result g c =
    let h = c.args.graph.now in
    let bits = c.neighbour_set-neighbours.ensures.set in
    let n = c.count-degree.ensures h.nodes (λ q b. ((bits q).0 b).0) c.words_in_use.ensures.words.enough in
    let l = few_picked c.neighbour_set-neighbours.result 0 h.nodes in
    let within = c.words_in_use.ensures.within in
    let few = c.linked_pairs-linked.ensures.few in
    let k = c.count-degree.result in
    let p = mul-le k (k - 1) 32768 32768 (omega (arith, n, l, within)) (omega (arith, n, l, within)) in
    omega (arith, p, few)

pub overflow_mul-result-2 : goal.overflow_mul-result-2
overflow_mul-result-2 g c =
    let h = c.args.graph.now in
    let bits = c.neighbour_set-neighbours.ensures.set in
    let n = c.count-degree.ensures h.nodes (λ q b. ((bits q).0 b).0) c.words_in_use.ensures.words.enough in
    let l = few_picked c.neighbour_set-neighbours.result 0 h.nodes in
    let within = c.words_in_use.ensures.within in
    let k = c.count-degree.result in
    let p = mul-le k (k - 1) 32768 32768 (omega (arith, n, l, within)) (omega (arith, n, l, within)) in
    omega (arith, p)

pub returns-clause-value : goal.returns-clause-value
returns-clause-value g c =
    let h = c.args.graph.now in
    let a = node_at h c.args.place in
    let set = c.neighbour_set-neighbours.result in
    let bits = c.neighbour_set-neighbours.ensures.set in
    let n = c.count-degree.ensures h.nodes (λ q b. ((bits q).0 b).0) c.words_in_use.ensures.words.enough in
    let l = c.if-degree-lt2.false in
    let linked = c.linked_pairs-linked.result in (
      picked set 0 h.nodes,
      are_neighbours h a set c.words_in_use.ensures.graph bits,
      linked,
      c.linked_pairs-linked.ensures.sum a bits,
      ap (λ (k : ℕ). linked * 1000000 / (k * (k - 1))) n
          ∙ share_of_more linked (length (picked set 0 h.nodes)) (omega (arith, n, l)),
    )

pub returns-clause-few : goal.returns-clause-few
returns-clause-few g c =
    let k = c.count-degree.result in
    let linked = c.linked_pairs-linked.result in
    div-le_of_le-mul (k * (k - 1))
    (mul-le linked 1000000 (k * (k - 1)) 1000000 c.linked_pairs-linked.ensures.few (omega arith))
