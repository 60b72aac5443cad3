-- The common neighbours with one neighbour more.
use Rattle.std.proofs.Common.{ℕ, ◌-◌, ◌*◌, ◌≤◌, drop, ap, arith}
use Rattle.std.proofs.Math.Nat.{mul_comm}
use Rattle.std.proofs.lemmas.Nat.{mul-le}
use Rattle.ov_graph.specs.Row.{HasBit, picked}
use Rattle.ov_graph.proofs.BitRows.Read.{none_picked}
use Rattle.ov_shape.specs.Clustering.{HaveCommon}
use Rattle.ov_shape.proofs.ShapeOfGraph.Sums.{goes_begun, goes_done}
use Rattle.ov_shape.proofs.ShapeOfGraph.Counts.{few_picked}
use Rattle.ov_shape.proofs.ShapeOfGraph.Clusters.{pairs_more, pairs_fit}
use Rattle.ov_shape.proofs.clustering_coefficient.linked_pairs.Goals as goal

pub linked_within-linked-requires : goal.linked_within-linked-requires
linked_within-linked-requires g c =
    (omega arith, (c.requires.within c.in-Some.place c.in-Some.ensures.some.set, c.requires.room))

pub neighbours-init : goal.neighbours-init
neighbours-init g c =
    let h = c.args.graph.now in
    let set = c.args.neighbours.now in
    let d = c.args.degree in
    let e = ap (λ (k : ℕ). (d - 1) * k) c.requires.degree in
    record {
      sum = λ a of_a. goes_begun (HaveCommon h a) (picked set 0 h.nodes);
      few = omega (arith, e);
      fits = omega arith;
    }

pub overflow_add-linked : goal.overflow_add-linked
overflow_add-linked g c =
    let h = c.args.graph.now in
    let set = c.args.neighbours.now in
    let d = c.args.degree in
    let n = c.linked_within-linked.result in
    let first = c.in-Some.ensures.some in
    let less = c.linked_within-linked.ensures.few first.set in
    let e = c.requires.degree in
    let f = pairs_fit h set c.neighbours.from c.in-Some.place n c.neighbours.linked (d - 1) ((d - 1) * d)
    c.requires.within first (omega (arith, less, e)) c.neighbours.invariant.few in
    let l = few_picked set 0 h.nodes in
    let within = c.words_in_use-words.ensures.within in
    let p = mul-le (d - 1) d 32768 32768 (omega (arith, e, l, within)) (omega (arith, e, l, within)) in
    omega (arith, f, p)

pub neighbours-preserved : goal.neighbours-preserved
neighbours-preserved g c =
    let h = c.args.graph.now in
    let set = c.args.neighbours.now in
    let d = c.args.degree in
    let n = c.linked_within-linked.result in
    let first = c.in-Some.ensures.some in
    let less = c.linked_within-linked.ensures.few first.set in
    let e = c.requires.degree in
    let b = c.in-Some.ensures.fits in
    record {
      sum = pairs_more h set c.neighbours.from c.in-Some.place n c.neighbours.linked c.requires.within first
          c.linked_within-linked.ensures.common c.neighbours.invariant.sum;
      few = pairs_fit h set c.neighbours.from c.in-Some.place n c.neighbours.linked (d - 1) ((d - 1) * d)
          c.requires.within first (omega (arith, less, e)) c.neighbours.invariant.few;
      fits = omega (arith, b);
    }

pub returns-clause-sum : goal.returns-clause-sum
returns-clause-sum g c a of_a =
    let nodes = c.args.graph.now.nodes in
    let set = c.args.neighbours.now in
    let from = c.neighbours.from in
    let enough = c.words_in_use-words.ensures.words.enough in
    let none : (q : ℕ) → from ≤ q → ¬ HasBit set q = λ q l h. let m = c.requires.within q h in
    c.in_default.ensures.none q l (omega (arith, m, enough)) h in
    goes_done (HaveCommon c.args.graph.now a) (picked set 0 nodes) (picked set from (drop from nodes))
    c.neighbours.linked (none_picked set from (drop from nodes) none) (c.neighbours.invariant.sum a of_a)

pub returns-clause-few : goal.returns-clause-few
returns-clause-few g c =
    let d = c.args.degree in
    let few = c.neighbours.invariant.few in
    let turned = mul_comm (d - 1) d in
    omega (arith, few, turned)
