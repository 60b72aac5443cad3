-- Members are nodes, and the neighbours of a member that is not linked to all others split the group.
use Rattle.std.proofs.Common.{◌≡◌, ◌≤◌, ◌+◌, ℕ, List, inl, length, refl, sym, ap, subst, arith}
use Rattle.std.proofs.lemmas.Iterator.Consumers.{count_from_yields_List, YieldsList-from_first}
use Rattle.ov_ids.specs.Members.{Has}
use Rattle.ov_ids.proofs.Members.{has_place, ascends_distinct}
use Rattle.ov_graph.proofs.EvenTest.Filtered.{linked_node}
use Rattle.ov_fans.proofs.PieceNets.Ranks.{fits}
use Rattle.ov_even.proofs.AnalysisSteps.Failing.{last_fails, split_fails, neighbours_split}
use Rattle.ov_even.proofs.AnalysisSteps.Narrowing.{two_nodes}
use Rattle.ov_even.proofs.failing_level_by_degree.failing_level.Goals.{then-degree-least+then-has_unlinked}
use Rattle.ov_even.proofs.failing_level_by_degree.failing_level.Goals.{else-degree-least}
use Rattle.ov_even.proofs.failing_level_by_degree.failing_level.Goals as goal

pub overflow_sub-least : goal.overflow_sub-least
overflow_sub-least c =
    let many = two_nodes c.args.graph.now c.args.group.now c.requires.group c.requires.apart in
    let same = ap length c.nodes.ensures.nodes in
    omega (arith, many, same)

pub loop-member-init : goal.loop-member-init
loop-member-init c =
    let g = c.args.graph.now in
    let q = c.args.group.now in
    let many = two_nodes g q c.requires.group c.requires.apart in
    let same = ap length c.nodes.ensures.nodes in
    record {
      below = omega (arith, many, same);
      fails = last_fails g q _ c.nodes.ensures.graph c.requires.group c.requires.apart (omega (arith, many, same));
    }

pub neighbours-requires : goal.neighbours-requires
neighbours-requires c =
    let q = c.args.group.now in
    c.requires.group.nodes c.member-item.result (subst (Has q) (sym c.member-item.is)
    (has_place q c.loop-member.member-index c.member-item.result c.loop-member-test.true))

pub count-degree-requires-clause-fits : goal.count-degree-requires-clause-fits
count-degree-requires-clause-fits c =
    let g = c.args.graph.now in
    let ns = c.neighbours.result in
    let are = c.neighbours.ensures.neighbours in
    let few : length ns ≤ length g.nodes = fits g.nodes ns (ascends_distinct ns are.ascend)
    (λ x h. linked_node g c.member-item.result x c.neighbours.ensures.graph ((are.each x).0 h)) in
    let within = c.nodes.ensures.within in
    inl (omega (arith, few, within))

pub loop-member-preserved : goal.loop-member-preserved
loop-member-preserved c =
    let g = c.args.graph.now in
    let q = c.args.group.now in
    let a = c.member-item.result in
    let ns = c.neighbours.result in
    let degree = c.count-degree.result in
    let count : degree ≡ length ns = count_from_yields_List ns degree c.count-degree.ensures.ran
    (YieldsList-from_first (λ (n : ℕ). n) (λ (n : List ℕ). n) ns refl) in
    let here = subst (Has q) (sym c.member-item.is)
    (has_place q c.loop-member.member-index a c.loop-member-test.true) in
    let before = c.loop-member.invariant in
    let below = before.below in
    elim c.if-degree-least.branch [
      | then-degree-least+then-has_unlinked w ↦
          let less = w.if-degree-least.true in
          let split = neighbours_split g q a ns c.nodes.ensures.graph here
          (w.has_unlinked.ensures w.if-has_unlinked.true) c.neighbours.ensures.neighbours in
          rw w.least-is (record {
            below = omega (arith, less, below);
            fails = split_fails g q ns (degree + 1) c.requires.group split (omega (arith, count));
          })
      | else-degree-least w ↦ rw w.least-is (record { below = below; fails = before.fails })
    ]
