-- The number of a group is that of a copy with other ids, and the outline of the copy says it.
use Rattle.std.proofs.Common.{◌↔◌, ℕ, ◌+◌, ◌-◌, ◌≤◌, List, length, arith}
use Rattle.ov_graph.specs.Links.{LinkGraph, IsGraph, IsGroup, AreAllLinked}
use Rattle.ov_graph.specs.Joined.{NoFewerSplit}
use Rattle.ov_graph.proofs.EvenTest.Sufficing.{linked_joined}
use Rattle.ov_cert.specs.Theorems.{ReachesNumber, IsTrueForGroup}
use Rattle.ov_cert.specs.Valid.{k_of}
use Rattle.ov_cert.specs.declared.cert.Cert.{Cert}
use Rattle.ov_cert.specs.declared.cert.Cert.TheVariants as cert
use Rattle.ov_even.specs.Searching.{HasNumber}
use Rattle.ov_even.proofs.AnalysisSteps.Narrowing.{two_nodes}
use Rattle.ov_even.proofs.EvenTest.Complete.{none_split}

-- whatever number of crashes splits one of two groups splits the other
abbrev pub AreAlike : LinkGraph → List ℕ → LinkGraph → List ℕ → Type 0
AreAlike g q h r = (k : ℕ) → NoFewerSplit h r k ↔ NoFewerSplit g q k

-- if two members are not linked, two members of the copy are not
pub copied_apart : (g : LinkGraph) (q : List ℕ) (h : LinkGraph) (r : List ℕ) → IsGraph g → IsGroup g q → IsGroup h r
    → AreAlike g q h r → ¬ AreAllLinked g q → ¬ AreAllLinked h r
copied_apart g q h r graph group copy alike apart all =
    let k = length g.nodes - 1 in
    let many = two_nodes g q group apart in
    apart (none_split g q k graph group (omega (arith, many))
    ((alike k).0 (λ s few a b ma mb. linked_joined h r copy.nodes all s a b ma mb)))

-- if two members are not linked, the number of a true certificate splits the group: the cut has so many nodes
number_splits : (g : LinkGraph) (q : List ℕ) (c : Cert) → ¬ AreAllLinked g q → ReachesNumber g q c
    → ¬ NoFewerSplit g q (k_of c + 1)
number_splits g q (cert.Linked k) apart reached whole = apart reached.0
number_splits g q (cert.Split c) apart reached whole =
    let count = reached.count in
    reached.parted
    (whole c.cut (omega (arith, count)) c.near c.far reached.near_survives reached.far_survives)

-- what the outline of the copy says is the number of the group
pub copied_number : (g : LinkGraph) (q : List ℕ) (h : LinkGraph) (r : List ℕ) (c : Cert) → IsGroup g q
    → AreAlike g q h r → ¬ AreAllLinked h r → IsTrueForGroup h r c → HasNumber g q (k_of c)
copied_number g q h r c group alike apart is = record {
  group = group;
  holds = (alike (k_of c)).0 is.no_fewer;
  splits = λ whole. number_splits h r c apart is.reached ((alike (k_of c + 1)).1 whole);
}

-- fewer nodes than a larger number are fewer than that number
pub fewer_unsplit : (g : LinkGraph) (q : List ℕ) (k most : ℕ) → NoFewerSplit g q most → k ≤ most → NoFewerSplit g q k
fewer_unsplit g q k most whole le s few = whole s (omega (arith, le, few))
