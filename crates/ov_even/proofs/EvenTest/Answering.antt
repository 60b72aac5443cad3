-- The certificate of an analysis is valid, and it is unique apart from its paths.
use Rattle.std.proofs.Common.{◌≡◌, ◌∙◌, ℕ, ◌+◌, inl, inr, List, length, sym, subst, arith}
use Rattle.ov_ids.proofs.Members.{has_or_not}
use Rattle.ov_graph.specs.Links.{LinkGraph, IsGraph, AreAllLinked, IsGroup}
use Rattle.ov_graph.specs.Joined.{IsNodeSet, FewestForGroup}
use Rattle.ov_graph.proofs.EvenTest.Filtered.{linked_node}
use Rattle.ov_graph.proofs.EvenTest.Sufficing.{linked_whole}
use Rattle.ov_graph.proofs.EvenTest.Walks.{joined_self, joined_step, joined_trans, joined_end}
use Rattle.ov_cert.specs.declared.cert.Cert.{Cert}
use Rattle.ov_cert.specs.declared.cert.Cert.TheVariants as cert
use Rattle.ov_cert.specs.declared.cert.Split.{Split}
use Rattle.ov_cert.specs.Valid.{IsCutOff, HavePaths, HaveFans, IsValidSplit, IsValidForGroup, k_of}
use Rattle.ov_fans.specs.Pieces.{level_of}
use Rattle.ov_fans.specs.Cuts.{IsSide, IsParted}
use Rattle.ov_fans.specs.declared.piece.Piece.{Piece}
use Rattle.ov_fans.specs.declared.piece_result.Parting.{Parting}
use Rattle.ov_fans.proofs.PieceCuts.Only.{same_cut}
use Rattle.ov_even.specs.First.{IsFirst}
use Rattle.ov_even.specs.Answer.{NamesParting, NamesFirstCut, IsAnswer}
use Rattle.ov_even.specs.Theorems.{SameSplit, OneAnswer}
use Rattle.ov_even.proofs.EvenTest.Splitting.{PartsMembers, parted_parts}
use Rattle.ov_even.proofs.EvenTest.Firsts.{one_first, first_counts, number_is}

-- a cut that separates near from far cuts off the side, which is all that is joined to near without the cut
cut_off : (g : LinkGraph) (q : List ℕ) (c : Split) → IsGraph g → IsGroup g q → PartsMembers g q c.cut c.near c.far
    → IsSide g c.cut c.near c.side → IsCutOff g q c
cut_off g q c graph group parts side = record {
  near_survives = parts.a_survives;
  far_survives = parts.b_survives;
  side_ascends = side.set.ascends;
  side_survives = λ a h. joined_end g c.cut c.near a ((side.each a).0 h);
  near_inside =
      (side.each c.near).1
      (joined_self g c.cut c.near (group.nodes c.near parts.a_survives.0, parts.a_survives.1));
  far_outside = λ h. parts.parted ((side.each c.far).0 h);
  closed = λ a b h l. elim (has_or_not c.cut b) [
    | inl k ↦ inr k
    | inr out ↦
        let j = (side.each a).0 h in
        let last = joined_self g c.cut b (linked_node g a b graph l, out) in
        inl ((side.each b).1
        (joined_trans g c.cut c.near a b j (joined_step g c.cut a b b l (joined_end g c.cut c.near a j) last)))
  ];
}

-- a certificate is valid if it names the parting of the first piece that is not good and its paths pass Even's test
pub answer_valid : (g : LinkGraph) (q : List ℕ) (c : Split) (p : Piece) (parting : Parting) → IsGraph g → IsGroup g q
    → IsFirst g q p → level_of p ≡ c.k + 1 → IsParted g q p parting → NamesParting c parting
    → HavePaths g q c.k c.pairs → HaveFans g q c.k c.fans → IsValidSplit g q c
answer_valid g q c p parting graph group first level right names pairs fans =
    let cut = right.cut.least.cut in
    let count = first_counts g q p c.k parting.cut group first level cut right.few in
    let set : IsNodeSet g c.cut = rw names.cut cut.set in
    let parts : PartsMembers g q c.cut c.near c.far = rw (names.cut, names.near, names.far)
    (parted_parts g q p parting group first.piece right) in
    let side : IsSide g c.cut c.near c.side = rw (names.cut, names.near, names.side) right.side in
    record {
      count = rw names.cut count;
      cut = set;
      side = cut_off g q c graph group parts side;
      pairs = pairs;
      fans = fans;
    }

-- an answer whose paths pass Even's test is valid
pub split_valid : (g : LinkGraph) (q : List ℕ) (c : Split) → IsGraph g → IsGroup g q → NamesFirstCut g q c
    → HavePaths g q c.k c.pairs → HaveFans g q c.k c.fans → IsValidForGroup g q (cert.Split c)
split_valid g q c graph group n pairs fans =
    (group, answer_valid g q c n.piece n.parting graph group n.first n.level n.parted n.names pairs fans)

-- if every two members are linked, it suffices that k is one less than their number
pub linked_valid : (g : LinkGraph) (q : List ℕ) (k : ℕ) → IsGroup g q → AreAllLinked g q → length q ≡ k + 1
    → IsValidForGroup g q (cert.Linked k)
linked_valid g q k group all count = (group, count, all)

-- the number of an answer is the fewest node crashes that split the group
pub answer_number : (g : LinkGraph) (q : List ℕ) (c : Cert) → IsGraph g → IsGroup g q → IsAnswer g q c
    → FewestForGroup g q (k_of c)
answer_number g q (cert.Linked k) graph group a = record {
  group = group;
  reached = inr a;
  least = λ s few split. linked_whole g q group.nodes a.0 s split;
}
answer_number g q (cert.Split c) graph group a =
    let n = a.1 in
    number_is g q n.piece c.k graph group n.first n.level

one_split : (g : LinkGraph) (q : List ℕ) (c d : Split) → NamesFirstCut g q c → NamesFirstCut g q d → SameSplit c d
one_split g q c d m n =
    let same = one_first g q m.piece n.piece m.first n.first in
    let level = m.level in
    let other : level_of m.piece ≡ d.k + 1 = rw same n.level in
    let right : IsParted g q n.piece m.parting = subst (λ (p : Piece). IsParted g q p m.parting) same m.parted in
    let one = same_cut g q n.piece m.parting n.parting right n.parted in
    record {
      k = omega (arith, level, other);
      cut = m.names.cut ∙ one.0 ∙ sym n.names.cut;
      near = m.names.near ∙ one.1 ∙ sym n.names.near;
      far = m.names.far ∙ one.2 ∙ sym n.names.far;
      side = m.names.side ∙ one.3 ∙ sym n.names.side;
    }

-- a graph and a group have one answer, apart from its paths
pub one_answer : OneAnswer
one_answer g q (cert.Linked k) (cert.Linked l) graph a b = let m = a.1 in let n = b.1 in omega (arith, m, n)
one_answer g q (cert.Linked k) (cert.Split d) graph a b = b.0 a.0
one_answer g q (cert.Split c) (cert.Linked l) graph a b = a.0 b.0
one_answer g q (cert.Split c) (cert.Split d) graph a b = one_split g q c d a.1 b.1
