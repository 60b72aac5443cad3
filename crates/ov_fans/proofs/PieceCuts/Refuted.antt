-- A piece with a cut of fewer nodes than its level is not good, and has a far member.
use Rattle.std.proofs.Common.{ℕ, ◌-◌, ◌<◌, ◌≤◌, inl, inr, List, length, refl, arith}
use Rattle.ov_ids.specs.Members.{Has}
use Rattle.ov_ids.proofs.Members.{ascends_distinct}
use Rattle.ov_graph.specs.Links.{LinkGraph, IsGraph, IsGroup}
use Rattle.ov_graph.specs.Paths.{ArePaths, IsFan}
use Rattle.ov_graph.specs.Even.{members_below}
use Rattle.ov_graph.proofs.EvenTest.Escape.{escape}
use Rattle.ov_graph.proofs.EvenTest.Filtered.{linked_node}
use Rattle.ov_graph.proofs.EvenTest.Sufficing.{path_joins}
use Rattle.ov_graph.proofs.EvenTest.Walks.{linked_sym, joined_self, joined_step}
use Rattle.ov_fans.specs.Pieces.{member_at, level_of, IsPiece, IsLinkedPair, IsGood}
use Rattle.ov_fans.specs.Cuts.{spared, IsCut, IsFar}
use Rattle.ov_fans.specs.declared.piece.Piece.{Piece}
use Rattle.ov_fans.specs.declared.piece.Piece.TheVariants.{Pair, Fan}
use Rattle.ov_fans.proofs.PieceNets.Ranks.{below_ascend, count_before, lowest_or_all, fits}

-- no cut parts a linked pair
pub linked_uncut : (g : LinkGraph) (q : List ℕ) (p : Piece) (s : List ℕ) → IsGraph g → IsLinkedPair g q p
    → ¬ IsCut g q p s
linked_uncut g q (Pair level i j) s graph l cut =
    let a = member_at q i in
    let b = member_at q j in
    let node_a : Has g.nodes a = linked_node g b a graph (linked_sym g a b l) in
    let node_b : Has g.nodes b = linked_node g a b graph l in
    cut.parts b refl (joined_step g s a b b l (node_a, cut.leaves a (inl refl))
    (joined_self g s b (node_b, cut.leaves b (inr (inl refl)))))
linked_uncut g q (Fan level j) s graph l cut = l

-- of more paths than a cut has nodes, which share only nodes that no cut has, one misses the cut
pub cut_refutes : (g : LinkGraph) (q : List ℕ) (p : Piece) (s : List ℕ) → IsGraph g → IsCut g q p s
    → length s < level_of p → ¬ IsGood g q p
cut_refutes g q (Pair level i j) s graph cut few good = elim good [
  | inl l ↦ linked_uncut g q (Pair level i j) s graph l cut
  | inr r ↦
      let a : ArePaths g (member_at q i) (member_at q j) level r.0 = r.1 in
      let k = escape (spared q (Pair level i j)) s r.0 cut.leaves a.apart (omega (arith, a.count)) in
      cut.parts (member_at q j) refl
      (path_joins g s (member_at q i) (member_at q j) k.0 (a.each k.0 k.1) k.2)
]
cut_refutes g q (Fan level j) s graph cut few good = elim good [
  | inl l ↦ l
  | inr r ↦
      let a : IsFan g (member_at q j) (members_below q (member_at q j)) level r.0 = r.1 in
      let k = escape (spared q (Fan level j)) s r.0 cut.leaves a.apart (omega (arith, a.count)) in
      let e = a.each k.0 k.1 in
      cut.parts e.0 e.1 (path_joins g s (member_at q j) e.0 k.0 e.2 k.2)
]

-- the other member of a pair is far
pub pair_far : (g : LinkGraph) (q : List ℕ) (level i j : ℕ) (s : List ℕ) → IsCut g q (Pair level i j) s
    → IsFar q (Pair level i j) s (member_at q j)
pair_far g q level i j s cut = record {
  target = refl;
  left = cut.leaves (member_at q j) (inr (inl refl));
  lowest = λ t e o. omega (arith, e);
}

-- a cut with fewer nodes than the level leaves a target
pub far_exists : (g : LinkGraph) (q : List ℕ) (p : Piece) (s : List ℕ) → IsGroup g q → IsPiece g q p → IsCut g q p s
    → length s < level_of p → (far : ℕ) × IsFar q p s far
far_exists g q (Pair level i j) s group at cut few = (member_at q j, pair_far g q level i j s cut)
far_exists g q (Fan level j) s group at cut few =
    let a = member_at q j in
    let up = below_ascend q a group.ascends in
    let l = at.later in
    let m = at.member in
    elim (lowest_or_all s (members_below q a) up) [
      | inl r ↦ let f = r.1 in (r.0, record { target = f.member; left = f.outside; lowest = f.lowest })
      | inr all ↦
          let most : length (members_below q a) ≤ length s =
          fits s (members_below q a) (ascends_distinct (members_below q a) up) all in
          let least : j - 1 ≤ length (members_below q a) =
          count_before q (j - 1) group.ascends (omega (arith, l, m)) in
          absurd (omega (arith, l, most, least))
    ]
