-- Rows of bits, and the sets of nodes that they stand for.
use Rattle.std.proofs.Common.{◌≡◌, ℕ, ◌+◌, ◌<◌, List, length, arith, sym, subst}
use Rattle.ov_ids.specs.Members.{Has}
use Rattle.ov_ids.proofs.Members.{place_of, same_ascending}
use Rattle.ov_graph.specs.Links.{LinkGraph, IsGraph}
use Rattle.ov_graph.specs.Joined.{IsNodeSet}
use Rattle.ov_graph.specs.Paths.{node_at}
use Rattle.ov_graph.specs.Row.{HasBit}
use Rattle.ov_graph.specs.Row.{picked}
use Rattle.ov_graph.proofs.BitRows.Bits.{bit_moved}
use Rattle.ov_graph.proofs.BitRows.Read.{has_picked, in_picked, ascends_picked, one_place}
use Rattle.ov_split.specs.SplitNetState.{SplitNetState}
use Rattle.ov_flow.specs.declared.search_result.CutRows.{CutRows}
use Rattle.ov_flow.specs.Flow.{IsFull, IsFullBy, AreBitsOf}

-- a row with bits at places of nodes alone has the bits of the nodes that it picks
pub bits_of_picked : (g : LinkGraph) (row : List ℕ) → IsGraph g → ((p : ℕ) → HasBit row p → p < length g.nodes)
    → AreBitsOf g row (picked row 0 g.nodes)
bits_of_picked g row graph within p = (
  (λ b.
      let l = within p b in
      (l, in_picked row 0 g.nodes p l (bit_moved row p (0 + p) (omega arith) b))),
  (λ h.
      let k = has_picked row 0 g.nodes (node_at g p) h.1 in
      let e : k.place ≡ p = one_place g.nodes k.place p graph.nodes_ascend k.below h.0 k.node in
      bit_moved row (0 + k.place) p (omega (arith, e)) k.bit),
)

-- the set of nodes whose bits a row has is what the row picks
pub picked_of_bits : (g : LinkGraph) (row s : List ℕ) → IsGraph g → IsNodeSet g s → AreBitsOf g row s
    → s ≡ picked row 0 g.nodes
picked_of_bits g row s graph set bits =
    same_ascending s (picked row 0 g.nodes) set.ascends (ascends_picked row 0 g.nodes graph.nodes_ascend)
    (λ x h.
    let n = place_of g.nodes x (set.nodes x h) in
    let i = n.0 in
    let below : i < length g.nodes = n.1 in
    let node : node_at g i ≡ x = n.2 in
    let bit : HasBit row i = (bits i).1 (below, subst (Has s) (sym node) h) in
    subst (Has (picked row 0 g.nodes)) node
    (in_picked row 0 g.nodes i below (bit_moved row i (0 + i) (omega arith) bit)))
    (λ x h.
    let k = has_picked row 0 g.nodes x h in
    subst (Has s) k.node ((bits k.place).0 (bit_moved row (0 + k.place) k.place (omega arith) k.bit)).1)

-- a row with the bits of a set has bits at places of nodes alone
pub bits_within : (g : LinkGraph) (row s : List ℕ) → AreBitsOf g row s → (p : ℕ) → HasBit row p → p < length g.nodes
bits_within g row s bits p b = ((bits p).0 b).0

-- the cut and the side are what the rows pick
pub full_picked : (n : SplitNetState) (k : ℕ) {W : ℕ} (s : CutRows W) → IsGraph n.graph → IsFullBy n k s
    → IsFull n k (picked s.cut 0 n.graph.nodes) (picked s.side 0 n.graph.nodes)
full_picked n k s graph f =
    subst (λ (c : List ℕ). IsFull n k c (picked s.side 0 n.graph.nodes))
    (picked_of_bits n.graph s.cut f.cut graph f.full.nearest.least.cut.set f.cut_row)
    (subst (λ (t : List ℕ). IsFull n k f.cut t)
    (picked_of_bits n.graph s.side f.side graph f.full.side_of.set f.side_row) f.full)
