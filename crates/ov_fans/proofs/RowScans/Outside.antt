-- The lowest node of a row that is outside another.
use Rattle.std.proofs.Common.{◌≡◌, ◌↔◌, ℕ, ◌+◌, ◌*◌, ◌<◌, ◌≤◌, ◌⊎◌, inl, inr, Bool, true, false, List}
use Rattle.std.proofs.Common.{length, refl, sym, ap, subst, arith}
use Rattle.std.proofs.lemmas.Bool.{cases_order, both_ways}
use Rattle.ov_ids.specs.Members.{Has}
use Rattle.ov_ids.proofs.Members.{ordered_at}
use Rattle.ov_graph.specs.Links.{LinkGraph, IsGraph, IsGroup}
use Rattle.ov_graph.specs.Paths.{node_at}
use Rattle.ov_graph.specs.Even.{members_below}
use Rattle.ov_graph.specs.Row.{has_bit, HasBit, IsFirstFrom, AreWordsFor}
use Rattle.ov_graph.specs.Row.{picked}
use Rattle.ov_graph.proofs.BitRows.Bits.{bit_moved, AreWithout}
use Rattle.ov_graph.proofs.BitRows.Read.{has_picked, in_picked, picked_at}
use Rattle.ov_fans.specs.Pieces.{member_at, level_of, IsPiece}
use Rattle.ov_fans.specs.Cuts.{IsCut, IsFar}
use Rattle.ov_fans.specs.Code.Kept.{AreBitsOfNodes, IsLowestOutside}
use Rattle.ov_fans.specs.declared.piece.Piece.{Piece}
use Rattle.ov_fans.specs.declared.piece.Piece.TheVariants.{Fan}
use Rattle.ov_fans.proofs.PieceCuts.Refuted.{far_exists}

-- the bit of a node's place says whether the node is picked
node_picked : (g : LinkGraph) (row : List ℕ) (x p : ℕ) → IsGraph g → p < length g.nodes → node_at g p ≡ x
    → Has (picked row 0 g.nodes) x ↔ HasBit row p
node_picked g row x p graph l at =
    subst (λ (y : ℕ). Has (picked row 0 g.nodes) y ↔ HasBit row p) at (picked_at row g.nodes p graph.nodes_ascend l)

true_or_not : (b : Bool) → (b ≡ true) ⊎ (¬ (b ≡ true))
true_or_not true = inl refl
true_or_not false = inr (λ e. both_ways false refl e)

-- the first bit of the rest is that of the lowest node outside the other row
pub lowest_picked : (g : LinkGraph) (row other rest : List ℕ) (words p : ℕ) → IsGraph g → AreBitsOfNodes g.nodes row
    → AreWordsFor (length g.nodes) words → AreWithout row other words rest → IsFirstFrom rest 0 p
    → IsLowestOutside (picked other 0 g.nodes) (picked row 0 g.nodes) (node_at g p)
lowest_picked g row other rest words p graph kept wide is first =
    let b = (is p).0 first.set in
    let l = kept p b.1 in
    record {
      member = in_picked row 0 g.nodes p l (bit_moved row p (0 + p) (omega arith) b.1);
      outside = λ h. b.2 ((node_picked g other (node_at g p) p graph l refl).0 h);
      lowest = λ t h o.
          let k = has_picked row 0 g.nodes t h in
          let i = k.place in
          let below = k.below in
          let node : node_at g i ≡ t = k.node in
          let enough = wide.enough in
          let set : HasBit rest i = (is i).1 (
            omega (arith, below, enough),
            bit_moved row (0 + i) i (omega arith) k.bit,
            λ m. o ((node_picked g other t i graph below node).1 m),
          ) in
          elim (cases_order i p) [
            | inl e ↦ let same : node_at g i ≡ node_at g p = ap (λ (n : ℕ). node_at g n) e in omega (arith, same, node)
            | inr (inl before) ↦ absurd (first.first i (omega arith) before set)
            | inr (inr after) ↦
                let r : node_at g p < node_at g i =
                ordered_at (λ x y. x < y) g.nodes p i 0 graph.nodes_ascend after below in omega (arith, r, node)
          ];
    }

-- where the rest has no bit, all are in the other row
pub none_outside : (g : LinkGraph) (row other rest : List ℕ) (words : ℕ) → IsGraph g
    → AreWordsFor (length g.nodes) words → AreWithout row other words rest
    → ((p : ℕ) → 0 ≤ p → p < 64 * words → ¬ HasBit rest p) → (t : ℕ) → Has (picked row 0 g.nodes) t
    → Has (picked other 0 g.nodes) t
none_outside g row other rest words graph wide is none t h =
    let k = has_picked row 0 g.nodes t h in
    let i = k.place in
    let below = k.below in
    let enough = wide.enough in
    let l : i < 64 * words = omega (arith, below, enough) in
    elim (true_or_not (has_bit other i)) [
      | inl b ↦ (node_picked g other t i graph below k.node).1 b
      | inr n ↦ absurd (none i (omega arith) l ((is i).1 (l, bit_moved row (0 + i) i (omega arith) k.bit, n)))
    ]

-- a cut of a fan with fewer nodes than the level does not have all targets
pub fan_left : (g : LinkGraph) (q : List ℕ) (p : Piece) (level j : ℕ) (s before : List ℕ) → p ≡ Fan level j
    → IsGroup g q → IsPiece g q p → IsCut g q p s → length s < level_of p
    → before ≡ members_below q (member_at q j) → ¬ ((t : ℕ) → Has before t → Has s t)
fan_left g q p level j s before e group at cut few same all =
    let f = far_exists g q (Fan level j) s group (subst (λ (r : Piece). IsPiece g q r) e at)
    (subst (λ (r : Piece). IsCut g q r s) e cut) (subst (λ (r : Piece). length s < level_of r) e few) in
    let far = f.1 in
    far.left (all f.0 (subst (λ (xs : List ℕ). Has xs f.0) (sym same) far.target))

-- the lowest target outside a cut is far
pub fan_far : (q : List ℕ) (p : Piece) (level j : ℕ) (s before : List ℕ) (x : ℕ) → p ≡ Fan level j
    → before ≡ members_below q (member_at q j) → IsLowestOutside s before x → IsFar q p s x
fan_far q p level j s before x e same low =
    let l = subst (λ (xs : List ℕ). IsLowestOutside s xs x) same low in
    subst (λ (r : Piece). IsFar q r s x) (sym e)
    (record { target = l.member; left = l.outside; lowest = l.lowest })
