-- The net of an aim.
use Rattle.std.proofs.Common.{◌≡◌, ◌≢◌, ◌∙◌, ◌↔◌, ℕ, ◌+◌, ◌<◌, inl, inr, List, [], ◌∷◌}
use Rattle.std.proofs.Common.{length, slice_index, Some, None, nat_lt, sym, ap, ap₂, subst, arith}
use Rattle.std.proofs.lemmas.Bool.{cases_order, ltb-true, lt-ltb}
use Rattle.ov_ids.specs.Members.{Has, Ascends}
use Rattle.ov_ids.proofs.Members.{place_of}
use Rattle.ov_ids.proofs.Members.{ordered_at, same_ascending}
use Rattle.ov_graph.specs.Links.{LinkGraph, IsGraph, Linked, IsGroup}
use Rattle.ov_graph.specs.Paths.{node_at}
use Rattle.ov_graph.specs.Even.{members_below}
use Rattle.ov_graph.specs.Row.{HasBit}
use Rattle.ov_graph.specs.Row.{picked}
use Rattle.ov_graph.specs.Code.Tests.{neighbours_in}
use Rattle.ov_graph.proofs.BitRows.Bits.{bit_moved}
use Rattle.ov_graph.proofs.EvenTest.Filtered.{has_filter, has_filtered, neighbours_one}
use Rattle.ov_graph.proofs.BitRows.Read.{are_neighbours, has_picked, in_picked, ascends_picked}
use Rattle.ov_graph.proofs.EvenTest.Walks.{linked_sym}
use Rattle.ov_flow.specs.Flow.{AreBitsOf}
use Rattle.ov_fans.specs.Code.Kept.{IsAimFor}
use Rattle.ov_fans.proofs.PieceNets.Ranks.{below_ascend}

-- the places of lower nodes are lower
pub place_below : (nodes : List ℕ) (i j : ℕ) → Ascends nodes → i < length nodes
    → slice_index nodes i < slice_index nodes j → j < length nodes → i < j
place_below nodes i j up l less m = elim (cases_order i j) [
  | inl e ↦ absurd (let same : slice_index nodes i ≡ slice_index nodes j = ap (λ (k : ℕ). slice_index nodes k) e in
      omega (arith, less, same))
  | inr (inl k) ↦ k
  | inr (inr k) ↦ absurd (
      let r : slice_index nodes j < slice_index nodes i = ordered_at (λ x y. x < y) nodes j i 0 up k l in
      omega (arith, less, r))
]

-- the aim of a pair
pub pair_aimed : {W : ℕ} (g : LinkGraph) (a b source avoided : ℕ) (row : List ℕ) → IsGraph g → a ≢ b → ¬ Linked g a b
    → source < length g.nodes → node_at g source ≡ a → avoided < length g.nodes → node_at g avoided ≡ b
    → ((p : ℕ) → HasBit row p ↔ ((p < length g.nodes) × Linked g b (node_at g p)))
    → IsAimFor {W = W} g (record { graph = g; avoided = b ∷ []; source = a; targets = neighbours_in g.links b g.nodes })
    (record { avoided = Some avoided; source = source; targets = row })
pair_aimed g a b source avoided row graph differ apart l at m off bits = record {
  net =
      ap
      (λ (t : List ℕ). record { graph = g; avoided = node_at g avoided ∷ []; source = node_at g source; targets = t })
      (neighbours_one g b (picked row 0 g.nodes) graph (are_neighbours g b row graph bits))
      ∙ ap₂ (λ (x y : ℕ). record { graph = g; avoided = x ∷ []; source = y; targets = neighbours_in g.links b g.nodes })
      off at;
  source = l;
  avoided = (m, λ e. differ (sym at ∙ ap (λ (p : ℕ). node_at g p) (sym e) ∙ off));
  targets = λ p h.
      let k = (bits p).0 h in
      (k.0, λ e. apart (linked_sym g b a (subst (Linked g b) (ap (λ (i : ℕ). node_at g i) e ∙ at) k.1)));
}

-- the members before one are those whose bits are below its place
pub below_picked : (g : LinkGraph) (q : List ℕ) (a source : ℕ) (members row : List ℕ) → IsGraph g → IsGroup g q
    → AreBitsOf g members q → source < length g.nodes → node_at g source ≡ a
    → ((p : ℕ) → HasBit row p ↔ ((p < source) × HasBit members p)) → picked row 0 g.nodes ≡ members_below q a
below_picked g q a source members row graph group kept l at bits =
    same_ascending (picked row 0 g.nodes) (members_below q a) (ascends_picked row 0 g.nodes graph.nodes_ascend)
    (below_ascend q a group.ascends)
    (λ x h.
    let k = has_picked row 0 g.nodes x h in
    let p = k.place in
    let node : node_at g p ≡ x = k.node in
    let b = (bits p).0 (bit_moved row (0 + p) p (omega arith) k.bit) in
    let m = (kept p).0 b.1 in
    let less : node_at g p < node_at g source = ordered_at (λ x y. x < y) g.nodes p source 0 graph.nodes_ascend b.0 l
    in
    has_filter (λ y. nat_lt y a) q x (subst (Has q) node m.1) (lt-ltb x a (omega (arith, node, at, less))))
    (λ x h.
    let r = has_filtered (λ y. nat_lt y a) q x h in
    let less : x < a = ltb-true x a r.1 in
    let n = place_of g.nodes x (group.nodes x r.0) in
    let p = n.0 in
    let below : p < length g.nodes = n.1 in
    let node : node_at g p ≡ x = n.2 in
    let before : p < source =
    place_below g.nodes p source graph.nodes_ascend below (omega (arith, node, at, less)) l in
    let b : HasBit row p = (bits p).1 (before, (kept p).1 (below, subst (Has q) (sym node) r.0)) in
    subst (Has (picked row 0 g.nodes)) node
    (in_picked row 0 g.nodes p below (bit_moved row p (0 + p) (omega arith) b)))

-- the aim of a fan
pub fan_aimed : {W : ℕ} (g : LinkGraph) (q : List ℕ) (a source : ℕ) (members row : List ℕ) → IsGraph g → IsGroup g q
    → AreBitsOf g members q → source < length g.nodes → node_at g source ≡ a
    → ((p : ℕ) → HasBit row p ↔ ((p < source) × HasBit members p))
    → IsAimFor {W = W} g (record { graph = g; avoided = []; source = a; targets = members_below q a })
    (record { avoided = None; source = source; targets = row })
fan_aimed g q a source members row graph group kept l at bits = record {
  net = ap₂ (λ (y : ℕ) (t : List ℕ). record { graph = g; avoided = []; source = y; targets = t }) at
      (below_picked g q a source members row graph group kept l at bits);
  source = l;
  avoided = tt;
  targets = λ p h. let k = ((bits p).0 h).0 in (omega (arith, k, l), λ e. omega (arith, k, e));
}
