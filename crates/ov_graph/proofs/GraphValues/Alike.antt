-- Graphs that are equal.
use Rattle.std.proofs.Common.{◌≡◌, ◌∙◌, ◌↔◌, ℕ, ◌+◌, ◌*◌, ◌<◌, ◌≤◌, List, Bool, IsTrue, length, slice_index, sym, ap}
use Rattle.std.proofs.Common.{subst, arith}
use Rattle.ov_ids.specs.Members.{Has}
use Rattle.ov_ids.proofs.Members.{same_ordered}
use Rattle.ov_graph.specs.Links.{LinkGraph, Precedes, Linked}
use Rattle.ov_graph.specs.Row.{HasBit}
use Rattle.ov_graph.specs.Code.Kept.{row_at, links_read, graph_kept, IsKept}
use Rattle.ov_graph.proofs.BitRows.Bits.{bit_moved}
use Rattle.ov_graph.proofs.BitRows.Read.{has_read, in_read, ordered_read, linked_bits, row_below}
use Rattle.ov_graph.proofs.BitRows.Marked.{no_round}

links_alike : (nodes : List ℕ) (rows rows' : List (List ℕ))
    → ((p q : ℕ) → p < length nodes → q < length nodes → HasBit (row_at rows p) q → HasBit (row_at rows' p) q)
    → (l : ℕ × ℕ) → Has (links_read 0 nodes rows) l → Has (links_read 0 nodes rows') l
links_alike nodes rows rows' same l h =
    let r = has_read 0 nodes rows l.0 l.1 h in
    let less = r.less in
    let below = r.below in
    let bit = same r.lower r.higher (omega (arith, less, below)) below
    (bit_moved (row_at rows r.lower) (0 + r.higher) r.higher (omega arith) r.bit) in
    let m : Has {X = ℕ × ℕ} (links_read 0 nodes rows') (slice_index nodes r.lower, slice_index nodes r.higher) =
    in_read 0 nodes rows' r.lower r.higher less below
    (bit_moved (row_at rows' r.lower) r.higher (0 + r.higher) (omega arith) bit) in
    subst (λ (a : ℕ). Has {X = ℕ × ℕ} (links_read 0 nodes rows') (a, l.1)) r.first
    (subst (λ (b : ℕ). Has {X = ℕ × ℕ} (links_read 0 nodes rows') (slice_index nodes r.lower, b)) r.second m)

same_bits : (nodes : List ℕ) (rows rows' : List (List ℕ)) → IsKept nodes rows
    → ((p q : ℕ) → p < length nodes → q < length nodes → HasBit (row_at rows p) q ↔ HasBit (row_at rows' p) q)
    → graph_kept nodes rows ≡ graph_kept nodes rows'
same_bits nodes rows rows' kept same =
    ap (λ (ls : List (ℕ × ℕ)). record { nodes = nodes; links = ls })
    (same_ordered Precedes no_round (links_read 0 nodes rows) (links_read 0 nodes rows')
    (ordered_read 0 nodes rows kept.ascend) (ordered_read 0 nodes rows' kept.ascend)
    (links_alike nodes rows rows' (λ p q l m. (same p q l m).0))
    (links_alike nodes rows' rows (λ p q l m. (same p q l m).1)))

bits_same : (nodes : List ℕ) (rows rows' : List (List ℕ)) → IsKept nodes rows → IsKept nodes rows'
    → graph_kept nodes rows ≡ graph_kept nodes rows' → (p q : ℕ) → HasBit (row_at rows p) q → HasBit (row_at rows' p) q
bits_same nodes rows rows' kept kept' e p q h =
    let a : p < length nodes = let r = row_below rows p q h in let k = kept.each in omega (arith, r, k) in
    let b = kept.within p q h in
    (linked_bits nodes rows' p q kept' a b).0
    (subst (λ (g : LinkGraph). Linked g (slice_index nodes p) (slice_index nodes q)) e
    ((linked_bits nodes rows p q kept a b).1 h))

-- graphs with the same nodes are equal where their rows have the same bits in the words in use
pub rows_tested : (nodes nodes' : List ℕ) (rows rows' : List (List ℕ)) (words : ℕ) (b : Bool) → IsKept nodes rows
    → IsKept nodes' rows' → nodes ≡ nodes' → length nodes ≤ 64 * words
    → IsTrue b ↔ ((p q : ℕ) → p < length rows → q < 64 * words → HasBit (row_at rows p) q ↔ HasBit (row_at rows' p) q)
    → IsTrue b ↔ (graph_kept nodes rows ≡ graph_kept nodes' rows')
rows_tested nodes nodes' rows rows' words b kept kept' e enough test =
    let there : IsKept nodes rows' = subst (λ (ns : List ℕ). IsKept ns rows') (sym e) kept' in
    let moved : graph_kept nodes rows' ≡ graph_kept nodes' rows' = ap (λ (ns : List ℕ). graph_kept ns rows') e in
    let each = kept.each in (
      (λ t. same_bits nodes rows rows' kept
          (λ p q l m. test.0 t p q (omega (arith, each, l)) (omega (arith, m, enough))) ∙ moved),
      (λ f.
          let g = f ∙ sym moved in
          test.1 (λ p q l m.
          (bits_same nodes rows rows' kept there g p q, bits_same nodes rows' rows there kept (sym g) p q))),
    )
