-- The graph that nodes and rows keep, after a link is added or removed.
use Rattle.std.proofs.Common.{◌≡◌, ◌∙◌, ◌↔◌, ◌⊎◌, ℕ, ◌<◌, List, length, slice_index, inl, inr, refl, sym, ap, subst}
use Rattle.ov_ids.proofs.Members.{place_of}
use Rattle.ov_graph.specs.Links.{Linked}
use Rattle.ov_graph.specs.Changes.{GainsLink, LosesLink}
use Rattle.ov_graph.specs.Row.{HasBit}
use Rattle.ov_graph.specs.Code.Kept.{row_at, graph_kept, IsKept}
use Rattle.ov_graph.proofs.EvenTest.Filtered.{linked_node}
use Rattle.ov_graph.proofs.BitRows.Read.{one_place, linked_bits, is_graph}
use Rattle.ov_graph.proofs.EvenTest.Walks.{linked_sym}

-- x and y stand at these places, and the row of one has the bit of the other
record IsAt (nodes : List ℕ) (rows : List (List ℕ)) (x y : ℕ) : Type 0 where
  r : ℕ
  s : ℕ
  r_below : r < length nodes
  s_below : s < length nodes
  first : slice_index nodes r ≡ x
  second : slice_index nodes s ≡ y
  bit : HasBit (row_at rows r) s

-- the same for other rows
at_other : (nodes : List ℕ) (rows rows' : List (List ℕ)) (x y : ℕ) (at : IsAt nodes rows x y)
    → HasBit (row_at rows' at.r) at.s
    → IsAt nodes rows' x y
at_other nodes rows rows' x y at h = record {
  r = at.r;
  s = at.s;
  r_below = at.r_below;
  s_below = at.s_below;
  first = at.first;
  second = at.second;
  bit = h;
}

-- two nodes are linked where the row of one has the bit of the other
linked_at : (nodes : List ℕ) (rows : List (List ℕ)) (x y : ℕ) → IsKept nodes rows → Linked (graph_kept nodes rows) x y
    → IsAt nodes rows x y
linked_at nodes rows x y kept l =
    let g = graph_kept nodes rows in
    let graph = is_graph nodes rows kept in
    let m = place_of nodes x (linked_node g y x graph (linked_sym g x y l)) in
    let n = place_of nodes y (linked_node g x y graph l) in
    let a : slice_index nodes m.0 ≡ x = m.2 in
    let b : slice_index nodes n.0 ≡ y = n.2 in
    let there : Linked g (slice_index nodes m.0) (slice_index nodes n.0) =
    subst (λ (z : ℕ). Linked g z (slice_index nodes n.0)) (sym a) (subst (Linked g x) (sym b) l) in
    record {
      r = m.0;
      s = n.0;
      r_below = m.1;
      s_below = n.1;
      first = a;
      second = b;
      bit = (linked_bits nodes rows m.0 n.0 kept m.1 n.1).0 there;
    }

at_linked : (nodes : List ℕ) (rows : List (List ℕ)) (x y : ℕ) → IsKept nodes rows → IsAt nodes rows x y
    → Linked (graph_kept nodes rows) x y
at_linked nodes rows x y kept at =
    let g = graph_kept nodes rows in
    let l = (linked_bits nodes rows at.r at.s kept at.r_below at.s_below).1 at.bit in
    subst (Linked g x) at.second (subst (λ (z : ℕ). Linked g z (slice_index nodes at.s)) at.first l)

-- the nodes at places p and q, where row p has bit q
at_places : (nodes : List ℕ) (rows : List (List ℕ)) (p q x y : ℕ) → p < length nodes → q < length nodes
    → x ≡ slice_index nodes p → y ≡ slice_index nodes q → HasBit (row_at rows p) q → IsAt nodes rows x y
at_places nodes rows p q x y pl ql e f h = record {
  r = p;
  s = q;
  r_below = pl;
  s_below = ql;
  first = sym e;
  second = sym f;
  bit = h;
}

-- the nodes that stand at places p and q
are_there : (nodes : List ℕ) (rows : List (List ℕ)) (x y p q a b : ℕ) (at : IsAt nodes rows x y)
    → slice_index nodes p ≡ a
    → slice_index nodes q ≡ b → (at.r ≡ p) × (at.s ≡ q) → (x ≡ a) × (y ≡ b)
are_there nodes rows x y p q a b at e f t =
    (sym at.first ∙ ap (slice_index nodes) t.0 ∙ e, sym at.second ∙ ap (slice_index nodes) t.1 ∙ f)

-- both bits of a link are set
pub gains_link : (nodes : List ℕ) (rows rows1 rows2 : List (List ℕ)) (p q a b : ℕ) → IsKept nodes rows
    → IsKept nodes rows2
    → p < length nodes → q < length nodes → slice_index nodes p ≡ a → slice_index nodes q ≡ b
    → ((r s : ℕ) → HasBit (row_at rows1 r) s ↔ (((r ≡ p) × (s ≡ q)) ⊎ HasBit (row_at rows r) s))
    → ((r s : ℕ) → HasBit (row_at rows2 r) s ↔ (((r ≡ q) × (s ≡ p)) ⊎ HasBit (row_at rows1 r) s))
    → GainsLink (graph_kept nodes rows) a b (graph_kept nodes rows2)
gains_link nodes rows rows1 rows2 p q a b kept kept2 pl ql e f first second = record {
  nodes = refl;
  links = λ x y. (
    (λ l.
        let at = linked_at nodes rows2 x y kept2 l in
        elim ((second at.r at.s).0 at.bit) [
          | inl t ↦ inl (inr (are_there nodes rows2 x y q p b a at f e t))
          | inr k ↦ elim ((first at.r at.s).0 k) [
            | inl t ↦ inl (inl (are_there nodes rows2 x y p q a b at e f t))
            | inr m ↦ inr (at_linked nodes rows x y kept (at_other nodes rows2 rows x y at m))
          ]
        ]),
    (λ h. at_linked nodes rows2 x y kept2 (elim h [
      | inl pair ↦ elim pair [
        | inl t ↦
            let bit = (second p q).1 (inr ((first p q).1 (inl (refl, refl)))) in
            at_places nodes rows2 p q x y pl ql (t.0 ∙ sym e) (t.1 ∙ sym f) bit
        | inr t ↦ at_places nodes rows2 q p x y ql pl (t.0 ∙ sym f) (t.1 ∙ sym e) ((second q p).1 (inl (refl, refl)))
      ]
      | inr l ↦
          let at = linked_at nodes rows x y kept l in
          at_other nodes rows rows2 x y at ((second at.r at.s).1 (inr ((first at.r at.s).1 (inr at.bit))))
    ])),
  );
}

-- both bits of a link are cleared
pub loses_link : (nodes : List ℕ) (rows rows1 rows2 : List (List ℕ)) (p q a b : ℕ) → IsKept nodes rows
    → IsKept nodes rows2
    → p < length nodes → q < length nodes → slice_index nodes p ≡ a → slice_index nodes q ≡ b
    → ((r s : ℕ) → HasBit (row_at rows1 r) s ↔ (¬ ((r ≡ p) × (s ≡ q)) × HasBit (row_at rows r) s))
    → ((r s : ℕ) → HasBit (row_at rows2 r) s ↔ (¬ ((r ≡ q) × (s ≡ p)) × HasBit (row_at rows1 r) s))
    → LosesLink (graph_kept nodes rows) a b (graph_kept nodes rows2)
loses_link nodes rows rows1 rows2 p q a b kept kept2 pl ql e f first second = record {
  nodes = refl;
  links = λ x y. (
    (λ l.
        let at = linked_at nodes rows2 x y kept2 l in
        let m = (second at.r at.s).0 at.bit in
        let n = (first at.r at.s).0 m.1 in
        let place = λ (i j : ℕ) (z : ℕ) (il : i < length nodes) (jl : j < length nodes) (k : slice_index nodes i ≡ z)
        (same : z ≡ slice_index nodes j). one_place nodes i j kept.ascend il jl (k ∙ same) in (
          (λ pair. elim pair [
            | inl t ↦
                let r_is = place at.r p x at.r_below pl at.first (t.0 ∙ sym e) in
                n.0 (r_is, place at.s q y at.s_below ql at.second (t.1 ∙ sym f))
            | inr t ↦
                let r_is = place at.r q x at.r_below ql at.first (t.0 ∙ sym f) in
                m.0 (r_is, place at.s p y at.s_below pl at.second (t.1 ∙ sym e))
          ]),
          at_linked nodes rows x y kept (at_other nodes rows2 rows x y at n.1),
        )),
    (λ h.
        let at = linked_at nodes rows x y kept h.1 in
        let not_one = λ (t : (at.r ≡ p) × (at.s ≡ q)). h.0 (inl (are_there nodes rows x y p q a b at e f t)) in
        let not_other = λ (t : (at.r ≡ q) × (at.s ≡ p)). h.0 (inr (are_there nodes rows x y q p b a at f e t)) in
        let bit = (second at.r at.s).1 (not_other, (first at.r at.s).1 (not_one, at.bit)) in
        at_linked nodes rows2 x y kept2 (at_other nodes rows rows2 x y at bit)),
  );
}
