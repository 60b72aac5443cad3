-- Rows with the bits of links.
use Rattle.std.proofs.Common.{◌≡◌, ◌≢◌, ◌∙◌, ◌↔◌, ◌⊎◌, ℕ, ◌+◌, ◌<◌, ◌≤◌, List, [], ◌∷◌, ◌++◌, length, replicate, set}
use Rattle.std.proofs.Common.{slice_index, inl, inr, refl, sym, ap, subst, arith}
use Rattle.std.proofs.lemmas.Bool.{cases_order, cases_eq, cases_lt}
use Rattle.std.proofs.lemmas.List.{get_or-set_same, get_or-set_other, get_or-replicate, length-replicate, get_or_past}
use Rattle.ov_ids.specs.Members.{Has, Ascends}
use Rattle.ov_ids.proofs.Members.{place_of, ordered_at}
use Rattle.ov_ids.proofs.Members.{same_ordered}
use Rattle.ov_graph.specs.Links.{LinkGraph, IsGraph, Precedes, Linked, most_nodes}
use Rattle.ov_graph.specs.Row.{HasBit}
use Rattle.ov_graph.specs.Code.Kept.{row_at, links_read, graph_kept, IsKept, IsMarked}
use Rattle.ov_graph.proofs.BitRows.Bits.{bit_moved, no_row}
use Rattle.ov_graph.proofs.BitRows.Read.{has_read, in_read, ordered_read, row_below}
use Rattle.ov_graph.proofs.EvenTest.Walks.{linked_sym}
use Rattle.ov_graph.proofs.GraphValues.OneGraph.{not_self}
use Rattle.ov_graph.proofs.GraphValues.OneMoreLink.{more_joined}

abbrev graph_of : List ℕ → List (ℕ × ℕ) → LinkGraph
graph_of nodes links = record { nodes = nodes; links = links }

-- rows with the bits of a graph's links keep the graph
pub is_kept : (nodes : List ℕ) (links : List (ℕ × ℕ)) (rows : List (List ℕ)) → length nodes ≤ most_nodes
    → IsGraph (graph_of nodes links)
    → IsMarked nodes links rows → IsKept nodes rows
is_kept nodes links rows few graph marked = record {
  few = few;
  ascend = graph.nodes_ascend;
  each = marked.each;
  within = λ p q h. ((marked.bits p q).0 h).1;
  both = λ p q h. let m = (marked.bits p q).0 h in
      (marked.bits q p).1
      (m.1, m.0, linked_sym (graph_of nodes links) (slice_index nodes p) (slice_index nodes q) m.2);
  apart = λ p h. not_self (graph_of nodes links) (slice_index nodes p) graph ((marked.bits p p).0 h).2;
}

in_marked : (nodes : List ℕ) (links : List (ℕ × ℕ)) (rows : List (List ℕ)) (x y : ℕ) → IsGraph (graph_of nodes links)
    → IsMarked nodes links rows → Has links (x, y) → Has {X = ℕ × ℕ} (links_read 0 nodes rows) (x, y)
unfolding Linked
in_marked nodes links rows x y graph marked h =
    let j = graph.joins (x, y) h in
    let m = place_of nodes x j.1 in
    let n = place_of nodes y j.2 in
    let p = m.0 in
    let q = n.0 in
    let pl : p < length nodes = m.1 in
    let ql : q < length nodes = n.1 in
    let e : slice_index nodes p ≡ x = m.2 in
    let f : slice_index nodes q ≡ y = n.2 in
    let rising : x < y = j.0 in
    let less : p < q = elim (cases_order p q) [
      | inl s ↦ let t : slice_index nodes p ≡ slice_index nodes q = ap (λ (i : ℕ). slice_index nodes i) s in
          absurd (omega (arith, rising, e, f, t))
      | inr (inl k) ↦ k
      | inr (inr k) ↦ let t : slice_index nodes q < slice_index nodes p =
          ordered_at (λ x y. x < y) nodes q p 0 graph.nodes_ascend k pl in absurd (omega (arith, rising, e, f, t))
    ] in
    let l : Has links (slice_index nodes p, slice_index nodes q) =
    subst (λ (a : ℕ). Has links (a, slice_index nodes q)) (sym e) (subst (λ (b : ℕ). Has links (x, b)) (sym f) h) in
    let r : Has {X = ℕ × ℕ} (links_read 0 nodes rows) (slice_index nodes p, slice_index nodes q) =
    in_read 0 nodes rows p q less ql
    (bit_moved (row_at rows p) q (0 + q) (omega arith) ((marked.bits p q).1 (pl, ql, inl l))) in
    subst (λ (a : ℕ). Has {X = ℕ × ℕ} (links_read 0 nodes rows) (a, y)) e
    (subst (λ (b : ℕ). Has {X = ℕ × ℕ} (links_read 0 nodes rows) (slice_index nodes p, b)) f r)

from_marked : (nodes : List ℕ) (links : List (ℕ × ℕ)) (rows : List (List ℕ)) (x y : ℕ) → IsGraph (graph_of nodes links)
    → IsMarked nodes links rows → Has {X = ℕ × ℕ} (links_read 0 nodes rows) (x, y) → Has links (x, y)
unfolding Linked
from_marked nodes links rows x y graph marked h =
    let r = has_read 0 nodes rows x y h in
    let b = (marked.bits r.lower r.higher).0
    (bit_moved (row_at rows r.lower) (0 + r.higher) r.higher (omega arith) r.bit) in
    let less : slice_index nodes r.lower < slice_index nodes r.higher =
    ordered_at (λ x y. x < y) nodes r.lower r.higher 0 graph.nodes_ascend r.less r.below in
    let l : Has links (slice_index nodes r.lower, slice_index nodes r.higher) = elim b.2 [
      | inl k ↦ k
      | inr k ↦ let j : slice_index nodes r.higher < slice_index nodes r.lower =
          (graph.joins (slice_index nodes r.higher, slice_index nodes r.lower) k).0 in absurd (omega (arith, less, j))
    ] in
    subst (λ (a : ℕ). Has links (a, y)) r.first (subst (λ (b : ℕ). Has links (slice_index nodes r.lower, b)) r.second l)

pub no_round : (l m : ℕ × ℕ) → Precedes l m → Precedes m l → ⊥
no_round l m p q = elim p [
  | inl a ↦ elim q [ inl b ↦ omega (arith, a, b) | inr b ↦ let c = b.0 in omega (arith, a, c) ]
  | inr a ↦ elim q [
    | inl b ↦ let c = a.0 in omega (arith, c, b)
    | inr b ↦ let c = a.1 in let d = b.1 in omega (arith, c, d)
  ]
]

-- the links that are read from the rows are the links that were marked
pub read_back : (nodes : List ℕ) (links : List (ℕ × ℕ)) (rows : List (List ℕ)) → IsGraph (graph_of nodes links)
    → IsMarked nodes links rows → links_read 0 nodes rows ≡ links
read_back nodes links rows graph marked =
    same_ordered Precedes no_round (links_read 0 nodes rows) links (ordered_read 0 nodes rows graph.nodes_ascend)
    graph.links_ascend (λ l h. from_marked nodes links rows l.0 l.1 graph marked h)
    (λ l h. in_marked nodes links rows l.0 l.1 graph marked h)

-- empty rows have the bits of no links
pub none_marked : (nodes : List ℕ) (rows : List (List ℕ)) → length rows ≡ length nodes
    → ((p q : ℕ) → ¬ HasBit (row_at rows p) q) → IsMarked nodes [] rows
unfolding Linked
none_marked nodes rows e none = record {
  each = e;
  bits = λ p q. ((λ h. absurd (none p q h)), (λ m. absurd (elim m.2 [ inl h ↦ h | inr h ↦ h ])));
}

-- the bits of one more link
pub more_marked : (nodes : List ℕ) (links : List (ℕ × ℕ)) (rows rows1 rows2 : List (List ℕ)) (p q a b : ℕ)
    → Ascends nodes → p < length nodes → q < length nodes → slice_index nodes p ≡ a → slice_index nodes q ≡ b
    → length rows2 ≡ length rows →
    ((r s : ℕ) → HasBit (row_at rows1 r) s ↔ (((r ≡ p) × (s ≡ q)) ⊎ HasBit (row_at rows r) s))
    → ((r s : ℕ) → HasBit (row_at rows2 r) s ↔ (((r ≡ q) × (s ≡ p)) ⊎ HasBit (row_at rows1 r) s)) →
    IsMarked nodes links rows → IsMarked nodes (links ++ (a, b) ∷ []) rows2
more_marked nodes links rows rows1 rows2 p q a b up pl ql e f same first second marked = record {
  each = same ∙ marked.each;
  bits = more_joined nodes links (λ r s. HasBit (row_at rows r) s) (λ r s. HasBit (row_at rows1 r) s)
      (λ r s. HasBit (row_at rows2 r) s) p q a b up pl ql e f first second marked.bits;
}

-- the bits of rows after one row is replaced
pub set_row : (rows : List (List ℕ)) (p : ℕ) (row : List ℕ) → p < length rows
    → (r s : ℕ) → HasBit (row_at (set rows p row) r) s
    ↔ (((r ≡ p) × HasBit row s) ⊎ ((r ≢ p) × HasBit (row_at rows r) s))
set_row rows p row l r s = elim (cases_eq r p) [
  | inl e ↦
      let w : row_at (set rows p row) r ≡ row =
      subst (λ (i : ℕ). row_at (set rows p row) i ≡ row) (sym e) (get_or-set_same rows p row [] l) in (
        (λ h. inl (e, subst (λ (t : List ℕ). HasBit t s) w h)),
        (λ h. subst (λ (t : List ℕ). HasBit t s) (sym w) (elim h [ inl k ↦ k.1 | inr k ↦ absurd (k.0 e) ])),
      )
  | inr d ↦
      let w : row_at (set rows p row) r ≡ row_at rows r = get_or-set_other rows p r row [] d in (
        (λ h. inr (d, subst (λ (t : List ℕ). HasBit t s) w h)),
        (λ h. subst (λ (t : List ℕ). HasBit t s) (sym w) (elim h [ inl k ↦ absurd (d k.0) | inr k ↦ k.1 ])),
      )
]

row_moved : (rows : List (List ℕ)) (p r s : ℕ) → p ≡ r → HasBit (row_at rows p) s → HasBit (row_at rows r) s
row_moved rows p r s e h = subst (λ (i : ℕ). HasBit (row_at rows i) s) e h

-- one bit of one row is set
pub mark_row : (rows : List (List ℕ)) (p q : ℕ) (row : List ℕ) → p < length rows
    → ((s : ℕ) → HasBit row s ↔ ((s ≡ q) ⊎ HasBit (row_at rows p) s))
    → (r s : ℕ) → HasBit (row_at (set rows p row) r) s ↔ (((r ≡ p) × (s ≡ q)) ⊎ HasBit (row_at rows r) s)
mark_row rows p q row l put r s =
    let b = set_row rows p row l r s in (
      (λ h. elim (b.0 h) [
        | inl k ↦ elim ((put s).0 k.1) [ inl f ↦ inl (k.0, f) | inr m ↦ inr (row_moved rows p r s (sym k.0) m) ]
        | inr k ↦ inr k.1
      ]),
      (λ h. elim h [
        | inl f ↦ b.1 (inl (f.0, (put s).1 (inl f.1)))
        | inr k ↦ elim (cases_eq r p) [
          | inl e ↦ b.1 (inl (e, (put s).1 (inr (row_moved rows r p s e k))))
          | inr d ↦ b.1 (inr (d, k))
        ]
      ]),
    )

-- one bit of one row is cleared
pub unmark_row : (rows : List (List ℕ)) (p q : ℕ) (row : List ℕ) → p < length rows
    → ((s : ℕ) → HasBit row s ↔ ((s ≢ q) × HasBit (row_at rows p) s))
    → (r s : ℕ) → HasBit (row_at (set rows p row) r) s ↔ (¬ ((r ≡ p) × (s ≡ q)) × HasBit (row_at rows r) s)
unmark_row rows p q row l cleared r s =
    let b = set_row rows p row l r s in
    let c = cleared s in (
      (λ h. elim (b.0 h) [
        | inl k ↦ let m = c.0 k.1 in ((λ t. m.0 t.1), row_moved rows p r s (sym k.0) m.1)
        | inr k ↦ ((λ t. k.0 t.0), k.1)
      ]),
      (λ h. elim (cases_eq r p) [
        | inl e ↦ b.1 (inl (e, c.1 ((λ f. h.0 (e, f)), row_moved rows r p s e h.1)))
        | inr d ↦ b.1 (inr (d, h.1))
      ]),
    )

-- one more row is changed, as the rows before it were
pub more_changed : (rows now : List (List ℕ)) (place : ℕ) (row : List ℕ) (P : List ℕ → ℕ → Type 0) → place < length now
    → ((s : ℕ) → HasBit row s ↔ P (row_at now place) s)
    → ((r s : ℕ) → r < place → HasBit (row_at now r) s ↔ P (row_at rows r) s)
    → ((r : ℕ) → place ≤ r → row_at now r ≡ row_at rows r)
    → (r s : ℕ) → r < place + 1 → HasBit (row_at (set now place row) r) s ↔ P (row_at rows r) s
more_changed rows now place row P l changed before rest r s m =
    let b = set_row now place row l r s in
    elim (cases_eq r place) [
      | inl e ↦
          let w : row_at now place ≡ row_at rows r = rest place (omega arith) ∙ ap (row_at rows) (sym e) in
          let c = subst (λ (t : List ℕ). HasBit row s ↔ P t s) w (changed s) in (
            (λ h. elim (b.0 h) [ inl k ↦ c.0 k.1 | inr k ↦ absurd (k.0 e) ]),
            (λ h. b.1 (inl (e, c.1 h))),
          )
      | inr d ↦
          let c = before r s (omega (arith, m, d)) in (
            (λ h. elim (b.0 h) [ inl k ↦ absurd (d k.0) | inr k ↦ c.0 k.1 ]),
            (λ h. b.1 (inr (d, c.1 h))),
          )
    ]

pub rest_unchanged : (rows now : List (List ℕ)) (place : ℕ) (row : List ℕ)
    → ((r : ℕ) → place ≤ r → row_at now r ≡ row_at rows r)
    → (r : ℕ) → place + 1 ≤ r → row_at (set now place row) r ≡ row_at rows r
rest_unchanged rows now place row rest r l =
    get_or-set_other now place r row [] (λ e. absurd (omega (arith, e, l))) ∙ rest r (omega (arith, l))

-- past the last row there is nothing to change
pub all_changed : (rows now : List (List ℕ)) (P : List ℕ → ℕ → Type 0) → length now ≡ length rows → ((s : ℕ) → ¬ P [] s)
    → ((r s : ℕ) → r < length rows → HasBit (row_at now r) s ↔ P (row_at rows r) s)
    → (r s : ℕ) → HasBit (row_at now r) s ↔ P (row_at rows r) s
all_changed rows now P e none each r s = elim (cases_lt r (length rows)) [
  | inl l ↦ each r s l
  | inr ge ↦ (
    (λ h. absurd (let l = row_below now r s h in omega (arith, l, e, ge))),
    (λ h. absurd (none s (subst (λ (t : List ℕ). P t s) (get_or_past rows r [] ge) h))),
  )
]

-- rows that are all empty have no bit
pub empty_rows : (n : ℕ) (row : List ℕ) → ((q : ℕ) → ¬ HasBit row q) → (p q : ℕ)
    → ¬ HasBit (row_at (replicate n row) p) q
empty_rows n row none p q h =
    let l : p < length (replicate n row) = row_below (replicate n row) p q h in
    let e : row_at (replicate n row) p ≡ row = get_or-replicate n p row [] (omega (arith, l, length-replicate n row)) in
    none q (subst (λ (t : List ℕ). HasBit t q) e h)

-- nodes and rows keep the graph of the links that were marked
pub same_graph : (nodes nodes' : List ℕ) (links : List (ℕ × ℕ)) (rows : List (List ℕ)) → nodes' ≡ nodes
    → IsGraph (graph_of nodes links) → IsMarked nodes links rows → graph_kept nodes' rows ≡ graph_of nodes links
same_graph nodes nodes' links rows e graph marked = ap (λ (ns : List ℕ). graph_kept ns rows) e
    ∙ ap (graph_of nodes) (read_back nodes links rows graph marked)

-- no nodes and no rows keep a graph
pub nothing_kept : (nodes : List ℕ) (rows : List (List ℕ)) → nodes ≡ [] → rows ≡ [] → IsKept nodes rows
nothing_kept nodes rows n r =
    subst (λ (ns : List ℕ). IsKept ns rows) (sym n) (subst (IsKept []) (sym r) nothing)
  where
    no_bit : (p q : ℕ) → ¬ HasBit (row_at [] p) q
    no_bit p q h = no_row q (subst (λ (t : List ℕ). HasBit t q) (get_or_past [] p [] (omega arith)) h)

    nothing : IsKept [] []
    nothing = record {
      few = omega arith;
      ascend = tt;
      each = refl;
      within = λ p q h. absurd (no_bit p q h);
      both = λ p q h. absurd (no_bit p q h);
      apart = λ p h. no_bit p p h;
    }

-- and it is the graph without nodes
pub nothing_same : (nodes : List ℕ) (rows : List (List ℕ)) → nodes ≡ [] → rows ≡ []
    → graph_kept nodes rows ≡ graph_of [] []
unfolding links_read
nothing_same nodes rows n r =
    subst (λ (ns : List ℕ). graph_kept ns rows ≡ graph_of [] []) (sym n)
    (subst (λ (rs : List (List ℕ)). graph_kept [] rs ≡ graph_of [] []) (sym r) same)
  where
    same : graph_kept [] [] ≡ graph_of [] []
    same = refl
