-- Paths of one link and of two: the pieces that are good by them alone.
use Rattle.std.proofs.Common.{◌≡◌, ◌≢◌, ◌∙◌, ◌↔◌, ℕ, zero, suc, ◌*◌, ◌<◌, ◌≤◌, inl, inr, List, [], ◌∷◌, length, map}
use Rattle.std.proofs.Common.{take, nat_lt, refl, sym, subst, arith}
use Rattle.std.proofs.lemmas.Bool.{lt-ltb, ltb-true}
use Rattle.std.proofs.lemmas.List.{length-map, length-take-le}
use Rattle.ov_ids.specs.Members.{Has, IsDistinct}
use Rattle.ov_ids.proofs.Members.{has_from_take, ascends_distinct, place_of, ordered_at}
use Rattle.ov_graph.specs.Links.{LinkGraph, IsGraph, Linked, IsGroup}
use Rattle.ov_graph.specs.Paths.{node_at, ShareOnly, ArePaths, IsFan, IsPath}
use Rattle.ov_graph.specs.Even.{members_below}
use Rattle.ov_graph.specs.Row.{HasBit, AreWordsFor}
use Rattle.ov_graph.proofs.EvenTest.Filtered.{has_filter, has_filtered, linked_node}
use Rattle.ov_graph.proofs.EvenTest.Walks.{linked_sym}
use Rattle.ov_graph.proofs.GraphValues.OneGraph.{not_self}
use Rattle.ov_split.proofs.ByNames.Mapped.{has_map, map_has}
use Rattle.ov_flow.specs.Flow.{AreBitsOf}
use Rattle.ov_fans.specs.Pieces.{member_at, IsPiece, IsGood}
use Rattle.ov_fans.specs.Counts.{IsNumberOf}
use Rattle.ov_fans.specs.declared.piece.Piece.TheVariants.{Pair, Fan}
use Rattle.ov_fans.proofs.RowScans.Counting.{IsShared}
use Rattle.ov_fans.proofs.PieceNets.Aimed.{place_below}
use Rattle.ov_fans.proofs.PieceNets.MemberPlaces.{ascend_nodes}
use Rattle.ov_fans.proofs.PieceNets.Routes.{pair_differ, below_self}

-- paths of two links from a to b, over different nodes, share only a and b
over_apart : (a b : ℕ) (xs : List ℕ) → IsDistinct xs → ShareOnly (a ∷ b ∷ []) (map (λ x. a ∷ x ∷ b ∷ []) xs)
over_apart a b [] d = tt
over_apart a b (x ∷ xs) d = (
  (λ r y hr hp hy.
      let o = map_has (λ (z : ℕ). a ∷ z ∷ b ∷ []) xs r hr in
      elim hp [
        | inl e ↦ inl e
        | inr (inl e) ↦ elim (subst (λ (l : List ℕ). Has l y) (sym o.2) hy) [
          | inl f ↦ inl f
          | inr (inl f) ↦ absurd (d.0 (subst (Has xs) (f ∙ sym e) o.1))
          | inr (inr k) ↦ inr k
        ]
        | inr (inr k) ↦ inr k
      ]),
  over_apart a b xs d.1,
)

-- links from a to different nodes share only a
to_apart : (a : ℕ) (xs : List ℕ) → IsDistinct xs → ShareOnly (a ∷ []) (map (λ x. a ∷ x ∷ []) xs)
to_apart a [] d = tt
to_apart a (x ∷ xs) d = (
  (λ r y hr hp hy.
      let o = map_has (λ (z : ℕ). a ∷ z ∷ []) xs r hr in
      elim hp [
        | inl e ↦ inl e
        | inr (inl e) ↦ elim (subst (λ (l : List ℕ). Has l y) (sym o.2) hy) [
          | inl f ↦ inl f
          | inr (inl f) ↦ absurd (d.0 (subst (Has xs) (f ∙ sym e) o.1))
          | inr (inr k) ↦ absurd k
        ]
        | inr (inr k) ↦ absurd k
      ]),
  to_apart a xs d.1,
)

-- over common neighbours lead paths that share only their ends
paths_over : (g : LinkGraph) (a b : ℕ) (xs : List ℕ) → IsGraph g → a ≢ b → IsDistinct xs
    → ((x : ℕ) → Has xs x → Linked g a x × Linked g b x) → ArePaths g a b (length xs) (map (λ x. a ∷ x ∷ b ∷ []) xs)
paths_over g a b xs graph ne d linked = record {
  count = length-map xs (λ (x : ℕ). a ∷ x ∷ b ∷ []);
  each = λ p h.
      let o = map_has (λ (x : ℕ). a ∷ x ∷ b ∷ []) xs p h in
      subst (λ (l : List ℕ). IsPath g a l b) o.2 (path o.0 (linked o.0 o.1).0 (linked o.0 o.1).1);
  apart = over_apart a b xs d;
}
  where
    path : (x : ℕ) → Linked g a x → Linked g b x → IsPath g a (a ∷ x ∷ b ∷ []) b
    path x l m =
        let back = linked_sym g b x m in record {
          nodes = λ y k. elim k [
            | inl e ↦ subst (Has g.nodes) e (linked_node g x a graph (linked_sym g a x l))
            | inr (inl e) ↦ subst (Has g.nodes) e (linked_node g a x graph l)
            | inr (inr (inl e)) ↦ subst (Has g.nodes) e (linked_node g x b graph back)
            | inr (inr (inr w)) ↦ absurd w
          ];
          walk = (refl, (l, (back, refl)));
          distinct = (
            (λ k. elim k [
              | inl e ↦ not_self g a graph (subst (Linked g a) e l)
              | inr (inl e) ↦ ne (sym e)
              | inr (inr w) ↦ w
            ]),
            ((λ k. elim k [ inl e ↦ not_self g b graph (subst (Linked g b) (sym e) m) | inr w ↦ w ]), ((λ w. w), tt)),
          );
        }

-- links to targets are a fan
fan_to : (g : LinkGraph) (a : ℕ) (targets xs : List ℕ) → IsGraph g → ¬ Has targets a → IsDistinct xs
    → ((x : ℕ) → Has xs x → Linked g a x × Has targets x) → IsFan g a targets (length xs) (map (λ x. a ∷ x ∷ []) xs)
fan_to g a targets xs graph outside d linked = record {
  count = length-map xs (λ (x : ℕ). a ∷ x ∷ []);
  outside = outside;
  each = λ p h.
      let o = map_has (λ (x : ℕ). a ∷ x ∷ []) xs p h in
      let l = linked o.0 o.1 in
      (o.0, l.1, subst (λ (q : List ℕ). IsPath g a q o.0) o.2 (path o.0 l.0));
  apart = to_apart a xs d;
}
  where
    path : (x : ℕ) → Linked g a x → IsPath g a (a ∷ x ∷ []) x
    path x l = record {
      nodes = λ y k. elim k [
        | inl e ↦ subst (Has g.nodes) e (linked_node g x a graph (linked_sym g a x l))
        | inr (inl e) ↦ subst (Has g.nodes) e (linked_node g a x graph l)
        | inr (inr w) ↦ absurd w
      ];
      walk = (refl, (l, refl));
      distinct = (
        (λ k. elim k [ inl e ↦ not_self g a graph (subst (Linked g a) e l) | inr w ↦ w ]),
        ((λ w. w), tt),
      );
    }

distinct_take : (k : ℕ) (xs : List ℕ) → IsDistinct xs → IsDistinct (take k xs)
distinct_take zero xs d = tt
distinct_take (suc k) [] d = tt
distinct_take (suc k) (x ∷ xs) d = ((λ h. d.0 (has_from_take xs k x h)), distinct_take k xs d.1)

-- the first of those for which P holds
record AreFirst (P : ℕ → Type 0) (level : ℕ) : Type 0 where
  some : List ℕ
  distinct : IsDistinct some
  counted : length some ≡ level
  each : (x : ℕ) → Has some x → P x

first_of : (P : ℕ → Type 0) (count level : ℕ) → IsNumberOf P count → level ≤ count → AreFirst P level
first_of P count level n enough = let e = n.counted in record {
  some = take level n.all;
  distinct = distinct_take level n.all (ascends_distinct n.all n.ascend);
  counted = length-take-le level n.all (omega (arith, enough, e));
  each = λ x h. (n.each x).0 (has_from_take n.all level x h);
}

-- a pair with as many common neighbours as it asks for paths is good
pub pair_short : (g : LinkGraph) (q : List ℕ) (level i j count : ℕ) → IsGraph g → IsGroup g q
    → IsPiece g q (Pair level i j)
    → IsNumberOf (λ x. Linked g (member_at q i) x × Linked g (member_at q j) x) count → level ≤ count
    → IsGood g q (Pair level i j)
pair_short g q level i j count graph group at common enough =
    let a = member_at q i in
    let b = member_at q j in
    let s = first_of (λ x. Linked g a x × Linked g b x) count level common enough in
    let paths : List (List ℕ) = map (λ x. a ∷ x ∷ b ∷ []) s.some in
    inr (
      paths,
      subst (λ (k : ℕ). ArePaths g a b k paths) s.counted
          (paths_over g a b s.some graph (pair_differ g q level i j group at) s.distinct s.each),
    )

-- a fan whose source is linked to as many members before it as it asks for paths is good
pub fan_short : (g : LinkGraph) (q : List ℕ) (level j count : ℕ) → IsGraph g
    → IsNumberOf (λ x. Linked g (member_at q j) x × Has (members_below q (member_at q j)) x) count → level ≤ count
    → IsGood g q (Fan level j)
fan_short g q level j count graph linked enough =
    let a = member_at q j in
    let targets = members_below q a in
    let s = first_of (λ x. Linked g a x × Has targets x) count level linked enough in
    let paths : List (List ℕ) = map (λ x. a ∷ x ∷ []) s.some in
    inr (
      paths,
      subst (λ (k : ℕ). IsFan g a targets k paths) s.counted
          (fan_to g a targets s.some graph (below_self q a) s.distinct s.each),
    )

-- The same numbers by rows of bits.

-- there are as many nodes with Q as places p with P, if P says of a place that it is one of a node with Q
pub nodes_number : (g : LinkGraph) (P Q : ℕ → Type 0) (count : ℕ) → IsGraph g → ((x : ℕ) → Q x → Has g.nodes x)
    → ((p : ℕ) → P p ↔ ((p < length g.nodes) × Q (node_at g p))) → IsNumberOf P count → IsNumberOf Q count
nodes_number g P Q count graph nodes by_place places = record {
  all = map (node_at g) places.all;
  ascend = ascend_nodes g places.all graph.nodes_ascend (λ p h. ((by_place p).0 ((places.each p).0 h)).0) places.ascend;
  each = λ x. (
    (λ h.
        let r = map_has (node_at g) places.all x h in
        subst Q r.2 ((by_place r.0).0 ((places.each r.0).0 r.1)).1),
    (λ h.
        let n = place_of g.nodes x (nodes x h) in
        let p = n.0 in
        let node : node_at g p ≡ x = n.2 in
        subst (Has (map (node_at g) places.all)) node
        (has_map (node_at g) places.all p ((places.each p).1 ((by_place p).1 (n.1, subst Q (sym node) h))))),
  );
  counted = length-map places.all (node_at g) ∙ places.counted;
}

-- the row has the bits of the nodes that a is linked to
abbrev pub AreLinkBits : LinkGraph → ℕ → List ℕ → Type 0
AreLinkBits g a row = (p : ℕ) → HasBit row p ↔ ((p < length g.nodes) × Linked g a (node_at g p))

-- it is the row at the place of a
pub link_bits : (g h : LinkGraph) (a p : ℕ) (row : List ℕ) → h ≡ g → node_at g p ≡ a
    → AreLinkBits h (node_at h p) row → AreLinkBits g a row
link_bits g h a p row same at bits =
    subst (λ (x : ℕ). AreLinkBits g x row) at (subst (λ (x : LinkGraph). AreLinkBits x (node_at x p) row) same bits)

-- the common neighbours are those whose bits both rows have
pub common_number : (g : LinkGraph) (a b : ℕ) (row other : List ℕ) (words count : ℕ) → IsGraph g
    → AreWordsFor (length g.nodes) words → AreLinkBits g a row → AreLinkBits g b other
    → IsNumberOf (IsShared row other (64 * words)) count → IsNumberOf (λ x. Linked g a x × Linked g b x) count
common_number g a b row other words count graph wide near far shared =
    nodes_number g (IsShared row other (64 * words)) (λ x. Linked g a x × Linked g b x) count graph
    (λ x l. linked_node g a x graph l.0)
    (λ p. (
      (λ h. let k = (near p).0 h.1 in (k.0, (k.1, ((far p).0 h.2).1))),
      (λ h. let l = h.0 in let e = wide.enough in
          (omega (arith, l, e), (near p).1 (l, h.1.0), (far p).1 (l, h.1.1))),
    ))
    shared

-- the neighbours before a member are those whose bits are in its row and in the row of the members before it
pub earlier_number : (g : LinkGraph) (q : List ℕ) (a source : ℕ) (row members before : List ℕ) (words count : ℕ)
    → IsGraph g → AreWordsFor (length g.nodes) words → source < length g.nodes → node_at g source ≡ a
    → AreLinkBits g a row → AreBitsOf g members q
    → ((p : ℕ) → HasBit before p ↔ ((p < source) × HasBit members p))
    → IsNumberOf (IsShared row before (64 * words)) count
    → IsNumberOf (λ x. Linked g a x × Has (members_below q a) x) count
earlier_number g q a source row members before words count graph wide l at near kept bits shared =
    nodes_number g (IsShared row before (64 * words)) (λ x. Linked g a x × Has (members_below q a) x) count graph
    (λ x h. linked_node g a x graph h.0)
    (λ p. (
      (λ h.
          let k = (near p).0 h.1 in
          let b = (bits p).0 h.2 in
          let less : node_at g p < node_at g source =
          ordered_at (λ x y. x < y) g.nodes p source 0 graph.nodes_ascend b.0 l in (
            k.0,
            (
              k.1,
              has_filter (λ y. nat_lt y a) q (node_at g p) ((kept p).0 b.1).1
                  (lt-ltb (node_at g p) a (omega (arith, less, at))),
            ),
          )),
      (λ h.
          let m = h.0 in
          let e = wide.enough in
          let r = has_filtered (λ y. nat_lt y a) q (node_at g p) h.1.1 in
          let less : node_at g p < a = ltb-true (node_at g p) a r.1 in
          let first : p < source = place_below g.nodes p source graph.nodes_ascend m (omega (arith, less, at)) l in
          (omega (arith, m, e), (near p).1 (m, h.1.0), (bits p).1 (first, (kept p).1 (m, r.0)))),
    ))
    shared
