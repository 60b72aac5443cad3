-- The links that rows of bits stand for.
use Rattle.std.proofs.Common.{◌≡◌, ◌∙◌, ◌↔◌, ℕ, zero, suc, ◌+◌, ◌-◌, ◌<◌, ◌≤◌, List, [], ◌∷◌, ◌++◌, Bool, true, false}
use Rattle.std.proofs.Common.{map, cond, length, get_or, slice_index, drop, inl, inr, refl, sym, ap, ap₂, subst, arith}
use Rattle.std.proofs.Common.{length-drop}
use Rattle.std.proofs.lemmas.Bool.{cases_lt, cases_order}
use Rattle.std.proofs.lemmas.List.{get_or-drop, get_or_default, drop-drop, get_or_past, drop_all}
use Rattle.std.proofs.Math.Seq.{drop-cons}
use Rattle.std.specs.List.{AllByRecursion}
use Rattle.ov_ids.specs.Members.{Has, Ordered, Ascends}
use Rattle.ov_ids.proofs.Members.{has_append_left, has_append_right, has_append_cases, has_place, place_of, all_member}
use Rattle.ov_ids.proofs.Members.{all_from_members, ordered_at}
use Rattle.ov_graph.specs.Links.{LinkGraph, IsGraph, Precedes, Linked, AreNeighbours}
use Rattle.ov_graph.specs.Row.{has_bit, HasBit, IsFirstFrom}
use Rattle.ov_graph.specs.Row.{picked}
use Rattle.ov_graph.specs.Code.Kept.{row_at, links_read, links_from, graph_kept, IsKept}
use Rattle.ov_graph.proofs.BitRows.Bits.{no_row, bit_moved}
use Rattle.ov_graph.proofs.EvenTest.Filtered.{linked_node}

-- a node that is picked stands at a place whose bit is set
pub record IsPicked (row : List ℕ) (p : ℕ) (xs : List ℕ) (y : ℕ) : Type 0 where
  pub place : ℕ
  pub below : place < length xs
  pub node : get_or xs place 0 ≡ y
  pub bit : HasBit row (p + place)

picked_later : (row : List ℕ) (p x : ℕ) (xs : List ℕ) (y : ℕ) → IsPicked row (suc p) xs y → IsPicked row p (x ∷ xs) y
picked_later row p x xs y r =
    record {
      place = suc r.place;
      below = let l = r.below in omega (arith, l);
      node = r.node;
      bit = bit_moved row (suc p + r.place) (p + suc r.place) (omega arith) r.bit;
    }

pub has_picked : (row : List ℕ) (p : ℕ) (xs : List ℕ) (y : ℕ) → Has (picked row p xs) y → IsPicked row p xs y
unfolding picked
has_picked row p [] y h = absurd h
has_picked row p (x ∷ xs) y h =
    elim (has_bit row p) as
    (λ b. has_bit row p ≡ b → Has (cond b (x ∷ picked row (suc p) xs) (picked row (suc p) xs)) y
    → IsPicked row p (x ∷ xs) y) [
      | true ↦ λ t k. elim k [
        | inl e ↦ record { place = 0; below = omega arith; node = e; bit = bit_moved row p (p + 0) (omega arith) t }
        | inr m ↦ picked_later row p x xs y (has_picked row (suc p) xs y m)
      ]
      | false ↦ λ t k. picked_later row p x xs y (has_picked row (suc p) xs y k)
    ] refl h

pub in_picked : (row : List ℕ) (p : ℕ) (xs : List ℕ) (k : ℕ) → k < length xs → HasBit row (p + k)
    → Has (picked row p xs) (get_or xs k 0)
unfolding picked
in_picked row p [] k l h = absurd (omega arith)
in_picked row p (x ∷ xs) zero l h =
    let t : has_bit row p ≡ true = bit_moved row (p + 0) p (omega arith) h in
    subst (λ (b : Bool). Has (cond b (x ∷ picked row (suc p) xs) (picked row (suc p) xs)) x) (sym t) (inl refl)
in_picked row p (x ∷ xs) (suc k) l h =
    let m = in_picked row (suc p) xs k (omega arith) (bit_moved row (p + suc k) (suc p + k) (omega arith) h) in
    elim (has_bit row p) as (λ b. Has (cond b (x ∷ picked row (suc p) xs) (picked row (suc p) xs)) (get_or xs k 0)) [
      | true ↦ inr m
      | false ↦ m
    ]

all_picked : (P : ℕ → Type 0) (row : List ℕ) (p : ℕ) (xs : List ℕ) → AllByRecursion P xs
    → AllByRecursion P (picked row p xs)
unfolding picked
all_picked P row p [] a = tt
all_picked P row p (x ∷ xs) a =
    elim (has_bit row p) as (λ b. AllByRecursion P (cond b (x ∷ picked row (suc p) xs) (picked row (suc p) xs))) [
      | true ↦ (a.0, all_picked P row (suc p) xs a.1)
      | false ↦ all_picked P row (suc p) xs a.1
    ]

pub ascends_picked : (row : List ℕ) (p : ℕ) (xs : List ℕ) → Ascends xs → Ascends (picked row p xs)
unfolding picked
ascends_picked row p [] up = tt
ascends_picked row p (x ∷ xs) up =
    elim (has_bit row p) as (λ b. Ascends (cond b (x ∷ picked row (suc p) xs) (picked row (suc p) xs))) [
      | true ↦ (all_picked (λ y. x < y) row (suc p) xs up.0, ascends_picked row (suc p) xs up.1)
      | false ↦ ascends_picked row (suc p) xs up.1
    ]

-- nothing is picked where no bit is set
pub none_picked : (row : List ℕ) (p : ℕ) (xs : List ℕ) → ((q : ℕ) → p ≤ q → ¬ HasBit row q) → picked row p xs ≡ []
unfolding picked
none_picked row p [] none = refl
none_picked row p (x ∷ xs) none =
    elim (has_bit row p) as (λ b. has_bit row p ≡ b → cond b (x ∷ picked row (suc p) xs) (picked row (suc p) xs) ≡ []) [
      | true ↦ λ t. absurd (none p (omega arith) t)
      | false ↦ λ t. none_picked row (suc p) xs (λ q l. none q (omega (arith, l)))
    ] refl

-- the first node that is picked
first_picked : (row : List ℕ) (p : ℕ) (xs : List ℕ) (k : ℕ) → k < length xs → HasBit row (p + k)
    → ((q : ℕ) → p ≤ q → q < p + k → ¬ HasBit row q)
    → picked row p xs ≡ get_or xs k 0 ∷ picked row (suc (p + k)) (drop (suc k) xs)
unfolding picked
first_picked row p [] k l h none = absurd (omega arith)
first_picked row p (x ∷ xs) zero l h none =
    let z : p + 0 ≡ p = omega arith in
    let t : has_bit row p ≡ true = bit_moved row (p + 0) p z h in
    subst (λ (i : ℕ). cond (has_bit row p) (x ∷ picked row (suc p) xs) (picked row (suc p) xs) ≡ x ∷ picked row (suc i)
    xs) (sym z)
    (ap (λ (b : Bool). cond b (x ∷ picked row (suc p) xs) (picked row (suc p) xs)) t)
first_picked row p (x ∷ xs) (suc k) l h none =
    let z : suc p + k ≡ p + suc k = omega arith in
    let r : picked row (suc p) xs ≡ get_or xs k 0 ∷ picked row (suc (suc p + k)) (drop (suc k) xs) =
    first_picked row (suc p) xs k (omega arith) (bit_moved row (p + suc k) (suc p + k) (sym z) h)
    (λ q a b. none q (omega (arith, a)) (omega (arith, b))) in
    elim (has_bit row p) as
    (λ b. has_bit row p ≡ b → cond b (x ∷ picked row (suc p) xs) (picked row (suc p) xs)
    ≡ get_or xs k 0 ∷ picked row (suc (p + suc k)) (drop (suc k) xs)) [
      | true ↦ λ t. absurd (none p (omega arith) (omega arith) t)
      | false ↦ λ t. subst (λ (i : ℕ). picked row (suc p) xs ≡ get_or xs k 0 ∷ picked row (suc i) (drop (suc k) xs)) z r
    ] refl

-- the first node that is picked from place n on
pub next_picked : (row nodes : List ℕ) (n p d : ℕ) → IsFirstFrom row n p → p < length nodes
    → picked row n (drop n nodes) ≡ get_or nodes p d ∷ picked row (p + 1) (drop (p + 1) nodes)
next_picked row nodes n p d first l =
    let r = first.reached in
    let k : ℕ = p - n in
    let e : n + k ≡ p = omega (arith, r) in
    let f : n + suc k ≡ p + 1 = omega (arith, r) in
    let g : suc (n + k) ≡ p + 1 = omega (arith, r) in
    let a = first_picked row n (drop n nodes) k (omega (arith, length-drop n nodes, l, e))
    (bit_moved row p (n + k) (sym e) first.set) (λ q b d. first.first q b (omega (arith, d, e))) in
    let b : get_or (drop n nodes) k 0 ≡ get_or nodes p d = get_or-drop n nodes k 0
    ∙ ap (λ (i : ℕ). slice_index nodes i) e ∙ get_or_default nodes p 0 d l in
    let c : drop (suc k) (drop n nodes) ≡ drop (p + 1) nodes = drop-drop (suc k) n nodes
    ∙ ap (λ (i : ℕ). drop i nodes) f in
    a ∙ ap₂ (λ (x : ℕ) (xs : List ℕ). x ∷ xs) b (ap₂ (λ (i : ℕ) (xs : List ℕ). picked row i xs) g c)

has_pairs : (a : ℕ) (ys : List ℕ) (x y : ℕ) → Has {X = ℕ × ℕ} (map (λ b. (a, b)) ys) (x, y) → (x ≡ a) × Has ys y
has_pairs a [] x y h = absurd h
has_pairs a (b ∷ ys) x y h = elim h [
  | inl e ↦ (ap (λ (p : ℕ × ℕ). p.0) (sym e), inl (ap (λ (p : ℕ × ℕ). p.1) e))
  | inr k ↦ let r = has_pairs a ys x y k in (r.0, inr r.1)
]

in_pairs : (a : ℕ) (ys : List ℕ) (y : ℕ) → Has ys y → Has {X = ℕ × ℕ} (map (λ b. (a, b)) ys) (a, y)
in_pairs a [] y h = absurd h
in_pairs a (b ∷ ys) y h = elim h [ inl e ↦ inl (ap (λ (z : ℕ). (a, z)) e) | inr k ↦ inr (in_pairs a ys y k) ]

-- x stands before y, and the row of x has the bit of y
pub record IsPair (p : ℕ) (xs : List ℕ) (rows : List (List ℕ)) (x y : ℕ) : Type 0 where
  pub lower : ℕ
  pub higher : ℕ
  pub less : lower < higher
  pub below : higher < length xs
  pub first : get_or xs lower 0 ≡ x
  pub second : get_or xs higher 0 ≡ y
  pub bit : HasBit (row_at rows lower) (p + higher)

pub has_read : (p : ℕ) (xs : List ℕ) (rows : List (List ℕ)) (x y : ℕ) → Has {X = ℕ × ℕ} (links_read p xs rows) (x, y)
    → IsPair p xs rows x y
unfolding links_read
has_read p [] rows x y h = absurd h
has_read p (z ∷ xs) [] x y h = absurd h
has_read p (z ∷ xs) (row ∷ rows) x y h = elim
    (has_append_cases (map (λ b. (z, b)) (picked row (suc p) xs)) (links_read (suc p) xs rows) (x, y) h) [
      | inl m ↦
          let r = has_pairs z (picked row (suc p) xs) x y m in
          let k = has_picked row (suc p) xs y r.1 in
          record {
            lower = 0;
            higher = suc k.place;
            less = omega arith;
            below = let l = k.below in omega (arith, l);
            first = sym r.0;
            second = k.node;
            bit = bit_moved row (suc p + k.place) (p + suc k.place) (omega arith) k.bit;
          }
      | inr m ↦
          let r = has_read (suc p) xs rows x y m in
          record {
            lower = suc r.lower;
            higher = suc r.higher;
            less = let l = r.less in omega (arith, l);
            below = let l = r.below in omega (arith, l);
            first = r.first;
            second = r.second;
            bit = bit_moved (row_at rows r.lower) (suc p + r.higher) (p + suc r.higher) (omega arith) r.bit;
          }
    ]

pub in_read : (p : ℕ) (xs : List ℕ) (rows : List (List ℕ)) (i j : ℕ) → i < j → j < length xs
    → HasBit (row_at rows i) (p + j) → Has {X = ℕ × ℕ} (links_read p xs rows) (get_or xs i 0, get_or xs j 0)
unfolding links_read
in_read p [] rows i j l m h = absurd (omega arith)
in_read p (x ∷ xs) [] i j l m h = absurd (no_row (p + j) h)
in_read p (x ∷ xs) (row ∷ rows) i zero l m h = absurd (omega arith)
in_read p (x ∷ xs) (row ∷ rows) zero (suc j) l m h =
    has_append_left (map (λ b. (x, b)) (picked row (suc p) xs)) (links_read (suc p) xs rows) (x, get_or xs j 0)
    (in_pairs x (picked row (suc p) xs) (get_or xs j 0)
    (in_picked row (suc p) xs j (omega arith) (bit_moved row (p + suc j) (suc p + j) (omega arith) h)))
in_read p (x ∷ xs) (row ∷ rows) (suc i) (suc j) l m h =
    has_append_right (map (λ b. (x, b)) (picked row (suc p) xs)) (links_read (suc p) xs rows)
    (get_or xs i 0, get_or xs j 0)
    (in_read (suc p) xs rows i j (omega arith) (omega arith)
    (bit_moved (row_at rows i) (p + suc j) (suc p + j) (omega arith) h))

all_append : {X : Type 0} (P : X → Type 0) (xs ys : List X) → AllByRecursion P xs → AllByRecursion P ys
    → AllByRecursion P (xs ++ ys)
all_append P [] ys a b = b
all_append P (x ∷ xs) ys a b = (a.0, all_append P xs ys a.1 b)

pub ordered_append : {X : Type 0} (R : X → X → Type 0) (xs ys : List X) → Ordered R xs → Ordered R ys
    → ((x y : X) → Has xs x → Has ys y → R x y) → Ordered R (xs ++ ys)
ordered_append R [] ys f g across = g
ordered_append R (x ∷ xs) ys f g across = (
  all_append (R x) xs ys f.0 (all_from_members (R x) ys (λ y h. across x y (inl refl) h)),
  ordered_append R xs ys f.1 g (λ z y h k. across z y (inr h) k),
)

all_pairs : (a b : ℕ) (ys : List ℕ) → AllByRecursion (λ y. b < y) ys
    → AllByRecursion (Precedes (a, b)) (map (λ y. (a, y)) ys)
all_pairs a b [] l = tt
all_pairs a b (y ∷ ys) l = (inr (refl, l.0), all_pairs a b ys l.1)

ordered_pairs : (a : ℕ) (ys : List ℕ) → Ascends ys → Ordered Precedes (map (λ y. (a, y)) ys)
ordered_pairs a [] up = tt
ordered_pairs a (y ∷ ys) up = (all_pairs a y ys up.0, ordered_pairs a ys up.1)

pub ordered_read : (p : ℕ) (xs : List ℕ) (rows : List (List ℕ)) → Ascends xs → Ordered Precedes (links_read p xs rows)
unfolding links_read
ordered_read p [] rows up = tt
ordered_read p (x ∷ xs) [] up = tt
ordered_read p (x ∷ xs) (row ∷ rows) up =
    ordered_append Precedes (map (λ y. (x, y)) (picked row (suc p) xs)) (links_read (suc p) xs rows)
    (ordered_pairs x (picked row (suc p) xs) (ascends_picked row (suc p) xs up.1))
    (ordered_read (suc p) xs rows up.1)
    (λ l m h k.
    let a = has_pairs x (picked row (suc p) xs) l.0 l.1 h in
    let b = has_read (suc p) xs rows m.0 m.1 k in
    let at : Has xs (get_or xs b.lower 0) = has_place xs b.lower 0
    (let s = b.less in let t = b.below in omega (arith, s, t)) in
    let less : x < get_or xs b.lower 0 = all_member (λ y. x < y) xs (get_or xs b.lower 0) up.0 at in
    inl (let e = a.0 in let f = b.first in omega (arith, e, f, less)))

-- no two places have one node
pub one_place : (xs : List ℕ) (i j : ℕ) → Ascends xs → i < length xs → j < length xs
    → slice_index xs i ≡ slice_index xs j → i ≡ j
one_place xs i j up l m e = elim (cases_order i j) [
  | inl s ↦ s
  | inr (inl k) ↦ let r : slice_index xs i < slice_index xs j = ordered_at (λ x y. x < y) xs i j 0 up k m in
      absurd (omega (arith, e, r))
  | inr (inr k) ↦ let r : slice_index xs j < slice_index xs i = ordered_at (λ x y. x < y) xs j i 0 up k l in
      absurd (omega (arith, e, r))
]

-- a place's bit says whether its node is picked
pub picked_at : (row nodes : List ℕ) (p : ℕ) → Ascends nodes → p < length nodes
    → Has (picked row 0 nodes) (get_or nodes p 0) ↔ HasBit row p
picked_at row nodes p up l = (
  (λ h.
      let k = has_picked row 0 nodes (get_or nodes p 0) h in
      let e : k.place ≡ p = one_place nodes k.place p up k.below l k.node in
      bit_moved row (0 + k.place) p (omega (arith, e)) k.bit),
  (λ b. in_picked row 0 nodes p l (bit_moved row p (0 + p) (omega arith) b)),
)

pub row_below : (rows : List (List ℕ)) (p q : ℕ) → HasBit (row_at rows p) q → p < length rows
row_below rows p q h = elim (cases_lt p (length rows)) [
  | inl l ↦ l
  | inr ge ↦ absurd (no_row q (subst (λ (row : List ℕ). HasBit row q) (get_or_past rows p [] ge) h))
]

-- the two nodes are linked where the row of one has the bit of the other
pub linked_bits : (nodes : List ℕ) (rows : List (List ℕ)) (p q : ℕ) → IsKept nodes rows → p < length nodes
    → q < length nodes → Linked (graph_kept nodes rows) (slice_index nodes p) (slice_index nodes q)
    ↔ HasBit (row_at rows p) q
unfolding Linked
linked_bits nodes rows p q kept l m = (
  (λ h. elim h [
    | inl k ↦ pair p q l m (has_read 0 nodes rows (slice_index nodes p) (slice_index nodes q) k)
    | inr k ↦ kept.both q p (pair q p m l (has_read 0 nodes rows (slice_index nodes q) (slice_index nodes p) k))
  ]),
  (λ h. elim (cases_order p q) [
    | inl e ↦ absurd (kept.apart p (bit_moved (row_at rows p) q p (sym e) h))
    | inr (inl k) ↦ inl (in_read 0 nodes rows p q k m (bit_moved (row_at rows p) q (0 + q) (omega arith) h))
    | inr (inr k) ↦
        inr (in_read 0 nodes rows q p k l (bit_moved (row_at rows q) p (0 + p) (omega arith) (kept.both p q h)))
  ]),
)
  where
    pair : (i j : ℕ) → i < length nodes → j < length nodes
        → IsPair 0 nodes rows (slice_index nodes i) (slice_index nodes j) → HasBit (row_at rows i) j
    pair i j a b r =
        let e : r.lower ≡ i = one_place nodes r.lower i kept.ascend
        (let s = r.less in let t = r.below in omega (arith, s, t)) a r.first in
        let f : r.higher ≡ j = one_place nodes r.higher j kept.ascend r.below b r.second in
        bit_moved (row_at rows i) (0 + r.higher) j (omega (arith, f))
        (subst (λ (k : ℕ). HasBit (row_at rows k) (0 + r.higher)) e r.bit)

-- what is kept is a graph
pub is_graph : (nodes : List ℕ) (rows : List (List ℕ)) → IsKept nodes rows → IsGraph (graph_kept nodes rows)
is_graph nodes rows kept = record {
  nodes_ascend = kept.ascend;
  links_ascend = ordered_read 0 nodes rows kept.ascend;
  joins = λ l h.
      let r = has_read 0 nodes rows l.0 l.1 h in
      let s = r.less in
      let t = r.below in
      let less : get_or nodes r.lower 0 < get_or nodes r.higher 0 =
      ordered_at (λ x y. x < y) nodes r.lower r.higher 0 kept.ascend s t in
      let e = r.first in
      let f = r.second in (
        omega (arith, less, e, f),
        subst (Has nodes) e (has_place nodes r.lower 0 (omega (arith, s, t))),
        subst (Has nodes) f (has_place nodes r.higher 0 t),
      );
}

-- the nodes whose bits are set in a row of a node's links are its neighbours
pub are_neighbours : (g : LinkGraph) (a : ℕ) (row : List ℕ) → IsGraph g
    → ((p : ℕ) → HasBit row p ↔ ((p < length g.nodes) × Linked g a (slice_index g.nodes p)))
    → AreNeighbours g a (picked row 0 g.nodes)
are_neighbours g a row graph bits = record {
  ascend = ascends_picked row 0 g.nodes graph.nodes_ascend;
  each = λ b. (
    (λ h.
        let r = has_picked row 0 g.nodes b h in
        subst (Linked g a) r.node ((bits r.place).0 (bit_moved row (0 + r.place) r.place (omega arith) r.bit)).1),
    (λ h.
        let n = place_of g.nodes b (linked_node g a b graph h) in
        let i = n.0 in
        let below : i < length g.nodes = n.1 in
        let node : slice_index g.nodes i ≡ b = n.2 in
        let bit : HasBit row i = (bits i).1 (below, subst (Linked g a) (sym node) h) in
        subst (Has (picked row 0 g.nodes)) node
        (in_picked row 0 g.nodes i below (bit_moved row i (0 + i) (omega arith) bit))),
  );
}

-- an id that is no node has no links
pub stranger : (g : LinkGraph) (a b : ℕ) → IsGraph g → ¬ Has g.nodes a → ¬ Linked g a b
unfolding Linked
stranger g a b graph out l = out (elim l [ inl h ↦ (graph.joins (a, b) h).1 | inr h ↦ (graph.joins (b, a) h).2 ])

-- a borrowed row is the row at its place
row_lent : (rows : List (List ℕ)) (p : ℕ) (row : List ℕ) → p < length rows → row ≡ get_or rows p row
    → row ≡ row_at rows p
row_lent rows p row l e = e ∙ get_or_default rows p row [] l

-- the row of a node has the bits of its neighbours
pub row_bits : (nodes : List ℕ) (rows : List (List ℕ)) (a p : ℕ) (row : List ℕ) → IsKept nodes rows → p < length nodes
    → slice_index nodes p ≡ a → row ≡ get_or rows p row → (q : ℕ)
    → HasBit row q ↔ ((q < length nodes) × Linked (graph_kept nodes rows) a (slice_index nodes q))
row_bits nodes rows a p row kept l e lent q =
    let r : row ≡ row_at rows p = row_lent rows p row (let k = kept.each in omega (arith, k, l)) lent in (
      (λ h.
          let b : HasBit (row_at rows p) q = subst (λ (t : List ℕ). HasBit t q) r h in
          let m = kept.within p q b in (
            m,
            subst (λ (x : ℕ). Linked (graph_kept nodes rows) x (slice_index nodes q)) e
                ((linked_bits nodes rows p q kept l m).1 b),
          )),
      (λ h. subst (λ (t : List ℕ). HasBit t q) (sym r)
          ((linked_bits nodes rows p q kept l h.0).0
          (subst (λ (x : ℕ). Linked (graph_kept nodes rows) x (slice_index nodes q)) (sym e) h.1))),
    )

-- the row at one place says whether the node there is linked to the node at another
pub bit_linked : (nodes : List ℕ) (rows : List (List ℕ)) (p q : ℕ) (row : List ℕ) → IsKept nodes rows → p < length nodes
    → q < length nodes → row ≡ get_or rows p row
    → HasBit row q ↔ Linked (graph_kept nodes rows) (slice_index nodes p) (slice_index nodes q)
bit_linked nodes rows p q row kept l m lent =
    let b = row_bits nodes rows (slice_index nodes p) p row kept l refl lent q in
    ((λ h. (b.0 h).1), (λ h. b.1 (m, h)))

-- a link that is still to come, and the ones after it
pub next_link : (nodes : List ℕ) (rows : List (List ℕ)) (p n q d e : ℕ) → IsFirstFrom (row_at rows p) n q
    → p < length nodes → q < length nodes → links_from nodes rows p n ≡ (get_or nodes p d, get_or nodes q e)
    ∷ links_from nodes rows p (q + 1)
unfolding links_from
next_link nodes rows p n q d e first l m =
    ap (λ (ys : List ℕ). map (λ y. (slice_index nodes p, y)) ys ++ links_read (suc p) (drop (suc p) nodes)
    (drop (suc p) rows)) (next_picked (row_at rows p) nodes n q e first m)
    ∙ ap (λ (x : ℕ). (x, get_or nodes q e) ∷ links_from nodes rows p (q + 1)) (get_or_default nodes p 0 d l)

-- after the last node there are no links
pub no_link : (nodes : List ℕ) (rows : List (List ℕ)) (p n : ℕ) → length rows ≡ length nodes → length nodes ≤ p
    → links_from nodes rows p n ≡ []
unfolding links_from links_read
no_link nodes rows p n e l =
    let a : picked (row_at rows p) n (drop n nodes) ≡ [] =
    none_picked (row_at rows p) n (drop n nodes) (λ q m h. let k = row_below rows p q h in omega (arith, k, e, l))
    in
    let b : drop (suc p) nodes ≡ [] = drop_all (suc p) nodes (omega (arith, l)) in
    ap₂ (λ (ys xs : List ℕ). map (λ y. (slice_index nodes p, y)) ys ++ links_read (suc p) xs (drop (suc p) rows)) a b

-- the links read from a place on begin with those of the node there
row_read : (nodes : List ℕ) (rows : List (List ℕ)) (p : ℕ) → length rows ≡ length nodes
    → links_read p (drop p nodes) (drop p rows) ≡ links_from nodes rows p (suc p)
unfolding links_from links_read
row_read nodes rows p e = elim (cases_lt p (length nodes)) [
  | inl l ↦
      let a : drop p nodes ≡ slice_index nodes p ∷ drop (suc p) nodes = drop-cons nodes p 0 l in
      let b : drop p rows ≡ row_at rows p ∷ drop (suc p) rows = drop-cons rows p [] (omega (arith, l, e)) in
      ap₂ (λ (xs : List ℕ) (rs : List (List ℕ)). links_read p xs rs) a b
  | inr ge ↦ ap (λ (xs : List ℕ). links_read p xs (drop p rows)) (drop_all p nodes ge)
      ∙ sym (no_link nodes rows p (suc p) e ge)
]

-- after the links of one node come those of the next
pub next_row : (nodes : List ℕ) (rows : List (List ℕ)) (p n : ℕ) → length rows ≡ length nodes
    → ((q : ℕ) → n ≤ q → ¬ HasBit (row_at rows p) q)
    → links_from nodes rows p n ≡ links_from nodes rows (p + 1) (p + 1 + 1)
unfolding links_from links_read
next_row nodes rows p n each none =
    let a : picked (row_at rows p) n (drop n nodes) ≡ [] = none_picked (row_at rows p) n (drop n nodes) none in
    let s : suc p ≡ p + 1 = omega arith in
    let t : suc (suc p) ≡ p + 1 + 1 = omega arith in
    ap (λ (ys : List ℕ). map (λ y. (slice_index nodes p, y)) ys ++ links_read (suc p) (drop (suc p) nodes)
    (drop (suc p) rows)) a
    ∙ row_read nodes rows (suc p) each
    ∙ ap₂ (λ (i j : ℕ). links_from nodes rows i j) s t

-- all links are still to come
pub all_links : (nodes : List ℕ) (rows : List (List ℕ)) → length rows ≡ length nodes
    → links_from nodes rows 0 1 ≡ links_read 0 nodes rows
all_links nodes rows e = sym (row_read nodes rows 0 e)
