-- The layers of a search: those that are reached by so many links or fewer, and those at a distance.
use Rattle.std.proofs.Common.{◌≡◌, ◌↔◌, ◌⊎◌, ℕ, zero, suc, ◌+◌, ◌*◌, ◌<◌, ◌≤◌, List, length}
use Rattle.std.proofs.Common.{inl, inr, sym, subst, arith}
use Rattle.std.proofs.lemmas.Bool.{cases_lt, cases_eq}
use Rattle.ov_ids.specs.Members.{Has}
use Rattle.ov_ids.proofs.Members.{place_of, has_place}
use Rattle.ov_graph.specs.Links.{LinkGraph, IsGraph, Linked}
use Rattle.ov_graph.specs.Neighbours.{AreLinkedAt, IsOutside}
use Rattle.ov_graph.specs.Paths.{node_at}
use Rattle.ov_graph.specs.Row.{HasBit, IsFirstFrom}
use Rattle.ov_graph.proofs.BitRows.Read.{one_place}
use Rattle.ov_shape.specs.Distances.{WalksBy, IsDistance}
use Rattle.ov_shape.specs.Code.Found.{IsComponentSet, IsOfNodes, IsBeside}
use Rattle.ov_shape.proofs.ShapeOfGraph.Counts.{bit_or_not, IsParted}
use Rattle.ov_shape.proofs.ShapeOfGraph.Walks.{walk_last, walk_more, walk_none, walk_stays, joined_by, walk_of}
use Rattle.ov_shape.proofs.ShapeOfGraph.Walks.{before_node, joined_is_node, distance_self}

-- a walk of m links or fewer leads from a to b
abbrev pub IsNear : LinkGraph → ℕ → ℕ → ℕ → Type 0
IsNear g a m b = (d : ℕ) × (d ≤ m) × WalksBy g d a b

-- the row has the bits of the nodes that are reached by m links or fewer
abbrev pub IsReached : LinkGraph → ℕ → ℕ → List ℕ → Type 0
IsReached g a m row = (q : ℕ) → HasBit row q ↔ ((q < length g.nodes) × IsNear g a m (node_at g q))

-- the row has the bits of the nodes at distance m
abbrev pub IsLayer : LinkGraph → ℕ → ℕ → List ℕ → Type 0
IsLayer g a m row = (q : ℕ) → HasBit row q ↔ ((q < length g.nodes) × IsDistance g a (node_at g q) m)

-- the next layer is of the nodes beside this layer that were not reached
abbrev pub IsNext : LinkGraph → List ℕ → List ℕ → List ℕ → Type 0
IsNext g front reached next = (q : ℕ) → HasBit next q ↔ (IsBeside g front q × ¬ HasBit reached q)

-- where nothing leads by fewer than m + 1 links, a walk of m + 1 links is a shortest one
farther : (g : LinkGraph) (a m b : ℕ) → (¬ IsNear g a m b) → WalksBy g (suc m) a b → IsDistance g a b (suc m)
farther g a m b not_near w = record {
  walk = w;
  least = λ k v. elim (cases_lt k (suc m)) [
    | inl l ↦ absurd (not_near (k, omega (arith, l), v))
    | inr ge ↦ ge
  ];
}

pub next_layer : (g : LinkGraph) (a m : ℕ) (front reached next : List ℕ) → IsGraph g → IsReached g a m reached
    → IsLayer g a m front → IsNext g front reached next → IsLayer g a (suc m) next
next_layer g a m front reached next graph near layer is_next q = (
  (λ h.
      let b = (is_next q).0 h in
      let s = b.0 in
      let d = (layer s.place).0 s.bit in (
        s.within,
        farther g a m (node_at g q) (λ n. b.1 ((near q).1 (s.within, n)))
            (walk_more g m a (node_at g s.place) (node_at g q) d.1.walk s.linked),
      )),
  (λ h.
      let d = h.1 in
      let r = walk_last g m a (node_at g q) d.walk in
      let p = place_of g.nodes r.before (before_node g r.before (node_at g q) graph r.link) in
      let here : r.before ≡ node_at g p.0 = sym p.2 in
      let at : IsDistance g a r.before m = record {
        walk = r.walk;
        least = λ k v.
            let l = d.least (suc k) (walk_more g k a r.before (node_at g q) v r.link) in omega (arith, l);
      } in
      let bit : HasBit front p.0 =
      (layer p.0).1 (p.1, subst (λ (z : ℕ). IsDistance g a z m) here at) in
      (is_next q).1 (
        record {
          within = h.0;
          place = p.0;
          bit = bit;
          linked = subst (λ (z : ℕ). Linked g z (node_at g q)) here r.link;
        },
        λ k.
            let n = ((near q).0 k).1 in
            let l = d.least n.0 n.2 in
            let m = n.1 in
            omega (arith, l, m),
      )),
)

-- with the next layer, what is reached by one link more
pub next_reached : (g : LinkGraph) (a m : ℕ) (reached next all : List ℕ) → IsReached g a m reached
    → IsLayer g a (suc m) next → IsParted reached next all → IsReached g a (suc m) all
next_reached g a m reached next all near layer parted q = (
  (λ h. elim ((parted.each q).0 h) [
    | inl k ↦
        let n = (near q).0 k in
        let l = n.1.1 in
        (n.0, (n.1.0, omega (arith, l), n.1.2))
    | inr k ↦ let n = (layer q).0 k in (n.0, (suc m, omega arith, n.1.walk))
  ]),
  (λ h. elim (bit_or_not reached q) [
    | inl k ↦ (parted.each q).1 (inl k)
    | inr n ↦
        let not_near : ¬ IsNear g a m (node_at g q) = λ i. n ((near q).1 (h.0, i)) in
        let i = h.1 in
        let most = i.1 in
        elim (cases_lt i.0 (suc m)) [
          | inl l ↦ absurd (not_near (i.0, omega (arith, l), i.2))
          | inr ge ↦
              let e : i.0 ≡ suc m = omega (arith, ge, most) in
              let w = subst (λ (k : ℕ). WalksBy g k a (node_at g q)) e i.2 in
              (parted.each q).1 (inr ((layer q).1 (h.0, farther g a m (node_at g q) not_near w)))
        ]
  ]),
)

-- the next layer has what was not reached
pub next_apart : (g : LinkGraph) (front reached next : List ℕ) → IsNext g front reached next → (q : ℕ) → HasBit next q
    → ¬ HasBit reached q
next_apart g front reached next is_next q h = ((is_next q).0 h).1

-- if the next layer is empty, all that is joined was reached
pub all_near : (g : LinkGraph) (a m : ℕ) (reached next : List ℕ) → IsGraph g → IsReached g a m reached
    → IsLayer g a (suc m) next → ((q : ℕ) → ¬ HasBit next q) → (d b : ℕ) → Has g.nodes b → WalksBy g d a b
    → IsNear g a m b
all_near g a m reached next graph near layer empty zero b h w = (0, omega arith, w)
all_near g a m reached next graph near layer empty (suc d) b h w =
    let r = walk_last g d a b w in
    let i = all_near g a m reached next graph near layer empty d r.before (before_node g r.before b graph r.link) r.walk
    in
    let v = walk_more g i.0 a r.before b i.2 r.link in
    let most = i.1 in
    elim (cases_lt i.0 m) [
      | inl l ↦ (suc i.0, omega (arith, l), v)
      | inr ge ↦
          let e : suc i.0 ≡ suc m = omega (arith, ge, most) in
          let u = subst (λ (k : ℕ). WalksBy g k a b) e v in
          let p = place_of g.nodes b h in
          let here : node_at g p.0 ≡ b = p.2 in
          elim (bit_or_not reached p.0) [
            | inl k ↦ subst (λ (z : ℕ). IsNear g a m z) here ((near p.0).0 k).1
            | inr n ↦
                let not_near : ¬ IsNear g a m b = λ i. n
                ((near p.0).1 (p.1, subst (λ (z : ℕ). IsNear g a m z) (sym here) i)) in
                let far = farther g a m b not_near u in
                absurd
                (empty p.0 ((layer p.0).1 (p.1, subst (λ (z : ℕ). IsDistance g a z (suc m)) (sym here) far)))
          ]
    ]

-- then the row is that of the component
pub reached_all : (g : LinkGraph) (a m : ℕ) (reached next : List ℕ) → IsGraph g → Has g.nodes a
    → IsReached g a m reached → IsLayer g a (suc m) next → ((q : ℕ) → ¬ HasBit next q) → IsComponentSet g a reached
reached_all g a m reached next graph node near layer empty q = (
  (λ h. let n = (near q).0 h in (n.0, joined_by g n.1.0 a (node_at g q) graph node n.1.2)),
  (λ h.
      let w = walk_of g a (node_at g q) h.1 in
      (near q).1 (
        h.0,
        all_near g a m reached next graph near layer empty w.0 (node_at g q) (has_place g.nodes q 0 h.0) w.1,
      )),
)

-- and no distance is larger
pub far_most : (g : LinkGraph) (a m : ℕ) (reached next : List ℕ) → IsGraph g → Has g.nodes a → IsReached g a m reached
    → IsLayer g a (suc m) next → ((q : ℕ) → ¬ HasBit next q) → (x d : ℕ) → IsDistance g a x d → d ≤ m
far_most g a m reached next graph node near layer empty x d dist =
    let i = all_near g a m reached next graph near layer empty d x
    (joined_is_node g a x (joined_by g d a x graph node dist.walk)) dist.walk in
    let l = dist.least i.0 i.2 in
    let k = i.1 in
    omega (arith, l, k)

-- the first layer is the node alone
pub first_reached : (g : LinkGraph) (p : ℕ) (row : List ℕ) → IsGraph g → p < length g.nodes
    → ((q : ℕ) → HasBit row q ↔ q ≡ p) → IsReached g (node_at g p) 0 row
first_reached g p row graph l one q = (
  (λ h.
      let e = (one q).0 h in (
        omega (arith, e, l),
        (
          0,
          omega arith,
          subst (λ (i : ℕ). WalksBy g 0 (node_at g p) (node_at g i)) (sym e)
              (walk_none g (node_at g p)),
        ),
      )),
  (λ h.
      let w = h.1 in
      let none = w.1 in
      let z : w.0 ≡ 0 = omega (arith, none) in
      let s = walk_stays g (node_at g p) (node_at g q)
      (subst (λ (k : ℕ). WalksBy g k (node_at g p) (node_at g q)) z w.2)
      in
      (one q).1 (sym (one_place g.nodes p q graph.nodes_ascend l h.0 s))),
)

pub first_layer : (g : LinkGraph) (p : ℕ) (row : List ℕ) → IsGraph g → p < length g.nodes
    → ((q : ℕ) → HasBit row q ↔ q ≡ p) → IsLayer g (node_at g p) 0 row
first_layer g p row graph l one q =
    let r = first_reached g p row graph l one q in (
      (λ h.
          let e = (one q).0 h in (
            (r.0 h).0,
            subst (λ (i : ℕ). IsDistance g (node_at g p) (node_at g i) 0) (sym e)
                (distance_self g (node_at g p)),
          )),
      (λ h. r.1 (h.0, (0, omega arith, h.1.walk))),
    )

-- q is linked to a node whose bit is set, at a place below `from`
pub record IsBesideBelow (g : LinkGraph) (front : List ℕ) (from q : ℕ) : Type 0 where
  pub within : q < length g.nodes
  pub place : ℕ
  pub below : place < from
  pub bit : HasBit front place
  pub linked : Linked g (node_at g place) (node_at g q)

-- with p, the first place from `from` on, q is beside a node of the layer below `from`, or beside that at p
beside_step : (g : LinkGraph) (front : List ℕ) (from p q : ℕ) → IsFirstFrom front from p
    → IsBesideBelow g front (p + 1) q ↔ (IsBesideBelow g front from q ⊎ AreLinkedAt g p q)
beside_step g front from p q first =
    let reached = first.reached in (
      (λ b.
          let m = b.below in
          elim (cases_lt b.place from) [
            | inl k ↦ inl (record {
              within = b.within;
              place = b.place;
              below = k;
              bit = b.bit;
              linked = b.linked;
            })
            | inr ge ↦ elim (cases_eq b.place p) [
              | inl e ↦ inr (b.within, subst (λ (i : ℕ). Linked g (node_at g i) (node_at g q)) e b.linked)
              | inr ne ↦ absurd (first.first b.place ge (omega (arith, m, ne)) b.bit)
            ]
          ]),
      (λ h. elim h [
        | inl b ↦
            let l = b.below in
            record {
              within = b.within;
              place = b.place;
              below = omega (arith, l, reached);
              bit = b.bit;
              linked = b.linked;
            }
        | inr k ↦ record { within = k.0; place = p; below = omega arith; bit = first.set; linked = k.1 }
      ]),
    )

-- the nodes of a layer at places below `from` were gone through: `reached` has what had been reached before, and their
-- neighbours, and `next` has those of the neighbours that had not been reached before
pub record IsLayered (g : LinkGraph) (front old reached next : List ℕ) (from : ℕ) : Type 0 where
  pub all : (q : ℕ) → HasBit reached q ↔ (HasBit old q ⊎ IsBesideBelow g front from q)
  pub new : (q : ℕ) → HasBit next q ↔ (IsBesideBelow g front from q × ¬ HasBit old q)

pub layered_begun : (g : LinkGraph) (front old next : List ℕ) → ((q : ℕ) → ¬ HasBit next q)
    → IsLayered g front old old next 0
layered_begun g front old next empty = record {
  all = λ q. (
    (λ h. inl h),
    (λ h. elim h [ inl k ↦ k | inr b ↦ let l = b.below in absurd (omega (arith, l)) ]),
  );
  new = λ q. ((λ h. absurd (empty q h)), (λ b. let l = b.0.below in absurd (omega (arith, l))));
}

-- one node more
pub layered_more : (g : LinkGraph) (front old reached next reached1 next1 : List ℕ) (from p : ℕ)
    → IsFirstFrom front from p → IsLayered g front old reached next from
    → ((q : ℕ) → HasBit reached1 q ↔ (HasBit reached q ⊎ AreLinkedAt g p q))
    → ((q : ℕ) → HasBit next1 q ↔ (HasBit next q ⊎ IsOutside g p reached q))
    → IsLayered g front old reached1 next1 (p + 1)
layered_more g front old reached next reached1 next1 from p first before all new = record {
  all = λ q.
      let step = beside_step g front from p q first in (
        (λ h. elim ((all q).0 h) [
          | inl k ↦ elim ((before.all q).0 k) [ inl o ↦ inl o | inr b ↦ inr (step.1 (inl b)) ]
          | inr l ↦ inr (step.1 (inr l))
        ]),
        (λ h. elim h [
          | inl o ↦ (all q).1 (inl ((before.all q).1 (inl o)))
          | inr b ↦ elim (step.0 b) [
            | inl k ↦ (all q).1 (inl ((before.all q).1 (inr k)))
            | inr l ↦ (all q).1 (inr l)
          ]
        ]),
      );
  new = λ q.
      let step = beside_step g front from p q first in (
        (λ h. elim ((new q).0 h) [
          | inl k ↦ let b = (before.new q).0 k in (step.1 (inl b.0), b.1)
          | inr l ↦ (step.1 (inr l.0), λ o. l.1 ((before.all q).1 (inl o)))
        ]),
        (λ b. elim (step.0 b.0) [
          | inl k ↦ (new q).1 (inl ((before.new q).1 (k, b.1)))
          | inr l ↦ elim (bit_or_not reached q) [
            | inl r ↦ elim ((before.all q).0 r) [
              | inl o ↦ absurd (b.1 o)
              | inr k ↦ (new q).1 (inl ((before.new q).1 (k, b.1)))
            ]
            | inr n ↦ (new q).1 (inr (l, n))
          ]
        ]),
      );
}

-- after the last node of the layer
below_all : (g : LinkGraph) (front : List ℕ) (from words q : ℕ) → length g.nodes ≤ 64 * words → IsOfNodes g front
    → ((q : ℕ) → from ≤ q → q < 64 * words → ¬ HasBit front q) → IsBeside g front q → IsBesideBelow g front from q
below_all g front from words q few within none b =
    let m = within b.place b.bit in
    let under : b.place < from = elim (cases_lt b.place from) [
      | inl k ↦ k
      | inr ge ↦ absurd (none b.place ge (omega (arith, m, few)) b.bit)
    ] in
    record { within = b.within; place = b.place; below = under; bit = b.bit; linked = b.linked }

pub layered_next : (g : LinkGraph) (front old reached next : List ℕ) (from words : ℕ) → length g.nodes ≤ 64 * words
    → IsOfNodes g front → ((q : ℕ) → from ≤ q → q < 64 * words → ¬ HasBit front q)
    → IsLayered g front old reached next from → IsNext g front old next
layered_next g front old reached next from words few within none all q = (
  (λ h.
      let b = (all.new q).0 h in
      let k = b.0 in
      (record { within = k.within; place = k.place; bit = k.bit; linked = k.linked }, b.1)),
  (λ h. (all.new q).1 (below_all g front from words q few within none h.0, h.1)),
)

pub layered_reached : (g : LinkGraph) (front old reached next : List ℕ) (from : ℕ)
    → IsLayered g front old reached next from → (q : ℕ) → HasBit reached q ↔ (HasBit old q ⊎ HasBit next q)
layered_reached g front old reached next from all q = (
  (λ h. elim ((all.all q).0 h) [
    | inl o ↦ inl o
    | inr b ↦ elim (bit_or_not old q) [ inl o ↦ inl o | inr n ↦ inr ((all.new q).1 (b, n)) ]
  ]),
  (λ h. elim h [
    | inl o ↦ (all.all q).1 (inl o)
    | inr k ↦ (all.all q).1 (inr ((all.new q).0 k).0)
  ]),
)
