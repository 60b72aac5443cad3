-- Even's test suffices: by induction on the ids each survivor is joined to a survivor among the first k members, and
-- any two of these are joined.
use Rattle.std.proofs.Common.{ℕ, zero, suc, ◌<◌, ◌⊎◌, inl, inr, List, [], ◌∷◌, length, take, drop, nat_lt, subst, arith}
use Rattle.std.proofs.lemmas.Bool.{cases_order, cases_eq, ltb-true}
use Rattle.ov_ids.specs.Members.{Has, IsApart}
use Rattle.ov_graph.specs.Links.{LinkGraph, AreAllLinked}
use Rattle.ov_graph.specs.Joined.{Survives, Joined, SplitsGroup, FewestForGroup}
use Rattle.ov_graph.specs.Paths.{IsPath, ArePaths, IsFan}
use Rattle.ov_graph.specs.Even.{later_members, members_below, PassesEven}
use Rattle.ov_graph.specs.Theorems.{EvenSuffices, OneNumber}
use Rattle.ov_graph.proofs.EvenTest.Tested.{linked_or_not}
use Rattle.ov_graph.proofs.EvenTest.Filtered.{has_filtered}
use Rattle.ov_graph.proofs.EvenTest.Walks.{joined_self, joined_step, joined_trans, joined_sym, joined_end}
use Rattle.ov_graph.proofs.EvenTest.Escape.{escape}

off_two : (s : List ℕ) (a b : ℕ) → ¬ Has s a → ¬ Has s b → IsApart s (a ∷ b ∷ [])
off_two s a b m n x h = elim h [
  | inl e ↦ subst (λ (z : ℕ). ¬ Has s z) e m
  | inr k ↦ elim k [ inl e ↦ subst (λ (z : ℕ). ¬ Has s z) e n | inr w ↦ absurd w ]
]

off_one : (s : List ℕ) (a : ℕ) → ¬ Has s a → IsApart s (a ∷ [])
off_one s a m x h = elim h [ inl e ↦ subst (λ (z : ℕ). ¬ Has s z) e m | inr w ↦ absurd w ]

-- a path without nodes of s joins its ends without s
pub path_joins : (g : LinkGraph) (s : List ℕ) (a b : ℕ) (p : List ℕ) → IsPath g a p b → IsApart s p → Joined g s a b
path_joins g s a b p path away = (p, path.walk, λ x h. (path.nodes x h, away x h))

-- a member of a list is among its first k or after these
pub take_or_drop : (xs : List ℕ) (k x : ℕ) → Has xs x → Has (take k xs) x ⊎ Has (drop k xs) x
take_or_drop xs zero x h = inr h
take_or_drop [] (suc k) x h = absurd h
take_or_drop (y ∷ ys) (suc k) x h = elim h [
  | inl e ↦ inl (inl e)
  | inr m ↦ elim (take_or_drop ys k x m) [ inl t ↦ inl (inr t) | inr d ↦ inr d ]
]

-- a member is among the first k or one of the later ones, where k is not 0
first_or_later : (q : List ℕ) (k x : ℕ) → 0 < k → Has q x → Has (take k q) x ⊎ Has (later_members q k) x
first_or_later q zero x l h = absurd (omega arith)
first_or_later q (suc k) x l h = take_or_drop q (suc k) x h

module _ (g : LinkGraph) (q : List ℕ) (k : ℕ) (nodes : (x : ℕ) → Has q x → Has g.nodes x) (even : PassesEven g q k)
    (s : List ℕ) (few : length s < k) where
  -- a surviving member is a surviving node
  node : (x : ℕ) → Survives q s x → Survives g.nodes s x
  node x m = (nodes x m.0, m.1)

  -- x is joined to one of the first k members
  Settled : ℕ → Type 0
  Settled x = (y : ℕ) × Has (take k q) y × Joined g s x y

  settled : (n x : ℕ) → x < n → Survives q s x → Settled x
  unfolding Settled
  settled zero x l m = absurd (omega arith)
  settled (suc n) x l m = elim (first_or_later q k x (omega (arith, few)) m.0) [
    | inl h ↦ (x, h, joined_self g s x (node x m))
    | inr h ↦
        let f = even.fans x h in
        let fan : IsFan g x (members_below q x) k f.0 = f.1 in
        let p = escape (x ∷ []) s f.0 (off_one s x m.1) fan.apart (omega (arith, fan.count)) in
        let e = fan.each p.0 p.1 in
        let j : Joined g s x e.0 = path_joins g s x e.0 p.0 e.2 p.2 in
        let b = has_filtered (λ y. nat_lt y x) q e.0 e.1 in
        let below : e.0 < x = ltb-true e.0 x b.1 in
        let r = settled n e.0 (omega (arith, below)) (b.0, (joined_end g s x e.0 j).1) in
        (r.0, r.1, joined_trans g s x e.0 r.0 j r.2)
  ]

  -- an unlinked pair, or a linked one
  pair_joined : (x y : ℕ) → Has (take k q) x → Has (take k q) y → x < y → Survives g.nodes s x → Survives g.nodes s y
      → Joined g s x y
  pair_joined x y hx hy l nx ny = elim (linked_or_not g x y) [
    | inl e ↦ joined_step g s x y y e nx (joined_self g s y ny)
    | inr n ↦
        let r = even.pairs x y (hx, hy, l, n) in
        let a : ArePaths g x y k r.0 = r.1 in
        let p = escape (x ∷ y ∷ []) s r.0 (off_two s x y nx.1 ny.1) a.apart (omega (arith, a.count)) in
        path_joins g s x y p.0 (a.each p.0 p.1) p.2
  ]

  first_joined : (x y : ℕ) → Has (take k q) x → Has (take k q) y → Survives g.nodes s x → Survives g.nodes s y
      → Joined g s x y
  first_joined x y hx hy nx ny = elim (cases_order x y) [
    | inl e ↦ subst (Joined g s x) e (joined_self g s x nx)
    | inr o ↦ elim o [
      | inl lt ↦ pair_joined x y hx hy lt nx ny
      | inr gt ↦ joined_sym g s y x (pair_joined y x hy hx gt ny nx)
    ]
  ]

  pub members_joined : (a b : ℕ) → Survives q s a → Survives q s b → Joined g s a b
  unfolding Settled
  members_joined a b ma mb =
      let u = settled (suc a) a (omega arith) ma in
      let v = settled (suc b) b (omega arith) mb in
      let nu = joined_end g s a u.0 u.2 in
      let nv = joined_end g s b v.0 v.2 in
      joined_trans g s a u.0 b u.2
      (joined_trans g s u.0 v.0 b (first_joined u.0 v.0 u.1 v.1 nu nv) (joined_sym g s b v.0 v.2))

pub even_suffices : EvenSuffices
even_suffices g q k group even s few a b ma mb = members_joined g q k group.nodes even s few a b ma mb

-- where every two members are linked, every two surviving ones are joined
pub linked_joined : (g : LinkGraph) (q : List ℕ) → ((x : ℕ) → Has q x → Has g.nodes x) → AreAllLinked g q
    → (s : List ℕ) (a b : ℕ) → Survives q s a → Survives q s b → Joined g s a b
linked_joined g q nodes all s a b ma mb = elim (cases_eq a b) [
  | inl e ↦ subst (Joined g s a) e (joined_self g s a (nodes a ma.0, ma.1))
  | inr ne ↦ joined_step g s a b b (all a b ma.0 mb.0 ne) (nodes a ma.0, ma.1) (joined_self g s b (nodes b mb.0, mb.1))
]

-- no nodes split a group in which every two are linked
pub linked_whole : (g : LinkGraph) (q : List ℕ) → ((x : ℕ) → Has q x → Has g.nodes x) → AreAllLinked g q → (s : List ℕ)
    → ¬ SplitsGroup g q s
linked_whole g q nodes all s d = d.parted (linked_joined g q nodes all s d.a d.b d.a_survives d.b_survives)

not_below : (g : LinkGraph) (q : List ℕ) (k l : ℕ) → FewestForGroup g q k → FewestForGroup g q l → k < l → ⊥
not_below g q k l f h lt = elim f.reached [
  | inl r ↦ h.least r.0 (omega (arith, r.1, lt)) r.2
  | inr c ↦ elim h.reached [
    | inl r ↦ linked_whole g q f.group.nodes c.0 r.0 r.2
    | inr d ↦ let m = c.1 in let n = d.1 in absurd (omega (arith, m, n, lt))
  ]
]

pub one_number : OneNumber
one_number g q k l f h = elim (cases_order k l) [
  | inl e ↦ e
  | inr o ↦ elim o [ inl lt ↦ absurd (not_below g q k l f h lt) | inr gt ↦ absurd (not_below g q l k h f gt) ]
]
