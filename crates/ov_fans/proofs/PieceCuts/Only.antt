-- A piece has one nearest cut, and with it one parting.
use Rattle.std.proofs.Common.{◌≡◌, ◌∙◌, ℕ, not, eqb, inl, inr, List, [], ◌∷◌, refl, sym, ap}
use Rattle.std.proofs.Common.{subst, arith}
use Rattle.std.proofs.lemmas.Bool.{cases_eq, ne_eqb}
use Rattle.ov_ids.specs.Members.{Has}
use Rattle.ov_ids.specs.Sets.{has, without}
use Rattle.ov_ids.proofs.Members.{has_or_not, has_tested, same_ascending}
use Rattle.ov_ids.proofs.Sets.{IsSet-without, length-without_less}
use Rattle.ov_graph.specs.Links.{LinkGraph, Linked}
use Rattle.ov_graph.specs.Joined.{Leads, Joined}
use Rattle.ov_graph.proofs.EvenTest.Filtered.{has_filter, has_filtered}
use Rattle.ov_graph.proofs.EvenTest.Walks.{AllSurvive, steps_of, joined_self, joined_step, joined_trans, joined_end}
use Rattle.ov_fans.specs.Pieces.{source_of}
use Rattle.ov_fans.specs.Cuts.{spared, IsCut, IsNearest, IsFar, IsSide}
use Rattle.ov_fans.specs.Theorems.{SameCut}
use Rattle.ov_fans.specs.declared.piece.Piece.{Piece}
use Rattle.ov_fans.specs.declared.piece.Piece.TheVariants.{Pair, Fan}

source_spared : (q : List ℕ) (p : Piece) → Has (spared q p) (source_of q p)
source_spared q (Pair level i j) = inl refl
source_spared q (Fan level j) = inl refl

was : (s : List ℕ) (x y : ℕ) → Has (without x s) y → Has s y
was s x y h = (has_filtered (λ z. not (eqb z x)) s y h).0

-- one more link from a joined node
joined_next : (g : LinkGraph) (s : List ℕ) (a y z : ℕ) → Joined g s a y → Linked g y z → Has g.nodes z → ¬ Has s z
    → Joined g s a z
joined_next g s a y z j l node out =
    joined_trans g s a y z j (joined_step g s y z z l (joined_end g s a y j) (joined_self g s z (node, out)))

-- x of s is linked to no node that is joined to a without s. Then nothing more is joined to a without s less x
joined_keeps : (g : LinkGraph) (s : List ℕ) (a x b : ℕ) → ¬ Has s a → ((y : ℕ) → Joined g s a y → ¬ Linked g y x)
    → Joined g (without x s) a b → Joined g s a b
joined_keeps g s a x b out lone j =
    let w = steps_of g (without x s) a b j in
    go a w.steps (joined_self g s a (w.start.0, out)) w.leads w.stay
  where
    go : (y : ℕ) (ys : List ℕ) → Joined g s a y → Leads (Linked g) y ys b → AllSurvive g (without x s) ys
        → Joined g s a b
    go y [] k e stay = subst (Joined g s a) e k
    go y (z ∷ zs) k l stay =
        let n = stay z (inl refl) in
        elim (has_or_not s z) [
          | inl h ↦ elim (cases_eq z x) [
            | inl e ↦ absurd (lone y k (subst (Linked g y) e l.0))
            | inr ne ↦ absurd (n.1 (has_filter (λ v. not (eqb v x)) s z h (ap not (ne_eqb z x ne))))
          ]
          | inr o ↦ go z zs (joined_next g s a y z k l.0 n.0 o) l.1 (λ v h. stay v (inr h))
        ]

-- each node of a nearest cut is in every other one
in_other : (g : LinkGraph) (q : List ℕ) (p : Piece) (s t : List ℕ) → IsNearest g q p s → IsNearest g q p t → (x : ℕ)
    → Has s x → Has t x
in_other g q p s t m n x h = elim (has_or_not t x) [
  | inl k ↦ k
  | inr out ↦
      let a = source_of q p in
      let c : IsCut g q p s = m.least.cut in
      let lone : (y : ℕ) → Joined g s a y → ¬ Linked g y x =
      λ y j l.
      let on = joined_next g t a y x (m.nearest t n.least y j) l (c.set.nodes x h) out in
      (joined_end g s a x (n.nearest s m.least x on)).1 h
      in
      let less : IsCut g q p (without x s) = record {
        set = record { ascends = IsSet-without x s c.set.ascends; nodes = λ y k. c.set.nodes y (was s x y k) };
        leaves = λ y k r. c.leaves y k (was s x y r);
        parts = λ b k j. c.parts b k (joined_keeps g s a x b (c.leaves a (source_spared q p)) lone j);
      } in
      let u = m.least.least (without x s) less in
      let v = length-without_less x s ((has_tested s x (has s x) refl).1 h) in
      absurd (omega (arith, u, v))
]

-- two nearest cuts of a piece are one
pub one_nearest : (g : LinkGraph) (q : List ℕ) (p : Piece) (s t : List ℕ) → IsNearest g q p s → IsNearest g q p t
    → s ≡ t
one_nearest g q p s t m n =
    same_ascending s t m.least.cut.set.ascends n.least.cut.set.ascends (in_other g q p s t m n)
    (in_other g q p t s n m)

one_far : (q : List ℕ) (p : Piece) (s : List ℕ) (a b : ℕ) → IsFar q p s a → IsFar q p s b → a ≡ b
one_far q p s a b f h =
    let l = f.lowest b h.target h.left in
    let m = h.lowest a f.target f.left in
    omega (arith, l, m)

one_side : (g : LinkGraph) (s : List ℕ) (a : ℕ) (xs ys : List ℕ) → IsSide g s a xs → IsSide g s a ys → xs ≡ ys
one_side g s a xs ys f h =
    same_ascending xs ys f.set.ascends h.set.ascends (λ x k. (h.each x).1 ((f.each x).0 k))
    (λ x k. (f.each x).1 ((h.each x).0 k))

pub same_cut : SameCut
same_cut g q p c d m n =
    let cut = one_nearest g q p c.cut d.cut m.cut n.cut in
    let near : c.near ≡ d.near = m.near ∙ sym n.near in
    let far = one_far q p d.cut c.far d.far (subst (λ (s : List ℕ). IsFar q p s c.far) cut m.far) n.far in
    let moved = subst (λ (a : ℕ). IsSide g c.cut a c.side) near m.side in
    let side = one_side g d.cut d.near c.side d.side
    (subst (λ (s : List ℕ). IsSide g s d.near c.side) cut moved) n.side in
    (cut, near, far, side)
