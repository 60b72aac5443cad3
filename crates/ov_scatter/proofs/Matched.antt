-- As many nodes split a renamed group as split the group.
use Rattle.std.proofs.Common.{◌≡◌, ◌∙◌, ◌≤◌, inl, inr, List, [], ◌∷◌, ℕ, length, arith, sym, subst, refl}
use Rattle.ov_ids.specs.Members.{Has}
use Rattle.ov_ids.proofs.Members.{has_or_not}
use Rattle.ov_graph.specs.Joined.{Joined, Leads, NoFewerSplit, Survives}
use Rattle.ov_graph.specs.Links.{IsGroup, LinkGraph, Linked}
use Rattle.ov_graph.proofs.EvenTest.Walks.{AllSurvive, joined_self, joined_step, steps_of}
use Rattle.ov_scatter.specs.Renaming.{IsRenamed}
use Rattle.ov_scatter.specs.Theorems.{RenamingKeepsNumber}

-- M pairs off the nodes of g and h: each with one. Members of q stand beside members of r, and where two nodes of h are
-- linked, so are those of g beside them
record Matches (M : ℕ → ℕ → Type 0) (g : LinkGraph) (q : List ℕ) (h : LinkGraph) (r : List ℕ) : Type 0 where
  node : (a i : ℕ) → M a i → Has g.nodes a
  there : (a : ℕ) → Has g.nodes a → (i : ℕ) × M a i
  back : (i : ℕ) → Has h.nodes i → (a : ℕ) × M a i
  one : (a i j : ℕ) → M a i → M a j → i ≡ j
  one_back : (a b i : ℕ) → M a i → M b i → a ≡ b
  links : (a b i j : ℕ) → M a i → M b j → Linked h i j → Linked g a b
  members : (a : ℕ) → Has q a → (i : ℕ) × Has r i × M a i

-- the ids beside those nodes that are in s
record Beside (M : ℕ → ℕ → Type 0) (s : List ℕ) : Type 0 where
  ids : List ℕ
  few : length ids ≤ length s
  each : (i : ℕ) → Has ids i → (a : ℕ) × Has s a × M a i
  all : (a i : ℕ) → Has s a → M a i → Has ids i

beside : (M : ℕ → ℕ → Type 0) (g : LinkGraph) (q : List ℕ) (h : LinkGraph) (r : List ℕ) → Matches M g q h r
    → (s : List ℕ) → Beside M s
beside M g q h r m [] = record {
  ids = [];
  few = omega arith;
  each = λ i k. absurd k;
  all = λ a i k p. absurd k;
}
beside M g q h r m (x ∷ s) =
    let rest = beside M g q h r m s in
    let few = rest.few in elim (has_or_not g.nodes x) [
      | inl k ↦ let to = m.there x k in record {
        ids = to.0 ∷ rest.ids;
        few = omega (arith, few);
        each = λ i n. elim n [
          | inl e ↦ (x, inl refl, subst (M x) e to.1)
          | inr n ↦ let p = rest.each i n in (p.0, inr p.1, p.2)
        ];
        all = λ a i n p. elim n [
          | inl e ↦ inl (m.one x to.0 i to.1 (subst (λ (y : ℕ). M y i) (sym e) p))
          | inr n ↦ inr (rest.all a i n p)
        ];
      }
      | inr none ↦ record {
        ids = rest.ids;
        few = omega (arith, few);
        each = λ i n. let p = rest.each i n in (p.0, inr p.1, p.2);
        all = λ a i n p. elim n [
          | inl e ↦ absurd (none (m.node x i (subst (λ (y : ℕ). M y i) (sym e) p)))
          | inr n ↦ rest.all a i n p
        ];
      }
    ]

-- a walk of h that misses the ids beside s is one of g that misses s
walked : (M : ℕ → ℕ → Type 0) (g : LinkGraph) (q : List ℕ) (h : LinkGraph) (r : List ℕ) → Matches M g q h r
    → (s ids : List ℕ) → ((a i : ℕ) → Has s a → M a i → Has ids i) → (steps : List ℕ) (a b i j : ℕ) → M a i → M b j
    → Survives g.nodes s a → Leads (Linked h) i steps j → AllSurvive h ids steps → Joined g s a b
walked M g q h r m s ids all [] a b i j p o n e stay =
    subst (λ (z : ℕ). Joined g s a z) (m.one_back a b j (subst (M a) e p) o) (joined_self g s a n)
walked M g q h r m s ids all (x ∷ steps) a b i j p o n w stay =
    let c = m.back x (stay x (inl refl)).0 in
    joined_step g s a c.0 b (m.links a c.0 i x p c.1 w.0) n
    (walked M g q h r m s ids all steps c.0 b x j c.1 o
    (m.node c.0 x c.1, λ k. (stay x (inl refl)).1 (all c.0 x k c.1)) w.1 (λ z k. stay z (inr k)))

carried : (M : ℕ → ℕ → Type 0) (g : LinkGraph) (q : List ℕ) (h : LinkGraph) (r : List ℕ) → Matches M g q h r
    → (k : ℕ) → NoFewerSplit h r k → NoFewerSplit g q k
carried M g q h r m k none s few a b u v =
    let to = beside M g q h r m s in
    let less = to.few in
    let i = m.members a u.0 in
    let j = m.members b v.0 in
    let missed : (c o : ℕ) → ¬ Has s c → M c o → ¬ Has to.ids o = λ c o out p n.
    let d = to.each o n in out (subst (Has s) (m.one_back d.0 c o d.2 p) d.1) in
    let w = steps_of h to.ids i.0 j.0
    (none to.ids (omega (arith, less, few)) i.0 j.0 (i.1, missed a i.0 u.1 i.2) (j.1, missed b j.0 v.1 j.2)) in
    walked M g q h r m s to.ids to.all w.steps a b i.0 j.0 i.2 j.2 (m.node a i.0 i.2, u.1) w.leads w.stay

-- the node a stands beside the id i that it is renamed to
abbrev Pair : (g : LinkGraph) (q : List ℕ) (h : LinkGraph) (r : List ℕ) → IsRenamed g q h r → ℕ → ℕ → Type 0
Pair g q h r s a i = Has g.nodes a × (s.renaming a ≡ i)

forth : (g : LinkGraph) (q : List ℕ) (h : LinkGraph) (r : List ℕ) → IsGroup g q → (s : IsRenamed g q h r)
    → Matches (Pair g q h r s) g q h r
forth g q h r group s = record {
  node = λ a i p. p.0;
  there = λ a k. (s.renaming a, (k, refl));
  back = λ i k. let p = (s.nodes i).0 k in (p.0, (p.1, p.2));
  one = λ a i j p o. sym p.1 ∙ o.1;
  one_back = λ a b i p o. s.one_to_one a b p.0 o.0 (p.1 ∙ sym o.1);
  links = λ a b i j p o l. (s.links a b p.0 o.0).0
      (subst (λ (x : ℕ). Linked h x (s.renaming b)) (sym p.1) (subst (λ (y : ℕ). Linked h i y) (sym o.1) l));
  members = λ a k. (s.renaming a, (s.group (s.renaming a)).1 (a, k, refl), (group.nodes a k, refl));
}

back : (g : LinkGraph) (q : List ℕ) (h : LinkGraph) (r : List ℕ) → IsGroup g q → (s : IsRenamed g q h r)
    → Matches (λ i a. Pair g q h r s a i) h r g q
back g q h r group s = record {
  node = λ i a p. (s.nodes i).1 (a, p.0, p.1);
  there = λ i k. let p = (s.nodes i).0 k in (p.0, (p.1, p.2));
  back = λ a k. (s.renaming a, (k, refl));
  one = λ i a b p o. s.one_to_one a b p.0 o.0 (p.1 ∙ sym o.1);
  one_back = λ i j a p o. sym p.1 ∙ o.1;
  links = λ i j a b p o l.
      subst (λ (x : ℕ). Linked h x j) p.1
      (subst (λ (y : ℕ). Linked h (s.renaming a) y) o.1 ((s.links a b p.0 o.0).1 l));
  members = λ i k. let p = (s.group i).0 k in (p.0, p.1, (group.nodes p.0 p.1, p.2));
}

pub keeps_number : RenamingKeepsNumber
keeps_number g q h r group s k = (
  carried (Pair g q h r s) g q h r (forth g q h r group s) k,
  carried (λ i a. Pair g q h r s a i) h r g q (back g q h r group s) k,
)
