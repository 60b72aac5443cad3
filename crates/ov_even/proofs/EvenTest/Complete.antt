-- If each piece of the last level is good, every two members are linked.
use Rattle.std.proofs.Common.{◌≡◌, ◌≢◌, ℕ, ◌+◌, ◌-◌, ◌<◌, ◌≤◌, ◌⊎◌, inl, inr, List, [], ◌∷◌, length, refl, sym, subst}
use Rattle.std.proofs.Common.{arith}
use Rattle.std.proofs.lemmas.Bool.{cases_lt}
use Rattle.ov_ids.specs.Members.{Has}
use Rattle.ov_ids.proofs.Members.{place_of, ascends_distinct}
use Rattle.ov_graph.specs.Links.{LinkGraph, IsGraph, Linked, AreAllLinked, IsGroup}
use Rattle.ov_graph.specs.Joined.{Leads, Joined, NoFewerSplit}
use Rattle.ov_graph.proofs.EvenTest.Escape.{less}
use Rattle.ov_graph.proofs.EvenTest.Sufficing.{even_suffices}
use Rattle.ov_graph.proofs.EvenTest.Tested.{linked_or_not}
use Rattle.ov_graph.proofs.EvenTest.Walks.{AllSurvive, steps_of}
use Rattle.ov_graph.proofs.GraphValues.OneGraph.{not_self}
use Rattle.ov_split.proofs.Augmenting.Lists.{others_of}
use Rattle.ov_fans.specs.Pieces.{IsPiece, IsGood, level_of}
use Rattle.ov_fans.specs.declared.piece.Piece.{Piece}
use Rattle.ov_even.specs.Levels.{IsLevelGood}
use Rattle.ov_even.proofs.EvenTest.Passing.{passes_level}

-- the set of all nodes except a and b
record IsAllBut (g : LinkGraph) (a b : ℕ) (s : List ℕ) : Type 0 where
  all : (x : ℕ) → Has g.nodes x → (a ≡ x) ⊎ ((b ≡ x) ⊎ Has s x)
  not_a : ¬ Has s a
  not_b : ¬ Has s b
  count : length g.nodes ≡ length s + 2

all_but : (g : LinkGraph) (a b : ℕ) → IsGraph g → Has g.nodes a → Has g.nodes b → a ≢ b
    → (s : List ℕ) × IsAllBut g a b s
all_but g a b graph ha hb ne =
    let o = others_of g.nodes a ha (ascends_distinct g.nodes graph.nodes_ascend) in
    let there : Has o.rest b = elim (o.others b hb) [ inl e ↦ absurd (ne e) | inr k ↦ k ] in
    let p = others_of o.rest b there o.distinct in
    let first = o.shorter in
    let second = p.shorter in (
      p.rest,
      record {
        all = λ x h. elim (o.others x h) [ inl e ↦ inl e | inr k ↦ inr (p.others x k) ];
        not_a = λ h. o.gone (p.within a h);
        not_b = p.gone;
        count = omega (arith, first, second);
      },
    )

-- without all other nodes, two unlinked nodes are not joined
lone_step : (g : LinkGraph) (a b : ℕ) (s steps : List ℕ) → IsGraph g → a ≢ b → ¬ Linked g a b → IsAllBut g a b s
    → Leads (Linked g) a steps b → ¬ AllSurvive g s steps
lone_step g a b s [] graph ne apart but leads stay = ne leads
lone_step g a b s (x ∷ xs) graph ne apart but leads stay =
    let m = stay x (inl refl) in
    elim (but.all x m.0) [
      | inl e ↦ not_self g a graph (subst (Linked g a) (sym e) leads.0)
      | inr k ↦ elim k [ inl e ↦ apart (subst (Linked g a) (sym e) leads.0) | inr h ↦ m.1 h ]
    ]

lone : (g : LinkGraph) (a b : ℕ) (s : List ℕ) → IsGraph g → a ≢ b → ¬ Linked g a b → IsAllBut g a b s
    → ¬ Joined g s a b
lone g a b s graph ne apart but j =
    let w = steps_of g s a b j in
    lone_step g a b s w.steps graph ne apart but w.leads w.stay

-- if fewer than n - 1 nodes never split a group of a graph of n nodes, every two members are linked
pub none_split : (g : LinkGraph) (q : List ℕ) (k : ℕ) → IsGraph g → IsGroup g q → k + 1 ≡ length g.nodes
    → NoFewerSplit g q k → AreAllLinked g q
none_split g q k graph group e whole a b ha hb ne = elim (linked_or_not g a b) [
  | inl l ↦ l
  | inr apart ↦
      let s = all_but g a b graph (group.nodes a ha) (group.nodes b hb) ne in
      let count = s.1.count in
      absurd (lone g a b s.0 graph ne apart s.1
      (whole s.0 (omega (arith, count, e)) a b (ha, s.1.not_a) (hb, s.1.not_b)))
]

-- if each piece of the last level is good, every two members are linked
pub last_level : (g : LinkGraph) (q : List ℕ) → IsGraph g → IsGroup g q → 2 ≤ length g.nodes
    → ((p : Piece) → IsPiece g q p → level_of p + 1 ≡ length g.nodes → IsGood g q p) → AreAllLinked g q
last_level g q graph group many good =
    let k = length g.nodes - 1 in
    let last : k + 1 ≡ length g.nodes = omega (arith, many) in
    let level : IsLevelGood g q k = λ p at e. good p at (omega (arith, last, e)) in
    let even = passes_level g q k group (omega (arith, many)) (omega (arith, many)) level in
    none_split g q k graph group last (even_suffices g q k group even)

-- in a graph of one node, every two members are linked, since no two differ
one_node : (g : LinkGraph) (q : List ℕ) → IsGroup g q → length g.nodes < 2 → AreAllLinked g q
one_node g q group few a b ha hb ne =
    let w = less g.nodes a (group.nodes a ha) in
    let shorter = w.shorter in
    elim (w.others b (group.nodes b hb)) [
      | inl e ↦ absurd (ne e)
      | inr h ↦ let p = (place_of w.rest b h).1 in absurd (omega (arith, few, shorter, p))
    ]

-- if every piece is good, every two members are linked
pub some_piece_fails : (g : LinkGraph) (q : List ℕ) → IsGraph g → IsGroup g q
    → ((p : Piece) → IsPiece g q p → IsGood g q p) → AreAllLinked g q
some_piece_fails g q graph group good = elim (cases_lt (length g.nodes) 2) [
  | inl few ↦ one_node g q group few
  | inr many ↦ last_level g q graph group many (λ p at e. good p at)
]
