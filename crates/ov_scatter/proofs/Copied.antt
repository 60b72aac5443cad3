-- A copy is a graph, and that of which it is made, under other ids.
use Rattle.std.proofs.Common.{◌≡◌, ◌≢◌, ◌∙◌, ◌↔◌, ◌≤◌, ◌<◌, ◌+◌, inl, inr, ℕ, sym, ap, subst, refl, arith}
use Rattle.std.proofs.Common.{List, [], ◌∷◌, ◌++◌, get_or, length, eq-or-lt_of_le}
use Rattle.std.proofs.lemmas.Bool.{cases_order}
use Rattle.ov_ids.specs.Members.{Has, Ascends}
use Rattle.ov_ids.specs.Sets.{count_below}
use Rattle.ov_ids.proofs.Members.{has_append_cases, has_append_left, has_append_right, has_place, place_of}
use Rattle.ov_ids.proofs.Sets.{count_below_at}
use Rattle.ov_graph.specs.Links.{IsGraph, IsGroup, LinkGraph, Linked}
use Rattle.ov_graph.specs.Paths.{node_at}
use Rattle.ov_graph.proofs.EvenTest.Walks.{linked_sym}
use Rattle.ov_scatter.specs.Code.Keys.{AreIdsOf, AreKeysOf, AreLinksByKey, IsOrder, new_id}
use Rattle.ov_scatter.specs.Renaming.{AreNewIds, IsRenamed}
use Rattle.ov_scatter.proofs.Keyed.{keys_low, one_place}
use Rattle.ov_scatter.proofs.Sorted.{few_between}

-- a graph of these nodes and links
abbrev pub the_graph : List ℕ → List (ℕ × ℕ) → LinkGraph
the_graph nodes links = record { nodes = nodes; links = links }

-- what a copy is made of: a key for each place, the keys in order, and the links by key
pub record IsMade (g : LinkGraph) (keys nodes : List ℕ) (links : List (ℕ × ℕ)) : Type 0 where
  pub graph : IsGraph g
  pub count : length keys ≡ length g.nodes
  pub one : (p q : ℕ) → p < length g.nodes → q < length g.nodes → get_or keys p 0 ≡ get_or keys q 0 → p ≡ q
  pub low : (key : ℕ) → Has keys key → key < 32768
  pub ascend : Ascends nodes
  pub each : (i : ℕ) → Has nodes i ↔ Has keys i
  pub joined : AreLinksByKey g keys 32768 links

-- so it is made: an order of the places, keys by rank, and these sorted
pub made_by : (g : LinkGraph) (turns : List ℕ) (order ordered : List (ℕ × ℕ)) (keys keyed copied nodes : List ℕ)
    (links : List (ℕ × ℕ)) → IsGraph g → length g.nodes ≤ 32768 → length turns ≡ length g.nodes
    → IsOrder (length turns) order → ordered ≡ order → AreKeysOf ordered keys → keyed ≡ keys
    → AreLinksByKey g keyed 32768 links → copied ≡ keys → Ascends nodes
    → ((i : ℕ) → Has nodes i ↔ Has copied i) → IsMade g keys nodes links
made_by g turns order ordered keys keyed copied nodes links graph few long placed is s keys_are joined copy up each =
    let count : length ordered ≡ length g.nodes = ap length is ∙ placed.count ∙ long in
    let fit : length ordered ≤ 32768 = omega (arith, count, few) in
    record {
      graph = graph;
      count = s.count ∙ count;
      one = λ p q low less e.
          one_place ordered keys p q fit s (omega (arith, low, count)) (omega (arith, less, count)) e;
      low = λ key h. keys_low ordered keys key s h;
      ascend = up;
      each = λ i. subst (λ (ks : List ℕ). Has nodes i ↔ Has ks i) copy (each i);
      joined = subst (λ (ks : List ℕ). AreLinksByKey g ks 32768 links) keys_are joined;
    }

pub few_nodes : (g : LinkGraph) (keys nodes : List ℕ) (links : List (ℕ × ℕ)) → IsMade g keys nodes links
    → length nodes ≤ 32768
few_nodes g keys nodes links m =
    let few = few_between nodes 0 32768 (omega arith) m.ascend (λ i h. (omega arith, m.low i ((m.each i).0 h))) in
    omega (arith, few)

-- the key of a place is a node of the copy
own_node : (g : LinkGraph) (keys nodes : List ℕ) (links : List (ℕ × ℕ)) (p i : ℕ) → IsMade g keys nodes links
    → p < length g.nodes → get_or keys p 0 ≡ i → Has nodes i
own_node g keys nodes links p i m low at =
    let count = m.count in
    (m.each i).1 (subst (Has keys) at (has_place keys p 0 (omega (arith, low, count))))

pub copy_is_graph : (g : LinkGraph) (keys nodes : List ℕ) (links : List (ℕ × ℕ)) → IsMade g keys nodes links
    → IsGraph (the_graph nodes links)
copy_is_graph g keys nodes links m = record {
  nodes_ascend = m.ascend;
  links_ascend = m.joined.ascend;
  joins = λ l h. let k = ((m.joined.each l).0 h).1 in
      let own = k.4 in (
        subst (λ x. x < l.1) k.3 own.above,
        own_node g keys nodes links k.0 l.0 m k.2 k.3,
        own_node g keys nodes links k.1 l.1 m own.linked.0 own.key,
      );
}

-- a link of the copy is one of the graph
found : (g : LinkGraph) (keys nodes : List ℕ) (links : List (ℕ × ℕ)) (p q : ℕ) → IsMade g keys nodes links
    → p < length g.nodes → q < length g.nodes → Has links (get_or keys p 0, get_or keys q 0)
    → Linked g (node_at g p) (node_at g q)
found g keys nodes links p q m low less h =
    let k = ((m.joined.each (get_or keys p 0, get_or keys q 0)).0 h).1 in
    let own = k.4 in
    subst (λ x. Linked g (node_at g x) (node_at g q)) (m.one k.0 p k.2 low k.3)
    (subst (λ y. Linked g (node_at g k.0) (node_at g y)) (m.one k.1 q own.linked.0 less own.key) own.linked.1)

-- no node is linked to itself
not_itself : (g : LinkGraph) (a b : ℕ) → IsGraph g → Linked g a b → a ≢ b
unfolding Linked
not_itself g a b graph linked e = elim linked [
  | inl h ↦ let up = (graph.joins (a, b) h).0 in omega (arith, up, e)
  | inr h ↦ let up = (graph.joins (b, a) h).0 in omega (arith, up, e)
]

-- a link of the graph is one of the copy, if the first key is the lower one
kept : (g : LinkGraph) (keys nodes : List ℕ) (links : List (ℕ × ℕ)) (p q : ℕ) → IsMade g keys nodes links
    → p < length g.nodes → q < length g.nodes → Linked g (node_at g p) (node_at g q) → get_or keys p 0 < get_or keys q 0
    → Has links (get_or keys p 0, get_or keys q 0)
kept g keys nodes links p q m low less linked up =
    let count = m.count in
    (m.joined.each (get_or keys p 0, get_or keys q 0)).1 (
      m.low (get_or keys p 0) (has_place keys p 0 (omega (arith, low, count))),
      (p, q, low, refl, record { linked = (less, linked); key = refl; above = up }),
    )

copied_link : (g : LinkGraph) (keys nodes : List ℕ) (links : List (ℕ × ℕ)) (p q : ℕ) → IsMade g keys nodes links
    → p < length g.nodes → q < length g.nodes
    → Linked (the_graph nodes links) (get_or keys p 0) (get_or keys q 0) ↔ Linked g (node_at g p) (node_at g q)
unfolding Linked
copied_link g keys nodes links p q m low less = (
  (λ h. elim h [
    | inl k ↦ found g keys nodes links p q m low less k
    | inr k ↦ linked_sym g (node_at g q) (node_at g p) (found g keys nodes links q p m less low k)
  ]),
  (λ h. elim (cases_order (get_or keys p 0) (get_or keys q 0)) [
    | inl e ↦ absurd (not_itself g (node_at g p) (node_at g q) m.graph h (ap (node_at g) (m.one p q low less e)))
    | inr o ↦ elim o [
      | inl up ↦ inl (kept g keys nodes links p q m low less h up)
      | inr up ↦ inr (kept g keys nodes links q p m less low (linked_sym g (node_at g p) (node_at g q) h) up)
    ]
  ]),
)

pub copy_has_new_ids : (g : LinkGraph) (keys nodes : List ℕ) (links : List (ℕ × ℕ)) → IsMade g keys nodes links
    → AreNewIds g keys (the_graph nodes links)
copy_has_new_ids g keys nodes links m = record {
  count = m.count;
  one_to_one = m.one;
  nodes = m.each;
  links = λ p q low less. copied_link g keys nodes links p q m low less;
}

-- ---- groups under new ids

-- a node stands at its place
pub placed : (nodes : List ℕ) (a : ℕ) → Ascends nodes → Has nodes a
    → (count_below a nodes < length nodes) × (get_or nodes (count_below a nodes) 0 ≡ a)
placed nodes a up h =
    let (p, low, at) = place_of nodes a h in
    let same : count_below a nodes ≡ p = ap (λ x. count_below x nodes) (sym at) ∙ count_below_at nodes p 0 up low in
    (omega (arith, same, low), ap (λ i. get_or nodes i 0) same ∙ at)

-- a node of the graph has a node of the copy as its new id
new_node : (g : LinkGraph) (keys : List ℕ) (h : LinkGraph) (a : ℕ) → IsGraph g → AreNewIds g keys h → Has g.nodes a
    → Has h.nodes (new_id g keys a)
new_node g keys h a graph s own =
    let at = placed g.nodes a graph.nodes_ascend own in
    let low = at.0 in
    let count = s.count in
    (s.nodes (new_id g keys a)).1 (has_place keys (count_below a g.nodes) 0 (omega (arith, low, count)))

old_node : (g : LinkGraph) (keys : List ℕ) (h : LinkGraph) (i : ℕ) → IsGraph g → AreNewIds g keys h → Has h.nodes i
    → (a : ℕ) × Has g.nodes a × (new_id g keys a ≡ i)
old_node g keys h i graph s own =
    let at = place_of keys i ((s.nodes i).0 own) in
    let low = at.1 in
    let count = s.count in
    let less : at.0 < length g.nodes = omega (arith, low, count) in (
      node_at g at.0,
      has_place g.nodes at.0 0 less,
      ap (λ p. get_or keys p 0) (count_below_at g.nodes at.0 0 graph.nodes_ascend less) ∙ at.2,
    )

one_id : (g : LinkGraph) (keys : List ℕ) (h : LinkGraph) (a b : ℕ) → IsGraph g → AreNewIds g keys h → Has g.nodes a
    → Has g.nodes b → new_id g keys a ≡ new_id g keys b → a ≡ b
one_id g keys h a b graph s own other e =
    let p = placed g.nodes a graph.nodes_ascend own in
    let q = placed g.nodes b graph.nodes_ascend other in
    let same = s.one_to_one (count_below a g.nodes) (count_below b g.nodes) p.0 q.0 e in
    sym p.1 ∙ ap (λ x. get_or g.nodes x 0) same ∙ q.1

linked_alike : (g : LinkGraph) (keys : List ℕ) (h : LinkGraph) (a b : ℕ) → IsGraph g → AreNewIds g keys h
    → Has g.nodes a → Has g.nodes b → Linked h (new_id g keys a) (new_id g keys b) ↔ Linked g a b
linked_alike g keys h a b graph s own other =
    let p = placed g.nodes a graph.nodes_ascend own in
    let q = placed g.nodes b graph.nodes_ascend other in
    subst (λ (x : ℕ). Linked h (new_id g keys a) (new_id g keys b) ↔ Linked g x b) p.1
    (subst (λ (y : ℕ). Linked h (new_id g keys a) (new_id g keys b)
    ↔ Linked g (node_at g (count_below a g.nodes)) y) q.1
    (s.links (count_below a g.nodes) (count_below b g.nodes) p.0 q.0))

pub group_is_renamed : (g : LinkGraph) (q keys : List ℕ) (h : LinkGraph) (r : List ℕ) → IsGraph g → AreNewIds g keys h
    → AreIdsOf g keys q r → IsRenamed g q h r
group_is_renamed g q keys h r graph s ids = record {
  renaming = new_id g keys;
  one_to_one = λ a b own other e. one_id g keys h a b graph s own other e;
  nodes = λ i. (
    (λ own. old_node g keys h i graph s own),
    (λ m. subst (Has h.nodes) m.2 (new_node g keys h m.0 graph s m.1)),
  );
  links = λ a b own other. linked_alike g keys h a b graph s own other;
  group = ids.each;
}

some_member : (xs : List ℕ) (x : ℕ) → Has xs x → 0 < length xs
some_member [] x h = absurd h
some_member (y ∷ ys) x h = omega arith

first_member : (xs : List ℕ) → 0 < length xs → (x : ℕ) × Has xs x
first_member [] low = absurd (omega (arith, low))
first_member (x ∷ xs) low = (x, inl refl)

pub copy_has_group : (g : LinkGraph) (q keys : List ℕ) (h : LinkGraph) (r : List ℕ) → IsGraph g → AreNewIds g keys h
    → IsGroup g q → AreIdsOf g keys q r → IsGroup h r
copy_has_group g q keys h r graph s group ids =
    let a = first_member q group.some_member in record {
      some_member = some_member r (new_id g keys a.0) ((ids.each (new_id g keys a.0)).1 (a.0, a.1, refl));
      ascends = ids.ascend;
      nodes = λ i own. let m = (ids.each i).0 own in
          subst (Has h.nodes) m.2 (new_node g keys h m.0 graph s (group.nodes m.0 m.1));
    }

-- ---- the ids of members, one after another

-- the ids of the first k members, in any order
abbrev pub AreFirstIds : LinkGraph → List ℕ → List ℕ → ℕ → List ℕ → Type 0
AreFirstIds g keys q k ids =
    (i : ℕ) → Has ids i ↔ ((p : ℕ) × (p < k) × (p < length q) × (new_id g keys (get_or q p 0) ≡ i))

pub ids_begun : (g : LinkGraph) (keys q : List ℕ) → AreFirstIds g keys q 0 []
ids_begun g keys q i = ((λ h. absurd h), (λ h. let low = h.1 in absurd (omega (arith, low))))

pub ids_more : (g : LinkGraph) (keys q : List ℕ) (k : ℕ) (ids : List ℕ) → k < length q → AreFirstIds g keys q k ids
    → AreFirstIds g keys q (k + 1) (ids ++ new_id g keys (get_or q k 0) ∷ [])
ids_more g keys q k ids less s i = (
  (λ h. elim (has_append_cases ids (new_id g keys (get_or q k 0) ∷ []) i h) [
    | inl m ↦ let r = (s i).0 m in let low = r.1 in (r.0, omega (arith, low), r.2, r.3)
    | inr m ↦ elim m [ inl e ↦ (k, omega arith, less, e) | inr none ↦ absurd none ]
  ]),
  (λ h. let low = h.1 in let le : h.0 ≤ k = omega (arith, low) in elim (eq-or-lt_of_le le) [
    | inl e ↦ has_append_right ids (new_id g keys (get_or q k 0) ∷ []) i
        (inl (ap (λ p. new_id g keys (get_or q p 0)) (sym e) ∙ h.3))
    | inr l ↦ has_append_left ids (new_id g keys (get_or q k 0) ∷ []) i ((s i).1 (h.0, l, h.2, h.3))
  ]),
)

pub ids_all : (g : LinkGraph) (keys q : List ℕ) (k : ℕ) (ids new : List ℕ) → length q ≤ k → AreFirstIds g keys q k ids
    → Ascends new → ((i : ℕ) → Has new i ↔ Has ids i) → AreIdsOf g keys q new
ids_all g keys q k ids new far s up same = record {
  ascend = up;
  each = λ i. (
    (λ h. let m = (s i).0 ((same i).0 h) in (get_or q m.0 0, has_place q m.0 0 m.2, m.3)),
    (λ h. let at = place_of q h.0 h.1 in
        let low = at.1 in
        (same i).1 ((s i).1 (at.0, omega (arith, low, far), low, ap (new_id g keys) at.2 ∙ h.2))),
  );
}
