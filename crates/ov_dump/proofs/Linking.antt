-- Links that follow from who lists whom.
use Rattle.std.proofs.Common.{◌≡◌, ◌≢◌, ◌∙◌, ◌↔◌, ◌⊎◌, ◌<◌, ◌≤◌, inl, inr, List, [], ◌∷◌, ◌++◌, ℕ, zero, suc, sym, ap}
use Rattle.std.proofs.Common.{ap₂}
use Rattle.std.proofs.Common.{subst, refl, Bool, true, false, MatchBool, length, arith}
use Rattle.ov_ids.specs.Members.{Ascends, Has, Ordered}
use Rattle.ov_ids.proofs.Members.{has_append_cases, has_append_left, has_append_right, same_ordered}
use Rattle.ov_graph.specs.Links.{IsGraph, IsLink, LinkGraph, Linked, Precedes}
use Rattle.ov_graph.proofs.GraphValues.OneGraph.{linked_differ, same_graphs}
use Rattle.ov_dump.specs.Code.Numbering.{AreUpward, Follows, GainsPair, IsPairOf, NodeLists}
use Rattle.ov_dump.specs.Dumps.{AreNumbered, HasLowerKey, IsGraphOf, IsNameOf, IsTaken, Lists, numbers}
use Rattle.ov_dump.specs.Names.{ComesBefore}
use Rattle.ov_dump.specs.declared.dump_and_graph_types.Choice.{Choice}
use Rattle.ov_dump.specs.declared.dump_and_graph_types.Dump.{Dump}
use Rattle.ov_dump.specs.declared.dump_and_graph_types.Listing.{Listing}
use Rattle.ov_dump.proofs.NameLists.{same_names}
use Rattle.ov_dump.proofs.Numbered.{Differ, lists_more, lower_once, name_one, names_differ, nodes_differ}
use Rattle.ov_dump.proofs.Numbered.{none_lists, numbered_differ}
use Rattle.ov_dump.proofs.Places.{ordered_more}

-- ---- one node lists another

-- the pair of a lower node that lists a higher one
pub follows_up : (up down after : List (ℕ × ℕ)) (from to : ℕ) → from < to → after ≡ up ++ (from, to) ∷ []
    → (i j : ℕ) → Follows after down i j ↔ (((i ≡ from) × (j ≡ to)) ⊎ Follows up down i j)
follows_up up down after from to low is i j = (
  (λ h. elim h [
    | inl l ↦ elim (has_append_cases up ((from, to) ∷ []) (i, j) (subst (λ ls. Has ls (i, j)) is l.1)) [
      | inl m ↦ inr (inl (l.0, m))
      | inr m ↦ elim m [
        | inl e ↦ inl (sym (ap (λ (p : ℕ × ℕ). p.0) e), sym (ap (λ (p : ℕ × ℕ). p.1) e))
        | inr none ↦ absurd none
      ]
    ]
    | inr l ↦ inr (inr l)
  ]),
  (λ h. elim h [
    | inl e ↦ let s = e.0 in let t = e.1 in inl (
      omega (arith, low, s, t),
      subst (λ ls. Has ls (i, j)) (sym is) (has_append_right up ((from, to) ∷ []) (i, j)
          (inl (ap₂ (λ (x y : ℕ). (x, y)) (sym s) (sym t)))),
    )
    | inr k ↦ elim k [
      | inl l ↦ inl (l.0, subst (λ ls. Has ls (i, j)) (sym is) (has_append_left up ((from, to) ∷ []) (i, j) l.1))
      | inr l ↦ inr l
    ]
  ]),
)

-- the pair of a higher node that lists a lower one
pub follows_down : (up down after : List (ℕ × ℕ)) (from to : ℕ) → to < from → after ≡ down ++ (to, from) ∷ []
    → (i j : ℕ) → Follows up after i j ↔ (((i ≡ from) × (j ≡ to)) ⊎ Follows up down i j)
follows_down up down after from to low is i j = (
  (λ h. elim h [
    | inl l ↦ inr (inl l)
    | inr l ↦ elim (has_append_cases down ((to, from) ∷ []) (j, i) (subst (λ ls. Has ls (j, i)) is l.1)) [
      | inl m ↦ inr (inr (l.0, m))
      | inr m ↦ elim m [
        | inl e ↦ inl (sym (ap (λ (p : ℕ × ℕ). p.1) e), sym (ap (λ (p : ℕ × ℕ). p.0) e))
        | inr none ↦ absurd none
      ]
    ]
  ]),
  (λ h. elim h [
    | inl e ↦ let s = e.0 in let t = e.1 in inr (
      omega (arith, low, s, t),
      subst (λ ls. Has ls (j, i)) (sym is) (has_append_right down ((to, from) ∷ []) (j, i)
          (inl (ap₂ (λ (x y : ℕ). (x, y)) (sym t) (sym s)))),
    )
    | inr k ↦ elim k [
      | inl l ↦ inl l
      | inr l ↦ inr (l.0, subst (λ ls. Has ls (j, i)) (sym is) (has_append_left down ((to, from) ∷ []) (j, i) l.1))
    ]
  ]),
)

-- a list of pairs has got that of a and b, in the order in which it was added
pub gains_pair : (a b x y : ℕ) (old new : List (ℕ × ℕ)) → new ≡ old ++ (x, y) ∷ [] → IsPairOf a b (x, y)
    → GainsPair a b old new
gains_pair a b x y old new is own l h =
    elim (has_append_cases old ((x, y) ∷ []) l (subst (λ ls. Has ls l) is h)) [
      | inl m ↦ inl m
      | inr m ↦ elim m [ inl e ↦ inr (subst (IsPairOf a b) e own) | inr none ↦ absurd none ]
    ]

-- with it, the pairs may still be links
pub upward_more : (names : List (List ℕ)) (a b : ℕ) (old new : List (ℕ × ℕ)) → Has (numbers (length names)) a
    → Has (numbers (length names)) b → AreUpward names old → GainsPair a b old new → AreUpward names new
upward_more names a b old new is_a is_b up gains l h = elim (gains l h) [
  | inl m ↦ up l m
  | inr r ↦ elim r.1 [
    | inl e ↦ (
      r.0,
      subst (Has (numbers (length names))) (sym e.0) is_a,
      subst (Has (numbers (length names))) (sym e.1) is_b,
    )
    | inr e ↦ (
      r.0,
      subst (Has (numbers (length names))) (sym e.0) is_b,
      subst (Has (numbers (length names))) (sym e.1) is_a,
    )
  ]
]

-- ---- all listings

-- the pairs so far, after these listings
pub record FollowsSoFar (names : List (List ℕ)) (before : List Listing) (up down : List (ℕ × ℕ)) : Type 0 where
  pub is_up : AreUpward names up
  pub is_down : AreUpward names down
  pub lists : (i j : ℕ) → i ≢ j → (Follows up down i j ↔ NodeLists names before i j)

pub follows_begun : (names : List (List ℕ)) → FollowsSoFar names [] [] []
follows_begun names = record {
  is_up = λ l h. absurd h;
  is_down = λ l h. absurd h;
  lists = λ i j far. (
    (λ h. elim h [ inl l ↦ absurd l.1 | inr l ↦ absurd l.1 ]),
    (λ h. absurd (none_lists names i j h)),
  );
}

pub follows_more : (names : List (List ℕ)) (before : List Listing) (l : Listing) (up down up' down' : List (ℕ × ℕ))
    → FollowsSoFar names before up down → AreUpward names up' → AreUpward names down'
    → ((i j : ℕ) → i ≢ j → (Follows up' down' i j ↔ (NodeLists names (l ∷ []) i j ⊎ Follows up down i j)))
    → FollowsSoFar names (before ++ l ∷ []) up' down'
follows_more names before l up down up' down' s e f grown = record {
  is_up = e;
  is_down = f;
  lists = λ i j far. (
    (λ h. (lists_more names before l i j).1 (elim ((grown i j far).0 h) [
      | inl k ↦ inl k
      | inr k ↦ inr ((s.lists i j far).0 k)
    ])),
    (λ h. (grown i j far).1 (elim ((lists_more names before l i j).0 h) [
      | inl k ↦ inl k
      | inr k ↦ inr ((s.lists i j far).1 k)
    ])),
  );
}

-- ---- the links of pairs

-- the nodes 1 to n ascend
pub in_range : (n i : ℕ) → Has (numbers n) i → i ≤ n
in_range zero i h = absurd h
in_range (suc n) i h = elim (has_append_cases (numbers n) (suc n ∷ []) i h) [
  | inl m ↦ let l = in_range n i m in omega (arith, l)
  | inr m ↦ elim m [ inl e ↦ omega (arith, e) | inr none ↦ absurd none ]
]

pub numbers_ascend : (n : ℕ) → Ascends (numbers n)
numbers_ascend zero = tt
numbers_ascend (suc n) =
    ordered_more (λ x y. x < y) (numbers n) (suc n) (numbers_ascend n)
    (λ x h. let l = in_range n x h in omega (arith, l))

-- pairs of one list or the other may be links
pub upward_either : (names : List (List ℕ)) (up down ls : List (ℕ × ℕ)) → AreUpward names up → AreUpward names down
    → ((l : ℕ × ℕ) → Has ls l → Has up l ⊎ Has down l) → AreUpward names ls
upward_either names up down ls is_up is_down own l h =
    elim (own l h) [ inl m ↦ is_up l m | inr m ↦ is_down l m ]

-- links are pairs of one list or the other, if they are those of either or those of both
pub of_either : (either : Bool) (up down ls : List (ℕ × ℕ))
    → (either ≡ true → (l : ℕ × ℕ) → Has ls l ↔ (Has up l ⊎ Has down l))
    → (either ≡ false → (l : ℕ × ℕ) → Has ls l ↔ (Has up l × Has down l))
    → (l : ℕ × ℕ) → Has ls l → Has up l ⊎ Has down l
of_either true up down ls one both l h = (one refl l).0 h
of_either false up down ls one both l h = inl ((both refl l).0 h).0

pub is_graph : (names : List (List ℕ)) (nodes : List ℕ) (ls : List (ℕ × ℕ)) → nodes ≡ numbers (length names)
    → Ordered Precedes ls → AreUpward names ls → IsGraph (record { nodes = nodes; links = ls })
is_graph names nodes ls is up own = record {
  nodes_ascend = subst Ascends (sym is) (numbers_ascend (length names));
  links_ascend = up;
  joins = λ l h. subst (λ (ns : List ℕ). IsLink ns l) (sym is) (own l h);
}

-- a pair of one of the lists says which node lists which
up_says : (names : List (List ℕ)) (up down : List (ℕ × ℕ)) (i j : ℕ) → AreUpward names up → Has up (i, j)
    → (i < j) × Follows up down i j
up_says names up down i j own h = let low = (own (i, j) h).0 in (low, inl (low, h))

down_says : (names : List (List ℕ)) (up down : List (ℕ × ℕ)) (i j : ℕ) → AreUpward names down → Has down (i, j)
    → (i < j) × Follows up down j i
down_says names up down i j own h = let low = (own (i, j) h).0 in (low, inr (low, h))

-- pairs that are in one list or the other
pub either_links : (names : List (List ℕ)) (up down : List (ℕ × ℕ)) (g : LinkGraph) → AreUpward names up
    → AreUpward names down → ((l : ℕ × ℕ) → Has g.links l ↔ (Has up l ⊎ Has down l))
    → (i j : ℕ) → Linked g i j ↔ (Follows up down i j ⊎ Follows up down j i)
unfolding Linked
either_links names up down g is_up is_down links i j = (
  (λ h. elim h [
    | inl k ↦ elim ((links (i, j)).0 k) [
      | inl u ↦ inl (up_says names up down i j is_up u).1
      | inr d ↦ inr (down_says names up down i j is_down d).1
    ]
    | inr k ↦ elim ((links (j, i)).0 k) [
      | inl u ↦ inr (up_says names up down j i is_up u).1
      | inr d ↦ inl (down_says names up down j i is_down d).1
    ]
  ]),
  (λ h. elim h [ inl f ↦ linked_by i j f | inr f ↦ turned (linked_by j i f) ]),
)
  where
    linked_by : (a b : ℕ) → Follows up down a b → Has g.links (a, b) ⊎ Has g.links (b, a)
    linked_by a b f = elim f [ inl u ↦ inl ((links (a, b)).1 (inl u.1)) | inr d ↦ inr ((links (b, a)).1 (inr d.1)) ]

    turned : {A B : Type 0} → A ⊎ B → B ⊎ A
    turned h = elim h [ inl a ↦ inr a | inr b ↦ inl b ]

-- pairs that are in both lists
pub shared_links : (names : List (List ℕ)) (up down : List (ℕ × ℕ)) (g : LinkGraph) → AreUpward names up
    → AreUpward names down → ((l : ℕ × ℕ) → Has g.links l ↔ (Has up l × Has down l))
    → (i j : ℕ) → Linked g i j ↔ (Follows up down i j × Follows up down j i)
unfolding Linked
shared_links names up down g is_up is_down links i j = (
  (λ h. elim h [
    | inl k ↦ let r = (links (i, j)).0 k in
        ((up_says names up down i j is_up r.0).1, (down_says names up down i j is_down r.1).1)
    | inr k ↦ let r = (links (j, i)).0 k in
        ((down_says names up down j i is_down r.1).1, (up_says names up down j i is_up r.0).1)
  ]),
  (λ h. elim h.0 [
    | inl u ↦ elim h.1 [
      | inl v ↦ let a = u.0 in let b = v.0 in absurd (omega (arith, a, b))
      | inr d ↦ inl ((links (i, j)).1 (u.1, d.1))
    ]
    | inr d ↦ elim h.1 [
      | inl u ↦ inr ((links (j, i)).1 (u.1, d.1))
      | inr e ↦ let a = d.0 in let b = e.0 in absurd (omega (arith, a, b))
    ]
  ]),
)

-- what is said of pairs is said of names
pub either_by_names : (names : List (List ℕ)) (listings : List Listing) (up down : List (ℕ × ℕ)) (g : LinkGraph)
    → ((i j : ℕ) → i ≢ j → (Follows up down i j ↔ NodeLists names listings i j))
    → ((i j : ℕ) → Linked g i j ↔ (Follows up down i j ⊎ Follows up down j i))
    → (i j : ℕ) → i ≢ j → (Linked g i j ↔ (NodeLists names listings i j ⊎ NodeLists names listings j i))
either_by_names names listings up down g lists links i j far = (
  (λ h. elim ((links i j).0 h) [
    | inl f ↦ inl ((lists i j far).0 f)
    | inr f ↦ inr ((lists j i (λ e. far (sym e))).0 f)
  ]),
  (λ h. (links i j).1 (elim h [
    | inl n ↦ inl ((lists i j far).1 n)
    | inr n ↦ inr ((lists j i (λ e. far (sym e))).1 n)
  ])),
)

pub both_by_names : (names : List (List ℕ)) (listings : List Listing) (up down : List (ℕ × ℕ)) (g : LinkGraph)
    → ((i j : ℕ) → i ≢ j → (Follows up down i j ↔ NodeLists names listings i j))
    → ((i j : ℕ) → Linked g i j ↔ (Follows up down i j × Follows up down j i))
    → (i j : ℕ) → i ≢ j → (Linked g i j ↔ (NodeLists names listings i j × NodeLists names listings j i))
both_by_names names listings up down g lists links i j far = (
  (λ h. let r = (links i j).0 h in ((lists i j far).0 r.0, (lists j i (λ e. far (sym e))).0 r.1)),
  (λ h. (links i j).1 ((lists i j far).1 h.0, (lists j i (λ e. far (sym e))).1 h.1)),
)

-- ---- the names of linked nodes

-- the names of i and j are linked
abbrev pub NamesAreLinked : Bool → Dump → List (List ℕ) → ℕ → ℕ → Type 0
NamesAreLinked either d names i j = (a b : List ℕ) × IsNameOf names i a × IsNameOf names j b × (a ≢ b)
    × MatchBool either (Lists d a b ⊎ Lists d b a) (Lists d a b × Lists d b a)

-- one of i and j lists the other, or each does
abbrev pub NodesAreLinked : Bool → List (List ℕ) → List Listing → ℕ → ℕ → Type 0
NodesAreLinked either names listings i j =
    MatchBool either (NodeLists names listings i j ⊎ NodeLists names listings j i)
    (NodeLists names listings i j × NodeLists names listings j i)

by_names : (either : Bool) (d : Dump) (names : List (List ℕ)) (i j : ℕ) → Differ names → i ≢ j
    → NodesAreLinked either names d.listings i j → NamesAreLinked either d names i j
by_names true d names i j up far h = elim h [
  | inl r ↦ (r.0, r.1, r.2, r.3, names_differ names i j r.0 r.1 up far r.2 r.3, inl r.4)
  | inr r ↦ (r.1, r.0, r.3, r.2, names_differ names i j r.1 r.0 up far r.3 r.2, inr r.4)
]
by_names false d names i j up far h =
    let r = h.0 in
    let s = h.1 in
    let first : s.1 ≡ r.0 = name_one names i s.1 r.0 s.3 r.2 in
    let second : s.0 ≡ r.1 = name_one names j s.0 r.1 s.2 r.3 in (
      r.0,
      r.1,
      r.2,
      r.3,
      names_differ names i j r.0 r.1 up far r.2 r.3,
      (r.4, subst (λ (x : List ℕ). Lists d x r.0) second (subst (λ (y : List ℕ). Lists d s.0 y) first s.4)),
    )

by_nodes : (either : Bool) (d : Dump) (names : List (List ℕ)) (i j : ℕ) → NamesAreLinked either d names i j
    → NodesAreLinked either names d.listings i j
by_nodes true d names i j h = elim h.5 [
  | inl k ↦ inl (h.0, h.1, h.2, h.3, k)
  | inr k ↦ inr (h.1, h.0, h.3, h.2, k)
]
by_nodes false d names i j h = ((h.0, h.1, h.2, h.3, h.5.0), (h.1, h.0, h.3, h.2, h.5.1))

-- the links of a choice
pub by_choice : (either : Bool) (names : List (List ℕ)) (listings : List Listing) (g : LinkGraph)
    → (either ≡ true → (i j : ℕ) → i ≢ j
    → (Linked g i j ↔ (NodeLists names listings i j ⊎ NodeLists names listings j i)))
    → (either ≡ false → (i j : ℕ) → i ≢ j
    → (Linked g i j ↔ (NodeLists names listings i j × NodeLists names listings j i)))
    → (i j : ℕ) → i ≢ j → (Linked g i j ↔ NodesAreLinked either names listings i j)
by_choice true names listings g one both = one refl
by_choice false names listings g one both = both refl

-- a graph with these nodes and links is the one that follows
pub is_graph_of : (choice : Choice) (d : Dump) (g : LinkGraph) (sorted names : List (List ℕ))
    → Ordered ComesBefore sorted → ((n : List ℕ) → Has sorted n ↔ IsTaken choice d n) → AreNumbered sorted names
    → IsGraph g → g.nodes ≡ numbers (length names)
    → ((i j : ℕ) → i ≢ j → (Linked g i j ↔ NodesAreLinked choice.either names d.listings i j))
    → IsGraphOf choice d g names
is_graph_of choice d g sorted names up taken numbered graph nodes links = record {
  sorted = sorted;
  ascend = up;
  taken = taken;
  numbered = numbered;
  graph = graph;
  nodes = nodes;
  links = λ i j. (
    (λ h. let far = linked_differ g i j graph h in
        by_names choice.either d names i j (numbered_differ sorted names up numbered) far ((links i j far).0 h)),
    (λ h. (links i j (nodes_differ names i j h.0 h.1 h.4 h.2 h.3)).1 (by_nodes choice.either d names i j h)),
  );
}

-- the same, of what the code made
pub follows_dump : (choice : Choice) (d : Dump) (g : LinkGraph) (sorted names : List (List ℕ)) (listings : List Listing)
    → listings ≡ d.listings → Ordered ComesBefore sorted
    → ((n : List ℕ) → Has sorted n ↔ IsTaken choice d n) → AreNumbered sorted names → IsGraph g
    → g.nodes ≡ numbers (length names)
    → (choice.either ≡ true → (i j : ℕ) → i ≢ j
    → (Linked g i j ↔ (NodeLists names listings i j ⊎ NodeLists names listings j i)))
    → (choice.either ≡ false → (i j : ℕ) → i ≢ j
    → (Linked g i j ↔ (NodeLists names listings i j × NodeLists names listings j i)))
    → IsGraphOf choice d g names
follows_dump choice d g sorted names listings same up taken numbered graph nodes one both =
    is_graph_of choice d g sorted names up taken numbered graph nodes
    (subst (λ (ls : List Listing). (i j : ℕ) → i ≢ j → (Linked g i j ↔ NodesAreLinked choice.either names ls i j)) same
    (by_choice choice.either names listings g one both))

-- ---- one graph

graphs_one : (choice : Choice) (d : Dump) (g h : LinkGraph) (names : List (List ℕ)) → IsGraphOf choice d g names
    → IsGraphOf choice d h names → g ≡ h
graphs_one choice d g h names first second =
    let nodes : g.nodes ≡ h.nodes = first.nodes ∙ sym second.nodes in
    same_graphs g h first.graph second.graph
    (λ a. ((λ k. subst (λ ns. Has ns a) nodes k), (λ k. subst (λ ns. Has ns a) (sym nodes) k)))
    (λ a b. ((λ k. (second.links a b).1 ((first.links a b).0 k)), (λ k. (first.links a b).1 ((second.links a b).0 k))))

-- names are numbered in one way
numbered_one : (sorted names others : List (List ℕ)) → Ordered ComesBefore sorted → AreNumbered sorted names
    → AreNumbered sorted others → names ≡ others
numbered_one sorted names others up first second =
    same_ordered (HasLowerKey sorted) (lower_once sorted up) names others first.ascend second.ascend
    (λ n h. (second.each n).1 ((first.each n).0 h)) (λ n h. (first.each n).1 ((second.each n).0 h))

pub graph_one : (choice : Choice) (d : Dump) (g h : LinkGraph) (names others : List (List ℕ))
    → IsGraphOf choice d g names → IsGraphOf choice d h others → (g ≡ h) × (names ≡ others)
graph_one choice d g h names others first second =
    let all : second.sorted ≡ first.sorted = same_names second.sorted first.sorted second.ascend first.ascend
    (λ n k. (first.taken n).1 ((second.taken n).0 k)) (λ n k. (second.taken n).1 ((first.taken n).0 k)) in
    let same : names ≡ others = numbered_one first.sorted names others first.ascend first.numbered
    (subst (λ (ns : List (List ℕ)). AreNumbered ns others) all second.numbered) in
    (graphs_one choice d g h others (subst (IsGraphOf choice d g) same first) second, same)
