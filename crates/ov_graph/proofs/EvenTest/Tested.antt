-- The computable tests agree with the relations.
use Rattle.std.proofs.Common.{◌≡◌, ◌≢◌, ◌∙◌, ◌↔◌, ◌⊎◌, ℕ, suc, ◌<◌, ◌≤◌, inl, inr, List, [], ◌∷◌, length, cond}
use Rattle.std.proofs.Common.{Bool, true, false, ◌&&◌}
use Rattle.std.proofs.Common.{nat_lt, eqb, Option, Some, None, refl, sym, ap₂, subst, arith, IsTrue, eq-eqb, eqb-true}
use Rattle.std.proofs.lemmas.Bool.{or_cases, or_left, or_right, and_parts, and_from, ltb-true, ltb-false, lt-ltb}
use Rattle.std.proofs.lemmas.Bool.{cases_eq, both_ways}
use Rattle.std.specs.Option.{option_map, option_or}
use Rattle.std.specs.List.{list_any, AllByRecursion}
use Rattle.ov_ids.specs.Members.{Has, Ordered, Ascends}
use Rattle.ov_ids.specs.Sets.{has}
use Rattle.ov_ids.specs.Ascending.{ascends_after}
use Rattle.ov_ids.specs.FaultOrder.{HoldsThen, Passed, IsRefusedBy}
use Rattle.ov_ids.proofs.Members.{has_from_any, any_from_has, has_tested, all_member, all_from_members}
use Rattle.ov_ids.proofs.Rising.{ascends_tested}
use Rattle.ov_ids.proofs.Stepping.{step_unless, step_none, step_passes}
use Rattle.ov_graph.specs.Links.{LinkGraph, IsGraph, IsLink, Precedes, Linked}
use Rattle.ov_graph.specs.Faults.{JudgedWithin, NodesJudged, LinksJudged, LinkJoins, LinkComesAfter}
use Rattle.ov_graph.specs.Code.Tests.{precedes, nodes_fault, order_fault, links_fault, fault_of, are_joined}
use Rattle.ov_graph.specs.declared.fault.GraphFault.{GraphFault}
use Rattle.ov_graph.specs.declared.fault.GraphFault.TheVariants.{TooManyNodes, UnorderedNode, BadLink, UnorderedLink}
use Rattle.ov_graph.specs.declared.fault.GraphFault.TheVariants.{OutOfMemory}
use Rattle.ov_graph.specs.declared.fault.LinkFlaw.TheVariants.{NotUpward, NoNode}

pub pair_tested : (xs : List (ℕ × ℕ)) (x y : ℕ) (b : Bool) → b ≡ list_any (λ p. eqb p.0 x && eqb p.1 y) xs
    → IsTrue b ↔ Has xs (x, y)
pair_tested xs x y b e = (
  (λ t.
      let r = has_from_any (λ (p : ℕ × ℕ). eqb p.0 x && eqb p.1 y) xs (sym e ∙ t) in
      let q = and_parts (eqb r.0.0 x) (eqb r.0.1 y) r.2 in
      let s : r.0 ≡ (x, y) = ap₂ (λ (a b : ℕ). (a, b)) (eqb-true r.0.0 x q.0) (eqb-true r.0.1 y q.1) in
      subst (Has xs) s r.1),
  (λ h. e ∙ any_from_has (λ (p : ℕ × ℕ). eqb p.0 x && eqb p.1 y) xs (x, y) h
      (and_from (eqb x x) (eqb y y) (eq-eqb x x refl) (eq-eqb y y refl))),
)

pub joined_tested : (g : LinkGraph) (a b : ℕ) (t : Bool) → t ≡ are_joined g.links a b → IsTrue t ↔ Linked g a b
unfolding Linked
joined_tested g a b t e = (
  (λ h. elim
      (or_cases (list_any (λ p. eqb p.0 a && eqb p.1 b) g.links) (list_any (λ p. eqb p.0 b && eqb p.1 a) g.links)
      (sym e ∙ h)) [
        | inl k ↦ inl ((pair_tested g.links a b true (sym k)).0 refl)
        | inr k ↦ inr ((pair_tested g.links b a true (sym k)).0 refl)
      ]),
  (λ h. e ∙ elim h [
    | inl k ↦ or_left (list_any (λ p. eqb p.0 a && eqb p.1 b) g.links) (list_any (λ p. eqb p.0 b && eqb p.1 a) g.links)
        ((pair_tested g.links a b (list_any (λ p. eqb p.0 a && eqb p.1 b) g.links) refl).1 k)
    | inr k ↦ or_right (list_any (λ p. eqb p.0 a && eqb p.1 b) g.links) (list_any (λ p. eqb p.0 b && eqb p.1 a) g.links)
        ((pair_tested g.links b a (list_any (λ p. eqb p.0 b && eqb p.1 a) g.links) refl).1 k)
  ]),
)

precedes_tested : (l m : ℕ × ℕ) → IsTrue (precedes l m) ↔ Precedes l m
precedes_tested l m = (
  (λ h. elim (or_cases (nat_lt l.0 m.0) (eqb l.0 m.0 && nat_lt l.1 m.1) h) [
    | inl k ↦ inl (ltb-true l.0 m.0 k)
    | inr k ↦ let p = and_parts (eqb l.0 m.0) (nat_lt l.1 m.1) k in inr (eqb-true l.0 m.0 p.0, ltb-true l.1 m.1 p.1)
  ]),
  (λ h. elim h [
    | inl k ↦ or_left (nat_lt l.0 m.0) (eqb l.0 m.0 && nat_lt l.1 m.1) (lt-ltb l.0 m.0 k)
    | inr k ↦ or_right (nat_lt l.0 m.0) (eqb l.0 m.0 && nat_lt l.1 m.1)
        (and_from (eqb l.0 m.0) (nat_lt l.1 m.1) (eq-eqb l.0 m.0 k.0) (lt-ltb l.1 m.1 k.1))
  ]),
)

-- the steps of a link, by the tests of its flaws
joins_by : (at : ℕ) (l : ℕ × ℕ) (a b c : Bool) (A B C : Type 0) (After : Option GraphFault → Type 0)
    (x : Option GraphFault) → (IsTrue a ↔ A) → (IsTrue b ↔ B) → (IsTrue c ↔ C) → After x
    → HoldsThen A (BadLink at l NotUpward)
    (HoldsThen B (BadLink at l (NoNode l.0)) (HoldsThen C (BadLink at l (NoNode l.1)) After))
    (option_or (option_map (λ flaw. BadLink at l flaw)
    (cond a (cond b (cond c None (Some (NoNode l.1))) (Some (NoNode l.0))) (Some NotUpward))) x)
joins_by at l true true true A B C After x p q r h = inl (p.0 refl, inl (q.0 refl, inl (r.0 refl, h)))
joins_by at l true true false A B C After x p q r h =
    inl (p.0 refl, inl (q.0 refl, inr ((λ k. both_ways false refl (r.1 k)), refl)))
joins_by at l true false c A B C After x p q r h = inl (p.0 refl, inr ((λ k. both_ways false refl (q.1 k)), refl))
joins_by at l false b c A B C After x p q r h = inr ((λ k. both_ways false refl (p.1 k)), refl)

-- a step whose condition is decided by a test, before others
step_or : (P : Type 0) (b : Bool) (e : GraphFault) (After : Option GraphFault → Type 0) (x : Option GraphFault)
    → (IsTrue b ↔ P) → After x → HoldsThen P e After (option_or (cond b None (Some e)) x)
step_or P true e After x t a = inl (t.0 refl, a)
step_or P false e After x t a = inr ((λ p. both_ways false refl (t.1 p)), refl)

order_judged : (at : ℕ) (before : Option (ℕ × ℕ)) (l : ℕ × ℕ) (After : Option GraphFault → Type 0)
    (x : Option GraphFault) → After x → LinkComesAfter at before l After (option_or (order_fault at before l) x)
order_judged at None l After x h = h
order_judged at (Some before) l After x h =
    step_or (Precedes before l) (precedes before l) (UnorderedLink at l before) After x (precedes_tested before l) h

links_judged : (nodes : List ℕ) (at : ℕ) (before : Option (ℕ × ℕ)) (ls : List (ℕ × ℕ))
    → LinksJudged nodes at before ls (links_fault nodes at before ls)
links_judged nodes at before [] = refl
links_judged nodes at before (l ∷ ls) =
    joins_by at l (nat_lt l.0 l.1) (has nodes l.0) (has nodes l.1) (l.0 < l.1) (Has nodes l.0) (Has nodes l.1)
    (LinkComesAfter at before l (LinksJudged nodes (suc at) (Some l) ls))
    (option_or (order_fault at before l) (links_fault nodes (suc at) (Some l) ls))
    (ltb-true l.0 l.1, lt-ltb l.0 l.1) (has_tested nodes l.0 (has nodes l.0) refl)
    (has_tested nodes l.1 (has nodes l.1) refl)
    (order_judged at before l (LinksJudged nodes (suc at) (Some l) ls) (links_fault nodes (suc at) (Some l) ls)
    (links_judged nodes (suc at) (Some l) ls))

node_by : (b node : ℕ) (t : Bool) (e : GraphFault) (After : Option GraphFault → Type 0) (x y : Option GraphFault)
    → (IsTrue t ↔ b < node) → After (option_or x y) → HoldsThen (b < node) e After (option_or (cond t x (Some e)) y)
node_by b node true e After x y t h = inl (t.0 refl, h)
node_by b node false e After x y t h = inr ((λ k. both_ways false refl (t.1 k)), refl)

nodes_judged : (at : ℕ) (before : Option ℕ) (xs : List ℕ) (After : Option GraphFault → Type 0)
    (x : Option GraphFault) → After x → NodesJudged at before xs After (option_or (nodes_fault at before xs) x)
nodes_judged at before [] After x h = h
nodes_judged at None (node ∷ xs) After x h = nodes_judged (suc at) (Some node) xs After x h
nodes_judged at (Some b) (node ∷ xs) After x h =
    node_by b node (nat_lt b node) (UnorderedNode at node b) (NodesJudged (suc at) (Some node) xs After)
    (nodes_fault (suc at) (Some node) xs) x (ltb-true b node, lt-ltb b node)
    (nodes_judged (suc at) (Some node) xs After x h)

-- the fault that the tests find is the first one
pub judged : (most : ℕ) (nodes : List ℕ) (ls : List (ℕ × ℕ)) → JudgedWithin most nodes ls (fault_of most nodes ls)
judged most nodes ls =
    step_unless (length nodes ≤ most) (nat_lt most (length nodes)) (TooManyNodes (length nodes) most)
    (NodesJudged 0 None nodes (LinksJudged nodes 0 None ls))
    (option_or (nodes_fault 0 None nodes) (links_fault nodes 0 None ls))
    (λ t l. let m = ltb-true most (length nodes) t in omega (arith, l, m))
    (λ f. ltb-false most (length nodes) f)
    (nodes_judged 0 None nodes (LinksJudged nodes 0 None ls) (links_fault nodes 0 None ls)
    (links_judged nodes 0 None ls))

precedes_trans : (l m n : ℕ × ℕ) → Precedes l m → Precedes m n → Precedes l n
precedes_trans l m n p q = elim p [
  | inl a ↦ elim q [ inl b ↦ inl (omega (arith, a, b)) | inr b ↦ inl (let c = b.0 in omega (arith, a, c)) ]
  | inr a ↦ elim q [
    | inl b ↦ inl (let c = a.0 in omega (arith, c, b))
    | inr b ↦ inr (a.0 ∙ b.0, let c = a.1 in let d = b.1 in omega (arith, c, d))
  ]
]

all_after : (l m : ℕ × ℕ) (ls : List (ℕ × ℕ)) → Precedes l m → AllByRecursion (Precedes m) ls
    → AllByRecursion (Precedes l) ls
all_after l m [] p a = tt
all_after l m (n ∷ ls) p a = (precedes_trans l m n p a.0, all_after l m ls p a.1)

-- a link that has no fault joins two nodes and comes after the link before it
link_sound : (nodes : List ℕ) (at : ℕ) (before : Option (ℕ × ℕ)) (l : ℕ × ℕ) (After : Option GraphFault → Type 0)
    → LinkJoins nodes at l (LinkComesAfter at before l After) None
    → IsLink nodes l × LinkComesAfter at before l After None
link_sound nodes at before l After j =
    let Ordered = LinkComesAfter at before l After in
    let p = step_none (l.0 < l.1) (BadLink at l NotUpward)
    (HoldsThen (Has nodes l.0) (BadLink at l (NoNode l.0))
    (HoldsThen (Has nodes l.1) (BadLink at l (NoNode l.1)) Ordered))
    j in
    let q = step_none (Has nodes l.0) (BadLink at l (NoNode l.0))
    (HoldsThen (Has nodes l.1) (BadLink at l (NoNode l.1)) Ordered) p.1 in
    let r = step_none (Has nodes l.1) (BadLink at l (NoNode l.1)) Ordered q.1 in
    ((p.0, q.0, r.0), r.1)

follow_all : (nodes : List ℕ) (at : ℕ) (l : ℕ × ℕ) (ls : List (ℕ × ℕ)) → LinksJudged nodes at (Some l) ls None
    → AllByRecursion (Precedes l) ls
follow_all nodes at l [] j = tt
follow_all nodes at l (m ∷ ls) j =
    let p = link_sound nodes at (Some l) m (LinksJudged nodes (suc at) (Some m) ls) j in
    let q = step_none (Precedes l m) (UnorderedLink at m l) (LinksJudged nodes (suc at) (Some m) ls) p.1 in
    (q.0, all_after l m ls q.0 (follow_all nodes (suc at) m ls q.1))

order_passed : (at : ℕ) (before : Option (ℕ × ℕ)) (l : ℕ × ℕ) (After : Option GraphFault → Type 0)
    → LinkComesAfter at before l After None → After None
order_passed at None l After j = j
order_passed at (Some before) l After j = (step_none (Precedes before l) (UnorderedLink at l before) After j).1

links_sound : (nodes : List ℕ) (at : ℕ) (before : Option (ℕ × ℕ)) (ls : List (ℕ × ℕ))
    → LinksJudged nodes at before ls None → Ordered Precedes ls × AllByRecursion (IsLink nodes) ls
links_sound nodes at before [] j = (tt, tt)
links_sound nodes at before (l ∷ ls) j =
    let After = LinksJudged nodes (suc at) (Some l) ls in
    let p = link_sound nodes at before l After j in
    let q = order_passed at before l After p.1 in
    let r = links_sound nodes (suc at) (Some l) ls q in
    ((follow_all nodes (suc at) l ls q, r.0), (p.0, r.1))

-- nodes that have no fault ascend
nodes_sound : (at : ℕ) (before : Option ℕ) (xs : List ℕ) (After : Option GraphFault → Type 0)
    → NodesJudged at before xs After None → IsTrue (ascends_after before xs) × After None
nodes_sound at before [] After j = (refl, j)
nodes_sound at None (x ∷ xs) After j = nodes_sound (suc at) (Some x) xs After j
nodes_sound at (Some b) (x ∷ xs) After j =
    let p = step_none (b < x) (UnorderedNode at x b) (NodesJudged (suc at) (Some x) xs After) j in
    let q = nodes_sound (suc at) (Some x) xs After p.1 in
    (and_from (nat_lt b x) (ascends_after (Some x) xs) (lt-ltb b x p.0) q.0, q.1)

-- nodes without a fault ascend
pub ascends_unless_fault : (nodes : List ℕ) → nodes_fault 0 None nodes ≡ None → Ascends nodes
ascends_unless_fault nodes h =
    let j : NodesJudged 0 None nodes Passed (option_or (nodes_fault 0 None nodes) None) =
    nodes_judged 0 None nodes Passed None refl in
    let k = subst (λ o. NodesJudged 0 None nodes Passed (option_or o None)) h j in
    (ascends_tested nodes (ascends_after None nodes) refl).0 (nodes_sound 0 None nodes Passed k).0

-- nodes and links without a fault are a graph
pub sound : (most : ℕ) (nodes : List ℕ) (ls : List (ℕ × ℕ)) → JudgedWithin most nodes ls None
    → IsGraph (record { nodes = nodes; links = ls }) × (length nodes ≤ most)
sound most nodes ls j =
    let p = step_none (length nodes ≤ most) (TooManyNodes (length nodes) most)
    (NodesJudged 0 None nodes (LinksJudged nodes 0 None ls)) j in
    let q = nodes_sound 0 None nodes (LinksJudged nodes 0 None ls) p.1 in
    let r = links_sound nodes 0 None ls q.1 in
    let up = (ascends_tested nodes (ascends_after None nodes) refl).0 q.0 in
    (record { nodes_ascend = up; links_ascend = r.0; joins = λ l h. all_member (IsLink nodes) ls l r.1 h }, p.0)

-- what ascends has no fault of its nodes
nodes_pass : (at : ℕ) (before : Option ℕ) (xs : List ℕ) (After : Option GraphFault → Type 0) (x : Option GraphFault)
    → IsTrue (ascends_after before xs) → NodesJudged at before xs After x → After x
nodes_pass at before [] After x up j = j
nodes_pass at None (n ∷ xs) After x up j = nodes_pass (suc at) (Some n) xs After x up j
nodes_pass at (Some b) (n ∷ xs) After x up j =
    let p = and_parts (nat_lt b n) (ascends_after (Some n) xs) up in
    nodes_pass (suc at) (Some n) xs After x p.1
    (step_passes (b < n) (UnorderedNode at n b) (NodesJudged (suc at) (Some n) xs After) x (ltb-true b n p.0) j)

-- l comes after the link before it, if there is one
abbrev ComesAfter : Option (ℕ × ℕ) → ℕ × ℕ → Type 0
ComesAfter None l = Unit {0}
ComesAfter (Some before) l = Precedes before l

order_passes : (at : ℕ) (before : Option (ℕ × ℕ)) (l : ℕ × ℕ) (After : Option GraphFault → Type 0)
    (x : Option GraphFault) → ComesAfter before l → LinkComesAfter at before l After x → After x
order_passes at None l After x c j = j
order_passes at (Some b) l After x c j = step_passes (Precedes b l) (UnorderedLink at l b) After x c j

link_passes : (nodes : List ℕ) (at : ℕ) (l : ℕ × ℕ) (After : Option GraphFault → Type 0) (x : Option GraphFault)
    → IsLink nodes l → LinkJoins nodes at l After x → After x
link_passes nodes at l After x joins j =
    step_passes (Has nodes l.1) (BadLink at l (NoNode l.1)) After x joins.2
    (step_passes (Has nodes l.0) (BadLink at l (NoNode l.0))
    (HoldsThen (Has nodes l.1) (BadLink at l (NoNode l.1)) After)
    x joins.1
    (step_passes (l.0 < l.1) (BadLink at l NotUpward)
    (HoldsThen (Has nodes l.0) (BadLink at l (NoNode l.0))
    (HoldsThen (Has nodes l.1) (BadLink at l (NoNode l.1)) After))
    x joins.0 j))

no_links_fault : (nodes : List ℕ) (at : ℕ) (before : Option (ℕ × ℕ)) (ls : List (ℕ × ℕ)) (x : Option GraphFault)
    → AllByRecursion (ComesAfter before) ls → Ordered Precedes ls → AllByRecursion (IsLink nodes) ls
    → LinksJudged nodes at before ls x → x ≡ None
no_links_fault nodes at before [] x f up each j = j
no_links_fault nodes at before (l ∷ ls) x f up each j =
    let After = LinksJudged nodes (suc at) (Some l) ls in
    no_links_fault nodes (suc at) (Some l) ls x up.0 up.1 each.1
    (order_passes at before l After x f.0 (link_passes nodes at l (LinkComesAfter at before l After) x each.0 j))

-- a graph's nodes and links have no fault
pub no_fault : (most : ℕ) (g : LinkGraph) (x : Option GraphFault) → IsGraph g → length g.nodes ≤ most
    → JudgedWithin most g.nodes g.links x → x ≡ None
no_fault most g x graph within j =
    no_links_fault g.nodes 0 None g.links x (all_from_members (ComesAfter None) g.links (λ l h. tt)) graph.links_ascend
    (all_from_members (IsLink g.nodes) g.links graph.joins)
    (nodes_pass 0 None g.nodes (LinksJudged g.nodes 0 None g.links) x
    ((ascends_tested g.nodes (ascends_after None g.nodes) refl).1 graph.nodes_ascend)
    (step_passes (length g.nodes ≤ most) (TooManyNodes (length g.nodes) most)
    (NodesJudged 0 None g.nodes (LinksJudged g.nodes 0 None g.links)) x within j))

pub no_fault_found : (most : ℕ) (g : LinkGraph) → IsGraph g → length g.nodes ≤ most
    → fault_of most g.nodes g.links ≡ None
no_fault_found most g graph within =
    no_fault most g (fault_of most g.nodes g.links) graph within (judged most g.nodes g.links)

pub passed : (most : ℕ) (nodes : List ℕ) (ls : List (ℕ × ℕ)) → fault_of most nodes ls ≡ None
    → JudgedWithin most nodes ls None
passed most nodes ls h = subst (JudgedWithin most nodes ls) h (judged most nodes ls)

-- the fault that is found is the first one
pub refused : (most : ℕ) (nodes : List ℕ) (ls : List (ℕ × ℕ)) (e : GraphFault) → fault_of most nodes ls ≡ Some e
    → IsRefusedBy OutOfMemory (JudgedWithin most nodes ls) e
refused most nodes ls e h = inl (subst (JudgedWithin most nodes ls) h (judged most nodes ls))

-- where nodes and links have no fault, out of memory is the refusal
pub out_of_memory : (most : ℕ) (nodes : List ℕ) (ls : List (ℕ × ℕ)) → fault_of most nodes ls ≡ None
    → IsRefusedBy OutOfMemory (JudgedWithin most nodes ls) OutOfMemory
out_of_memory most nodes ls h = inr (refl, passed most nodes ls h)

pub graph_of : (most : ℕ) (nodes : List ℕ) (ls : List (ℕ × ℕ)) → fault_of most nodes ls ≡ None
    → IsGraph (record { nodes = nodes; links = ls }) × (length nodes ≤ most)
graph_of most nodes ls h = sound most nodes ls (passed most nodes ls h)

has_pair_or_not : (ls : List (ℕ × ℕ)) (a b : ℕ) → Has ls (a, b) ⊎ (¬ Has ls (a, b))
has_pair_or_not [] a b = inr (λ h. h)
has_pair_or_not (l ∷ ls) a b = grind (arith, cases_eq l.0 a, cases_eq l.1 b, has_pair_or_not ls a b)

pub linked_or_not : (g : LinkGraph) (a b : ℕ) → Linked g a b ⊎ (¬ Linked g a b)
unfolding Linked
linked_or_not g a b = grind (arith, has_pair_or_not g.links a b, has_pair_or_not g.links b a)

-- there is one first fault
step_once : {E : Type 0} (P : Type 0) (fault : E) (After : Option E → Type 0) (x y : Option E)
    → (After x → After y → x ≡ y) → HoldsThen P fault After x → HoldsThen P fault After y → x ≡ y
step_once P fault After x y one (inl p) (inl q) = one p.1 q.1
step_once P fault After x y one (inl p) (inr q) = absurd (q.0 p.0)
step_once P fault After x y one (inr p) (inl q) = absurd (p.0 q.0)
step_once P fault After x y one (inr p) (inr q) = p.1 ∙ sym q.1

order_once : (at : ℕ) (before : Option (ℕ × ℕ)) (l : ℕ × ℕ) (After : Option GraphFault → Type 0)
    (x y : Option GraphFault) → (After x → After y → x ≡ y) → LinkComesAfter at before l After x
    → LinkComesAfter at before l After y → x ≡ y
order_once at None l After x y one p q = one p q
order_once at (Some b) l After x y one p q = step_once (Precedes b l) (UnorderedLink at l b) After x y one p q

links_judged_once : (nodes : List ℕ) (at : ℕ) (before : Option (ℕ × ℕ)) (ls : List (ℕ × ℕ)) (x y : Option GraphFault)
    → LinksJudged nodes at before ls x → LinksJudged nodes at before ls y → x ≡ y
links_judged_once nodes at before [] x y p q = p ∙ sym q
links_judged_once nodes at before (l ∷ ls) x y p q =
    let After = LinksJudged nodes (suc at) (Some l) ls in
    let Joined = LinkComesAfter at before l After in
    step_once (l.0 < l.1) (BadLink at l NotUpward)
    (HoldsThen (Has nodes l.0) (BadLink at l (NoNode l.0))
    (HoldsThen (Has nodes l.1) (BadLink at l (NoNode l.1)) Joined)) x y
    (step_once (Has nodes l.0) (BadLink at l (NoNode l.0))
    (HoldsThen (Has nodes l.1) (BadLink at l (NoNode l.1)) Joined) x y
    (step_once (Has nodes l.1) (BadLink at l (NoNode l.1)) Joined x y
    (order_once at before l After x y (links_judged_once nodes (suc at) (Some l) ls x y)))) p q

nodes_judged_once : (at : ℕ) (before : Option ℕ) (xs : List ℕ) (After : Option GraphFault → Type 0)
    (x y : Option GraphFault) → (After x → After y → x ≡ y) → NodesJudged at before xs After x
    → NodesJudged at before xs After y → x ≡ y
nodes_judged_once at before [] After x y one p q = one p q
nodes_judged_once at None (n ∷ xs) After x y one p q = nodes_judged_once (suc at) (Some n) xs After x y one p q
nodes_judged_once at (Some b) (n ∷ xs) After x y one p q =
    step_once (b < n) (UnorderedNode at n b) (NodesJudged (suc at) (Some n) xs After) x y
    (nodes_judged_once (suc at) (Some n) xs After x y one) p q

-- nodes and links have one first fault
pub judged_once : (most : ℕ) (nodes : List ℕ) (ls : List (ℕ × ℕ)) (x y : Option GraphFault)
    → JudgedWithin most nodes ls x → JudgedWithin most nodes ls y → x ≡ y
judged_once most nodes ls x y p q =
    step_once (length nodes ≤ most) (TooManyNodes (length nodes) most)
    (NodesJudged 0 None nodes (LinksJudged nodes 0 None ls)) x y
    (nodes_judged_once 0 None nodes (LinksJudged nodes 0 None ls) x y (links_judged_once nodes 0 None ls x y)) p q

-- it is the computed one
pub computed : (most : ℕ) (nodes : List ℕ) (ls : List (ℕ × ℕ)) (x : Option GraphFault) → JudgedWithin most nodes ls x
    → fault_of most nodes ls ≡ x
computed most nodes ls x j = judged_once most nodes ls (fault_of most nodes ls) x (judged most nodes ls) j

-- a refusal other than out of memory is the first fault
pub judged_refusal : (most : ℕ) (nodes : List ℕ) (ls : List (ℕ × ℕ)) (e : GraphFault) → e ≢ OutOfMemory
    → IsRefusedBy OutOfMemory (JudgedWithin most nodes ls) e → JudgedWithin most nodes ls (Some e)
judged_refusal most nodes ls e ne j = elim j [ inl k ↦ k | inr m ↦ absurd (ne m.0) ]

-- a refusal other than out of memory is the computed fault
pub computed_refusal : (most : ℕ) (nodes : List ℕ) (ls : List (ℕ × ℕ)) (e : GraphFault) → e ≢ OutOfMemory
    → IsRefusedBy OutOfMemory (JudgedWithin most nodes ls) e → fault_of most nodes ls ≡ Some e
computed_refusal most nodes ls e ne j = computed most nodes ls (Some e) (judged_refusal most nodes ls e ne j)
