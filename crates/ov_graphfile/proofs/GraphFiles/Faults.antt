-- The fault of nodes and links that are no graph names one of them, so there is a line that says it.
use Rattle.std.proofs.Common.{◌≡◌, ◌≤◌, ◌<◌, ◌+◌, ℕ, suc, List, [], ◌∷◌, length, slice_get}
use Rattle.std.specs.Prelude.{⊤}
use Rattle.std.proofs.Common.{Option, Some, None, refl, ap, sym, subst, arith, inl, inr}
use Rattle.std.proofs.lemmas.Option.{slice_get-get_or}
use Rattle.ov_ids.specs.FaultOrder.{HoldsThen, IsRefusedBy}
use Rattle.ov_graph.specs.Faults.{JudgedWithin, NodesJudged, LinksJudged, LinkJoins, LinkComesAfter}
use Rattle.ov_graph.specs.Links.{Precedes}
use Rattle.ov_graph.specs.declared.fault.GraphFault.{GraphFault}
use Rattle.ov_graph.specs.declared.fault.GraphFault.TheVariants.{TooManyNodes, UnorderedNode, BadLink, UnorderedLink}
use Rattle.ov_graph.specs.declared.fault.GraphFault.TheVariants.{OutOfMemory}
use Rattle.ov_graph.specs.declared.fault.LinkFlaw.TheVariants.{NotUpward, NoNode}
use Rattle.ov_ids.specs.Members.{Has}
use Rattle.ov_graphfile.specs.GraphFiles.{graph_lines, lines_where, is_of_kind, node_lines, link_lines, nodes_said}
use Rattle.ov_graphfile.specs.GraphFiles.{links_said, line_at_fault}
use Rattle.ov_graphfile.specs.declared.graph_line.GraphLine.{GraphLine}
use Rattle.ov_graphfile.specs.declared.graph_line.GraphLine.TheVariants.{Node, Link}
use Rattle.ov_graphfile.specs.declared.graph_line.LineKind.TheVariants as kind

-- ---- the place that a fault names

-- of so many nodes and links, the one that a fault names is one
abbrev IsPlaced : ℕ → ℕ → Option GraphFault → Type 0
IsPlaced nodes links None = ⊤
IsPlaced nodes links (Some (TooManyNodes count most)) = most < nodes
IsPlaced nodes links (Some (UnorderedNode at node before)) = at < nodes
IsPlaced nodes links (Some (BadLink at l flaw)) = at < links
IsPlaced nodes links (Some (UnorderedLink at l before)) = at < links
IsPlaced nodes links (Some OutOfMemory) = ⊥

-- a step keeps this
step : (n m : ℕ) (P : Type 0) (fault : GraphFault) (After : Option GraphFault → Type 0) (x : Option GraphFault)
    → (¬ P → IsPlaced n m (Some fault)) → (After x → IsPlaced n m x) → HoldsThen P fault After x
    → IsPlaced n m x
step n m P fault After x own rest (inl holds) = rest holds.1
step n m P fault After x own rest (inr fails) = subst (IsPlaced n m) (sym fails.1) (own fails.0)

-- the nodes from a place on
nodes_placed : (n m at : ℕ) (before : Option ℕ) (nodes : List ℕ) (After : Option GraphFault → Type 0)
    (x : Option GraphFault) → at + length nodes ≤ n → (After x → IsPlaced n m x) → NodesJudged at before nodes After x
    → IsPlaced n m x
nodes_placed n m at before [] After x room rest judged = rest judged
nodes_placed n m at None (node ∷ nodes) After x room rest judged =
    nodes_placed n m (suc at) (Some node) nodes After x (omega (arith, room)) rest judged
nodes_placed n m at (Some before) (node ∷ nodes) After x room rest judged =
    step n m (before < node) (UnorderedNode at node before) (NodesJudged (suc at) (Some node) nodes After) x
    (λ _. omega (arith, room)) (nodes_placed n m (suc at) (Some node) nodes After x (omega (arith, room)) rest) judged

-- a link at a place, and what comes behind it
link_placed : (n m at : ℕ) (nodes : List ℕ) (l : ℕ × ℕ) (After : Option GraphFault → Type 0) (x : Option GraphFault)
    → at < m → (After x → IsPlaced n m x) → LinkJoins nodes at l After x
    → IsPlaced n m x
link_placed n m at nodes l After x room rest judged =
    let Second = HoldsThen (Has nodes l.1) (BadLink at l (NoNode l.1)) After in
    let First = HoldsThen (Has nodes l.0) (BadLink at l (NoNode l.0)) Second in
    step n m (l.0 < l.1) (BadLink at l NotUpward) First x (λ _. room)
    (step n m (Has nodes l.0) (BadLink at l (NoNode l.0)) Second x (λ _. room)
    (step n m (Has nodes l.1) (BadLink at l (NoNode l.1)) After x (λ _. room) rest)) judged

order_placed : (n m at : ℕ) (before : Option (ℕ × ℕ)) (l : ℕ × ℕ) (After : Option GraphFault → Type 0)
    (x : Option GraphFault) → at < m → (After x → IsPlaced n m x) → LinkComesAfter at before l After x
    → IsPlaced n m x
order_placed n m at None l After x room rest judged = rest judged
order_placed n m at (Some before) l After x room rest judged =
    step n m (Precedes before l) (UnorderedLink at l before) After x (λ _. room) rest judged

-- the links from a place on
links_placed : (n m at : ℕ) (nodes : List ℕ) (before : Option (ℕ × ℕ)) (links : List (ℕ × ℕ)) (x : Option GraphFault)
    → at + length links ≤ m → LinksJudged nodes at before links x
    → IsPlaced n m x
links_placed n m at nodes before [] x room judged = subst (IsPlaced n m) (sym judged) tt
links_placed n m at nodes before (l ∷ links) x room judged =
    link_placed n m at nodes l (LinkComesAfter at before l (LinksJudged nodes (suc at) (Some l) links)) x
    (omega (arith, room))
    (order_placed n m at before l (LinksJudged nodes (suc at) (Some l) links) x (omega (arith, room))
    (links_placed n m (suc at) nodes (Some l) links x (omega (arith, room)))) judged

-- the first fault of nodes and links
placed : (most : ℕ) (nodes : List ℕ) (links : List (ℕ × ℕ)) (x : Option GraphFault) → JudgedWithin most nodes links x
    → IsPlaced (length nodes) (length links) x
placed most nodes links x judged =
    step (length nodes) (length links) (length nodes ≤ most) (TooManyNodes (length nodes) most)
    (NodesJudged 0 None nodes (LinksJudged nodes 0 None links)) x (λ many. omega (arith, many))
    (nodes_placed (length nodes) (length links) 0 None nodes (LinksJudged nodes 0 None links) x (omega arith)
    (links_placed (length nodes) (length links) 0 nodes None links x (omega arith))) judged

-- ---- the lines

node_length : (lines : List (ℕ × Option GraphLine))
    → length (lines_where (is_of_kind kind.Node) lines) ≡ length (nodes_said lines)
unfolding lines_where nodes_said
node_length [] = refl
node_length ((n, None) ∷ more) = node_length more
node_length ((n, Some (Node id)) ∷ more) = ap suc (node_length more)
node_length ((n, Some (Link a b)) ∷ more) = node_length more

link_length : (lines : List (ℕ × Option GraphLine))
    → length (lines_where (is_of_kind kind.Link) lines) ≡ length (links_said lines)
unfolding lines_where links_said
link_length [] = refl
link_length ((n, None) ∷ more) = link_length more
link_length ((n, Some (Node id)) ∷ more) = link_length more
link_length ((n, Some (Link a b)) ∷ more) = ap suc (link_length more)

there : (numbers : List ℕ) (at : ℕ) → at < length numbers → slice_get numbers at ≡ None → ⊥
there numbers at within none = let some = slice_get-get_or numbers at 0 within in absurd (cc)

line_there : (bytes : List ℕ) (fault : GraphFault)
    → IsPlaced (length (nodes_said (graph_lines bytes))) (length (links_said (graph_lines bytes))) (Some fault)
    → line_at_fault bytes fault ≡ None → ⊥
line_there bytes (TooManyNodes count most) within none =
    there (node_lines bytes) most (subst (λ k. most < k) (sym (node_length (graph_lines bytes))) within) none
line_there bytes (UnorderedNode at node before) within none =
    there (node_lines bytes) at (subst (λ k. at < k) (sym (node_length (graph_lines bytes))) within) none
line_there bytes (BadLink at l flaw) within none =
    there (link_lines bytes) at (subst (λ k. at < k) (sym (link_length (graph_lines bytes))) within) none
line_there bytes (UnorderedLink at l before) within none =
    there (link_lines bytes) at (subst (λ k. at < k) (sym (link_length (graph_lines bytes))) within) none
line_there bytes OutOfMemory within none = within

-- a fault without a line is out of memory
pub no_line : (most : ℕ) (bytes : List ℕ) (fault : GraphFault)
    → IsRefusedBy OutOfMemory (JudgedWithin most (nodes_said (graph_lines bytes)) (links_said (graph_lines bytes)))
    fault
    → line_at_fault bytes fault ≡ None
    → fault ≡ OutOfMemory
no_line most bytes fault (inl judged) none =
    absurd (line_there bytes fault
    (placed most (nodes_said (graph_lines bytes)) (links_said (graph_lines bytes)) (Some fault) judged) none)
no_line most bytes fault (inr memory) none = memory.0
