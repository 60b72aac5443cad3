-- Why nodes and links are refused as a graph. Places count from 0.
use Rattle.std.specs.Prelude.{ℕ, suc, ◌<◌, ◌≤◌, List, [], ◌∷◌, length, Option, Some, None}
use Rattle.ov_ids.specs.Members.{Has}
use Rattle.ov_ids.specs.FaultOrder.{HoldsThen, Passed}
use Rattle.ov_graph.specs.Links.{Precedes, most_nodes, most_of_any_graph}
use Rattle.ov_graph.specs.declared.fault.GraphFault.{GraphFault}
use Rattle.ov_graph.specs.declared.fault.GraphFault.TheVariants.{TooManyNodes, UnorderedNode, BadLink, UnorderedLink}
use Rattle.ov_graph.specs.declared.fault.GraphFault.TheVariants.{OutOfMemory}
use Rattle.ov_graph.specs.declared.fault.LinkFlaw.TheVariants.{NotUpward, NoNode}

-- the number of each fault
abbrev pub number_of : GraphFault → ℕ
number_of (TooManyNodes count most) = 31
number_of (UnorderedNode at node before) = 32
number_of (BadLink at l flaw) = 33
number_of (UnorderedLink at l before) = 32
number_of OutOfMemory = 99

-- the node at place `at` is above the node before it, if there is one. Then `After` decides
abbrev pub NodeComesAfter : ℕ → Option ℕ → ℕ → (Option GraphFault → Type 0) → Option GraphFault → Type 0
NodeComesAfter at None node After answer = After answer
NodeComesAfter at (Some before) node After answer =
    HoldsThen (before < node) (UnorderedNode at node before) After answer

-- the first fault of the nodes from place `at` on, which follow the node `before`. If there is none, `After` decides
abbrev pub NodesJudged : ℕ → Option ℕ → List ℕ → (Option GraphFault → Type 0) → Option GraphFault → Type 0
NodesJudged at before [] After answer = After answer
NodesJudged at before (node ∷ nodes) After answer =
    NodeComesAfter at before node (NodesJudged (suc at) (Some node) nodes After) answer

-- the link l at place `at` joins two nodes, the lower id first. Then `After` decides
abbrev pub LinkJoins : List ℕ → ℕ → ℕ × ℕ → (Option GraphFault → Type 0) → Option GraphFault → Type 0
LinkJoins nodes at l After answer =
    HoldsThen (l.0 < l.1) (BadLink at l NotUpward)
    (HoldsThen (Has nodes l.0) (BadLink at l (NoNode l.0))
    (HoldsThen (Has nodes l.1) (BadLink at l (NoNode l.1)) After)) answer

-- the link l at place `at` comes after the link before it, if there is one. Then `After` decides
abbrev pub LinkComesAfter : ℕ → Option (ℕ × ℕ) → ℕ × ℕ → (Option GraphFault → Type 0) → Option GraphFault → Type 0
LinkComesAfter at None l After answer = After answer
LinkComesAfter at (Some before) l After answer =
    HoldsThen (Precedes before l) (UnorderedLink at l before) After answer

-- the first fault of the links from place `at` on, which follow the link `before`. Each must join two nodes, and then
-- come after the link before it
abbrev pub LinksJudged : List ℕ → ℕ → Option (ℕ × ℕ) → List (ℕ × ℕ) → Option GraphFault → Type 0
LinksJudged nodes at before [] answer = Passed answer
LinksJudged nodes at before (l ∷ links) answer =
    LinkJoins nodes at l (LinkComesAfter at before l (LinksJudged nodes (suc at) (Some l) links)) answer

-- the first fault of nodes and links, of which there may be `most` nodes, or None if there is none. First come too many
-- nodes, then the nodes one by one, and then the links one by one
abbrev pub JudgedWithin : ℕ → List ℕ → List (ℕ × ℕ) → Option GraphFault → Type 0
JudgedWithin most nodes links answer =
    HoldsThen (length nodes ≤ most) (TooManyNodes (length nodes) most)
    (NodesJudged 0 None nodes (LinksJudged nodes 0 None links)) answer

-- the first fault, where there may be at most `most_nodes` nodes
abbrev pub GraphJudged : List ℕ → List (ℕ × ℕ) → Option GraphFault → Type 0
GraphJudged nodes links answer = JudgedWithin most_nodes nodes links answer

-- the first fault, where there may be as many nodes as any graph may have
abbrev pub LargeGraphJudged : List ℕ → List (ℕ × ℕ) → Option GraphFault → Type 0
LargeGraphJudged nodes links answer = JudgedWithin most_of_any_graph nodes links answer
