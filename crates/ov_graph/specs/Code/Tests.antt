-- Computable tests of the definitions for graphs.
use Rattle.std.specs.Prelude.{ℕ, suc, ◌&&◌, ◌||◌, ◌==◌, Bool, List, [], ◌∷◌, length, filter, nat_lt, if◌then◌else◌}
use Rattle.std.specs.Prelude.{Option, Some, None}
use Rattle.std.specs.List.{list_any}
use Rattle.std.specs.Option.{option_map, option_or}
use Rattle.ov_ids.specs.Sets.{has}
use Rattle.ov_graph.specs.declared.fault.GraphFault.{GraphFault}
use Rattle.ov_graph.specs.declared.fault.GraphFault.TheVariants.{TooManyNodes, UnorderedNode, BadLink, UnorderedLink}
use Rattle.ov_graph.specs.declared.fault.LinkFlaw.{LinkFlaw}
use Rattle.ov_graph.specs.declared.fault.LinkFlaw.TheVariants.{NotUpward, NoNode}

-- one of the links joins a and b, in either order
abbrev pub are_joined : List (ℕ × ℕ) → ℕ → ℕ → Bool
are_joined links a b = list_any (λ l. (l.0 == a) && (l.1 == b)) links || list_any (λ l. (l.0 == b) && (l.1 == a)) links

-- those of the nodes that a is linked to, in the order of the list
abbrev pub neighbours_in : List (ℕ × ℕ) → ℕ → List ℕ → List ℕ
neighbours_in links a nodes = filter (λ b. are_joined links a b) nodes

-- l comes before m in the order of links: by the first node, and then by the second
abbrev pub precedes : ℕ × ℕ → ℕ × ℕ → Bool
precedes l m = nat_lt l.0 m.0 || ((l.0 == m.0) && nat_lt l.1 m.1)

-- why l does not join two nodes, the lower id first
abbrev pub link_flaw : List ℕ → ℕ × ℕ → Option LinkFlaw
link_flaw nodes l =
    if nat_lt l.0 l.1 then (if has nodes l.0 then (if has nodes l.1 then None else Some (NoNode l.1))
    else Some (NoNode l.0)) else Some NotUpward

-- the first fault of the nodes from place `at` on, which follow the node `before`
abbrev pub nodes_fault : ℕ → Option ℕ → List ℕ → Option GraphFault
nodes_fault at before [] = None
nodes_fault at None (node ∷ rest) = nodes_fault (suc at) (Some node) rest
nodes_fault at (Some before) (node ∷ rest) =
    if nat_lt before node then nodes_fault (suc at) (Some node) rest else Some (UnorderedNode at node before)

-- the fault of the order of the link l at place `at`, which follows the link `before`
abbrev pub order_fault : ℕ → Option (ℕ × ℕ) → ℕ × ℕ → Option GraphFault
order_fault at None l = None
order_fault at (Some before) l = if precedes before l then None else Some (UnorderedLink at l before)

-- the first fault of the links from place `at` on, which follow the link `before`
abbrev pub links_fault : List ℕ → ℕ → Option (ℕ × ℕ) → List (ℕ × ℕ) → Option GraphFault
links_fault nodes at before [] = None
links_fault nodes at before (l ∷ rest) =
    option_or (option_map (λ flaw. BadLink at l flaw) (link_flaw nodes l))
    (option_or (order_fault at before l) (links_fault nodes (suc at) (Some l) rest))

-- the first fault of nodes and links: the one that `JudgedWithin` names
abbrev pub fault_of : ℕ → List ℕ → List (ℕ × ℕ) → Option GraphFault
fault_of most nodes links =
    if nat_lt most (length nodes) then Some (TooManyNodes (length nodes) most)
    else option_or (nodes_fault 0 None nodes) (links_fault nodes 0 None links)
