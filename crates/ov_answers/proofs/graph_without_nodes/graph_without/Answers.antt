-- The graph of the nodes and the links that are left.
use Rattle.std.proofs.Common.{◌≡◌, ◌∙◌, ℕ, List, ap, ap₂}
use Rattle.ov_graph.specs.Links.{LinkGraph}
use Rattle.ov_answers.specs.Code.Left.{ids_left, links_left}
use Rattle.ov_answers.proofs.Left.{loses}
use Rattle.ov_answers.proofs.graph_without_nodes.graph_without.Goals as goal

abbrev the_graph : List ℕ → List (ℕ × ℕ) → LinkGraph
the_graph nodes links = record { nodes = nodes; links = links }

pub returns-in-Ok : goal.returns-in-Ok
returns-in-Ok c =
    let g = c.args.graph.now in
    let ordered = c.in_ok-gone.gone.items in
    let nodes = c.in_ok-nodes.nodes.items in
    let links = c.in_ok-links.links.items in
    let nodes_are : nodes ≡ ids_left ordered g.nodes =
    c.in_ok-nodes.ensures ∙ ap₂ (λ (s xs : List ℕ). ids_left s xs) c.deref.ensures.value c.nodes.ensures.nodes in
    let links_are : links ≡ links_left ordered g.links =
    c.in_ok-links.ensures ∙ ap (λ (s : List ℕ). links_left s g.links) c.deref-2.ensures.value in
    let made : c.in-Ok.left ≡ record { nodes = nodes; links = links } =
    c.in-Ok.ensures.graph
    ∙ ap₂ (λ (ns : List ℕ) (ls : List (ℕ × ℕ)). the_graph ns ls) c.deref-3.ensures.value c.deref-4.ensures.value in
    loses g c.in-Ok.left c.args.gone.now ordered nodes links c.in_ok-gone.ensures.same nodes_are links_are made
    c.in-Ok.ensures.is_graph
