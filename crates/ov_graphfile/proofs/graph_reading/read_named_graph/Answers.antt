-- The lines say a graph, and each node has its name.
use Rattle.std.proofs.Common.{◌≡◌, ◌∙◌, map, ap, sym}
use Rattle.std.specs.Option.{option_copied}
use Rattle.std.proofs.lemmas.List.{length-map}
use Rattle.ov_graph.specs.Links.{LinkGraph, most_of}
use Rattle.ov_graphfile.specs.GraphFiles.{graph_lines, links_said, nodes_said}
use Rattle.ov_graphfile.proofs.Told.{are_names, name_each, within_limit}
use Rattle.ov_graphfile.proofs.graph_reading.read_named_graph.Goals as goal

pub returns-in-Ok-within-clause-graph : goal.returns-in-Ok-within-clause-graph
returns-in-Ok-within-clause-graph c =
    let nodes : c.in-Ok-within.graph.nodes ≡ nodes_said (graph_lines c.args.bytes.now) =
    ap (λ (g : LinkGraph). g.nodes) c.in-Ok-within.ensures.graph ∙ c.deref.ensures.value ∙ c.in-Ok.ensures.nodes in
    let links : c.in-Ok-within.graph.links ≡ links_said (graph_lines c.args.bytes.now) =
    ap (λ (g : LinkGraph). g.links) c.in-Ok-within.ensures.graph ∙ c.deref-2.ensures.value ∙ c.in-Ok.ensures.links in
    record {
      readable = c.in-Ok.ensures.readable;
      nodes = nodes;
      links = links;
      graph = c.in-Ok-within.ensures.is_graph;
      within = within_limit c.args.limit c.in-Ok-within.graph c.in-Ok-within.ensures.within;
    }

pub returns-in-Ok-within-clause-names : goal.returns-in-Ok-within-clause-names
returns-in-Ok-within-clause-names c =
    let told = c.in-Ok.parts.told.items in
    let nodes : c.in-Ok-within.graph.nodes ≡ nodes_said (graph_lines c.args.bytes.now) =
    ap (λ (g : LinkGraph). g.nodes) c.in-Ok-within.ensures.graph ∙ c.deref.ensures.value ∙ c.in-Ok.ensures.nodes in
    are_names (most_of c.args.limit) c.args.bytes.now c.in-Ok-within.graph (map (λ t. option_copied t) told) nodes
    c.in-Ok-within.ensures.within
    c.in-Ok.ensures.told

pub returns-in-Ok-within-clause-places : goal.returns-in-Ok-within-clause-places
returns-in-Ok-within-clause-places c =
    let told = c.in-Ok.parts.told.items in
    let nodes : c.in-Ok-within.graph.nodes ≡ nodes_said (graph_lines c.args.bytes.now) =
    ap (λ (g : LinkGraph). g.nodes) c.in-Ok-within.ensures.graph ∙ c.deref.ensures.value ∙ c.in-Ok.ensures.nodes in
    sym (length-map told (λ t. option_copied t))
    ∙ name_each (most_of c.args.limit) c.args.bytes.now c.in-Ok-within.graph (map (λ t. option_copied t) told) nodes
    c.in-Ok-within.ensures.within
    c.in-Ok.ensures.told
