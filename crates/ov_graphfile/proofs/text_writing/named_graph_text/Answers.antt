-- The text says the graph.
use Rattle.std.proofs.Common.{◌≡◌, map, rules, string_bytes, subst, sym}
use Rattle.ov_graphfile.specs.GraphFiles.{IsGraphFile}
use Rattle.ov_graphfile.specs.GraphTexts.{named_graph_text}
use Rattle.ov_graphfile.specs.Code.Ids.{AreIds}
use Rattle.ov_graphfile.proofs.Naming.{named_text_says}
use Rattle.ov_graphfile.proofs.text_writing.named_graph_text.Goals as goal

pub returns-clause-says : goal.returns-clause-says
returns-clause-says c =
    let g = c.args.graph.now in
    let names = map (λ name. string_bytes name) c.args.names.now in
    let text : c.write_links.new.text.items ≡ named_graph_text g names = search rules in
    let ids : AreIds g.nodes = subst AreIds c.nodes.ensures.nodes c.in_ok-write_named_nodes.ensures.ids in
    subst (λ t. IsGraphFile t g) (sym text)
    (named_text_says g c.args.names.now c.nodes.ensures.graph c.nodes.ensures.within ids c.requires.each
    c.requires.lines)
