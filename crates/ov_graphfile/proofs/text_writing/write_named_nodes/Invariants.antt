-- with the lines of the nodes that are left, the text is whole; as many names are left as nodes; if the nodes that are
-- left are ids, all are
use Rattle.std.proofs.Common.{◌≡◌, ◌++◌, length, map, string_bytes}
use Rattle.std.specs.List.{flat_map, zip}
use Rattle.ov_graphfile.specs.GraphTexts.{named_node_line}
use Rattle.ov_graphfile.specs.Code.Ids.{AreIds}
use Rattle.ov_graphfile.proofs.text_writing.write_named_nodes.Given as goal

abbrev pub invariant-loop-node : goal.invariant-loop-node
invariant-loop-node l =
    let nodes = l.node-iterator.a.rest.now in
    let names = l.node-iterator.b.rest.now in
    record {
      items : l.text.items ++ flat_map named_node_line (zip nodes (map (λ name. string_bytes name) names))
          ≡ l.fn.text.items ++ flat_map named_node_line (zip l.nodes (map (λ name. string_bytes name) l.names));
      each : length names ≡ length nodes;
      ids : AreIds nodes → AreIds l.nodes;
    }
