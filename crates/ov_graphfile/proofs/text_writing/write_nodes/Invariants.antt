-- with the lines of the nodes that are left, the text is whole; if the nodes that are left are ids, all are
use Rattle.std.proofs.Common.{◌≡◌, ◌++◌, drop}
use Rattle.std.specs.List.{flat_map}
use Rattle.ov_graphfile.specs.GraphTexts.{node_line}
use Rattle.ov_graphfile.specs.Code.Ids.{AreIds}
use Rattle.ov_graphfile.proofs.text_writing.write_nodes.Given as goal

abbrev pub invariant-loop-node : goal.invariant-loop-node
invariant-loop-node l = record {
  items : l.text.items ++ flat_map node_line (drop l.node-index l.nodes)
      ≡ l.fn.text.items ++ flat_map node_line l.nodes;
  ids : AreIds (drop l.node-index l.nodes) → AreIds l.nodes;
}
