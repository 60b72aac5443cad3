-- what is left decides
use Rattle.std.proofs.Common.{◌≡◌, None, drop}
use Rattle.ov_graph.specs.Code.Tests.{links_fault}
use Rattle.ov_graph.proofs.graph_judging.first_link_fault.Given as goal

abbrev pub invariant-loop-at : goal.invariant-loop-at
invariant-loop-at l = links_fault l.nodes 0 None l.links ≡ links_fault l.nodes l.at l.last (drop l.at l.links)
