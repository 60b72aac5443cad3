-- what is left decides
use Rattle.std.proofs.Common.{drop}
use Rattle.ov_graph.specs.Links.{LinkGraph, IsGraph, IsSmall}
use Rattle.ov_net.specs.Code.LinkChanges.{AreChanged, HasAllLive}
use Rattle.ov_net.proofs.live_graph_updating.change_graph.Given as goal

abbrev pub invariant-loop-change : goal.invariant-loop-change
invariant-loop-change l = record {
  graph : IsGraph l.graph;
  small : IsSmall l.graph;
  live : HasAllLive l.nodes l.graph;
  left : (h : LinkGraph) → AreChanged l.nodes (drop l.change-index l.changes) l.graph h
      → AreChanged l.nodes l.changes l.fn.graph h;
}
