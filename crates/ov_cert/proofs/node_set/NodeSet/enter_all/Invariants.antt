-- the result for all ids is the result for the ids still left
use Rattle.std.proofs.Common.{◌≡◌, drop}
use Rattle.ov_cert.specs.Code.Tests.{entered}
use Rattle.ov_cert.specs.Code.Flaws.{first_taken}
use Rattle.ov_cert.proofs.node_set.NodeSet.enter_all.Given as goal

abbrev pub invariant-loop-id : goal.invariant-loop-id
invariant-loop-id g l = record {
  graph : l.self.graph ≡ l.fn.self.graph;
  taken : first_taken l.fn.self.graph l.self.members (drop l.id-index l.ids) ≡ first_taken l.fn.self.graph
      l.fn.self.members l.ids;
  entered : entered l.self.members (drop l.id-index l.ids) ≡ entered l.fn.self.members l.ids;
}
