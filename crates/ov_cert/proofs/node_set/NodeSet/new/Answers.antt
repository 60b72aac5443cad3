-- No bit is set.
use Rattle.std.proofs.Common.{List, ℕ, ap}
use Rattle.ov_cert.specs.Code.Kept.{NodeSetState}
use Rattle.ov_cert.proofs.PathRules.NodeSets.{picked_empty}
use Rattle.ov_cert.proofs.node_set.NodeSet.new.Goals as goal

pub returns : goal.returns
returns g c =
    let of : List ℕ → NodeSetState = λ ms. record { graph = c.args.graph.now; members = ms } in
    ap of (picked_empty g.row.W c.args.graph.now.nodes)
