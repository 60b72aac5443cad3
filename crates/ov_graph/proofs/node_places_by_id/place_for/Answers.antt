use Rattle.ov_graph.proofs.BitRows.Halving.{halved}
use Rattle.ov_graph.proofs.node_places_by_id.place_for.Goals as goal

pub returns-in-Ok : goal.returns-in-Ok
returns-in-Ok c =
    rw c.in-Ok.is at
    (halved c.args.nodes.now c.args.a c.binary_search.result c.requires c.binary_search.ensures.position)

pub returns-in-Err : goal.returns-in-Err
returns-in-Err c =
    rw c.in-Err.is at
    (halved c.args.nodes.now c.args.a c.binary_search.result c.requires c.binary_search.ensures.position)
