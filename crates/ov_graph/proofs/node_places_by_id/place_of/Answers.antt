use Rattle.ov_graph.proofs.BitRows.Halving.{not_found}
use Rattle.ov_graph.proofs.node_places_by_id.place_of.Goals as goal

pub returns-clause-none : goal.returns-clause-none
returns-clause-none c = not_found c.args.nodes.now c.args.a c.binary_search.result c.ok.result c.requires
    c.binary_search.ensures.position c.ok.ensures.value
