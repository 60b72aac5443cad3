use Rattle.ov_graph.proofs.BitRows.Bits.{no_bits}
use Rattle.ov_flow.proofs.search_tree.no_places.Goals as goal

pub returns : goal.returns
returns g c p h = no_bits g.row.W p h
