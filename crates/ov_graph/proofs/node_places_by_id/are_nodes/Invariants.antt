-- what is left decides
use Rattle.std.proofs.Common.{◌≡◌, drop}
use Rattle.std.specs.List.{list_all}
use Rattle.ov_ids.specs.Sets.{has}
use Rattle.ov_graph.proofs.node_places_by_id.are_nodes.Given as goal

abbrev pub invariant-loop-id : goal.invariant-loop-id
invariant-loop-id l = list_all (has l.nodes) l.ids ≡ list_all (has l.nodes) (drop l.id-index l.ids)
