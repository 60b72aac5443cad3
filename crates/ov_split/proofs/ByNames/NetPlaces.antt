-- The nodes of a net by place.
use Rattle.std.proofs.Common.{◌≤◌, length}
use Rattle.ov_graph.specs.Links.{most_of_any_graph}
use Rattle.ov_split.specs.SplitNetState.{SplitNetState, IsSplitNet}
use Rattle.ov_split.specs.Places.{net_by_place}
use Rattle.ov_split.specs.Placed.{IsPlaced}
use Rattle.ov_split.proofs.ByNames.ByPlace.{net_placed, placed_node, placed_count}

-- its nodes are the places
pub places_of : (n : SplitNetState) → IsSplitNet n → length n.graph.nodes ≤ most_of_any_graph
    → IsPlaced (net_by_place n) (length n.graph.nodes)
places_of n net few =
    record { net = net_placed n net; few = few; count = placed_count n net; nodes = placed_node n net }
