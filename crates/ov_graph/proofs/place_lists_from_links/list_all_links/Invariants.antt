-- the links so far
use Rattle.std.proofs.Common.{take}
use Rattle.ov_graph.specs.Code.Listed.{AreListed}
use Rattle.ov_graph.proofs.place_lists_from_links.list_all_links.Given as goal

abbrev pub invariant-loop-link : goal.invariant-loop-link
invariant-loop-link l = AreListed l.nodes (take l.link-index l.links) l.lists
