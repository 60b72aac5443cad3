-- the bits of the links so far
use Rattle.std.proofs.Common.{take}
use Rattle.ov_graph.specs.Code.Kept.{IsMarked}
use Rattle.ov_graph.proofs.bit_rows_from_links.mark_all.Given as goal

abbrev pub invariant-loop-link : goal.invariant-loop-link
invariant-loop-link l = IsMarked l.nodes (take l.link-index l.links) l.rows
