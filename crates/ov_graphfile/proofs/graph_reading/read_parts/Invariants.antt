-- what was taken in and what the lines that are left say are what all lines say
use Rattle.std.proofs.Common.{◌≡◌, ◌<◌, ◌+◌, ◌^◌, length, map}
use Rattle.std.specs.Option.{option_copied}
use Rattle.std.specs.Str.Lines.{lines}
use Rattle.ov_graph.specs.Links.{most_of}
use Rattle.ov_lines.specs.Lines.{kept_from}
use Rattle.ov_graphfile.proofs.GraphFiles.Gathering.{Gathers}
use Rattle.ov_graphfile.proofs.GraphFiles.LineByLine.{AreTold}
use Rattle.ov_graphfile.proofs.graph_reading.read_parts.Given as goal

abbrev pub invariant-loop-before : goal.invariant-loop-before
invariant-loop-before l = record {
  parts : Gathers l.fn.bytes l.parts.nodes.items l.parts.links.items (kept_from (l.count + 1) (lines l.left));
  told : AreTold l.most l.fn.bytes (map (λ t. option_copied t) l.parts.told.items) l.before l.left;
  most : l.most ≡ most_of l.fn.limit;
  room : l.count + length l.left < 2 ^ 64;
}

abbrev pub decreases-loop-before : goal.decreases-loop-before
decreases-loop-before l = length l.left
