-- The names of the lines so far, and those that the lines behind them say.
use Rattle.std.proofs.Common.{◌≡◌, length, map}
use Rattle.std.specs.Option.{option_copied}
use Rattle.ov_graphfile.proofs.Readings.{IsReading}
use Rattle.ov_graphfile.proofs.name_reading.read_names.Given as goal

abbrev pub invariant-loop-comment : goal.invariant-loop-comment
invariant-loop-comment l = record {
  size : length l.told.items ≡ length l.graph.nodes;
  reading : IsReading l.fn.bytes l.graph l.comment l.left (map (λ t. option_copied t) l.told.items);
}

abbrev pub decreases-loop-comment : goal.decreases-loop-comment
decreases-loop-comment l = length l.left
