-- the keys of neighbours so far
use Rattle.std.proofs.Common.{◌≤◌, ◌-◌, length}
use Rattle.ov_scatter.specs.Code.Keys.{AreSomeAbove}
use Rattle.ov_scatter.proofs.links_in_copy.gather_keys_above.Given as goal

abbrev pub invariant-loop-other : goal.invariant-loop-other
invariant-loop-other l = record {
  within : l.from ≤ length l.graph.nodes;
  found : AreSomeAbove l.graph l.keys l.place l.from l.above.items;
}

abbrev pub decreases-loop-other : goal.decreases-loop-other
decreases-loop-other l = length l.graph.nodes - l.from
