-- The nodes so far are found by their names.
use Rattle.std.specs.BTreeMap.{get_by}
use Rattle.std.specs.Cmp.Lexicographic.{slice_cmp}
use Rattle.std.specs.Ordering.{nat_cmp}
use Rattle.ov_graphfile.specs.Code.Bearers.{AreBearers}
use Rattle.ov_graphfile.proofs.nodes_by_name.NodesByName.new.Given as goal

abbrev pub invariant-loop-place : goal.invariant-loop-place
invariant-loop-place l =
    AreBearers l.names.told l.place (λ name. get_by (λ k. slice_cmp nat_cmp name k.now) l.nodes.bearers)
