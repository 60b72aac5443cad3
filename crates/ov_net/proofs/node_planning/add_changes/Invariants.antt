use Rattle.std.proofs.Common.{◌≡◌, ◌++◌, map, take}
use Rattle.ov_net.specs.NetStep.{change_at}
use Rattle.ov_net.proofs.node_planning.add_changes.Given as goal

abbrev pub invariant-loop-change : goal.invariant-loop-change
invariant-loop-change l =
    l.changes.items ≡ l.fn.changes.items ++ map (change_at l.node) (take l.change-index l.view_changes)
