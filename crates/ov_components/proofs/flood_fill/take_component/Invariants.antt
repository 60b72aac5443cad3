-- What was reached so far is joined to the start. The measure counts the places whose links were not followed yet.
use Rattle.std.proofs.Common.{ℕ, List, length}
use Rattle.ov_graph.specs.Row.{picked}
use Rattle.ov_components.specs.Code.Rows.{IsWhole}
use Rattle.ov_components.proofs.Grown.{AreRows, IsGrown}
use Rattle.ov_components.proofs.flood_fill.take_component.Given as goal

abbrev pub invariant-loop-place : goal.invariant-loop-place
invariant-loop-place g l = record {
  rows : AreRows l.graph l.fn.left l.start l.left l.unseen;
  grown : (s : List ℕ) → IsWhole l.graph s l.fn.left → IsGrown l.graph s l.fn.left l.start l.left l.unseen;
}

abbrev pub decreases-loop-place : goal.decreases-loop-place
decreases-loop-place g l = length (picked l.left 0 l.graph.nodes)
