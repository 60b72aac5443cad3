-- what is left decides
use Rattle.std.proofs.Common.{ℕ, List, length}
use Rattle.ov_ids.specs.Members.{Ascends}
use Rattle.ov_graph.specs.Code.Listed.{AreFrom}
use Rattle.ov_graph.proofs.place_list.from_one_by_one.Given as goal

abbrev pub invariant-loop-first : goal.invariant-loop-first
invariant-loop-first l = record {
  ascend : Ascends l.left;
  left : (kept : List ℕ) → AreFrom l.left l.after kept → AreFrom l.places l.after kept;
}

abbrev pub decreases-loop-first : goal.decreases-loop-first
decreases-loop-first l = length l.left
