-- what is left, behind what was put, is the whole list; if what is left is short, the whole is. More ids may follow
use Rattle.std.proofs.Common.{◌≡◌, ◌≤◌, ◌<◌, ◌*◌, ◌++◌, ℕ, List, false, length}
use Rattle.ov_ids.specs.Members.{Has}
use Rattle.ov_certfile.specs.DataOf.{whole_data}
use Rattle.ov_certwriter.specs.Code.Blocks.{Puts, items_after}
use Rattle.ov_certwriter.specs.Code.Placed.{ids_back}
use Rattle.ov_certwriter.proofs.path_texts.put_path.Given as goal

abbrev pub invariant-loop-place : goal.invariant-loop-place
invariant-loop-place l = record {
  below : (p : ℕ) → Has l.left p → p < length l.nodes;
  text : (done : List ℕ)
      × Puts done l.initial.out l.initial.end l.out l.end
      × ((more : List ℕ) → done ++ items_after whole_data l.later (ids_back l.nodes l.left ++ more)
      ≡ items_after whole_data false (ids_back l.nodes l.path ++ more));
  short : (more : List ℕ) → length (items_after whole_data l.later (ids_back l.nodes l.left ++ more))
      ≤ 11 * length (ids_back l.nodes l.left ++ more)
      → length (items_after whole_data false (ids_back l.nodes l.path ++ more))
      ≤ 11 * length (ids_back l.nodes l.path ++ more);
}

abbrev pub decreases-loop-place : goal.decreases-loop-place
decreases-loop-place l = length l.left
