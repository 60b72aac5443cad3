use Rattle.std.proofs.Common.{◌≡◌, ℕ, List, ◌∷◌, true, drop, length}
use Rattle.ov_split.specs.Code.Residual.{IsTidy}
use Rattle.ov_split.specs.Places.{net_by_place}
use Rattle.ov_flow.specs.Code.Walked.{table_of}
use Rattle.ov_flow.proofs.Walking.{IsGoing}
use Rattle.ov_flow.proofs.walk_augmentation.take_hops.Given as goal

abbrev pub invariant-loop-hop : goal.invariant-loop-hop
invariant-loop-hop g l = record {
  long : length l.from ≡ length l.net.graph.nodes;
  tidy : l.apart ≡ true → (ends : List ℕ) → IsTidy (table_of l.fn.from) ends
      → IsTidy (table_of l.from) (l.at ∷ ends);
  going : IsGoing (net_by_place l.net) (table_of l.fn.from) (table_of l.from) l.at (drop l.hop-index l.hops) l.target;
}
