use Rattle.std.proofs.Common.{◌≡◌, ◌++◌, [], length, map}
use Rattle.ov_graph.specs.Paths.{node_at}
use Rattle.ov_flow.specs.Flow.{ArePlaces, ended_by}
use Rattle.ov_flow.specs.Code.Flat.{paths_after}
use Rattle.ov_flow.proofs.flat_paths.PlacePaths.by_ids.Given as goal

abbrev pub invariant-loop-path : goal.invariant-loop-path
invariant-loop-path l = record {
  places : ArePlaces l.graph (paths_after l.source [] l.left);
  begun : l.paths.begun ≡ [];
  paths : l.paths.paths ++ map (λ path. ended_by l.last (map (node_at l.graph) path)) (paths_after l.source [] l.left)
      ≡ map (λ path. ended_by l.last (map (node_at l.graph) path)) l.fn.self;
}

abbrev pub decreases-loop-path : goal.decreases-loop-path
decreases-loop-path l = length l.left
