use Rattle.std.proofs.Common.{◌≡◌, ℕ, Option, Some, sym, subst}
use Rattle.std.specs.Prelude.{IfSome}
use Rattle.ov_articulations.specs.Articulations.{HasArticulations}
use Rattle.ov_graph.specs.Components.{HasLargest}
use Rattle.ov_shape.specs.Clustering.{IsClustering}
use Rattle.ov_shape.specs.Degrees.{IsQuartile}
use Rattle.ov_shape.specs.ShortestPaths.{HasDiameter, HasMeanPath}
use Rattle.ov_shape.specs.declared.graph_shape.Shape.{Shape}
use Rattle.ov_sweep.proofs.phase_shape.phase_shape.Goals as goal

-- what holds of a shape if there is one holds of the one that is there
of_it : (P : Shape → Type 0) (measured : Option Shape) (shape : Shape) → measured ≡ Some shape → IfSome measured P
    → P shape
of_it P measured shape is holds = subst (λ o. IfSome o P) is holds

pub returns : goal.returns
returns c =
    let g = c.args.graph.now in
    let there = c.in_ok-measured.ensures in
    let is = c.in-Some.is in
    record {
      largest = subst (λ (n : ℕ). HasLargest g n) (sym c.in_ok-as_number.ensures)
          (of_it (λ s. HasLargest g s.largest) _ _ is there.largest);
      clustering = subst (λ (n : ℕ). IsClustering g n) (sym c.as_decimals.ensures)
          (of_it (λ s. IsClustering g s.clustering) _ _ is there.clustering);
      path = subst (λ (n : Option ℕ). HasMeanPath g n) (sym c.as_decimals_if.ensures)
          (of_it (λ s. HasMeanPath g s.path) _ _ is there.path);
      diameter = subst (λ (n : ℕ). HasDiameter g n) (sym c.in_ok-as_number-2.ensures)
          (of_it (λ s. HasDiameter g s.diameter) _ _ is there.diameter);
      degree_25 = subst (λ (n : ℕ). IsQuartile g 1 n) (sym c.in_ok-as_number-3.ensures)
          (of_it (λ s. IsQuartile g 1 s.degree_25) _ _ is there.degree_25);
      degree_50 = subst (λ (n : ℕ). IsQuartile g 2 n) (sym c.in_ok-as_number-4.ensures)
          (of_it (λ s. IsQuartile g 2 s.degree_50) _ _ is there.degree_50);
      degree_75 = subst (λ (n : ℕ). IsQuartile g 3 n) (sym c.in_ok-as_number-5.ensures)
          (of_it (λ s. IsQuartile g 3 s.degree_75) _ _ is there.degree_75);
      articulations = subst (λ (n : ℕ). HasArticulations g n) (sym c.in_ok-as_number-6.ensures)
          c.in_ok-articulation_points.ensures;
    }
