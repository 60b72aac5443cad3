-- what was found so far, with what is left, decides
use Rattle.std.proofs.Common.{◌≡◌, drop}
use Rattle.std.specs.Prelude.{◌&&◌, is_some}
use Rattle.std.specs.List.{list_all}
use Rattle.ov_sweep_rows.specs.Writing.{has_costs, has_shape}
use Rattle.ov_sweep_rows.proofs.row.Row.measured.Given as goal

abbrev pub invariant-loop-phase : goal.invariant-loop-phase
invariant-loop-phase l = record {
  costs : (l.costs && list_all (λ p. is_some p.costs) (drop l.phase-index l.self.phases)) ≡ has_costs l.self;
  shape : (l.shape && list_all (λ p. is_some p.shape) (drop l.phase-index l.self.phases)) ≡ has_shape l.self;
}
