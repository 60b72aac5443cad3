-- The group `costs` of a phase's columns: what its broadcasts cost.
use Rattle.std.specs.Prelude.{ℕ, List, [], ◌∷◌, codes, Option, Some, None}
use Rattle.ov_sweep_rows.specs.declared.cell.Cell.{Cell}
use Rattle.ov_sweep_rows.specs.declared.cell.Cell.TheVariants as cell
use Rattle.ov_sweep_rows.specs.declared.phase_costs.PhaseCosts.{PhaseCosts}
use Rattle.ov_sweep_rows.specs.declared.row_fault.FieldForm.{FieldForm}
use Rattle.ov_sweep_rows.specs.declared.row_fault.FieldForm.TheVariants as form
use Rattle.ov_sweep_rows.specs.Cells.{decimals_cell}

-- their names behind that of the phase, and what they take
abbrev pub cost_columns : List (List ℕ × FieldForm)
cost_columns =
    (codes "gossip", form.Number) ∷ (codes "ihave", form.Number) ∷ (codes "graft", form.Number)
    ∷ (codes "prune", form.Number) ∷ (codes "hops", form.DecimalsOrNothing)
    ∷ (codes "redundancy", form.DecimalsOrNothing) ∷ []

-- what stands in them; nothing if the costs are not known
abbrev pub cost_cells : Option PhaseCosts → List Cell
cost_cells None = cell.Empty ∷ cell.Empty ∷ cell.Empty ∷ cell.Empty ∷ cell.Empty ∷ cell.Empty ∷ []
cost_cells (Some c) =
    cell.Number c.gossip ∷ cell.Number c.ihave ∷ cell.Number c.graft ∷ cell.Number c.prune ∷ decimals_cell c.hops
    ∷ decimals_cell c.redundancy ∷ []
