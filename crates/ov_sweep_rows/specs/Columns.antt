-- The columns of rows: their names, and what each takes.
use Rattle.std.specs.Prelude.{ℕ, List, [], ◌∷◌, ◌++◌, Bool, codes, map, slice_get, Option, Some, None}
use Rattle.std.specs.Prelude.{if◌then◌else◌}
use Rattle.ov_sweep_rows.specs.declared.column_name.ColumnName.{ColumnName}
use Rattle.ov_sweep_rows.specs.declared.row.Phase.{Phase}
use Rattle.ov_sweep_rows.specs.declared.row.Phase.TheVariants.{Settle, Crash, Heal}
use Rattle.ov_sweep_rows.specs.declared.row_fault.FieldForm.{FieldForm}
use Rattle.ov_sweep_rows.specs.declared.row_fault.FieldForm.TheVariants as form
use Rattle.ov_sweep_rows.specs.declared.row_form.RowForm.{RowForm}
use Rattle.ov_sweep_rows.specs.PhaseCosts.{cost_columns}
use Rattle.ov_sweep_rows.specs.PhaseShape.{shape_columns}
use Rattle.ov_sweep_rows.specs.Rows.{phase_name}

-- the columns of the options of a run but the further ones, with their names and what they take; the last is its seed
abbrev pub option_columns : List (List ℕ × FieldForm)
option_columns =
    (codes "nodes", form.Nodes) ∷ (codes "active", form.Number) ∷ (codes "passive", form.Number)
    ∷ (codes "arwl", form.Number) ∷ (codes "prwl", form.Number) ∷ (codes "ka", form.Number) ∷ (codes "kp", form.Number)
    ∷ (codes "ttl", form.Params) ∷ (codes "refill", form.Refill) ∷ (codes "loss_join", form.Chance)
    ∷ (codes "loss", form.Chance) ∷ (codes "repeat", form.Share) ∷ (codes "order", form.Order)
    ∷ (codes "pace", form.Pace) ∷ (codes "rounds", form.Count) ∷ (codes "crash", form.Crash)
    ∷ (codes "heal", form.Count) ∷ (codes "broadcasts", form.Count) ∷ (codes "seed", form.Seed) ∷ []

-- the columns of what a run came to after a phase, by their names behind that of the phase
abbrev pub phase_columns : List (List ℕ × FieldForm)
phase_columns =
    (codes "nodes", form.Number) ∷ (codes "k", form.Number) ∷ (codes "least_degree", form.Number)
    ∷ (codes "links", form.Number) ∷ (codes "entries", form.Number) ∷ (codes "delivered", form.DecimalsOrNothing) ∷ []

-- the columns of the further options
abbrev pub further_columns : List (List ℕ × FieldForm)
further_columns = (codes "sequential", form.Flag) ∷ (codes "sender", form.Sender) ∷ (codes "detect", form.Flag) ∷ []

-- a name behind that of its phase, if it is of one
abbrev pub name_in : Option Phase → List ℕ → List ℕ
name_in None name = name
name_in (Some p) name = phase_name p ++ (codes "_" ++ name)

-- the name of a column
abbrev pub column_name : ColumnName → List ℕ
column_name column = name_in column.phase column.name.now

-- the columns of a group for a phase
abbrev pub in_phase : Phase → List (List ℕ × FieldForm) → List (List ℕ × FieldForm)
in_phase p group = map (λ column. (name_in (Some p) column.0, column.1)) group

-- the columns of a group for each phase, one phase after the other
abbrev pub in_each_phase : List (List ℕ × FieldForm) → List (List ℕ × FieldForm)
in_each_phase group = in_phase Settle group ++ (in_phase Crash group ++ in_phase Heal group)

-- a list, if that is asked for
abbrev pub if_asked : {A : Type 0} → Bool → List A → List A
if_asked asked items = if asked then items else []

-- the columns of rows of this form, in their order
abbrev pub table : RowForm → List (List ℕ × FieldForm)
table rows_have =
    option_columns
    ++ (in_each_phase phase_columns
    ++ (if_asked rows_have.further further_columns
    ++ (if_asked rows_have.costs (in_each_phase cost_columns)
    ++ if_asked rows_have.shape (in_each_phase shape_columns))))

-- their names, of which a header is made
abbrev pub columns : RowForm → List (List ℕ)
columns rows_have = map (λ column. column.0) (table rows_have)

-- what they take
abbrev pub forms : RowForm → List FieldForm
forms rows_have = map (λ column. column.1) (table rows_have)

-- what the column at a place takes, counted from 0; there is none behind the last
abbrev pub form_at : RowForm → ℕ → Option FieldForm
form_at rows_have place = slice_get (forms rows_have) place
