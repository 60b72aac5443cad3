-- What is written of a row is what of it its form has columns for.
use Rattle.std.proofs.Common.{◌≡◌, ◌∙◌, ◌++◌, ◌∷◌, [], ◌&&◌, ℕ, zero, suc, Bool, true, false, if◌then◌else◌, List}
use Rattle.std.proofs.Common.{Option}
use Rattle.std.proofs.Common.{Some, None, length, map, refl, sym, ap, ap₂, arith}
use Rattle.std.specs.Prelude.{All, option_map, slice_get}
use Rattle.std.proofs.lemmas.List.{length-map}
use Rattle.std.proofs.lemmas.Option.{slice_get-map}
use Rattle.csv.specs.Writing.{default_writer, row_text}
use Rattle.ov_grow_options.specs.declared.options.GrowOptions.{GrowOptions}
use Rattle.ov_ids.specs.ParamsState.{AreWithinLimits, ParamsState}
use Rattle.ov_ids.specs.declared.world_scale.Scale.TheVariants.{Profile}
use Rattle.ov_sweep_rows.specs.declared.cell.Cell.{Cell}
use Rattle.ov_sweep_rows.specs.declared.cell.Cell.TheVariants as cell
use Rattle.ov_sweep_rows.specs.declared.row.PhaseRow.{PhaseRow}
use Rattle.ov_sweep_rows.specs.declared.row.Row.{Row}
use Rattle.ov_sweep_rows.specs.declared.row_form.RowForm.{RowForm}
use Rattle.ov_sweep_rows.specs.Cells.{cell_text, further_cells, phase_cells}
use Rattle.ov_sweep_rows.specs.RowCells.{cells, of_phase, of_phases}
use Rattle.ov_sweep_rows.specs.PhaseCosts.{cost_cells}
use Rattle.ov_sweep_rows.specs.Cells.{setting_cells}
use Rattle.ov_sweep_rows.specs.PhaseShape.{shape_cells}
use Rattle.ov_sweep_rows.specs.Columns.{forms, if_asked, table}
use Rattle.ov_sweep_rows.specs.Fields.{HasNoMore}
use Rattle.ov_sweep_rows.specs.Writing.{IsLineOf, options_in_form, phase_in_form, row_in_form}
use Rattle.ov_sweep_rows.specs.Code.Written.{AreReadBack}
use Rattle.ov_sweep_rows.proofs.CellByCell.{read_length}

-- a group of each phase, of phases that were changed
changed : (f : RowForm) (group : PhaseRow → List Cell) (ps : List PhaseRow)
    → ((p : PhaseRow) → group (phase_in_form f p) ≡ group p)
    → of_phases group (map (phase_in_form f) ps) ≡ of_phases group ps
changed f group ps same =
    ap₂ (λ (a : List Cell) (b : List Cell). a ++ b) (at 0)
    (ap₂ (λ (a : List Cell) (b : List Cell). a ++ b) (at 1) (at 2)) where
      one : (o : Option PhaseRow) → of_phase group (option_map (phase_in_form f) o) ≡ of_phase group o
      one None = refl
      one (Some p) = same p

      at : (k : ℕ) → of_phase group (slice_get (map (phase_in_form f) ps) k) ≡ of_phase group (slice_get ps k)
      at k = ap (of_phase group) (slice_get-map (phase_in_form f) ps k) ∙ one (slice_get ps k)

asked_same : (asked : Bool) (xs ys : List Cell) → (asked ≡ true → xs ≡ ys) → if_asked asked xs ≡ if_asked asked ys
asked_same true xs ys same = same refl
asked_same false xs ys same = refl

further_same : (f : RowForm) (o : GrowOptions) → f.further ≡ true → further_cells
    (options_in_form f o) ≡ further_cells o
further_same f o e = rw e refl

costs_same : (f : RowForm) (p : PhaseRow) → f.costs ≡ true → cost_cells (phase_in_form f p).costs ≡ cost_cells p.costs
costs_same f p e = rw e refl

shape_same : (f : RowForm) (p : PhaseRow) → f.shape ≡ true → shape_cells (phase_in_form f p).shape ≡ shape_cells p.shape
shape_same f p e = rw e refl

-- the cells are the same
pub cells_same : (f : RowForm) (row : Row) → cells f (row_in_form f row) ≡ cells f row
cells_same f row =
    let rest = ap₂ (λ (a : List Cell) (b : List Cell). a ++ b)
    (asked_same f.costs (of_phases (λ p. cost_cells p.costs) (map (phase_in_form f) row.phases))
    (of_phases (λ p. cost_cells p.costs) row.phases)
    (λ e. changed f (λ p. cost_cells p.costs) row.phases (λ p. costs_same f p e)))
    (asked_same f.shape (of_phases (λ p. shape_cells p.shape) (map (phase_in_form f) row.phases))
    (of_phases (λ p. shape_cells p.shape) row.phases)
    (λ e. changed f (λ p. shape_cells p.shape) row.phases (λ p. shape_same f p e))) in
    let more = ap₂ (λ (a : List Cell) (b : List Cell). a ++ b)
    (asked_same f.further (further_cells (options_in_form f row.options)) (further_cells row.options)
    (further_same f row.options)) rest in
    ap₂ (λ (a : List Cell) (b : List Cell). setting_cells row.options ++ (cell.Number row.options.seed ∷ (a ++ b)))
    (changed f phase_cells row.phases (λ p. refl)) more

-- nothing is left without a column
each_changed : (f : RowForm) (IsSo : PhaseRow → Type 0) (ps : List PhaseRow)
    → ((p : PhaseRow) → IsSo (phase_in_form f p)) → All IsSo (map (phase_in_form f) ps)
each_changed f IsSo [] so k d less = absurd (omega (arith, less))
each_changed f IsSo (p ∷ ps) so zero d less = so p
each_changed f IsSo (p ∷ ps) so (suc k) d less = each_changed f IsSo ps so k d (omega (arith, less))

flag_off : (a b : Bool) → a ≡ false → (a && b) ≡ false
flag_off true b e = cc e
flag_off false b e = refl

none_asked : {A : Type 0} (asked : Bool) (o : Option A) → asked ≡ false → (if asked then o else None) ≡ None
none_asked true o e = cc e
none_asked false o e = refl

pub nothing_more : (f : RowForm) (row : Row) → HasNoMore f (row_in_form f row)
nothing_more f row = record {
  alone = λ e. flag_off f.further row.options.sequential e;
  chosen = λ e. none_asked f.further row.options.sender e;
  learned = λ e. flag_off f.further row.options.detect e;
  unpriced = λ e. each_changed f (λ p. p.costs ≡ None) row.phases (λ p. none_asked f.costs p.costs e);
  shapeless = λ e. each_changed f (λ p. p.shape ≡ None) row.phases (λ p. none_asked f.shape p.shape e);
  unscaled = refl;
}

-- parameters are within their limits whatever the scale of the world is
in_any_world : (p : ParamsState) → AreWithinLimits p → AreWithinLimits (record p { scale = Profile })
in_any_world p within = record {
  active_low = within.active_low;
  active_high = within.active_high;
  passive_low = within.passive_low;
  passive_high = within.passive_high;
  arwl_high = within.arwl_high;
  prwl_high = within.prwl_high;
  ka_high = within.ka_high;
  kp_high = within.kp_high;
  shuffle_ttl_low = within.shuffle_ttl_low;
  shuffle_ttl_high = within.shuffle_ttl_high;
}

-- the fields of a row that was written say what of it its form has columns for
pub line_said : (f : RowForm) (row : Row) (text : List ℕ) (made : List Cell) → made ≡ cells f row
    → text ≡ row_text default_writer (map cell_text made) → AreReadBack (forms f) made → length row.phases ≡ 3
    → AreWithinLimits row.options.params → IsLineOf f (row_in_form f row) text
line_said f row text made is line back three within = record {
  fields = map cell_text made;
  say = record {
    whole =
        length-map made cell_text
        ∙ read_length (forms f) (map cell_text made) made back
        ∙ length-map (table f) (λ row. row.1)
        ∙ sym (length-map (table f) (λ row. row.0));
    said = back ∙ ap Some (is ∙ sym (cells_same f row));
    three = length-map row.phases (phase_in_form f) ∙ three;
    within = in_any_world row.options.params within;
    no_more = nothing_more f row;
  };
  line = line;
}
