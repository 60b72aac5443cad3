use Rattle.std.proofs.Common.{◌∙◌, ◌++◌, ◌∷◌, [], List, ap, ap₂, subst}
use Rattle.std.specs.Prelude.{IsSome}
use Rattle.ov_sweep_rows.specs.declared.cell.Cell.{Cell}
use Rattle.ov_sweep_rows.specs.declared.cell.Cell.TheVariants as cell
use Rattle.ov_sweep_rows.specs.declared.row.PhaseRow.{PhaseRow}
use Rattle.ov_sweep_rows.specs.Cells.{phase_cells, setting_cells}
use Rattle.ov_sweep_rows.specs.Columns.{if_asked}
use Rattle.ov_sweep_rows.specs.Code.Written.{AreReadBack, cost_forms, further_forms, phase_forms, setting_forms}
use Rattle.ov_sweep_rows.specs.Code.Written.{shape_forms}
use Rattle.ov_sweep_rows.proofs.Gathering.{all_back, appended_thrice, each_phase, gathered, known, options_back}
use Rattle.ov_sweep_rows.proofs.Taking.{on_ok}
use Rattle.ov_sweep_rows.proofs.row_writing.push_cells.Goals as goal

pub returns-clause-cells : goal.returns-clause-cells
returns-clause-cells c =
    on_ok c.push_thrice-2.result _ _
    (λ pushed empty.
    let f = c.args.form in
    let row = c.args.row.now in
    let a = c.after-settle.result.now in
    let b = c.after-crash.result.now in
    let d = c.after-heal.result.now in
    let options = setting_cells row.options ++ (cell.Number row.options.seed ∷ []) in
    let g1 = c.extend_from_slice-2.new.self.items in
    let g2 = c.extend_from_slice-3.new.self.items in
    let g3 = c.extend_from_slice-4.new.self.items in
    let start = c.in_ok-extend_from_slice.ensures.items
    ∙ ap₂ (λ (x : List Cell) (y : List Cell). x ++ y) empty c.setting_cells.ensures.cells in
    let seeded = c.in_ok-push.ensures.items
    ∙ ap₂ (λ (x : List Cell) (one : Cell). x ++ (one ∷ [])) start c.seed_cell.ensures.cell in
    let first = c.in_ok-extend_from_slice-2.ensures.items
    ∙ ap₂ (λ (x : List Cell) (y : List Cell). x ++ y) seeded c.phase_cells.ensures.cells in
    let second = c.in_ok-extend_from_slice-3.ensures.items
    ∙ ap (λ (x : List Cell). g1 ++ x) c.phase_cells-2.ensures.cells in
    let third = c.in_ok-extend_from_slice-4.ensures.items
    ∙ ap (λ (x : List Cell). g2 ++ x) c.phase_cells-3.ensures.cells in
    let further = c.in_ok-push_asked.ensures
    ∙ ap (λ (x : List Cell). g3 ++ if_asked f.further x) c.further_cells.ensures.cells in
    let priced = ap₂ (λ (x : List Cell) (y : List Cell). x ++ y) c.cost_cells.ensures.cells
    (ap₂ (λ (x : List Cell) (y : List Cell). x ++ y) c.cost_cells-2.ensures.cells c.cost_cells-3.ensures.cells) in
    let shaped = ap₂ (λ (x : List Cell) (y : List Cell). x ++ y) c.shape_cells.ensures.cells
    (ap₂ (λ (x : List Cell) (y : List Cell). x ++ y) c.shape_cells-2.ensures.cells c.shape_cells-3.ensures.cells) in
    let costs = c.in_ok-push_thrice.ensures
    ∙ ap₂ (λ (x : List Cell) (y : List Cell). x ++ if_asked f.costs y) further priced in
    let shapes = pushed
    ∙ ap₂ (λ (x : List Cell) (y : List Cell). x ++ if_asked f.shape y) costs shaped in
    gathered f row a b d g3 c.push_thrice-2.new.cells.items c.after-settle.ensures c.after-crash.ensures
    c.after-heal.ensures
    (appended_thrice options g1 g2 g3 (phase_cells a) (phase_cells b) (phase_cells d) first second third) shapes)
    c.push_thrice-2.ensures

pub returns-clause-back : goal.returns-clause-back
returns-clause-back c =
    on_ok c.push_thrice-2.result _ _
    (λ pushed has.
    let f = c.args.form in
    let row = c.args.row.now in
    let a = c.after-settle.result.now in
    let b = c.after-crash.result.now in
    let d = c.after-heal.result.now in
    let settings = subst (AreReadBack setting_forms) c.setting_cells.ensures.cells c.setting_cells.ensures.back in
    let settle = subst (AreReadBack phase_forms) c.phase_cells.ensures.cells c.phase_cells.ensures.back in
    let crash = subst (AreReadBack phase_forms) c.phase_cells-2.ensures.cells c.phase_cells-2.ensures.back in
    let heal = subst (AreReadBack phase_forms) c.phase_cells-3.ensures.cells c.phase_cells-3.ensures.back in
    let further = subst (AreReadBack further_forms) c.further_cells.ensures.cells
    (c.further_cells.ensures.back has.sent) in
    all_back f row a b d c.after-settle.ensures c.after-crash.ensures c.after-heal.ensures
    (options_back row.options c.seed_cell.result c.seed_cell.ensures.cell c.seed_cell.ensures.back settings) settle
    crash heal (λ t. further)
    (λ t. (
      subst (AreReadBack cost_forms) c.cost_cells.ensures.cells
          (known a.costs _ (each_phase (λ (x : PhaseRow). IsSome x.costs) row.phases 0 a
          (has.priced t) c.after-settle.ensures) c.cost_cells.ensures.back),
      subst (AreReadBack cost_forms) c.cost_cells-2.ensures.cells
          (known b.costs _ (each_phase (λ (x : PhaseRow). IsSome x.costs) row.phases 1 b
          (has.priced t) c.after-crash.ensures) c.cost_cells-2.ensures.back),
      subst (AreReadBack cost_forms) c.cost_cells-3.ensures.cells
          (known d.costs _ (each_phase (λ (x : PhaseRow). IsSome x.costs) row.phases 2 d
          (has.priced t) c.after-heal.ensures) c.cost_cells-3.ensures.back),
    ))
    (λ t. (
      subst (AreReadBack shape_forms) c.shape_cells.ensures.cells
          (known a.shape _ (each_phase (λ (x : PhaseRow). IsSome x.shape) row.phases 0 a
          (has.shaped t) c.after-settle.ensures) c.shape_cells.ensures.back),
      subst (AreReadBack shape_forms) c.shape_cells-2.ensures.cells
          (known b.shape _ (each_phase (λ (x : PhaseRow). IsSome x.shape) row.phases 1 b
          (has.shaped t) c.after-crash.ensures) c.shape_cells-2.ensures.back),
      subst (AreReadBack shape_forms) c.shape_cells-3.ensures.cells
          (known d.shape _ (each_phase (λ (x : PhaseRow). IsSome x.shape) row.phases 2 d
          (has.shaped t) c.after-heal.ensures) c.shape_cells-3.ensures.back),
    )))
    c.push_thrice-2.ensures
