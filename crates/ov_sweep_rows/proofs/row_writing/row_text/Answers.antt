use Rattle.std.proofs.Common.{◌∙◌, ap, map}
use Rattle.csv.specs.Writing.{default_writer, row_text}
use Rattle.ov_sweep_rows.specs.Cells.{cell_text}
use Rattle.ov_sweep_rows.proofs.InForm.{line_said}
use Rattle.ov_sweep_rows.proofs.Unrefused.{ok_leads}
use Rattle.ov_sweep_rows.proofs.row_writing.row_text.Goals as goal

pub returns-clause-text : goal.returns-clause-text
returns-clause-text c =
    ok_leads c.text_of_cells.result _ _
    (λ text is. is
    ∙ ap (λ l. row_text default_writer (map cell_text l)) (c.deref.ensures.value ∙ c.in_ok-cells.ensures.cells))
    c.text_of_cells.ensures

pub returns-clause-back : goal.returns-clause-back
returns-clause-back c =
    ok_leads c.text_of_cells.result _ _
    (λ text is has. line_said c.args.form c.args.row.now text.items c.in_ok-cells.cells.items
    c.in_ok-cells.ensures.cells
    (is ∙ ap (λ l. row_text default_writer (map cell_text l)) c.deref.ensures.value)
    (c.in_ok-cells.ensures.back has) has.three c.in_ok-cells.ensures.within)
    c.text_of_cells.ensures
