use Rattle.std.proofs.Common.{◌≡◌, ◌∙◌, List, ap, subst, ℕ}
use Rattle.std.specs.Prelude.{IfOk}
use Rattle.csv.specs.Writing.{default_writer, row_text}
use Rattle.ov_sweep_rows.proofs.CellByCell.{names_by_table}
use Rattle.ov_sweep_rows.proofs.Named.{names_of}
use Rattle.ov_sweep_rows.proofs.row_writing.header_text.Goals as goal

pub returns : goal.returns
returns c =
    let named = c.in_ok-names.ensures ∙ ap names_of c.deref.ensures.value
    ∙ names_by_table _ _ c.in_ok-columns.ensures in
    subst (λ (fs : List (List ℕ)). IfOk c.text_of.result (λ text. text.items ≡ row_text default_writer fs)) named
    c.text_of.ensures
