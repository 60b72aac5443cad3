-- The header goes to the writer, and then the lines.
use Rattle.std.proofs.Common.{◌∙◌}
use Rattle.ov_grow_commands.proofs.File.{all_went, header_begun, lines_begun}
use Rattle.ov_grow_commands.proofs.row_printing.write_file.Goals as goal

pub returns-clause-file : goal.returns-clause-file
returns-clause-file g c =
    all_went c.args.rows.now c.of_rows-form.result c.deref.result.now _ _ _ c.write_rows.result c.of_rows-form.ensures
    (c.deref.ensures.value ∙ c.in_ok-header.ensures) c.in_ok-write_all.ensures.bytes c.write_rows.ensures.lines

pub returns-clause-prefix : goal.returns-clause-prefix
returns-clause-prefix g c =
    lines_begun c.args.rows.now c.of_rows-form.result c.deref.result.now _ _ _ c.of_rows-form.ensures
    (c.deref.ensures.value ∙ c.in_ok-header.ensures) c.in_ok-write_all.ensures.bytes c.write_rows.ensures.prefix

pub returns-in_err-write_all-clause-prefix : goal.returns-in_err-write_all-clause-prefix
returns-in_err-write_all-clause-prefix g c =
    header_begun c.args.rows.now c.of_rows-form.result c.deref.result.now _ _ c.of_rows-form.ensures
    (c.deref.ensures.value ∙ c.in_ok-header.ensures) c.in_err-write_all.ensures.prefix
