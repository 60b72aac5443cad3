use Rattle.ov_graph.proofs.BitRows.Marked.{unmark_row}
use Rattle.ov_graph.proofs.bit_rows_from_links.unmark.Goals as goal

pub returns : goal.returns
returns c = unmark_row c.args.rows.now c.args.p c.args.q c.clear.new.row c.requires.row c.clear.ensures
