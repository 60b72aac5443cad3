use Rattle.ov_graph.proofs.BitRows.Marked.{mark_row}
use Rattle.ov_graph.proofs.bit_rows_from_links.mark.Goals as goal

pub returns : goal.returns
returns c = mark_row c.args.rows.now c.args.p c.args.q c.put.new.row c.requires.row c.put.ensures
