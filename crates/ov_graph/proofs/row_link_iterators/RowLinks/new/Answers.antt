use Rattle.ov_graph.proofs.BitRows.Read.{all_links}
use Rattle.ov_graph.proofs.row_link_iterators.RowLinks.new.Goals as goal

pub returns : goal.returns
returns c = all_links c.args.nodes.now c.args.rows.now c.requires.each
