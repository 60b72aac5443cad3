use Rattle.std.proofs.lemmas.Slice.Eq.{slice_eq-Decides}
use Rattle.ov_graph.proofs.PlaceLists.Reading.{pair_decides}
use Rattle.ov_graph.proofs.id_and_row_equality.have_same_links.Goals as goal

pub returns : goal.returns
returns c = slice_eq-Decides pair_decides _ _ _ c.eq.ensures
