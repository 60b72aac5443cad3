-- with the lines of the links that are left, the text is whole
use Rattle.std.proofs.Common.{◌≡◌, ◌++◌}
use Rattle.std.specs.List.{flat_map}
use Rattle.ov_graphfile.specs.GraphTexts.{link_line}
use Rattle.ov_graphfile.proofs.text_writing.write_links.Given as goal

abbrev pub invariant-loop-from : goal.invariant-loop-from
invariant-loop-from l =
    l.text.items ++ flat_map link_line l.from-iterator ≡ l.fn.text.items ++ flat_map link_line l.graph.links
