-- Binary search finds an id exactly if it is there.
use Rattle.std.proofs.Common.{◌∙◌}
use Rattle.std.proofs.lemmas.List.Sorted.{searched}
use Rattle.ov_answers.proofs.Left.{among_tested}
use Rattle.ov_answers.proofs.graph_without_nodes.is_among.Goals as goal

pub returns : goal.returns
returns c =
    let ids = c.args.ids.now in
    c.is_ok.ensures.value
    ∙ among_tested ids c.args.id c.binary_search.result
    (searched ids c.args.id c.binary_search.result c.binary_search.ensures.position
    (λ i j le below. c.requires i j 0 le below))
