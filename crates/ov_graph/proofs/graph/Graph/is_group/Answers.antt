-- One or more ascending ids are a group where all are nodes.
use Rattle.std.proofs.Common.{◌∙◌, List, ℕ, ap, rules}
use Rattle.std.specs.List.{list_all}
use Rattle.ov_ids.specs.Sets.{has}
use Rattle.ov_graph.proofs.GraphValues.Grouped.{group_tested}
use Rattle.ov_graph.proofs.graph.Graph.is_group.Goals as goal

pub returns : goal.returns
returns c =
    let q = c.args.group.now in
    let e = c.are_nodes.ensures ∙ ap (λ (ns : List ℕ). list_all (has ns) q) c.nodes.ensures.nodes in
    group_tested c.args.self.now q c.are_nodes.result (search rules) (search rules) e
