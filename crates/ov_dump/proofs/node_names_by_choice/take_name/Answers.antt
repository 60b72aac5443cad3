-- The name is one too many.
use Rattle.std.proofs.Common.{◌≤◌, length, rules}
use Rattle.std.proofs.lemmas.Bool.{both_ways}
use Rattle.ov_graph.specs.Links.{most_of}
use Rattle.ov_dump.proofs.Takings.{runs_here}
use Rattle.ov_dump.proofs.node_names_by_choice.take_name.Goals as goal

pub returns-then-len-most-clause-fault : goal.returns-then-len-most-clause-fault
returns-then-len-most-clause-fault c =
    let names = c.args.names.now in
    let most = most_of c.args.limit in
    let many : most ≤ length names = search rules in
    runs_here most names c.args.at c.most-most.result c.args.name.now c.in_ok-name.name c.most-most.ensures
    c.in_ok-name.ensures c.len.ensures.ordered c.requires.few many (λ h. both_ways _ c.if-contains.false
    (c.contains.ensures.1 h))
