-- The id of a node.
use Rattle.std.proofs.Common.{◌<◌, subst, length}
use Rattle.std.proofs.lemmas.Bool.{both_ways}
use Rattle.ov_graph.specs.Links.{LinkGraph}
use Rattle.ov_graphfile.proofs.Meanings.{spelled}
use Rattle.ov_graphfile.proofs.group_from_names_or_ids.owner_spelled.Goals as goal

pub returns-in-Some-place : goal.returns-in-Some-place
returns-in-Some-place c =
    let place = c.in-Some-place.place in
    let at = c.in-Some-place.ensures.some in (
      subst (λ (h : LinkGraph). place < length h.nodes) c.graph.ensures at.0,
      spelled c.args.names.now c.args.part.now c.graph.result.now place c.in-Some.id
          (λ h. both_ways c.args.numerals c.if-numerals.false (c.requires.numerals.1 h)) c.requires.unnamed
          c.in-Some.ensures c.graph.ensures at.0 at.1,
    )
