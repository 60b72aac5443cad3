-- The name of one node, of two, or of none.
use Rattle.std.proofs.Common.{◌∙◌, Some, length, sym, ap, subst}
use Rattle.ov_graphfile.specs.Code.Bearers.{IsBearerOf}
use Rattle.ov_graphfile.proofs.Meanings.{one_named, two_named}
use Rattle.ov_graphfile.proofs.group_from_names_or_ids.owner_of.Goals as goal

pub owner_spelled-requires-clause-unnamed : goal.owner_spelled-requires-clause-unnamed
owner_spelled-requires-clause-unnamed c =
    let names = c.args.names.now in
    subst (IsBearerOf names.told (length names.graph.nodes) c.args.part.now) (sym c.bearer.ensures ∙ c.in-None.is)
    (c.requires.named c.args.part.now)

pub returns-in-Some-One : goal.returns-in-Some-One
returns-in-Some-One c =
    let names = c.args.names.now in
    let is = sym c.bearer.ensures ∙ c.in-Some-One.is ∙ ap Some c.in-Some-One.field-0-is in
    let bearer = subst (IsBearerOf names.told (length names.graph.nodes) c.args.part.now) is
    (c.requires.named c.args.part.now) in
    (bearer.0, one_named names c.args.part.now c.in-Some-One.place bearer)

pub returns-in-Some-Several : goal.returns-in-Some-Several
returns-in-Some-Several c =
    let names = c.args.names.now in
    let is = sym c.bearer.ensures ∙ c.in-Some-Several.is ∙ ap Some c.in-Some-Several.field-0-is in
    two_named names c.args.part.now c.requires.graph
    (subst (IsBearerOf names.told (length names.graph.nodes) c.args.part.now) is (c.requires.named c.args.part.now))
