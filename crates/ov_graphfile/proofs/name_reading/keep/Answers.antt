-- The name is written to the place of the node, or the id is no node.
use Rattle.std.proofs.Common.{◌∙◌, List, ℕ, Option, Some, map, sym, subst}
use Rattle.std.specs.Option.{option_copied}
use Rattle.std.proofs.lemmas.List.{map-set, length-map}
use Rattle.ov_graphfile.specs.Code.Table.{Keeps}
use Rattle.ov_graphfile.proofs.Tables.{keeps_put, keeps_none}
use Rattle.ov_graphfile.proofs.name_reading.keep.Goals as goal

pub returns-in-Some-clause-keeps : goal.returns-in-Some-clause-keeps
returns-in-Some-clause-keeps c =
    let items = c.args.told.now.items in
    let old = map (λ t. option_copied t) items in
    subst (λ (t : List (Option (List ℕ))). Keeps c.args.graph.now c.args.id c.args.name.now old t)
    (sym (map-set (λ t. option_copied t) items c.in-Some.place (Some c.args.name)))
    (keeps_put c.args.graph.now c.args.id c.args.name.now old c.in-Some.place c.place.ensures.graph
    c.in-Some.ensures.some.0 c.in-Some.ensures.some.1 (length-map items (λ t. option_copied t) ∙ c.requires))

pub returns-in_default-clause-keeps : goal.returns-in_default-clause-keeps
returns-in_default-clause-keeps c =
    keeps_none c.args.graph.now c.args.id c.args.name.now (map (λ t. option_copied t) c.args.told.now.items)
    c.in_default.ensures.none
