-- The marked nodes are the group that the parts name.
use Rattle.std.proofs.Common.{◌≡◌, ◌∙◌, ℕ, List, map, length, sym, ap, subst}
use Rattle.std.proofs.lemmas.List.{length-map}
use Rattle.ov_graph.specs.Links.{LinkGraph, IsGraph}
use Rattle.ov_graph.specs.Row.{picked}
use Rattle.ov_graphfile.specs.Groups.{parts_of, IsGroupNamed}
use Rattle.ov_graphfile.proofs.Meanings.{all_marked}
use Rattle.ov_graphfile.proofs.group_from_names_or_ids.ids_of_group.Goals as goal

pub returns-clause-group : goal.returns-clause-group
returns-clause-group c =
    let names = c.args.names.now in
    let row = c.in_ok-members.members in
    let ids = c.in_ok-marked_nodes.field-0.items in
    let lent = map (λ part. part.now) c.deref.result.now in
    let parts : lent ≡ parts_of c.args.text.now =
    ap (λ xs. map (λ part. part.now) xs) c.deref.ensures.value ∙ c.in_ok-parts.ensures in
    let picks : ids ≡ picked row 0 names.graph.nodes =
    c.in_ok-marked_nodes.ensures.ids ∙ ap (λ (h : LinkGraph). picked row 0 h.nodes) c.graph.ensures in
    let graph = subst IsGraph c.graph.ensures c.marked_nodes.ensures.graph in
    subst (λ (ps : List (List ℕ)). IsGroupNamed names ps ids) parts
    (subst (IsGroupNamed names lent) (sym picks)
    (all_marked names lent row (length c.deref.result.now) graph c.in_ok-members.ensures.marked
    (length-map c.deref.result.now (λ part. part.now))))
