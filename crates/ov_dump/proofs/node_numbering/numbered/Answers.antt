-- The names are numbered, and the map has the node of each.
use Rattle.std.proofs.Common.{◌≡◌, ◌∙◌, List, ℕ, ap, arith, length, map, subst}
use Rattle.ov_graph.specs.Links.{most_of_any_graph}
use Rattle.ov_dump.specs.Code.Numbering.{AreByName, AreNodesAt}
use Rattle.ov_dump.proofs.Numbered.{numbered_differ}
use Rattle.ov_dump.proofs.Numberings.{few_names, known, name_at, numbered_by}
use Rattle.ov_dump.proofs.node_numbering.numbered.Goals as goal

pub returns-clause-numbered : goal.returns-clause-numbered
returns-clause-numbered c =
    let sorted = c.args.sorted.now in
    let order = c.in_ok-order.order.items in
    let names = c.in_ok-names.names.items in
    let by = c.in_ok-order.ensures in
    let few = c.requires.few in
    let is : names ≡ map (name_at sorted) order =
    c.in_ok-names.ensures ∙ ap (λ (ps : List ℕ). map (name_at sorted) ps) c.deref-2.ensures.value in
    numbered_by sorted names order few by is

pub returns-clause-few : goal.returns-clause-few
returns-clause-few c =
    let sorted = c.args.sorted.now in
    let order = c.in_ok-order.order.items in
    let names = c.in_ok-names.names.items in
    let by = c.in_ok-order.ensures in
    let is : names ≡ map (name_at sorted) order =
    c.in_ok-names.ensures ∙ ap (λ (ps : List ℕ). map (name_at sorted) ps) c.deref-2.ensures.value in
    few_names sorted names order most_of_any_graph by is

pub returns-clause-known : goal.returns-clause-known
returns-clause-known c =
    let sorted = c.args.sorted.now in
    let order = c.in_ok-order.order.items in
    let names = c.in_ok-names.names.items in
    let by = c.in_ok-order.ensures in
    let few = c.requires.few in
    let is : names ≡ map (name_at sorted) order =
    c.in_ok-names.ensures ∙ ap (λ (ps : List ℕ). map (name_at sorted) ps) c.deref-2.ensures.value in
    let ids = c.in_ok-ids.ids.items in
    let at : AreNodesAt (length sorted) order ids =
    subst (λ ps. AreNodesAt (length sorted) ps ids) c.deref.ensures.value c.in_ok-ids.ensures in
    let nodes : AreByName sorted ids (length sorted) c.in_ok-nodes.nodes =
    subst (λ is. AreByName sorted is
    (length sorted) c.in_ok-nodes.nodes) c.deref-3.ensures.value c.in_ok-nodes.ensures in
    let less = few_names sorted names order most_of_any_graph by is in record {
      differ = numbered_differ sorted names c.requires.ascend (numbered_by sorted names order few by is);
      few = omega (arith, few, less);
      nodes = known sorted names order ids c.in_ok-nodes.nodes few by at is nodes;
    }
